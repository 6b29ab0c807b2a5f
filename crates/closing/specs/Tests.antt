-- Tests on the computed closure, each true exactly when what it stands for holds of the least pair.
use Rattle.std.specs.Prelude.{ℕ, true, ◌↔◌, ◌≡◌}
use Rattle.roles.specs.Sets.{shares_role}
use Rattle.roles.specs.MemberLaws.{shares_share, share_shares}
use Rattle.model.specs.declared.Typing.{Typing as Table}
use Rattle.model.specs.Typing.{Held, Absent, Clash}
use Rattle.model.specs.Meaning.{meaning}
use Rattle.sheets.specs.Turned.{turned_of}
use Rattle.closing.specs.declared.Pair.{Pair}
use Rattle.closing.specs.Rounds.{close_of}
use Rattle.closing.specs.Clauses.{SizedPair, Fits}
use Rattle.closing.specs.Least.{close_sized, close_held, close_absent}

module _ {t : Table} {roles : ℕ} (fits : Fits t roles) {p : Pair} (sized : SizedPair p) where
  -- some role is both held and absent
  pub clash_test : shares_role (close_of (turned_of t roles) p).held (close_of (turned_of t roles) p).absent ≡ true ↔ Clash (Held (meaning t) p.held) (Absent (meaning t) p.held p.absent)
  clash_test = (λ test. told test, λ clash. tests clash)
    where
      told : shares_role (close_of (turned_of t roles) p).held (close_of (turned_of t roles) p).absent ≡ true → Clash (Held (meaning t) p.held) (Absent (meaning t) p.held p.absent)
      told test =
          let shared = shares_share (close_sized fits sized).held test in
          record {
            role = shared.role;
            is_held = (close_held fits sized shared.role).0 shared.first;
            is_absent = (close_absent fits sized shared.role).0 shared.second;
          }

      tests : Clash (Held (meaning t) p.held) (Absent (meaning t) p.held p.absent) → shares_role (close_of (turned_of t roles) p).held (close_of (turned_of t roles) p).absent ≡ true
      tests clash =
          share_shares (close_of (turned_of t roles) p).held (close_of (turned_of t roles) p).absent
          (record { role = clash.role; first = (close_held fits sized clash.role).1 clash.is_held; second = (close_absent fits sized clash.role).1 clash.is_absent })

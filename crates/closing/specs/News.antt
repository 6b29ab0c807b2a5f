-- The note of what is new in a pair: its new roles bring what a whole round brings, and a round changes nothing exactly when nothing is
-- new after it.
use Rattle.std.specs.Prelude.{◌&&◌, ◌≡◌, refl}
use Rattle.std.proofs.Common.{sym, ap, ap₂, ◌∙◌}
use Rattle.roles.specs.declared.RoleSet.{RoleSet}
use Rattle.roles.specs.Sets.{union_of, apart_of}
use Rattle.roles.specs.MemberLaws.{union_assoc, union_self}
use Rattle.sheets.specs.Turned.{sets_of, Turned}
use Rattle.closing.specs.declared.Pair.{Pair}
use Rattle.closing.specs.Rounds.{round_of, same_pair}
use Rattle.closing.specs.Fresh.{fresh_round, no_pair, Passed, union_swap, passed_start, fresh_round_lem, passed_round}
use Rattle.closing.specs.Apart.{apart_empty, same_grown}

-- The roles of a pair that are not in an earlier one.
unfoldable pub new_in : Pair → Pair → Pair
new_in before pair = record { held = apart_of pair.held before.held; absent = apart_of pair.absent before.absent }

-- The new roles of a pair are those that are not in some earlier one whose roles were gone through.
pub record Noted (said : Turned) (pair news : Pair) : Type 0 where
  pub before : Pair
  pub passed : Passed said before pair
  pub is_new_lem : news ≡ new_in before pair

-- before the first round all is new
pub noted_start : (said : Turned) (pair : Pair) → Noted said pair pair
unfolding new_in no_pair
noted_start said pair = record {
  before = no_pair;
  passed = passed_start said pair;
  is_new_lem = λ i. record { held = sym (apart_empty pair.held) i; absent = sym (apart_empty pair.absent) i };
}

-- after a round what it added is new
pub noted_round : (said : Turned) (pair : Pair) → Noted said (round_of said pair) (new_in pair (round_of said pair))
noted_round said pair = record { before = pair; passed = passed_round said pair; is_new_lem = refl }

-- a round joins to the pair what its new roles bring
pub news_round : {said : Turned} {pair news : Pair} → Noted said pair news
    → record { held = union_of pair.held (sets_of said.plus news.held); absent = union_of (union_of pair.absent (sets_of said.needed news.absent)) (sets_of said.minus news.held) }
    ≡ round_of said pair
unfolding new_in fresh_round
news_round {said} {pair} noted =
    let new = new_in noted.before pair in
    let held = union_of pair.held (sets_of said.plus new.held) in
    let absent = union_swap pair.absent (sets_of said.needed new.absent) (sets_of said.minus new.held) in
    rw noted.is_new_lem ((λ i. record { held = held; absent = absent i }) ∙ fresh_round_lem said noted.before pair noted.passed)

-- nothing is new after a round exactly when it changed nothing
pub nothing_new : (said : Turned) (pair : Pair) → same_pair (new_in pair (round_of said pair)) no_pair ≡ same_pair pair (round_of said pair)
unfolding same_pair new_in no_pair round_of
nothing_new said pair =
    let absent = sym (union_assoc pair.absent _ _) ∙ ap (λ (s : RoleSet). union_of s (sets_of said.needed pair.absent)) (again pair.absent (sets_of said.minus pair.held)) in
    ap₂ ◌&&◌ (same_grown pair.held _ (again pair.held (sets_of said.plus pair.held))) (same_grown pair.absent _ absent)
  where
    again : (s t : RoleSet) → union_of s (union_of s t) ≡ union_of s t
    again s t = sym (union_assoc s s t) ∙ ap (λ (u : RoleSet). union_of u t) (union_self s)

-- Where the rounds of `close` have come to: what a round brings, what is new after it, and whether that is nothing.
use Rattle.std.proofs.Common.{ℕ, suc, ◌+◌, ◌-◌, ◌≤◌, ◌<◌, ◌≡◌, sym, ap, ap₂, ◌∙◌, true, false, ◌&&◌, Bool, arith}
use Rattle.roles.specs.declared.RoleSet.{RoleSet}
use Rattle.roles.specs.Sets.{empty_set, union_of, apart_of, same_set}
use Rattle.sheets.specs.Turned.{sets_of, Turned}
use Rattle.closing.specs.declared.Pair.{Pair}
use Rattle.closing.specs.Rounds.{round_of, same_pair, rounds_of, close_of}
use Rattle.closing.specs.Steps.{rounds_stop, rounds_go_on}
use Rattle.closing.specs.Fresh.{no_pair}
use Rattle.closing.specs.News.{new_in, Noted, noted_round, news_round, nothing_new}
use Rattle.closing.specs.Growth.{same_pair_lem}

-- a number below 256 of rounds taken leaves at least one
left_over : (most : ℕ) → most < 256 → 256 - most ≡ suc (256 - (most + 1))
left_over most below = omega arith

-- After so many rounds.
pub record Reached (said : Turned) (pair now news : Pair) (changes : ℕ) : Type 0 where
  pub most : changes ≤ 256
  pub noted : Noted said now news
  pub left : close_of said pair ≡ rounds_of (256 - changes) said now

-- what is new after one more round says of the closure
module _ (said : Turned) {pair now news : Pair} {changes : ℕ} (so_far : Reached said pair now news changes) (below : changes < 256) where
  pub stops : same_pair (new_in now (round_of said now)) no_pair ≡ true → round_of said now ≡ close_of said pair
  stops e =
      let rests : same_pair now (round_of said now) ≡ true = sym (nothing_new said now) ∙ e in
      sym (so_far.left ∙ rw (left_over changes below) (rounds_stop (256 - (changes + 1)) said now rests) ∙ same_pair_lem now (round_of said now) rests)

  pub goes_on : same_pair (new_in now (round_of said now)) no_pair ≡ false → Reached said pair (round_of said now) (new_in now (round_of said now)) (changes + 1)
  goes_on e = record {
    most = omega arith;
    noted = noted_round said now;
    left = so_far.left ∙ rw (left_over changes below) (rounds_go_on (256 - (changes + 1)) said now (sym (nothing_new said now) ∙ e));
  }

-- The sets of one round, each as those before it give it.
pub record Taken (said : Turned) (now news : Pair) (needing barred joined absent brought held : RoleSet) : Type 0 where
  pub needing_is : needing ≡ sets_of said.needed news.absent
  pub barred_is : barred ≡ sets_of said.minus news.held
  pub joined_is : joined ≡ union_of now.absent needing
  pub absent_is : absent ≡ union_of joined barred
  pub brought_is : brought ≡ sets_of said.plus news.held
  pub held_is : held ≡ union_of now.held brought

module _ {said : Turned} {now news : Pair} (noted : Noted said now news) {needing barred joined absent brought held : RoleSet}
    (taken : Taken said now news needing barred joined absent brought held) where
  -- the pair after the round
  pub next_here : record { held = held; absent = absent } ≡ round_of said now
  next_here =
      let helds = taken.held_is ∙ ap (union_of now.held) taken.brought_is in
      let absents = taken.absent_is ∙ ap₂ union_of (taken.joined_is ∙ ap (union_of now.absent) taken.needing_is) taken.barred_is in
      (λ i. record { held = helds i; absent = absents i }) ∙ news_round noted

  module _ {new_held new_absent : RoleSet} (held_new : new_held ≡ apart_of held now.held) (absent_new : new_absent ≡ apart_of absent now.absent) where
    -- what is new in it
    pub news_here : record { held = new_held; absent = new_absent } ≡ new_in now (round_of said now)
    unfolding new_in
    news_here =
        let helds = held_new ∙ ap (λ (p : Pair). apart_of p.held now.held) next_here in
        let absents = absent_new ∙ ap (λ (p : Pair). apart_of p.absent now.absent) next_here in
        λ i. record { held = helds i; absent = absents i }

    -- whether that is nothing
    pub test_here : {none_held none_absent : RoleSet} {nothing : Bool} → none_held ≡ empty_set → none_absent ≡ empty_set
        → nothing ≡ (same_set new_held none_held && same_set new_absent none_absent) → nothing ≡ same_pair (new_in now (round_of said now)) no_pair
    unfolding same_pair no_pair
    test_here none_held none_absent tested =
        tested ∙ ap₂ ◌&&◌ (ap₂ same_set (ap (λ (p : Pair). p.held) news_here) none_held) (ap₂ same_set (ap (λ (p : Pair). p.absent) news_here) none_absent)

-- How the rounds go: a pair that stays the same is the last, and any other goes on.
use Rattle.std.specs.Prelude.{ℕ, suc, true, false, ◌≡◌}
use Rattle.sheets.specs.Turned.{Turned}
use Rattle.closing.specs.declared.Pair.{Pair}
use Rattle.closing.specs.Rounds.{round_of, same_pair, rounds_of, changes_of}

module _ (most : ℕ) (said : Turned) (pair : Pair) where
  -- a round that changes nothing is the last
  pub rounds_stop : same_pair pair (round_of said pair) ≡ true → rounds_of (suc most) said pair ≡ pair
  unfolding rounds_of
  rounds_stop same = rw same

  -- a round that changes something is followed by the others
  pub rounds_go_on : same_pair pair (round_of said pair) ≡ false → rounds_of (suc most) said pair ≡ rounds_of most said (round_of said pair)
  unfolding rounds_of
  rounds_go_on other = rw other

  pub changes_stop : same_pair pair (round_of said pair) ≡ true → changes_of (suc most) said pair ≡ 0
  unfolding changes_of
  changes_stop same = rw same

  pub changes_go_on : same_pair pair (round_of said pair) ≡ false → changes_of (suc most) said pair ≡ suc (changes_of most said (round_of said pair))
  unfolding changes_of
  changes_go_on other = rw other

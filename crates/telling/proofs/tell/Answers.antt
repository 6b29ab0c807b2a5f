-- `tell` copies the values into the part of the array that is as long.
use Rattle.std.proofs.Common.{ℕ, List, ◌++◌, drop, length, ap, refl}
use Rattle.writing.specs.Written.{put}
use Rattle.telling.proofs.tell.Goals as goal

pub returns : goal.returns
unfolding put
returns c = record { says = refl; held = ap (λ (l : List ℕ). l ++ drop (length c.args.values.now) c.args.array.now) c.copy_from_slice.ensures.after }

-- `write_bytes` puts the bytes into the part of the buffer that is as long.
use Rattle.std.proofs.Common.{ℕ, List, ◌++◌, drop, length, ap, refl}
use Rattle.writing.specs.Written.{put}
use Rattle.writing.proofs.pieces.write_bytes.Goals as goal

pub returns : goal.returns
unfolding put
returns c = (refl, ap (λ (l : List ℕ). l ++ drop (length c.args.part.now) c.args.out.now) c.copy_from_slice.ensures.after)

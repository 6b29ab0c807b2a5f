-- The place of the first byte that is sought.
use Rattle.std.specs.Prelude.{ℕ, suc, Bool, true, false, List, [], ◌∷◌, eqb}

-- the place after a byte: the byte's own where it is the one sought, and else one more than among the bytes behind it
unfoldable pub index_after : Bool → ℕ → ℕ
index_after true place = 0
index_after false place = suc place

-- how many bytes stand before the first `mark`; all of them where it does not stand there
unfoldable pub index_of : ℕ → List ℕ → ℕ
index_of mark [] = 0
index_of mark (byte ∷ rest) = index_after (eqb byte mark) (index_of mark rest)

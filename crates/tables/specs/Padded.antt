-- How a list is laid out in an array.
use Rattle.std.specs.Prelude.{ℕ, ◌-◌, List, ◌++◌, length, replicate}

-- its elements, then the same filling to the end
unfoldable pub padded {ℓ} : {A : Type ℓ} → ℕ → A → List A → List A
padded size filling elements = elements ++ replicate (size - length elements) filling

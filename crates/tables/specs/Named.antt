-- How a table of names, each packed and standing once, takes one name more.
use Rattle.std.specs.Prelude.{ℕ, suc, ◌≤◌, ◌<◌, Bool, true, false, cond, List, [], ◌∷◌, ◌++◌, ◌≡◌, refl, length, get_or}
use mathlib.Core.List.Memᴰ.{not-nil}
use Rattle.std.proofs.Common.{sym, ap, ◌∙◌, eq-eqb, length-append, arith}
use Rattle.std.proofs.Math.ListN.{get_or-append}
use Rattle.std.proofs.Math.Seq.{get_or-append_seam}
use Rattle.std.proofs.Math.Decide.{dec_lt}
use Rattle.text.specs.Lists.{each_more}
use Rattle.tables.specs.declared.Name.{Name}
use Rattle.tables.specs.Names.{same_name, place_of}
pub use Rattle.tables.specs.NamedRules.{Spelt, Named}

-- ---- one name more

-- a name that stands among some stands at the same place among more
place_old : (names more : List Name) (name : Name) → place_of names name < length names → place_of (names ++ more) name ≡ place_of names name
unfolding place_of
place_old [] more name here = absurd (omega arith)
place_old (first ∷ names) more name here = go (same_name first name) (place_old names more name) here
  where
    go : (b : Bool) → (place_of names name < length names → place_of (names ++ more) name ≡ place_of names name) → cond b 0 (suc (place_of names name)) < suc (length names)
        → cond b 0 (suc (place_of (names ++ more) name)) ≡ cond b 0 (suc (place_of names name))
    go true below here = refl
    go false below here = ap suc (below (omega arith))

-- one that stands nowhere among them stands at the end, where it is put
place_new : (names : List Name) (name : Name) → length names ≤ place_of names name → place_of (names ++ (name ∷ [])) name ≡ length names
unfolding place_of same_name
place_new [] name new = rw (eq-eqb name.first name.first refl, eq-eqb name.second name.second refl, eq-eqb name.third name.third refl, eq-eqb name.fourth name.fourth refl)
place_new (first ∷ names) name new = go (same_name first name) (place_new names name) new
  where
    go : (b : Bool) → (length names ≤ place_of names name → place_of (names ++ (name ∷ [])) name ≡ length names) → suc (length names) ≤ cond b 0 (suc (place_of names name))
        → cond b 0 (suc (place_of (names ++ (name ∷ [])) name)) ≡ suc (length names)
    go true below new = absurd (omega arith)
    go false below new = ap suc (below (omega arith))

-- so a new name may be added
pub named_more : {names : List Name} {name : Name} → Named names → Spelt name → length names ≤ place_of names name → Named (names ++ (name ∷ []))
named_more {names} {name} named new last = record { spelt = each_more Spelt names named.spelt new; single = λ past place here. go past place here (dec_lt place (length names)) }
  where
    go : (past : Name) (place : ℕ) → place < length (names ++ (name ∷ [])) → Dec (place < length names) → place_of (names ++ (name ∷ [])) (get_or (names ++ (name ∷ [])) place past) ≡ place
    go past place here (yes old) =
        let own = named.single past place old in
        ap (place_of (names ++ (name ∷ []))) (get_or-append names (name ∷ []) past place old)
        ∙ place_old names (name ∷ []) (get_or names place past) (omega (arith, own, old)) ∙ own
    go past place here (no past_all) =
        let at : place ≡ length names = omega (arith, length-append names (name ∷ [])) in
        ap (λ (k : ℕ). place_of (names ++ (name ∷ [])) (get_or (names ++ (name ∷ [])) k past)) at
        ∙ ap (place_of (names ++ (name ∷ []))) (get_or-append_seam names name [] past) ∙ place_new names name last ∙ sym at

-- no names
pub named_none : Named []
named_none = record { spelt = λ name listed. absurd (not-nil listed); single = λ past place here. absurd (omega arith) }

-- The refusal of two texts and the bad line: the laws of their definitions.
use Prim.Native.Nat.{ℕ, zero, suc, ◌+◌, ◌-◌, ◌≤◌, ◌<◌, zero-le}
use Rattle.std.specs.Prelude.{Bool, true, false, Option, Some, None, Result, Ok, Err, List, [], ◌∷◌, ◌≡◌, refl, ltb, eqb, length, drop}
use Rattle.std.specs.Result.{result_err}
use Rattle.std.proofs.Math.Bool.{cond, or-true}
use Rattle.std.proofs.Common.{true≢false, ◌∙◌, length-drop}
use Rattle.std.proofs.Math.Path.{sym, ap, subst, subst⁻¹}
use borrow.Author.Tests.{lt-ltb, le-ltb, ltb-true, ltb-false, lt-leb, le-leb, eq-eqb, ne_eqb}
use Rattle.std.proofs.Math.Dec.{leb}
use native.Mathlib.Omega.{arith}
use Rattle.text.specs.Index.{index_of, index_after}
use Rattle.tables.specs.declared.Name.{Name}
use Rattle.text.specs.Pieces.{part, Sought}
use Rattle.walking.specs.Texts.{Reading, read, refused}
use Rattle.tables.specs.Names.{rows}
use Rattle.lines.specs.declared.Counts.{Counts}
use Rattle.ledgers.specs.Ledger.{ledger_words}
use Rattle.ledgers.specs.Memory.{no_memory}
use Rattle.ledgers.specs.MemoryLaws.{memory_short, memory_enough}
use Rattle.reading.specs.Policy.{Said, read_policy}
use Rattle.reading.specs.Told.{Told, roles-told}
use Rattle.model.specs.declared.Typing.{Typing as Table}
use Rattle.typings.specs.TypingTold.{typing_told_lem, typing_untold}
use Rattle.walking.specs.declared.Refusal.{Refusal}
use Rattle.places.specs.declared.Span.{Span}
use Rattle.places.specs.declared.BadPlace.{BadPlace}
use Rattle.typings.specs.TypingText.{read_typing, typing_read}
use Rattle.traces.specs.TraceText.{read_trace}
use Rattle.places.specs.Place.{told, refusal_after, refusal_as, typing_refusal_of, span_of, no_line, bad_span, no_place, placed, place_of, bytes_at, begins_at, lent_refusal}

module _ (typing : Bool) (policy evidence : List ℕ) where
  -- a policy that is refused decides, and one that is read leaves it to the evidence
  pub after_refused : {number line : ℕ} → read_policy policy ≡ refused number line → Some (record { number = number; line = line }) ≡ refusal_as typing policy evidence
  unfolding refusal_as refusal_after
  after_refused is = sym (ap (λ (r : Reading Said). refusal_after r typing evidence) is)

  pub after_read : {s : Said} → read_policy policy ≡ read s
      → cond typing (told (read_typing s.roles evidence)) (told (read_trace (length s.assigns) (length s.revokes) s.users evidence)) ≡ refusal_as typing policy evidence
  unfolding refusal_as refusal_after
  after_read is = sym (ap (λ (r : Reading Said). refusal_after r typing evidence) is)

-- the refusal of a text where a typing is wanted
pub typing_refused : (policy typing : List ℕ) {s : Said} {number line : ℕ} → read_policy policy ≡ read s → read_typing s.roles typing ≡ refused number line → typing_refusal_of policy typing ≡ Some (record { number = number; line = line })
unfolding told
typing_refused policy typing reads is = sym (after_read true policy typing reads) ∙ ap told is

-- as its reader has it, over a policy that is read: the typing's refusal, or none
module _ {policy : List ℕ} {c : Counts} {words : List ℕ} (t : Told policy c words) (typing : List ℕ) where
  pub over_told : {T : Result Table Refusal} → T ≡ typing_read (rows c.roles words) typing → result_err T ≡ typing_refusal_of policy typing
  unfolding told
  over_told {T = Ok table} given =
      let here = typing_told_lem (rows c.roles words) typing given in
      sym (ap told (sym (ap (λ (names : List Name). read_typing names typing) (roles-told t)) ∙ here.is)) ∙ after_read true policy typing t.is
  over_told {T = Err refusal} given =
      sym (ap told (sym (ap (λ (names : List Name). read_typing names typing) (roles-told t)) ∙ typing_untold (rows c.roles words) typing given)) ∙ after_read true policy typing t.is

-- ---- going from line to line

module _ (text : List ℕ) (at left : ℕ) where
  span_more : 0 < left → span_of text at left ≡ cond (ltb (at + index_of 10 (drop at text)) (length text)) (span_of text (at + index_of 10 (drop at text) + 1) (left - 1)) None
  unfolding span_of
  span_more more =
      let one : left ≡ suc (left - 1) = omega arith in
      ap (span_of text at) one

  pub span_skip : {stop : ℕ} → 0 < left → Sought text at 10 stop → stop < length text → span_of text at left ≡ span_of text (stop + 1) (left - 1)
  span_skip {stop} more sought here =
      span_more more
      ∙ ap (λ (k : ℕ). cond (ltb k (length text)) (span_of text (k + 1) (left - 1)) None) (sym sought.first)
      ∙ ap (λ (b : Bool). cond b (span_of text (stop + 1) (left - 1)) None) (lt-ltb stop (length text) here)

  pub span_none : {stop : ℕ} → 0 < left → Sought text at 10 stop → stop ≡ length text → span_of text at left ≡ None
  span_none {stop} more sought end =
      span_more more
      ∙ ap (λ (k : ℕ). cond (ltb k (length text)) (span_of text (k + 1) (left - 1)) None) (sym sought.first)
      ∙ ap (λ (b : Bool). cond b (span_of text (stop + 1) (left - 1)) None) (le-ltb stop (length text) (omega arith))

  pub span_here : {stop : ℕ} → left ≡ 0 → at < length text → Sought text at 10 stop → Some (record { from = at; to = stop }) ≡ span_of text at left
  unfolding span_of
  span_here {stop} last inside sought =
      (λ i. Some (record { from = at; to = sought.first i }))
      ∙ sym (ap (span_of text at) last ∙ ap (λ (b : Bool). cond b (Some (record { from = at; to = at + index_of 10 (drop at text) })) None) (lt-ltb at (length text) inside))

  pub span_past : left ≡ 0 → length text ≤ at → None ≡ span_of text at left
  unfolding span_of
  span_past last outside =
      sym (ap (span_of text at) last ∙ ap (λ (b : Bool). cond b (Some (record { from = at; to = at + index_of 10 (drop at text) })) None) (le-ltb at (length text) outside))

-- ---- a line lies in its text

pub record Inside (from to : ℕ) (text : List ℕ) : Type 0 where
  pub ordered : from ≤ to
  pub within : to ≤ length text

-- where there is one
data Within (text : List ℕ) : Option Span → Type 0 where
  nowhere : Within text None
  somewhere : {s : Span} → Inside s.from s.to text → Within text (Some s)

pub index_most : (mark : ℕ) (s : List ℕ) → index_of mark s ≤ length s
unfolding index_of index_after
index_most mark [] = zero-le
index_most mark (byte ∷ s) = go (eqb byte mark) (index_most mark s)
  where
    go : (t : Bool) → index_of mark s ≤ length s → index_after t (index_of mark s) ≤ suc (length s)
    go true below = zero-le
    go false below = omega arith

span_inside : (text : List ℕ) (at skipped : ℕ) → Within text (span_of text at skipped)
unfolding span_of
span_inside text at zero = go (ltb at (length text)) refl
  where
    go : (b : Bool) → ltb at (length text) ≡ b → Within text (cond b (Some (record { from = at; to = at + index_of 10 (drop at text) })) None)
    go true e = somewhere (record { ordered = omega arith; within = omega (arith, ltb-true at (length text) e, index_most 10 (drop at text), length-drop at text) })
    go false e = nowhere
span_inside text at (suc skipped) = go (ltb (at + index_of 10 (drop at text)) (length text)) (span_inside text (at + index_of 10 (drop at text) + 1) skipped)
  where
    go : (b : Bool) → Within text (span_of text (at + index_of 10 (drop at text) + 1) skipped) → Within text (cond b (span_of text (at + index_of 10 (drop at text) + 1) skipped) None)
    go true below = below
    go false below = nowhere

-- ---- the bad line's place

pub line_none : (r : Refusal) → r.line ≡ 0 → no_line r ≡ true
unfolding no_line
line_none r none = rw (eq-eqb r.line 0 none)

pub line_above : (r : Refusal) → 16 < r.number → no_line r ≡ true
unfolding no_line
line_above r above = rw (lt-ltb 16 r.number above, or-true)

pub line_some : (r : Refusal) → (r.line ≡ 0 → ⊥) → r.number ≤ 16 → no_line r ≡ false
unfolding no_line
line_some r some most = rw (ne_eqb r.line 0 some, le-ltb 16 r.number most)

module _ (policy evidence : List ℕ) (r : Refusal) where
  pub bad_none : no_line r ≡ true → None ≡ bad_span policy evidence r
  unfolding bad_span
  bad_none none = rw none

  pub bad_policy : no_line r ≡ false → r.number < 14 → span_of policy 0 (r.line - 1) ≡ bad_span policy evidence r
  unfolding bad_span
  bad_policy some low = rw (some, lt-ltb r.number 14 low)

  pub bad_evidence : no_line r ≡ false → 14 ≤ r.number → span_of evidence 0 (r.line - 1) ≡ bad_span policy evidence r
  unfolding bad_span
  bad_evidence some high = rw (some, le-ltb r.number 14 high)

  -- the place of a refusal
  pub place_told : {s : Option Span} → s ≡ bad_span policy evidence r → placed (leb 14 r.number) s ≡ place_of policy evidence (Some r)
  unfolding place_of
  place_told span = ap (placed (leb 14 r.number)) span

module _ (policy evidence : List ℕ) where
  -- a place inside the text that it is told for
  record Held (p : BadPlace) : Type 0 where
    in_evidence : p.evidence ≡ true → Inside p.from p.to evidence
    in_policy : p.evidence ≡ false → Inside p.from p.to policy

  no_held : Held no_place
  unfolding no_place
  no_held = record { in_evidence = λ there. record { ordered = zero-le; within = zero-le }; in_policy = λ there. record { ordered = zero-le; within = zero-le } }

  placed_held : (b : Bool) {s : Option Span} → Within (cond b evidence policy) s → Held (placed b s)
  unfolding placed
  placed_held b nowhere = no_held
  placed_held true (somewhere here) = record { in_evidence = λ there. here; in_policy = λ there. absurd (true≢false there) }
  placed_held false (somewhere here) = record { in_evidence = λ there. absurd (true≢false (sym there)); in_policy = λ there. here }

  place_held : (q : Option Refusal) → Held (place_of policy evidence q)
  unfolding place_of bad_span
  place_held None = no_held
  place_held (Some r) = go (no_line r) (ltb r.number 14) refl
    where
      go : (b d : Bool) → ltb r.number 14 ≡ d → Held (placed (leb 14 r.number) (cond b None (cond d (span_of policy 0 (r.line - 1)) (span_of evidence 0 (r.line - 1)))))
      go true d e = placed_held (leb 14 r.number) nowhere
      go false true e = rw (lt-leb 14 r.number (ltb-true r.number 14 e)) (placed_held false (span_inside policy 0 (r.line - 1)))
      go false false e = rw (le-leb 14 r.number (ltb-false r.number 14 e)) (placed_held true (span_inside evidence 0 (r.line - 1)))

  module _ (q : Option Refusal) {place : BadPlace} (is : place ≡ place_of policy evidence q) where
    held : Held place
    held = subst⁻¹ Held is (place_held q)

    pub evidence_inside : place.evidence ≡ true → Inside place.from place.to evidence
    evidence_inside = held.in_evidence

    pub policy_inside : place.evidence ≡ false → Inside place.from place.to policy
    policy_inside = held.in_policy

    -- it does not end before it begins
    pub place_ordered : place.from ≤ place.to
    place_ordered = go place.evidence refl
      where
        go : (b : Bool) → place.evidence ≡ b → place.from ≤ place.to
        go true there = (evidence_inside there).ordered
        go false there = (policy_inside there).ordered

-- the part of a text at a place: its bytes, and where it begins
module _ (policy evidence : List ℕ) (P E : ℕ × ℕ) {place p : BadPlace} (is : place ≡ p) where
  pub part_evidence : place.evidence ≡ true → (part evidence place.from place.to ≡ bytes_at policy evidence p) × ((E.0, place.from + E.1) ≡ begins_at P E p)
  unfolding begins_at
  part_evidence there = subst (λ (q : BadPlace). (part evidence place.from place.to ≡ bytes_at policy evidence q) × ((E.0, place.from + E.1) ≡ begins_at P E q)) is (rw there, rw there)

  pub part_policy : place.evidence ≡ false → (part policy place.from place.to ≡ bytes_at policy evidence p) × ((P.0, place.from + P.1) ≡ begins_at P E p)
  unfolding begins_at
  part_policy there = subst (λ (q : BadPlace). (part policy place.from place.to ≡ bytes_at policy evidence q) × ((P.0, place.from + P.1) ≡ begins_at P E q)) is (rw there, rw there)

-- ---- in lent memory

-- in enough words the refusal is that of the texts,
pub lent_enough : (words : ℕ) (r : Option Refusal) → ledger_words ≤ words → lent_refusal words r ≡ r
unfolding lent_refusal
lent_enough words r enough = memory_enough ledger_words words (Some (record { number = no_memory; line = 0 })) r enough

-- and in too few no line is bad: it is nowhere, at the policy's start.
pub lent_nowhere : (policy evidence : List ℕ) (words : ℕ) (r : Option Refusal) → words < ledger_words → place_of policy evidence (lent_refusal words r) ≡ no_place
unfolding lent_refusal place_of placed no_line bad_span
lent_nowhere policy evidence words r few = ap (place_of policy evidence) (memory_short ledger_words words (Some (record { number = no_memory; line = 0 })) r few)

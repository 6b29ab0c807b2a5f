-- The first line decides the kind of evidence: a text that is read as a typing is one by its first line, and one that is read as a trace is none.
use Rattle.std.specs.Prelude.{ℕ, ◌+◌, ◌-◌, Bool, true, false, cond, List, [], ◌∷◌, ◌++◌, ◌≡◌, refl, length, take}
use Rattle.std.proofs.Common.{true≢false, sym, ap, ◌∙◌, eqb-true, ne_eqb, arith}
use Rattle.std.proofs.Math.Seq.{take-append_seam}
use Rattle.text.specs.Index.{index_of, index_after}
use Rattle.tables.specs.declared.Name.{Name}
use Rattle.text.specs.Forms.{bytes}
use Rattle.text.specs.Pieces.{split, same_bytes}
use Rattle.text.specs.PieceLaws.{same_equal}
use Rattle.walking.specs.Texts.{Judged, bad, read}
use Rattle.walking.specs.Turns.{in_turn}
use Rattle.walking.specs.Meaning.{LF, Unbroken, none, more, Above, first, next, ReadAs}
use Rattle.walking.specs.MeaningLaws.{read_exact}
use Rattle.walking.specs.FirstLine.{first_piece}
use Rattle.reading.specs.PolicyExact.{whole_piece}
use Rattle.typings.specs.TypingLines as typing
use Rattle.typings.specs.TypingText.{Typed, untyped, read_typing}
use Rattle.typings.specs.TypingText as typings
use Rattle.traces.specs.TraceText.{Traced, untraced, read_trace}
use Rattle.traces.specs.TraceText as traces
use Rattle.typings.specs.Kind.{is_typing}

-- ---- the first line of a text that is read

module _ {S : Type 0} (judge : S → List ℕ → Judged S) (start : S) (text : List ℕ) where
  -- The text begins with a line that is not refused.
  record Begins : Type 0 where
    line : List ℕ
    rest : List ℕ
    is : text ≡ line ++ (LF ∷ rest)
    unbroken : Unbroken line
    good : (k : ℕ) → judge start line ≡ bad k → ⊥

  -- where a line that is not refused stands below good lines, the first line is it or one of them
  begins_above : {n : ℕ} {s : S} {left : List ℕ} → Above judge start text n s left → (line rest : List ℕ) → left ≡ line ++ (LF ∷ rest) → Unbroken line → ((k : ℕ) → judge s line ≡ bad k → ⊥) → Begins
  begins_above first line rest is u good = record { line = line; rest = rest; is = is; unbroken = u; good = good }
  begins_above (next {line = above-line} {rest = below} above v goes_on) line rest is u good = begins_above above above-line below refl v (λ k bad-is. true≢false (cc))

  begins : {s : S} → ReadAs judge start text s → Begins
  begins r = begins_above r.last.above r.line [] refl r.last.unbroken (λ k bad-is. let is_end = r.is_end in true≢false (cc))

-- where the first LF stands
first-place : {line : List ℕ} (rest : List ℕ) → Unbroken line → index_of LF (line ++ (LF ∷ rest)) ≡ length line
unfolding index_of index_after
first-place rest none = refl
first-place rest (more {byte} {rest = line} other u) = rw (ne_eqb byte LF other, first-place rest u)

-- the kind is that of the first line
kind-first : {text : List ℕ} (line rest : List ℕ) → text ≡ line ++ (LF ∷ rest) → Unbroken line → is_typing text ≡ same_bytes line (bytes "typing\t1")
unfolding is_typing
kind-first line rest is u =
    let whole : index_of LF (line ++ (LF ∷ rest)) - 0 ≡ length line = omega (arith, first-place rest u) in
    ap is_typing is ∙ ap (λ (k : ℕ). same_bytes (take k (line ++ (LF ∷ rest))) (bytes "typing\t1")) whole
    ∙ ap (λ (l : List ℕ). same_bytes l (bytes "typing\t1")) (take-append_seam line (LF ∷ rest))

-- two pieces are the bytes before a separator and those after it
two_pieces : (mark : ℕ) (s : List ℕ) {before after : List ℕ} → split mark s ≡ before ∷ after ∷ [] → s ≡ before ++ (mark ∷ after)
two_pieces mark s {before} cut =
    let (rest, whole, left) = first_piece mark s cut in
    whole ∙ ap (λ (l : List ℕ). before ++ (mark ∷ l)) (whole_piece mark rest left)

-- ---- typings

-- fields that make a good first line are those of the header
typing_fields : (roles : ℕ) (fields : List (List ℕ)) → typing.well_formed 0 roles (typing.line_of fields) ≡ true → fields ≡ bytes "typing" ∷ bytes "1" ∷ []
unfolding typing.line_of typing.one_field typing.two_fields typing.well_formed
typing_fields roles [] formed = absurd (true≢false (sym formed))
typing_fields roles (word ∷ []) formed = absurd (go (same_bytes word (bytes "end")) formed)
  where
    go : (b : Bool) → typing.well_formed 0 roles (cond b typing.end typing.other) ≡ true → ⊥
    go true e = omega (arith, eqb-true 0 (roles + 1) e)
    go false e = true≢false (sym e)
typing_fields roles (word ∷ edition ∷ []) formed = go (same_bytes word (bytes "typing")) refl formed
  where
    go : (b : Bool) → same_bytes word (bytes "typing") ≡ b → typing.well_formed 0 roles (cond b (typing.header edition) typing.other) ≡ true → word ∷ edition ∷ [] ≡ bytes "typing" ∷ bytes "1" ∷ []
    go true is e =
        let word-is = same_equal word (bytes "typing") is in
        let edition-is = same_equal edition (bytes "1") e in
        λ i. word-is i ∷ edition-is i ∷ []
    go false is e = absurd (true≢false (sym e))
typing_fields roles (word ∷ a ∷ b ∷ []) formed = absurd (true≢false (sym formed))
typing_fields roles (word ∷ a ∷ b ∷ c ∷ []) formed = absurd (true≢false (sym formed))
typing_fields roles (word ∷ a ∷ b ∷ c ∷ d ∷ others) formed = absurd (true≢false (sym formed))

-- the first line of a typing is its header
typing_header : (names : List Name) (line : List ℕ) → ((k : ℕ) → typings.judge_line names untyped line ≡ bad k → ⊥) → line ≡ bytes "typing\t1"
unfolding typings.judge_line typings.answered untyped typing.typing_line typing.judged in_turn
typing_header names line good = go (typing.well_formed 0 (length names) (typing.line_of (split 9 line))) refl
  where
    go : (b : Bool) → typing.well_formed 0 (length names) (typing.line_of (split 9 line)) ≡ b → line ≡ bytes "typing\t1"
    go true formed = two_pieces 9 line (typing_fields (length names) (split 9 line) formed)
    go false formed = absurd (good 15 (rw formed))

-- A text that is read as a typing is one by its first line.
pub typing_kind : (names : List Name) (text : List ℕ) {t : Typed} → read_typing names text ≡ read t → is_typing text ≡ true
unfolding read_typing same_bytes
typing_kind names text {t} reads =
    let b = begins (typings.judge_line names) untyped text ((read_exact (typings.judge_line names) 15 14 untyped text t).0 reads) in
    kind-first b.line b.rest b.is b.unbroken ∙ ap (λ (l : List ℕ). same_bytes l (bytes "typing\t1")) (typing_header names b.line b.good)

-- ---- traces

-- the first line of a trace is its header
trace_header : (assigns revokes : ℕ) (users : List Name) (line : List ℕ) → ((k : ℕ) → traces.judge_line assigns revokes (untraced users) line ≡ bad k → ⊥) → line ≡ bytes "trace\t1"
unfolding traces.judge_line traces.header_line untraced
trace_header assigns revokes users line good = go (same_bytes line (bytes "trace\t1")) refl
  where
    go : (b : Bool) → same_bytes line (bytes "trace\t1") ≡ b → line ≡ bytes "trace\t1"
    go true is = same_equal line (bytes "trace\t1") is
    go false is = absurd (good 15 (rw is))

-- A text that is read as a trace is no typing by its first line.
pub trace_kind : (assigns revokes : ℕ) (users : List Name) (text : List ℕ) {t : Traced} → read_trace assigns revokes users text ≡ read t → is_typing text ≡ false
unfolding read_trace same_bytes
trace_kind assigns revokes users text {t} reads =
    let judge = traces.judge_line assigns revokes in
    let b = begins judge (untraced users) text ((read_exact judge 15 14 (untraced users) text t).0 reads) in
    kind-first b.line b.rest b.is b.unbroken ∙ ap (λ (l : List ℕ). same_bytes l (bytes "typing\t1")) (trace_header assigns revokes users b.line b.good)

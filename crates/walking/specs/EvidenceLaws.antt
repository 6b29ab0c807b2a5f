-- A piece of evidence is refused and read exactly so, where a line goes by its tests.
use Rattle.std.specs.Prelude.{ℕ, Bool, true, false, cond, List, [], ◌∷◌, ◌↔◌, ◌≡◌, refl}
use Rattle.std.proofs.Common.{true≢false, inl, inr, sym, subst, ◌∙◌}
use Rattle.walking.specs.Texts.{Judged, goes, ends, bad}
use Rattle.walking.specs.Turns.{test, in_turn, Fails}
use Rattle.walking.specs.TurnLaws.{turn_good, turn_bad, turn_passes, turn_fails, turn_parted}
use Rattle.walking.specs.Meaning.{LineAt, ReadAs, Refusal}
use Rattle.walking.specs.Evidence.{tests, tests_within, EndLine, EvidenceRefusal, too_long, malformed, misnamed, above_limit, no_end, after_end, EvidenceReadAs}

-- A line that no limit holds for goes by the first two tests.
pub within_all : {A : Type 0} (refuse : ℕ → A) (formed known : Bool) (good : A) → in_turn refuse (tests formed known) good ≡ in_turn refuse (tests_within formed known true) good
unfolding in_turn
within_all refuse formed known good = sym (turn_parted refuse (tests formed known) (test 21 true ∷ []) good)

module _ {S : Type 0} (judge : S → List ℕ → Judged S) (formed known within last : S → List ℕ → Bool) (start : S) (text : List ℕ) where
  -- A good line is the last, or what it says is added.
  module _ (next : S → List ℕ → S)
      (tells : (s : S) (line : List ℕ) → judge s line ≡ in_turn bad (tests_within (formed s line) (known s line) (within s line)) (cond (last s line) ends (goes (next s line)))) where
    of_bad : (s : S) (line : List ℕ) {k n : ℕ} {rest : List ℕ} → LineAt judge start text n s line rest → judge s line ≡ bad k → EvidenceRefusal judge formed known within last start text k n
    of_bad s line {k} {n} at is =
        go (turn_bad bad (tests_within (formed s line) (known s line) (within s line)) (cond (last s line) ends (goes (next s line))) (λ j e. cc) (good (last s line)) (sym (tells s line) ∙ is))
      where
        good : (l : Bool) → cond l ends (goes (next s line)) ≡ bad k → ⊥
        good true e = true≢false (cc)
        good false e = true≢false (cc)

        go : Fails (tests_within (formed s line) (known s line) (within s line)) k → EvidenceRefusal judge formed known within last start text k n
        go (inl (a, same)) = subst (λ (j : ℕ). EvidenceRefusal judge formed known within last start text j n) same (malformed at a)
        go (inr (a, inl (b, same))) = subst (λ (j : ℕ). EvidenceRefusal judge formed known within last start text j n) same (misnamed at (record { is_formed = a; is_unknown = b }))
        go (inr (a, inr (b, inl (d, same)))) = subst (λ (j : ℕ). EvidenceRefusal judge formed known within last start text j n) same (above_limit at (record { is_formed = a; is_known = b; is_above = d }))
        go (inr (a, inr (b, inr (d, none)))) = absurd none

    of_end : (s : S) (line : List ℕ) → judge s line ≡ ends → EndLine judge formed known within last start text s line
    of_end s line is =
        let (passed, ended) = turn_good bad (tests_within (formed s line) (known s line) (within s line)) (cond (last s line) ends (goes (next s line))) ends (λ k e. true≢false (cc)) (sym (tells s line) ∙ is) in
        record { is_formed = passed.0; is_known = passed.1.0; is_within = passed.1.1.0; is_last = go (last s line) ended }
      where
        go : (l : Bool) → cond l ends (goes (next s line)) ≡ ends → l ≡ true
        go true e = refl
        go false e = absurd (true≢false (cc))

    is_ending : (s : S) (line : List ℕ) → EndLine judge formed known within last start text s line → judge s line ≡ ends
    is_ending s line e = tells s line ∙ turn_passes bad _ _ (e.is_formed, (e.is_known, (e.is_within, tt))) ∙ rw e.is_last

    pub refusal_means : {k n : ℕ} → Refusal judge 15 14 start text k n ↔ EvidenceRefusal judge formed known within last start text k n
    refusal_means = (go, back)
      where
        go : {k n : ℕ} → Refusal judge 15 14 start text k n → EvidenceRefusal judge formed known within last start text k n
        go (Refusal.too_long above) = too_long above
        go (Refusal.bad_line_lem {k} {n} {s} {line} at is) = of_bad s line at is
        go (Refusal.no_end fits above tail) = no_end fits above tail
        go (Refusal.after_end {n} {s} {line} at is) = after_end at (of_end s line is)

        back : {k n : ℕ} → EvidenceRefusal judge formed known within last start text k n → Refusal judge 15 14 start text k n
        back (EvidenceRefusal.too_long above) = Refusal.too_long above
        back (EvidenceRefusal.malformed {n} {s} {line} at a) = Refusal.bad_line_lem at (tells s line ∙ turn_fails bad _ _ (inl (a, refl)))
        back (EvidenceRefusal.misnamed {n} {s} {line} at m) = Refusal.bad_line_lem at (tells s line ∙ turn_fails bad _ _ (inr (m.is_formed, inl (m.is_unknown, refl))))
        back (EvidenceRefusal.above_limit {n} {s} {line} at m) = Refusal.bad_line_lem at (tells s line ∙ turn_fails bad _ _ (inr (m.is_formed, inr (m.is_known, inl (m.is_above, refl)))))
        back (EvidenceRefusal.no_end fits above tail) = Refusal.no_end fits above tail
        back (EvidenceRefusal.after_end {n} {s} {line} at e) = Refusal.after_end at (is_ending s line e)

    pub reading_means : {said : S} → ReadAs judge start text said ↔ EvidenceReadAs judge formed known within last start text said
    reading_means {said} = (
      λ r. record { number = r.number; line = r.line; ending = r.last; is_end = of_end said r.line r.is_end },
      λ r. record { number = r.number; line = r.line; last = r.ending; is_end = is_ending said r.line r.is_end },
    )

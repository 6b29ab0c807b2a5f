-- A policy line and a policy text are refused and read exactly as document 01 says.
use Rattle.std.specs.Prelude.{ℕ, Bool, false, cond, ◌↔◌, ◌⊎◌, ◌≡◌, refl, eqb}
use Rattle.std.proofs.Math.Bool.{true, not}
use Rattle.std.proofs.Common.{true≢false, ◌∙◌, arith}
use mathlib.Core.List.{List, [], ◌∷◌, ◌++◌}
use Rattle.std.proofs.Math.Logic.{inl, inr}
use Rattle.std.proofs.Math.Path.{sym, ap, subst}
use borrow.Author.Tests.{eqb-true, eq-eqb, not-false}
use Rattle.text.specs.Forms.{bytes}
use Rattle.text.specs.Pieces.{split, onto, same_bytes}
use Rattle.text.specs.PieceLaws.{same_equal, split_piece}
use Rattle.walking.specs.Texts.{Judged, goes, ends, bad, Reading, read, refused}
use Rattle.lines.specs.Lines.{Line, header, role, user, has, assign, revoke, goal, end, other, one_field, two_fields, three_fields, five_fields, line_of, asked, tests, goal_kind, end_kind}
use Rattle.walking.specs.Turns.{test, in_turn, Pass, Fails}
use Rattle.walking.specs.TurnLaws.{turn_cases, turn_fails, turn_passes}
use Rattle.reading.specs.Policy.{Said, nothing, counts_of, kind_of, added, is_new, leads, line_asked, line_tests, judge_line, read_policy}
use Rattle.walking.specs.Meaning.{LineAt, ReadAs, Refusal}
use Rattle.walking.specs.MeaningLaws.{refusal_exact, read_exact}
use Rattle.reading.specs.PolicyRefusals.{AboveLimit, EndLine, Fault, Good, Malformed, PolicyReadAs, PolicyRefusal, Repeated, Undeclared, above_limit, after_end, fields, form, malformed, no_end, pair, too_long, undeclared}

-- ---- the line `end`, by its bytes and by its fields

-- one piece is all the bytes
pub whole_piece : (mark : ℕ) (s : List ℕ) {piece : List ℕ} → split mark s ≡ piece ∷ [] → s ≡ piece
unfolding split onto
whole_piece mark [] e = cc
whole_piece mark (byte ∷ rest) {piece} e = go (eqb byte mark) e (split_piece mark rest) (λ p one. whole_piece mark rest one)
  where
    go : (t : Bool) → cond t ([] ∷ split mark rest) (onto byte (split mark rest)) ≡ piece ∷ [] → (first : List ℕ) × (more : List (List ℕ)) × (split mark rest ≡ first ∷ more)
        → ((p : List ℕ) → split mark rest ≡ p ∷ [] → rest ≡ p) → byte ∷ rest ≡ piece
    go true is (p, more, pieces) below = absurd (true≢false (cc))
    go false is (p, more, pieces) below =
        let one : (byte ∷ p) ∷ more ≡ piece ∷ [] = sym (ap (onto byte) pieces) ∙ is in
        ap (λ (l : List ℕ). byte ∷ l) (below p (pieces ∙ ap (λ (l : List (List ℕ)). p ∷ l) (cc))) ∙ cc

end_piece : (pieces : List (List ℕ)) → line_of pieces ≡ end → pieces ≡ bytes "end" ∷ []
unfolding line_of one_field two_fields three_fields five_fields
end_piece [] e = absurd (true≢false (cc))
end_piece (w ∷ []) e = go (same_bytes w (bytes "end")) refl e
  where
    go : (t : Bool) → same_bytes w (bytes "end") ≡ t → cond t end other ≡ end → w ∷ [] ≡ bytes "end" ∷ []
    go true same is = ap (λ (x : List ℕ). x ∷ []) (same_equal w (bytes "end") same)
    go false same is = absurd (true≢false (cc))
end_piece (w ∷ a ∷ []) e = absurd (go (same_bytes w (bytes "role")) (same_bytes w (bytes "goal")) (same_bytes w (bytes "arbac")) e)
  where
    go : (t u v : Bool) → cond t (role a) (cond u (goal a) (cond v (header a) other)) ≡ end → ⊥
    go true u v is = true≢false (cc)
    go false true v is = true≢false (cc)
    go false false true is = true≢false (cc)
    go false false false is = true≢false (cc)
end_piece (w ∷ a ∷ b ∷ []) e = absurd (go (same_bytes w (bytes "has")) (same_bytes w (bytes "revoke")) (same_bytes w (bytes "user")) e)
  where
    go : (t u v : Bool) → cond t (has a b) (cond u (revoke a b) (cond v (user a b) other)) ≡ end → ⊥
    go true u v is = true≢false (cc)
    go false true v is = true≢false (cc)
    go false false true is = true≢false (cc)
    go false false false is = true≢false (cc)
end_piece (w ∷ a ∷ b ∷ c ∷ []) e = absurd (true≢false (cc))
end_piece (w ∷ a ∷ b ∷ c ∷ d ∷ []) e = absurd (go (same_bytes w (bytes "assign")) e)
  where
    go : (t : Bool) → cond t (assign a b c d) other ≡ end → ⊥
    go true is = true≢false (cc)
    go false is = true≢false (cc)
end_piece (w ∷ a ∷ b ∷ c ∷ d ∷ f ∷ more) e = absurd (true≢false (cc))

-- a line is `end` by its fields exactly when it is by its bytes
pub end_bytes : (line : List ℕ) → fields line ≡ end ↔ line ≡ bytes "end"
unfolding line_of one_field split onto same_bytes
end_bytes line = (λ e. whole_piece 9 line (end_piece (split 9 line) e), λ is. ap (λ (l : List ℕ). line_of (split 9 l)) is)

-- ---- a line's judgement says what it means, and what is meant is judged so

module _ (s : Said) (line : List ℕ) where
  -- what a judgement says of the line
  Means : Judged Said → Type 0
  Means (goes t) = Good s line t
  Means ends = EndLine s line
  Means (bad k) = Fault s line k

  -- only a has line can repeat a pair, and it does where its user holds the role
  repeats : (f : Line) → fields line ≡ f → is_new s.holdings (asked (counts_of s) s.roles s.users f).says ≡ false → Repeated s line
  unfolding asked is_new
  repeats (header edition) is old = absurd (true≢false old)
  repeats (role name) is old = absurd (true≢false old)
  repeats (user name clearance) is old = absurd (true≢false old)
  repeats (has holder held) is old = record { holder = holder; held = held; is_has = is; stands = record { held = record { found = not-false _ old } } }
  repeats (assign admin positive negative target) is old = absurd (true≢false old)
  repeats (revoke admin target) is old = absurd (true≢false old)
  repeats (goal roles) is old = absurd (true≢false old)
  repeats end is old = absurd (true≢false old)
  repeats other is old = absurd (true≢false old)

  repeated : Repeated s line → is_new s.holdings (line_asked s line).says ≡ false
  unfolding line_asked asked is_new
  repeated r = ap (λ (f : Line). is_new s.holdings (asked (counts_of s) s.roles s.users f).says) r.is_has ∙ ap not r.stands.held.found

  -- only `end` in its form says the end
  ending : (f : Line) → (asked (counts_of s) s.roles s.users f).formed ≡ true → kind_of (asked (counts_of s) s.roles s.users f).says ≡ end_kind → (f ≡ end) × (s.stage ≡ goal_kind)
  unfolding asked kind_of counts_of
  ending (header edition) fit is = absurd (omega arith)
  ending (role name) fit is = absurd (omega arith)
  ending (user name clearance) fit is = absurd (omega arith)
  ending (has holder held) fit is = absurd (omega arith)
  ending (assign admin positive negative target) fit is = absurd (omega arith)
  ending (revoke admin target) fit is = absurd (omega arith)
  ending (goal roles) fit is = absurd (omega arith)
  ending end fit is = (refl, eqb-true s.stage goal_kind fit)
  ending other fit is = absurd (true≢false (sym fit))

  -- and `end` says it
  says_end : line ≡ bytes "end" → kind_of (line_asked s line).says ≡ end_kind
  unfolding line_asked asked kind_of
  says_end is = ap (λ (f : Line). kind_of (asked (counts_of s) s.roles s.users f).says) ((end_bytes line).1 is)

  means_line : Means (judge_line s line)
  unfolding Means judge_line line_tests tests leads line_asked
  means_line = turn_cases Means bad (line_tests s line) (leads s (line_asked s line).says) fails passes
    where
      numbered : {j k : ℕ} → j ≡ k → Fault s line j → Fault s line k
      numbered same fault = subst (Fault s line) same fault

      fails : (k : ℕ) → Fails (line_tests s line) k → Fault s line k
      fails k (inl (a, same)) = numbered same (malformed (form a))
      fails k (inr (a, inl (b, same))) = numbered same (above_limit (record { is_formed = a; is_above = b }))
      fails k (inr (a, inr (b, inl (c, same)))) = numbered same (undeclared (record { is_formed = a; is_within = b; is_unknown = c }))
      fails k (inr (a, inr (b, inr (c, inl (d, same))))) = numbered same (malformed (pair a c (repeats (fields line) refl d)))
      fails k (inr (a, inr (b, inr (c, inr (d, none))))) = absurd none

      passes : Pass (line_tests s line) → Means (leads s (line_asked s line).says)
      passes (a, rest) = go (eqb (kind_of (line_asked s line).says) end_kind) refl
        where
          go : (t : Bool) → eqb (kind_of (line_asked s line).says) end_kind ≡ t → Means (cond t ends (goes (added s (line_asked s line).says)))
          go true is = let (last, below) = ending (fields line) a (eqb-true _ end_kind is) in record { is_end = (end_bytes line).0 last; after_goal = below }
          go false is = record {
            is_formed = a;
            is_within = rest.0;
            is_known = rest.1.0;
            is_new_lem = λ r. true≢false (sym rest.1.1.0 ∙ repeated r);
            goes_on = λ e. true≢false (sym (eq-eqb _ end_kind (says_end e)) ∙ is);
            adds = refl;
          }

  -- and the other way round
  fault_judged : {k : ℕ} → Fault s line k → judge_line s line ≡ bad k
  unfolding judge_line line_tests tests line_asked asked
  fault_judged (malformed (form a)) = turn_fails bad (line_tests s line) _ (inl (a, refl))
  fault_judged (malformed (pair a c r)) =
      let b = ap (λ (f : Line). (asked (counts_of s) s.roles s.users f).within) r.is_has in
      turn_fails bad (line_tests s line) _ (inr (a, inr (b, inr (c, inl (repeated r, refl)))))
  fault_judged (above_limit f) = turn_fails bad (line_tests s line) _ (inr (f.is_formed, inl (f.is_above, refl)))
  fault_judged (undeclared f) = turn_fails bad (line_tests s line) _ (inr (f.is_formed, inr (f.is_within, inl (f.is_unknown, refl))))

  end_judged : EndLine s line → judge_line s line ≡ ends
  unfolding judge_line line_tests tests line_asked asked counts_of leads is_new kind_of
  end_judged e =
      let is = (end_bytes line).1 e.is_end in
      ap (λ (f : Line). let a = asked (counts_of s) s.roles s.users f in in_turn bad (tests a.formed a.within a.known ++ (test 11 (is_new s.holdings a.says) ∷ [])) (leads s a.says)) is
      ∙ turn_passes bad (test 11 (eqb s.stage goal_kind) ∷ test 12 true ∷ test 13 true ∷ test 11 true ∷ []) ends (eq-eqb s.stage goal_kind e.after_goal, (refl, (refl, (refl, tt))))

  good_judged : {t : Said} → Good s line t → judge_line s line ≡ goes t
  unfolding Means
  good_judged {t} g = go (judge_line s line) means_line
    where
      go : (j : Judged Said) → Means j → j ≡ goes t
      go (goes u) is = ap goes (is.adds ∙ sym g.adds)
      go ends is = absurd (g.goes_on is.is_end)
      go (bad k) (malformed (form a)) = absurd (true≢false (sym g.is_formed ∙ a))
      go (bad k) (malformed (pair a c r)) = absurd (g.is_new_lem r)
      go (bad k) (above_limit f) = absurd (true≢false (sym g.is_within ∙ f.is_above))
      go (bad k) (undeclared f) = absurd (true≢false (sym g.is_known ∙ f.is_unknown))

-- ---- each refusal of a line, exactly

module _ (s : Said) (line : List ℕ) where
  -- A line is refused exactly for its fault, with the fault's number and no other.
  pub fault_exact : (k : ℕ) → judge_line s line ≡ bad k ↔ Fault s line k
  unfolding Means
  fault_exact k = (λ is. subst (Means s line) is (means_line s line), fault_judged s line)

  -- 11 exactly when it is malformed,
  pub malformed_exact : judge_line s line ≡ bad 11 ↔ Malformed s line
  malformed_exact = (λ is. go refl ((fault_exact 11).0 is), λ m. fault_judged s line (malformed m))
    where
      go : {k : ℕ} → k ≡ 11 → Fault s line k → Malformed s line
      go e (malformed m) = m
      go e (above_limit f) = absurd (omega arith)
      go e (undeclared f) = absurd (omega arith)

  -- 12 exactly when it is well formed and above a count limit,
  pub limit_exact : judge_line s line ≡ bad 12 ↔ AboveLimit s line
  limit_exact = (λ is. go refl ((fault_exact 12).0 is), λ f. fault_judged s line (above_limit f))
    where
      go : {k : ℕ} → k ≡ 12 → Fault s line k → AboveLimit s line
      go e (malformed m) = absurd (omega arith)
      go e (above_limit f) = f
      go e (undeclared f) = absurd (omega arith)

  -- 13 exactly when it is well formed, within its limit, and names what is not declared,
  pub undeclared_exact : judge_line s line ≡ bad 13 ↔ Undeclared s line
  undeclared_exact = (λ is. go refl ((fault_exact 13).0 is), λ f. fault_judged s line (undeclared f))
    where
      go : {k : ℕ} → k ≡ 13 → Fault s line k → Undeclared s line
      go e (malformed m) = absurd (omega arith)
      go e (above_limit f) = absurd (omega arith)
      go e (undeclared f) = f

  -- and with no other number.
  pub no_other_number : {k : ℕ} → judge_line s line ≡ bad k → (k ≡ 11) ⊎ ((k ≡ 12) ⊎ (k ≡ 13))
  no_other_number {k} is = go ((fault_exact k).0 is)
    where
      go : {k : ℕ} → Fault s line k → (k ≡ 11) ⊎ ((k ≡ 12) ⊎ (k ≡ 13))
      go (malformed m) = inl refl
      go (above_limit f) = inr (inl refl)
      go (undeclared f) = inr (inr refl)

  -- It is the last line exactly when it is `end` after a goal,
  pub end_exact : judge_line s line ≡ ends ↔ EndLine s line
  unfolding Means
  end_exact = (λ is. subst (Means s line) is (means_line s line), end_judged s line)

  -- and the reading goes on exactly when it is good.
  pub good_exact : (t : Said) → judge_line s line ≡ goes t ↔ Good s line t
  unfolding Means
  good_exact t = (λ is. subst (Means s line) is (means_line s line), good_judged s line)

-- ---- each refusal of a policy, exactly

module _ (text : List ℕ) where
  -- A policy is refused with a number at a line exactly when it has that refusal.
  pub policy_refusal_exact : (k n : ℕ) → read_policy text ≡ refused k n ↔ PolicyRefusal text k n
  unfolding read_policy
  policy_refusal_exact k n = (λ is. go ((refusal_exact judge_line 11 10 nothing text k n).0 is), λ r. (refusal_exact judge_line 11 10 nothing text k n).1 (back r))
    where
      of_fault : {k n : ℕ} {s : Said} {line rest : List ℕ} → LineAt judge_line nothing text n s line rest → Fault s line k → PolicyRefusal text k n
      of_fault at (Fault.malformed m) = malformed at m
      of_fault at (Fault.above_limit f) = above_limit at f
      of_fault at (Fault.undeclared f) = undeclared at f

      go : {k n : ℕ} → Refusal judge_line 11 10 nothing text k n → PolicyRefusal text k n
      go (Refusal.too_long above) = too_long above
      go (Refusal.bad_line_lem {k} {n} {s} {line} at is) = of_fault at ((fault_exact s line k).0 is)
      go (Refusal.no_end fits above tail) = no_end fits above tail
      go (Refusal.after_end {n} {s} {line} at is) = after_end at ((end_exact s line).0 is)

      back : {k n : ℕ} → PolicyRefusal text k n → Refusal judge_line 11 10 nothing text k n
      back (PolicyRefusal.too_long above) = Refusal.too_long above
      back (PolicyRefusal.malformed {n} {s} {line} at m) = Refusal.bad_line_lem at ((malformed_exact s line).1 m)
      back (PolicyRefusal.above_limit {n} {s} {line} at f) = Refusal.bad_line_lem at ((limit_exact s line).1 f)
      back (PolicyRefusal.undeclared {n} {s} {line} at f) = Refusal.bad_line_lem at ((undeclared_exact s line).1 f)
      back (PolicyRefusal.no_end fits above tail) = Refusal.no_end fits above tail
      back (PolicyRefusal.after_end {n} {s} {line} at e) = Refusal.after_end at ((end_exact s line).1 e)

  -- A policy is read as it says exactly when it does.
  pub policy_read_exact : (s : Said) → read_policy text ≡ read s ↔ PolicyReadAs text s
  unfolding read_policy
  policy_read_exact s = (λ is. go ((read_exact judge_line 11 10 nothing text s).0 is), λ p. (read_exact judge_line 11 10 nothing text s).1 (back p))
    where
      go : ReadAs judge_line nothing text s → PolicyReadAs text s
      go r = record { number = r.number; line = r.line; last = r.last; is_end = (end_exact s r.line).0 r.is_end }

      back : PolicyReadAs text s → ReadAs judge_line nothing text s
      back p = record { number = p.number; line = p.line; last = p.last; is_end = (end_exact s p.line).1 p.is_end }

  -- A policy has at most one refusal; it is read or refused, and never both.
  pub policy_one_refusal : {k l n m : ℕ} → PolicyRefusal text k n → PolicyRefusal text l m → (k ≡ l) × (n ≡ m)
  policy_one_refusal {k} {l} {n} {m} a b = let same : ◌≡◌ {A = Reading Said} (refused k n) (refused l m) = sym ((policy_refusal_exact k n).1 a) ∙ (policy_refusal_exact l m).1 b in (cc, cc)

  pub policy_read_or_refused : ((s : Said) × PolicyReadAs text s) ⊎ ((k : ℕ) × (n : ℕ) × PolicyRefusal text k n)
  policy_read_or_refused = go (read_policy text) refl
    where
      go : (r : Reading Said) → read_policy text ≡ r → ((s : Said) × PolicyReadAs text s) ⊎ ((k : ℕ) × (n : ℕ) × PolicyRefusal text k n)
      go (read s) is = inl (s, (policy_read_exact s).0 is)
      go (refused k n) is = inr (k, n, (policy_refusal_exact k n).0 is)

  pub policy_read_not_refused : {s : Said} {k n : ℕ} → PolicyReadAs text s → PolicyRefusal text k n → ⊥
  policy_read_not_refused {s} {k} {n} a b = let same : read s ≡ refused k n = sym ((policy_read_exact s).1 a) ∙ (policy_refusal_exact k n).1 b in true≢false (cc)

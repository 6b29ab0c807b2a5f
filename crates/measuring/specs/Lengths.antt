-- A policy's spelling is as long as every text of that policy.
use Rattle.std.specs.Prelude.{ℕ, ◌+◌, ◌≤◌, true, cond, List, [], ◌∷◌, ◌≡◌, eqb, length}
use Rattle.std.proofs.Math.Bool.{and-eq-true_iff}
use Rattle.std.proofs.lemmas.Bool.{false≢true, not-true}
use Rattle.std.proofs.Math.Path.{refl}
use Rattle.std.proofs.Common.{ap, subst, ltb-true, ne_eqb, eq-eqb, eqb-true, length-append, arith}
use Rattle.roles.specs.Sets.{has_role}
use Rattle.model.specs.Policy.{person}
use Rattle.text.specs.Forms.{bytes}
use Rattle.text.specs.Pieces.{split, same_bytes}
use Rattle.fields.specs.Fields.{placed, is_declared}
use Rattle.lines.specs.declared.Entry.{Entry}
use Rattle.lines.specs.Lines.{asked, line_of, header_kind}
use Rattle.lines.specs.Lines as kind
use Rattle.walking.specs.Texts.{read}
use Rattle.walking.specs.Meaning.{Above, first, next}
use Rattle.reading.specs.Policy.{Said, nothing, counts_of, kind_of, noted, added, is_new, line_asked, judge_line, read_policy}
use Rattle.reading.specs.PolicyExact.{end_bytes, good_exact, policy_read_exact}
use Rattle.reading.specs.Sound.{Sound, line_sound, nothing_sound}
use Rattle.reading.specs.Answer.{line_leads}
use Rattle.showing.specs.Fields.{field}
use Rattle.inscribing.specs.LineText.{line_text}
use Rattle.drafting.specs.PolicyText.{block_size, element, policy_text}
use Rattle.measuring.specs.Sums.{sum_from}
use Rattle.measuring.specs.Lines.{line_length_lem}
use Rattle.measuring.specs.Blocks.{line_size, blocks_length, text_size}
use Rattle.measuring.specs.Growth.{role_grows, user_grows, has_grows, assign_grows, revoke_grows, goal_grows}
use Rattle.measuring.specs.Phases.{Phased, phased_nothing, phased_added, Stands, good_stands, not_before, past_header}

-- what is written of the lines so far: the header, once it is read, and the blocks
unfoldable size_of : Said → ℕ
size_of s = cond (eqb s.stage 0) 0 8 + blocks_length s

sized_on : (s : Said) → 10 ≤ s.stage → size_of s ≡ 8 + blocks_length s
unfolding size_of
sized_on s at = rw (ne_eqb s.stage 0 (λ none. absurd (omega (arith, at, none))))

-- ---- a good line

module _ (s : Said) (sound : Sound s) (phased : Phased s) where
  -- a line past the header makes the spelling longer where it makes the blocks longer
  on : (e : Entry) → Stands s.stage e → (kind_of e ≡ header_kind → ⊥) → blocks_length (added s e) ≡ blocks_length s + line_size s.roles s.users e → size_of (added s e) ≡ size_of s + line_size s.roles s.users e
  unfolding added
  on e stands other grows =
      let from = past_header stands other in
      omega (arith, sized_on s from, sized_on (added s e) (omega (arith, from, not_before stands)), grows)

  -- the header
  header_blocks : blocks_length (added s Entry.Header) ≡ blocks_length s
  unfolding added noted block_size element
  header_blocks = refl

  header_grows : s.stage ≡ 0 → size_of (added s Entry.Header) ≡ size_of s + line_size s.roles s.users Entry.Header
  unfolding size_of added kind_of line_text field
  header_grows none = rw (eq-eqb s.stage 0 none) (omega (arith, header_blocks))

  -- each kind
  kind_grows : (line : kind.Line) → Stands s.stage (asked (counts_of s) s.roles s.users line).says → (asked (counts_of s) s.roles s.users line).formed ≡ true → (asked (counts_of s) s.roles s.users line).known ≡ true
      → is_new s.holdings (asked (counts_of s) s.roles s.users line).says ≡ true → (line ≡ kind.end → ⊥)
      → size_of (added s (asked (counts_of s) s.roles s.users line).says) ≡ size_of s + line_size s.roles s.users (asked (counts_of s) s.roles s.users line).says
  unfolding asked kind_of is_new is_declared counts_of
  kind_grows (kind.header edition) stands formed known new going = header_grows (eqb-true s.stage 0 ((and-eq-true_iff (eqb s.stage 0) (same_bytes edition (bytes "1"))).0 formed).0)
  kind_grows (kind.role name) stands formed known new going =
      let at = not_before stands in
      on _ stands (λ is. omega (arith, is)) (role_grows s _ (phased.no_users at) (phased.no_assigns (omega (arith, at))) (phased.no_revokes (omega (arith, at))) (phased.no_goals (omega (arith, at))))
  kind_grows (kind.user name clearance) stands formed known new going = on _ stands (λ is. omega (arith, is)) (user_grows s _ _ sound.people)
  kind_grows (kind.has holder held) stands formed known new going =
      let both = (and-eq-true_iff (is_declared s.users holder) (is_declared s.roles held)).0 known in
      on _ stands (λ is. omega (arith, is))
      (has_grows s (placed s.users holder) (placed s.roles held) (ltb-true (placed s.users holder) (length s.users) both.0) sound.people
      (ltb-true (placed s.roles held) (length s.roles) both.1) sound.roles.most (not-true (has_role (person s.holdings (placed s.users holder)).roles (placed s.roles held)) new))
  kind_grows (kind.assign admin positive negative target) stands formed known new going = on _ stands (λ is. omega (arith, is)) (assign_grows s _)
  kind_grows (kind.revoke admin target) stands formed known new going = on _ stands (λ is. omega (arith, is)) (revoke_grows s _)
  kind_grows (kind.goal set) stands formed known new going = on _ stands (λ is. omega (arith, is)) (goal_grows s _)
  kind_grows kind.end stands formed known new going = absurd (going refl)
  kind_grows kind.other stands formed known new going = absurd (false≢true formed)

-- ---- all lines above a line

-- what is read and what is left are the text
record Sized (text : List ℕ) (s : Said) (rest : List ℕ) : Type 0 where
  sound : Sound s
  phased : Phased s
  whole : size_of s + length rest ≡ length text

lines_sized : (text : List ℕ) {n : ℕ} {s : Said} {rest : List ℕ} → Above judge_line nothing text n s rest → Sized text s rest
unfolding size_of nothing block_size sum_from line_asked
lines_sized text first = record { sound = nothing_sound; phased = phased_nothing; whole = omega arith }
lines_sized text (next {n} {s} {t} {line} {rest} above unbroken is) =
    let so = lines_sized text above in
    let leads = line_leads s t line is in
    let e = (line_asked s line).says in
    let stands = good_stands s leads.good in
    let grown = kind_grows s so.sound so.phased (line_of (split 9 line)) stands leads.good.formed leads.good.known leads.new (λ ends. ((good_exact s line t).0 is).goes_on ((end_bytes line).0 ends)) in
    record {
      sound = subst Sound leads.adds (line_sound s line leads.good so.sound);
      phased = subst Phased leads.adds (phased_added s e so.phased (not_before stands));
      whole = omega (arith, so.whole, ap size_of leads.adds, grown, line_length_lem s line so.sound leads.good, length-append line (10 ∷ rest));
    }

-- A policy that is read is spelt with as many bytes as the text has.
pub spelled_length : (text : List ℕ) {s : Said} → read_policy text ≡ read s → length (policy_text s) ≡ length text
spelled_length text {s} is =
    let whole = (policy_read_exact text s).0 is in
    let so = lines_sized text whole.last.above in
    let at = whole.is_end.after_goal in
    omega (arith, text_size s, so.whole, sized_on s (omega (arith, at)), ap length whole.is_end.is_end, length-append whole.line (10 ∷ []))

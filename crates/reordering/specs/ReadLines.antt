-- The lines above a line are like the lines that are written of what they say.
use Rattle.std.specs.Prelude.{ℕ, ◌≤◌, true, ◌≡◌, refl, eqb, length}
use Rattle.std.proofs.Math.Bool.{and-eq-true_iff}
use Rattle.std.proofs.lemmas.Bool.{false≢true, not-true}
use mathlib.Core.List.Memᴰ.{not-nil}
use mathlib.Core.List.{List, [], ◌∷◌, ◌++◌, append_assoc, append-nil, Memᴰ as Listed}
use Rattle.std.proofs.Common.{sym, ap, subst, ◌∙◌, ltb-true, eqb-true, arith}
use Rattle.roles.specs.Sets.{has_role}
use Rattle.model.specs.Policy.{person}
use Rattle.text.specs.Forms.{bytes}
use Rattle.text.specs.Lists.{each_more}
use Rattle.text.specs.Pieces.{split, same_bytes}
use Rattle.fields.specs.Fields.{placed, is_declared}
use Rattle.lines.specs.declared.Entry.{Entry}
use Rattle.lines.specs.Lines.{asked, line_of, user_kind, has_kind}
use Rattle.lines.specs.Lines as kind
use Rattle.walking.specs.Meaning.{Above, first, next}
use Rattle.walking.specs.MeaningLaws.{line_piece}
use Rattle.reading.specs.Policy.{Said, nothing, counts_of, kind_of, added, is_new, line_asked, judge_line}
use Rattle.reading.specs.PolicyExact.{end_bytes, good_exact}
use Rattle.reading.specs.Sound.{Sound, line_sound, nothing_sound}
use Rattle.reading.specs.Answer.{line_leads}
use Rattle.drafting.specs.declared.Block.{Block}
use Rattle.inscribing.specs.LineText.{line_text}
use Rattle.drafting.specs.PolicyText.{block_size}
use Rattle.measuring.specs.Phases.{Phased, phased_nothing, phased_added, Stands, good_stands, not_before, past_header}
use Rattle.reordering.specs.Alike.{Inserted, Reordered, Each, LineAlike, HasLine}
use Rattle.reordering.specs.Orders.{each_join}
use Rattle.reordering.specs.OrdersMore.{put_last, each_one, each_none}
use Rattle.reordering.specs.Picked.{gathered}
use Rattle.reordering.specs.LinesAlike.{line_alike, has_line}
use Rattle.reordering.specs.WrittenLines.{written, headed, before_of, after_of}
use Rattle.reordering.specs.Growing.{Grown, naming, granting, ruling, none_after, header_grown, role_grown, user_grown, has_grown, assign_grown, revoke_grown, goal_grown}

-- ---- a line more

abbrev Lines : Type 0
Lines = List (List ℕ)

-- before the has lines, among them, after them
line_before : (before held after left : Lines) (line : List ℕ) → held ≡ [] → after ≡ [] → before ++ held ++ after ++ (line ∷ left) ≡ before ++ (line ∷ []) ++ held ++ after ++ left
line_before before held after left line no_held no_after =
    ap (λ (l : Lines). l ++ (line ∷ left)) (none before)
    ∙ sym (append_assoc before (line ∷ []) left)
    ∙ ap (λ (l : Lines). l ++ left) (sym (none (before ++ (line ∷ []))))
  where
    none : (some : Lines) → some ++ held ++ after ≡ some
    none some = ap (λ (l : Lines). some ++ held ++ l) no_after ∙ append-nil (some ++ held) ∙ ap (λ (l : Lines). some ++ l) no_held ∙ append-nil some

line_among : (before held after left : Lines) (line : List ℕ) → after ≡ [] → before ++ held ++ after ++ (line ∷ left) ≡ before ++ (held ++ (line ∷ [])) ++ after ++ left
line_among before held after left line no_after =
    ap (λ (l : Lines). l ++ (line ∷ left)) (none (before ++ held))
    ∙ sym (append_assoc (before ++ held) (line ∷ []) left)
    ∙ ap (λ (l : Lines). l ++ left) (append_assoc before held (line ∷ []) ∙ sym (none (before ++ (held ++ (line ∷ [])))))
  where
    none : (some : Lines) → some ++ after ≡ some
    none some = ap (λ (l : Lines). some ++ l) no_after ∙ append-nil some

line_after : (before held after left : Lines) (line : List ℕ) → before ++ held ++ after ++ (line ∷ left) ≡ before ++ held ++ (after ++ (line ∷ [])) ++ left
line_after before held after left line =
    sym (append_assoc (before ++ held ++ after) (line ∷ []) left) ∙ ap (λ (l : Lines). l ++ left) (append_assoc (before ++ held) after (line ∷ []))

-- ---- all lines above a line

-- The lines that are read and those that are left are the text; those that are read are like what is written of them.
pub record SoFar (text : List ℕ) (s : Said) (rest : List ℕ) : Type 0 where
  pub sound : Sound s
  pub phased : Phased s
  pub start : s.stage ≡ 0 → nothing ≡ s
  pub before : Lines
  pub held : Lines
  pub after : Lines
  pub lines : split 10 text ≡ before ++ held ++ after ++ split 10 rest
  pub above : Each LineAlike before (before_of s)
  pub reordered : Reordered held (written s Block.Has)
  pub all_has : (line : List ℕ) → Listed line held → HasLine line
  pub below : Each LineAlike after (after_of s)
  pub no_held : s.stage ≤ user_kind → held ≡ []

-- no rule and no goal up to the has lines
no_after : (s : Said) → Phased s → s.stage ≤ has_kind → {after : Lines} → Each LineAlike after (after_of s) → after ≡ []
no_after s phased at {after} below =
    each_none (subst (Each LineAlike after) (none_after s (phased.no_assigns at) (phased.no_revokes (omega (arith, at))) (phased.no_goals (omega (arith, at)))) below)

-- a line more that is read, like the one that is written of it, or the same where it is a has line
more_alike : {text left rest line line' : List ℕ} {s t : Said} → SoFar text s left → split 10 left ≡ line ∷ split 10 rest → Sound t → Phased t → 10 ≤ t.stage → LineAlike line line'
    → (t.stage ≡ has_kind → (line ≡ line') × HasLine line) → Grown s t line' → SoFar text t rest
more_alike {text} {left} {rest} {line} {line'} {s} {t} so cut sound phased past alike same (naming at before has after) =
    let none = so.no_held at in
    record {
      sound = sound;
      phased = phased;
      start = λ is. absurd (omega (arith, is, past));
      before = so.before ++ (line ∷ []);
      held = so.held;
      after = so.after;
      lines = so.lines ∙ ap (λ (l : Lines). so.before ++ so.held ++ so.after ++ l) cut ∙ line_before so.before so.held so.after (split 10 rest) line none (no_after s so.phased (omega (arith, at)) so.below);
      above = subst (Each LineAlike (so.before ++ (line ∷ []))) (sym before) (each_join so.above (each_one alike));
      reordered = subst (Reordered so.held) (sym has) so.reordered;
      all_has = so.all_has;
      below = subst (Each LineAlike so.after) (sym after) so.below;
      no_held = λ up. none;
    }
more_alike {text} {left} {rest} {line} {line'} {s} {t} so cut sound phased past alike same (granting at is before has after) =
    let own = same is in
    record {
      sound = sound;
      phased = phased;
      start = λ none. absurd (omega (arith, none, past));
      before = so.before;
      held = so.held ++ (line ∷ []);
      after = so.after;
      lines = so.lines ∙ ap (λ (l : Lines). so.before ++ so.held ++ so.after ++ l) cut ∙ line_among so.before so.held so.after (split 10 rest) line (no_after s so.phased at so.below);
      above = subst (Each LineAlike so.before) (sym before) so.above;
      reordered = put_last so.reordered (subst (λ (l : List ℕ). Inserted l (written s Block.Has) (written t Block.Has)) (sym own.0) has);
      all_has = each_more HasLine so.held so.all_has own.1;
      below = subst (Each LineAlike so.after) (sym after) so.below;
      no_held = λ up. absurd (omega (arith, is, up));
    }
more_alike {text} {left} {rest} {line} {line'} {s} {t} so cut sound phased past alike same (ruling at before has after) =
    record {
      sound = sound;
      phased = phased;
      start = λ none. absurd (omega (arith, none, past));
      before = so.before;
      held = so.held;
      after = so.after ++ (line ∷ []);
      lines = so.lines ∙ ap (λ (l : Lines). so.before ++ so.held ++ so.after ++ l) cut ∙ line_after so.before so.held so.after (split 10 rest) line;
      above = subst (Each LineAlike so.before) (sym before) so.above;
      reordered = subst (Reordered so.held) (sym has) so.reordered;
      all_has = so.all_has;
      below = subst (Each LineAlike (so.after ++ (line ∷ []))) (sym after) (each_join so.below (each_one alike));
      no_held = λ up. absurd (omega (arith, at, up));
    }

-- ---- a good line

module _ (s : Said) (sound : Sound s) (phased : Phased s) (start : s.stage ≡ 0 → nothing ≡ s) where
  -- what each kind adds
  kind_grown : (line : kind.Line) → Stands s.stage (asked (counts_of s) s.roles s.users line).says → (asked (counts_of s) s.roles s.users line).formed ≡ true → (asked (counts_of s) s.roles s.users line).known ≡ true
      → is_new s.holdings (asked (counts_of s) s.roles s.users line).says ≡ true → (line ≡ kind.end → ⊥)
      → Grown s (added s (asked (counts_of s) s.roles s.users line).says) (line_text s.roles s.users (asked (counts_of s) s.roles s.users line).says)
  unfolding asked kind_of is_new is_declared counts_of
  kind_grown (kind.header edition) stands formed known new going = header_grown (start (eqb-true s.stage 0 ((and-eq-true_iff (eqb s.stage 0) (same_bytes edition (bytes "1"))).0 formed).0))
  kind_grown (kind.role name) stands formed known new going =
      let at = not_before stands in
      role_grown s _ (past_header stands (λ is. omega (arith, is))) at (phased.no_users at) (phased.no_assigns (omega (arith, at))) (phased.no_revokes (omega (arith, at))) (phased.no_goals (omega (arith, at)))
  kind_grown (kind.user name clearance) stands formed known new going = user_grown s _ _ (past_header stands (λ is. omega (arith, is))) (not_before stands) sound.people
  kind_grown (kind.has holder held) stands formed known new going =
      let both = (and-eq-true_iff (is_declared s.users holder) (is_declared s.roles held)).0 known in
      has_grown s (placed s.users holder) (placed s.roles held) (past_header stands (λ is. omega (arith, is))) (not_before stands) (ltb-true (placed s.users holder) (length s.users) both.0) sound.people
      (ltb-true (placed s.roles held) (length s.roles) both.1) sound.roles.most (not-true (has_role (person s.holdings (placed s.users holder)).roles (placed s.roles held)) new)
  kind_grown (kind.assign admin positive negative target) stands formed known new going =
      let at = not_before stands in
      assign_grown s _ (past_header stands (λ is. omega (arith, is))) (phased.no_revokes at) (phased.no_goals (omega (arith, at)))
  kind_grown (kind.revoke admin target) stands formed known new going = revoke_grown s _ (past_header stands (λ is. omega (arith, is))) (phased.no_goals (not_before stands))
  kind_grown (kind.goal set) stands formed known new going = goal_grown s _ (past_header stands (λ is. omega (arith, is)))
  kind_grown kind.end stands formed known new going = absurd (going refl)
  kind_grown kind.other stands formed known new going = absurd (false≢true formed)

-- A has line is as it is written.
as_written : (s : Said) → Sound s → (bytes : List ℕ) (line : kind.Line) → line_of (split 9 bytes) ≡ line → (asked (counts_of s) s.roles s.users line).formed ≡ true → (asked (counts_of s) s.roles s.users line).known ≡ true
    → kind_of (asked (counts_of s) s.roles s.users line).says ≡ has_kind → (bytes ≡ line_text s.roles s.users (asked (counts_of s) s.roles s.users line).says) × HasLine bytes
unfolding asked kind_of
as_written s sound bytes (kind.header edition) is formed known at = absurd (omega (arith, at))
as_written s sound bytes (kind.role name) is formed known at = absurd (omega (arith, at))
as_written s sound bytes (kind.user name clearance) is formed known at = absurd (omega (arith, at))
as_written s sound bytes (kind.has holder held) is formed known at = has_line s bytes sound is formed known
as_written s sound bytes (kind.assign admin positive negative target) is formed known at = absurd (omega (arith, at))
as_written s sound bytes (kind.revoke admin target) is formed known at = absurd (omega (arith, at))
as_written s sound bytes (kind.goal set) is formed known at = absurd (omega (arith, at))
as_written s sound bytes kind.end is formed known at = absurd (omega (arith, at))
as_written s sound bytes kind.other is formed known at = absurd (omega (arith, at))

-- no entry has an earlier kind than the header's
kinds_past : (e : Entry) → 10 ≤ kind_of e
unfolding kind_of
kinds_past Entry.Header = omega arith
kinds_past (Entry.Role name) = omega arith
kinds_past (Entry.User name clearance) = omega arith
kinds_past (Entry.Has user role) = omega arith
kinds_past (Entry.Assign rule) = omega arith
kinds_past (Entry.Revoke rule) = omega arith
kinds_past (Entry.Goal goal) = omega arith
kinds_past Entry.End = omega arith

-- The lines above a line are like what is written of them.
pub lines_alike : (text : List ℕ) {n : ℕ} {s : Said} {rest : List ℕ} → Above judge_line nothing text n s rest → SoFar text s rest
unfolding nothing before_of after_of written gathered headed block_size line_asked added
lines_alike text first = record {
  sound = nothing_sound;
  phased = phased_nothing;
  start = λ is. refl;
  before = [];
  held = [];
  after = [];
  lines = refl;
  above = Each.none;
  reordered = Reordered.none;
  all_has = λ line m. absurd (not-nil m);
  below = Each.none;
  no_held = λ up. refl;
}
lines_alike text (next {n} {s} {t} {line} {rest} above unbroken is) =
    let so = lines_alike text above in
    let leads = line_leads s t line is in
    let e = (line_asked s line).says in
    let fields = line_of (split 9 line) in
    let stands = good_stands s leads.good in
    let grown = kind_grown s so.sound so.phased so.start fields stands leads.good.formed leads.good.known leads.new (λ ends. ((good_exact s line t).0 is).goes_on ((end_bytes line).0 ends)) in
    subst (λ (u : Said). SoFar text u rest) leads.adds
    (more_alike so (line_piece unbroken rest) (line_sound s line leads.good so.sound) (phased_added s e so.phased (not_before stands)) (kinds_past e) (line_alike s line so.sound leads.good)
    (λ at. as_written s so.sound line fields refl leads.good.formed leads.good.known at) grown)

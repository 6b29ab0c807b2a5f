-- What a policy that is read has besides being sound: its last line above `end` is a goal, and each of its goals has a role.
use Rattle.std.specs.Prelude.{ℕ, ◌≤◌, ◌<◌, Bool, true, false, cond, not, ◌&&◌, ◌≡◌, length}
use Rattle.std.proofs.Math.Bool.{and-eq-true_iff}
use mathlib.Core.List.Memᴰ.{not-nil}
use mathlib.Core.List.{List, [], ◌∷◌, Memᴰ as Listed}
use Rattle.std.proofs.Common.{sym, ap, subst, ◌∙◌, ltb-true, length-append, arith}
use Rattle.std.proofs.lemmas.Bool.{not-true}
use Rattle.roles.specs.declared.RoleSet.{RoleSet}
use Rattle.roles.specs.Sets.{empty_set}
use Rattle.roles.specs.Members.{◌∈◌}
use Rattle.roles.specs.MemberLaws.{with_new_lem, empty_none}
use Rattle.text.specs.Forms.{bytes, every, is_set, names_of}
use Rattle.text.specs.Lists.{each_more}
use Rattle.text.specs.Pieces.{split, same_bytes}
use Rattle.text.specs.PieceLaws.{split_piece}
use Rattle.tables.specs.declared.Name.{Name}
use Rattle.fields.specs.Fields.{placed, is_declared, all_declared, roles_from, roles_of}
use Rattle.fields.specs.Roles.{role_kept}
use Rattle.walking.specs.Texts.{goes, read}
use Rattle.walking.specs.Kept.{text_keeps}
use Rattle.lines.specs.Lines.{Line, header, role, user, has, assign, revoke, goal, end, other, line_of, asked, in_order, goal_kind}
use Rattle.reading.specs.Policy.{Said, nothing, counts_of, kind_of, noted, added, line_asked, judge_line, read_policy}
use Rattle.reading.specs.Answer.{line_leads}
use Rattle.reading.specs.Sound.{Sound, nothing_sound, line_sound}
use Rattle.reading.specs.PolicyExact.{policy_read_exact}

-- A set field that is not `-` and whose names are declared has a role.
field_some : (names : List Name) (field : List ℕ) → length names ≤ 128 → same_bytes field (bytes "-") ≡ false → all_declared names field ≡ true → roles_of names field ≡ empty_set → ⊥
unfolding roles_of all_declared names_of every roles_from is_declared
field_some names field few none known is =
    let (first, rest, cut) = split_piece 44 field in
    let pieces : cond (same_bytes field (bytes "-")) [] (split 44 field) ≡ first ∷ rest = ap (λ (b : Bool). cond b [] (split 44 field)) none ∙ cut in
    go first rest (sym (ap (every (is_declared names)) pieces) ∙ known) (sym (ap (roles_from names empty_set) pieces) ∙ is)
  where
    go : (first : List ℕ) (rest : List (List ℕ)) → every (is_declared names) (first ∷ rest) ≡ true → roles_from names empty_set (first ∷ rest) ≡ empty_set → ⊥
    go first rest declared empty =
        let here = ltb-true (placed names first) (length names) ((and-eq-true_iff (is_declared names first) (every (is_declared names) rest)).0 declared).0 in
        empty_none (subst (λ (s : RoleSet). placed names first ∈ s) empty (role_kept names rest (with_new_lem empty_set (omega (arith, here)))))

-- After a goal there is a goal, and each has a role.
pub record Goals (s : Said) : Type 0 where
  pub some : s.stage ≡ goal_kind → 0 < length s.goals
  pub each : (g : RoleSet) → Listed g s.goals → g ≡ empty_set → ⊥

-- each good line keeps it so
entry-goals : (s : Said) (line : Line) → Sound s → (asked (counts_of s) s.roles s.users line).formed ≡ true → (asked (counts_of s) s.roles s.users line).known ≡ true → Goals s
    → Goals (added s (asked (counts_of s) s.roles s.users line).says)
unfolding asked added noted kind_of counts_of
entry-goals s (header edition) sound formed known h = record { some = λ is. absurd (omega arith); each = h.each }
entry-goals s (role name) sound formed known h = record { some = λ is. absurd (omega arith); each = h.each }
entry-goals s (user name clearance) sound formed known h = record { some = λ is. absurd (omega arith); each = h.each }
entry-goals s (has holder held) sound formed known h = record { some = λ is. absurd (omega arith); each = h.each }
entry-goals s (assign admin positive negative target) sound formed known h = record { some = λ is. absurd (omega arith); each = h.each }
entry-goals s (revoke admin target) sound formed known h = record { some = λ is. absurd (omega arith); each = h.each }
entry-goals s (goal set) sound formed known h =
    let (ordered, form) = (and-eq-true_iff (in_order s.stage goal_kind && not (same_bytes set (bytes "-"))) (is_set set)).0 formed in
    let none = not-true (same_bytes set (bytes "-")) ((and-eq-true_iff (in_order s.stage goal_kind) (not (same_bytes set (bytes "-")))).0 ordered).1 in
    record {
      some = λ is. omega (arith, length-append s.goals (roles_of s.roles set ∷ []));
      each = each_more (λ g. g ≡ empty_set → ⊥) s.goals h.each (field_some s.roles set sound.roles.most none known);
    }
entry-goals s end sound formed known h = record { some = λ is. absurd (omega arith); each = h.each }
entry-goals s other sound formed known h = record { some = λ is. absurd (omega arith); each = h.each }

-- a policy so far
record Kept (s : Said) : Type 0 where
  sound : Sound s
  goals : Goals s

line_keeps : (s t : Said) (line : List ℕ) → judge_line s line ≡ goes t → Kept s → Kept t
unfolding line_asked
line_keeps s t line leads h =
    let l = line_leads s t line leads in
    subst Kept l.adds (record { sound = line_sound s line l.good h.sound; goals = entry-goals s (line_of (split 9 line)) h.sound l.good.formed l.good.known h.goals })

nothing-goals : Goals nothing
unfolding nothing
nothing-goals = record { some = λ is. absurd (omega arith); each = λ g m. absurd (not-nil m) }

module _ (text : List ℕ) {s : Said} (is : read_policy text ≡ read s) where
  -- The last line above `end` is a goal,
  pub read_stage : s.stage ≡ goal_kind
  read_stage = ((policy_read_exact text s).0 is).is_end.after_goal

  -- so there is one, and each has a role.
  pub read_goals : Goals s
  unfolding read_policy
  read_goals = (text_keeps judge_line 11 Kept line_keeps 10 nothing s text is (record { sound = nothing_sound; goals = nothing-goals })).goals

  pub read_some : 0 < length s.goals
  read_some = read_goals.some read_stage

-- A typing that is read is laid out over the policy's roles: L and the empty sets stand past them, and the sets are words of 64 bits.
use Rattle.std.specs.Prelude.{ℕ, zero, suc, ◌+◌, ◌-◌, ◌≤◌, ◌<◌, false, ◌≡◌, refl, length, get_or, replicate, Result}
use mathlib.Core.List.Memᴰ.{not-nil}
use mathlib.Core.List.{List, [], ◌∷◌, ◌++◌, Memᴰ as Listed}
use Rattle.std.proofs.Common.{subst, ◌∙◌, length-append, arith}
use Rattle.std.proofs.Math.Path.{subst⁻¹}
use Rattle.std.proofs.Math.ListN.{get_or-eq_default}
use Rattle.std.proofs.Math.Decide.{dec_lt}
use Rattle.roles.specs.declared.RoleSet.{RoleSet}
use Rattle.roles.specs.Sets.{empty_set}
use Rattle.roles.specs.Members.{Sized}
use Rattle.roles.specs.MemberLaws.{empty_sized}
use Rattle.model.specs.Policy.{L}
use Rattle.model.specs.Meaning.{meaning}
use Rattle.rules.specs.RuleExact.{Laid}
use Rattle.tables.specs.declared.Name.{Name}
use Rattle.text.specs.Forms.{bytes}
use Rattle.text.specs.Pieces.{split, same_bytes}
use Rattle.walking.specs.Texts.{goes, read}
use Rattle.walking.specs.TextLaws.{goes_one, goes_ends, goes_bad}
use Rattle.fields.specs.Fields.{roles_of}
use Rattle.tables.specs.Padded.{padded}
use Rattle.walking.specs.Kept.{text_keeps}
use Rattle.steps.proofs.PlaceLaws.{stands_at, at_listed}
use Rattle.walking.specs.declared.Fault.{Fault}
use Rattle.typings.specs.declared.TypingEntry.{TypingEntry}
use Rattle.typings.specs.TypingLineLaws.{tested_cases}
use Rattle.typings.specs.TypingLines.{Line, header, row, end, other, line_of, entry, judged, typing_line}
use Rattle.typings.specs.TypingText.{Typed, untyped, added, answered, judge_line, read_typing, table_of}
use Rattle.typings.specs.TypingReached.{Rowed, Fitting, entry-fits}
use Rattle.fields.specs.Roles.{roles_sized}
use Rattle.text.specs.Lists.{each_more}

-- As many labels and sets as rows, no more rows than roles, and the sets are words of 64 bits.
pub record Rows (roles : ℕ) (t : Typed) : Type 0 where
  pub rowed : Rowed t
  pub most : t.stage ≤ suc roles
  pub plus : (s : RoleSet) → Listed s t.plus → Sized s
  pub minus : (s : RoleSet) → Listed s t.minus → Sized s

-- ---- what a good line keeps

entry-rows : (names : List Name) (s t : Typed) (line : Line) → Fitting s.stage (length names) (entry names line) → added s (entry names line) ≡ goes t → Rows (length names) s → Rows (length names) t
unfolding added entry
entry-rows names s t (header edition) start is rows =
    subst (Rows (length names)) (goes_one is) (record {
      rowed = record {
        labels = omega (arith, start, rows.rowed.labels);
        plus = omega (arith, start, rows.rowed.plus);
        minus = omega (arith, start, rows.rowed.minus);
      };
      most = omega arith;
      plus = rows.plus;
      minus = rows.minus;
    })
entry-rows names s t (row name label plus minus) here is rows = subst (Rows (length names)) (goes_one is) (record {
  rowed = record {
    labels = longer (length-append s.labels (same_bytes label (bytes "H") ∷ [])) rows.rowed.labels;
    plus = longer (length-append s.plus (roles_of names plus ∷ [])) rows.rowed.plus;
    minus = longer (length-append s.minus (roles_of names minus ∷ [])) rows.rowed.minus;
  };
  most = omega (arith, here.1);
  plus = each_more Sized s.plus rows.plus (roles_sized names plus);
  minus = each_more Sized s.minus rows.minus (roles_sized names minus);
})
  where
    longer : {n m : ℕ} → n ≡ m + 1 → m ≡ s.stage - 1 → n ≡ suc s.stage - 1
    longer more many = omega (arith, here.0)
entry-rows names s t end fits is rows = absurd (goes_ends is)
entry-rows names s t other fits is rows = absurd (goes_ends is)

line_rows : (names : List Name) (s t : Typed) (line : List ℕ) → judge_line names s line ≡ goes t → Rows (length names) s → Rows (length names) t
unfolding judge_line answered typing_line judged
line_rows names s t line =
    tested_cases (λ (a : Result TypingEntry Fault). answered s a ≡ goes t → Rows (length names) s → Rows (length names) t) _ _ _ (λ fault is. absurd (goes_bad is))
    (λ formed known. entry-rows names s t (line_of (split 9 line)) (entry-fits s.stage names (line_of (split 9 line)) formed))

untyped-rows : (roles : ℕ) → Rows roles untyped
unfolding untyped
untyped-rows roles = record {
  rowed = record { labels = refl; plus = refl; minus = refl };
  most = omega arith;
  plus = λ s m. absurd (not-nil m);
  minus = λ s m. absurd (not-nil m);
}

pub read_rows : (names : List Name) (text : List ℕ) {t : Typed} → read_typing names text ≡ read t → Rows (length names) t
unfolding read_typing
read_rows names text {t} is = text_keeps (judge_line names) 15 (Rows (length names)) (line_rows names) 14 untyped t text is (untyped-rows (length names))

-- ---- what the arrays mean

-- an array filled with what is read past its end reads as the list that is laid out
same_filling : {A : Type 0} (xs : List A) (more : ℕ) (filling : A) (i : ℕ) → get_or (xs ++ replicate more filling) i filling ≡ get_or xs i filling
same_filling [] zero filling i = refl
same_filling [] (suc more) filling zero = refl
same_filling [] (suc more) filling (suc i) = same_filling [] more filling i
same_filling (x ∷ xs) more filling zero = refl
same_filling (x ∷ xs) more filling (suc i) = same_filling xs more filling i

pub label_read : (t : Typed) (role : ℕ) → (meaning (table_of t)).label role ≡ get_or t.labels role L
unfolding meaning table_of padded
label_read t role = same_filling t.labels (128 - length t.labels) false role

pub plus_read : (t : Typed) (role : ℕ) → (meaning (table_of t)).plus role ≡ get_or t.plus role empty_set
unfolding meaning table_of padded
plus_read t role = same_filling t.plus (128 - length t.plus) empty_set role

pub minus_read : (t : Typed) (role : ℕ) → (meaning (table_of t)).minus role ≡ get_or t.minus role empty_set
unfolding meaning table_of padded
minus_read t role = same_filling t.minus (128 - length t.minus) empty_set role

-- every set that is read off a list of sized sets is sized
at_sized : (sets : List RoleSet) → ((s : RoleSet) → Listed s sets → Sized s) → (role : ℕ) → Sized (get_or sets role empty_set)
at_sized sets each role = go (dec_lt role (length sets))
  where
    go : Dec (role < length sets) → Sized (get_or sets role empty_set)
    go (yes here) = each (get_or sets role empty_set) (at_listed (stands_at empty_set sets role here))
    go (no past) = subst⁻¹ Sized (get_or-eq_default sets empty_set (omega arith)) empty_sized

-- The typing that is read is laid out over the policy's roles.
pub read_laid : (names : List Name) (text : List ℕ) {t : Typed} → read_typing names text ≡ read t → length names ≤ 128 → Laid (table_of t) (length names)
read_laid names text {t} is few = record {
  fits = record {
    limit = few;
    sized = record {
      plus = λ role. subst⁻¹ Sized (plus_read t role) (at_sized t.plus rows.plus role);
      minus = λ role. subst⁻¹ Sized (minus_read t role) (at_sized t.minus rows.minus role);
    };
    plus_past = λ role past. plus_read t role ∙ get_or-eq_default t.plus empty_set (omega (arith, rows.most, rows.rowed.plus, past));
    minus_past = λ role past. minus_read t role ∙ get_or-eq_default t.minus empty_set (omega (arith, rows.most, rows.rowed.minus, past));
  };
  low_past = λ role past. label_read t role ∙ get_or-eq_default t.labels L (omega (arith, rows.most, rows.rowed.labels, past));
}
  where
    rows : Rows (length names) t
    rows = read_rows names text is

-- The pieces of a text that is read: each line adds to what is said above it, and `end` is the last.
use Rattle.std.specs.Prelude.{ℕ, suc, List, [], ◌∷◌, ◌≡◌, refl}
use Rattle.std.proofs.Common.{true≢false, subst}
use Rattle.walking.specs.Texts.{Judged, goes, ends, bad, read, refused, closing, onward, read_lines}
use Rattle.reading.specs.Policy.{Said, judge_line}

-- Pieces between LFs that lead from what was said above them to what is read: each line adds to it, and after `end` comes the empty
-- piece and no more.
pub data Leading : Said → List (List ℕ) → Said → Type 0 where
  last : {s : Said} {line : List ℕ} → judge_line s line ≡ ends → Leading s (line ∷ [] ∷ []) s
  more : {s t u : Said} {line : List ℕ} {pieces : List (List ℕ)} → judge_line s line ≡ goes t → Leading t pieces u → Leading s (line ∷ pieces) u

-- a refusal is no reading
apart : {number line : ℕ} {t : Said} → refused number line ≡ read t → ⊥
apart e = true≢false (cc)

read_one : {s t : Said} → read s ≡ read t → s ≡ t
read_one e = cc

closing_leads : (s u : Said) (n : ℕ) (line : List ℕ) (pieces : List (List ℕ)) → judge_line s line ≡ ends → closing judge_line 11 s n pieces ≡ read u → Leading s (line ∷ pieces) u
unfolding closing
closing_leads s u n line ([] ∷ []) is reading = subst (λ (x : Said). Leading s (line ∷ [] ∷ []) x) (read_one reading) (last is)
closing_leads s u n line [] is reading = absurd (apart reading)
closing_leads s u n line ([] ∷ piece ∷ pieces) is reading = absurd (apart reading)
closing_leads s u n line ((byte ∷ rest) ∷ pieces) is reading = absurd (apart reading)

pub lines_lead : (s u : Said) (n : ℕ) (pieces : List (List ℕ)) → read_lines judge_line 11 s n pieces ≡ read u → Leading s pieces u
unfolding read_lines onward
lines_lead s u n [] is = absurd (apart is)
lines_lead s u n (tail ∷ []) is = absurd (apart is)
lines_lead s u n (line ∷ piece ∷ pieces) is = go (judge_line s line) refl is (λ t e. lines_lead t u (suc n) (piece ∷ pieces) e)
  where
    go : (j : Judged Said) → judge_line s line ≡ j → onward judge_line 11 j s n (piece ∷ pieces) (λ t. read_lines judge_line 11 t (suc n) (piece ∷ pieces)) ≡ read u
        → ((t : Said) → read_lines judge_line 11 t (suc n) (piece ∷ pieces) ≡ read u → Leading t (piece ∷ pieces) u) → Leading s (line ∷ piece ∷ pieces) u
    go (goes t) judged reading below = more judged (below t reading)
    go ends judged reading below = closing_leads s u (suc n) line (piece ∷ pieces) judged reading
    go (bad number) judged reading below = absurd (apart reading)

pub lead_lines : {s u : Said} {pieces : List (List ℕ)} (n : ℕ) → Leading s pieces u → read_lines judge_line 11 s n pieces ≡ read u
unfolding read_lines onward closing
lead_lines n (last is) = rw is
lead_lines n (more is (last {line = line} below)) = rw is (lead_lines (suc n) (last {line = line} below))
lead_lines n (more is (more {line = line} {pieces = []} one below)) = elim below [ ]
lead_lines n (more is (more {line = line} {pieces = piece ∷ pieces} one below)) = rw is (lead_lines (suc n) (more one below))

-- a line is `end`, or adds and leads on
pub data Leads (line : List ℕ) (pieces : List (List ℕ)) : Said → Said → Type 0 where
  last : {s : Said} → judge_line s line ≡ ends → pieces ≡ [] ∷ [] → Leads line pieces s s
  more : {s t u : Said} → judge_line s line ≡ goes t → Leading t pieces u → Leads line pieces s u

pub first-leads : {s u : Said} {line : List ℕ} {pieces : List (List ℕ)} → Leading s (line ∷ pieces) u → Leads line pieces s u
first-leads (Leading.last is) = Leads.last is refl
first-leads (Leading.more is below) = Leads.more is below

pub no_piece : {s u : Said} → Leading s [] u → ⊥
no_piece leading = elim leading [ ]

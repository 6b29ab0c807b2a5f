-- How a report comes to be, and that a text is made exactly where the answer is a success.
use Rattle.std.specs.Prelude.{ℕ, ◌≤◌, Bool, cond, ◌&&◌, ◌≡◌, length}
use Rattle.std.proofs.Common.{zero-le, true≢false, ◌∙◌, leb-true, length-take-le, arith}
use Rattle.std.proofs.Math.Bool.{true, false}
use mathlib.Core.List.{List}
use Rattle.std.proofs.Math.Path.{refl, sym, ap, subst}
use Rattle.std.proofs.Math.Dec.{leb}
use Rattle.io.specs.Counts.{IsPrefixLen}
use Rattle.walking.specs.Texts.{Reading, read, refused}
use Rattle.writing.specs.Written.{put}
use Rattle.writing.proofs.Buffers.{put_length}
use Rattle.showing.specs.Showing.{Shows}
use Rattle.summing.specs.Outcome.{Outcome, leaves, writes, answer_in, buffer_after, when_read, fits, Meets}
use Rattle.reporting.specs.Report.{in_words, text_in, Reports}

-- ---- a text is written exactly where the answer is a success

-- An answer that is no success leaves the buffer; a success writes a text of the length that it tells, for which there is room.
pub data Kind {A : Type 0} (success : A → Bool) (told : A → ℕ) (room : ℕ) : Outcome A → Type 0 where
  left : (answer : A) → success answer ≡ false → Kind success told room (leaves answer)
  made : (answer : A) (text : List ℕ) → success answer ≡ true → told answer ≡ length text → length text ≤ room → Kind success told room (writes answer text)

module _ {A : Type 0} (success : A → Bool) (told : A → ℕ) (room : ℕ) where
  -- of texts that are read
  pub kind_read : {S : Type 0} (refusal : ℕ → ℕ → A) (r : Reading S) (go : S → Outcome A) → ((k n : ℕ) → success (refusal k n) ≡ false) → ((s : S) → Kind success told room (go s)) → Kind success told room (when_read refusal r go)
  unfolding when_read
  kind_read refusal (read s) go failing on = on s
  kind_read refusal (refused k n) go failing on = left (refusal k n) (failing k n)

  -- of one of two outcomes
  pub kind_one : (b : Bool) {outcome other : Outcome A} → Kind success told room outcome → Kind success told room other → Kind success told room (cond b outcome other)
  kind_one true one two = one
  kind_one false one two = two

  -- and of a text that is written where it fits
  pub kind_fits : (answer long : A) (text : List ℕ) → success answer ≡ true → told answer ≡ length text → success long ≡ false → Kind success told room (cond (fits room text) (writes answer text) (leaves long))
  unfolding fits
  kind_fits answer long text succeeding is failing = go (leb (length text) room) (leb (length text) 32768) refl
    where
      go : (room_for few : Bool) → leb (length text) room ≡ room_for → Kind success told room (cond (room_for && few) (writes answer text) (leaves long))
      go true true here = made answer text succeeding is (leb-true (length text) room here)
      go true false here = left long failing
      go false few here = left long failing

-- ---- what is reported

-- With what callers ask: the lengths count bytes at the start of the buffers.
abbrev pub Reported : (outcome : Outcome (List ℕ)) (out line : List ℕ) (texts lines : ℕ) (out' line' : List ℕ) → Type 0
Reported outcome out line texts lines out' line' = Reports outcome out line texts lines out' line' × (IsPrefixLen texts out' × IsPrefixLen lines line')

counts : {n : ℕ} (buffer : List ℕ) → n ≤ length buffer → IsPrefixLen n buffer
counts {n} buffer within = (within, sym (length-take-le n buffer within))

-- the same outcome told in another way
pub reported_as : {outcome other : Outcome (List ℕ)} {out out' line line' : List ℕ} {texts lines : ℕ} → outcome ≡ other → Reported other out line texts lines out' line' → Reported outcome out line texts lines out' line'
reported_as {out = out} {out'} {line} {line'} {texts} {lines} same reported = subst (λ (o : Outcome (List ℕ)). Reported o out line texts lines out' line') (sym same) reported

-- a line alone
pub reported_left : {words out line line' : List ℕ} {lines : ℕ} → Shows words line lines line' → Reported (leaves words) out line 0 lines out line'
unfolding text_in answer_in buffer_after
reported_left {out = out} shows = (record { text_made = refl; text_left = refl; line_made = shows.0; line_left = shows.1.0 }, (counts out zero-le, shows.1.1))

-- a line and a text
pub reported_made : {words text out out' line line' : List ℕ} {texts lines : ℕ} → texts ≡ length text → length text ≤ length out → out' ≡ put text out → Shows words line lines line'
    → Reported (writes words text) out line texts lines out' line'
unfolding text_in answer_in buffer_after
reported_made {text = text} {out} {out'} long room is shows =
    (record { text_made = long; text_left = is; line_made = shows.0; line_left = shows.1.0 }, (counts out' (omega (arith, long, room, ap length is, put_length text out room)), shows.1.1))

-- the report of an answer that meets its outcome
module _ {A : Type 0} (success : A → Bool) (told : A → ℕ) (words : A → List ℕ) {out out' line line' : List ℕ} {lines : ℕ} {answer known : A} (is : answer ≡ known) where
  report_left : {outcome : Outcome A} → Kind success told (length out) outcome → known ≡ answer_in outcome → out' ≡ buffer_after outcome out → success known ≡ false → Shows (words known) line lines line'
      → Reported (in_words words outcome) out line 0 lines out' line'
  unfolding in_words answer_in buffer_after
  report_left (left said failing) same held failed shows =
      subst (λ (buffer : List ℕ). Reported (leaves (words said)) out line 0 lines buffer line') (sym held) (reported_left (subst (λ (a : A). Shows (words a) line lines line') same shows))
  report_left (made said text succeeding long room) same held failed shows = absurd (true≢false (sym succeeding ∙ sym (ap success same) ∙ failed))

  report_made : {outcome : Outcome A} → Kind success told (length out) outcome → known ≡ answer_in outcome → out' ≡ buffer_after outcome out → success known ≡ true → Shows (words known) line lines line'
      → Reported (in_words words outcome) out line (told known) lines out' line'
  unfolding in_words answer_in buffer_after
  report_made (left said failing) same held succeeded shows = absurd (true≢false (sym succeeded ∙ ap success same ∙ failing))
  report_made (made said text succeeding long room) same held succeeded shows =
      reported_made (ap told same ∙ long) room held (subst (λ (a : A). Shows (words a) line lines line') same shows)

  -- an answer that is no success
  pub report_no : {outcome : Outcome A} → Kind success told (length out) outcome → Meets outcome out answer out' → success known ≡ false → Shows (words known) line lines line' → Reported (in_words words outcome) out line 0 lines out' line'
  report_no kind met failed shows = report_left kind (sym is ∙ met.answered) met.left failed shows

  -- a success
  pub report_yes : {outcome : Outcome A} → Kind success told (length out) outcome → Meets outcome out answer out' → success known ≡ true → Shows (words known) line lines line'
      → Reported (in_words words outcome) out line (told known) lines out' line'
  report_yes kind met succeeded shows = report_made kind (sym is ∙ met.answered) met.left succeeded shows

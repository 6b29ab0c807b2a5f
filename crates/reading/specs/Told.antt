-- What the answer of reading a policy tells: a refusal, or what the ledger says.
use Rattle.std.specs.Prelude.{ℕ, List, Result, Ok, Err, ◌≡◌}
use Rattle.std.proofs.Math.Path.{refl, sym, ap}
use Rattle.std.proofs.Common.{true≢false, ◌∙◌}
use Rattle.tables.specs.Names.{rows}
use Rattle.ledgers.specs.LedgerLaws.{roles-rows}
use Rattle.lines.specs.declared.Counts.{Counts}
use Rattle.walking.specs.Texts.{Reading, read, refused}
use Rattle.walking.specs.declared.Refusal.{Refusal}
use Rattle.reading.specs.Policy.{Said, counts_of, read_policy}
use Rattle.reading.specs.Read.{answer_read, ReadInto}
use Rattle.reading.specs.Ledger.{ledger_says, Limited}
use Rattle.reading.specs.LedgerLaws.{counts_limited}
use Rattle.reading.specs.Sound.{Sound, read_sound}

-- The text is read: the ledger says what it says, and the counts are within the limits.
pub record Told (text : List ℕ) (c : Counts) (words : List ℕ) : Type 0 where
  pub said : Said
  pub is : read_policy text ≡ read said
  pub says : ledger_says words c ≡ said
  pub counts : c ≡ counts_of said
  pub sound : Sound said
  pub limited : Limited c

module _ {text : List ℕ} {answer : Result Counts Refusal} {words : List ℕ} (into : ReadInto text answer words) where
  -- a refusal is that of the text
  pub untold : {refusal : Refusal} → answer ≡ Err refusal → read_policy text ≡ refused refusal.number refusal.line
  unfolding answer_read
  untold {refusal} none = go (read_policy text) refl (sym none ∙ into.answers)
    where
      go : (r : Reading Said) → read_policy text ≡ r → Err refusal ≡ answer_read r → read_policy text ≡ refused refusal.number refusal.line
      go (read s) is given = absurd (true≢false (cc))
      go (refused k n) is given =
          let same : refusal ≡ record { number = k; line = n } = cc in
          is ∙ sym (ap (λ (r : Refusal). refused r.number r.line) same)

  -- no refusal
  pub told : {c : Counts} → answer ≡ Ok c → Told text c words
  unfolding answer_read
  told {c} some = go (read_policy text) refl (sym some ∙ into.answers)
    where
      go : (r : Reading Said) → read_policy text ≡ r → Ok c ≡ answer_read r → Told text c words
      go (read s) is given =
          let counted : c ≡ counts_of s = cc in
          record { said = s; is = is; says = ap (ledger_says words) counted ∙ into.says s is; counts = counted; sound = read_sound text is; limited = counts_limited counted (read_sound text is) }
      go (refused k n) is given = absurd (true≢false (cc))

-- the table of role names gives the names back
pub roles-told : {text : List ℕ} {c : Counts} {words : List ℕ} (t : Told text c words) → rows c.roles words ≡ t.said.roles
unfolding ledger_says
roles-told {c = c} {words = words} t = roles-rows words c.roles ∙ ap (λ (s : Said). s.roles) t.says

-- What holds between two lines while a policy text is read: the ledger says what the lines so far say, and the rest decides.
use Rattle.std.specs.Prelude.{ℕ, ◌+◌, ◌≤◌, ◌<◌, false, List, Result, Ok, Err, ◌≡◌, eqb, length}
use Rattle.std.proofs.Common.{true≢false, ◌∙◌}
use Rattle.std.proofs.Math.Path.{refl, sym, ap, subst, subst⁻¹}
use Rattle.ledgers.specs.Parts.{rows_from, rows_in}
use Rattle.ledgers.specs.Ledger.{ledger_words}
use Rattle.text.specs.Pieces.{split, part, Sought}
use Rattle.lines.specs.declared.Counts.{Counts}
use Rattle.lines.specs.declared.Entry.{Entry}
use Rattle.walking.specs.declared.Fault.{Fault}
use Rattle.walking.specs.Faults.{policy_number}
use Rattle.lines.specs.Lines.{line_of, end_kind}
use Rattle.lines.specs.LineLaws.{GoodLine, Fitting, good_fits}
use Rattle.walking.specs.Texts.{Judged, read, refused}
use Rattle.walking.specs.Walk.{On, on_start, on_end, on_tail, on_bad, on_goes, on_last, on_more}
use Rattle.walking.specs.declared.Refusal.{Refusal}
use Rattle.reading.specs.Policy.{Said, nothing, counts_of, kind_of, added, leads, judge_line, read_policy}
use Rattle.reading.specs.Read.{answer_read, ReadInto}
use Rattle.reading.specs.Answer.{line_answer, leads_to, judge_answered, answer_good}
use Rattle.reading.specs.Sound.{Sound, line_sound, nothing_sound}
use Rattle.reading.specs.Ledger.{ledger_says, Limited}
use Rattle.reading.specs.LedgerLaws.{ledger_counts, counts_limited}

-- before the line of this number
pub record Between (text : List ℕ) (at number : ℕ) (words : List ℕ) (c : Counts) : Type 0 where
  pub room : ledger_words ≤ length words
  pub sound : Sound (ledger_says words c)
  -- the whole text gives what the lines from here on give
  pub on : On judge_line 11 10 nothing text at number (ledger_says words c)

-- before the first line, whatever the words are
pub between_start : (text words : List ℕ) → ledger_words ≤ length words → length text ≤ 32768 → Between text 0 1 words (counts_of nothing)
unfolding ledger_says counts_of nothing rows_in rows_from
between_start text words room short = record { room = room; sound = nothing_sound; on = on_start judge_line 11 10 nothing text short }

module _ {text : List ℕ} {at number : ℕ} {words : List ℕ} {c : Counts} (b : Between text at number words c) where
  abbrev said : Said
  said = ledger_says words c

  pub between_limited : Limited c
  between_limited = counts_limited (sym (ledger_counts words c)) b.sound

  -- no line is left, or one without LF
  pub between_end : length text ≤ at → read_policy text ≡ refused 11 number
  unfolding read_policy
  between_end past = on_end judge_line 11 10 nothing b.on past

  module _ {stop : ℕ} (sought : Sought text at 10 stop) where
    pub between_tail : stop ≡ length text → read_policy text ≡ refused 11 number
    unfolding read_policy
    between_tail last = on_tail judge_line 11 10 nothing b.on sought last

    module _ (here : stop < length text) {answer : Result Entry Fault} (given : answer ≡ line_answer said (part text at stop)) where
      -- what the line leads to
      judged_is : {judged : Judged Said} → leads_to said answer ≡ judged → judge_line said (part text at stop) ≡ judged
      judged_is is = judge_answered said (part text at stop) ∙ ap (leads_to said) (sym given) ∙ is

      -- a line that is not good
      pub between_bad : {fault : Fault} → answer ≡ Err fault → read_policy text ≡ refused (policy_number fault) number
      unfolding read_policy leads_to
      between_bad bad_line_lem = on_bad judge_line 11 10 nothing b.on sought here (judged_is (ap (leads_to said) bad_line_lem))

      module _ {e : Entry} (good : answer ≡ Ok e) where
        -- it is good over what the lines above say, and there is room for its entry
        good_here : GoodLine (counts_of said) said.roles said.users (line_of (split 9 (part text at stop))) e
        good_here = answer_good said (part text at stop) (sym given ∙ good)

        pub between_fits : Fitting c e
        unfolding counts_of
        between_fits = subst (λ (d : Counts). Fitting d e) (ledger_counts words c) (good_fits refl good_here)

        -- an entry that is added
        pub between_added : {words' : List ℕ} {c' : Counts} → eqb (kind_of e) end_kind ≡ false → ledger_words ≤ length words' → ledger_says words' c' ≡ added said e → Between text (stop + 1) (number + 1) words' c'
        unfolding leads_to leads
        between_added goes_on room' enters = record {
          room = room';
          sound = subst⁻¹ Sound enters (line_sound said (part text at stop) good_here b.sound);
          on = subst⁻¹ (On judge_line 11 10 nothing text (stop + 1) (number + 1)) enters (on_goes judge_line 11 10 nothing b.on sought here (judged_is (ap (leads_to said) good ∙ rw goes_on)));
        }

      -- the last line, and bytes after it
      module _ (ending : answer ≡ Ok Entry.End) where
        pub between_last : length text ≤ stop + 1 → read_policy text ≡ read said
        unfolding read_policy leads_to leads kind_of
        between_last all = on_last judge_line 11 10 nothing b.on sought here (judged_is (ap (leads_to said) ending)) all

        pub between_more : stop + 1 < length text → read_policy text ≡ refused 11 (number + 1)
        unfolding read_policy leads_to leads kind_of
        between_more left = on_more judge_line 11 10 nothing b.on sought here (judged_is (ap (leads_to said) ending)) left

-- ---- what is answered

module _ {text : List ℕ} {answer : Result Counts Refusal} {words : List ℕ} where
  -- the text is refused
  pub into_refused : {number line : ℕ} → read_policy text ≡ refused number line → answer ≡ Err (record { number = number; line = line }) → ReadInto text answer words
  unfolding answer_read
  into_refused is given = record { answers = given ∙ sym (ap answer_read is); says = λ s told. absurd (true≢false (cc)) }

  -- the text is read
  pub into_read : {c : Counts} → read_policy text ≡ read (ledger_says words c) → answer ≡ Ok c → ReadInto text answer words
  unfolding answer_read
  into_read {c} is given = record {
    answers = given ∙ ap Ok (sym (ledger_counts words c)) ∙ sym (ap answer_read is);
    says = λ s told. let same : ledger_says words c ≡ s = cc in ap (λ (t : Said). ledger_says words (counts_of t)) (sym same) ∙ ap (ledger_says words) (ledger_counts words c) ∙ same;
  }

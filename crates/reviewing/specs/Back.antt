-- A policy that is written reads back as itself.
use Rattle.std.specs.Prelude.{ℕ, ◌≤◌, ◌<◌, List, [], ◌∷◌, ◌++◌, ◌≡◌, length}
use Rattle.std.proofs.Common.{append-nil, ap, ◌∙◌}
use Rattle.text.specs.Forms.{bytes}
use Rattle.text.specs.Pieces.{split}
use Rattle.walking.specs.Texts.{read, read_lines}
use Rattle.walking.specs.TextLaws.{text_fits}
use Rattle.lines.specs.declared.Entry.{Entry}
use Rattle.lines.specs.Lines.{goal_kind}
use Rattle.reading.specs.Policy.{Said, nothing, judge_line, read_policy}
use Rattle.reading.specs.Sound.{Sound}
use Rattle.inscribing.specs.LineText.{line_text, lines_text}
use Rattle.drafting.specs.PolicyText.{entries_of, policy_text}
use Rattle.rereading.specs.Back.{line_ends}
use Rattle.reviewing.specs.Lines.{end_free, end_ends}
use Rattle.reviewing.specs.Runs.{goods_read}
use Rattle.reviewing.specs.Goals.{Goals}
use Rattle.reviewing.specs.Blocks.{blocks_good}

-- the last line
end_back : (s : Said) → s.stage ≡ goal_kind → (number : ℕ) → read_lines judge_line 11 s number (split 10 (lines_text s.roles s.users (Entry.End ∷ []))) ≡ read s
unfolding lines_text
end_back s last number =
    let line = line_text s.roles s.users Entry.End in
    ap (λ (l : List ℕ). read_lines judge_line 11 s number (split 10 l)) (append-nil (line ++ bytes "\n"))
    ∙ line_ends judge_line 11 s number line (end_free s.roles s.users) (end_ends s.roles s.users s last)

-- A policy within the limits, its goals none empty and at least one, is read from its own text.
pub text_read_back : {s : Said} → Sound s → Goals s → s.stage ≡ goal_kind → 0 < length s.goals → length (policy_text s) ≤ 32768 → read_policy (policy_text s) ≡ read s
unfolding read_policy policy_text entries_of
text_read_back {s} sound filled last some short =
    text_fits judge_line 11 10 nothing (policy_text s) short
    ∙ goods_read (Entry.End ∷ []) (blocks_good sound filled last some) (end_back s last) 1

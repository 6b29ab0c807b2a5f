-- A text that is read is like the text that is written of its policy, and the policy can be read.
use Rattle.std.specs.Prelude.{ℕ, List, [], ◌∷◌, ◌++◌, ◌≡◌}
use Rattle.std.proofs.Common.{append_assoc, ap, ◌∙◌, arith}
use Rattle.text.specs.Forms.{bytes}
use Rattle.text.specs.Pieces.{split, onto}
use Rattle.walking.specs.Texts.{read}
use Rattle.reading.specs.Policy.{Said, read_policy}
use Rattle.reading.specs.PolicyExact.{policy_read_exact}
use Rattle.reading.specs.Sound.{read_sound}
use Rattle.drafting.specs.declared.Block.{Block}
use Rattle.drafting.specs.PolicyText.{policy_text}
use Rattle.measuring.specs.Lengths.{spelled_length}
use Rattle.reviewing.specs.Goals.{read_stage, read_goals, read_some}
use Rattle.reviewing.specs.Blocks.{blocks_good}
use Rattle.reordering.specs.Alike.{Each, TextAlike, Readable}
use Rattle.reordering.specs.Orders.{each_join}
use Rattle.reordering.specs.OrdersMore.{each_one}
use Rattle.reordering.specs.LinesAlike.{line_own}
use Rattle.reordering.specs.WrittenLines.{written, before_of, after_of, text_lines}
use Rattle.reordering.specs.ReadLines.{lines_alike}

-- A text that is read is like the one that is written of its policy.
pub read_alike : (text : List ℕ) {s : Said} → read_policy text ≡ read s → TextAlike text (policy_text s)
unfolding split onto
read_alike text {s} is =
    let whole = (policy_read_exact text s).0 is in
    let so = lines_alike text whole.last.above in
    let at = read_stage text is in
    let last = bytes "end" ∷ [] ∷ [] in
    record {
      before = so.before;
      held = so.held;
      after = so.after ++ last;
      before' = before_of s;
      held' = written s Block.Has;
      after' = after_of s ++ last;
      lines = so.lines ∙ ap (λ (l : List ℕ). so.before ++ so.held ++ so.after ++ split 10 (l ++ (10 ∷ []))) whole.is_end.is_end ∙ append_assoc (so.before ++ so.held) so.after last;
      lines' = text_lines s (omega (arith, at)) (blocks_good (read_sound text is) (read_goals text is) at (read_some text is));
      above = so.above;
      reordered = so.reordered;
      all_has = so.all_has;
      below = each_join so.below (Each.more (line_own (bytes "end")) (each_one (line_own [])));
    }

-- Its policy can be read.
pub read_readable : (text : List ℕ) {s : Said} → read_policy text ≡ read s → Readable s
read_readable text {s} is = record {
  sound = read_sound text is;
  at_goals = read_stage text is;
  some_goal = read_some text is;
  no_empty_goal = (read_goals text is).each;
  short = omega (arith, spelled_length text is, ((policy_read_exact text s).0 is).last.fits);
}

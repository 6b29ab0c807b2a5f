-- `mention_field` has four words for each mention.
use Rattle.std.proofs.Common.{map, List, ℕ, ap, Bor}
use Rattle.showing.specs.Fields.{field}
use Rattle.wording.specs.Mentions.{mention_words}
use Rattle.wording.specs.MentionLaws.{mention_made}
use Rattle.wording.proofs.mention_field.Goals as goal
use Rattle.wording.proofs.mention_field.Goals.{in-SumText, in-MergeText, in-Judging}

pub returns : goal.returns
unfolding mention_words field
returns c = elim c.match-mention.branch [
  | in-SumText w ↦ mention_made c.args.which w.in-SumText.is (ap (map (λ (word : Bor (List ℕ)). word.now)) w.words-is) c.nth_field.ensures
  | in-MergeText w ↦ mention_made c.args.which w.in-MergeText.is (ap (map (λ (word : Bor (List ℕ)). word.now)) w.words-is) c.nth_field.ensures
  | in-Judging w ↦ mention_made c.args.which w.in-Judging.is (ap (map (λ (word : Bor (List ℕ)). word.now)) w.words-is) c.nth_field.ensures
]

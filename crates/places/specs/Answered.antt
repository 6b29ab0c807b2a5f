-- The refusal of a policy and a piece of evidence is that of the answer of `check`, and so is their bad line.
use Rattle.std.specs.Prelude.{Option, Some, None}
use Rattle.answering.specs.declared.Answer.{Answer}
use Rattle.walking.specs.declared.Refusal.{Refusal}

-- The refusal that an answer is; no other answer has any.
unfoldable pub refusal_in : Answer → Option Refusal
refusal_in (Answer.Safe roles assigns revokes goals pinned) = None
refusal_in (Answer.Attacked steps user name goal) = None
refusal_in (Answer.Unproved part number) = None
refusal_in (Answer.Broken step) = None
refusal_in (Answer.Short steps) = None
refusal_in (Answer.Refused refusal) = Some refusal

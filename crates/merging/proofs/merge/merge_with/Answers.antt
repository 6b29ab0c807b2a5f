-- `merge_with` reads policy one, typing one and policy two, each refusal at once, and hands what is read on.
use Rattle.std.proofs.Common.{ℕ, ◌≤◌, ◌-◌, List, ◌≡◌, sym, ap, ◌∙◌, length, drop, length-append, length-drop, arith}
use borrow.Rule.Slice.PartMut.{same_len_mid}
use Rattle.ledgers.specs.Ledger.{ledger_words}
use Rattle.reading.specs.Ledger.{ledger_says}
use Rattle.reading.specs.Told.{told, untold}
use Rattle.summing.specs.Layout.{policy_read, typing_read_lem, typing_refused}
use Rattle.summing.specs.Meeting.{meets_as, meets_leaving}
use Rattle.merging.specs.Merge.{merge_words}
use Rattle.merging.specs.Halves.{ledger_one, ledger_two, with_one, with_two, one_room, two_room, one_kept, read_one, read_two}
use Rattle.merging.specs.MergeOutcomes.{policy_one_refused, typing_one_refused, policy_two_refused, policies_read}
use Rattle.merging.proofs.merge.merge_with.Goals as goal

-- the memory stays as long as both ledgers
both : (memory words : List ℕ) → merge_words ≤ length memory → length words ≡ length (ledger_one memory) → merge_words ≤ length (with_one memory words)
both memory words enough long = omega (arith, one_room memory enough, length-append words (drop ledger_words memory), length-drop ledger_words memory)

still : (memory words : List ℕ) → merge_words ≤ length memory → length words ≡ length (ledger_two memory) → merge_words ≤ length (with_two memory words)
still memory words enough long = omega (arith, same_len_mid ledger_words (length memory - ledger_words) memory words long)

pub slice_bounds-read_policy-end-2 : goal.slice_bounds-read_policy-end-2
slice_bounds-read_policy-end-2 c = sym (one_room c.args.memory.now c.requires)

pub read_policy-requires : goal.read_policy-requires
read_policy-requires c = omega (arith, one_room c.args.memory.now c.requires)

pub returns-in-Err : goal.returns-in-Err
returns-in-Err c = meets_leaving (policy_one_refused _ _ _ _ _ (untold c.read_policy.ensures c.in-Err.is))

pub slice_bounds-roles-end : goal.slice_bounds-roles-end
slice_bounds-roles-end c = omega (arith, both c.args.memory.now c.read_policy.new.ledger c.requires c.read_policy.auto.ledger)

pub slice_bounds-roles-end-2 : goal.slice_bounds-roles-end-2
slice_bounds-roles-end-2 c = sym (one_room (with_one c.args.memory.now c.read_policy.new.ledger) (both c.args.memory.now c.read_policy.new.ledger c.requires c.read_policy.auto.ledger))

pub invariant_of-roles : goal.invariant_of-roles
invariant_of-roles c = let few = (told (read_one c.args.memory.now c.requires c.read_policy.ensures c.read_policy.auto.ledger) c.in-Ok.is).limited.roles in
    record { within = omega (arith, one_room (with_one c.args.memory.now c.read_policy.new.ledger) (both c.args.memory.now c.read_policy.new.ledger c.requires c.read_policy.auto.ledger), few) }

pub read_typing-requires : goal.read_typing-requires
read_typing-requires c = (told (read_one c.args.memory.now c.requires c.read_policy.ensures c.read_policy.auto.ledger) c.in-Ok.is).limited.roles

pub returns-in-Err-read_typing : goal.returns-in-Err-read_typing
returns-in-Err-read_typing c = meets_leaving (typing_one_refused _ _ _ _ _ (policy_read (told (read_one c.args.memory.now c.requires c.read_policy.ensures c.read_policy.auto.ledger) c.in-Ok.is)) (typing_refused _ _ _ (sym c.in-Err-read_typing.is ∙ c.read_typing.ensures)))

pub slice_bounds-read_policy-count : goal.slice_bounds-read_policy-count
slice_bounds-read_policy-count c = omega (arith, both c.args.memory.now c.read_policy.new.ledger c.requires c.read_policy.auto.ledger)

pub read_policy-requires-2 : goal.read_policy-requires-2
read_policy-requires-2 c = two_room (with_one c.args.memory.now c.read_policy.new.ledger) (both c.args.memory.now c.read_policy.new.ledger c.requires c.read_policy.auto.ledger)

pub returns-in-Err-read_policy : goal.returns-in-Err-read_policy
returns-in-Err-read_policy c = let t = typing_read_lem _ _ _ (sym c.in-Ok-read_typing.is ∙ c.read_typing.ensures) in
    meets_leaving (policy_two_refused _ _ _ _ _ (policy_read (told (read_one c.args.memory.now c.requires c.read_policy.ensures c.read_policy.auto.ledger) c.in-Ok.is)) t.is (untold c.read_policy-2.ensures c.in-Err-read_policy.is))

pub merge_typed-requires : goal.merge_typed-requires
merge_typed-requires c = (omega (arith, still (with_one c.args.memory.now c.read_policy.new.ledger) c.read_policy-2.new.ledger (both c.args.memory.now c.read_policy.new.ledger c.requires c.read_policy.auto.ledger) c.read_policy-2.auto.ledger), (told (read_one c.args.memory.now c.requires c.read_policy.ensures c.read_policy.auto.ledger) c.in-Ok.is).limited, (told c.read_policy-2.ensures c.in-Ok-read_policy.is).limited)

pub returns : goal.returns
returns c = let t = typing_read_lem _ _ _ (sym c.in-Ok-read_typing.is ∙ c.read_typing.ensures) in
    let q = told (read_two (with_one c.args.memory.now c.read_policy.new.ledger) (both c.args.memory.now c.read_policy.new.ledger c.requires c.read_policy.auto.ledger) c.read_policy-2.ensures c.read_policy-2.auto.ledger) c.in-Ok-read_policy.is in
    meets_as
    (policies_read _ _ _ _ _ (policy_read (told (read_one c.args.memory.now c.requires c.read_policy.ensures c.read_policy.auto.ledger) c.in-Ok.is)) t.is (policy_read q) (ap (λ (words : List ℕ). ledger_says words c.in-Ok.counts) (one_kept (with_one c.args.memory.now c.read_policy.new.ledger) (both c.args.memory.now c.read_policy.new.ledger c.requires c.read_policy.auto.ledger) c.read_policy-2.new.ledger)) t.laid)
    c.merge_typed.ensures

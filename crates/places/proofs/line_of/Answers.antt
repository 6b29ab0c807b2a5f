-- `line_of` is the part that the place names, of the text that it names.
use Rattle.places.specs.PlaceLaws.{evidence_inside, policy_inside, part_evidence, part_policy}
use Rattle.places.proofs.line_of.Goals as goal

pub slice_bounds-result-count : goal.slice_bounds-result-count
slice_bounds-result-count c = (evidence_inside _ _ _ c.place_of-place.ensures c.if-place.true).ordered

pub slice_bounds-result-start : goal.slice_bounds-result-start
slice_bounds-result-start c = (evidence_inside _ _ _ c.place_of-place.ensures c.if-place.true).ordered

pub slice_bounds-result-end : goal.slice_bounds-result-end
slice_bounds-result-end c = (evidence_inside _ _ _ c.place_of-place.ensures c.if-place.true).within

pub returns-then-place : goal.returns-then-place
returns-then-place c =
    let given = part_evidence c.args.policy.now c.args.evidence.now c.args.policy.ref_ptr c.args.evidence.ref_ptr c.place_of-place.ensures c.if-place.true in
    record { result_value = given.0; ref_ptr_value = given.1 }

pub slice_bounds-result-count-2 : goal.slice_bounds-result-count-2
slice_bounds-result-count-2 c = (policy_inside _ _ _ c.place_of-place.ensures c.if-place.false).ordered

pub slice_bounds-result-start-2 : goal.slice_bounds-result-start-2
slice_bounds-result-start-2 c = (policy_inside _ _ _ c.place_of-place.ensures c.if-place.false).ordered

pub slice_bounds-result-end-2 : goal.slice_bounds-result-end-2
slice_bounds-result-end-2 c = (policy_inside _ _ _ c.place_of-place.ensures c.if-place.false).within

pub returns : goal.returns
returns c =
    let given = part_policy c.args.policy.now c.args.evidence.now c.args.policy.ref_ptr c.args.evidence.ref_ptr c.place_of-place.ensures c.if-place.false in
    record { result_value = given.0; ref_ptr_value = given.1 }

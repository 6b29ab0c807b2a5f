-- `write_set` goes through the members; the invariant: what is written is the text of the roles passed.
use Rattle.std.proofs.Common.{◌+◌, ◌≤◌, length, true, [], ◌≡◌, sym, ap, ◌∙◌, arith}
use Rattle.roles.specs.Sets.{lowest_role}
use Rattle.text.specs.Forms.{bytes}
use Rattle.tables.specs.Listed.{rows_of}
use Rattle.writing.proofs.Buffers.{put_none, Wrote, wrote, written, wrote_none, wrote_as, wrote_more, wrote_within, room}
use Rattle.spelling.specs.TypingText.{set_text}
use Rattle.spelling.specs.Growth.{part_within, piece_room}
use Rattle.spelling.specs.TypingPieces.{member_text}
use Rattle.spelling.proofs.TypingSteps.{set_below, member_at, set_start, set_grows, set_some, set_none}
use Rattle.spelling.proofs.TypingLengths.{below_within}
use Rattle.spelling.proofs.Members.{passed_start, up_to, added, passed_next, passed_end}
use Rattle.spelling.proofs.write_set.Goals as goal
use Rattle.spelling.proofs.write_set.Goals.{in-None, in-Some+then-roles-role}

pub loop-role-init : goal.loop-role-init
loop-role-init c = rw (c.into_iter-role-iterator.ensures.into_iter_gives, c.roles-role-items.ensures) (0, passed_start _ _ _, wrote_as (sym (set_start _ _)) wrote_none)

pub slice_bounds-write_member-start : goal.slice_bounds-write_member-start
slice_bounds-write_member-start c =
    let fits : c.loop-role.at ≤ length c.args.out.now = omega (arith, c.loop-role.invariant.2.place, below_within _ _ _ c.requires.1, part_within (set_grows c.args.roles.words.now c.args.set) c.loop-role.invariant.0 c.args.roles.count c.loop-role.invariant.1.within) in
    wrote_within c.loop-role.invariant.2 fits

pub slice_bounds-write_member-count : goal.slice_bounds-write_member-count
slice_bounds-write_member-count c =
    let fits : c.loop-role.at ≤ length c.args.out.now = omega (arith, c.loop-role.invariant.2.place, below_within _ _ _ c.requires.1, part_within (set_grows c.args.roles.words.now c.args.set) c.loop-role.invariant.0 c.args.roles.count c.loop-role.invariant.1.within) in
    wrote_within c.loop-role.invariant.2 fits

pub write_member-at-requires : goal.write_member-at-requires
write_member-at-requires c =
    let here : Wrote (set_below c.args.roles.words.now c.args.set c.in-Some.role) c.args.out.now c.loop-role.at c.loop-role.out = wrote_as (up_to _ _ _ c.loop-role.invariant.1 (c.in-Some.ensures).steps c.if-roles-role.false) c.loop-role.invariant.2 in
    let added : member_text c.loop-role.some true c.row.result ≡ member_at c.args.roles.words.now c.args.set c.in-Some.role = added _ _ _ c.loop-role.invariant.1 (c.in-Some.ensures).steps c.if-roles-role.false c.row.ensures in
    let added-fits : c.loop-role.at + length (member_text c.loop-role.some true c.row.result) ≤ length c.args.out.now = rw added (piece_room (set_grows _ _) c.in-Some.role _ c.if-roles-role.false (below_within _ _ _ c.requires.1) here.place) in
    room (member_text c.loop-role.some true c.row.result) here added-fits

pub overflow_add-at : goal.overflow_add-at
overflow_add-at c =
    let here : Wrote (set_below c.args.roles.words.now c.args.set c.in-Some.role) c.args.out.now c.loop-role.at c.loop-role.out = wrote_as (up_to _ _ _ c.loop-role.invariant.1 (c.in-Some.ensures).steps c.if-roles-role.false) c.loop-role.invariant.2 in
    let added : member_text c.loop-role.some true c.row.result ≡ member_at c.args.roles.words.now c.args.set c.in-Some.role = added _ _ _ c.loop-role.invariant.1 (c.in-Some.ensures).steps c.if-roles-role.false c.row.ensures in
    let added-fits : c.loop-role.at + length (member_text c.loop-role.some true c.row.result) ≤ length c.args.out.now = rw added (piece_room (set_grows _ _) c.in-Some.role _ c.if-roles-role.false (below_within _ _ _ c.requires.1) here.place) in
    omega (arith, added-fits, c.write_member-at.ensures.0)

pub loop-role-preserved : goal.loop-role-preserved
loop-role-preserved c =
    let here : Wrote (set_below c.args.roles.words.now c.args.set c.in-Some.role) c.args.out.now c.loop-role.at c.loop-role.out = wrote_as (up_to _ _ _ c.loop-role.invariant.1 (c.in-Some.ensures).steps c.if-roles-role.false) c.loop-role.invariant.2 in
    let added : member_text c.loop-role.some true c.row.result ≡ member_at c.args.roles.words.now c.args.set c.in-Some.role = added _ _ _ c.loop-role.invariant.1 (c.in-Some.ensures).steps c.if-roles-role.false c.row.ensures in
    let more = wrote_as added (wrote c.write_member-at.ensures) in (
      c.in-Some.role + 1,
      passed_next _ _ _ c.loop-role.invariant.1 (c.in-Some.ensures).steps c.if-roles-role.false,
      wrote_as ((set_grows _ _).next c.in-Some.role) (wrote_more here more),
    )

pub returns-then-some : goal.returns-then-some
returns-then-some c =
    let last : c.args.roles.count ≤ lowest_role c.loop-role.role-iterator.left = elim c.match-next.branch [
      | in-None w ↦ omega (arith, c.requires.0, (w.in-None.ensures).steps.none)
      | in-Some+then-roles-role w ↦ omega (arith, (w.in-Some.ensures).steps.lowest, w.if-roles-role.true)
    ] in
    let past = passed_end _ _ _ c.loop-role.invariant.1 last in
    let end : Wrote (set_below c.args.roles.words.now c.args.set c.args.roles.count) c.args.out.now c.loop-role.at c.loop-role.out = wrote_as past.1 c.loop-role.invariant.2 in
    written (wrote_as (set_some _ _ _ _ (omega arith) (omega arith) past.0 c.if-some.true) end)

pub write_bytes-requires : goal.write_bytes-requires
write_bytes-requires c =
    let last : c.args.roles.count ≤ lowest_role c.loop-role.role-iterator.left = elim c.match-next.branch [
      | in-None w ↦ omega (arith, c.requires.0, (w.in-None.ensures).steps.none)
      | in-Some+then-roles-role w ↦ omega (arith, (w.in-Some.ensures).steps.lowest, w.if-roles-role.true)
    ] in
    let past = passed_end _ _ _ c.loop-role.invariant.1 last in
    let end : Wrote (set_below c.args.roles.words.now c.args.set c.args.roles.count) c.args.out.now c.loop-role.at c.loop-role.out = wrote_as past.1 c.loop-role.invariant.2 in
    let none : (set_below c.args.roles.words.now c.args.set c.args.roles.count ≡ []) × (bytes "-" ≡ set_text (rows_of c.args.roles) c.args.set) = set_none _ _ _ _ (omega arith) (omega arith) past.0 c.if-some.false in
    let untouched : c.loop-role.out ≡ c.args.out.now = (wrote_as none.0 end).held ∙ put_none _ in
    omega (arith, ap length untouched, ap length none.1, c.requires)

pub returns : goal.returns
returns c =
    let last : c.args.roles.count ≤ lowest_role c.loop-role.role-iterator.left = elim c.match-next.branch [
      | in-None w ↦ omega (arith, c.requires.0, (w.in-None.ensures).steps.none)
      | in-Some+then-roles-role w ↦ omega (arith, (w.in-Some.ensures).steps.lowest, w.if-roles-role.true)
    ] in
    let past = passed_end _ _ _ c.loop-role.invariant.1 last in
    let end : Wrote (set_below c.args.roles.words.now c.args.set c.args.roles.count) c.args.out.now c.loop-role.at c.loop-role.out = wrote_as past.1 c.loop-role.invariant.2 in
    let none : (set_below c.args.roles.words.now c.args.set c.args.roles.count ≡ []) × (bytes "-" ≡ set_text (rows_of c.args.roles) c.args.set) = set_none _ _ _ _ (omega arith) (omega arith) past.0 c.if-some.false in
    let untouched : c.loop-role.out ≡ c.args.out.now = (wrote_as none.0 end).held ∙ put_none _ in
    let dash : Wrote (bytes "-") c.args.out.now c.write_bytes.result c.write_bytes.new.out = rw untouched at (wrote c.write_bytes.ensures) in
    written (wrote_as none.1 dash)

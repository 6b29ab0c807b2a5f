-- `write_typing` goes through the roles; the invariant: wherever the header was put, it and the lines of the roles passed are put now.
use Rattle.std.proofs.Common.{◌+◌, ◌≤◌, length, ap, arith}
use Rattle.roles.specs.Sets.{empty_set}
use Rattle.model.specs.Meaning.{meaning}
use Rattle.text.specs.Forms.{bytes}
use Rattle.tables.specs.Listed.{rows_of}
use Rattle.writing.proofs.Buffers.{Wrote, back, wrote, written, wrote_as, wrote_more, wrote_within, room}
use Rattle.spelling.specs.TypingText.{typing_text}
use Rattle.spelling.specs.Growth.{piece_room}
use Rattle.spelling.proofs.TypingSteps.{lines_below, line_at, lines_start, lines_grow, text_end}
use Rattle.spelling.proofs.TypingLengths.{lines_within}
use Rattle.spelling.proofs.write_typing.Goals as goal

pub write_bytes-at-requires : goal.write_bytes-at-requires
write_bytes-at-requires c = omega (arith, ap length (lines_start c.args.roles.count c.args.roles.words.now (meaning c.args.t)), lines_within c.args.roles.count c.args.roles.words.now c.args.t 0 (omega arith) c.requires.1)

pub loop-role-init : goal.loop-role-init
loop-role-init c = λ buffer header. wrote_as (lines_start _ _ _) header

pub slice_bounds-write_row-count : goal.slice_bounds-write_row-count
slice_bounds-write_row-count c =
    let done : Wrote (lines_below c.args.roles.count c.args.roles.words.now (meaning c.args.t) c.loop-role.role) c.args.out.now c.loop-role.at c.loop-role.out = c.loop-role.invariant _ (wrote c.write_bytes-at.ensures) in
    let fits : c.loop-role.at + 4 ≤ length c.args.out.now = omega (arith, done.place, lines_within c.args.roles.count c.args.roles.words.now c.args.t c.loop-role.role (omega arith) c.requires.1) in
    wrote_within done (omega (arith, fits))

pub write_row-at-requires : goal.write_row-at-requires
unfolding meaning empty_set line_at
write_row-at-requires c =
    let done : Wrote (lines_below c.args.roles.count c.args.roles.words.now (meaning c.args.t) c.loop-role.role) c.args.out.now c.loop-role.at c.loop-role.out = c.loop-role.invariant _ (wrote c.write_bytes-at.ensures) in
    let line_fits : c.loop-role.at + length (line_at c.args.roles.count c.args.roles.words.now (meaning c.args.t) c.loop-role.role) ≤ length c.args.out.now = let all = lines_within c.args.roles.count c.args.roles.words.now c.args.t c.args.roles.count (omega arith) c.requires.1 in
    piece_room (lines_grow _ _ _) c.loop-role.role c.args.roles.count c.loop-role-test.true (omega arith) done.place in
    (c.requires.0, c.loop-role-test.true, room (line_at c.args.roles.count c.args.roles.words.now (meaning c.args.t) c.loop-role.role) done line_fits)

pub overflow_add-at : goal.overflow_add-at
unfolding meaning empty_set line_at
overflow_add-at c =
    let done : Wrote (lines_below c.args.roles.count c.args.roles.words.now (meaning c.args.t) c.loop-role.role) c.args.out.now c.loop-role.at c.loop-role.out = c.loop-role.invariant _ (wrote c.write_bytes-at.ensures) in
    let line_fits : c.loop-role.at + length (line_at c.args.roles.count c.args.roles.words.now (meaning c.args.t) c.loop-role.role) ≤ length c.args.out.now = let all = lines_within c.args.roles.count c.args.roles.words.now c.args.t c.args.roles.count (omega arith) c.requires.1 in
    piece_room (lines_grow _ _ _) c.loop-role.role c.args.roles.count c.loop-role-test.true (omega arith) done.place in
    omega (arith, line_fits, c.write_row-at.ensures.0)

pub loop-role-preserved : goal.loop-role-preserved
unfolding line_at meaning empty_set
loop-role-preserved c = let line = wrote {text = line_at c.args.roles.count c.args.roles.words.now (meaning c.args.t) c.loop-role.role} c.write_row-at.ensures in
    λ buffer header. wrote_as ((lines_grow _ _ _).next c.loop-role.role) (wrote_more (c.loop-role.invariant buffer header) line)

pub slice_bounds-write_bytes-count : goal.slice_bounds-write_bytes-count
slice_bounds-write_bytes-count c =
    let done : Wrote (lines_below c.args.roles.count c.args.roles.words.now (meaning c.args.t) c.loop-role.role) c.args.out.now c.loop-role.at c.loop-role.out = c.loop-role.invariant _ (wrote c.write_bytes-at.ensures) in
    let fits : c.loop-role.at + 4 ≤ length c.args.out.now = omega (arith, done.place, lines_within c.args.roles.count c.args.roles.words.now c.args.t c.loop-role.role (omega arith) c.requires.1) in
    wrote_within done (omega (arith, fits))

pub write_bytes-requires : goal.write_bytes-requires
write_bytes-requires c =
    let done : Wrote (lines_below c.args.roles.count c.args.roles.words.now (meaning c.args.t) c.loop-role.role) c.args.out.now c.loop-role.at c.loop-role.out = c.loop-role.invariant _ (wrote c.write_bytes-at.ensures) in
    let fits : c.loop-role.at + 4 ≤ length c.args.out.now = omega (arith, done.place, lines_within c.args.roles.count c.args.roles.words.now c.args.t c.loop-role.role (omega arith) c.requires.1) in
    room (bytes "end\n") done fits

pub overflow_add-result : goal.overflow_add-result
overflow_add-result c =
    let done : Wrote (lines_below c.args.roles.count c.args.roles.words.now (meaning c.args.t) c.loop-role.role) c.args.out.now c.loop-role.at c.loop-role.out = c.loop-role.invariant _ (wrote c.write_bytes-at.ensures) in
    let fits : c.loop-role.at + 4 ≤ length c.args.out.now = omega (arith, done.place, lines_within c.args.roles.count c.args.roles.words.now c.args.t c.loop-role.role (omega arith) c.requires.1) in
    omega (arith, fits)

pub returns : goal.returns
returns c =
    let done : Wrote (lines_below c.args.roles.count c.args.roles.words.now (meaning c.args.t) c.loop-role.role) c.args.out.now c.loop-role.at c.loop-role.out = c.loop-role.invariant _ (wrote c.write_bytes-at.ensures) in
    let ended : Wrote (typing_text (rows_of c.args.roles) c.args.t) c.args.out.now (c.loop-role.at + c.write_bytes.result) (back c.loop-role.at c.loop-role.out c.write_bytes.new.out) = wrote_as (text_end _ _ _ _ (omega arith) (omega arith)) (wrote_more done (wrote c.write_bytes.ensures)) in
    written ended

pub slice_bounds-write_row-start : goal.slice_bounds-write_row-start
slice_bounds-write_row-start c =
    let done : Wrote (lines_below c.args.roles.count c.args.roles.words.now (meaning c.args.t) c.loop-role.role) c.args.out.now c.loop-role.at c.loop-role.out = c.loop-role.invariant _ (wrote c.write_bytes-at.ensures) in
    let fits : c.loop-role.at + 4 ≤ length c.args.out.now = omega (arith, done.place, lines_within c.args.roles.count c.args.roles.words.now c.args.t c.loop-role.role (omega arith) c.requires.1) in
    wrote_within done (omega (arith, fits))

pub slice_bounds-write_bytes-start : goal.slice_bounds-write_bytes-start
slice_bounds-write_bytes-start c =
    let done : Wrote (lines_below c.args.roles.count c.args.roles.words.now (meaning c.args.t) c.loop-role.role) c.args.out.now c.loop-role.at c.loop-role.out = c.loop-role.invariant _ (wrote c.write_bytes-at.ensures) in
    let fits : c.loop-role.at + 4 ≤ length c.args.out.now = omega (arith, done.place, lines_within c.args.roles.count c.args.roles.words.now c.args.t c.loop-role.role (omega arith) c.requires.1) in
    wrote_within done (omega (arith, fits))

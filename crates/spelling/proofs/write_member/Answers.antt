-- `write_member` goes by the two cases of a member's text; a later name is written past its comma.
use Rattle.std.proofs.Common.{◌≤◌, length, true, ◌++◌, ◌≡◌, refl, sym, arith}
use Rattle.text.specs.Forms.{bytes}
use Rattle.writing.specs.Written.{spelled}
use Rattle.writing.proofs.Buffers.{Wrote, wrote, written, wrote_as, wrote_more, wrote_within, room}
use Rattle.writing.specs.Spelling.{spelled_length}
use Rattle.spelling.specs.TypingPieces.{member_text}
use Rattle.spelling.proofs.TypingSteps.{member_first, member_later}
use Rattle.spelling.proofs.write_member.Goals as goal

pub write_name-requires : goal.write_name-requires
write_name-requires c = rw (member_first _ refl c.if-not-some.true) at c.requires

pub returns-then-not-some : goal.returns-then-not-some
returns-then-not-some c = written (wrote_as (sym (member_first _ refl c.if-not-some.true)) (wrote c.write_name.ensures))

pub write_bytes-comma-requires : goal.write_bytes-comma-requires
write_bytes-comma-requires c =
    let later : member_text c.args.some true c.args.name ≡ bytes "," ++ spelled c.args.name = member_later _ refl c.if-not-some.false in
    let fits : length (bytes "," ++ spelled c.args.name) ≤ length c.args.out.now = rw later at c.requires in
    omega (arith, fits)

pub slice_bounds-write_name-count : goal.slice_bounds-write_name-count
slice_bounds-write_name-count c =
    let later : member_text c.args.some true c.args.name ≡ bytes "," ++ spelled c.args.name = member_later _ refl c.if-not-some.false in
    let fits : length (bytes "," ++ spelled c.args.name) ≤ length c.args.out.now = rw later at c.requires in
    let comma : Wrote (bytes ",") c.args.out.now c.write_bytes-comma.result c.write_bytes-comma.new.out = wrote c.write_bytes-comma.ensures in
    wrote_within comma (omega (arith, comma.place, fits))

pub write_name-requires-2 : goal.write_name-requires-2
write_name-requires-2 c =
    let later : member_text c.args.some true c.args.name ≡ bytes "," ++ spelled c.args.name = member_later _ refl c.if-not-some.false in
    let fits : length (bytes "," ++ spelled c.args.name) ≤ length c.args.out.now = rw later at c.requires in
    let comma : Wrote (bytes ",") c.args.out.now c.write_bytes-comma.result c.write_bytes-comma.new.out = wrote c.write_bytes-comma.ensures in
    room (spelled c.args.name) comma (omega (arith, comma.place, fits))

pub overflow_add-result : goal.overflow_add-result
overflow_add-result c = omega (arith, c.write_name-2.ensures, c.write_bytes-comma.ensures, spelled_length c.args.name)

pub returns : goal.returns
returns c =
    let later : member_text c.args.some true c.args.name ≡ bytes "," ++ spelled c.args.name = member_later _ refl c.if-not-some.false in
    let comma : Wrote (bytes ",") c.args.out.now c.write_bytes-comma.result c.write_bytes-comma.new.out = wrote c.write_bytes-comma.ensures in
    written (wrote_as (sym later) (wrote_more comma (wrote c.write_name-2.ensures)))

pub slice_bounds-write_name-start : goal.slice_bounds-write_name-start
slice_bounds-write_name-start c =
    let later : member_text c.args.some true c.args.name ≡ bytes "," ++ spelled c.args.name = member_later _ refl c.if-not-some.false in
    let fits : length (bytes "," ++ spelled c.args.name) ≤ length c.args.out.now = rw later at c.requires in
    let comma : Wrote (bytes ",") c.args.out.now c.write_bytes-comma.result c.write_bytes-comma.new.out = wrote c.write_bytes-comma.ensures in
    wrote_within comma (omega (arith, comma.place, fits))

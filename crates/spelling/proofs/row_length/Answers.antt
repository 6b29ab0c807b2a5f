-- `row_length` adds the lengths of a line's parts.
use Rattle.std.proofs.Common.{◌*◌, ◌≤◌, length, drop, ap, arith}
use Rattle.tables.specs.declared.Name.{Name}
use Rattle.tables.specs.Names.{row_of}
use Rattle.tables.specs.Listed.{rows_of}
use Rattle.writing.specs.Written.{spelled}
use Rattle.writing.specs.Spelling.{spelled_length}
use Rattle.spelling.proofs.TypingLengths.{set_most, row_length}
use Rattle.spelling.proofs.row_length.Goals as goal

pub overflow_add-result : goal.overflow_add-result
overflow_add-result c =
    let parts : (c.name_length-name.result ≤ 32) × (c.set_length.result ≤ 4225) = let name = spelled_length c.row.result in
    let set = set_most c.args.roles.words.now c.args.plus c.args.roles.count in
    (omega (arith, c.name_length-name.ensures), omega (arith, c.set_length.ensures, c.requires)) in
    omega (arith, parts)

pub overflow_add-result-2 : goal.overflow_add-result-2
overflow_add-result-2 c =
    let parts : (c.name_length-name.result ≤ 32) × (c.set_length.result ≤ 4225) = let name = spelled_length c.row.result in
    let set = set_most c.args.roles.words.now c.args.plus c.args.roles.count in
    (omega (arith, c.name_length-name.ensures), omega (arith, c.set_length.ensures, c.requires)) in
    let last : c.set_length-2.result ≤ 4225 = let set = set_most c.args.roles.words.now c.args.minus c.args.roles.count in
    omega (arith, c.set_length-2.ensures, c.requires) in
    omega (arith, parts, last)

pub overflow_add-result-3 : goal.overflow_add-result-3
overflow_add-result-3 c =
    let parts : (c.name_length-name.result ≤ 32) × (c.set_length.result ≤ 4225) = let name = spelled_length c.row.result in
    let set = set_most c.args.roles.words.now c.args.plus c.args.roles.count in
    (omega (arith, c.name_length-name.ensures), omega (arith, c.set_length.ensures, c.requires)) in
    let last : c.set_length-2.result ≤ 4225 = let set = set_most c.args.roles.words.now c.args.minus c.args.roles.count in
    omega (arith, c.set_length-2.ensures, c.requires) in
    omega (arith, parts, last)

pub returns : goal.returns
returns c label = omega (
  arith,
  ap (λ (name : Name). length (spelled name)) c.row.ensures,
  c.name_length-name.ensures,
  c.set_length.ensures,
  c.set_length-2.ensures,
  row_length (rows_of c.args.roles) (row_of (drop (4 * c.args.role) c.args.roles.words.now)) label c.args.plus c.args.minus,
)

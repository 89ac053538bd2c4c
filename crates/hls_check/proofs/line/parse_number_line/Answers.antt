-- A line has the word and one number exactly if a number follows the word and nothing follows the number.
use Rattle.std.proofs.Common.{◌≡◌, ◌<◌, length, arith}
use Rattle.std.proofs.lemmas.Bool.Decides.{nat_tests}
use Rattle.hls_check.proofs.LineKinds.{no_number, number_read, more_behind}
use Rattle.hls_check.proofs.line.parse_number_line.Goals as goal

pub returns-in_default-take_number : goal.returns-in_default-take_number
returns-in_default-take_number c =
    no_number c.args.line.now c.args.word.now c.in-Some.digits.now c.in-Some.ensures c.in_default-take_number.ensures

pub returns-then-is_empty : goal.returns-then-is_empty
returns-then-is_empty c =
    let ended : length c.in-Some-take_number.rest.now ≡ 0 = grind (arith, nat_tests) in
    number_read c.args.line.now c.args.word.now c.in-Some.digits.now c.in-Some-take_number.number c.in-Some-take_number.rest.now
    c.in-Some.ensures c.in-Some-take_number.ensures ended

pub returns-else-is_empty : goal.returns-else-is_empty
returns-else-is_empty c =
    let some : 0 < length c.in-Some-take_number.rest.now = grind (arith, nat_tests) in
    more_behind c.args.line.now c.args.word.now c.in-Some.digits.now c.in-Some-take_number.number c.in-Some-take_number.rest.now
    c.in-Some.ensures c.in-Some-take_number.ensures some

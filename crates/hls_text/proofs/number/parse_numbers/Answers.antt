-- The numbers that were read are those of the line once nothing follows the last one. If a number or a space is missing,
-- the line isn't one of numbers.
use Rattle.std.proofs.Common.{◌≡◌, ◌<◌, length, arith}
use Rattle.std.proofs.lemmas.Bool.Decides.{nat_tests}
use Rattle.hls_text.proofs.Words.{none_read, read_more, read_last, no_number_there, no_space_there}
use Rattle.hls_text.proofs.number.parse_numbers.Goals as goal

pub loop-number-init : goal.loop-number-init
loop-number-init c = rw c.new-numbers.ensures.items (none_read c.args.line.now)

pub returns-in_default : goal.returns-in_default
returns-in_default c =
    no_number_there c.args.line.now c.loop-number.numbers.items c.loop-number.rest.now c.loop-number.invariant c.in_default.ensures

pub returns-then-is_empty : goal.returns-then-is_empty
returns-then-is_empty c =
    let ended : length c.in-Some.after.now ≡ 0 = grind (arith, nat_tests) in
    rw c.in_ok-push.ensures.items
    (read_last c.args.line.now c.loop-number.numbers.items c.loop-number.rest.now c.in-Some.number c.in-Some.after.now c.loop-number.invariant c.in-Some.ensures ended)

pub returns-in_default-take_prefix : goal.returns-in_default-take_prefix
returns-in_default-take_prefix c =
    let some : 0 < length c.in-Some.after.now = grind (arith, nat_tests) in
    no_space_there c.args.line.now c.loop-number.numbers.items c.loop-number.rest.now c.in-Some.number c.in-Some.after.now c.loop-number.invariant c.in-Some.ensures some c.in_default-take_prefix.ensures

pub loop-number-preserved : goal.loop-number-preserved
loop-number-preserved c =
    rw c.in_ok-push.ensures.items
    (read_more c.args.line.now c.loop-number.numbers.items c.loop-number.rest.now c.in-Some.number c.in-Some.after.now c.in-Some-take_prefix.next.now c.loop-number.invariant c.in-Some.ensures c.in-Some-take_prefix.ensures)

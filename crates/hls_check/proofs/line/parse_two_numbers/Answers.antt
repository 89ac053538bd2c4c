-- A line has the word and two numbers exactly if after the word a number, a space and one more number follow, and nothing else.
-- The cases differ by what is missing first.
use Rattle.hls_check.proofs.LineKinds.{no_first, no_space, no_second, two_read}
use Rattle.hls_check.proofs.line.parse_two_numbers.Goals as goal

pub returns-in_default-take_number : goal.returns-in_default-take_number
returns-in_default-take_number c =
    no_first c.args.line.now c.args.word.now c.in-Some.numbers.now c.in-Some.ensures c.in_default-take_number.ensures

pub returns-in_default-take_prefix : goal.returns-in_default-take_prefix
returns-in_default-take_prefix c =
    no_space c.args.line.now c.args.word.now c.in-Some.numbers.now c.in-Some-take_number.first c.in-Some-take_number.space.now
    c.in-Some.ensures c.in-Some-take_number.ensures c.in_default-take_prefix.ensures

pub returns-in-Some-parse_number_line : goal.returns-in-Some-parse_number_line
returns-in-Some-parse_number_line c =
    two_read c.args.line.now c.args.word.now c.in-Some.numbers.now c.in-Some-take_number.first c.in-Some-parse_number_line.second
    c.in-Some-take_number.space.now c.in-Some-take_prefix.rest.now
    c.in-Some.ensures c.in-Some-take_number.ensures c.in-Some-take_prefix.ensures c.in-Some-parse_number_line.ensures

pub returns-in-None : goal.returns-in-None
returns-in-None c =
    no_second c.args.line.now c.args.word.now c.in-Some.numbers.now c.in-Some-take_number.first
    c.in-Some-take_number.space.now c.in-Some-take_prefix.rest.now
    c.in-Some.ensures c.in-Some-take_number.ensures c.in-Some-take_prefix.ensures c.in-None.ensures

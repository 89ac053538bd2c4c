-- After the goal, the numbers of renditions and of places complete the header.
-- If one of the two lines is missing or bad, it is the text's first wrong line.
use Rattle.std.proofs.Common.{◌+◌, rules}
use Rattle.hls_check.specs.WrongLines.{IsFirstWrongLine}
use Rattle.hls_check.specs.Stages.{IsReadUpTo, AtRenditions, AtCount}
use Rattle.hls_check.proofs.Wrongs.{stops, at_count, at_places}
use Rattle.hls_check.proofs.certificate_head.read_counts.Goals as goal

pub returns-in_err-renditions-clause-head : goal.returns-in_err-renditions-clause-head
returns-in_err-renditions-clause-head c = λ bytes at.
    let wrong : IsFirstWrongLine bytes c.in_err-renditions.field-0.0.line =
    stops (AtRenditions c.args.goal) tt bytes c.args.text.now c.args.lines_read at c.in_err-renditions.field-0.0.line c.in_err-renditions.ensures.line in
    search rules

pub returns-in_err-count-clause-head : goal.returns-in_err-count-clause-head
returns-in_err-count-clause-head c = λ bytes at.
    let renditions : IsReadUpTo (AtCount c.args.goal c.in_ok-renditions.renditions) bytes c.in_ok-renditions.after_renditions.now (c.args.lines_read + 1) =
    at_count bytes c.args.text.now c.in_ok-renditions.after_renditions.now c.args.goal c.in_ok-renditions.renditions c.args.lines_read at
    c.in_ok-renditions.ensures.line in
    let wrong : IsFirstWrongLine bytes c.in_err-count.field-0.0.line =
    stops (AtCount c.args.goal c.in_ok-renditions.renditions) tt bytes c.in_ok-renditions.after_renditions.now (c.args.lines_read + 1) renditions
    c.in_err-count.field-0.0.line c.in_err-count.ensures.line in
    search rules

pub returns-clause-head : goal.returns-clause-head
returns-clause-head c = λ bytes at.
    at_places bytes c.in_ok-renditions.after_renditions.now c.in_ok-count.rest.now
    (record { goal = c.args.goal; renditions = c.in_ok-renditions.renditions; count = c.in_ok-count.count }) c.args.lines_read
    (at_count bytes c.args.text.now c.in_ok-renditions.after_renditions.now c.args.goal c.in_ok-renditions.renditions c.args.lines_read at
    c.in_ok-renditions.ensures.line)
    c.in_ok-count.ensures.line

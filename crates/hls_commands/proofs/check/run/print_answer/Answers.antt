-- After a failed write a beginning of the answer's line is printed; otherwise the whole line is, and the end says whether the answer was a
-- verdict or a fault.
use Rattle.std.proofs.Common.{◌∙◌}
use Rattle.hls_commands.proofs.AnswerLaws.{prints_beginning, prints_refused, prints_yes}
use Rattle.hls_commands.proofs.check.run.print_answer.Goals as goal

pub returns-then-not-write_whole-clause-prints : goal.returns-then-not-write_whole-clause-prints
returns-then-not-write_whole-clause-prints g c = λ held known.
    prints_beginning c.args.answer held _ _ (c.as_bytes.ensures.value ∙ c.as_str.ensures.value ∙ c.write_check_line-line.ensures) (c.if-not-write_whole.ensures.writes held known)

pub returns-in-Ok-clause-prints : goal.returns-in-Ok-clause-prints
returns-in-Ok-clause-prints g c = λ held known.
    prints_yes c.args.answer c.in-Ok.field-0 held _ _ c.in-Ok.is (c.as_bytes.ensures.value ∙ c.as_str.ensures.value ∙ c.write_check_line-line.ensures) (c.if-not-write_whole.ensures.writes held known)

pub returns-in-Err-clause-prints : goal.returns-in-Err-clause-prints
returns-in-Err-clause-prints g c = λ held known.
    prints_refused c.args.answer c.in-Err.field-0 held _ _ c.in-Err.is (c.as_bytes.ensures.value ∙ c.as_str.ensures.value ∙ c.write_check_line-line.ensures) (c.if-not-write_whole.ensures.writes held known)

-- If the write succeeds, the whole text is printed; otherwise a beginning of it is.
use Rattle.hls_commands.proofs.LintLaws.{prints_whole, prints_beginning}
use Rattle.hls_commands.proofs.lint.run.print_text.Goals as goal

pub returns-then-write_whole-clause-prints : goal.returns-then-write_whole-clause-prints
returns-then-write_whole-clause-prints g c = λ held known. prints_whole c.args.text.now c.args.done held _ (c.if-write_whole.ensures.writes held known)

pub returns-else-write_whole-clause-prints : goal.returns-else-write_whole-clause-prints
returns-else-write_whole-clause-prints g c = λ held known. prints_beginning c.args.text.now c.args.done held _ (c.if-write_whole.ensures.writes held known)

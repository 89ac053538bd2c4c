-- A run prints the answer to the text that it read; after a failed read it prints nothing.
use Rattle.hls_commands.proofs.AnswerLaws.{runs_printed, runs_unread}
use Rattle.hls_commands.proofs.check.run.run_check.Goals as goal

pub returns-in-Some-clause-runs : goal.returns-in-Some-clause-runs
returns-in-Some-clause-runs g c = λ stream held known empty. runs_printed stream held _ _ c.in-Some.answer _ (c.in-Some.ensures.reports stream known) (c.print_answer.ensures.prints held empty)

pub returns-in-None-clause-runs : goal.returns-in-None-clause-runs
returns-in-None-clause-runs g c = λ stream held known empty. runs_unread stream held _ _ (c.in-None.ensures.reports stream known) empty

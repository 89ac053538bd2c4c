-- Invalid arguments end a run in their usage fault, before anything is read or written. If memory runs out for the options, it ends
-- in `Memory`.
use Rattle.std.proofs.Common.{rules}
use Rattle.hls_commands.proofs.RunLaws.{runs_unused, runs_without_memory, told_wrong}
use Rattle.hls_commands.proofs.cut.run.run_cut.Goals as goal

pub returns-in-Err-Memory-clause-runs : goal.returns-in-Err-Memory-clause-runs
returns-in-Err-Memory-clause-runs g c = λ stream held known empty. runs_without_memory _ stream held _ _ known empty

pub returns-in-Err-clause-runs : goal.returns-in-Err-clause-runs
returns-in-Err-clause-runs g c = λ stream held known empty. runs_unused _ c.in-Err.fault stream held _ _ (told_wrong _ c.in-Err.fault (search rules) c.in-Err.ensures) known empty

pub returns-in-Err-clause-arguments : goal.returns-in-Err-clause-arguments
returns-in-Err-clause-arguments g c = told_wrong _ c.in-Err.fault (search rules) c.in-Err.ensures

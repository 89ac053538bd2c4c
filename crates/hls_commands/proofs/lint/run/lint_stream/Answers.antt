-- The result is the line about the whole text that was read. After a failed read there is none; if memory ran out, the fault says so.
use Rattle.hls_commands.proofs.LintLaws.{tells_line, tells_failed, tells_memory}
use Rattle.hls_commands.proofs.lint.run.lint_stream.Goals as goal

pub returns-in-Ok-clause-reports : goal.returns-in-Ok-clause-reports
returns-in-Ok-clause-reports g c = λ stream known.
    tells_line stream _ c.in-Ok.text _ c.lint_text.result (c.in-Ok.ensures.reads stream known) c.deref.ensures.value c.lint_text.ensures

pub returns-in-Err-ReadFailed-clause-reports : goal.returns-in-Err-ReadFailed-clause-reports
returns-in-Err-ReadFailed-clause-reports g c = λ stream known. tells_failed stream _ _ (c.in-Err-ReadFailed.ensures.reads stream known)

pub returns-in-Err-Memory-clause-reports : goal.returns-in-Err-Memory-clause-reports
returns-in-Err-Memory-clause-reports g c = λ stream known. tells_memory stream _ _ (c.in-Err-Memory.ensures.reads stream known)

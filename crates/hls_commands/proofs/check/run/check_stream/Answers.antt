-- The result is the answer to the whole text that was read. After a failed read there is none; if memory ran out, the answer says so.
use Rattle.hls_commands.proofs.AnswerLaws.{tells_answer, tells_failed, tells_memory}
use Rattle.hls_commands.proofs.check.run.check_stream.Goals as goal

pub returns-in-Ok-clause-reports : goal.returns-in-Ok-clause-reports
returns-in-Ok-clause-reports g c = λ stream known. tells_answer stream _ c.in-Ok.bytes _ c.check_text.result (c.in-Ok.ensures.reads stream known) c.deref.ensures.value c.check_text.ensures

pub returns-in-Err-ReadFailed-clause-reports : goal.returns-in-Err-ReadFailed-clause-reports
returns-in-Err-ReadFailed-clause-reports g c = λ stream known. tells_failed stream _ _ (c.in-Err-ReadFailed.ensures.reads stream known)

pub returns-in-Err-Memory-clause-reports : goal.returns-in-Err-Memory-clause-reports
returns-in-Err-Memory-clause-reports g c = λ stream known. tells_memory stream _ _ (c.in-Err-Memory.ensures.reads stream known)

-- The contract of a run of `check`: what it reads, writes and returns. (CheckParts has what its parts pass to each other.)
use Rattle.std.specs.Prelude.{◌≡◌, ℕ, List, [], ◌++◌, Option, Some, Result, Ok, Err}
use Rattle.hls_check_tables.specs.declared.cert_fault.CertFault.{CertFault}
use Rattle.hls_check_tables.specs.declared.cert_fault.CertFault.TheVariants.{Memory}
use Rattle.hls_check_tables.specs.declared.verdict.Verdict.{Verdict}
use Rattle.hls_io.specs.Failures.{FailuresRose}
use Rattle.hls_commands.specs.declared.check.run.CheckEnd.{CheckEnd}
use Rattle.hls_commands.specs.declared.check.run.CheckEnd.TheVariants.{Yes, Refused, ReadFailed, WriteFailed}
use Rattle.hls_commands.specs.Prefix.{IsPrefix}
use Rattle.hls_commands.specs.CheckAnswer.{AnswerOf, check_line}

-- the answer to a whole stream, with nothing left to read; or an allocation failed while it was read
abbrev pub AnswersStream : List ℕ → List ℕ → Result Verdict CertFault → Type 0
AnswersStream stream rest (Err Memory) = Unit {0}
AnswersStream stream rest answer = (rest ≡ []) × AnswerOf stream answer

-- `rest` of the stream is left unread, and `text` is written by how the run ended; a failed write reports the answer whose line it was
abbrev pub AnswersCheck : List ℕ → List ℕ → List ℕ → CheckEnd → Type 0
AnswersCheck stream rest text Yes = (verdict : Verdict) × AnswersStream stream rest (Ok verdict) × (text ≡ check_line (Ok verdict))
AnswersCheck stream rest text Refused = (f : CertFault) × AnswersStream stream rest (Err f) × (text ≡ check_line (Err f))
AnswersCheck stream rest text ReadFailed = text ≡ []
AnswersCheck stream rest text (WriteFailed answer) = AnswersStream stream rest answer × IsPrefix text (check_line answer)

-- a run of `check`: the bytes read from the stream and those left, and the text that was written after what was held
pub record RunsCheck (stream held : List ℕ) (left contents : Option (List ℕ)) (end : CheckEnd) : Type 0 where
  pub taken : List ℕ
  pub rest : List ℕ
  pub text : List ℕ
  pub left_is : left ≡ Some rest
  pub split : stream ≡ taken ++ rest
  pub contents_are : contents ≡ Some (held ++ text)
  pub answers : AnswersCheck stream rest text end

-- a failed read or write is reported, and only if one was counted; none is ignored
abbrev pub CountsFailures : CheckEnd → ℕ → ℕ → ℕ → ℕ → Type 0
CountsFailures ReadFailed read_old read_new write_old write_new = FailuresRose read_old read_new × (write_new ≡ write_old)
CountsFailures (WriteFailed answer) read_old read_new write_old write_new = (read_new ≡ read_old) × FailuresRose write_old write_new
CountsFailures end read_old read_new write_old write_new = (read_new ≡ read_old) × (write_new ≡ write_old)

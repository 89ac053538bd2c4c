-- For the proofs of this crate; no public clause cites it.
-- What the parts of a run of `check` pass to each other.
use Rattle.std.specs.Prelude.{◌≡◌, ℕ, List, ◌++◌, Option, Some, None, Result, Ok, Err}
use Rattle.hls_check_tables.specs.declared.cert_fault.CertFault.{CertFault}
use Rattle.hls_check_tables.specs.declared.cert_fault.CertFault.TheVariants.{Memory}
use Rattle.hls_check_tables.specs.declared.verdict.Verdict.{Verdict}
use Rattle.hls_check.specs.WrongLines.{IsCertificateText}
use Rattle.hls_io.specs.Failures.{FailuresRose}
use Rattle.hls_commands.specs.declared.check.run.CheckEnd.{CheckEnd}
use Rattle.hls_commands.specs.declared.check.run.CheckEnd.TheVariants.{Yes, Refused, ReadFailed, WriteFailed}
use Rattle.hls_commands.specs.Prefix.{IsPrefix}
use Rattle.hls_commands.specs.CheckAnswer.{AnswerOf, check_line}
use Rattle.hls_commands.specs.CheckRun.{AnswersStream}

-- the answer to a text; only reading a certificate's text can run out of memory
abbrev pub AnswersText : List ℕ → Result Verdict CertFault → Type 0
AnswersText bytes (Err Memory) = IsCertificateText bytes
AnswersText bytes answer = AnswerOf bytes answer

-- the answer to a stream, or none if a read failed
abbrev pub IsStreamVerdict : List ℕ → List ℕ → Option (Result Verdict CertFault) → Type 0
IsStreamVerdict stream rest None = Unit {0}
IsStreamVerdict stream rest (Some answer) = AnswersStream stream rest answer

-- some of the stream was read, and the answer is that of the whole stream; none is reported if a read failed
pub record ReportsAnswer (stream : List ℕ) (left : Option (List ℕ)) (reported : Option (Result Verdict CertFault)) : Type 0 where
  pub taken : List ℕ
  pub rest : List ℕ
  pub left_is : left ≡ Some rest
  pub split : stream ≡ taken ++ rest
  pub reports : IsStreamVerdict stream rest reported

-- a failed read was counted exactly if no answer is reported
abbrev pub CountsReadFailures : Option (Result Verdict CertFault) → ℕ → ℕ → Type 0
CountsReadFailures None old new = FailuresRose old new
CountsReadFailures (Some answer) old new = new ≡ old

-- An answer's line is written, whole or up to a failed write; the end is `Yes` exactly if the verdict is a plan or that there is
-- none.
abbrev pub Prints : Result Verdict CertFault → List ℕ → CheckEnd → Type 0
Prints (Ok verdict) text Yes = text ≡ check_line (Ok verdict)
Prints (Err f) text Refused = text ≡ check_line (Err f)
Prints answer text (WriteFailed reported) = (reported ≡ answer) × IsPrefix text (check_line answer)
Prints answer text end = ⊥

-- the answer's line, or a prefix of it, was written after what was held
pub record PrintsAnswer (answer : Result Verdict CertFault) (held : List ℕ) (contents : Option (List ℕ)) (end : CheckEnd) : Type 0 where
  pub text : List ℕ
  pub contents_are : contents ≡ Some (held ++ text)
  pub prints : Prints answer text end

-- a failed write was counted exactly if the end reports one
abbrev pub CountsPrinting : CheckEnd → ℕ → ℕ → Type 0
CountsPrinting (WriteFailed answer) old new = FailuresRose old new
CountsPrinting ReadFailed old new = ⊥
CountsPrinting end old new = new ≡ old

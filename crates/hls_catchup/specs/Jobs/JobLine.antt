-- The status of a job, as one line.
use Rattle.std.specs.Prelude.{ℕ, ◌+◌, List, ◌++◌, length, codes, Option, Some, None, Result, Ok, Err}
use Rattle.std.specs.Fmt.{decimal}
use Rattle.hls_core_laws.specs.State.{State}
use Rattle.hls_check_tables.specs.Certificates.{ClaimData, CutClaim, NoneClaim}
use Rattle.hls_catchup.specs.declared.fault.CatchFault.{CatchFault}
use Rattle.hls_catchup.specs.FaultName.{catch_fault_name}
use Rattle.hls_catchup.specs.Replies.{ReplyData}
use Rattle.hls_catchup.specs.declared.jobs.job.Job.{Job}
use Rattle.hls_catchup.specs.declared.jobs.job.Job.TheVariants.{Waiting, Running, Finished, Failed}
use Rattle.hls_catchup.specs.Jobs.Answers.{AnsweredData}
use Rattle.hls_catchup.specs.Jobs.Files.{certificate_of}

-- the version of a state: the number of log entries, those that precede this process included
abbrev pub served_version : State → ℕ
served_version s = s.config.base.version + length s.log

-- the end of a line: the version, and LF
abbrev pub version_end : ℕ → List ℕ
version_end version = codes " version " ++ decimal version ++ codes "\n"

-- the line of a claim: the cost of a plan, or that there is none, and the version
abbrev pub shown_line : ClaimData → ℕ → List ℕ
shown_line (CutClaim total plan prices) version = codes "cut " ++ decimal total ++ version_end version
shown_line (NoneClaim closed) version = codes "none" ++ version_end version

-- the line of a reply: the cost of its plan, or that there is none, and the version
abbrev pub reply_line : ReplyData → ℕ → List ℕ
reply_line reply version = shown_line (certificate_of reply.cut_result).shown version

-- the line of an answer: that of a reply, or the fault's name with the version
abbrev pub result_line : Result ReplyData CatchFault → ℕ → List ℕ
result_line (Ok reply) version = reply_line reply version
result_line (Err fault) version = codes "refused " ++ catch_fault_name fault ++ version_end version

-- the line of an answered request, with the version of the state that answered
abbrev pub answer_line : AnsweredData → List ℕ
answer_line a = result_line a.result (served_version a.state)

-- the line of a job's status; none if memory ran out
abbrev pub job_line : Job → Option (List ℕ)
job_line Waiting = Some (codes "waiting\n")
job_line Running = Some (codes "running\n")
job_line (Finished answered) = Some (answer_line answered)
job_line Failed = None

-- The replies about a job: that it was added or removed, its status, and its files.
use Rattle.std.specs.Prelude.{ℕ, List, [], ◌++◌, length, take, drop, Option, Some, None, option_map, Result, Ok, Err, codes}
use Rattle.std.specs.{Fmt.decimal, List.concat}
use Rattle.hls_http.specs.declared.response_parts.Status.TheVariants.{Done, Accepted, NoContent, BadRequest, Unavailable}
use Rattle.hls_http.specs.{Range.range_selection, ResponseText.{extra_line, refusal_body}}
use Rattle.hls_catchup.specs.{Replies.ReplyData, Resources.parts_in, Jobs.FaultName.job_fault_name, declared.fault.CatchFault.CatchFault}
use Rattle.hls_catchup.specs.Jobs.{Files.{certificate_file, master_file, playlist_file}, JobLine.{job_line, version_end}}
use Rattle.hls_api.specs.{Queries.query_fault_name, Types.{RangeSpec, JobFault, Job, QueryFault, JobFile}}
use Rattle.hls_api.specs.Responses.{ResponseData, fault_answer, list_answer, part_answer, text_answer, text_with}
use Rattle.hls_http.specs.declared.fault.HttpFault.TheVariants as http
use Rattle.hls_http.specs.declared.response_parts.ExtraField.TheVariants as extras
use Rattle.hls_catchup.specs.declared.jobs.job.Job.TheVariants as jobs
use Rattle.hls_api.specs.declared.route.JobFile.TheVariants as files

-- ---- added, removed

-- an invalid query is 400 with the name of its fault
abbrev pub query_answer : QueryFault → ResponseData
query_answer fault = text_answer BadRequest (refusal_body (query_fault_name fault))

-- the job's id, and the version (the number of log entries) of the state that it is answered from; or a full table
abbrev pub added_answer : ℕ → Result ℕ JobFault → ResponseData
added_answer version (Ok id) = text_with (extra_line (extras.Job id)) Accepted (codes "job " ++ (decimal id ++ version_end version))
added_answer version (Err fault) = text_answer Unavailable (refusal_body (job_fault_name fault))

-- a removed job has an empty reply (RFC 9110, section 15.3.5); an unknown job is not found
abbrev pub removed_answer : Result (Unit {0}) JobFault → ResponseData
removed_answer (Ok gone) = text_answer NoContent []
removed_answer (Err fault) = fault_answer http.NotFound

-- ---- the status of a job

-- the line of a job's status; none if it failed with an allocation failure, which has the out-of-memory reply
abbrev pub job_answer : Job → Option ResponseData
job_answer job = option_map (text_answer Done) (job_line job)

-- ---- files

-- all of a resource, or the range that is asked for; a missing resource is not found
abbrev pub resource_answer : Option (List ℕ) → RangeSpec → ResponseData
resource_answer None range = fault_answer http.NotFound
resource_answer (Some bytes) range = part_answer (λ from len. Some (take len (drop from bytes))) (length bytes) (range_selection range (length bytes))

-- a rendition's resource: its init section and then the programme's units, from the reply's own snapshot; none if the programme has
-- no plan
abbrev pub resource_of : ReplyData → ℕ → Option (List ℕ)
resource_of reply r = option_map concat (parts_in reply r)

-- a file of a reply; if the programme has no plan, the certificate is the only one
abbrev pub reply_answer : JobFile → RangeSpec → ReplyData → ResponseData
reply_answer files.Master range reply = list_answer (master_file reply)
reply_answer (files.List r) range reply = list_answer (playlist_file reply r)
reply_answer (files.Media r) range reply = resource_answer (resource_of reply r) range
reply_answer files.Certificate range reply = text_answer Done (certificate_file reply)

-- a file of a finished job: 404 if the job was refused
abbrev pub result_answer : JobFile → RangeSpec → Result ReplyData CatchFault → Option ResponseData
result_answer file range (Ok reply) = Some (reply_answer file range reply)
result_answer file range (Err fault) = Some (fault_answer http.NotFound)

-- a file of a job: 409 until it is finished, 404 if it was refused; none if it failed with an allocation failure
abbrev pub file_answer : JobFile → RangeSpec → Job → Option ResponseData
file_answer file range jobs.Waiting = Some (fault_answer http.Conflict)
file_answer file range jobs.Running = Some (fault_answer http.Conflict)
file_answer file range (jobs.Finished answered) = result_answer file range answered.result
file_answer file range jobs.Failed = None

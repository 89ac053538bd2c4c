-- The replies to players of a programme by its address: of the texts that were made of a right reply to the same request, if the state that
-- is seen has the programme.
use Rattle.std.specs.Prelude.{◌≡◌, ◌⊎◌, ℕ, nat_le, Bool, false, cond, List, Option, Some, None, Result, Ok, Err, codes, slice_get}
use Rattle.hls_http.specs.declared.fault.HttpFault.TheVariants as http
use Rattle.hls_http.specs.declared.response_parts.CachePolicy.TheVariants.{Brief}
use Rattle.hls_http.specs.declared.response_parts.Status.TheVariants.{Done, NotFound, Unavailable}
use Rattle.hls_http.specs.declared.response_parts.ExtraField.TheVariants as extras
use Rattle.hls_http.specs.ResponseText.{extra_line, refusal_body}
use Rattle.hls_places_laws.specs.declared.place.Place.{Place}
use Rattle.hls_places_laws.specs.Order.{time_of}
use Rattle.hls_core_laws.specs.Places.{places}
use Rattle.hls_catchup.specs.Canonical.{IsCanonicalOrFault}
use Rattle.hls_catchup.specs.declared.fault.CatchFault.{CatchFault}
use Rattle.hls_catchup.specs.declared.fault.CatchFault.TheVariants.{BeforeRecording}
use Rattle.hls_catchup.specs.FaultName.{catch_fault_name}
use Rattle.hls_catchup.specs.Replies.{IsAnswered, ReplyData}
use Rattle.hls_catchup.specs.Jobs.Files.{certificate_file}
use Rattle.hls_jobs.specs.Programmes.{master_file, programme_list_file}
use Rattle.hls_jobs.specs.Plans.{HasAddedPlan, HasFoundPlan}
use Rattle.hls_jobs.specs.declared.plans.FoundPlan.{FoundPlan}
use Rattle.hls_jobs.specs.declared.plans.FoundPlan.TheVariants.{Ready, Unfinished, Missing}
use Rattle.hls_api.specs.Types.{CatchupParams, CatchupQuery, ProgrammeFile, QueryFault, Request, State}
use Rattle.hls_api.specs.Queries.{catchup_params_of, request_for}
use Rattle.hls_api.specs.JobResponses.{query_answer}
use Rattle.hls_api.specs.Players.{with_policy}
use Rattle.hls_api.specs.Responses.{ResponseData, fault_answer, list_answer, text_answer, text_with}
use Rattle.hls_api.specs.declared.programme_responses.ProgrammeStart.{ProgrammeStart}
use Rattle.hls_api.specs.declared.programme_responses.ProgrammeStart.TheVariants.{Planned, Refused}
use Rattle.hls_api.specs.declared.catchup_query.QueryFault.TheVariants.{BadQuery}
use Rattle.hls_api.specs.declared.route.ProgrammeFile.TheVariants as programmes

-- ---- a programme that was planned

-- the reply with a file of a programme; if the programme has no plan, the certificate is its only file
abbrev pub programme_file_answer : ProgrammeFile → ReplyData → ResponseData
programme_file_answer programmes.Master reply = list_answer (master_file reply)
programme_file_answer (programmes.List r) reply = list_answer (programme_list_file reply r)
programme_file_answer programmes.Certificate reply = text_answer Done (certificate_file reply)

-- .. which caches keep for a second
abbrev pub programme_answer : ProgrammeFile → ReplyData → ResponseData
programme_answer file reply = with_policy Brief (programme_file_answer file reply)

-- 503 Busy for a programme whose plan isn't ready: caches keep it for a second, and clients try again after a second
abbrev pub busy_answer : ResponseData
busy_answer = with_policy Brief (text_with (extra_line (extras.Retry 1)) Unavailable (refusal_body (codes "Busy")))

-- the reply for what a table of plans has of a programme: a file of its texts, or Busy while there are none
abbrev pub ShowsFound : ProgrammeFile → FoundPlan → ResponseData → Type 0
ShowsFound file (Ready texts) shown = (reply : ReplyData) → texts.value ≡ Some reply → shown ≡ programme_answer file reply
ShowsFound file Unfinished shown = shown ≡ busy_answer
ShowsFound file Missing shown = shown ≡ busy_answer

-- ---- a programme that the state doesn't have

-- the first place of all, kept or not, is at or before the time
abbrev pub is_place_by : ℕ → Option Place → Bool
is_place_by time None = false
is_place_by time (Some first) = nat_le (time_of first) time

-- whether the first place of a state, kept or not, is at or before the time
abbrev pub has_begun_by : State → ℕ → Bool
has_begun_by s time = is_place_by time (slice_get (places s) 0)

-- the reply for a programme that a state doesn't have: 410 if its beginning was recorded and is gone, else 404 with the refusal's name
abbrev pub programme_refusal : State → Request → CatchFault → ResponseData
programme_refusal s request BeforeRecording =
    cond (has_begun_by s request.start_us) (fault_answer http.Gone) (text_answer NotFound (refusal_body (catch_fault_name BeforeRecording)))
programme_refusal s request fault = text_answer NotFound (refusal_body (catch_fault_name fault))

-- ---- the reply

-- what a request leads to in a state: if the state has its programme, the canonical request of that is planned, else it is refused
abbrev pub StartsRequest : State → Request → ProgrammeStart → Type 0
StartsRequest s request (Planned asked) = IsCanonicalOrFault s request (Ok asked)
StartsRequest s request (Refused shown) =
    (fault : CatchFault) × IsAnswered s request (Some (Err fault)) × (shown ≡ with_policy Brief (programme_refusal s request fault))

-- what parameters lead to in a state: times that the channel doesn't have are refused as in a catch-up request
abbrev pub StartsParams : State → Result CatchupParams QueryFault → ProgrammeStart → Type 0
StartsParams s (Ok params) start = StartsRequest s (request_for s params) start
StartsParams s (Err fault) start = start ≡ Refused (with_policy Brief (query_answer fault))

-- what a query for a programme leads to in a state: the canonical request to plan, or a refusal, with times by the state's epoch
abbrev pub StartsProgramme : State → CatchupQuery → ProgrammeStart → Type 0
StartsProgramme s query begun = StartsParams s (catchup_params_of s.config.epoch query) begun

-- the reply to a query that is invalid in any channel
abbrev pub invalid_answer : ResponseData
invalid_answer = with_policy Brief (query_answer BadQuery)

-- the reply shows what a table of plans had for the request as it was added for the client; or as it was found later, if it was unfinished then
abbrev pub ShowsPlan : ℕ → Request → ProgrammeFile → ResponseData → Type 0
ShowsPlan client request file shown =
    ((found : FoundPlan) × HasAddedPlan request client found × ShowsFound file found shown)
    ⊎ (HasAddedPlan request client Unfinished × ((found : FoundPlan) × HasFoundPlan request found × ShowsFound file found shown))

-- the reply for what a query led to: a file of the planned programme, or the refusal
abbrev pub ShowsStart : ℕ → ProgrammeFile → ProgrammeStart → ResponseData → Type 0
ShowsStart client file (Planned request) shown = ShowsPlan client request file shown
ShowsStart client file (Refused refusal) shown = shown ≡ refusal

-- the reply for a file of the programme that a client's query asks for, in a state
abbrev pub ShowsProgramme : ℕ → State → CatchupQuery → ProgrammeFile → ResponseData → Type 0
ShowsProgramme client s query file shown = (begun : ProgrammeStart) × StartsProgramme s query begun × ShowsStart client file begun shown

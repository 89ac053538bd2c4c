-- One request and its reply: the acts that it leads to, its effect on the table of jobs, and the reply that is due.
use Rattle.std.specs.Prelude.{◌≡◌, ◌≢◌, ◌⊎◌, ◌<◌, ◌≤◌, ◌+◌, ℕ, ⊤, Bool, true, false, cond, List, [], ◌∷◌, ◌++◌, length, Option, Some, None, Result, Ok, Err, codes}
use Rattle.std.specs.Option.{is_some}
use Rattle.httparse.specs.Grammar.{RequestHead, NeverHasRequest}
use Rattle.hls_core_laws.specs.{declared.event.Event.TheVariants.Finish, declared.refusal.Refusal.TheVariants.Memory}
use Rattle.hls_core.specs.FaultName.{name_of}
use Rattle.hls_http.specs.{declared.framing.BodyFraming.TheVariants.{Length, Size}, Heads.{ReadsLimitedHead, IsTooLarge}, Methods.method_of}
use Rattle.hls_http.specs.{declared.request_action.RequestAction.TheVariants.{Refuse, Ingest, Discard}, Bodies.{StepsThrough, ReadsLine}}
use Rattle.hls_http.specs.{Limits.discard_limit, Fields.{client_of_values, values}, Range.range_of_values, Requests.{framing_of_head, fields_of}}
use Rattle.hls_http.specs.Actions.{announced_len, action_by, sends_continue, sends_close}
use Rattle.hls_http.specs.ResponseText.{continue_text, is_success, out_of_memory_response}
use Rattle.hls_catchup.specs.{declared.fault.JobFault.TheVariants.UnknownJob, Jobs.JobLine.served_version, Jobs.Shared.{HasCounted, HasRemoved}}
use Rattle.hls_api.specs.Responses.{ResponseData, answer_text, fault_answer, finish_answer, media_answer, method_answer, metrics_answer, playlist_answer, status_answer, text_answer}
use Rattle.hls_api.specs.Types.{Refusal, State, StreamFault, Done, BodyFraming, HttpFault, RequestAction, RangeSpec, Method, BodyEnd, DiscardEnd, JobFault, Job, IngestStop, CatchupQuery, ProgrammeFile, QueryFault, Route, CatchupParams, IngestTarget, ServedChannel}
use Rattle.hls_api.specs.{declared.catchup_query.QueryFault.TheVariants.BadQuery, Faults.status_of, JobTable.{IsAddResult, IsGetResult}}
use Rattle.hls_api.specs.Acts.{Act, ActsChangeNothing, RecordsAdd, RecordsLook, RecordsRemove, RecordsSubmit}
use Rattle.hls_api.specs.{Ingest.{HandlesBody, Progress, IsBodyStop, counts_text}, Playlists.live_master_text}
use Rattle.hls_metrics.specs.declared.measured.Measured.{Measured}
use Rattle.hls_api.specs.Players.{init_answer, live_list_answer, path_master_answer, recent_list_answer, run_answer, segment_answer}
use Rattle.hls_playlists.specs.declared.media_uris.MediaUris.TheVariants.{Paths, Ranges}
use Rattle.hls_api.specs.Programmes.{ShowsProgramme, invalid_answer}
use Rattle.hls_api.specs.SinceLists.{since_answer}
use Rattle.hls_api.specs.JobResponses.{added_answer, query_answer, file_answer, removed_answer, job_answer}
use Rattle.hls_api.specs.Queries.{programme_query_in, query_in, request_for, catchup_params_of}
use Rattle.hls_api.specs.Routes.{allows, takes_ingest, is_to_head, path_of, query_of, removes_job, route_of}
use Rattle.hls_http.specs.declared.fault.HttpFault.TheVariants as http
use Rattle.hls_http.specs.declared.range_spec.RangeSpec.TheVariants as asks
use Rattle.hls_http.specs.declared.response_parts.Status.TheVariants as statuses
use Rattle.hls_http.specs.declared.end.BodyEnd.TheVariants as bodies
use Rattle.hls_http.specs.declared.end.DiscardEnd.TheVariants as discards
use Rattle.hls_api.specs.declared.ingest.IngestStop.TheVariants as ingest_stops
use Rattle.hls_api.specs.declared.route.Route.TheVariants as routes

-- what a request's head asks for
pub record RequestParams : Type 0 where
  pub route : Option Route
  pub method : Method
  pub query : List ℕ
  pub range : RangeSpec
  pub client : ℕ

-- what a head asks for in a channel: the route of its path, its method, its query, the range of its Range fields, and for which client
abbrev pub params_of : ServedChannel → RequestHead → RequestParams
params_of channel h = record {
  route = route_of channel (path_of h.target);
  method = method_of h.method;
  query = query_of h.target;
  range = range_of_values (values (codes "range") (fields_of h));
  client = client_of_values (values (codes "x-client") (fields_of h));
}

-- a request whose head was read: what it asks for, and what is done with it
pub record RoutedRequest : Type 0 where
  pub head : RequestHead
  pub asks : RequestParams
  pub action : RequestAction

-- HEAD is answered as GET without Range (RFC 9110, sections 9.3.2 and 14.2)
abbrev pub range_for : Bool → RangeSpec → RangeSpec
range_for to_head range = cond to_head asks.All range

-- ---- acts on the channel: at most one look or one event for each request other than an encoder's body. `a` are the acts before it,
-- and `b` those up to its end: no case allows more than it names

-- one look is added, and the reply is made of the state that it returned
abbrev pub RespondsWithState : List Act → List Act → (State → ResponseData) → ResponseData → Type 0
RespondsWithState a b shown answer = (s : State) × RecordsLook a s b × (answer ≡ shown s)

-- the event Finish of rendition r is submitted, without an allocation failure, and the reply is its outcome
abbrev pub FinishesRendition : List Act → ℕ → List Act → ResponseData → Type 0
FinishesRendition a r b answer = (done : Result Done Refusal) × RecordsSubmit a (Finish r) done b × (done ≢ Err Memory) × (answer ≡ finish_answer done)

-- one look is added, and `Shows` holds of the state that it returned and the reply
abbrev pub RespondsWithSome : List Act → List Act → (State → ResponseData → Type 0) → ResponseData → Type 0
RespondsWithSome a b Shows answer = (s : State) × RecordsLook a s b × Shows s answer

-- the acts and the reply for a file of a programme for a client: an invalid query is refused without a look, any other is answered from one look
abbrev pub HandlesProgramme : ℕ → Option CatchupQuery → ProgrammeFile → List Act → List Act → ResponseData → Type 0
HandlesProgramme client None file a b answer = (b ≡ a) × (answer ≡ invalid_answer)
HandlesProgramme client (Some query) file a b answer = RespondsWithSome a b (λ s shown. ShowsProgramme client s query file shown) answer

-- ---- acts on the table of jobs: one addition where a recording is asked for, one removal where a job is deleted, and no other

-- a job is added with the state s for the request of these parameters, and the reply is the result
pub record AddsJob (s : State) (params : CatchupParams) (a b : List Act) (answer : ResponseData) : Type 0 where
  pub result : Result ℕ JobFault
  pub asked : RecordsAdd a s (request_for s params) result b
  pub adds : IsAddResult s (request_for s params) result
  pub answer_is : answer ≡ added_answer (served_version s) result

-- parameters that aren't valid are refused without an act; valid ones add a job
abbrev pub AddsValidJob : State → Result CatchupParams QueryFault → List Act → List Act → ResponseData → Type 0
AddsValidJob s (Err fault) a b answer = (b ≡ a) × (answer ≡ query_answer fault)
AddsValidJob s (Ok params) a b answer = AddsJob s params a b answer

-- the state is looked at, and a job is added with it, with times by that state's epoch, which all states of the channel share
pub record AddsCatchupJob (query : CatchupQuery) (a b : List Act) (answer : ResponseData) : Type 0 where
  pub state : State
  pub looked : List Act
  pub looks : RecordsLook a state looked
  pub adds : AddsValidJob state (catchup_params_of state.config.epoch query) looked b answer

-- the acts and the reply for a catch-up request: an invalid query is refused without a look, any other adds a job after one look
abbrev pub HandlesCatchup : Option CatchupQuery → List Act → List Act → ResponseData → Type 0
HandlesCatchup None a b answer = (b ≡ a) × (answer ≡ query_answer BadQuery)
HandlesCatchup (Some query) a b answer = AddsCatchupJob query a b answer

-- the reply describes the job; an unknown job is not found, and an allocation failure has one reply
abbrev pub IsJobResponse : Result Job JobFault → (Job → Option ResponseData) → ResponseData → Type 0
IsJobResponse (Ok job) shown answer = shown job ≡ Some answer
IsJobResponse (Err UnknownJob) shown answer = answer ≡ fault_answer http.NotFound
IsJobResponse (Err fault) shown answer = ⊥

-- the reply is made of what a table of jobs returned for this id
abbrev pub RespondsWithJob : ℕ → (Job → Option ResponseData) → ResponseData → Type 0
RespondsWithJob id shown answer = (found : Result Job JobFault) × IsGetResult id found × IsJobResponse found shown answer

-- the reply about a job that exists: its status, or a file
abbrev pub shown_at : RequestParams → Route → Job → Option ResponseData
shown_at q (routes.Job id) job = job_answer job
shown_at q (routes.JobFile id file) job = file_answer file (range_for (is_to_head q.method) q.range) job
shown_at q route job = None

-- the reply about a job that exists: 405 if the route doesn't allow the method
abbrev pub shown_if : RequestParams → Route → Bool → Job → Option ResponseData
shown_if q route true job = shown_at q route job
shown_if q route false job = Some (method_answer route)

-- this job and no other is removed, and the reply is the result
pub record RemovesJob (id : ℕ) (a b : List Act) (answer : ResponseData) : Type 0 where
  pub result : Result (Unit {0}) JobFault
  pub asked : RecordsRemove a id result b
  pub removes : HasRemoved id result
  pub answer_is : answer ≡ removed_answer result

-- a request for a job removes it, if the flag says so; otherwise no act is added, and the reply describes the job or one of its files
abbrev pub ServesJob : RequestParams → Route → ℕ → List Act → ResponseData → List Act → Bool → Type 0
ServesJob q route id a answer b true = RemovesJob id a b answer
ServesJob q route id a answer b false = (b ≡ a) × RespondsWithJob id (shown_if q route (allows route q.method)) answer

-- ---- by the route

-- a route that players load
abbrev pub IsForPlayer : Route → Type 0
IsForPlayer routes.PathMaster = ⊤
IsForPlayer (routes.PathList r) = ⊤
IsForPlayer (routes.RecentList r us) = ⊤
IsForPlayer routes.Run = ⊤
IsForPlayer (routes.InitSection run r) = ⊤
IsForPlayer (routes.Segment run r first last) = ⊤
IsForPlayer (routes.Since start file) = ⊤
IsForPlayer route = ⊥

-- what a player's route shows of a state; none for another route
abbrev pub shown_to_player : RequestParams → Route → State → Option ResponseData
shown_to_player q routes.PathMaster s = Some (path_master_answer s)
shown_to_player q (routes.PathList r) s = Some (live_list_answer Paths s r)
shown_to_player q (routes.RecentList r us) s = Some (recent_list_answer us s r)
shown_to_player q routes.Run s = Some (run_answer s)
shown_to_player q (routes.InitSection run r) s = Some (init_answer s run r (range_for (is_to_head q.method) q.range))
shown_to_player q (routes.Segment run r first last) s = Some (segment_answer s run r first last (range_for (is_to_head q.method) q.range))
shown_to_player q (routes.Since start file) s = Some (since_answer s start file)
shown_to_player q route s = None

-- the acts and the reply for a request whose route allows the method; jobs and encoders' bodies have their own rules
abbrev pub IsServedBy : RequestParams → Route → List Act → ResponseData → List Act → Type 0
IsServedBy q (routes.Finish r) a answer b = FinishesRendition a r b answer
IsServedBy q routes.LiveMaster a answer b = RespondsWithState a b (λ s. playlist_answer (live_master_text s)) answer
IsServedBy q (routes.LiveList r) a answer b = RespondsWithState a b (λ s. live_list_answer Ranges s r) answer
IsServedBy q (routes.Media r) a answer b = RespondsWithState a b (λ s. media_answer s r (range_for (is_to_head q.method) q.range)) answer
IsServedBy q routes.PathMaster a answer b = RespondsWithState a b (λ s. path_master_answer s) answer
IsServedBy q (routes.PathList r) a answer b = RespondsWithState a b (λ s. live_list_answer Paths s r) answer
IsServedBy q (routes.RecentList r us) a answer b = RespondsWithState a b (λ s. recent_list_answer us s r) answer
IsServedBy q routes.Run a answer b = RespondsWithState a b (λ s. run_answer s) answer
IsServedBy q (routes.InitSection run r) a answer b = RespondsWithState a b (λ s. init_answer s run r (range_for (is_to_head q.method) q.range)) answer
IsServedBy q (routes.Segment run r first last) a answer b =
    RespondsWithState a b (λ s. segment_answer s run r first last (range_for (is_to_head q.method) q.range)) answer
IsServedBy q (routes.Since start file) a answer b = RespondsWithState a b (λ s. since_answer s start file) answer
IsServedBy q (routes.Programme start stop file) a answer b = HandlesProgramme q.client (programme_query_in start stop q.query) file a b answer
IsServedBy q routes.CatchUp a answer b = HandlesCatchup (query_in q.query) a b answer
IsServedBy q routes.Status a answer b = (jobs : ℕ) × HasCounted jobs × RespondsWithState a b (λ s. status_answer s jobs) answer
IsServedBy q routes.Metrics a answer b =
    (jobs : ℕ) × HasCounted jobs × ((measured : Measured) × RespondsWithState a b (λ s. metrics_answer s jobs measured) answer)
IsServedBy q route a answer b = ⊥

-- the reply to a request for no job: the route's own if it allows the method; otherwise no act is added, and it is 405 with Allow
abbrev pub ServesAllowed : RequestParams → Route → List Act → ResponseData → List Act → Bool → Type 0
ServesAllowed q route a answer b true = IsServedBy q route a answer b
ServesAllowed q route a answer b false = (b ≡ a) × (answer ≡ method_answer route)

-- the number of the job that a route names, if it names one
abbrev pub job_at : Route → Option ℕ
job_at (routes.Job id) = Some id
job_at (routes.JobFile id file) = Some id
job_at route = None

-- the acts and the reply for a request; if its route names a job, 404 for an unknown job precedes 405 for the method
abbrev pub ServesBy : RequestParams → Route → List Act → ResponseData → List Act → Option ℕ → Type 0
ServesBy q route a answer b (Some id) = ServesJob q route id a answer b (removes_job route q.method)
ServesBy q route a answer b None = ServesAllowed q route a answer b (allows route q.method)

-- the acts and the reply for a request; without a reply, for lack of memory, the acts changed nothing
abbrev pub Responds : RequestParams → Route → List Act → Option ResponseData → List Act → Type 0
Responds q route a (Some answer) b = ServesBy q route a answer b (job_at route)
Responds q route a None b = ActsChangeNothing a b

-- ---- the reply that is due

-- a reply's whole text; whether it says that the connection closes, and whether it is a success
pub record DueResponse : Type 0 where
  pub text : List ℕ
  pub closing : Bool
  pub success : Bool

-- 100 Continue, if the client waits for it and the body will be read
abbrev pub continue_prefix : RequestHead → RequestAction → List ℕ
continue_prefix h action = cond (sends_continue h action) continue_text []

-- whether the method of a request is HEAD
abbrev pub to_head : RequestHead → Bool
to_head h = is_to_head (method_of h.method)

-- the reply for an answer, after 100 Continue if the client waits for it; it says Connection: close if the head asks for that or it is early
abbrev pub due_for : RequestHead → RequestAction → ResponseData → Bool → DueResponse
due_for h action answer early = record {
  text = continue_prefix h action ++ answer_text answer (sends_close h early) (to_head h);
  closing = sends_close h early;
  success = is_success answer.status;
}

-- the out-of-memory reply that is due, after 100 Continue if the client waits for it; it closes the connection
abbrev pub due_for_memory : RequestHead → RequestAction → DueResponse
due_for_memory h action = record { text = continue_prefix h action ++ out_of_memory_response (to_head h); closing = true; success = false }

-- the reply that is due for an answer, or the out-of-memory reply if there is none
abbrev pub due_for_maybe : RequestHead → RequestAction → Option ResponseData → Bool → DueResponse
due_for_maybe h action None early = due_for_memory h action
due_for_maybe h action (Some answer) early = due_for h action answer early

-- the reply that is due is the answer or the out-of-memory reply
abbrev pub IsDue : RequestHead → RequestAction → ResponseData → Bool → DueResponse → Type 0
IsDue h action answer early due = (due ≡ due_for h action answer early) ⊎ (due ≡ due_for_memory h action)

-- the reply that is due for a body that stopped early: only one with bad framing gets a reply
abbrev pub IsDueAtStop : RequestHead → RequestAction → BodyEnd → DueResponse → Type 0
IsDueAtStop h action bodies.BadFraming due = IsDue h action (fault_answer http.BadFraming) true due
IsDueAtStop h action end due = ⊥

-- ---- discarded bodies

-- the unread bytes begin with the size line of a chunk that would exceed the limit of a discarded body
pub record IsPastLimit (content unread : List ℕ) : Type 0 where
  pub size : ℕ
  pub rest : List ℕ
  pub line : ReadsLine unread size rest
  pub many : discard_limit < length content + size

-- the result of discarding this content: the whole body was within the limit, it is too large, or it stopped early
abbrev pub DiscardsBody : List ℕ → BodyFraming → List ℕ → Result (Unit {0}) DiscardEnd → Type 0
DiscardsBody content last unread (Ok done) = (last ≡ Length 0) × (length content ≤ discard_limit)
DiscardsBody content last unread (Err discards.TooLarge) = (last ≡ Size) × IsPastLimit content unread
DiscardsBody content last unread (Err (discards.Stopped end)) = (length content + announced_len last ≤ discard_limit) × IsBodyStop last unread end

-- the acts and the reply after a body was discarded: the route's answer after a whole body;
-- 413 without acts for one that is too large; and for one that stopped early what is due there
abbrev pub IsDiscardDue : RoutedRequest → Route → List Act → DueResponse → Result (Unit {0}) DiscardEnd → Type 0
IsDiscardDue request route acts due (Ok done) =
    (answer : Option ResponseData) × Responds request.asks route [] answer acts
    × ((due ≡ due_for_maybe request.head request.action answer false) ⊎ (due ≡ due_for_memory request.head request.action))
IsDiscardDue request route acts due (Err discards.TooLarge) = (acts ≡ []) × IsDue request.head request.action (fault_answer http.TooLarge) true due
IsDiscardDue request route acts due (Err (discards.Stopped end)) = (acts ≡ []) × IsDueAtStop request.head request.action end due

-- a body is read and discarded, and the reply that is then due is the route's answer or a refusal of the body
pub record DiscardsThenResponds (request : RoutedRequest) (route : Route) (body : BodyFraming) (stream : List ℕ) (acts : List Act) (due : DueResponse) (unread : List ℕ) : Type 0 where
  pub content : List ℕ
  pub last : BodyFraming
  pub runs : StepsThrough body stream content last unread
  pub result : Result (Unit {0}) DiscardEnd
  pub discards : DiscardsBody content last unread result
  pub skipped : IsDiscardDue request route acts due result

-- ---- encoders' bodies

-- the reply to an ingested body: 200 with its counts, those of mending included if units are mended
abbrev pub ingested_answer : IngestTarget → Progress → ResponseData
ingested_answer target y = text_answer statuses.Done (counts_text (is_some target.mending) y.counts)

-- the reply to a refused body: the name of its fault, and the counts of what was accepted before
abbrev pub ingest_refused_answer : IngestTarget → StreamFault → Progress → ResponseData
ingest_refused_answer target fault y =
    text_answer (status_of fault) (codes "refused " ++ (name_of fault ++ (32 ∷ counts_text (is_some target.mending) y.counts)))

-- the reply that is due for an encoder's body by how it ended; `early` says whether more of the body was still to come
abbrev pub IsIngestDue : IngestTarget → RequestHead → RequestAction → Bool → Progress → DueResponse → Result (Unit {0}) IngestStop → Type 0
IsIngestDue target h action early y due (Ok done) = IsDue h action (ingested_answer target y) false due
IsIngestDue target h action early y due (Err (ingest_stops.Refused fault)) = IsDue h action (ingest_refused_answer target fault y) early due
IsIngestDue target h action early y due (Err ingest_stops.Memory) = due ≡ due_for_memory h action
IsIngestDue target h action early y due (Err (ingest_stops.Stopped end)) = IsDueAtStop h action end due

-- an encoder's body is read and its content ingested; the acts are those of its parts, and the reply says how it ended
pub record Ingests (request : RoutedRequest) (target : IngestTarget) (body : BodyFraming) (stream : List ℕ) (acts : List Act) (due : DueResponse) (unread : List ℕ) : Type 0 where
  pub content : List ℕ
  pub last : BodyFraming
  pub runs : StepsThrough body stream content last unread
  pub progress : Progress
  pub asked : acts ≡ progress.acts
  pub early : Bool
  pub result : Result (Unit {0}) IngestStop
  pub handles : HandlesBody target body content last unread progress early result
  pub ingested : IsIngestDue target request.head request.action early progress due result

-- ---- a request: from the end of its head, where its body begins, to the bytes that are unread when the reply is sent

-- the body of a request to this route is ingested; there is no such case for a route that isn't an encoder's
abbrev pub IngestsBy : Option Route → RoutedRequest → BodyFraming → List ℕ → List Act → DueResponse → List ℕ → Type 0
IngestsBy (Some (routes.Ingest r)) request body stream acts due unread = Ingests request r body stream acts due unread
IngestsBy route request body stream acts due unread = ⊥

-- the body of a request to this route is discarded; there is no such case without a route
abbrev pub DiscardsBy : Option Route → RoutedRequest → BodyFraming → List ℕ → List Act → DueResponse → List ℕ → Type 0
DiscardsBy None request body stream acts due unread = ⊥
DiscardsBy (Some route) request body stream acts due unread = DiscardsThenResponds request route body stream acts due unread

-- by what is done with it: refused before its body, its body ingested in parts, or its body discarded
abbrev pub HandlesBy : RequestAction → RoutedRequest → List ℕ → List Act → DueResponse → List ℕ → Type 0
HandlesBy (Refuse fault closing) request stream acts due unread =
    (acts ≡ []) × (unread ≡ stream) × IsDue request.head request.action (fault_answer fault) closing due
HandlesBy (Ingest body) request stream acts due unread = IngestsBy request.asks.route request body stream acts due unread
HandlesBy (Discard body) request stream acts due unread = DiscardsBy request.asks.route request body stream acts due unread

-- what is done with a request, by its head's framing, whether its path is known, and whether its body is ingested
abbrev pub action_for : RequestHead → RequestParams → RequestAction
action_for h q = action_by (framing_of_head h) (is_some q.route) (takes_ingest q.route q.method)

-- a head as a request to a channel
abbrev pub request_of : ServedChannel → RequestHead → RoutedRequest
request_of channel h = record { head = h; asks = params_of channel h; action = action_for h (params_of channel h) }

-- the stream begins with a request; these are its acts, this reply is due, and these bytes are unread when it is sent
pub record IsExchange (channel : ServedChannel) (stream : List ℕ) (acts : List Act) (due : DueResponse) (unread : List ℕ) : Type 0 where
  pub head : RequestHead
  pub following : List ℕ
  pub reads : ReadsLimitedHead stream head following
  pub follows : HandlesBy (request_of channel head).action (request_of channel head) following acts due unread

-- ---- where no head can follow

-- the reply to a head that is refused: the fault's answer with Connection: close
abbrev pub refused_head : HttpFault → DueResponse
refused_head fault = record { text = answer_text (fault_answer fault) true false; closing = true; success = false }

-- the reply that is due where no head was read: the refusal, or the out-of-memory reply to a request that isn't HEAD
abbrev pub IsDueWithoutHead : HttpFault → DueResponse → Type 0
IsDueWithoutHead fault due = (due ≡ refused_head fault) ⊎ (due ≡ record { text = out_of_memory_response false; closing = true; success = false })

-- no request can begin with the unread bytes, and 400 is due; or they begin a head that is too large, and 431 is due
abbrev pub RefusesHead : List ℕ → DueResponse → Type 0
RefusesHead unread due =
    (NeverHasRequest unread × IsDueWithoutHead http.BadHead due) ⊎ (IsTooLarge unread × IsDueWithoutHead http.HeadTooLarge due)

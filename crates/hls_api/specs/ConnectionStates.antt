-- A connection, by all that it received and sent: the requests answered so far, in order, and the progress of the next one.
use Rattle.std.specs.Prelude.{◌≡◌, ◌⊎◌, ◌<◌, ℕ, Bool, true, false, List, [], ◌∷◌, ◌++◌, length, flat_map, Some, IsTrue}
use Rattle.httparse.specs.Grammar.{RequestHead}
use Rattle.hls_core.specs.Streams.{IsTaken}
use Rattle.hls_http.specs.declared.{framing.BodyFraming.TheVariants.Length, request_action.RequestAction.TheVariants.{Ingest, Discard}}
use Rattle.hls_http.specs.{Bodies.{StepsThrough, IsOpen}, Heads.{ReadsLimitedHead, IsUnfinished}}
use Rattle.hls_api.specs.Exchanges.{DueResponse, IsExchange, RefusesHead, RoutedRequest, Responds, continue_prefix, request_of}
use Rattle.hls_api.specs.{Acts.Act, Responses.ResponseData, Ingest.{IngestsPart, Progress, no_progress}}
use Rattle.hls_api.specs.Types.{BodyFraming, SessionEnd, Route, IngestTarget, ServedChannel}
use Rattle.hls_http.specs.declared.end.SessionEnd.TheVariants as ends
use Rattle.hls_api.specs.declared.route.Route.TheVariants as routes

-- ---- answered requests

-- a request after whose reply the connection stays open: its acts, and the reply
pub record Exchange : Type 0 where
  pub acts : List Act
  pub reply : List ℕ
  pub success : Bool

-- the reply of an answered request, after which the connection stays open
abbrev pub due_in : Exchange → DueResponse
due_in x = record { text = x.reply; closing = false; success = x.success }

-- these requests are the first ones of the stream and are answered in order, and the rest of the stream follows
abbrev pub Serves : ServedChannel → List ℕ → List Exchange → List ℕ → Type 0
Serves channel stream [] rest = rest ≡ stream
Serves channel stream (x ∷ xs) rest = (middle : List ℕ) × IsExchange channel stream x.acts (due_in x) middle × Serves channel middle xs rest

-- the acts of all these requests, in order
abbrev pub acts_of : List Exchange → List Act
acts_of xs = flat_map (λ x. x.acts) xs

-- the replies to all these requests, joined in order
abbrev pub text_of : List Exchange → List ℕ
text_of xs = flat_map (λ x. x.reply) xs

-- ---- the history of a connection

-- the history of a connection: all bytes received, and whether the input has ended; the unread bytes; the acts;
-- all bytes sent, and those pending
pub record History : Type 0 where
  pub received : List ℕ
  pub ended : Bool
  pub unread : List ℕ
  pub acts : List Act
  pub sent : List ℕ
  pub pending : List ℕ

-- all bytes that the connection made: those sent, and then those pending
abbrev pub output : History → List ℕ
output h = h.sent ++ h.pending

-- where the connection is: between two requests, within one, or at its end
pub data Stage : Type 0 where
  Between : Stage
  Within : Stage
  Over : (end : SessionEnd) → Stage

-- the acts for the answer to a request whose body was discarded to its end, while its reply is still being made
pub record IsForAnswer (request : RoutedRequest) (last : BodyFraming) (acts : List Act) : Type 0 where
  pub whole : last ≡ Length 0
  pub route : Route
  pub route_is : request.asks.route ≡ Some route
  pub answer : ResponseData
  pub responds : Responds request.asks route [] (Some answer) acts

-- the acts for a body after this content: none while a discarded body is read, then those for the answer; or those of an ingested body
abbrev pub AreBodyActs : ServedChannel → RequestHead → BodyFraming → List ℕ → BodyFraming → List Act → Type 0
AreBodyActs channel h body content last acts =
    (((request_of channel h).action ≡ Discard body) × ((acts ≡ []) ⊎ IsForAnswer (request_of channel h) last acts))
    ⊎ (((request_of channel h).action ≡ Ingest body)
    × ((target : IngestTarget) × ((request_of channel h).asks.route ≡ Some (routes.Ingest target)) × ((y : Progress) × IsTaken (IngestsPart target) no_progress content y × (acts ≡ y.acts))))

-- a request whose body is being read, or whose reply is being made
pub record IsWithin (channel : ServedChannel) (stream : List ℕ) (acts : List Act) (text unread : List ℕ) : Type 0 where
  pub head : RequestHead
  pub following : List ℕ
  pub reads : ReadsLimitedHead stream head following
  pub body : BodyFraming
  pub content : List ℕ
  pub last : BodyFraming
  pub runs : StepsThrough body following content last unread
  pub asked : AreBodyActs channel head body content last acts
  pub text_is : text ≡ continue_prefix head (request_of channel head).action

-- a request whose body is being read, and whose unread bytes end before a step of the body
pub record IsCutShort (channel : ServedChannel) (stream : List ℕ) (acts : List Act) (text unread : List ℕ) : Type 0 where
  pub within : IsWithin channel stream acts text unread
  pub unfinished : IsOpen within.last unread

-- the reply that ends the connection: to a request, or to bytes that can't become a head
pub record EndsByReply (channel : ServedChannel) (success : Bool) (stream : List ℕ) (acts : List Act) (text unread : List ℕ) : Type 0 where
  pub due : DueResponse
  pub closing : due.closing ≡ true
  pub success_is : due.success ≡ success
  pub text_is : text ≡ due.text
  pub exchange : IsExchange channel stream acts due unread ⊎ (RefusesHead stream due × (acts ≡ []) × (unread ≡ stream))

-- after the answered requests, all bytes are unread, and there are no acts and no text for the next request
abbrev pub IsBetween : List ℕ → List Act → List ℕ → List ℕ → Type 0
IsBetween stream acts text unread = (unread ≡ stream) × (acts ≡ []) × (text ≡ [])

-- the part of the stream after the answered requests: its acts, the bytes written for it, and the unread bytes
abbrev pub IsAtStage : Stage → ServedChannel → Bool → List ℕ → List Act → List ℕ → List ℕ → Type 0
IsAtStage Between channel ended stream acts text unread = IsBetween stream acts text unread
IsAtStage Within channel ended stream acts text unread = IsWithin channel stream acts text unread
IsAtStage (Over ends.Closed) channel ended stream acts text unread =
    (IsTrue ended × (stream ≡ []) × IsBetween stream acts text unread) ⊎ EndsByReply channel true stream acts text unread
IsAtStage (Over ends.Refused) channel ended stream acts text unread = EndsByReply channel false stream acts text unread
IsAtStage (Over ends.CutShort) channel ended stream acts text unread =
    IsTrue ended × ((IsUnfinished stream × (0 < length stream) × IsBetween stream acts text unread) ⊎ IsCutShort channel stream acts text unread)
IsAtStage (Over end) channel ended stream acts text unread = ⊥

-- The first requests of the received bytes are answered in order, whatever follows: the acts are those for each request, and the
-- bytes sent and pending are their replies. The stage describes the rest.
pub record IsServed (channel : ServedChannel) (stage : Stage) (h : History) : Type 0 where
  pub over : List Exchange
  pub rest : List ℕ
  pub serves : (later : List ℕ) → Serves channel (h.received ++ later) over (rest ++ later)
  pub acts : List Act
  pub asked : h.acts ≡ acts_of over ++ acts
  pub text : List ℕ
  pub written : output h ≡ text_of over ++ text
  pub stage_is : IsAtStage stage channel h.ended rest acts text h.unread

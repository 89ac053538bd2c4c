-- A request after whose reply the connection stays open: its head, and its body to the end.
use Rattle.std.proofs.Common.{◌≡◌, ◌∙◌, ℕ, ◌≤◌, Bool, true, false, not, List, [], ◌∷◌, length, Option, Some, None, Result, Ok, Err, refl, sym, ap, inl, inr, arith}
use Rattle.std.{specs.{Prelude.cond, Option.is_some}, proofs.lemmas.Bool.eqb-true}
use Rattle.httparse.specs.Grammar.{RequestHead}
use Rattle.hls_core.specs.Streams.{Refuses}
use Rattle.hls_http.specs.declared.{framing.BodyFraming.TheVariants.Length, fault.HttpFault.TheVariants.{BadFraming, NotFound, TooLarge}}
use Rattle.hls_http.specs.{declared.request_action.RequestAction.TheVariants.{Refuse, Discard}, Bodies.{StepsThrough as BodyRuns, NoStep}}
use Rattle.hls_http.{specs.Actions.{is_over, exceeds_discard_limit, action_by}, proofs.Callers.{body_taken, runs_leave}}
use Rattle.hls_http.specs.Requests.{HttpRequest as WholeRequest, ReadsWholeRequest, framing_of_head}
use Rattle.hls_api.specs.Exchanges.{DueResponse, DiscardsBody, IngestsBy, HandlesBy, IsExchange, IsDue, IsDueAtStop, IsIngestDue, IsDiscardDue, RoutedRequest, DiscardsBy, ingest_refused_answer, request_of}
use Rattle.hls_api.specs.Types.{StreamFault, BodyFraming, HttpFault, RequestAction, BodyEnd, DiscardEnd, IngestStop, IngestTarget, Route, ServedChannel}
use Rattle.hls_api.specs.{Acts.Act, Routes.takes_ingest, Responses.{ResponseData, fault_answer}, ConnectionStates.due_in}
use Rattle.hls_api.specs.{Ingest.{IsRefusedAt, IngestsPart, Progress, no_progress, ends_at, HandlesBody}, Laws.RequestsAreRead}
use Rattle.hls_http.specs.declared.end.BodyEnd.TheVariants as bodies
use Rattle.hls_http.specs.declared.end.DiscardEnd.TheVariants as discards
use Rattle.hls_api.specs.declared.ingest.IngestStop.TheVariants as ingest_stops
use Rattle.hls_api.specs.declared.route.Route.TheVariants as routes

-- ---- a reply after which the connection stays open

module _ (h : RequestHead) (action : RequestAction) (due : DueResponse) (goes : due.closing ≡ false) where
  -- it isn't early
  open_due : (answer : ResponseData) (early : Bool) → IsDue h action answer early due → early ≡ false
  open_due answer false is = refl
  open_due answer true (inl is) = cc (goes, ap (λ (d : DueResponse). d.closing) is)
  open_due answer true (inr is) = cc (goes, ap (λ (d : DueResponse). d.closing) is)

  early_due : (answer : ResponseData) → IsDue h action answer true due → ⊥
  early_due answer is = cc (open_due answer true is)

  -- nor is it due where a body stopped early
  no_stop : (end : BodyEnd) → IsDueAtStop h action end due → ⊥
  no_stop bodies.BadFraming is = early_due (fault_answer BadFraming) is
  no_stop end is = is

-- ---- bodies that have ended

-- a flag whose negation is false is true
turned : (b : Bool) → not b ≡ false → b ≡ true
turned true is = refl
turned false is = cc

-- a body with no bytes left to come has the framing of length 0
over_is : (b : BodyFraming) → not (is_over b) ≡ false → b ≡ Length 0
over_is (Length n) is = ap Length (eqb-true n 0 (turned (is_over (Length n)) is))
over_is b is = cc

-- a refusal at the last byte of a body by length is at the body's end
ended_at : (target : IngestTarget) (size : ℕ) (body last : BodyFraming) (input content unread : List ℕ) (fault : StreamFault) (y : Progress)
    → IsRefusedAt size target content fault y → BodyRuns body input content last unread → ends_at body size ≡ true → last ≡ Length 0
ended_at target size (Length n) last input content unread fault y refused runs ends =
    let so = runs_leave (Length n) last input content unread runs in
    let all = eqb-true size n ends in
    so.1 ∙ ap Length (omega (arith, so.2, all, within refused.refuses))
  where
    within : Refuses (IngestsPart target) no_progress content size fault y → size ≤ length content
    within (inl part) = part.shows.within
    within (inr box) = box.shows.within
ended_at target size body last input content unread fault y refused runs ends = cc

-- ---- by what is done with the body

-- the body was read to its end
abbrev pub IsAtEnd : BodyFraming → List ℕ → List ℕ → Type 0
IsAtEnd body stream unread = (content : List ℕ) × BodyRuns body stream content (Length 0) unread

module _ (request : RoutedRequest) (acts : List Act) (due : DueResponse) (goes : due.closing ≡ false) where
  dropped : (route : Route) (last : BodyFraming) (content unread : List ℕ) (result : Result (Unit {0}) DiscardEnd) → DiscardsBody content last unread result
      → IsDiscardDue request route acts due result → last ≡ Length 0
  dropped route last content unread (Ok done) all skipped = all.0
  dropped route last content unread (Err discards.TooLarge) many skipped = absurd (early_due request.head request.action due goes (fault_answer TooLarge) skipped.1)
  dropped route last content unread (Err (discards.Stopped end)) some skipped = absurd (no_stop request.head request.action due goes end skipped.1)

  taken : (target : IngestTarget) (body last : BodyFraming) (input content unread : List ℕ) (y : Progress) (early : Bool) (result : Result (Unit {0}) IngestStop) → BodyRuns body input content last unread
      → HandlesBody target body content last unread y early result → IsIngestDue target request.head request.action early y due result → last ≡ Length 0
  taken target body last input content unread y early (Ok done) runs handles ingested = handles.0.over
  taken target body last input content unread y early (Err (ingest_stops.Refused fault)) runs (inl handles) ingested = handles.0.over
  taken target body last input content unread y early (Err (ingest_stops.Refused fault)) runs (inr handles) ingested =
      let late = open_due request.head request.action due goes (ingest_refused_answer target fault y) early ingested in
      ended_at target handles.0 body last input content unread fault y handles.1 runs (turned (ends_at body handles.0) (sym handles.2 ∙ late))
  taken target body last input content unread y early (Err ingest_stops.Memory) runs handles ingested = cc (goes, ap (λ (d : DueResponse). d.closing) ingested)
  taken target body last input content unread y early (Err (ingest_stops.Stopped end)) runs handles ingested = absurd (no_stop request.head request.action due goes end ingested)

  fed_by : (route : Option Route) (body : BodyFraming) (stream unread : List ℕ) → IngestsBy route request body stream acts due unread → IsAtEnd body stream unread
  fed_by (Some (routes.Ingest target)) body stream unread f =
      (f.content, rw (taken target body f.last stream f.content unread f.progress f.early f.result f.runs f.handles f.ingested) at f.runs)
  fed_by route body stream unread f = absurd f

  skipped_by : (route : Option Route) (body : BodyFraming) (stream unread : List ℕ) → DiscardsBy route request body stream acts due unread → IsAtEnd body stream unread
  skipped_by None body stream unread s = absurd s
  skipped_by (Some route) body stream unread s =
      (s.content, rw (dropped route s.last s.content unread s.result s.discards s.skipped) at s.runs)

-- the head's framing is valid, and the body was read to its end
abbrev pub HasBody : Result BodyFraming HttpFault → List ℕ → List ℕ → Type 0
HasBody begins_so stream unread = (body : BodyFraming) × (begins_so ≡ Ok body) × IsAtEnd body stream unread

-- if the reply to a request leaves the connection open, its head's framing is valid, and its body was read to the end
followed : (begins_so : Result BodyFraming HttpFault) (known feeds : Bool) (request : RoutedRequest) (stream : List ℕ) (acts : List Act) (due : DueResponse) (unread : List ℕ)
    → due.closing ≡ false → HandlesBy (action_by begins_so known feeds) request stream acts due unread → HasBody begins_so stream unread
followed (Err fault) known feeds request stream acts due unread goes f = absurd (early_due request.head request.action due goes (fault_answer fault) f.2)
followed (Ok body) false feeds request stream acts due unread goes f =
    let over = over_is body (open_due request.head request.action due goes (fault_answer NotFound) (not (is_over body)) f.2) in
    (body, refl, rw (over, f.1) ([], NoStep))
followed (Ok body) true true request stream acts due unread goes f =
    (body, refl, fed_by request acts due goes request.asks.route body stream unread f)
followed (Ok body) true false request stream acts due unread goes f = by_size (exceeds_discard_limit body) f
  where
    by_size : (past : Bool) → HandlesBy (cond past (Refuse TooLarge true) (Discard body)) request stream acts due unread → HasBody (Ok body) stream unread
    by_size true f = absurd (early_due request.head request.action due goes (fault_answer TooLarge) f.2)
    by_size false f = (body, refl, skipped_by request acts due goes request.asks.route body stream unread f)

-- ---- a request

-- a request whose reply leaves the connection open is a whole request at the front of the stream, and the unread bytes follow it
begun_so : (channel : ServedChannel) (stream : List ℕ) (acts : List Act) (due : DueResponse) (unread : List ℕ) → due.closing ≡ false → IsExchange channel stream acts due unread
    → (request : WholeRequest) × ReadsWholeRequest stream request unread
begun_so channel stream acts due unread goes exchange =
    let request = request_of channel exchange.head in
    let (body, is, (content, runs)) = followed (framing_of_head exchange.head) (is_some request.asks.route) (takes_ingest request.asks.route request.asks.method) request exchange.following acts due unread goes exchange.follows in (
      record { head = exchange.head; content = content },
      record { body = body; middle = exchange.following; head = exchange.reads; framing_is = is; content = body_taken body exchange.following content unread runs },
    )

-- ---- a sequence of requests

-- the requests whose replies leave the connection open are the first ones of the stream, and the rest follows directly
pub requests_are_read : RequestsAreRead
requests_are_read channel stream rest [] serves = record { requests = []; count_is = refl; cuts = serves }
requests_are_read channel stream rest (x ∷ xs) (middle, exchange, serves) =
    let one = begun_so channel stream x.acts (due_in x) middle refl exchange in
    let others = requests_are_read channel middle rest xs serves in
    record {
      requests = one.0 ∷ others.requests;
      count_is = omega (arith, others.count_is);
      cuts = (middle, one.1, others.cuts);
    }

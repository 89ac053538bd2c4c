-- What holds of a connection, from one step to the next.
use Rattle.hls_api.specs.declared.route.ServedChannel.{ServedChannel}
use Rattle.std.proofs.Common.{◌≡◌, ◌<◌, ◌==◌, ◌∙◌, ◌⊎◌, ℕ, Bool, true, false, List, [], ◌∷◌, ◌++◌, length, flat_map, Some, IsTrue, inl, inr, refl, sym, ap, subst, arith, append_assoc, append-nil, length-append}
use Rattle.std.proofs.{lemmas.{Grind.flat_map-append, List.nil_from_length, Bool.{cond-false, eqb-false, eqb-true}}, Math.Bool.and-false}
use Rattle.httparse.specs.Grammar.{RequestHead, print_request}
use Rattle.hls_http.specs.{declared.framing.BodyFraming.BodyFraming, declared.fault.HttpFault.HttpFault, declared.request_action.RequestAction.RequestAction}
use Rattle.hls_http.specs.{declared.request_action.RequestAction.TheVariants.Refuse, Fields.expects, Requests.fields_of, Actions.sends_continue}
use Rattle.hls_http.{specs.{Bodies.{IsOpen, StepsThrough, NoStep}, Heads.{IsUnfinished, ReadsLimitedHead}}, proofs.Callers.heads_stay}
use Rattle.http_server.proofs.MachineLemmas.{head_is_some}
use Rattle.hls_core_laws.specs.{IsState.IsState}
use Rattle.hls_api.specs.{Acts.Act, Acts.Knowledge, Ingest.Progress, Ingest.no_progress, Queries.programme_query_in, Responses.fault_answer, Routes.query_of, declared.route.Route.Route}
use Rattle.hls_api.specs.Exchanges.{DueResponse, IsExchange, IsDue, IsDueWithoutHead, RefusesHead, continue_prefix, params_of, request_of}
use Rattle.hls_api.specs.ConnectionStates.{Exchange, History, Serves, AreBodyActs, IsForAnswer, IsBetween, IsWithin, EndsByReply, IsAtStage, IsServed, acts_of, text_of, due_in}
use Rattle.hls_connection.specs.{declared.request_context.RequestContext.RequestContext, declared.receive.BodyTarget.BodyTarget, declared.receive.ReceivingBody.ReceivingBody}
use Rattle.hls_connection.specs.{declared.state.ConnectionState.ConnectionState, declared.state.Transition.Transition, declared.state.WaitingResponse.WaitingResponse, declared.state.WritingResponse.WritingResponse, IngestStates.progress_of}
use Rattle.hls_connection.specs.States.{BeginsBody, HasNoActs, IsHandled, IsNotOverIn, IsConsistent, LacksMore, IsIdleOrWaiting, IsInState, ReportsProgress, RespondsTo, RespondsWith, SuitsState, acts_of_step, awaited_state, current_acts, stage_of, state_after, steps_in, steps_of}
use Rattle.hls_connection.specs.WithinBody.{HasBody, HasReceived, IsAsked, IsForTarget, IsReceiving, IsWaiting, IsWriting, SuitsTarget, action_into, client_of}
use Rattle.hls_connection.specs.{declared.ingest_sink.IngestState.IngestState, RequestContexts.IsContextOf, Waits.deadline_in}
use Rattle.hls_connection.{specs.NeedsMore.{EndsBeforeStep, NeedsMore}, proofs.CallLaws.replies_by}
use Rattle.hls_api.specs.Programmes.{busy_answer}
use Rattle.hls_http.specs.declared.framing.BodyFraming.TheVariants.{Length}
use Rattle.hls_connection.specs.{declared.state.Awaited.Awaited, Waits.awaited_route}
use Rattle.hls_connection.proofs.PlayerLaws.{plan_unfinished, programme_response}
use Rattle.hls_connection.specs.declared.state.Awaited.TheVariants as awaits
use Rattle.hls_http.specs.declared.end.SessionEnd.TheVariants as ends
use Rattle.hls_connection.specs.declared.state.ConnectionState.TheVariants as states
use Rattle.hls_connection.specs.declared.receive.BodyTarget.TheVariants as targets

-- ---- lists

-- a relation of two texts that holds whatever follows both holds of the texts alone
pub plainly : (P : List ℕ → List ℕ → Type 0) (a b : List ℕ) → ((later : List ℕ) → P (a ++ later) (b ++ later)) → P a b
plainly P a b all = rw (append-nil a, append-nil b) at (all [])

-- one more element adds its list at the end of the joined lists
pub flat_push : {X A : Type 0} (f : X → List A) (xs : List X) (x : X) → flat_map f (xs ++ x ∷ []) ≡ flat_map f xs ++ f x
flat_push f xs x = flat_map-append f xs (x ∷ []) ∙ ap (λ t. flat_map f xs ++ t) (append-nil (f x))

-- requests that were served, and one more after them, are requests that were served
serves_push : (over : List Exchange) (channel : ServedChannel) (x : Exchange) (stream middle rest : List ℕ) → Serves channel stream over middle → IsExchange channel middle x.acts (due_in x) rest
    → Serves channel stream (over ++ x ∷ []) rest
serves_push [] channel x stream middle rest serves exchange = (rest, subst (λ (t : List ℕ). IsExchange channel t x.acts (due_in x) rest) serves exchange, refl)
serves_push (y ∷ ys) channel x stream middle rest (next, first, serves) exchange = (next, first, serves_push ys channel x next middle rest serves exchange)

-- ---- one step more

-- a reply that closes the connection ends it as Closed or Refused, by its success
stands_over : (success ended : Bool) {channel : ServedChannel} {rest : List ℕ} {acts : List Act} {text unread : List ℕ} → EndsByReply channel success rest acts text unread
    → IsInState (state_after true success) channel ended rest acts text unread
stands_over true ended x = inr x
stands_over false ended x = x

-- a consistent connection without acts for the present request and with nothing pending, after these acts, with this text pending and these bytes
-- unread
module _ {channel : ServedChannel} {old : ConnectionState} {h : History} (x : IsConsistent channel old h) (nothing : x.acts ≡ []) (empty : h.pending ≡ []) (acts : List Act) (text unread : List ℕ) where
  abbrev after : History
  after = record h { unread = unread; acts = h.acts ++ acts; pending = text }

  asked : h.acts ++ acts ≡ acts_of x.over ++ acts
  asked = ap (λ (t : List Act). t ++ acts) (x.asked_is ∙ ap (λ (t : List Act). acts_of x.over ++ t) nothing ∙ append-nil (acts_of x.over))

  grown : (due : List ℕ) → due ≡ x.text ++ text → h.sent ++ text ≡ text_of x.over ++ due
  grown due is =
      let sent : h.sent ≡ text_of x.over ++ x.text = sym (append-nil h.sent) ∙ ap (λ (t : List ℕ). h.sent ++ t) (sym empty) ∙ x.written in
      ap (λ (t : List ℕ). t ++ text) sent ∙ append_assoc (text_of x.over) x.text text ∙ ap (λ (t : List ℕ). text_of x.over ++ t) (sym is)

  -- the present request continues in the new state
  pub goes_to : {new : ConnectionState} (due : List ℕ) → due ≡ x.text ++ text → IsInState new channel h.ended x.rest acts due unread → IsConsistent channel new after
  goes_to due is stage_is = record {
    over = x.over;
    rest = x.rest;
    serves = x.serves;
    acts = acts;
    asked_is = asked;
    text = due;
    written = grown due is;
    stage_is = stage_is;
  }

  -- the present request is answered, and the connection stays open
  goes_on : (due : List ℕ) (success : Bool) → due ≡ x.text ++ text
      → ((later : List ℕ) → IsExchange channel (x.rest ++ later) acts (record { text = due; closing = false; success = success }) (unread ++ later)) → IsConsistent channel states.Head after
  goes_on due success is exchange =
      let e : Exchange = record { acts = acts; reply = due; success = success } in
      record {
        over = x.over ++ e ∷ [];
        rest = unread;
        serves = λ later. serves_push x.over channel e (h.received ++ later) (x.rest ++ later) (unread ++ later) (x.serves later) (exchange later);
        acts = [];
        asked_is = asked ∙ sym (flat_push (λ (e : Exchange). e.acts) x.over e) ∙ sym (append-nil (acts_of (x.over ++ e ∷ [])));
        text = [];
        written = grown due is ∙ sym (flat_push (λ (e : Exchange). e.reply) x.over e) ∙ sym (append-nil (text_of (x.over ++ e ∷ [])));
        stage_is = (refl, refl, refl);
      }

  -- the connection ends by a reply
  ends_by : (due : DueResponse) → due.closing ≡ true → due.text ≡ x.text ++ text → IsExchange channel x.rest acts due unread ⊎ (RefusesHead x.rest due × (acts ≡ []) × (unread ≡ x.rest))
      → IsConsistent channel (state_after true due.success) after
  ends_by due closing is exchange =
      goes_to due.text is (stands_over due.success h.ended (record { due = due; closing = closing; success_is = refl; text_is = refl; exchange = exchange }))

-- a step that answers the present request leads to a consistent connection
pub replied : {channel : ServedChannel} {old : ConnectionState} {h : History} (x : IsConsistent channel old h) → x.acts ≡ [] → h.pending ≡ [] → {acts : List Act} {unread : List ℕ} {step : Transition} → RespondsTo channel x.rest x.text acts unread step
    → IsConsistent channel step.state (record h { unread = unread; acts = h.acts ++ step.acts; pending = step.output })
replied {channel} {h} x nothing empty {acts} {unread} {step} r =
    subst (λ (s : Transition). IsConsistent channel s.state (record h { unread = unread; acts = h.acts ++ s.acts; pending = s.output })) (sym r.step_is) (by r.due.text r.due.closing r.due.success r.text_is r.is)
  where
    by : (due : List ℕ) (closing success : Bool) → due ≡ x.text ++ step.output
        → ((later : List ℕ) → IsExchange channel (x.rest ++ later) acts (record { text = due; closing = closing; success = success }) (unread ++ later))
        → IsConsistent channel (state_after closing success) (record h { unread = unread; acts = h.acts ++ acts; pending = step.output })
    by due false success is exchange = goes_on x nothing empty acts step.output unread due success is exchange
    by due true success is exchange =
        let all : DueResponse = record { text = due; closing = true; success = success } in
        ends_by x nothing empty acts step.output unread all refl is (inl (plainly (λ a b. IsExchange channel a acts all b) x.rest unread exchange))

-- a connection that sends nothing is consistent in any state that describes the present request, with these acts
pub stays : {channel : ServedChannel} {old new : ConnectionState} {h : History} (acts : List Act) (unread : List ℕ) (x : IsConsistent channel old h) → x.acts ≡ [] → h.pending ≡ []
    → IsInState new channel h.ended x.rest acts x.text unread → IsConsistent channel new (record h { unread = unread; acts = h.acts ++ acts; pending = [] })
stays acts unread x nothing empty stage_is = goes_to x nothing empty acts [] unread x.text (sym (append-nil x.text)) stage_is

-- a step that handles a request whose body was discarded leads to a consistent connection
pub handled : {channel : ServedChannel} {old : ConnectionState} {h : History} (x : IsConsistent channel old h) → x.acts ≡ [] → h.pending ≡ [] → {unread : List ℕ} {step : Transition} → IsHandled channel x.rest x.text unread step
    → IsConsistent channel step.state (record h { unread = unread; acts = h.acts ++ step.acts; pending = step.output })
handled x nothing empty (inl (acts, responds)) = replied x nothing empty responds
handled {channel} {old} {h} x nothing empty {unread} {step} (inr (inl (w, is, writing))) =
    subst (λ (s : Transition). IsConsistent channel s.state (record h { unread = unread; acts = h.acts ++ s.acts; pending = s.output })) (sym is) (stays [] unread x nothing empty (writing, refl))
handled {channel} {old} {h} x nothing empty {unread} {step} (inr (inr (w, is, waiting))) =
    subst (λ (s : Transition). IsConsistent channel s.state (record h { unread = unread; acts = h.acts ++ s.acts; pending = s.output })) (sym is) (stays [] unread x nothing empty (waiting, refl))

-- the reply where no head was read closes the connection
closes : (fault : HttpFault) (due : DueResponse) → IsDueWithoutHead fault due → due.closing ≡ true
closes fault due (inl is) = ap (λ (d : DueResponse). d.closing) is
closes fault due (inr is) = ap (λ (d : DueResponse). d.closing) is

-- after such a reply no step is left
pub refused_last : {step : Transition} (fault : HttpFault) → RespondsWith (IsDueWithoutHead fault) [] [] step → steps_of step.state ≡ 0
refused_last fault r =
    ap (λ (s : Transition). steps_of s.state) r.step_is ∙ ap (λ (c : Bool). steps_of (state_after c r.due.success)) (closes fault r.due r.is) ∙ over r.due.success
  where
    over : (success : Bool) → steps_of (state_after true success) ≡ 0
    over true = refl
    over false = refl

-- a step that refuses bytes as no head, or a head as too large, leads to a consistent connection
pub head_refused : {channel : ServedChannel} {h : History} {step : Transition} (fault : HttpFault) (x : IsConsistent channel states.Head h) → h.pending ≡ []
    → ((due : DueResponse) → IsDueWithoutHead fault due → RefusesHead h.unread due) → RespondsWith (IsDueWithoutHead fault) [] [] step
    → IsConsistent channel step.state (record h { acts = h.acts ++ step.acts; pending = step.output })
head_refused {channel} {h} {step} fault x empty refuses r =
    let closing : r.due.closing ≡ true = closes fault r.due r.is in
    let refused = subst (λ (t : List ℕ). RefusesHead t r.due) x.stage_is.0 (refuses r.due r.is) in
    let is = r.text_is ∙ ap (λ (t : List ℕ). t ++ step.output) (sym x.stage_is.2) in
    subst (λ (s : Transition). IsConsistent channel s.state (record h { acts = h.acts ++ s.acts; pending = s.output })) (sym r.step_is)
    (rw closing (ends_by x x.stage_is.1 empty [] step.output h.unread r.due closing is (inr (refused, refl, x.stage_is.0))))

-- while no whole head has arrived, the connection awaits one, or at the input's end it is closed or cut short
pub head_waits : (empty ended : Bool) (channel : ServedChannel) (stream text unread : List ℕ) → (length unread == 0) ≡ empty → IsUnfinished unread
    → IsBetween stream [] text unread → IsInState (awaited_state empty ended) channel ended stream [] text unread
head_waits empty false channel stream text unread is unfinished s = s
head_waits true true channel stream text unread is unfinished s = inl (refl, sym s.0 ∙ nil_from_length unread (eqb-true (length unread) 0 is), s)
head_waits false true channel stream text unread is unfinished s =
    (refl, inl (subst IsUnfinished s.0 unfinished, subst (λ (t : List ℕ). 0 < length t) s.0 (omega (arith, eqb-false (length unread) 0 is)), s))

-- a step that reports more to do makes progress if it lowers the number of steps left
pub turns_on : {ended : Bool} {old new : ConnectionState} {before after : List ℕ} {more : Bool} → more ≡ true → steps_in new after < steps_in old before → ReportsProgress ended old before new after more
turns_on is lowers = record { idle_or_blocked = λ over. absurd (cc (is, over)); lowers = λ on. lowers }

-- a step that reports nothing more to do makes progress if the connection is idle after it
pub turns_off : {ended : Bool} {old new : ConnectionState} {before after : List ℕ} {more : Bool} → more ≡ false → IsIdleOrWaiting ended new after → ReportsProgress ended old before new after more
turns_off is idle_or_blocked = record { idle_or_blocked = λ over. idle_or_blocked; lowers = λ on. absurd (cc (is, on)) }

-- while no whole head has arrived, the connection is idle
pub waits : (empty ended : Bool) (unread : List ℕ) → IsUnfinished unread → IsIdleOrWaiting ended (awaited_state empty ended) unread
waits empty false unread unfinished = inr (refl, unfinished.short, inr unfinished)
waits true true unread unfinished = inl tt
waits false true unread unfinished = inl tt

-- ---- after a head

-- fewer bytes are unread after a head was read
pub head_takes : (text : List ℕ) (head : RequestHead) (rest : List ℕ) → ReadsLimitedHead text head rest → length rest < length text
head_takes text head rest x = omega (arith, head_is_some head, ap length x.reads.1, length-append (print_request head) rest)

-- a request that is refused before its body gets no 100 Continue
no_first : (h : RequestHead) (fault : HttpFault) (closing : Bool) → continue_prefix h (Refuse fault closing) ≡ []
no_first h fault closing = cond-false (sends_continue h (Refuse fault closing)) _ [] (and-false (expects h.minor (fields_of h)))

module _ {channel : ServedChannel} {h : History} {context : RequestContext} {head : RequestHead} {rest : List ℕ} (x : IsConsistent channel states.Head h) (empty : h.pending ≡ [])
    (reads : ReadsLimitedHead h.unread head rest) (is_context : IsContextOf channel head context) where
  -- the head is at the front of the stream after the answered requests, whatever follows
  pub read : (later : List ℕ) → ReadsLimitedHead (x.rest ++ later) head (rest ++ later)
  read later = heads_stay x.rest head rest later (subst (λ (t : List ℕ). ReadsLimitedHead t head rest) x.stage_is.0 reads)

  -- the request has a body, and nothing of it was read yet
  abbrev pub has_body : (action : BodyFraming → RequestAction) (body : BodyFraming) (text : List ℕ) → (request_of channel head).action ≡ action body → text ≡ continue_prefix head (request_of channel head).action
      → HasBody channel x.rest text context action body rest
  has_body action body text is first_is = record {
    first_is = first_is;
    head = head;
    following = rest;
    reads = read;
    is_context = is_context;
    body = body;
    plan_is = is;
    content = [];
    runs = λ later. NoStep;
  }

  -- the connection is consistent in a state that begins with this head
  pub begins : {new : ConnectionState} (text : List ℕ) → IsInState new channel h.ended x.rest [] text rest → IsConsistent channel new (record h { unread = rest; acts = h.acts ++ []; pending = text })
  begins text stage_is = goes_to x x.stage_is.1 empty [] text rest text (ap (λ (t : List ℕ). t ++ text) (sym x.stage_is.2)) stage_is

  -- a step that refuses the request before its body leads to a consistent connection
  pub refuses : (fault : HttpFault) (closing : Bool) {step : Transition} → (request_of channel head).action ≡ Refuse fault closing
      → RespondsWith (IsDue head (Refuse fault closing) (fault_answer fault) closing) (continue_prefix head (Refuse fault closing)) [] step
      → IsConsistent channel step.state (record h { unread = rest; acts = h.acts ++ step.acts; pending = step.output })
  refuses fault closing action r =
      let hears : (due : DueResponse) → IsDue head (Refuse fault closing) (fault_answer fault) closing due → (later : List ℕ) → IsExchange channel (x.rest ++ later) [] due (rest ++ later)
      = λ due is later. record { head = head; following = rest ++ later; reads = read later; follows = rw action (refl, refl, is) } in
      replied x x.stage_is.1 empty (replies_by (x.stage_is.2 ∙ sym (no_first head fault closing)) hears r)

-- any keeper that saw a valid state suits a body with no progress
begun_suits : (known : Knowledge) (target : BodyTarget) (taken : IngestState) → progress_of taken ≡ no_progress → IsState known.seen → SuitsTarget known target taken
begun_suits known (targets.Nothing room) taken is valid = tt
begun_suits known (targets.Encoder encoder reader) taken is valid = record { valid = valid; has = λ init there. absurd (cc (ap (λ (y : Progress). y.init) is, there)) }

-- a step that begins a body adds no acts, and any keeper that saw a valid state suits it
pub begun_asks : {context : RequestContext} {route : Route} {body : BodyFraming} {target : BodyTarget} (step : Transition) → BeginsBody context route body target step → IsForTarget target route context → HasNoActs states.Head step
begun_asks {context} {route} {body} {target} step (taken, is, made) suits = record {
  same = ap acts_of_step made ∙ ap (λ (y : Progress). y.acts) is;
  suits = λ known valid. subst (λ (s : Transition). SuitsState known s.state) (sym made) (begun_suits known target taken is valid, suits);
  awake = ap (λ (s : Transition). deadline_in s.state) made;
}

-- ---- a body

-- a request with some of its body is within a request, with the acts for the body
abbrev within : {channel : ServedChannel} {stream first : List ℕ} {context : RequestContext} {action : BodyFraming → RequestAction} {last : BodyFraming} {unread : List ℕ} (acts : List Act) (at : HasBody channel stream first context action last unread)
    → AreBodyActs channel at.head at.body at.content last acts → IsWithin channel stream acts first unread
within {stream} {last} {unread} acts at asked = record {
  head = at.head;
  following = at.following;
  reads = plainly (λ a b. ReadsLimitedHead a at.head b) stream at.following at.reads;
  body = at.body;
  content = at.content;
  last = last;
  runs = plainly (λ a b. StepsThrough at.body a at.content last b) at.following unread at.runs;
  asked = asked;
  text_is = at.first_is;
}

-- the acts of a body that is received are those for its content so far
pub body_acts : {channel : ServedChannel} {stream first : List ℕ} {r : ReceivingBody} {unread : List ℕ} (x : IsReceiving channel stream first r unread) → AreBodyActs channel x.at.head x.at.body x.at.content r.body r.taken.acts
body_acts {channel} {stream} {first} {r} {unread} x = by r.target x.at x.received
  where
    by : (target : BodyTarget) (at : HasBody channel stream first r.context (action_into target) r.body unread) → HasReceived target r.route r.taken at.content r.body
        → AreBodyActs channel at.head at.body at.content r.body r.taken.acts
    by (targets.Nothing room) at (nothing, all) = inl (at.plan_is, inl nothing)
    by (targets.Encoder encoder reader) at (is, reached) =
        inr (at.plan_is, (encoder, sym at.is_context.route ∙ x.route ∙ ap Some is, (progress_of r.taken, reached.taken, refl)))

-- a request whose body is received is within a request, with the acts for its content so far
abbrev pub within_body : {channel : ServedChannel} {stream first : List ℕ} {r : ReceivingBody} {unread : List ℕ} → IsReceiving channel stream first r unread → IsWithin channel stream r.taken.acts first unread
within_body {r} x = within r.taken.acts x.at (body_acts x)

-- a request whose response is made in parts is within a request, with the acts for its answer
abbrev pub within_writing : {channel : ServedChannel} {stream first : List ℕ} {w : WritingResponse} {unread : List ℕ} → IsWriting channel stream first w unread → IsWithin channel stream w.acts first unread
within_writing {w} x =
    let at = x.discarded.at in
    within w.acts at (inl (
      at.plan_is,
      inr (record {
        whole = (x.discarded.discarded []).0;
        route = w.route;
        route_is = sym at.is_context.route ∙ x.discarded.route_is;
        answer = w.response;
        responds = x.answers;
      }),
    ))

-- a request whose response waits is within a request, with the acts for the wait
pub within_waiting : {channel : ServedChannel} {stream first : List ℕ} {w : WaitingResponse} {unread : List ℕ} → IsWaiting channel stream first w unread → IsWithin channel stream w.acts first unread
within_waiting {channel} {w} x =
    let at = x.discarded.at in within w.acts at (inl (at.plan_is, by w.awaited (x.discarded.discarded []).0 (sym at.is_context.route ∙ x.discarded.route_is) x.asked))
  where
    by : (awaited : Awaited) → x.last ≡ Length 0 → (request_of channel x.discarded.at.head).asks.route ≡ Some (awaited_route awaited) → IsAsked x.discarded.at.head awaited w.acts
        → (w.acts ≡ []) ⊎ IsForAnswer (request_of channel x.discarded.at.head) x.last w.acts
    by (awaits.Job id) whole route asked = inl asked.1
    by (awaits.Plan plan) whole route asked =
        inr (record {
          whole = whole;
          route = awaited_route (awaits.Plan plan);
          route_is = route;
          answer = busy_answer;
          responds = programme_response (params_of channel x.discarded.at.head) plan.start plan.stop plan.file [] w.acts busy_answer x.waits
              (plan_unfinished (client_of x.discarded.at.head) (programme_query_in plan.start plan.stop (query_of x.discarded.at.head.target)) plan.file [] w.acts plan.request busy_answer asked refl);
        })

-- if the input ends within a body, the connection ends as cut short
pub cuts : {channel : ServedChannel} {old new : ReceivingBody} {h : History} (unread : List ℕ) (x : IsConsistent channel (states.Receive old) h) → h.pending ≡ [] → IsTrue h.ended → IsReceiving channel x.rest x.text new unread × IsOpen new.body unread
    → IsConsistent channel (states.Ended ends.CutShort) (record h { unread = unread; acts = h.acts ++ new.taken.acts; pending = [] })
cuts {channel} {old} {new} unread x empty ended w = stays new.taken.acts unread x x.stage_is.1 empty (ended, inr (record { within = within_body w.0; unfinished = w.1 }))

-- ---- what holds, in the terms of connections

-- what the state says of the stream holds at the stage of the connection, with the acts for the present request added
stands_as : (state : ConnectionState) (channel : ServedChannel) (ended : Bool) (stream : List ℕ) (acts : List Act) (text unread : List ℕ) → IsInState state channel ended stream acts text unread
    → IsAtStage (stage_of state) channel ended stream (acts ++ current_acts state) text unread
stands_as states.Head channel ended stream acts text unread s = (s.0, append-nil acts ∙ s.1, s.2)
stands_as (states.Receive r) channel ended stream acts text unread s = rw s.1 (within_body s.0)
stands_as (states.Wait w) channel ended stream acts text unread s = rw s.1 (within_waiting s.0)
stands_as (states.Write w) channel ended stream acts text unread s = rw s.1 (within_writing s.0)
stands_as (states.Ended end) channel ended stream acts text unread s =
    subst (λ (t : List Act). IsAtStage (stage_of (states.Ended end)) channel ended stream t text unread) (sym (append-nil acts)) s

-- a consistent connection has answered its requests in order, and its stage describes the rest
pub served_of : {channel : ServedChannel} {state : ConnectionState} {h : History} → IsConsistent channel state h → IsServed channel (stage_of state) (record h { acts = h.acts ++ current_acts state })
served_of {channel} {state} {h} x = record {
  over = x.over;
  rest = x.rest;
  serves = x.serves;
  acts = x.acts ++ current_acts state;
  asked = ap (λ (t : List Act). t ++ current_acts state) x.asked_is ∙ append_assoc (acts_of x.over) x.acts (current_acts state);
  text = x.text;
  written = x.written;
  stage_is = stands_as state channel h.ended x.rest x.acts x.text h.unread x.stage_is;
}

-- the stage describes the present request, and nothing can be done with the unread bytes
abbrev Before : ConnectionState → ServedChannel → Bool → List ℕ → List ℕ → List ℕ → List Act → Type 0
Before state channel ended stream text unread acts =
    (s : IsAtStage (stage_of state) channel ended stream (acts ++ current_acts state) text unread)
    × EndsBeforeStep (stage_of state) channel ended stream (acts ++ current_acts state) text unread s

-- if the state's unread bytes allow no step, the stage describes a place where nothing can be done
stands_before : (state : ConnectionState) (channel : ServedChannel) (ended : Bool) (stream : List ℕ) (acts : List Act) (text unread : List ℕ) → IsInState state channel ended stream acts text unread → LacksMore state unread
    → Before state channel ended stream text unread acts
stands_before states.Head channel ended stream acts text unread s lacks = ((s.0, append-nil acts ∙ s.1, s.2), lacks)
stands_before (states.Receive r) channel ended stream acts text unread s lacks =
    subst (Before (states.Receive r) channel ended stream text unread) (sym s.1) (within_body s.0, lacks)
stands_before (states.Wait w) channel ended stream acts text unread s lacks = absurd lacks
stands_before (states.Write w) channel ended stream acts text unread s lacks = absurd lacks
stands_before (states.Ended end) channel ended stream acts text unread s lacks = absurd lacks

-- a consistent connection whose unread bytes allow no step needs more of its stream
pub needs_of : {channel : ServedChannel} {state : ConnectionState} {h : History} → IsConsistent channel state h → LacksMore state h.unread → NeedsMore channel (stage_of state) (record h { acts = h.acts ++ current_acts state })
needs_of {channel} {state} {h} x lacks =
    let s = stands_before state channel h.ended x.rest x.acts x.text h.unread x.stage_is lacks in
    record {
      served = record {
        over = x.over;
        rest = x.rest;
        serves = x.serves;
        acts = x.acts ++ current_acts state;
        asked = ap (λ (t : List Act). t ++ current_acts state) x.asked_is ∙ append_assoc (acts_of x.over) x.acts (current_acts state);
        text = x.text;
        written = x.written;
        stage_is = s.0;
      };
      before = s.1;
    }

-- ---- more is received and sent

-- a request with some of its body stays one when more bytes arrive
abbrev body_more : {channel : ServedChannel} {stream first : List ℕ} {context : RequestContext} {action : BodyFraming → RequestAction} {last : BodyFraming} {unread : List ℕ} (more : List ℕ) → HasBody channel stream first context action last unread
    → HasBody channel (stream ++ more) first context action last (unread ++ more)
body_more {stream} {unread} more at = record {
  head = at.head;
  following = at.following ++ more;
  reads = λ later. rw (append_assoc stream more later, append_assoc at.following more later) (at.reads (more ++ later));
  is_context = at.is_context;
  body = at.body;
  plan_is = at.plan_is;
  content = at.content;
  runs = λ later. rw (append_assoc at.following more later, append_assoc unread more later) (at.runs (more ++ later));
  first_is = at.first_is;
}

-- what a state says of the stream holds when more bytes arrive, unless the connection is at its end
stands_more : (state : ConnectionState) (channel : ServedChannel) (ended now : Bool) (stream : List ℕ) (acts : List Act) (text unread more : List ℕ) → IsNotOverIn state
    → IsInState state channel ended stream acts text unread → IsInState state channel now (stream ++ more) acts text (unread ++ more)
stands_more states.Head channel ended now stream acts text unread more going s = (ap (λ (t : List ℕ). t ++ more) s.0, s.1, s.2)
stands_more (states.Receive r) channel ended now stream acts text unread more going s =
    (record { at = body_more more s.0.at; route = s.0.route; received = s.0.received }, s.1)
stands_more (states.Wait w) channel ended now stream acts text unread more going s =
    let d = s.0.discarded in (
      record {
        last = s.0.last;
        discarded = record { at = body_more more d.at; route_is = d.route_is; discarded = λ later. d.discarded later };
        waits = s.0.waits;
        asked = s.0.asked;
      },
      s.1,
    )
stands_more (states.Write w) channel ended now stream acts text unread more going s =
    let d = s.0.discarded in
    (record { last = s.0.last; discarded = record { at = body_more more d.at; route_is = d.route_is; discarded = λ later. d.discarded later }; answers = s.0.answers }, s.1)
stands_more (states.Ended end) channel ended now stream acts text unread more going s = absurd going

-- a consistent connection that isn't at its end stays consistent when more bytes, or the input's end, are read
pub holds_more : {channel : ServedChannel} {state : ConnectionState} {h : History} (more : List ℕ) (ended : Bool) → IsNotOverIn state → IsConsistent channel state h
    → IsConsistent channel state (record h { received = h.received ++ more; ended = ended; unread = h.unread ++ more })
holds_more {channel} {state} {h} more ended going x = record {
  over = x.over;
  rest = x.rest ++ more;
  serves = λ later. rw (append_assoc h.received more later, append_assoc x.rest more later) (x.serves (more ++ later));
  acts = x.acts;
  asked_is = x.asked_is;
  text = x.text;
  written = x.written;
  stage_is = stands_more state channel h.ended ended x.rest x.acts x.text h.unread more going x.stage_is;
}

-- a consistent connection stays consistent when some of the pending bytes are sent
pub holds_sent : {channel : ServedChannel} {state : ConnectionState} {h : History} (handed_out waits : List ℕ) → h.pending ≡ handed_out ++ waits → IsConsistent channel state h
    → IsConsistent channel state (record h { sent = h.sent ++ handed_out; pending = waits })
holds_sent {channel} {state} {h} handed_out waits is x = record {
  over = x.over;
  rest = x.rest;
  serves = x.serves;
  acts = x.acts;
  asked_is = x.asked_is;
  text = x.text;
  written = append_assoc h.sent handed_out waits ∙ ap (λ (t : List ℕ). h.sent ++ t) (sym is) ∙ x.written;
  stage_is = x.stage_is;
}

-- ---- what was asked

-- the acts in the notes of one more request are added at the end
pub asked_more : {B : Type 0} (old new : List (List Act × B)) (acts : List Act) (u : B) → new ≡ old ++ (acts, u) ∷ [] → flat_map (λ x. x.0) new ≡ flat_map (λ x. x.0) old ++ acts
asked_more old new acts u is = ap (flat_map (λ x. x.0)) is ∙ flat_push (λ x. x.0) old (acts, u)

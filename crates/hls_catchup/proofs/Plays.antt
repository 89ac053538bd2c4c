-- Extending a run by one action.
use Rattle.std.proofs.Common.{◌≡◌, ℕ, zero, suc, ◌+◌, ◌<◌, ◌≤◌, List, [], ◌∷◌, ◌++◌, length, take, drop, get_or, arith, refl, sym, ap, subst, inl, inr, ◌∙◌, Some, Result, length-append}
use Rattle.std.specs.Prelude.{slice_get}
use Rattle.std.proofs.lemmas.Bool.{cases_lt}
use Rattle.std.proofs.lemmas.List.{append-nil, take_all, take_more, drop_more}
use Rattle.std.proofs.lemmas.Option.{slice_get-get_or, slice_get_within}
use Rattle.hls_core_laws.specs.declared.event.Event.{Event}
use Rattle.hls_core_laws.specs.Config.{ConfigData}
use Rattle.hls_core_laws.specs.State.{State}
use Rattle.hls_core_laws.specs.Moves.{IsFitting}
use Rattle.hls_core_laws.specs.Runs.{first_state, next_state, replayed_state, AreFitting}
use Rattle.hls_catchup.specs.declared.request.Request.{Request}
use Rattle.hls_catchup.specs.declared.fault.CatchFault.{CatchFault}
use Rattle.hls_catchup.specs.declared.standalone.Action.{Action}
use Rattle.hls_catchup.specs.declared.standalone.Action.TheVariants as action
use Rattle.hls_catchup.specs.Replies.{ReplyData, IsAnswered}
use Rattle.hls_catchup.specs.Play.{events_in, requests_in, state_before, AppendsAnswer, IsPlayed, IsRunTo}

-- the events of joined actions are those of the former, then those of the latter
events_in-append : (xs ys : List Action) → events_in (xs ++ ys) ≡ events_in xs ++ events_in ys
events_in-append [] ys = refl
events_in-append (action.Event by event ∷ xs) ys = ap (λ (es : List (ℕ × Event)). (by, event) ∷ es) (events_in-append xs ys)
events_in-append (action.Ask request ∷ xs) ys = events_in-append xs ys

-- the requests of joined actions are those of the former, then those of the latter
requests_in-append : (xs ys : List Action) → requests_in (xs ++ ys) ≡ requests_in xs ++ requests_in ys
requests_in-append [] ys = refl
requests_in-append (action.Event by event ∷ xs) ys = requests_in-append xs ys
requests_in-append (action.Ask request ∷ xs) ys = ap (λ (rs : List Request). request ∷ rs) (requests_in-append xs ys)

-- joined events lead to the state that the latter lead to from the state of the former
replayed-append : (s : State) (xs ys : List (ℕ × Event)) → replayed_state s (xs ++ ys) ≡ replayed_state (replayed_state s xs) ys
replayed-append s [] ys = refl
replayed-append s (e ∷ xs) ys = replayed-append (next_state s e.0 e.1) xs ys

-- the result of a run after i actions
pub record IsPlayedTo (config : ConfigData) (actions : List Action) (i : ℕ) (state : State) (answers : List (Result ReplyData CatchFault)) : Type 0 where
  pub reached : state ≡ state_before config actions i
  pub fitting : AreFitting state (events_in (drop i actions))
  pub count : length answers ≡ length (requests_in (take i actions))
  pub each : (k : ℕ) (request : Request) → k < i → slice_get actions k ≡ Some (action.Ask request) →
      IsAnswered (state_before config actions k) request (slice_get answers (length (requests_in (take k actions))))

-- action i is the first of the rest, and the last of those up to it
record IsAction (actions : List Action) (i : ℕ) (a : Action) : Type 0 where
  rest : drop i actions ≡ a ∷ drop (i + 1) actions
  upto : take (i + 1) actions ≡ take i actions ++ a ∷ []
  at : slice_get actions i ≡ Some a

-- action i is the first of those from i on, and the last of those up to it
action_at : (actions : List Action) (i : ℕ) (a : Action) → i < length actions → a ≡ get_or actions i a → IsAction actions i a
action_at actions i a within is = record {
  rest = drop_more actions i a within ∙ ap (λ (x : Action). x ∷ drop (i + 1) actions) (sym is);
  upto = take_more actions i a within ∙ ap (λ (x : Action). take i actions ++ x ∷ []) (sym is);
  at = slice_get-get_or actions i a within ∙ ap (λ (x : Action). Some x) (sym is);
}

-- before the first action the run is in its first state, without answers
pub first_played : (config : ConfigData) (actions : List Action) → AreFitting (first_state config) (events_in actions) →
    IsPlayedTo config actions 0 (first_state config) []
first_played config actions fitting = record {
  reached = refl;
  fitting = fitting;
  count = refl;
  each = λ k request none. absurd (omega arith);
}

-- if action i is an event, the run has the next state after it, and the same answers
pub event_played : (config : ConfigData) (actions : List Action) (i : ℕ) (state next : State) (answers : List (Result ReplyData CatchFault)) (a : Action)
    (by : ℕ) (event : Event) → i < length actions → a ≡ get_or actions i a → a ≡ action.Event by event →
    IsPlayedTo config actions i state answers → next ≡ next_state state by event → IsPlayedTo config actions (i + 1) next answers
event_played config actions i state next answers a by event within is kind before stepped =
    let here = action_at actions i a within is in
    let upto : events_in (take (i + 1) actions) ≡ events_in (take i actions) ++ ((by, event) ∷ []) =
    ap events_in (here.upto ∙ ap (λ (x : Action). take i actions ++ x ∷ []) kind) ∙ events_in-append (take i actions) (action.Event by event ∷ []) in
    let asked : requests_in (take (i + 1) actions) ≡ requests_in (take i actions) =
    ap requests_in (here.upto ∙ ap (λ (x : Action). take i actions ++ x ∷ []) kind) ∙ requests_in-append (take i actions) (action.Event by event ∷ [])
    ∙ append-nil (requests_in (take i actions)) in
    let rest : events_in (drop i actions) ≡ (by, event) ∷ events_in (drop (i + 1) actions) =
    ap events_in (here.rest ∙ ap (λ (x : Action). x ∷ drop (i + 1) actions) kind) in
    let fits : AreFitting state ((by, event) ∷ events_in (drop (i + 1) actions)) = subst (AreFitting state) rest before.fitting in
    record {
      reached = stepped ∙ ap (λ (s : State). next_state s by event) before.reached
          ∙ sym (replayed-append (first_state config) (events_in (take i actions)) ((by, event) ∷ []))
          ∙ ap (replayed_state (first_state config)) (sym upto);
      fitting = subst (λ (s : State). AreFitting s (events_in (drop (i + 1) actions))) (sym stepped) fits.1;
      count = before.count ∙ ap (λ (rs : List Request). length rs) (sym asked);
      each = λ k request below at.
          elim (cases_lt k i) [
            | inl earlier ↦ before.each k request earlier at
            | inr upto_i ↦
                (let same : k ≡ i = omega arith in
                let there : slice_get actions i ≡ Some (action.Ask request) = subst (λ (n : ℕ). slice_get actions n ≡ Some (action.Ask request)) same at in
                let both : Some (action.Event by event) ≡ Some (action.Ask request) = ap (λ (x : Action). Some x) (sym kind) ∙ sym here.at ∙ there in
                cc)
          ];
    }

-- an answer keeps its index when more are appended
kept_answer : (s : State) (request : Request) (answers more : List (Result ReplyData CatchFault)) (m : ℕ) →
    IsAnswered s request (slice_get answers m) → IsAnswered s request (slice_get (answers ++ more) m)
kept_answer s request [] more m is = absurd is
kept_answer s request (a ∷ answers) more zero is = is
kept_answer s request (a ∷ answers) more (suc m) is = kept_answer s request answers more m is

-- an answer that is appended is at the index of the previous number of answers
last_answer : (answers : List (Result ReplyData CatchFault)) (a : Result ReplyData CatchFault) (m : ℕ) → m ≡ length answers →
    slice_get (answers ++ a ∷ []) m ≡ Some a
last_answer [] a zero is = refl
last_answer [] a (suc m) is = absurd (omega arith)
last_answer (x ∷ answers) a zero is = absurd (omega arith)
last_answer (x ∷ answers) a (suc m) is = last_answer answers a m (omega arith)

-- if action i is a request, the run has the same state after it, and one more answer, which is right
ask_answered : (config : ConfigData) (actions : List Action) (i : ℕ) (state : State) (answers : List (Result ReplyData CatchFault)) (a : Action)
    (request : Request) (answer : Result ReplyData CatchFault) → i < length actions → a ≡ get_or actions i a → a ≡ action.Ask request →
    IsPlayedTo config actions i state answers → IsAnswered state request (Some answer) → IsPlayedTo config actions (i + 1) state (answers ++ answer ∷ [])
ask_answered config actions i state answers a request answer within is kind before answered =
    let here = action_at actions i a within is in
    let upto : events_in (take (i + 1) actions) ≡ events_in (take i actions) =
    ap events_in (here.upto ∙ ap (λ (x : Action). take i actions ++ x ∷ []) kind) ∙ events_in-append (take i actions) (action.Ask request ∷ [])
    ∙ append-nil (events_in (take i actions)) in
    let asked : requests_in (take (i + 1) actions) ≡ requests_in (take i actions) ++ (request ∷ []) =
    ap requests_in (here.upto ∙ ap (λ (x : Action). take i actions ++ x ∷ []) kind) ∙ requests_in-append (take i actions) (action.Ask request ∷ []) in
    let rest : events_in (drop i actions) ≡ events_in (drop (i + 1) actions) =
    ap events_in (here.rest ∙ ap (λ (x : Action). x ∷ drop (i + 1) actions) kind) in
    record {
      reached = before.reached ∙ ap (replayed_state (first_state config)) (sym upto);
      fitting = subst (AreFitting state) rest before.fitting;
      count =
          let more : length (answers ++ answer ∷ []) ≡ length answers + 1 = length-append answers (answer ∷ []) in
          let many : length (requests_in (take i actions) ++ (request ∷ [])) ≡ length (requests_in (take i actions)) + 1 =
          length-append (requests_in (take i actions)) (request ∷ []) in
          let same : length (requests_in (take (i + 1) actions)) ≡ length (requests_in (take i actions) ++ (request ∷ [])) =
          ap (λ (rs : List Request). length rs) asked in
          omega (arith, before.count);
      each = λ k other below at.
          elim (cases_lt k i) [
            | inl earlier ↦
                kept_answer (state_before config actions k) other answers (answer ∷ []) (length (requests_in (take k actions))) (before.each k other earlier at)
            | inr upto_i ↦
                (let same : k ≡ i = omega arith in
                let there : slice_get actions i ≡ Some (action.Ask other) = subst (λ (n : ℕ). slice_get actions n ≡ Some (action.Ask other)) same at in
                let both : Some (action.Ask request) ≡ Some (action.Ask other) = ap (λ (x : Action). Some x) (sym kind) ∙ sym here.at ∙ there in
                let it : request ≡ other = cc in
                let last : slice_get (answers ++ answer ∷ []) (length (requests_in (take i actions))) ≡ Some answer =
                last_answer answers answer (length (requests_in (take i actions))) (sym before.count) in
                let P : State → Type 0 = λ s. IsAnswered s request (Some answer) in
                let now : IsAnswered (state_before config actions i) request (Some answer) = subst P before.reached answered in
                let placed : IsAnswered (state_before config actions i) request (slice_get (answers ++ answer ∷ []) (length (requests_in (take i actions)))) =
                subst (IsAnswered (state_before config actions i) request) (sym last) now in
                let his : IsAnswered (state_before config actions i) other (slice_get (answers ++ answer ∷ []) (length (requests_in (take i actions)))) =
                subst (λ (r : Request). IsAnswered (state_before config actions i) r (slice_get (answers ++ answer ∷ []) (length (requests_in (take i actions))))) it placed in
                subst (λ (n : ℕ). IsAnswered (state_before config actions n) other (slice_get (answers ++ answer ∷ []) (length (requests_in (take n actions))))) (sym same) his)
          ];
    }

-- the same if a call appended the answer
pub ask_played : (config : ConfigData) (actions : List Action) (i : ℕ) (state : State) (answers more : List (Result ReplyData CatchFault)) (a : Action)
    (request : Request) → i < length actions → a ≡ get_or actions i a → a ≡ action.Ask request →
    IsPlayedTo config actions i state answers → AppendsAnswer state request answers more → IsPlayedTo config actions (i + 1) state more
ask_played config actions i state answers more a request within is kind before has =
    subst (IsPlayedTo config actions (i + 1) state) (sym has.appended) (ask_answered config actions i state answers a request has.answer within is kind before has.right)

-- after all actions, the run has its last state and the answer to each request
pub all_played : (config : ConfigData) (actions : List Action) (i : ℕ) (state : State) (answers : List (Result ReplyData CatchFault)) →
    length actions ≤ i → IsPlayedTo config actions i state answers → IsPlayed config actions state answers
all_played config actions i state answers all played =
    let whole : take i actions ≡ actions = take_all i actions all in
    record {
      state = played.reached ∙ ap (λ (xs : List Action). replayed_state (first_state config) (events_in xs)) whole;
      count = played.count ∙ ap (λ (xs : List Action). length (requests_in xs)) whole;
      each = λ k request at. let within : k < length actions = slice_get_within actions k (action.Ask request) at in played.each k request (omega arith) at;
    }

-- events that fit, and one more that fits the state to which they lead, fit together
fitting-more : (s : State) (events : List (ℕ × Event)) (by : ℕ) (event : Event) → AreFitting s events → IsFitting (replayed_state s events) event →
    AreFitting s (events ++ ((by, event) ∷ []))
fitting-more s [] by event fitting fits = (fits, tt)
fitting-more s (e ∷ events) by event fitting fits = (fitting.0, fitting-more (next_state s e.0 e.1) events by event fitting.1 fits)

-- a run to a state, with one more event that fits there, is a run to the next state
pub run_with_event : (config : ConfigData) (actions : List Action) (state next : State) (by : ℕ) (event : Event) → IsRunTo config actions state →
    IsFitting state event → next ≡ next_state state by event → IsRunTo config (actions ++ action.Event by event ∷ []) next
run_with_event config actions state next by event run fits stepped =
    let reported : events_in (actions ++ action.Event by event ∷ []) ≡ events_in actions ++ ((by, event) ∷ []) = events_in-append actions (action.Event by event ∷ []) in
    let fits_there : IsFitting (replayed_state (first_state config) (events_in actions)) event = subst (λ (s : State). IsFitting s event) run.1 fits in (
      subst (AreFitting (first_state config)) (sym reported) (fitting-more (first_state config) (events_in actions) by event run.0 fits_there),
      stepped ∙ ap (λ (s : State). next_state s by event) run.1
          ∙ sym (replayed-append (first_state config) (events_in actions) ((by, event) ∷ []))
          ∙ ap (replayed_state (first_state config)) (sym reported),
    )

-- a run with one more request is a run to the same state
pub run_with_request : (config : ConfigData) (actions : List Action) (state : State) (request : Request) → IsRunTo config actions state →
    IsRunTo config (actions ++ action.Ask request ∷ []) state
run_with_request config actions state request run =
    let reported : events_in (actions ++ action.Ask request ∷ []) ≡ events_in actions = events_in-append actions (action.Ask request ∷ []) ∙ append-nil (events_in actions) in
    (subst (AreFitting (first_state config)) (sym reported) run.0, run.1 ∙ ap (replayed_state (first_state config)) (sym reported))

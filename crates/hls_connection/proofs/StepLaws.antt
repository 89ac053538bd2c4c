-- What holds after a transition of a connection.
use Rattle.std.proofs.Common.{◌≡◌, ◌<◌, Bool, true, false, refl, subst, sym}
use Rattle.hls_api.specs.{Acts.Knowledge, OtherActors.OtherActors}
use Rattle.hls_connection.specs.declared.{receive.ReceivingBody.ReceivingBody, state.ConnectionState.ConnectionState, state.WaitingResponse.WaitingResponse}
use Rattle.hls_connection.specs.declared.state.ConnectionState.TheVariants.{Head, Receive, Wait, Write, Ended}
use Rattle.hls_connection.specs.{States.is_receiving, Waits.waits_in}
use Rattle.hls_connection.specs.Traces.{Advances, ConnectionTrace, TraceIsIdleOrBlocked, trace_steps_left}

-- an advance to a trace is one to an equal trace
pub advances_to : {m : OtherActors} {a b : Knowledge} {old now new : ConnectionTrace} → new ≡ now → Advances m a old b now → Advances m a old b new
advances_to {m} {a} {b} {old} is x = subst (λ (c : ConnectionTrace). Advances m a old b c) (sym is) x

-- if a trace has fewer steps left, so has an equal trace
pub lowers_to : {now new : ConnectionTrace} (old : ConnectionTrace) → new ≡ now → trace_steps_left now < trace_steps_left old → trace_steps_left new < trace_steps_left old
lowers_to old is x = subst (λ (c : ConnectionTrace). trace_steps_left c < trace_steps_left old) (sym is) x

-- if a trace is idle or blocked, so is an equal trace
pub blocked_at : {now new : ConnectionTrace} → new ≡ now → TraceIsIdleOrBlocked now → TraceIsIdleOrBlocked new
blocked_at is x = subst (λ (c : ConnectionTrace). TraceIsIdleOrBlocked c) (sym is) x

-- a state that receives is the receiving of some body
pub receives_body : (s : ConnectionState) → is_receiving s ≡ true → ((r : ReceivingBody) → s ≡ Receive r → ⊥) → ⊥
receives_body Head in_state never = cc
receives_body (Receive r) in_state never = never r refl
receives_body (Wait w) in_state never = cc
receives_body (Write w) in_state never = cc
receives_body (Ended end) in_state never = cc

-- a state in which a response waits is the wait of some response
pub waits_response : (s : ConnectionState) → waits_in s ≡ true → ((w : WaitingResponse) → s ≡ Wait w → ⊥) → ⊥
waits_response Head in_state never = cc
waits_response (Receive r) in_state never = cc
waits_response (Wait w) in_state never = never w refl
waits_response (Write w) in_state never = cc
waits_response (Ended end) in_state never = cc

-- A waiting response still waits, and nothing changes, or the step that answers it advances the connection.
use Rattle.std.proofs.Common.{◌≡◌, [], arith, false, refl, rules}
use Rattle.std.proofs.lemmas.List.{nil_from_length}
use Rattle.hls_api.proofs.Callers.{acted_none}
use Rattle.hls_connection.specs.declared.state.WaitingResponse.{WaitingResponse}
use Rattle.hls_connection.specs.declared.state.ConnectionState.TheVariants.{Wait}
use Rattle.hls_connection.specs.Traces.{ConnectionTrace, trace_at}
use Rattle.hls_connection.proofs.CallLaws.{sent_acts, sent_awake, sent_few, sent_suits}
use Rattle.hls_connection.proofs.StepLaws.{advances_to, lowers_to, waits_response}
use Rattle.hls_connection.proofs.WaitLaws.{answered_waits, waiting_waits, waits_to}
use Rattle.hls_connection.proofs.{TraceLaws.advances_step, TraceLaws.advances_within}
use Rattle.hls_connection.proofs.machine.ConnectionMachine.step_wait.Goals as goal

-- the trace with this response waiting
abbrev waiting_trace : ConnectionTrace → WaitingResponse → ConnectionTrace
waiting_trace c w = record c { state = Wait w }

pub returns-in_default-step_waiting-clause-advances : goal.returns-in_default-step_waiting-clause-advances
returns-in_default-step_waiting-clause-advances g c =
    let suits = rw c.in-Wait.is at c.requires.suits in
    rw (c.in-Wait.is, c.step_waiting.ensures.same (search rules))
    (advances_within _ (waiting_trace (trace_at c.args.self.now c.args.input.now.unread) c.in-Wait.waiting) (Wait c.in-Wait.waiting) c.args.input.now.unread suits (λ h. h) (acted_none _ _ _) tt)

pub returns-in-Wait-clause-advances : goal.returns-in-Wait-clause-advances
returns-in-Wait-clause-advances g c =
    let m = c.args.self.now in
    let unread = c.args.input.now.unread in
    let empty : m.output ≡ [] = nil_from_length m.output c.requires.empty in
    let suits = rw c.in-Wait.is at c.requires.suits in
    let sends = c.in-Some.ensures.sends in
    advances_to (c.apply.ensures.trace unread) (rw c.in-Wait.is
    (advances_step _ (waiting_trace (trace_at m unread) c.in-Wait.waiting) c.in-Some.step unread suits empty (c.in-Some.ensures.consistent m.channel m.ended unread)
    (rw (sent_acts sends) (acted_none _ _ _)) (sent_suits sends _)))

pub returns-in-Wait-clause-lowers : goal.returns-in-Wait-clause-lowers
returns-in-Wait-clause-lowers g c = λ more.
    lowers_to (trace_at c.args.self.now c.args.input.now.unread) (c.apply.ensures.trace c.args.input.now.unread) (rw c.in-Wait.is (omega (arith, sent_few c.in-Some.ensures.sends)))

-- ---- waits

pub returns-in_default-step_waiting-clause-waits : goal.returns-in_default-step_waiting-clause-waits
returns-in_default-step_waiting-clause-waits g c =
    waiting_waits c.args.now (trace_at c.args.self.now c.args.input.now.unread) _ false c.in-Wait.waiting c.step_waiting.new.waiting c.in-Wait.is refl (c.step_waiting.ensures.same (search rules)) (rw c.in_default-step_waiting.is at c.step_waiting.ensures.answers)

pub returns-in-Wait-clause-waits : goal.returns-in-Wait-clause-waits
returns-in-Wait-clause-waits g c =
    waits_to (c.apply.ensures.trace c.args.input.now.unread)
    (answered_waits c.args.now (trace_at c.args.self.now c.args.input.now.unread) (trace_at c.args.self.now c.args.input.now.unread) c.apply.result c.in-Wait.waiting c.in-Some.step c.in-Wait.is (rw c.in-Some.is at c.step_waiting.ensures.answers) (sent_awake c.in-Some.ensures.sends))

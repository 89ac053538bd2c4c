-- The connection advances as the step of its state says, without acts, and fewer steps are left if there may be more to do.
use Rattle.std.proofs.Common.{◌≡◌, ◌∙◌, [], ap, inl, inr, sym}
use Rattle.std.proofs.lemmas.List.{nil_from_length}
use Rattle.hls_api.proofs.Callers.{acted_none}
use Rattle.hls_connection.specs.{Traces.trace_at, Waits.waits_in}
use Rattle.hls_connection.proofs.StepLaws.{advances_to, blocked_at, lowers_to}
use Rattle.hls_connection.proofs.WaitLaws.{awake_state, never_waits, waits_to}
use Rattle.hls_connection.proofs.{TraceLaws.advances_step, TraceLaws.suited_valid}
use Rattle.hls_connection.proofs.machine.ConnectionMachine.step_other.Goals as goal

pub returns-clause-advances : goal.returns-clause-advances
returns-clause-advances g c = λ m' known suits.
    let m = c.args.self.now in
    let unread = c.step_state-step.new.input.unread in
    let empty : m.output ≡ [] = nil_from_length m.output c.requires.empty in
    advances_to (c.apply.ensures.trace unread)
    (advances_step _ (trace_at m c.args.input.now.unread) c.step_state-step.result unread suits empty
    (rw c.replace-state.ensures.value at c.step_state-step.ensures.consistent)
    (rw (c.step_state-step.ensures.asks.same, c.replace-state.ensures.value) (acted_none _ _ _))
    (c.step_state-step.ensures.asks.suits _ (suited_valid suits)))

pub returns-clause-lowers : goal.returns-clause-lowers
returns-clause-lowers g c = λ more.
    let turns = rw c.replace-state.ensures.value at c.step_state-step.ensures.turns in
    lowers_to (trace_at c.args.self.now c.args.input.now.unread) (c.apply.ensures.trace c.step_state-step.new.input.unread) (turns.lowers (sym c.apply.ensures.more ∙ more))

pub returns-clause-idle_or_blocked : goal.returns-clause-idle_or_blocked
returns-clause-idle_or_blocked g c = λ off.
    let turns = rw c.replace-state.ensures.value at c.step_state-step.ensures.turns in
    inl (blocked_at (c.apply.ensures.trace c.step_state-step.new.input.unread) (inr (turns.idle_or_blocked (sym c.apply.ensures.more ∙ off))))

pub returns-clause-waits : goal.returns-clause-waits
returns-clause-waits g c = λ now.
    waits_to (c.apply.ensures.trace c.step_state-step.new.input.unread)
    (never_waits (awake_state c.args.self.now.state (λ w is. cc (ap waits_in is, c.requires.waits))) c.step_state-step.ensures.asks.awake)

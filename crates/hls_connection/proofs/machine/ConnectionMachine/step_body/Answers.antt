-- Receiving some of a body advances the connection: within the body, or by the step that ends it.
use Rattle.std.proofs.Common.{◌≡◌, ◌∙◌, [], ap, append-nil, arith, inl, inr, refl}
use Rattle.std.proofs.lemmas.List.{nil_from_length}
use Rattle.hls_api.proofs.Callers.{acted_on}
use Rattle.hls_connection.specs.{declared.receive.ReceivingBody.ReceivingBody, Waits.deadline_in}
use Rattle.hls_connection.specs.declared.state.ConnectionState.TheVariants.{Receive}
use Rattle.hls_connection.specs.Traces.{ConnectionTrace, trace_at}
use Rattle.hls_connection.proofs.StepLaws.{advances_to, blocked_at, lowers_to, receives_body}
use Rattle.hls_connection.proofs.WaitLaws.{begins_waits, never_waits, waits_to, without_time}
use Rattle.hls_connection.proofs.{HoldLaws.cuts, TraceLaws.advances_step, TraceLaws.advances_within, TraceLaws.receives}
use Rattle.hls_connection.proofs.machine.ConnectionMachine.step_body.Goals as goal

-- the trace with this body being received
abbrev receiving_trace : ConnectionTrace → ReceivingBody → ConnectionTrace
receiving_trace c r = record c { state = Receive r }

-- ---- what was received of a body, which isn't over

pub returns-in-More-clause-advances : goal.returns-in-More-clause-advances
returns-in-More-clause-advances g c =
    let m = c.args.self.now in
    let r = c.receive_some.ensures in
    let suits = rw c.in-Receive.is at c.requires.suits in
    rw c.in-Receive.is (advances_within _ (receiving_trace (trace_at m c.args.input.now.unread) c.in-Receive.receiving) _ c.receive_some.new.input.unread suits
    (receives c.receive_some.new.input.unread (λ stream first x. c.in-More.ensures.receives m.channel stream first x)) r.act_steps (r.usable, r.for_target suits.body.1))

pub returns-in-Wait-clause-advances : goal.returns-in-Wait-clause-advances
returns-in-Wait-clause-advances g c =
    let m = c.args.self.now in
    let r = c.receive_some.ensures in
    let suits = rw c.in-Receive.is at c.requires.suits in
    rw c.in-Receive.is (advances_within _ (receiving_trace (trace_at m c.args.input.now.unread) c.in-Receive.receiving) _ c.receive_some.new.input.unread suits
    (receives c.receive_some.new.input.unread (λ stream first x. (c.in-Wait.ensures.receives m.channel stream first x).0)) r.act_steps (r.usable, r.for_target suits.body.1))

-- ---- a body that receives no more: it is cut short, too large, or ended

pub returns-in-Wait-2-clause-advances : goal.returns-in-Wait-2-clause-advances
returns-in-Wait-2-clause-advances g c =
    let m = c.args.self.now in
    let unread = c.receive_some.new.input.unread in
    let empty : m.output ≡ [] = nil_from_length m.output c.requires.empty in
    let suits = rw c.in-Receive.is at c.requires.suits in
    advances_to (c.apply.ensures.trace unread) (rw c.in-Receive.is
    (advances_step _ (receiving_trace (trace_at m c.args.input.now.unread) c.in-Receive.receiving) c.cut_body_short-step.result unread suits empty
    (rw c.cut_body_short-step.ensures (λ received sent past_acts h. cuts unread h refl c.if-not-self.false (c.in-Wait-2.ensures.receives m.channel h.rest h.text h.stage_is.0)))
    (rw (c.cut_body_short-step.ensures, append-nil) c.receive_some.ensures.act_steps) (rw c.cut_body_short-step.ensures tt)))

pub returns-in-Wait-2-clause-idle_or_blocked : goal.returns-in-Wait-2-clause-idle_or_blocked
returns-in-Wait-2-clause-idle_or_blocked g c = λ off. inl (blocked_at (c.apply.ensures.trace c.receive_some.new.input.unread) (rw c.cut_body_short-step.ensures (inr (inl tt))))

pub returns-in-TooLarge-clause-advances : goal.returns-in-TooLarge-clause-advances
returns-in-TooLarge-clause-advances g c =
    let m = c.args.self.now in
    let unread = c.receive_some.new.input.unread in
    let empty : m.output ≡ [] = nil_from_length m.output c.requires.empty in
    let suits = rw c.in-Receive.is at c.requires.suits in
    advances_to (c.apply-in-TooLarge.ensures.trace unread) (rw c.in-Receive.is
    (advances_step _ (receiving_trace (trace_at m c.args.input.now.unread) c.in-Receive.receiving) c.end_large_body-step.result unread suits empty
    (c.end_large_body-step.ensures.consistent m.channel m.ended _ _ _ c.in-TooLarge.ensures.receives)
    (rw c.end_large_body-step.ensures.acts c.receive_some.ensures.act_steps) (c.end_large_body-step.ensures.proceeds.suits _)))

pub returns-in-TooLarge-clause-lowers : goal.returns-in-TooLarge-clause-lowers
returns-in-TooLarge-clause-lowers g c = λ more.
    lowers_to (trace_at c.args.self.now c.args.input.now.unread) (c.apply-in-TooLarge.ensures.trace c.receive_some.new.input.unread)
    (rw c.in-Receive.is (omega (arith, c.end_large_body-step.ensures.proceeds.few, c.receive_some.ensures.less)))

pub returns-in-TooLarge-clause-idle_or_blocked : goal.returns-in-TooLarge-clause-idle_or_blocked
returns-in-TooLarge-clause-idle_or_blocked g c = λ off. absurd (cc (off, c.apply-in-TooLarge.ensures.more, c.end_large_body-step.ensures.proceeds.continues))

pub returns-in-Done-clause-advances : goal.returns-in-Done-clause-advances
returns-in-Done-clause-advances g c =
    let m = c.args.self.now in
    let unread = c.receive_some.new.input.unread in
    let empty : m.output ≡ [] = nil_from_length m.output c.requires.empty in
    let suits = rw c.in-Receive.is at c.requires.suits in
    advances_to (c.apply-in-Done.ensures.trace unread) (rw c.in-Receive.is
    (advances_step _ (receiving_trace (trace_at m c.args.input.now.unread) c.in-Receive.receiving) c.end_body-step.result unread suits empty
    (c.end_body-step.ensures.consistent m.channel m.ended _ _ _ c.in-Done.ensures.receives)
    (acted_on _ _ _ _ _ _ _ c.receive_some.ensures.act_steps c.end_body-step.ensures.act_steps) (c.end_body-step.ensures.proceeds.suits _)))

pub returns-in-Done-clause-lowers : goal.returns-in-Done-clause-lowers
returns-in-Done-clause-lowers g c = λ more.
    lowers_to (trace_at c.args.self.now c.args.input.now.unread) (c.apply-in-Done.ensures.trace c.receive_some.new.input.unread)
    (rw c.in-Receive.is (omega (arith, c.end_body-step.ensures.proceeds.few, c.receive_some.ensures.less)))

pub returns-in-Done-clause-idle_or_blocked : goal.returns-in-Done-clause-idle_or_blocked
returns-in-Done-clause-idle_or_blocked g c = λ off. absurd (cc (off, c.apply-in-Done.ensures.more, c.end_body-step.ensures.proceeds.continues))

-- ---- waits

pub returns-in-More-clause-waits : goal.returns-in-More-clause-waits
returns-in-More-clause-waits g c = never_waits (ap deadline_in c.in-Receive.is) refl

pub returns-in-Wait-clause-waits : goal.returns-in-Wait-clause-waits
returns-in-Wait-clause-waits g c = never_waits (ap deadline_in c.in-Receive.is) refl

pub returns-in-Wait-2-clause-waits : goal.returns-in-Wait-2-clause-waits
returns-in-Wait-2-clause-waits g c =
    waits_to (c.apply.ensures.trace c.receive_some.new.input.unread) (never_waits (ap deadline_in c.in-Receive.is) (rw c.cut_body_short-step.ensures refl))

pub returns-in-TooLarge-clause-waits : goal.returns-in-TooLarge-clause-waits
returns-in-TooLarge-clause-waits g c =
    let proceeds = c.end_large_body-step.ensures.proceeds in
    waits_to (c.apply-in-TooLarge.ensures.trace c.receive_some.new.input.unread)
    (begins_waits (ap deadline_in c.in-Receive.is) (without_time c.args.now _ proceeds.deadline) (λ off. absurd (cc (off, c.apply-in-TooLarge.ensures.more, proceeds.continues))))

pub returns-in-Done-clause-waits : goal.returns-in-Done-clause-waits
returns-in-Done-clause-waits g c =
    let proceeds = c.end_body-step.ensures.proceeds in
    waits_to (c.apply-in-Done.ensures.trace c.receive_some.new.input.unread)
    (begins_waits (ap deadline_in c.in-Receive.is) proceeds.deadline (λ off. absurd (cc (off, c.apply-in-Done.ensures.more, proceeds.continues))))

-- A connection that has bytes to send doesn't change, nor does one that has read nothing of its next request.
-- From any other state it advances as the step of that state does.
use Rattle.std.proofs.Common.{◌≡◌, ap, arith, false, inl, inr, refl, rules}
use Rattle.hls_connection.specs.Waits.{deadline_in}
use Rattle.hls_connection.specs.Traces.{trace_at}
use Rattle.hls_connection.proofs.{TraceLaws.advances_none, WaitLaws.never_waits, WaitLaws.sending_waits}
use Rattle.hls_connection.proofs.machine.ConnectionMachine.step.Goals as goal

-- something waits to be sent
pub returns-then-not-is_empty-clause-waits : goal.returns-then-not-is_empty-clause-waits
returns-then-not-is_empty-clause-waits g c = sending_waits c.args.now (trace_at c.args.self.now c.args.input.now.unread) false (search rules)

-- nothing of the next request was read
pub returns-then-awaits_head-clause-advances : goal.returns-then-awaits_head-clause-advances
returns-then-awaits_head-clause-advances g c = advances_none _ c.requires.suits

pub returns-then-awaits_head-clause-idle_or_blocked : goal.returns-then-awaits_head-clause-idle_or_blocked
returns-then-awaits_head-clause-idle_or_blocked g c = λ off.
    let is = c.awaits_head.ensures (search rules) in
    rw (is.0, is.1, is.2) (inl (inr (inr (refl, omega arith, inl refl))))

pub returns-then-awaits_head-clause-waits : goal.returns-then-awaits_head-clause-waits
returns-then-awaits_head-clause-waits g c =
    let is = c.awaits_head.ensures (search rules) in
    never_waits (ap deadline_in is.0) (ap deadline_in is.0)

-- a step from another state
pub returns-clause-advances : goal.returns-clause-advances
returns-clause-advances g c = c.step_other.ensures.advances g.K.Keeper.other_actors (g.K.Keeper.known c.args.keeper.now) c.requires.suits

pub returns-clause-waits : goal.returns-clause-waits
returns-clause-waits g c = c.step_other.ensures.waits c.args.now

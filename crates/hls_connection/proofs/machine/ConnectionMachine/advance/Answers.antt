-- The steps so far advance the connection; one more extends that, and lowers the number of steps left.
use Rattle.std.proofs.Common.{◌≡◌, ◌∙◌, true, refl, arith, rules}
use Rattle.hls_connection.proofs.{TraceLaws.advances_none, TraceLaws.advances_on, WaitLaws.awake_state, WaitLaws.begins_waits, WaitLaws.deadline_on}
use Rattle.hls_connection.proofs.machine.ConnectionMachine.advance.Goals as goal

pub loop-init : goal.loop-init
loop-init g c = record { advances = advances_none _ c.requires.suits; deadline = rw (awake_state c.args.self.now.state (search rules)) tt; room = refl; lowers = omega arith }

pub step-more-requires : goal.step-more-requires
step-more-requires g c = record { suits = c.loop.invariant.advances.suits }

pub loop-preserved : goal.loop-preserved
loop-preserved g c =
    let step = c.step-more.ensures in
    record {
      advances = advances_on _ c.loop.invariant.advances step.advances;
      deadline = deadline_on c.args.now _ _ c.loop.invariant.deadline step.waits.deadline;
      room = step.room ∙ c.loop.invariant.room;
      lowers = let more : c.step-more.result ≡ true = search rules in omega (arith, c.loop.invariant.lowers, step.lowers more);
    }

pub returns-then-not-more-clause-advances : goal.returns-then-not-more-clause-advances
returns-then-not-more-clause-advances g c =
    let step = c.step-more.ensures in
    advances_on _ c.loop.invariant.advances step.advances

pub returns-then-not-more-clause-lowers : goal.returns-then-not-more-clause-lowers
returns-then-not-more-clause-lowers g c = λ more. omega (arith, c.loop.invariant.lowers, c.step-more.ensures.lowers more)

pub returns-clause-lowers : goal.returns-clause-lowers
returns-clause-lowers g c = λ more. omega (arith, c.loop.invariant.lowers, c.loop-test.false)

pub returns-then-not-more-clause-waits : goal.returns-then-not-more-clause-waits
returns-then-not-more-clause-waits g c =
    begins_waits (awake_state c.args.self.now.state (search rules)) (deadline_on c.args.now _ _ c.loop.invariant.deadline c.step-more.ensures.waits.deadline) c.step-more.ensures.waits.timely

pub returns-clause-waits : goal.returns-clause-waits
returns-clause-waits g c = begins_waits (awake_state c.args.self.now.state (search rules)) c.loop.invariant.deadline (λ off. absurd (cc off))

-- If no step leads to the place ahead, none leads to a later one (`none_from`).
use Rattle.std.proofs.Common.{arith}
use Rattle.hls_plan.proofs.Between.{none_from}
use Rattle.hls_plan.proofs.reach.look_ahead.Goals as goal

pub returns-then-not-is_allowed-clause-none : goal.returns-then-not-is_allowed-clause-none
returns-then-not-is_allowed-clause-none c =
    none_from c.args.table.now c.len-count.ensures.orderly c.args.p c.loop-far.last c.loop-far.far
    c.loop-far.invariant.allowed (omega (arith, c.loop-far.invariant.far))
    (λ there. let yes = c.is_allowed.ensures.1 there in let no = c.if-not-is_allowed.true in cc)

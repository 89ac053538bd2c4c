-- If no step leads to the middle place, none leads to a later one (`none_from`), so it is the new end.
use Rattle.std.proofs.Common.{◌+◌, ◌-◌, ◌/◌, ℕ, arith}
use Rattle.hls_plan.proofs.Between.{none_from}
use Rattle.hls_plan.proofs.reach.last_allowed_between.Goals as goal

pub loop-last-preserved : goal.loop-last-preserved
loop-last-preserved c =
    let now = c.loop-last.invariant in
    let middle : ℕ = c.loop-last.last + (c.loop-last.end - c.loop-last.last) / 2 in
    record {
      allowed = now.allowed;
      not_before = now.not_before;
      before = omega arith;
      within = omega (arith, now.within);
      none =
          none_from c.args.table.now c.requires.orderly c.args.p c.loop-last.last middle now.allowed (omega arith)
          (λ there. let yes = c.is_allowed.ensures.1 there in let no = c.if-is_allowed.false in cc);
      rises = omega (arith, now.rises, c.tick.ensures);
      count = omega (arith, now.count, c.tick.ensures);
    }

pub returns-clause-last : goal.returns-clause-last
returns-clause-last c = λ j after there.
    let now = c.loop-last.invariant in now.none j (omega (arith, now.before)) there

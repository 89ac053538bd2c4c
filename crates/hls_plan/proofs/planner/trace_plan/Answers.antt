-- The path begins with the last place alone (`way_start`); each step adds the place that the previous one was reached from (`way_more`), which is an
-- earlier one.
use Rattle.std.proofs.Common.{◌≡◌, ℕ, ◌-◌, length, arith, ap}
use Rattle.hls_plan.proofs.WaysBack.{way_start, way_more}
use Rattle.hls_plan.proofs.planner.trace_plan.Goals as goal

pub loop-at-init : goal.loop-at-init
loop-at-init c =
    let is_last : c.len-at.result - 1 ≡ length c.args.table.now.places - 1 = ap (λ (x : ℕ). x - 1) c.len-at.ensures.len in
    record {
      back = rw c.in_ok-push.ensures.items
          (way_start _ _ _ _ is_last c.new-path.ensures.items c.requires.reached);
      in_range = omega (arith, c.len-at.ensures.valid.count);
    }

pub loop-at-smaller : goal.loop-at-smaller
loop-at-smaller c =
    let back = c.loop-at.invariant.back in
    (c.requires.pricing.reached c.loop-at.at back.price (omega arith) back.priced).earlier

pub loop-at-preserved : goal.loop-at-preserved
loop-at-preserved c =
    let back = c.loop-at.invariant.back in
    let reached = c.requires.pricing.reached c.loop-at.at back.price (omega arith) back.priced in
    record {
      back = rw c.in_ok-push-2.ensures.items (way_more _ _ _ _ _ back reached);
      in_range = omega (arith, reached.earlier, c.loop-at.invariant.in_range);
    }

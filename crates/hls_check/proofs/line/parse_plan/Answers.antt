-- A line that doesn't begin with `plan` is no plan line. Neither is one with the number of a place that isn't in the table.
use Rattle.std.proofs.Common.{◌<◌, All}
use Rattle.hls_check.proofs.LineKinds.{no_prefix, plan_too_far}
use Rattle.hls_check.proofs.line.parse_plan.Goals as goal

pub returns-in_default : goal.returns-in_default
returns-in_default c = no_prefix c.args.line.now c.args.count c.in_default.ensures

pub returns : goal.returns
returns c =
    let far : All (λ p. p < c.args.count) c.deref.result.now → ⊥ = rw c.in-None.is at c.in_ok-plan.ensures in
    plan_too_far c.args.line.now c.in-Some.rest.now c.in-Some-2.numbers.items c.args.count c.requires c.in-Some.ensures
    (rw c.in-Some-2.is at c.in_ok-numbers.ensures) (rw c.deref.ensures.value at far)

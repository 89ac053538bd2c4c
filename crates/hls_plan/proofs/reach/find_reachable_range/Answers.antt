-- The steps from the place lead exactly to the places from the first to the last one found: in an orderly table they are contiguous.
use Rattle.std.proofs.Common.{arith}
use Rattle.hls_plan.proofs.Between.{span_found}
use Rattle.hls_plan.proofs.reach.find_reachable_range.Goals as goal

pub returns-clause-found : goal.returns-clause-found
returns-clause-found c =
    span_found c.args.table.now c.requires.orderly c.args.p c.in-Some.first c.last_allowed_between-last.result c.in-Some.ensures.found
    c.last_allowed_between-last.ensures.allowed (omega (arith, c.look_ahead-low.ensures.not_before, c.last_allowed_between-last.ensures.not_before))
    c.last_allowed_between-last.ensures.last

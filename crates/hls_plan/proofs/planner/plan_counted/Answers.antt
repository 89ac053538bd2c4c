-- The planner's certificate is good, its plan is optimal or none exists, its prices are exact, and its claim can be written as text (Results).
use Rattle.std.proofs.lemmas.Result.{IfOk-weaker}
use Rattle.hls_plan.proofs.Results.{good_from_found, best_from_found, exact_from_found, shown_from_found}
use Rattle.hls_plan.proofs.planner.plan_counted.Goals as goal

pub returns-clause-good : goal.returns-clause-good
returns-clause-good c = IfOk-weaker _ _ _ (good_from_found _ c.find_plan.ensures.orderly.sorted) c.find_plan.ensures.found

pub returns-clause-best : goal.returns-clause-best
returns-clause-best c =
    IfOk-weaker _ _ _ (best_from_found _ c.find_plan.ensures.valid c.find_plan.ensures.orderly.sorted) c.find_plan.ensures.found

pub returns-clause-exact : goal.returns-clause-exact
returns-clause-exact c =
    IfOk-weaker _ _ _ (exact_from_found _ c.find_plan.ensures.valid c.find_plan.ensures.orderly.sorted) c.find_plan.ensures.found

pub returns-clause-shown : goal.returns-clause-shown
returns-clause-shown c = IfOk-weaker _ _ _ (shown_from_found _ c.find_plan.ensures.valid) c.find_plan.ensures.found

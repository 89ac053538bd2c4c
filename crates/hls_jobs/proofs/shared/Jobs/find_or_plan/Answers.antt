-- What is returned was in the table of plans, or was added to it, under the lock, from the snapshot. It is missing only if it isn't the
-- client's turn.
use Rattle.hls_jobs.proofs.PlanCalls.{added_plan, planned_from}
use Rattle.hls_jobs.proofs.shared.Jobs.find_or_plan.Goals as goal

pub returns-clause-added : goal.returns-clause-added
returns-clause-added g c = added_plan _ c.args.request c.args.client c.find_or_add-found.result c.find_or_add-found.ensures.found c.find_or_add-found.ensures.full

pub returns-clause-adds : goal.returns-clause-adds
returns-clause-adds g c =
    planned_from _ _ _ c.args.request c.args.client c.find_or_add-found.result c.find_or_add-found.ensures.found c.find_or_add-found.ensures.adds

-- What is returned is what the table of plans had for the request under the lock.
use Rattle.hls_jobs.proofs.PlanCalls.{found_plan}
use Rattle.hls_jobs.proofs.shared.Jobs.find_plan.Goals as goal

pub returns : goal.returns
returns g c = found_plan _ c.args.request c.find.result c.find.ensures.found

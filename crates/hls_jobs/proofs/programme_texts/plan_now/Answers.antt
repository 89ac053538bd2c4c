-- The result is the texts for the request, which are never missing; so it is what some table of plans, even an empty one, may have for the
-- request.
use Rattle.std.proofs.Common.{[]}
use Rattle.hls_jobs.proofs.programme_texts.plan_now.Goals as goal

pub returns-clause-added : goal.returns-clause-added
returns-clause-added c = λ client. record { plans = []; is = c.in_ok-texts.ensures; full = λ same. absurd (cc same) }

pub returns-clause-found : goal.returns-clause-found
returns-clause-found c = record { plans = []; is = c.in_ok-texts.ensures }

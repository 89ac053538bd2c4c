-- A query that is refused gets its response at once; otherwise it is answered by what is known of its plan, or awaits it.
-- Starting a programme is no act, so the acts are the look's and those of the plan.
use Rattle.std.proofs.Common.{rules}
use Rattle.hls_connection.proofs.PlanLaws.{acts_kept, planned_begun}
use Rattle.hls_connection.proofs.handlers.begin_query.Goals as goal

pub returns-in-Refused-clause-act_steps : goal.returns-in-Refused-clause-act_steps
returns-in-Refused-clause-act_steps g c = acts_kept _ _ _ _ _ _ c.start_programme.ensures.known c.in_ok-state.ensures.act_steps

pub returns-in_err-found_plan_response-in_default : goal.returns-in_err-found_plan_response-in_default
returns-in_err-found_plan_response-in_default g c = record {
  act_steps = acts_kept _ _ _ _ _ _ c.start_programme.ensures.known c.in_ok-state.ensures.act_steps;
  begins = search rules;
}

pub returns : goal.returns
returns g c = record {
  act_steps = acts_kept _ _ _ _ _ _ c.start_programme.ensures.known c.in_ok-state.ensures.act_steps;
  begins = planned_begun _ _ _ _ _ _ _ _ _ _ c.in_ok-state.ensures.looks c.in_ok-request.ensures.starts c.in-Planned.is c.in_ok-found.ensures c.in_ok-found_plan_response-in_default.ensures;
}

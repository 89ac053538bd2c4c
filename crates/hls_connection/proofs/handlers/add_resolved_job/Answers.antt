-- A valid query adds the job of its request in the current state, and the response says the result (`added_made`).
use Rattle.std.proofs.Common.{◌≡◌, IfOk, Ok, rules}
use Rattle.hls_api.specs.{JobResponses.added_answer, JobTable.IsAddResult, Queries.request_for, Queries.catchup_params_of}
use Rattle.hls_catchup.specs.Jobs.JobLine.{served_version}
use Rattle.hls_api.{specs.Acts.RecordsAdd, proofs.Callers.acted_on}
use Rattle.hls_connection.proofs.CallLaws.{added_made}
use Rattle.hls_connection.proofs.handlers.add_resolved_job.Goals as goal

pub returns-in-Ok-clause-act_steps : goal.returns-in-Ok-clause-act_steps
returns-in-Ok-clause-act_steps g c = acted_on _ _ _ _ _ _ _ c.look.ensures.act_steps c.add_job-added.ensures.act_steps

pub returns-in-Ok-clause-answers : goal.returns-in-Ok-clause-answers
returns-in-Ok-clause-answers g c =
    let s = c.in_ok-state.state.value in
    let asks : catchup_params_of s.config.epoch c.args.query ≡ Ok c.in-Ok.params = search rules in
    let past_acts : RecordsAdd c.look.new.acts s (request_for s c.in-Ok.params) c.add_job-added.result c.add_job-added.new.acts = search rules in
    let adds : IsAddResult s (request_for s c.in-Ok.params) c.add_job-added.result = search rules in
    let told : IfOk c.added_response.result (λ x. x ≡ added_answer (served_version s) c.add_job-added.result) = search rules in
    added_made c.args.query s c.in-Ok.params c.args.acts.now c.look.new.acts c.add_job-added.new.acts c.add_job-added.result c.added_response.result
    c.in_ok-state.ensures.looks asks past_acts adds told

-- A request that removes a job is answered by the result of the removal; any other by the job as it was found.
use Rattle.std.proofs.Common.{◌∙◌, ap, sym}
use Rattle.hls_api.specs.{Exchanges.{RespondsWithJob, params_of, shown_if}, Routes.{allows, removes_job}}
use Rattle.hls_connection.proofs.CallLaws.{found_job, removed_made, shown_made}
use Rattle.hls_connection.proofs.handlers.handle_job.Goals as goal

pub returns-then-removes_job-clause-answers : goal.returns-then-removes_job-clause-answers
returns-then-removes_job-clause-answers g c = λ channel h context.
    rw (ap (removes_job c.args.route) (sym context.head.method) ∙ (sym c.removes_job.ensures ∙ c.if-removes_job.true))
    (removed_made c.args.id c.args.acts.now c.remove_job-removed.new.acts c.remove_job-removed.result c.removed_response.result
    c.remove_job-removed.ensures.removes c.remove_job-removed.ensures.removed c.removed_response.ensures)

pub returns-clause-answers : goal.returns-clause-answers
returns-clause-answers g c = λ channel h context.
    let shown = shown_if (params_of channel h) c.args.route (allows c.args.route (params_of channel h).method) in
    rw (ap (removes_job c.args.route) (sym context.head.method) ∙ (sym c.removes_job.ensures ∙ c.if-removes_job.false))
    (shown_made (RespondsWithJob c.args.id shown) c.args.acts.now c.found_job_response.result
    (found_job c.args.id shown c.get_job-found.result c.found_job_response.result c.get_job-found.ensures (c.found_job_response.ensures channel h context)))

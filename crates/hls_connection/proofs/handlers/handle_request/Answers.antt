-- A request for a job's route is answered about that job; any other gets the response of its route and method.
use Rattle.std.proofs.Common.{◌≡◌, ◌∙◌, None, ap, sym, rules}
use Rattle.hls_api.specs.{Exchanges.{params_of, job_at}, Routes.allows}
use Rattle.hls_connection.proofs.CallLaws.{job_made, response_made}
use Rattle.hls_connection.proofs.handlers.handle_request.Goals as goal

pub returns-in-Some-clause-answers : goal.returns-in-Some-clause-answers
returns-in-Some-clause-answers g c = λ channel h context there.
    job_made (params_of channel h) c.args.route c.in-Some.id c.args.acts.now c.handle_job.new.acts c.handle_job.result (sym c.job_at.ensures ∙ c.in-Some.is) (c.handle_job.ensures.answers channel h context)

pub returns-clause-answers : goal.returns-clause-answers
returns-clause-answers g c = λ channel h context there.
    let of_none : job_at c.args.route ≡ None = search rules in
    response_made (params_of channel h) c.args.route c.args.acts.now c.handle_route.new.acts c.handle_route.result
    of_none (ap (allows c.args.route) (sym context.head.method) ∙ (sym c.allows_method.ensures ∙ c.if-not-allows_method.false)) (c.handle_route.ensures.answers channel h context there)

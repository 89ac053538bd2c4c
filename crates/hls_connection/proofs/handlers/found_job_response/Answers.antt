-- A job that was found is shown as its route and the method ask.
use Rattle.hls_api.specs.{Exchanges.{params_of, shown_if}, Routes.allows}
use Rattle.hls_connection.proofs.CallLaws.{shown_found}
use Rattle.hls_connection.proofs.handlers.found_job_response.Goals as goal

pub returns-in-Ok : goal.returns-in-Ok
returns-in-Ok c = λ channel h context.
    shown_found (shown_if (params_of channel h) c.args.route (allows c.args.route (params_of channel h).method)) c.args.found c.in-Ok.job c.show_job.result c.in-Ok.is
    (c.show_job.ensures channel h context)

-- A request for a file of a job gets the file's requested range, if the route has the method.
use Rattle.std.proofs.Common.{◌≡◌, true, ap, sym, ◌∙◌}
use Rattle.hls_api.specs.{Exchanges.params_of, Routes.allows}
use Rattle.hls_connection.proofs.handlers.show_job.Goals as goal

pub returns-in-JobFile : goal.returns-in-JobFile
returns-in-JobFile c = λ channel h context.
    let allowed : allows c.args.route (params_of channel h).method ≡ true = ap (allows c.args.route) (sym context.head.method) ∙ (sym c.allows_method.ensures ∙ c.if-not-allows_method.false) in
    rw (allowed, c.in-JobFile.is) (rw (c.requested_range.ensures channel h context) at c.file_response.ensures)

-- Valid parameters lead to what the request for them leads to in the snapshot.
use Rattle.hls_api.proofs.Programmes.{starts_params}
use Rattle.hls_api.proofs.programme_responses.start_resolved.Goals as goal

pub returns-in-Ok : goal.returns-in-Ok
returns-in-Ok c =
    starts_params c.start_request.result c.args.snapshot.now c.args.resolved c.in-Ok.params c.make_request-request.result c.in-Ok.is c.make_request-request.ensures c.start_request.ensures

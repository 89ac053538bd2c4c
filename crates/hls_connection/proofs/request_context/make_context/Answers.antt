-- What is kept of a head is its text, and the route and the query that its target has in the channel.
use Rattle.std.proofs.Common.{◌≡◌, ◌∙◌, ap}
use Rattle.hls_api.specs.Routes.{path_of, route_of}
use Rattle.hls_connection.proofs.request_context.make_context.Goals as goal

pub returns : goal.returns
returns c = λ h is.
    let target : c.request_target.result.now ≡ h.target = c.request_target.ensures is.target_ordered is.target_within ∙ is.target in record {
      text = c.args.text.now;
      head = is;
      route = c.parse_route-route.ensures ∙ ap (route_of c.args.channel) (c.split_target.ensures.path ∙ ap path_of target);
      query = rw (c.split_target.ensures.query, target) at c.read_catchup_query.ensures;
    }

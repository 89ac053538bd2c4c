-- The response that is made for a player's route is what a player is shown of the state.
use Rattle.std.proofs.Common.{◌≡◌, IfOk, ap, subst}
use Rattle.hls_api.specs.Exchanges.{params_of, range_for, shown_to_player}
use Rattle.hls_api.specs.Players.{init_answer, segment_answer}
use Rattle.hls_api.specs.Routes.{is_to_head}
use Rattle.hls_api.specs.declared.route.Route.{Route}
use Rattle.hls_http.specs.declared.range_spec.RangeSpec.{RangeSpec}
use Rattle.hls_connection.proofs.PlayerLaws.{is_shown}
use Rattle.hls_connection.proofs.handlers.show_player.Goals as goal

pub returns-in-InitSection-clause-answers : goal.returns-in-InitSection-clause-answers
returns-in-InitSection-clause-answers g c = λ count h context there.
    let s = c.args.state.value in
    let q = params_of count h in
    let run = c.in-InitSection.run' in
    let r = c.in-InitSection.rendition in
    is_shown c.init_response.result (init_answer s run r (range_for (is_to_head q.method) q.range)) (shown_to_player q c.args.route s)
    (ap (λ (route : Route). shown_to_player q route s) c.in-InitSection.is)
    (subst (λ (asked : RangeSpec). IfOk c.init_response.result (λ a. a ≡ init_answer s run r asked)) (c.requested_range.ensures count h context) c.init_response.ensures)

pub returns-in-Segment-clause-answers : goal.returns-in-Segment-clause-answers
returns-in-Segment-clause-answers g c = λ count h context there.
    let s = c.args.state.value in
    let q = params_of count h in
    let run = c.in-Segment.run' in
    let r = c.in-Segment.rendition in
    let first = c.in-Segment.first in
    let last = c.in-Segment.last in
    is_shown c.segment_response.result (segment_answer s run r first last (range_for (is_to_head q.method) q.range)) (shown_to_player q c.args.route s)
    (ap (λ (route : Route). shown_to_player q route s) c.in-Segment.is)
    (subst (λ (asked : RangeSpec). IfOk c.segment_response.result (λ a. a ≡ segment_answer s run r first last asked)) (c.requested_range-in-Segment.ensures count h context)
    c.segment_response.ensures)

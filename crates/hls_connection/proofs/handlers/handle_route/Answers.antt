-- The response that each route's function makes is the route's own.
use Rattle.std.proofs.Common.{◌∙◌, Some, ap, rules, subst, sym}
use Rattle.hls_api.specs.Acts.{ActsExtend, Knowledge}
use Rattle.hls_api.specs.Exchanges.{params_of}
use Rattle.hls_api.specs.{Queries.query_in, Routes.query_of}
use Rattle.hls_connection.proofs.PlayerLaws.{responds_to_player, responds_with_metrics}
use Rattle.hls_connection.proofs.handlers.handle_route.Goals as goal

pub returns-in-Finish-clause-answers : goal.returns-in-Finish-clause-answers
returns-in-Finish-clause-answers g c = λ channel h context there. rw c.in-Finish.is c.finish_rendition.ensures.answers

pub returns-in-CatchUp-clause-answers : goal.returns-in-CatchUp-clause-answers
returns-in-CatchUp-clause-answers g c = λ channel h context there.
    rw c.in-CatchUp.is (c.add_catchup_job.ensures.answers (query_in (query_of h.target)) (rw (there ∙ ap Some c.in-CatchUp.is) at context.query))

pub returns-in-Media-clause-answers : goal.returns-in-Media-clause-answers
returns-in-Media-clause-answers g c = λ channel h context there.
    let response = rw (c.requested_range.ensures channel h context) at c.media_response.ensures in rw c.in-Media.is (search rules)

pub returns-in-Programme-clause-answers : goal.returns-in-Programme-clause-answers
returns-in-Programme-clause-answers g c = λ channel h context there.
    rw c.in-Programme.is (rw context.head.client at (c.show_programme.ensures.answers _ (rw (there ∙ ap Some c.in-Programme.is) at context.query)))

pub returns-in-Metrics-clause-answers : goal.returns-in-Metrics-clause-answers
returns-in-Metrics-clause-answers g c = λ channel h context there.
    rw c.in-Metrics.is
    (responds_with_metrics (params_of channel h) c.args.acts.now c.look.new.acts c.in_ok-state.state.value c.metrics_response.result c.in_ok-state.ensures.looks c.metrics_response.ensures.metrics)

pub returns-in_default-route : goal.returns-in_default-route
returns-in_default-route g c = record {
  act_steps = subst (λ (k : Knowledge). ActsExtend g.K.Keeper.other_actors (g.K.Keeper.known c.args.keeper.now) c.args.acts.now k c.look.new.acts)
      (sym c.show_player.ensures.known) c.in_ok-state.ensures.act_steps;
  answers = λ channel h context there. responds_to_player (params_of channel h) c.args.route c.args.acts.now c.look.new.acts c.in_ok-state.state.value
      c.show_player.result c.in_ok-state.ensures.looks (c.show_player.ensures.answers channel h context there);
}

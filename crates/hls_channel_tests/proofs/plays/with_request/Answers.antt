-- The run's actions, with a request appended, lead to the same state: a request changes nothing.
use Rattle.hls_catchup.proofs.Callers.{run_with_request}
use Rattle.hls_channel_tests.proofs.plays.with_request.Goals as goal

pub returns : goal.returns
returns c =
    rw (c.in_ok-push.ensures.items)
    (run_with_request c.args.config.now c.args.run.actions.items c.args.run.state.value c.request.result c.requires)

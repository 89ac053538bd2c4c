-- The run's actions, with the event appended, lead to the state that the event gives.
use Rattle.hls_catchup.proofs.Callers.{run_with_event}
use Rattle.hls_channel_tests.proofs.plays.with_event.Goals as goal

pub returns : goal.returns
returns c =
    rw (c.in_ok-push.ensures.items)
    (run_with_event c.args.config.now c.args.run.actions.items c.args.run.state.value c.in_ok-state.state.value 0 c.args.event
    c.requires.is_run c.requires.fits c.in_ok-state.ensures)

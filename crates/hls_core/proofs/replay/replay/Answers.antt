-- Each event fits the state that the earlier ones led to, and applying it continues the replay; after the last one, the replay is complete.
use Rattle.hls_core.proofs.Runs.{event_fits, rest_fits, rest_told, all_told}
use Rattle.hls_core.proofs.replay.replay.Goals as goal

pub apply_event-requires : goal.apply_event-requires
apply_event-requires c = event_fits c.loop-pair.state.value c.args.events.now c.loop-pair.pair-index c.pair-item.result c.loop-pair-test.true c.pair-item.is c.loop-pair.invariant.fitting

pub loop-pair-preserved : goal.loop-pair-preserved
loop-pair-preserved c = record {
  progress = rest_told c.loop-pair.state.value c.args.events.now c.loop-pair.pair-index c.pair-item.result c.loop-pair-test.true c.pair-item.is
      c.in_ok-state-2.state.value _ c.in_ok-state-2.ensures c.loop-pair.invariant.progress;
  fitting = rest_fits c.loop-pair.state.value c.args.events.now c.loop-pair.pair-index c.pair-item.result c.loop-pair-test.true c.pair-item.is
      c.in_ok-state-2.state.value c.in_ok-state-2.ensures c.loop-pair.invariant.fitting;
}

pub returns : goal.returns
returns c = all_told c.loop-pair.state.value _ c.args.events.now c.loop-pair.pair-index c.loop-pair-test.false c.loop-pair.invariant.progress

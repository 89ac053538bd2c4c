-- Before each round, the pass keeps its turn, and so far it only looked at states and submitted what upkeep yields and needed fillers. The loop's
-- iterator never ends.
use Rattle.std.proofs.Common.{◌≡◌}
use Rattle.hls_housekeeper.specs.Housekeeping.{RunsUpkeep}
use Rattle.hls_housekeeper.proofs.housekeeper.run_housekeeper.Given as goal

abbrev pub invariant-loop : goal.invariant-loop
invariant-loop g l = record {
  can_next : (goal.iterator-loop g).can_next l.iterator';
  is_finite : (goal.iterator-loop g).is_finite l.iterator';
  ours : l.pass.turn ≡ l.fn.turn;
  keeps : RunsUpkeep l.fn.settings.server.mending l.fn.settings.server.timing.window l.fn.settings.server.timing.keep l.initial.pass.known l.pass.known;
}

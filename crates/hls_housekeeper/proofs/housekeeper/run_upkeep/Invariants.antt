-- Before each round, the pass keeps its turn, and so far it only looked at states and submitted what upkeep yields. The loop's iterator never
-- ends.
use Rattle.std.proofs.Common.{◌≡◌, Option}
use Rattle.hls_mend_laws.specs.declared.settings.MendSettings.{MendSettings}
use Rattle.hls_housekeeper.specs.Housekeeping.{RunsUpkeep}
use Rattle.hls_housekeeper.proofs.housekeeper.run_upkeep.Given as goal

abbrev pub invariant-loop : goal.invariant-loop
invariant-loop g l = record {
  can_next : (goal.iterator-loop g).can_next l.iterator';
  is_finite : (goal.iterator-loop g).is_finite l.iterator';
  ours : l.pass.turn ≡ l.fn.turn;
  keeps : (m : Option MendSettings) → RunsUpkeep m l.timing.window l.timing.keep l.initial.pass.known l.pass.known;
}

-- Before each round, the pass keeps its turn, and so far it only looked at states and submitted what upkeep yields and needed fillers.
use Rattle.std.proofs.Common.{◌≡◌, ℕ, Some}
use Rattle.hls_housekeeper.specs.Housekeeping.{RunsUpkeep}
use Rattle.hls_housekeeper.proofs.filling.fill_rendition.Given as goal

abbrev pub invariant-loop-count : goal.invariant-loop-count
invariant-loop-count g l = record {
  ours : l.pass.turn ≡ l.fn.turn;
  keeps : (window keep : ℕ) → RunsUpkeep (Some l.fn.target.settings) window keep l.fn.pass.known l.pass.known;
}

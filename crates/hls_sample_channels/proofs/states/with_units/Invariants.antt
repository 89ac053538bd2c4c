-- Before each round, the log has one event more than at first for the init section, and one for each unit so far.
use Rattle.std.proofs.Common.{◌≡◌, ◌+◌, length}
use Rattle.hls_sample_channels.proofs.states.with_units.Given as goal

-- one entry for the init section, and one for each unit so far
abbrev pub invariant-loop-from : goal.invariant-loop-from
invariant-loop-from l = length l.state.value.log ≡ length l.snapshot.log + 1 + l.from-index

-- Before each round, the last state follows each of the states so far, and has no further entry of the pass that saw it.
use Rattle.std.proofs.Common.{◌≤◌, length, map, take}
use Rattle.std.specs.List.{AllZip}
use Rattle.hls_turn.specs.Calls.{SettledAt}
use Rattle.hls_turn.proofs.turn.all_agree.Given as goal

abbrev pub invariant-loop-i : goal.invariant-loop-i
invariant-loop-i l = record {
  low : l.i ≤ length l.states;
  settled : AllZip (SettledAt l.last) (take l.i (map (λ s. s.value) l.states)) (take l.i l.passes);
}

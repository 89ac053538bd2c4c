-- The first i passes have looked, the others are unchanged, and the states so far are what the first i passes saw.
use Rattle.std.proofs.Common.{◌≡◌, ◌≤◌, All, length, map, take, drop}
use Rattle.std.specs.List.{AllZip}
use Rattle.hls_turn.specs.Calls.{LooksAt}
use Rattle.hls_turn.proofs.turn.Turn.look_with.Given as goal

abbrev pub invariant-loop-i : goal.invariant-loop-i
invariant-loop-i g l = record {
  ours : All (λ p. p.turn ≡ l.fn.self) l.passes;
  long : length l.passes ≡ length l.initial.passes;
  low : l.i ≤ length l.initial.passes;
  looks : AllZip LooksAt (take l.i l.initial.passes) (take l.i l.passes);
  rest : drop l.i l.passes ≡ drop l.i l.initial.passes;
  states : map (λ s. s.value) l.states.items ≡ map (λ p. p.known.seen) (take l.i l.passes);
}

-- Before each round, all passes are of this turn, there is at least one, and each has only looked since the start.
use Rattle.std.proofs.Common.{◌≡◌, ◌<◌, All, length}
use Rattle.std.specs.List.{AllZip}
use Rattle.hls_turn.specs.Calls.{HasLooked}
use Rattle.hls_turn.proofs.turn.Turn.meet.Given as goal

abbrev pub invariant-loop : goal.invariant-loop
invariant-loop g l =
    (goal.iterator-loop g).can_next l.iterator' × (goal.iterator-loop g).is_finite l.iterator'
    × All (λ p. p.turn ≡ l.fn.self) l.passes × (0 < length l.passes) × AllZip HasLooked l.initial.passes l.passes

-- Before each try to take the state, the pass has the same view of the queue as at the start.
use Rattle.std.proofs.Common.{◌≡◌}
use Rattle.crossbeam_queue.specs.Passes.{view, IsSamePass, IsPassOf}
use Rattle.hls_turn.proofs.state_queue.take_state.Given as goal

abbrev pub invariant-loop : goal.invariant-loop
invariant-loop g l =
    (goal.iterator-loop g).can_next l.iterator' × (goal.iterator-loop g).is_finite l.iterator'
    × IsPassOf l.queue l.queue_pass × IsSamePass l.initial.queue_pass l.queue_pass × (view l.queue_pass ≡ view l.initial.queue_pass)

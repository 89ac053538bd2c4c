-- Before each round, the follower's pass is of the channel's turn.
use Rattle.std.proofs.Common.{◌≡◌}
use Rattle.hls_server.proofs.follower.run_follower.Given as goal

abbrev pub invariant-loop : goal.invariant-loop
invariant-loop g l = record {
  can_next : (goal.iterator-loop g).can_next l.iterator';
  is_finite : (goal.iterator-loop g).is_finite l.iterator';
  ours : l.pass.turn ≡ l.fn.context.turn.now;
}

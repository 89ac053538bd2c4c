-- The session has run from its first moment to the present one.
use Rattle.hls_connection.specs.Moments.{HasRun, moment}
use Rattle.hls_connection.proofs.session.session_on.Given as goal

abbrev pub invariant-loop : goal.invariant-loop
invariant-loop g l =
    let at = moment g.R.Read.remaining g.W.Write.contents in
    record {
      can_next : (goal.iterator-loop g).can_next l.iterator';
      is_finite : (goal.iterator-loop g).is_finite l.iterator';
      led : HasRun g.K.Keeper.other_actors (at l.initial.machine l.initial.session (g.K.Keeper.known l.initial.keeper)) (at l.machine l.session (g.K.Keeper.known l.keeper));
    }

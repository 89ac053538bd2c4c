-- A connection that advances stays consistent, and what its keeper has seen only gets later.
use Rattle.std.proofs.Math.Logic.{∥∥₁_map}
use Rattle.hls_api.proofs.Callers.{acted_follows, later_itself}
use Rattle.hls_connection.proofs.TraceLaws.{suited_valid}
use Rattle.hls_connection.proofs.connection.Connection.advance.Goals as goal

pub invariant_of-self-2 : goal.invariant_of-self-2
invariant_of-self-2 g c = record {
  holds = ∥∥₁_map c.args.self.now.holds (λ h.
      let held = c.advance-more.ensures.advances.holds (rw c.deref_mut-active.ensures.value (rw c.in-Active.is at h)) in
      rw c.release.ensures held);
}

pub returns-clause-later : goal.returns-clause-later
returns-clause-later g c =
    (acted_follows _ (g.K.Keeper.known c.args.keeper.now) (g.K.Keeper.known c.advance-more.new.keeper) _ _ (suited_valid c.requires.suits) c.advance-more.ensures.advances.acted).1

pub returns-in_default-clause-later : goal.returns-in_default-clause-later
returns-in_default-clause-later g c = later_itself (g.K.Keeper.known c.args.keeper.now)

-- The body of kind 8 is of no event: it says that the journal was closed.
use Rattle.std.proofs.Common.{arith, ℕ, Vec, Global}
use Rattle.std.proofs.lemmas.Result.{IfOk-weaker}
use Rattle.hls_journal.proofs.Started.{aside_alone}
use Rattle.hls_journal.proofs.bodies.make_closed_body.Goals as goal

pub returns : goal.returns
returns c = IfOk-weaker _ _ _ (λ (body : Vec ℕ Global) is. aside_alone 8 0 0 body.items is (omega arith) (omega arith)) c.begin_body.ensures

-- The body of kind 6 is of no event: it says which ids may have been given out.
use Rattle.std.proofs.Common.{arith, ℕ, Vec, Global}
use Rattle.std.proofs.lemmas.Result.{IfOk-weaker}
use Rattle.byteorder.specs.Endian.{little_bytes}
use Rattle.hls_journal.proofs.Started.{aside_body}
use Rattle.hls_journal.proofs.bodies.make_ids_body.Goals as goal

pub returns : goal.returns
returns c = IfOk-weaker _ _ _ (λ (body : Vec ℕ Global) is. aside_body 6 0 0 (little_bytes 8 c.args.ids) body.items is (omega arith) (omega arith)) c.make_number_body.ensures.body

-- Every unit has a head. With zeros after it, up to the unit's length, it is a unit with the same facts.
use Rattle.hls_journal_laws.proofs.Heads.{units-have-heads}
use Rattle.hls_journal_laws.proofs.laws.units_have_heads.Goals as goal

pub returns : goal.returns
returns c = units-have-heads

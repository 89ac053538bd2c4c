-- The records of the events that came trim no rendition above its floor in the end.
use Rattle.hls_journal_laws.proofs.Floors.{trimmed-floors-are-reached}
use Rattle.hls_journal_laws.proofs.laws.trimmed_floors_are_reached.Goals as goal

pub returns : goal.returns
returns c = trimmed-floors-are-reached

-- Units with the same head and the same length have the same facts.
use Rattle.hls_journal_laws.proofs.Facts.{heads-determine-facts}
use Rattle.hls_journal_laws.proofs.laws.heads_determine_facts.Goals as goal

pub returns : goal.returns
returns c = heads-determine-facts

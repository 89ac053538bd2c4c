-- Configurations that have the same bytes in the record of a channel are the same, but for their bases.
use Rattle.hls_journal.proofs.Determined.{bytes-determine-configurations}
use Rattle.hls_journal.proofs.laws.bytes_determine_configurations.Goals as goal

pub returns : goal.returns
returns c = bytes-determine-configurations

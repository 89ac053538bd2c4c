-- The bytes of a base from 41 on are the counts of its 16 renditions.
use Rattle.hls_journal.proofs.NoHead.{rest_is}
use Rattle.hls_journal.proofs.channel.counts_part.Goals as goal

pub returns-clause-value : goal.returns-clause-value
returns-clause-value c = rest_is c.args.text.now 41

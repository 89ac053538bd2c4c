-- The bytes from 188 on are the configuration in the record of a channel.
use Rattle.hls_journal.proofs.NoHead.{rest_is}
use Rattle.hls_journal.proofs.channel.config_part.Goals as goal

pub returns-clause-value : goal.returns-clause-value
returns-clause-value c = rest_is c.args.body.now 188

-- The state that a longer prefix of the events leads to follows the state that a shorter one leads to.
use Rattle.hls_journal_laws.proofs.Prefixes.{prefixes-follow}
use Rattle.hls_journal_laws.proofs.laws.prefixes_follow.Goals as goal

pub returns : goal.returns
returns c = prefixes-follow

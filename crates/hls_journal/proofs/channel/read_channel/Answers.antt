-- If the header is read and the configurations have the same bytes, the body is that of a channel with this configuration and header.
use Rattle.std.proofs.Common.{◌∙◌, Option, subst}
use Rattle.std.specs.Prelude.{MatchOption}
use Rattle.hls_journal.specs.declared.channel.ChannelHeader.{ChannelHeader}
use Rattle.hls_journal.specs.Channels.{HasHeader, IsHeaderOf}
use Rattle.hls_journal.proofs.ReadBack.{channel_is}
use Rattle.hls_journal.proofs.channel.read_channel.Goals as goal

pub returns-in-Ok-clause-header : goal.returns-in-Ok-clause-header
returns-in-Ok-clause-header c =
    let header : IsHeaderOf c.args.body.now c.in-Some.header =
    subst (λ (o : Option ChannelHeader). MatchOption o (HasHeader c.args.body.now → ⊥) (IsHeaderOf c.args.body.now)) c.in-Some.is c.in_ok-header.ensures in
    channel_is c.args.body.now c.in-Some.header c.args.config.now c.config_part.result.now header.1 c.config_part.ensures.value
    (c.in-Ok.ensures ∙ c.deref.ensures.value ∙ c.in_ok-given.ensures)

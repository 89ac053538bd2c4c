-- Each round appends the bytes of one more rendition.
use Rattle.hls_journal.specs.Channels.{rendition_bytes}
use Rattle.hls_journal.proofs.Pushed.{one_more_pushed}
use Rattle.hls_journal.proofs.channel.push_renditions.Goals as goal

pub loop-rendition-preserved : goal.loop-rendition-preserved
loop-rendition-preserved c =
    one_more_pushed rendition_bytes c.args.renditions.now c.loop-rendition.rendition-index c.rendition-item.result c.args.out.now.items c.loop-rendition.out.items c.push_rendition.new.out.items
    c.loop-rendition-test.true c.rendition-item.is c.loop-rendition.invariant c.in_ok-push_rendition.ensures

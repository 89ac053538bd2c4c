-- After the loop the counts of all 16 renditions are appended.
use Rattle.std.proofs.Common.{◌≡◌, ◌∙◌, ◌++◌, ap, arith}
use Rattle.hls_journal.specs.Channels.{counts_bytes}
use Rattle.hls_journal.proofs.channel.push_counts.Goals as goal

pub returns : goal.returns
returns c =
    let all : c.loop-rendition.rendition ≡ 16 = omega (arith, c.loop-rendition-test.false, c.loop-rendition.auto.rendition-end) in
    c.loop-rendition.invariant ∙ ap (λ r. c.args.out.now.items ++ counts_bytes c.args.base.now r) all

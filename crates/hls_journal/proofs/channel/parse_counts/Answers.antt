-- After the loop all 16 counts are read, one from each eight bytes.
use Rattle.std.proofs.Common.{◌≡◌, arith}
use Rattle.hls_journal.proofs.ReadBack.{whole_counts}
use Rattle.hls_journal.proofs.channel.parse_counts.Goals as goal

pub returns : goal.returns
returns c =
    let all : c.loop-n.n ≡ 16 = omega (arith, c.loop-n-test.false, c.loop-n.auto.n-end) in
    whole_counts c.args.text.now c.loop-n.counts c.loop-n.n all c.loop-n.invariant.0 c.loop-n.invariant.1

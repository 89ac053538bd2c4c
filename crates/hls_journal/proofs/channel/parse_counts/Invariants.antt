-- Before each round, the first n of the 16 counts are those in the text.
use Rattle.std.proofs.Common.{◌≡◌, length, take}
use Rattle.hls_journal.specs.Channels.{counts_in}
use Rattle.hls_journal.proofs.channel.parse_counts.Given as goal

abbrev pub invariant-loop-n : goal.invariant-loop-n
invariant-loop-n l = (length l.counts ≡ 16) × (take l.n l.counts ≡ counts_in l.text l.n)

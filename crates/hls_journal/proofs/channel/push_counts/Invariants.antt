-- Before each round, the counts of the renditions so far are appended.
use Rattle.std.proofs.Common.{◌≡◌, ◌++◌}
use Rattle.hls_journal.specs.Channels.{counts_bytes}
use Rattle.hls_journal.proofs.channel.push_counts.Given as goal

abbrev pub invariant-loop-rendition : goal.invariant-loop-rendition
invariant-loop-rendition l = l.out.items ≡ l.fn.out.items ++ counts_bytes l.base l.rendition

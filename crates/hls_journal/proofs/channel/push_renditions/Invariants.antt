-- Before each round, the bytes of the renditions so far are appended.
use Rattle.std.proofs.Common.{◌≡◌, ◌++◌, take}
use Rattle.std.specs.List.{flat_map}
use Rattle.hls_journal.specs.Channels.{rendition_bytes}
use Rattle.hls_journal.proofs.channel.push_renditions.Given as goal

abbrev pub invariant-loop-rendition : goal.invariant-loop-rendition
invariant-loop-rendition l = l.out.items ≡ l.fn.out.items ++ flat_map rendition_bytes (take l.rendition-index l.renditions)

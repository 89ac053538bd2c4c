-- The recursion ends: each further call has a pattern that is shorter by one byte.
use Rattle.std.proofs.Common.{length}
use Rattle.hls_instants.proofs.pattern.+strip_pattern.Given as goal

abbrev pub decreases-strip_pattern : goal.decreases-strip_pattern
decreases-strip_pattern l = length l.pattern.now

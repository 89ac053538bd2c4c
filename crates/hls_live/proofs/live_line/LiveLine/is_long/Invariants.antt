-- Before each round, the segments after the first n last at least three target durations in each rendition examined so far.
use Rattle.std.proofs.Common.{◌≡◌, true, leb}
use Rattle.hls_places_laws.specs.Line.Lengths.{remaining_length, three_targets, each_below}
use Rattle.hls_live.proofs.live_line.LiveLine.is_long.Given as goal

abbrev pub invariant-loop-r : goal.invariant-loop-r
invariant-loop-r l = each_below l.r (λ r. leb (three_targets l.self.line_goal) (remaining_length r l.self.progress.line.segments l.n)) ≡ true

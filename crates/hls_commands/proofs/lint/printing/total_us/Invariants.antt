-- The total so far and the lengths of the segments still to come add up to the total of all, if both are capped.
use Rattle.std.proofs.Common.{◌≡◌, ◌+◌, ◌≤◌, drop}
use Rattle.std.specs.Prelude.{min}
use Rattle.std.specs.List.{sum_by}
use Rattle.hls_commands.specs.LintAnswer.{longest_us, us_of}
use Rattle.hls_commands.proofs.lint.printing.total_us.Given as goal

abbrev pub invariant-loop-segment : goal.invariant-loop-segment
invariant-loop-segment l = record {
  whole : min (l.total + sum_by us_of (drop l.segment-index l.segments)) longest_us ≡ min (sum_by us_of l.segments) longest_us;
  bound : l.total ≤ longest_us;
}

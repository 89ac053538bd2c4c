-- Before each round, no line so far has the value, so the values in the remaining lines are those in all. The rest gets shorter.
use Rattle.std.proofs.Common.{◌≡◌, length}
use Rattle.hls_base_text.specs.BaseText.{names_of}
use Rattle.hls_base_text.proofs.LineSteps.{values_from}
use Rattle.hls_base_text.proofs.lines.find_value.Given as goal

-- no earlier line is such a one
abbrev pub invariant-loop-line : goal.invariant-loop-line
invariant-loop-line l = values_from (names_of l.renditions) l.key l.rest ≡ values_from (names_of l.renditions) l.key l.text

abbrev pub decreases-loop-line : goal.decreases-loop-line
decreases-loop-line l = length l.rest

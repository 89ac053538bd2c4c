-- Before each round, all lines so far are known, so the check of the remaining ones is the check of all. The rest gets shorter.
use Rattle.std.proofs.Common.{◌≡◌, ◌+◌, ◌≤◌, length}
use Rattle.hls_base_text.specs.BaseText.{names_of}
use Rattle.hls_base_text.proofs.LineSteps.{checks_from}
use Rattle.hls_base_text.proofs.lines.check_lines.Given as goal

-- the remaining lines decide
abbrev pub invariant-loop-line : goal.invariant-loop-line
invariant-loop-line l =
    (checks_from (names_of l.renditions) l.number l.rest ≡ checks_from (names_of l.renditions) 0 l.text) × (l.number + length l.rest ≤ length l.text)

abbrev pub decreases-loop-line : goal.decreases-loop-line
decreases-loop-line l = length l.rest

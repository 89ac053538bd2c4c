-- Before each round, the lines so far and those of the remaining renditions are all lines. Fewer renditions remain each time.
use Rattle.std.proofs.Common.{◌≡◌, ◌++◌, ◌-◌, ◌≤◌, drop, length}
use Rattle.hls_base_text.specs.BaseText.{bytes_lines, names_of}
use Rattle.hls_base_text.proofs.write.push_bytes_lines.Given as goal

-- the lines so far, and those of the remaining renditions
abbrev pub invariant-loop-number : goal.invariant-loop-number
invariant-loop-number l =
    (l.out.items ++ bytes_lines l.base (drop l.number (names_of l.renditions)) l.number ≡ l.initial.out.items ++ bytes_lines l.base (names_of l.renditions) 0)
    × (l.number ≤ length l.renditions)

abbrev pub decreases-loop-number : goal.decreases-loop-number
decreases-loop-number l = length l.renditions - l.number

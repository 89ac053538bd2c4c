-- Before each round, the bytes so far, with those to be read of the remaining renditions, make the result. Fewer renditions remain each time.
use Rattle.std.proofs.Common.{◌≡◌, ◌-◌, ◌≤◌, drop, length}
use Rattle.hls_text.specs.Lines.{cut_text}
use Rattle.hls_base_text.specs.BaseText.{bytes_from, bytes_in, names_of}
use Rattle.hls_base_text.proofs.read.read_bytes.Given as goal

-- the remaining renditions decide
abbrev pub invariant-loop-rendition : goal.invariant-loop-rendition
invariant-loop-rendition l =
    (bytes_from (names_of l.renditions) (cut_text l.text).lines (drop l.rendition (names_of l.renditions)) l.rendition l.bytes
    ≡ bytes_in (names_of l.renditions) (cut_text l.text).lines) × (l.rendition ≤ length l.renditions)

abbrev pub decreases-loop-rendition : goal.decreases-loop-rendition
decreases-loop-rendition l = length l.renditions - l.rendition

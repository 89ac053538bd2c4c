-- Before each round, the line is of none of the renditions so far, so the remaining ones decide.
use Rattle.std.proofs.Common.{◌≡◌, drop}
use Rattle.std.specs.Prelude.{is_some}
use Rattle.std.specs.List.{list_any}
use Rattle.hls_base_text.specs.BaseText.{bytes_value, names_of}
use Rattle.hls_base_text.proofs.lines.is_of_rendition.Given as goal

-- the remaining renditions decide
abbrev pub invariant-loop-rendition : goal.invariant-loop-rendition
invariant-loop-rendition l =
    list_any (λ name. is_some (bytes_value name l.line)) (names_of (drop l.rendition-index l.renditions))
    ≡ list_any (λ name. is_some (bytes_value name l.line)) (names_of l.renditions)

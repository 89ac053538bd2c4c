-- Before each round, the attributes read so far and the remaining text, which is UTF-8, give the result of the whole EXT-X-MAP. The remaining
-- text gets shorter.
use Rattle.std.proofs.Common.{◌≡◌, false, length}
use denote.Text.{Utf8}
use denote.Shadow.{shadow}
use Rattle.hls_m3u8.specs.Attributes.{attribute_texts, map_from, no_attributes}
use Rattle.hls_m3u8.proofs.map_tag.parse_map_tag.Given as goal

-- the remaining attributes give the result of all
abbrev pub invariant-loop-parts : goal.invariant-loop-parts
invariant-loop-parts l =
    shadow (Utf8 l.rest) × (map_from l.parts (attribute_texts false l.rest) ≡ map_from no_attributes (attribute_texts false l.fn.text))

abbrev pub decreases-loop-parts : goal.decreases-loop-parts
decreases-loop-parts l = length l.rest

-- Before each round, no comma outside quotation marks has been passed: the first one of the text is the first one of the remaining bytes.
use Rattle.std.proofs.Common.{◌≡◌, ◌+◌, false, drop}
use Rattle.hls_m3u8.specs.Commas.{comma_offset}
use Rattle.hls_m3u8.proofs.map_tag.find_comma.Given as goal

-- the first comma of the text is the first one from the current position on
abbrev pub invariant-loop-at : goal.invariant-loop-at
invariant-loop-at l = comma_offset false l.text ≡ l.at + comma_offset l.quoted (drop l.at l.text)

-- The numbers of a channel's segments.
use Rattle.std.specs.Prelude.{ℕ, ◌+◌, length}
use Rattle.hls_core_laws.specs.State.{State}
use Rattle.hls_core_laws.specs.Line.{line}
use Rattle.hls_places_laws.specs.Line.Live.{segments_of}

-- how many segments a channel's line has had since its base
abbrev pub next_in_line : State → ℕ
next_in_line s = (line s).removed + length (segments_of (line s))

-- the number that a channel's next segment gets in its lists
abbrev pub next_segment : State → ℕ
next_segment s = s.config.base.segments + next_in_line s

-- How long a gap of a rendition may be to be filled: ten times as long if another rendition continues over it.
use Rattle.std.specs.Prelude.{ℕ, zero, suc, ◌+◌, ◌-◌, ◌*◌, ◌^◌, ◌==◌, nat_lt, nat_le, min, Bool, true, false, not, ◌&&◌, ◌||◌, Option, Some, None, List, length}
use Rattle.hls_media_laws.specs.declared.facts.Facts.{Facts}
use Rattle.hls_media_laws.specs.FactLists.{fact_at}
use Rattle.hls_record.specs.RecordingData.{RecordingData}
use Rattle.hls_core_laws.specs.State.{State}
use Rattle.hls_core.specs.Getters.{recording_of}
use Rattle.hls_mend_laws.specs.Jumps.{is_ahead_of}
use Rattle.hls_mend_laws.specs.declared.settings.MendSettings.{MendSettings}
use Rattle.hls_api.specs.Jumps.{end_us_in, is_ahead_by}

-- whether unit n starts where the one before it ends
abbrev pub is_joined : List Facts → ℕ → Bool
is_joined fs n = nat_lt 0 n && ((fact_at fs (n - 1)).start + (fact_at fs (n - 1)).duration == (fact_at fs n).start)

-- whether the last of the first `count` units reach back to a moment in microseconds without a hole; at most `most` units are looked at
unfoldable pub reaches_back : ℕ → List Facts → ℕ → ℕ → Bool
reaches_back zero fs from_us count = false
reaches_back (suc most) fs from_us zero = false
reaches_back (suc most) fs from_us (suc n) = nat_le (fact_at fs n).start_us from_us || (is_joined fs n && reaches_back most fs from_us n)

-- whether the last 4096 units of a recording, or as many as there are, reach back to a moment without a hole
abbrev pub reaches_in : ℕ → Option RecordingData → Bool
reaches_in from_us None = false
reaches_in from_us (Some rec) = reaches_back 4096 rec.facts from_us (length rec.facts)

-- whether a rendition continues over a gap: it has media from the gap's start on without a hole, and the gap ends at most `fill_us` after its end
abbrev pub continues_over : ℕ → ℕ → ℕ → Option RecordingData → Bool
continues_over fill_us from_us to_us rec = not (is_ahead_by fill_us (end_us_in rec) to_us) && reaches_in from_us rec

-- whether one of the first n renditions continues over the gap
unfoldable pub any_continues : ℕ → ℕ → ℕ → State → ℕ → Bool
any_continues fill_us from_us to_us s zero = false
any_continues fill_us from_us to_us s (suc n) = any_continues fill_us from_us to_us s n || continues_over fill_us from_us to_us (recording_of s n)

-- a gap of more than `fill_us` over which one of the renditions continues
abbrev pub is_own_gap : ℕ → ℕ → ℕ → State → Bool
is_own_gap fill_us from_us to_us s = is_ahead_of fill_us from_us to_us && any_continues fill_us from_us to_us s (length s.config.renditions)

-- the longest gap that is filled, in microseconds: `fill_us`, or if another rendition continues over it ten times that, at most 2^32 - 1
abbrev pub gap_limit : Bool → ℕ → ℕ
gap_limit true fill_us = min (10 * fill_us) (2 ^ 32 - 1)
gap_limit false fill_us = fill_us

-- the longest gap that is filled before a unit that starts at `start_us`, by the end of the rendition's last unit, if it has one
abbrev pub gap_limit_after : ℕ → State → Option ℕ → ℕ → ℕ
gap_limit_after fill_us s None start_us = fill_us
gap_limit_after fill_us s (Some end_us) start_us = gap_limit (is_own_gap fill_us end_us start_us s) fill_us

-- the settings by which a unit of rendition r that starts at a moment is mended
abbrev pub settings_for : MendSettings → State → ℕ → ℕ → MendSettings
settings_for settings s r start_us = record settings { fill_us = gap_limit_after settings.fill_us s (end_us_in (recording_of s r)) start_us }

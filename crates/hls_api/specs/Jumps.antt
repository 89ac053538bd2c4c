-- Which units are ahead of the channel, and whether one that is ahead is accepted, by a state and what was read of the encoders.
use Rattle.std.specs.Prelude.{◌≡◌, ◌<◌, ◌≤◌, ℕ, zero, suc, ◌+◌, ◌-◌, ◌*◌, nat_eq, max, Bool, true, false, not, ◌&&◌, ◌||◌, if◌then◌else◌, is_some, Option, Some, None, List, length, map, slice_get, slice_index_or}
use Rattle.std.specs.Option.{option_map, option_or}
use Rattle.std.specs.List.{range_with_len}
use Rattle.hls_media_laws.specs.declared.facts.Facts.{Facts}
use Rattle.hls_record.specs.RecordingData.{RecordingData}
use Rattle.hls_core_laws.specs.State.{State}
use Rattle.hls_core.specs.Getters.{recording_of, finished_at}
use Rattle.hls_mend_laws.specs.Jumps.{allows_jump, Continues, is_ahead_of, is_accepted_jump}
use Rattle.hls_mend_laws.specs.declared.presence.Presence.{Presence}
use Rattle.hls_api.specs.declared.encoder_readings.EncoderReadings.{EncoderReadings}

-- ---- units that are ahead

-- the later of two times, if there are any
abbrev pub later : Option ℕ → Option ℕ → Option ℕ
later None b = b
later (Some a) None = Some a
later (Some a) (Some b) = Some (max a b)

-- the end of the last unit in microseconds, if there is one
abbrev pub end_us_in : Option RecordingData → Option ℕ
end_us_in None = None
end_us_in (Some rec) = option_map (λ f. f.end_us) (slice_get rec.facts (length rec.facts - 1))

-- the end of rendition n in microseconds, unless it is rendition r itself
abbrev pub end_of_other : State → ℕ → ℕ → Option ℕ
end_of_other s r n = if nat_eq n r then None else end_us_in (recording_of s n)

-- the newest end of the first n renditions other than r
unfoldable pub newest_of_others : State → ℕ → ℕ → Option ℕ
newest_of_others s r zero = None
newest_of_others s r (suc n) = later (newest_of_others s r n) (end_of_other s r n)

-- the end by which a unit of rendition r is ahead: the newest one of the other renditions, or its own if no other has a unit
abbrev pub channel_end : State → ℕ → Option ℕ
channel_end s r = option_or (newest_of_others s r (length s.config.renditions)) (end_us_in (recording_of s r))

-- whether a unit starts more than `fill_us` after this newest end; it doesn't if there is no end
abbrev pub is_ahead_by : ℕ → Option ℕ → ℕ → Bool
is_ahead_by fill_us None start_us = false
is_ahead_by fill_us (Some newest_us) start_us = is_ahead_of fill_us newest_us start_us

-- whether a moment is ahead of the channel for rendition r: more than `fill_us` after the channel's end; none is before there is a unit
abbrev pub is_ahead_in : ℕ → State → ℕ → ℕ → Bool
is_ahead_in fill_us s r start_us = is_ahead_by fill_us (channel_end s r) start_us

-- by how many microseconds a moment is after the newest end, if there is one
abbrev pub ahead_by : Option ℕ → ℕ → ℕ
ahead_by None start_us = 0
ahead_by (Some newest_us) start_us = start_us - newest_us

-- by how many microseconds a moment is after the channel's end in a state, for rendition r; 0 if it isn't or there is no unit
abbrev pub ahead_in : State → ℕ → ℕ → ℕ
ahead_in s r start_us = ahead_by (channel_end s r) start_us

-- ---- units that last long

-- the target duration in microseconds
abbrev pub target_us : State → ℕ
target_us s = s.config.target * 1000000

-- the moment by which a unit is ahead: its start, or, if it lasts for more than `most_us`, the moment that long before its end
abbrev pub counted_start : ℕ → Facts → ℕ
counted_start most_us f = max f.start_us (f.end_us - most_us)

-- a unit of rendition r may be ahead of the channel: it starts more than `fill_us` after the channel's end, or ends more than `fill_us` and
-- the target after it
abbrev pub may_be_ahead : ℕ → State → ℕ → Facts → Bool
may_be_ahead fill_us s r f = is_ahead_in fill_us s r (counted_start (target_us s) f)

-- how long a unit may last without being ahead by its end: the target, or if that is longer the time for which an encoder may be silent
abbrev pub longest_us : State → EncoderReadings → ℕ
longest_us s e = max (target_us s) e.wait_us

-- a unit of rendition r is ahead of the channel: it starts more than `fill_us` after the channel's end, or ends more than `fill_us` and the
-- longest duration after it
abbrev pub is_unit_ahead : ℕ → State → ℕ → Facts → EncoderReadings → Bool
is_unit_ahead fill_us s r f e = is_ahead_in fill_us s r (counted_start (longest_us s e) f)

-- ---- the other renditions

-- a rendition that exists and isn't finished
abbrev pub is_unfinished : Option Bool → Bool
is_unfinished (Some false) = true
is_unfinished finished = false

-- a rendition that has begun and isn't finished
abbrev pub is_open_at : State → ℕ → Bool
is_open_at s n = is_some (recording_of s n) && is_unfinished (finished_at s n)

-- rendition n's encoder, as rendition r sees it: its own isn't among the others
abbrev pub presence_of : State → ℕ → EncoderReadings → ℕ → Presence
presence_of s r e n = record {
  is_open = not (nat_eq n r) && is_open_at s n;
  heard_us = slice_index_or e.heard_us n 0;
  is_ahead = slice_index_or e.are_ahead n false;
}

-- the presences of the 16 possible encoders, as rendition r sees them
abbrev pub other_presences : State → ℕ → EncoderReadings → List Presence
other_presences s r e = map (presence_of s r e) (range_with_len 0 16)

-- a unit of rendition r that is ahead is accepted if each other rendition that is open is ahead itself or away
abbrev pub is_accepted_by : State → ℕ → EncoderReadings → Bool
is_accepted_by s r e = is_accepted_jump e.wait_us e.now_us (other_presences s r e)

-- a unit of rendition r is accepted unless it is ahead while another rendition continues
abbrev pub is_accepted_unit : ℕ → State → ℕ → Facts → EncoderReadings → Bool
is_accepted_unit fill_us s r f e = not (is_unit_ahead fill_us s r f e) || is_accepted_by s r e

-- ---- laws

-- while another rendition continues, a unit that is ahead isn't accepted
abbrev pub OneClockIsRefused : Type 0
OneClockIsRefused =
    (fill_us : ℕ) (s : State) (r n : ℕ) (f : Facts) (e : EncoderReadings) → is_unit_ahead fill_us s r f e ≡ true → n < 16 → Continues e.wait_us e.now_us (presence_of s r e n)
    → is_accepted_unit fill_us s r f e ≡ false

-- if each of the 16 possible renditions allows the jump, a unit of rendition r is accepted also if it is ahead
abbrev pub AllJumpIsAccepted : Type 0
AllJumpIsAccepted =
    (fill_us : ℕ) (s : State) (r : ℕ) (f : Facts) (e : EncoderReadings) → ((n : ℕ) → n < 16 → allows_jump e.wait_us e.now_us (presence_of s r e n) ≡ true)
    → is_accepted_unit fill_us s r f e ≡ true

-- a unit that lasts no longer than the target, or than an encoder may be silent for, is ahead by its start alone
abbrev pub ShortUnitsCountFromStart : Type 0
ShortUnitsCountFromStart =
    (fill_us : ℕ) (s : State) (r : ℕ) (f : Facts) (e : EncoderReadings) → f.end_us ≤ f.start_us + longest_us s e
    → is_unit_ahead fill_us s r f e ≡ is_ahead_in fill_us s r f.start_us

-- a unit that ends more than `fill_us` and the longest duration after the channel's end is ahead, wherever it starts
abbrev pub LongUnitsAreAhead : Type 0
LongUnitsAreAhead =
    (fill_us : ℕ) (s : State) (r end_us : ℕ) (f : Facts) (e : EncoderReadings) → channel_end s r ≡ Some end_us → end_us + fill_us + longest_us s e < f.end_us
    → is_unit_ahead fill_us s r f e ≡ true

-- the encoders are read for each unit that is ahead
abbrev pub AheadIsRead : Type 0
AheadIsRead = (fill_us : ℕ) (s : State) (r : ℕ) (f : Facts) (e : EncoderReadings) → is_unit_ahead fill_us s r f e ≡ true → may_be_ahead fill_us s r f ≡ true

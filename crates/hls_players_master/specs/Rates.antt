-- The bit rates of a rendition, over the newest segments that its live playlist has (RFC 8216 section 4.3.4.2).
use Rattle.std.specs.Prelude.{ℕ, ◌+◌, ◌-◌, ◌*◌, ◌/◌, ◌==◌, min, max, if◌then◌else◌, Option, Some, None, List, length, drop, fold}
use Rattle.hls_record.specs.RecordingData.{RecordingData, offset_at}
use Rattle.hls_check_tables.specs.Tables.{spot_in}
use Rattle.hls_places_laws.specs.declared.line.live_segment.LiveSegment.{LiveSegment}
use Rattle.hls_players_master.specs.declared.rates.Measure.{Measure}
use Rattle.hls_players_master.specs.declared.rates.Rates.{Rates}

-- how many segments are measured, so that a request's work doesn't grow with the window
abbrev pub most_measured : ℕ
most_measured = 256

-- a bit rate of more isn't written: 2^53 - 1
abbrev pub most_rate : ℕ
most_rate = 9007199254740991

-- bits per second, rounded up
unfoldable pub bit_rate : ℕ → ℕ → ℕ
bit_rate bytes us = if us == 0 then 0 else min most_rate ((8000000 * bytes + us - 1) / us)

-- a segment's bytes in a rendition
abbrev pub bytes_in : RecordingData → ℕ → LiveSegment → ℕ
bytes_in recorded r segment = offset_at recorded (spot_in segment.to.spots r).fragment - offset_at recorded (spot_in segment.from.spots r).fragment

-- a segment's length in a rendition, in microseconds
abbrev pub us_in : ℕ → LiveSegment → ℕ
us_in r segment = (spot_in segment.to.spots r).prev_end - (spot_in segment.from.spots r).start

-- the measure of no segments: no highest rate, no bytes, no length
abbrev pub nothing_measured : Measure
nothing_measured = record { peak = 0; bytes = 0; us = 0 }

-- a measure with one more segment: the highest rate of a segment, and all bytes and lengths together
unfoldable pub and_segment : RecordingData → ℕ → Measure → LiveSegment → Measure
and_segment recorded r m segment = record {
  peak = max m.peak (bit_rate (bytes_in recorded r segment) (us_in r segment));
  bytes = m.bytes + bytes_in recorded r segment;
  us = m.us + us_in r segment;
}

-- the last 256 of some segments, or all if there are fewer
abbrev pub newest : List LiveSegment → List LiveSegment
newest segments = drop (length segments - most_measured) segments

-- the measure of the newest of some segments in a rendition
unfoldable pub measure_of : RecordingData → ℕ → List LiveSegment → Measure
measure_of recorded r segments = fold (and_segment recorded r) nothing_measured (newest segments)

-- none before a segment was closed
unfoldable pub rates_of : Measure → Option Rates
rates_of m = if m.us == 0 then None else Some (record { peak = m.peak; average = bit_rate m.bytes m.us })

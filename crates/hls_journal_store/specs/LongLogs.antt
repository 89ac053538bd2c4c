-- How much of a channel is counted for a new log, and whether one is due.
use Rattle.std.specs.Prelude.{ℕ, zero, suc, ◌+◌, ◌-◌, Bool, ◌||◌, Option, Some, None, length, max}
use Rattle.hls_check_tables.specs.Tables.{spot_in}
use Rattle.hls_core_laws.specs.Line.{line}
use Rattle.hls_core_laws.specs.State.{State}
use Rattle.hls_core.specs.Getters.{recording_of}
use Rattle.hls_places_laws.specs.Line.Live.{front_of}
use Rattle.hls_places_laws.specs.declared.place.Place.{Place}
use Rattle.hls_record.specs.RecordingData.{RecordingData, offset_at, total_of}
use Rattle.hls_journal_store.specs.RenewalPolicy.{is_log_due, is_recording_due}

-- the number of a recording's first unit that is kept; 0 without a recording
abbrev pub floor_in : Option RecordingData → ℕ
floor_in None = 0
floor_in (Some d) = d.floor

-- the bytes of a recording, trimmed ones included
abbrev pub total_in : Option RecordingData → ℕ
total_in None = 0
total_in (Some d) = total_of d

-- the log entries of a recording from a unit on: its units, its begin and its end
abbrev pub entries_from : Option RecordingData → ℕ → ℕ
entries_from None first = 0
entries_from (Some d) first = (length d.facts - first) + 2

-- the bytes of a recording from a unit on
abbrev pub bytes_from : Option RecordingData → ℕ → ℕ
bytes_from None first = 0
bytes_from (Some d) first = total_of d - offset_at d first

-- the log entries of the first n renditions, of each from a unit of its own on
abbrev pub entries_of : State → (ℕ → ℕ) → ℕ → ℕ
entries_of s first zero = 0
entries_of s first (suc n) = entries_of s first n + entries_from (recording_of s n) (first n)

-- the bytes of the rendition that has the most of them among the first n
abbrev pub bytes_of : State → (ℕ → ℕ) → ℕ → ℕ
bytes_of s first zero = 0
bytes_of s first (suc n) = max (bytes_of s first n) (bytes_from (recording_of s n) (first n))

-- the bytes of the longest recording among the first n
abbrev pub longest_of : State → ℕ → ℕ
longest_of s zero = 0
longest_of s (suc n) = max (longest_of s n) (total_in (recording_of s n))

-- the first unit of a rendition that is kept
abbrev pub first_kept : State → ℕ → ℕ
first_kept s r = floor_in (recording_of s r)

-- the first unit of a rendition after a place
abbrev pub first_at : Place → ℕ → ℕ
first_at place r = (spot_in place.spots r).fragment

-- what a state keeps
abbrev pub kept_entries : State → ℕ
kept_entries s = entries_of s (first_kept s) (length s.config.renditions)

abbrev pub kept_bytes : State → ℕ
kept_bytes s = bytes_of s (first_kept s) (length s.config.renditions)

-- what a state has from a place on, or what it keeps if there is none
abbrev pub entries_after : State → Option Place → ℕ
entries_after s None = kept_entries s
entries_after s (Some place) = entries_of s (first_at place) (length s.config.renditions)

abbrev pub bytes_after : State → Option Place → ℕ
bytes_after s None = kept_bytes s
bytes_after s (Some place) = bytes_of s (first_at place) (length s.config.renditions)

-- what no trim can drop: all from the front of the live line on
abbrev pub least_entries : State → ℕ
least_entries s = entries_after s (front_of (line s))

abbrev pub least_bytes : State → ℕ
least_bytes s = bytes_after s (front_of (line s))

-- a channel should begin a new log, because of its log or of its longest recording
abbrev pub is_renewal_due : State → Bool
is_renewal_due s =
    is_log_due (record { whole = length s.log; kept = kept_entries s; least = least_entries s })
    || is_recording_due (record { whole = longest_of s (length s.config.renditions); kept = kept_bytes s; least = least_bytes s })

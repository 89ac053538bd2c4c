-- The tests of an event in a state, in their order: one list for each kind of event.
use Rattle.std.specs.Prelude.{ℕ, ◌+◌, ◌==◌, Bool, false, not, ◌&&◌, ◌||◌, List, [], ◌∷◌, Option, Some, None, is_some, unwrap_or, length, drop, nat_lt, nat_le, if◌then◌else◌, slice_get}
use Rattle.std.specs.Str.{bytes_eq}
use Rattle.hls_media_laws.specs.declared.facts.Facts.{Facts}
use Rattle.hls_media_laws.specs.FactLists.{recording_limit, last_end, duplicate_in}
use Rattle.hls_places_laws.specs.Line.Live.{front_of, stays_long}
use Rattle.hls_core_laws.specs.declared.event.Event.{Event}
use Rattle.hls_core_laws.specs.declared.event.Event.TheVariants.{Begin, Accept, Finish, Slide, Trim}
use Rattle.hls_core_laws.specs.declared.refusal.Refusal.TheVariants.{UnknownRendition, NoInit, InitChanged, Overlap, Finished, SlideTooShort, SlideTooMany, TrimTooFar, LedgerFull, RecordingFull}
use Rattle.hls_core_laws.specs.Channel.{Lane, no_lane, lane_len}
use Rattle.hls_core_laws.specs.State.{State, channel, log_limit}
use Rattle.hls_core_laws.specs.Line.{line}
use Rattle.hls_core_laws.specs.Outcome.{Outcome, New, Repeated, Refused, held_bytes, trim_limit}

-- a test, and the event's outcome if it is the first that holds
pub record Test : Type 0 where
  pub holds : Bool
  pub met : Outcome

-- a test with this condition and this outcome
abbrev pub test : Bool → Outcome → Test
test holds met = record { holds = holds; met = met }

-- an event is new if no test holds
abbrev pub first_met : List Test → Outcome
first_met [] = New
first_met (t ∷ rest) = (if t.holds then t.met else first_met rest)

-- the rendition's lane, if the channel has this rendition
abbrev pub lane_at : State → ℕ → Option Lane
lane_at s r = slice_get (channel s).lanes r

-- the rendition's lane, or an empty one if the channel has no such rendition
abbrev pub lane_of : Option Lane → Lane
lane_of l = unwrap_or l no_lane

-- the rendition has an init section
abbrev pub has_init : Option Lane → Bool
has_init l = is_some (lane_of l).init

-- the bytes of the kept unit that starts at the same tick, if there is one
abbrev pub kept_duplicate : State → ℕ → Facts → Option (List ℕ)
kept_duplicate s r f = duplicate_in f.start (drop (lane_of (lane_at s r)).floor (lane_of (lane_at s r)).facts) (held_bytes s r).units

-- there is such a unit, and it has exactly these bytes
abbrev pub is_bytes : Option (List ℕ) → List ℕ → Bool
is_bytes None bytes = false
is_bytes (Some other) bytes = bytes_eq other bytes

-- an event is refused if the channel has no such rendition
abbrev pub unknown_test : Option Lane → Test
unknown_test l = test (not (is_some l)) (Refused UnknownRendition)

-- an event is refused if the rendition has no init section
abbrev pub no_init_test : Option Lane → Test
no_init_test l = test (not (has_init l)) (Refused NoInit)

-- an event is refused if the log is full
abbrev pub full_log_test : State → Test
full_log_test s = test (nat_le log_limit (length s.log)) (Refused LedgerFull)

-- the tests of each kind of event, in their order
abbrev pub tests : State → Event → List Test
tests s (Begin r init bytes) =
    unknown_test (lane_at s r)
    ∷ test (has_init (lane_at s r) && bytes_eq (held_bytes s r).head bytes) Repeated
    ∷ test (has_init (lane_at s r)) (Refused InitChanged)
    ∷ full_log_test s
    ∷ []
tests s (Accept r f bytes) =
    unknown_test (lane_at s r)
    ∷ no_init_test (lane_at s r)
    ∷ test (is_bytes (kept_duplicate s r f) bytes) Repeated
    ∷ test (is_some (kept_duplicate s r f)) (Refused Overlap)
    ∷ test (nat_lt f.start (last_end (lane_of (lane_at s r)).facts)) (Refused Overlap)
    ∷ test (lane_of (lane_at s r)).finished (Refused Finished)
    ∷ full_log_test s
    ∷ test (nat_lt recording_limit (lane_len (lane_of (lane_at s r)) + f.len)) (Refused RecordingFull)
    ∷ []
tests s (Finish r) =
    unknown_test (lane_at s r)
    ∷ no_init_test (lane_at s r)
    ∷ test (lane_of (lane_at s r)).finished Repeated
    ∷ full_log_test s
    ∷ []
tests s (Slide count) =
    test (count == 0 || nat_lt (length (line s).progress.line.segments) count) (Refused SlideTooMany)
    ∷ test (not (stays_long (line s) count)) (Refused SlideTooShort)
    ∷ full_log_test s
    ∷ []
tests s (Trim r floor) =
    unknown_test (lane_at s r)
    ∷ test (nat_le floor (lane_of (lane_at s r)).floor) Repeated
    ∷ test (nat_lt (trim_limit (front_of (line s)) r) floor) (Refused TrimTooFar)
    ∷ full_log_test s
    ∷ []

-- A handover by computation: two states that meet each premise of the laws of a handover, and their playlists.
use Rattle.std.proofs.Common.{◌≡◌, ℕ, ◌+◌, ◌<◌, zero, suc, true, false, List, [], ◌∷◌, ◌⊎◌, inl, Option, Some, None, slice_get, subst, ap, refl, arith}
use Rattle.std.specs.Prelude.{Bool, codes, unwrap_or}
use Rattle.std.specs.Fmt.{digits}
use Rattle.hls_media_laws.specs.InitData.{InitData, no_track}
use Rattle.hls_media_laws.specs.declared.facts.Facts.{Facts}
use Rattle.hls_places_laws.specs.declared.place.Place.{Place}
use Rattle.hls_places_laws.specs.Growth.{SourceGrows}
use Rattle.hls_places_laws.specs.Sources.{source_at}
use Rattle.hls_places_laws.specs.FromPlace.{sources_since}
use Rattle.hls_places_laws.specs.Line.Steps.{is_later_place, is_allowed, is_long_enough, is_at_gap}
use Rattle.hls_places_laws.specs.Line.Cuts.{line_within}
use Rattle.hls_places_laws.specs.Line.FromCut.{IsCutOf, IsBegunAt}
use Rattle.hls_core_laws.specs.Base.{no_base}
use Rattle.hls_core_laws.specs.declared.event.Entry.{Entry}
use Rattle.hls_core_laws.specs.declared.event.LoggedEvent.TheVariants.{Begun, Accepted}
use Rattle.hls_core_laws.specs.Config.{ConfigData}
use Rattle.hls_core_laws.specs.Channel.{Lane, channel_from}
use Rattle.hls_core_laws.specs.State.{State, channel}
use Rattle.hls_core_laws.specs.Places.{sources}
use Rattle.hls_core_laws.specs.Line.{line_goal_of}
use Rattle.hls_m3u8.specs.declared.playlist.MediaSegment.{MediaSegment}
use Rattle.hls_m3u8.specs.PlaylistForms.{live_list}
use Rattle.hls_m3u8.specs.Playlist.{Playlist}
use Rattle.hls_playlists_laws.specs.Origins.{LaneBegins}
use Rattle.hls_playlists_laws.specs.Handovers.{IsHandedOver, lane_from, unit_at}
use Rattle.hls_playlists_laws.specs.JoinedLists.{MayTakeOver, joined_list, offsets_of}
use Rattle.hls_playlists_laws.specs.Live.{live_list_of}

-- a channel of one rendition with segments of 4 seconds
abbrev config : ConfigData
config = record {
  target = 6;
  preferred = 4000000;
  renditions = record { name = codes "v1"; video = true; bandwidth = 1; tolerance = 0 } ∷ [];
  epoch = None;
  base = no_base;
}

-- an init section with one track, of a million ticks a second
abbrev init : InitData
init = record { tracks = record no_track { scale = 1000000 } ∷ []; timing = 0 }

-- a sync unit of 4 seconds and of `len` bytes, by its start in microseconds
abbrev unit : ℕ → ℕ → Facts
unit start len = record {
  start = start;
  duration = 4000000;
  scale = 1000000;
  start_us = start;
  end_us = start + 4000000;
  sync = true;
  len = len;
}

-- the log entry of that init section, which has 700 bytes
abbrev begun : Entry
begun = record { by = 0; event = Begun 0 init 700 }

-- the log entry of an accepted unit
abbrev accepted : Facts → Entry
accepted facts = record { by = 0; event = Accepted 0 facts }

-- the first origin has five units, with a gap of a second before the third
abbrev first : State
first = record {
  config = config;
  log = begun ∷ accepted (unit 0 100) ∷ accepted (unit 4000000 200) ∷ accepted (unit 9000000 300) ∷ accepted (unit 13000000 400)
      ∷ accepted (unit 17000000 500) ∷ [];
  bytes = [];
}

-- the second origin began with the third of them, and is three units ahead
abbrev second : State
second = record {
  config = config;
  log = begun ∷ accepted (unit 9000000 300) ∷ accepted (unit 13000000 400) ∷ accepted (unit 17000000 500) ∷ accepted (unit 21000000 600)
      ∷ accepted (unit 25000000 700) ∷ accepted (unit 29000000 800) ∷ [];
  bytes = [];
}

-- the cut where it began: after two segments of the first
abbrev cut : Place
cut = record { spots = record { fragment = 2; prev_end = 8000000; start = 9000000; run_in = 0; run_out = 1 } ∷ []; closing = false }

-- the cut is one of the first's live line, after two segments
is_cut : IsCutOf (line_goal_of config) (sources first) 2 cut
unfolding channel_from line_within is_later_place is_allowed is_long_enough is_at_gap
is_cut = record { within = omega arith; front = refl; not_ended = refl }

-- a lane that has begun, with these units
abbrev lane_with : List Facts → Lane
lane_with facts = record { init = Some init; size = 700; facts = facts; floor = 0; finished = false }

-- the first's lane
abbrev of_first : Lane
of_first = lane_with (unit 0 100 ∷ unit 4000000 200 ∷ unit 9000000 300 ∷ unit 13000000 400 ∷ unit 17000000 500 ∷ [])

-- the second's lane
abbrev of_second : Lane
of_second = lane_with (unit 9000000 300 ∷ unit 13000000 400 ∷ unit 17000000 500 ∷ unit 21000000 600 ∷ unit 25000000 700 ∷ unit 29000000 800 ∷ [])

-- the first's units from the cut on are a prefix of the second's
begins : (r : ℕ) (l m : Lane) → slice_get (channel first).lanes r ≡ Some l → slice_get (channel second).lanes r ≡ Some m → LaneBegins (lane_from (unit_at cut r) l) m
unfolding channel_from
begins zero l m here there =
    subst (λ (x : Lane). LaneBegins (lane_from 2 x) m) (ap (λ (o : Option Lane). unwrap_or o of_first) here)
    (subst (λ (y : Lane). LaneBegins (lane_from 2 of_first) y) (ap (λ (o : Option Lane). unwrap_or o of_second) there)
    (record { init = refl; size = refl; more = unit 21000000 600 ∷ unit 25000000 700 ∷ unit 29000000 800 ∷ []; facts = refl; over = λ ended. cc }))
begins (suc r) l m here there = cc

-- the second continues the first at the cut
is_handed_over : IsHandedOver first second 2 cut
is_handed_over = record { config = refl; is_cut = is_cut; each = λ r l m here there. inl (begins r l m here there) }

-- the same for the renditions as the search for common places sees them
is_begun_at : IsBegunAt cut (sources first) (sources second)
unfolding channel_from
is_begun_at = record { same = refl; each = each }
  where
    each : (r : ℕ) → r < 1 → SourceGrows (source_at (sources_since cut.spots (sources first)) r) (source_at (sources second) r) ⊎ SourceGrows (source_at (sources second) r) (source_at (sources_since cut.spots (sources first)) r)
    each zero below = inl (record { more = unit 21000000 600 ∷ unit 25000000 700 ∷ unit 29000000 800 ∷ []; facts = refl; tolerance = refl; stays = λ ended. cc })
    each (suc r) below = absurd (omega arith)

-- a segment of 4 seconds
abbrev segment : Bool → ℕ → ℕ → MediaSegment
segment mark offset len =
    record { mark = mark; date = None; us = 4000000; range = Some (record { length = len; offset = offset }); uri = codes "/media/0.mp4" }

-- the first's playlist, with a mark after the gap
abbrev first_list : Playlist
first_list = live_list 6 0 0 (codes "/media/0.mp4") 700 (segment false 700 100 ∷ segment false 800 200 ∷ segment true 1000 300 ∷ segment false 1300 400 ∷ []) false

-- the second's playlist, which begins after the gap, without a mark
abbrev second_list : Playlist
second_list = live_list 6 0 0 (codes "/media/0.mp4") 700 (segment false 700 300 ∷ segment false 1000 400 ∷ segment false 1400 500 ∷ segment false 1900 600
    ∷ segment false 2500 700 ∷ []) false

-- that is the live playlist of the first
is_first_list : live_list_of first 0 ≡ Some first_list
unfolding channel_from line_within is_later_place is_allowed is_long_enough is_at_gap digits
is_first_list = refl

-- that is the live playlist of the second
is_second_list : live_list_of second 0 ≡ Some second_list
unfolding channel_from line_within is_later_place is_allowed is_long_enough is_at_gap digits
is_second_list = refl

-- the second's playlist is three target durations long, and extends further than the first's
may_take_over : MayTakeOver 2 first_list second_list
may_take_over = record { begins = omega arith; meets = omega arith; is_as_far = omega arith; long = λ further live. omega arith; ended = λ ended. cc }

-- with the constants added it continues where the first's does
joins : joined_list (offsets_of first 2 cut 0 of_first) second_list ≡ live_list 6 2 0 (codes "/media/0.mp4") 700
    (segment true 1000 300 ∷ segment false 1300 400 ∷ segment false 1700 500 ∷ segment false 2200 600 ∷ segment false 2800 700 ∷ []) false
unfolding channel_from line_within is_later_place is_allowed is_long_enough is_at_gap
joins = refl

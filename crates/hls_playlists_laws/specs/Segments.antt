-- The segments of a plan in one rendition.
use Rattle.std.specs.Prelude.{ℕ, ◌+◌, ◌-◌, ◌==◌, ℤ, pos, ◌+ℤ◌, Bool, false, not, List, [], ◌∷◌, Option, Some, None}
use Rattle.std.specs.List.{list_any}
use Rattle.hls_instants.specs.Instants.{whole_milliseconds}
use Rattle.hls_media_laws.specs.declared.facts.Facts.{Facts}
use Rattle.hls_check_tables.specs.declared.spot.Spot.{Spot}
use Rattle.hls_check_tables.specs.Tables.{spot_in, place_at}
use Rattle.hls_m3u8.specs.declared.playlist.ByteRange.{ByteRange}
use Rattle.hls_m3u8.specs.declared.playlist.MediaSegment.{MediaSegment}
use Rattle.hls_playlists_laws.specs.JobResource.{bytes_between}

-- the resource of one rendition's segments: its URI, the length of the init section at its front, the number of the first unit that
-- follows there, the facts of all units ever accepted, and the instant of time 0 in microseconds since 1970-01-01T00:00:00Z, if it is
-- known
pub record ResourceLayout : Type 0 where
  pub rendition : ℕ
  pub uri : List ℕ
  pub init_length : ℕ
  pub first : ℕ
  pub facts : List Facts
  pub epoch : Option ℤ

-- there is a gap just before the spot: more gaps precede the start of its fragment than that of the fragment before
abbrev pub is_gap_at : Spot → Bool
is_gap_at spot = not (spot.run_in == spot.run_out)

-- in some rendition there is a gap just before the place
abbrev pub is_break : List Spot → Bool
is_break place = list_any is_gap_at place

-- the units from one spot's fragment to the one before the other's
abbrev pub range_between : ResourceLayout → Spot → Spot → ByteRange
range_between cut from to = record {
  length = bytes_between cut.facts from.fragment to.fragment;
  offset = cut.init_length + bytes_between cut.facts cut.first from.fragment;
}

-- the instant of a time, rounded down to whole milliseconds; none without an epoch
abbrev pub date_at : Option ℤ → ℕ → Option ℤ
date_at None us = None
date_at (Some epoch) us = Some (whole_milliseconds (epoch +ℤ pos us))

-- the segment of a step from one place to another
abbrev pub segment_between : ResourceLayout → Bool → List Spot → List Spot → MediaSegment
segment_between cut mark from to = record {
  mark = mark;
  date = date_at cut.epoch (spot_in from cut.rendition).start;
  us = (spot_in to cut.rendition).prev_end - (spot_in from cut.rendition).start;
  range = Some (range_between cut (spot_in from cut.rendition) (spot_in to cut.rendition));
  uri = cut.uri;
}

-- one segment per step, from place p along the rest of a plan; the first has the given mark, and each later one has a mark if there
-- is a gap just before its start
abbrev pub plan_segments_from : ResourceLayout → List (List Spot) → ℕ → Bool → List ℕ → List MediaSegment
plan_segments_from cut places p mark [] = []
plan_segments_from cut places p mark (q ∷ rest) =
    segment_between cut mark (place_at places p) (place_at places q) ∷ plan_segments_from cut places q (is_break (place_at places q)) rest

-- the segments of a plan: the first has no mark
abbrev pub plan_segments : ResourceLayout → List (List Spot) → List ℕ → List MediaSegment
plan_segments cut places [] = []
plan_segments cut places (p ∷ rest) = plan_segments_from cut places p false rest

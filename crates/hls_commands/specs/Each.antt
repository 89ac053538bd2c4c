-- The playlist with one segment from each place to the next.
use Rattle.std.specs.Prelude.{ℕ, ◌+◌, ◌<◌, ◌≤◌, ℤ, Option, List, length, Result, Ok, Err}
use Rattle.std.specs.List.{range_with_len}
use Rattle.hls_record.specs.RecordingData.{RecordingData}
use Rattle.hls_check_tables.specs.declared.spot.Spot.{Spot}
use Rattle.hls_check_tables.specs.Tables.{place_at}
use Rattle.hls_check_tables.specs.Steps.{IsPlaceStep}
use Rattle.hls_m3u8.specs.declared.playlist.MediaSegment.{MediaSegment}
use Rattle.hls_m3u8.specs.PlaylistForms.{vod_list}
use Rattle.hls_m3u8.specs.Playlist.{Playlist}
use Rattle.hls_m3u8.specs.Written.{IsWritten}
use Rattle.hls_playlists_laws.specs.Segments.{plan_segments}
use Rattle.hls_playlists_laws.specs.JobPlaylists.{job_layout}
use Rattle.hls_commands.specs.declared.listing_mode.ListingOutput.{ListingOutput}
use Rattle.hls_commands.specs.declared.listing_mode.ListingOutput.TheVariants.{Text, NoCut}
use Rattle.hls_commands.specs.declared.listing_fault.ListingFault.{ListingFault}
use Rattle.hls_commands.specs.declared.listing_fault.ListingFault.TheVariants.{NoPlace, ProgrammeTooLong, NotAllowed, Memory}

-- the VOD playlist with a plan's steps as segments, in a resource of the recording's init section and all its units
abbrev pub plan_list : ℕ → Option ℤ → RecordingData → List ℕ → List (List Spot) → List ℕ → Playlist
plan_list target epoch recorded uri places plan =
    vod_list target uri (length recorded.head) (plan_segments (job_layout epoch recorded 0 uri 0) places plan)

-- the plan that contains every place
abbrev pub full_plan : List (List Spot) → List ℕ
full_plan places = range_with_len 0 (length places)

-- the segments of that plan
abbrev pub consecutive_segments : Option ℤ → RecordingData → List ℕ → List (List Spot) → List MediaSegment
consecutive_segments epoch recorded uri places = plan_segments (job_layout epoch recorded 0 uri 0) places (full_plan places)

-- one segment may reach from place i to the next
abbrev pub ReachesNext : ℕ → List (List Spot) → ℕ → Type 0
ReachesNext target places i = IsPlaceStep target (place_at places i) (place_at places (i + 1))

-- one segment may reach from each place except the last to the next
abbrev pub AllReachNext : ℕ → List (List Spot) → Type 0
AllReachNext target places = (i : ℕ) → i + 1 < length places → ReachesNext target places i

-- place i is the first from which no segment may reach the next
pub record IsFirstRefused (target : ℕ) (places : List (List Spot)) (i : ℕ) : Type 0 where
  pub within : i + 1 < length places
  pub refused : ReachesNext target places i → ⊥
  pub before : (k : ℕ) → k < i → ReachesNext target places k

-- the playlist's text, if each place reaches the next; else the first place that doesn't. An allocation failure may only take the text's place
abbrev pub ListsEach : ℕ → Option ℤ → RecordingData → List (List Spot) → List ℕ → Result ListingOutput ListingFault → Type 0
ListsEach target epoch recorded places uri (Ok (Text text)) =
    (2 ≤ length places) × AllReachNext target places × IsWritten (plan_list target epoch recorded uri places (full_plan places)) text.items
ListsEach target epoch recorded places uri (Ok (NoCut text)) = ⊥
ListsEach target epoch recorded places uri (Err NoPlace) = length places < 2
ListsEach target epoch recorded places uri (Err ProgrammeTooLong) = ⊥
ListsEach target epoch recorded places uri (Err (NotAllowed place)) = IsFirstRefused target places place
ListsEach target epoch recorded places uri (Err Memory) = (2 ≤ length places) × AllReachNext target places

-- The playlists of an answer.
use Rattle.std.specs.Prelude.{ℕ, suc, ℤ, Option, List, [], ◌∷◌, ◌++◌, length, codes}
use Rattle.std.specs.Fmt.{decimal}
use Rattle.hls_record.specs.RecordingData.{RecordingData}
use Rattle.hls_check_tables.specs.Tables.{Table}
use Rattle.hls_m3u8.specs.Playlist.{Playlist}
use Rattle.hls_m3u8.specs.PlaylistForms.{vod_list}
use Rattle.hls_playlists_laws.specs.Segments.{ResourceLayout, plan_segments}
use Rattle.hls_playlists_laws.specs.SegmentLaws.{first_fragment}

-- the resource of a rendition's segments: the recording's init section, followed by the units from number `first` on
abbrev pub job_layout : Option ℤ → RecordingData → ℕ → List ℕ → ℕ → ResourceLayout
job_layout epoch recorded rendition uri first = record {
  rendition = rendition;
  uri = uri;
  init_length = length recorded.head;
  first = first;
  facts = recorded.facts;
  epoch = epoch;
}

-- the URI of a rendition's resource in a folder
abbrev pub resource_uri : List ℕ → ℕ → List ℕ
resource_uri folder rendition = folder ++ (decimal rendition ++ codes ".mp4")

-- the URI of a rendition's resource in the playlists of a job: in the same folder
abbrev pub job_uri : ℕ → List ℕ
job_uri rendition = decimal rendition ++ codes ".mp4"

-- the rendition's VOD playlist: the channel's target duration, the init section at the front, and the plan's steps as segments
abbrev pub job_list : Option ℤ → RecordingData → ℕ → Table → List ℕ → Playlist
job_list epoch recorded rendition t plan =
    vod_list t.goal.target (job_uri rendition) (length recorded.head)
    (plan_segments (job_layout epoch recorded rendition (job_uri rendition) (first_fragment t rendition)) t.places plan)

-- the playlists of the renditions from number r on
abbrev pub job_lists : Option ℤ → ℕ → List RecordingData → Table → List ℕ → List Playlist
job_lists epoch r [] t plan = []
job_lists epoch r (recorded ∷ others) t plan = job_list epoch recorded r t plan ∷ job_lists epoch (suc r) others t plan

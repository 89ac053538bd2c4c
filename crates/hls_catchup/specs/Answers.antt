-- The right answer for a table of places and the recordings from which it was made.
use Rattle.std.specs.Prelude.{◌≡◌, ℕ, ◌≤◌, ℤ, Option, List, length, map, Some, slice_get, All}
use Rattle.std.specs.List.{concat}
use Rattle.hls_record.specs.RecordingData.{RecordingData}
use Rattle.hls_check_tables.specs.Tables.{Table}
use Rattle.hls_check_tables.specs.Plans.{IsLeast, HasNoPlan}
use Rattle.hls_check_tables.specs.Certificates.{ClaimData, CutClaim, NoneClaim, CertificateData, IsGood}
use Rattle.hls_m3u8.specs.Playlist.{Playlist, playlist_of}
use Rattle.hls_m3u8.specs.HasText.{HasText}
use Rattle.hls_playlists_laws.specs.Media.{joined_media}
use Rattle.hls_playlists_laws.specs.JobResource.{units_between, resource_of}
use Rattle.hls_playlists_laws.specs.SegmentLaws.{first_fragment, end_fragment, SegmentFits}
use Rattle.hls_catchup.specs.declared.cut_result.CutResult.{CutResult}
use Rattle.hls_catchup.specs.declared.cut_result.CutResult.TheVariants.{Cut, NoCut}
use Rattle.hls_playlists_laws.specs.JobPlaylists.{job_list}
use Rattle.hls_catchup.specs.AcceptedLaw.{IsAccepted}

-- the units of the programme in one rendition
abbrev pub programme_units : RecordingData → ℕ → Table → List (List ℕ)
programme_units recorded r t = units_between recorded.floor recorded.units (first_fragment t r) (end_fragment t r)

-- the resource of a rendition: its init section, then the units of the programme
abbrev pub job_resource : RecordingData → ℕ → Table → List ℕ
job_resource recorded r t = resource_of recorded.head recorded.floor recorded.units (first_fragment t r) (end_fragment t r)

-- all units of the programme are kept
pub record IsCovered (t : Table) (r : ℕ) (recorded : RecordingData) : Type 0 where
  pub kept : recorded.floor ≤ first_fragment t r
  pub ever : end_fragment t r ≤ length recorded.facts

-- one recording for each rendition of the table, which keeps the programme's units
pub record AreCovered (t : Table) (recordings : List RecordingData) : Type 0 where
  pub renditions : length recordings ≡ t.renditions
  pub each : (r : ℕ) (recorded : RecordingData) → slice_get recordings r ≡ Some recorded → IsCovered t r recorded

-- the right playlist of a plan in one rendition
pub record IsRightList (epoch : Option ℤ) (recorded : RecordingData) (r : ℕ) (t : Table) (plan : List ℕ) (list : Playlist) : Type 0 where
  -- it is the VOD playlist with the plan's steps as segments, and it can be written
  pub is : list ≡ job_list epoch recorded r t plan
  pub has_text : HasText list
  -- each length fits the target duration
  pub fits : All (SegmentFits t.goal.target) list.segments
  -- the joined media are exactly the units of the programme
  pub media : joined_media list.segments (job_resource recorded r t) ≡ concat (programme_units recorded r t)

-- one right playlist for each rendition
pub record AreRightLists (epoch : Option ℤ) (recordings : List RecordingData) (t : Table) (plan : List ℕ) (lists : List Playlist) : Type 0 where
  pub count : length lists ≡ t.renditions
  pub each : (r : ℕ) (recorded : RecordingData) (list : Playlist) → slice_get recordings r ≡ Some recorded → slice_get lists r ≡ Some list →
      IsRightList epoch recorded r t plan list

-- a certificate shows a least plan, by which the playlists are made
abbrev pub ShowsCut : Option ℤ → List RecordingData → Table → List Playlist → ClaimData → Type 0
ShowsCut epoch recordings t lists (CutClaim total plan prices) = IsLeast t plan × AreRightLists epoch recordings t plan lists
ShowsCut epoch recordings t lists (NoneClaim closed) = ⊥

-- a certificate shows that there is no plan
abbrev pub ShowsNoCut : Table → ClaimData → Type 0
ShowsNoCut t (CutClaim total plan prices) = ⊥
ShowsNoCut t (NoneClaim closed) = HasNoPlan t

-- a valid certificate over this very table; printed, it is read back as itself, and the checker accepts it
abbrev pub IsGoodFor : Table → CertificateData → Type 0
IsGoodFor t certificate = (certificate.table ≡ t) × IsGood certificate × IsAccepted certificate

-- a least plan's playlists with a certificate over the table, or the certificate that there is no plan
abbrev pub IsRightCutResult : Option ℤ → List RecordingData → Table → CutResult → Type 0
IsRightCutResult epoch recordings t (Cut lists certificate) =
    IsGoodFor t certificate × ShowsCut epoch recordings t (map playlist_of lists.items) certificate.shown
IsRightCutResult epoch recordings t (NoCut certificate) = IsGoodFor t certificate × ShowsNoCut t certificate.shown

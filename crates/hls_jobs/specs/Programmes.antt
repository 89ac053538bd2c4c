-- The playlists of a programme by its address: those of a job's answer, by paths of the channel's recordings.
use Rattle.std.specs.Prelude.{ℕ, ◌+◌, ◌<◌, ◌^◌, false, List, ◌++◌, length, map, codes, Option, Some, None, option_map, slice_get, ⊤}
use Rattle.hls_record.specs.RecordingData.{RecordingData}
use Rattle.hls_check_tables.specs.Tables.{Table}
use Rattle.hls_core_laws.specs.Base.{BaseData, bytes_before_base, run_text}
use Rattle.hls_core_laws.specs.State.{State}
use Rattle.hls_core.specs.Getters.{recording_of}
use Rattle.hls_m3u8.specs.declared.playlist.ByteRange.{ByteRange}
use Rattle.hls_m3u8.specs.declared.playlist.MediaSegment.{MediaSegment}
use Rattle.hls_m3u8.specs.Playlist.{Playlist, playlist_of}
use Rattle.hls_m3u8.specs.HasText.{IsDate}
use Rattle.hls_m3u8.specs.Lines.{media_text}
use Rattle.hls_playlists_laws.specs.JobResource.{bytes_between}
use Rattle.hls_playlists_laws.specs.JoinedLists.{shifted_segment}
use Rattle.hls_playlists_laws.specs.PathLists.{init_in, media_folder, segment_in}
use Rattle.hls_playlists_laws.specs.SegmentLaws.{first_fragment}
use Rattle.hls_players_master.specs.Master.{players_master}
use Rattle.hls_catchup.specs.declared.cut_result.CutResult.{CutResult}
use Rattle.hls_catchup.specs.declared.cut_result.CutResult.TheVariants.{Cut, NoCut}
use Rattle.hls_catchup.specs.Replies.{ReplyData}

-- the folder of a run, seen from `/hls/programme/<from>/<to>/`
abbrev pub run_above : BaseData → List ℕ
run_above base = codes "../../../" ++ run_text base.run

-- the folder of a rendition's media in that run, seen from there
abbrev pub folder_above : BaseData → ℕ → List ℕ
folder_above base r = media_folder (run_above base) r

-- the bytes of a rendition's units before number `first`
abbrev pub bytes_before_unit : Option RecordingData → ℕ → ℕ
bytes_before_unit None first = 0
bytes_before_unit (Some recorded) first = bytes_between recorded.facts 0 first

-- how far after its place in a job's resource a path counts a unit: by the units that precede the recording, and by those of it that
-- precede the programme
abbrev pub bytes_ahead : State → ℕ → Table → ℕ
bytes_ahead s r t = bytes_before_base s.config.base r + bytes_before_unit (recording_of s r) (first_fragment t r)

-- a segment of a job's playlist, under its path in a folder
abbrev pub segment_above : List ℕ → ℕ → MediaSegment → MediaSegment
segment_above folder ahead x = segment_in folder (shifted_segment ahead x)

-- a playlist with the init section of a folder, and these segments
abbrev pub list_in : List ℕ → List MediaSegment → Playlist → Playlist
list_in folder segments list = record {
  version = list.version;
  target = list.target;
  media_sequence = list.media_sequence;
  discontinuity_sequence = list.discontinuity_sequence;
  kind = list.kind;
  map = Some (init_in folder);
  segments = segments;
  ended = list.ended;
}

-- a job's playlist by the paths of a folder
abbrev pub list_above : List ℕ → ℕ → Playlist → Playlist
list_above folder ahead list = list_in folder (map (segment_above folder ahead) list.segments) list

-- a rendition's playlist of a job, by the paths of the channel's recordings
abbrev pub programme_list : State → ℕ → Table → Playlist → Playlist
programme_list s r t list = list_above (folder_above s.config.base r) (bytes_ahead s r t) list

-- the text of a rendition's playlist; none if the programme has no plan, or there is no such rendition
abbrev pub programme_list_in : State → CutResult → ℕ → Option (List ℕ)
programme_list_in s (Cut lists certificate) r =
    option_map (λ list. media_text (programme_list s r certificate.table (playlist_of list))) (slice_get lists.items r)
programme_list_in s (NoCut certificate) r = None

-- the text of a rendition's playlist in a reply; none if the programme has no plan, or there is no such rendition
abbrev pub programme_list_file : ReplyData → ℕ → Option (List ℕ)
programme_list_file reply r = programme_list_in reply.state reply.cut_result r

-- the master playlist: that of the channel's playlists by paths, whose playlists have the same names; none if there is no plan
abbrev pub master_in : State → CutResult → Option (List ℕ)
master_in s (Cut lists certificate) = players_master s false
master_in s (NoCut certificate) = None

-- the master playlist of a reply; none if the programme has no plan
abbrev pub master_file : ReplyData → Option (List ℕ)
master_file reply = master_in reply.state reply.cut_result

-- how many playlists an answer has
abbrev pub list_count_in : CutResult → ℕ
list_count_in (Cut lists certificate) = length lists.items
list_count_in (NoCut certificate) = 0

-- how many playlists a reply has
abbrev pub list_count : ReplyData → ℕ
list_count reply = list_count_in reply.cut_result

-- a range, if there is one, ends before byte 2 * 10^15, so it still has a path when it is moved by at most as many bytes
abbrev pub HasPath : Option ByteRange → Type 0
HasPath None = ⊤
HasPath (Some range) = range.offset + range.length < 2000000000000000

-- a segment of a job's playlist that has a path, and can be written
pub record CanBeNamed (x : MediaSegment) : Type 0 where
  pub range : HasPath x.range
  pub length : x.us < 2 ^ 53
  pub date : IsDate x.date

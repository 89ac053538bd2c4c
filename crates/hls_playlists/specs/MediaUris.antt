-- A channel's live playlists as they are served: they count from the channel's base, by ranges or by paths.
use Rattle.std.specs.Prelude.{ℕ, ◌+◌, ◌++◌, ◌<◌, ◌≤◌, ◌^◌, ⊤, List, map, Option, Some, None, codes, option_map}
use Rattle.hls_core_laws.specs.Base.{BaseData, run_text}
use Rattle.hls_core_laws.specs.State.{State}
use Rattle.hls_m3u8.specs.declared.playlist.ByteRange.{ByteRange}
use Rattle.hls_m3u8.specs.declared.playlist.InitSection.{InitSection}
use Rattle.hls_m3u8.specs.declared.playlist.MediaSegment.{MediaSegment}
use Rattle.hls_m3u8.specs.Playlist.{Playlist}
use Rattle.hls_playlists_laws.specs.JobPlaylists.{resource_uri}
use Rattle.hls_playlists_laws.specs.JoinedLists.{joined_list, joined_segment, joined_segments}
use Rattle.hls_playlists_laws.specs.BasedLists.{based_list_of, offsets_from}
use Rattle.hls_playlists_laws.specs.PathLists.{init_in, list_by_paths, media_folder, path_list_of, segment_in}
use Rattle.hls_playlists.specs.declared.media_uris.MediaUris.{MediaUris}
use Rattle.hls_playlists.specs.declared.media_uris.MediaUris.TheVariants.{Paths, PathsAbove, Ranges}

-- the folder of a run, seen from a folder that is two folders below its parent, as `/hls/since/<from>/`
abbrev pub run_above : BaseData → List ℕ
run_above base = codes "../../" ++ run_text base.run

-- the playlist of a rendition that is served in a state
abbrev pub served_list_of : MediaUris → State → ℕ → Option Playlist
served_list_of Ranges s r = based_list_of s r
served_list_of Paths s r = path_list_of s r
served_list_of PathsAbove s r = option_map (list_by_paths (run_above s.config.base) r) (based_list_of s r)

-- the playlist that is served for the process's own one
abbrev pub served_list : MediaUris → BaseData → ℕ → Playlist → Playlist
served_list Ranges base r list = joined_list (offsets_from base r) list
served_list Paths base r list = list_by_paths (run_text base.run) r (joined_list (offsets_from base r) list)
served_list PathsAbove base r list = list_by_paths (run_above base) r (joined_list (offsets_from base r) list)

-- where the URIs of a rendition's media begin: the URI of its recording, or the folder of its paths
abbrev pub media_uri : MediaUris → BaseData → ℕ → List ℕ
media_uri Ranges base r = resource_uri (codes "/media/") r
media_uri Paths base r = media_folder (run_text base.run) r
media_uri PathsAbove base r = media_folder (run_above base) r

-- the init section that a playlist names
abbrev pub served_map : MediaUris → BaseData → ℕ → Option InitSection → Option InitSection
served_map Ranges base r own = own
served_map Paths base r own = Some (init_in (media_folder (run_text base.run) r))
served_map PathsAbove base r own = Some (init_in (media_folder (run_above base) r))

-- the segment with a media sequence number, as it is served
abbrev pub served_segment : MediaUris → BaseData → ℕ → ℕ → MediaSegment → MediaSegment
served_segment Ranges base r number x = joined_segment (offsets_from base r) number x
served_segment Paths base r number x = segment_in (media_folder (run_text base.run) r) (joined_segment (offsets_from base r) number x)
served_segment PathsAbove base r number x = segment_in (media_folder (run_above base) r) (joined_segment (offsets_from base r) number x)

-- segments from a media sequence number on, as they are served
abbrev pub served_segments : MediaUris → BaseData → ℕ → ℕ → List MediaSegment → List MediaSegment
served_segments Ranges base r number xs = joined_segments (offsets_from base r) number xs
served_segments Paths base r number xs = map (segment_in (media_folder (run_text base.run) r)) (joined_segments (offsets_from base r) number xs)
served_segments PathsAbove base r number xs = map (segment_in (media_folder (run_above base) r)) (joined_segments (offsets_from base r) number xs)

-- a segment has a range, which ends at byte 4 * 10^12 at the latest
abbrev pub HasRange : Option ByteRange → Type 0
HasRange None = ⊥
HasRange (Some range) = range.offset + range.length ≤ 4000000000000

-- a segment's range ends before 2^64, if it has one
abbrev pub HasSmallRange : Option ByteRange → Type 0
HasSmallRange None = ⊤
HasSmallRange (Some range) = range.offset + range.length < 2 ^ 64

-- The replies to players: playlists by paths, init sections, segments.
use Rattle.std.specs.Prelude.{ℕ, ◌+◌, ◌∷◌, [], ◌++◌, cond, false, List, length, Option, Some, None, bytes_eq, option_map}
use Rattle.hls_http.specs.declared.fault.HttpFault.TheVariants as http
use Rattle.hls_http.specs.declared.response_parts.CachePolicy.{CachePolicy}
use Rattle.hls_http.specs.declared.response_parts.CachePolicy.TheVariants.{Brief, Immutable, Revalidate, Unstated}
use Rattle.hls_http.specs.declared.response_parts.Status.TheVariants.{Done}
use Rattle.hls_http.specs.{Range.range_selection, ResponseText.is_success}
use Rattle.hls_record.specs.RecordingData.{RecordingData, offset_at}
use Rattle.hls_playlists_laws.specs.JobResource.{bytes_between}
use Rattle.hls_core_laws.specs.Base.{bytes_before_base, run_text}
use Rattle.hls_core.specs.Getters.{recording_of}
use Rattle.hls_playlists_laws.specs.NamedUnits.{KeptUnits, Named, NoUnits, TrimmedUnits, named_units}
use Rattle.hls_playlists.specs.declared.media_uris.MediaUris.{MediaUris}
use Rattle.hls_playlists.specs.declared.media_uris.MediaUris.TheVariants.{Paths, PathsAbove, Ranges}
use Rattle.hls_m3u8.specs.Lines.{media_text}
use Rattle.hls_playlists.specs.RecentLists.{recent_list_of}
use Rattle.hls_players_master.specs.Master.{players_master}
use Rattle.hls_api.specs.Playlists.{live_text}
use Rattle.hls_api.specs.Responses.{ResponseData, fault_answer, list_answer, media_bytes, part_answer, text_answer}
use Rattle.hls_api.specs.Types.{RangeSpec, State}

-- the same reply with this cache policy
abbrev pub with_policy : CachePolicy → ResponseData → ResponseData
with_policy policy a = record { status = a.status; kind = a.kind; field = a.field; policy = policy; body = a.body }

-- caches keep media for good, since it never changes, and ask again after a refusal
abbrev pub media_policy : ResponseData → CachePolicy
media_policy a = cond (is_success a.status) Immutable Revalidate

-- a media reply with the cache policy that its status has
abbrev pub shared_media : ResponseData → ResponseData
shared_media a = with_policy (media_policy a) a

-- the reply with `len` bytes from byte `start` of a recording, or with the requested part of them
abbrev pub slice_answer : RecordingData → ℕ → ℕ → RangeSpec → ResponseData
slice_answer rec start len range = part_answer (λ from n. media_bytes rec (start + from) n) len (range_selection range len)

-- the init section of a rendition; not found before it is there
abbrev pub init_section_answer : Option RecordingData → RangeSpec → ResponseData
init_section_answer None range = fault_answer http.NotFound
init_section_answer (Some rec) range = slice_answer rec 0 (length rec.head) range

-- the reply with the units that a path names: 404 if it names none, 410 if they are trimmed
abbrev pub units_answer : RecordingData → Named → RangeSpec → ResponseData
units_answer rec NoUnits range = fault_answer http.NotFound
units_answer rec TrimmedUnits range = fault_answer http.Gone
units_answer rec (KeptUnits m n) range = slice_answer rec (offset_at rec m) (bytes_between rec.facts m n) range

-- the units from byte `first` to byte `last` of a rendition; not found before its init section
abbrev pub recorded_units_answer : ℕ → ℕ → Option RecordingData → ℕ → ℕ → RangeSpec → ResponseData
recorded_units_answer target before None first last range = fault_answer http.NotFound
recorded_units_answer target before (Some rec) first last range =
    units_answer rec (named_units before target (length rec.head) rec.facts rec.floor first last) range

-- the answer under the name of the channel's own run; under any other run 404
abbrev pub of_run : State → List ℕ → ResponseData → ResponseData
of_run s run answer = cond (bytes_eq run s.config.base.run) answer (fault_answer http.NotFound)

-- the reply for a rendition's init section under a run's name
abbrev pub init_answer : State → List ℕ → ℕ → RangeSpec → ResponseData
init_answer s run r range = shared_media (of_run s run (init_section_answer (recording_of s r) range))

-- the reply for the bytes from `first` to `last` of a rendition under a run's name
abbrev pub segment_answer : State → List ℕ → ℕ → ℕ → ℕ → RangeSpec → ResponseData
segment_answer s run r first last range =
    shared_media (of_run s run (recorded_units_answer s.config.target (bytes_before_base s.config.base r) (recording_of s r) first last range))

-- caches keep a playlist by paths, or its 404, for a second; a playlist by ranges has its own policy
abbrev pub list_policy : MediaUris → CachePolicy → CachePolicy
list_policy Ranges own = own
list_policy Paths own = Brief
list_policy PathsAbove own = Brief

-- the reply for a rendition's live playlist, by ranges or by paths; not found before a segment is closed
abbrev pub live_list_answer : MediaUris → State → ℕ → ResponseData
live_list_answer uris s r = with_policy (list_policy uris Unstated) (list_answer (live_text uris s r))

-- the reply for a rendition's live playlist by paths that shows the last `us` microseconds; not found before a segment is closed
abbrev pub recent_list_answer : ℕ → State → ℕ → ResponseData
recent_list_answer us s r = with_policy Brief (list_answer (option_map media_text (recent_list_of us s r)))

-- the reply for the players' master playlist; not found before each rendition has its init section
abbrev pub path_master_answer : State → ResponseData
path_master_answer s = with_policy Brief (list_answer (players_master s false))

-- the reply with the name of the channel's run in a line
abbrev pub run_answer : State → ResponseData
run_answer s = with_policy Revalidate (text_answer Done (run_text s.config.base.run ++ 10 ∷ []))

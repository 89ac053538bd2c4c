-- What a target names, and which methods it allows.
use Rattle.std.specs.Prelude.{ℕ, nat_lt, min, Bool, true, false, ◌&&◌, ◌==◌, ◌-◌, ◌+◌, cond, Option, Some, None, option_and_then, option_map, unwrap_or}
use Rattle.std.specs.{Prelude.{List, [], ◌∷◌, length, take, drop, position, bytes_eq, codes}, List.{filter, join_by, position_or_len}}
use Rattle.std.specs.Option.{option_or}
use Rattle.std.specs.Str.{all_ascii_digits}
use Rattle.hls_text.specs.Digits.{has_no_leading_zero, number_of_digits}
use Rattle.hls_core_laws.specs.Base.{run_field}
use Rattle.hls_http.specs.declared.method.Method.TheVariants.{Get, Head, Post, Put, Delete}
use Rattle.hls_api.specs.Queries.{time_point_of}
use Rattle.hls_api.specs.Types.{Method, Route, JobFile, ProgrammeFile, SinceFile, TimePoint, IngestTarget, ServedChannel}
use Rattle.hls_api.specs.declared.route.Route.TheVariants as routes
use Rattle.hls_api.specs.declared.route.JobFile.TheVariants as files
use Rattle.hls_api.specs.declared.route.ProgrammeFile.TheVariants as programmes
use Rattle.hls_api.specs.declared.route.SinceFile.TheVariants as sinces

-- the position of the first such byte in a text, or the text's length
abbrev pub position_of : ℕ → List ℕ → ℕ
position_of byte text = position_or_len (λ b. b == byte) text

-- the path of a target: the text before its first `?` (RFC 9112, section 3.2.1)
abbrev pub path_of : List ℕ → List ℕ
path_of target = take (position_of 63 target) target

-- the query of a target: the text after its first `?`, empty if there is none
abbrev pub query_of : List ℕ → List ℕ
query_of target = drop (position_of 63 target + 1) target

-- the text after this prefix, if it begins with it
abbrev pub without_prefix : List ℕ → List ℕ → Option (List ℕ)
without_prefix front text = cond (bytes_eq (take (length front) text) front) (Some (drop (length front) text)) None

-- the text before this suffix, if it ends with it
abbrev pub without_suffix : List ℕ → List ℕ → Option (List ℕ)
without_suffix back text = cond (bytes_eq (drop (length text - length back) text) back) (Some (take (length text - length back) text)) None

-- the number of a rendition below `count`, in decimal without leading zeros
abbrev pub rendition_in : ℕ → List ℕ → Option ℕ
rendition_in count text = cond (has_no_leading_zero text) (option_and_then (λ r. cond (nat_lt r count) (Some r) None) (number_of_digits 16 text)) None

-- what the number of a rendition before this suffix names
abbrev pub numbered_route : {A : Type 0} → List ℕ → (ℕ → A) → ℕ → List ℕ → Option A
numbered_route back name count text = option_and_then (λ number. option_map name (rendition_in count number)) (without_suffix back text)

-- a number above that of every job
abbrev pub no_job : ℕ
no_job = 9007199254740992

-- the number of a job; too many digits give the number that no job has
abbrev pub job_in : List ℕ → Option ℕ
job_in text = cond (has_no_leading_zero text && all_ascii_digits text) (Some (min (unwrap_or (number_of_digits 16 text) no_job) no_job)) None

-- the route of the first value, if there is one; else the other route
abbrev pub or_else : {A B : Type 0} → Option A → (A → Option B) → Option B → Option B
or_else None route other = other
or_else (Some a) route other = route a

-- what a name in /live/ names: the live master playlist, or a rendition's live playlist
abbrev pub live_route : ℕ → List ℕ → Option Route
live_route count text =
    cond (bytes_eq text (codes "master.m3u8")) (Some routes.LiveMaster) (numbered_route (codes ".m3u8") routes.LiveList count text)

-- a file of a job, by its name
abbrev pub file_of : ℕ → List ℕ → Option JobFile
file_of count name =
    cond (bytes_eq name (codes "master.m3u8")) (Some files.Master)
    (cond (bytes_eq name (codes "certificate.txt")) (Some files.Certificate)
    (or_else (without_suffix (codes ".m3u8") name) (λ number. option_map files.List (rendition_in count number))
    (numbered_route (codes ".mp4") files.Media count name)))

-- a job, or one of its files after the next `/`
abbrev pub job_route_at : ℕ → List ℕ → Option ℕ → Option Route
job_route_at count text None = option_map routes.Job (job_in text)
job_route_at count text (Some at) =
    option_and_then (λ id. option_map (routes.JobFile id) (file_of count (drop (at + 1) text))) (job_in (take at text))

-- what a text after /job/ names: a job, or a file of a job after the first `/`
abbrev pub job_route : ℕ → List ℕ → Option Route
job_route count text = job_route_at count text (position (λ b. b == 47) text)

-- ---- players

-- the number of a byte
abbrev pub byte_number : List ℕ → Option ℕ
byte_number text = cond (has_no_leading_zero text) (number_of_digits 16 text) None

-- a segment by its first and last byte, with `-` between them
abbrev pub span_route_at : List ℕ → ℕ → List ℕ → Option ℕ → Option Route
span_route_at run r text None = None
span_route_at run r text (Some at) =
    option_and_then (λ first. option_map (λ last. routes.Segment run r first last) (byte_number (drop (at + 1) text))) (byte_number (take at text))

-- the segment that a text such as `600-1599` names: its first and its last byte
abbrev pub span_route : List ℕ → ℕ → List ℕ → Option Route
span_route run r text = span_route_at run r text (position (λ b. b == 45) text)

-- a file of a rendition, by its name
abbrev pub media_file : List ℕ → ℕ → List ℕ → Option Route
media_file run r name =
    cond (bytes_eq name (codes "init.mp4")) (Some (routes.InitSection run r)) (option_and_then (span_route run r) (without_suffix (codes ".m4s") name))

-- a rendition of a run, and its file after the next `/`
abbrev pub rendition_route_at : ℕ → List ℕ → List ℕ → Option ℕ → Option Route
rendition_route_at count run text None = None
rendition_route_at count run text (Some at) = option_and_then (λ r. media_file run r (drop (at + 1) text)) (rendition_in count (take at text))

-- what a text after a run's name names: a rendition's init section or segment; none if the name is no run's
abbrev pub run_route : ℕ → List ℕ → List ℕ → Option Route
run_route count run text =
    option_and_then (λ field. rendition_route_at count field text (position (λ b. b == 47) text)) (run_field run)

-- a file of a programme, by its name
abbrev pub programme_file_of : ℕ → List ℕ → Option ProgrammeFile
programme_file_of count name =
    cond (bytes_eq name (codes "master.m3u8")) (Some programmes.Master)
    (cond (bytes_eq name (codes "certificate.txt")) (Some programmes.Certificate) (numbered_route (codes ".m3u8") programmes.List count name))

-- the end of a programme, and its file after the next `/`
abbrev pub programme_end_at : ℕ → TimePoint → List ℕ → Option ℕ → Option Route
programme_end_at count start text None = None
programme_end_at count start text (Some at) =
    option_and_then (λ stop. option_map (routes.Programme start stop) (programme_file_of count (drop (at + 1) text))) (time_point_of (take at text))

-- what a text after a programme's start names: the programme's end, and its file after the first `/`
abbrev pub programme_end_route : ℕ → TimePoint → List ℕ → Option Route
programme_end_route count start text = programme_end_at count start text (position (λ b. b == 47) text)

-- the start of a programme, and what follows after the next `/`
abbrev pub programme_start_at : ℕ → List ℕ → Option ℕ → Option Route
programme_start_at count text None = None
programme_start_at count text (Some at) =
    option_and_then (λ start. programme_end_route count start (drop (at + 1) text)) (time_point_of (take at text))

-- what a text after /hls/programme/ names: a programme by its start and its end, and its file
abbrev pub programme_route : ℕ → List ℕ → Option Route
programme_route count text = programme_start_at count text (position (λ b. b == 47) text)

-- a file of the playlists that start at a time, by its name
abbrev pub since_file_of : ℕ → List ℕ → Option SinceFile
since_file_of count name = cond (bytes_eq name (codes "master.m3u8")) (Some sinces.Master) (numbered_route (codes ".m3u8") sinces.List count name)

-- the time at which playlists start, and a file after the next `/`
abbrev pub since_route_at : ℕ → List ℕ → Option ℕ → Option Route
since_route_at count text None = None
since_route_at count text (Some at) =
    option_and_then (λ start. option_map (routes.Since start) (since_file_of count (drop (at + 1) text))) (time_point_of (take at text))

-- what a text after /hls/since/ names: the time at which playlists start, and a file
abbrev pub since_route : ℕ → List ℕ → Option Route
since_route count text = since_route_at count text (position (λ b. b == 47) text)

-- what is in a folder: a programme, playlists that start at a time, or the media of a run, whose name may be that folder's
abbrev pub media_route : ℕ → List ℕ → List ℕ → Option Route
media_route count folder text =
    cond (bytes_eq folder (codes "programme")) (option_or (programme_route count text) (run_route count folder text))
    (cond (bytes_eq folder (codes "since")) (option_or (since_route count text) (run_route count folder text)) (run_route count folder text))

-- the live playlist by paths of a rendition, with as much as the channel shows
abbrev pub path_list_by : Option ℕ → ℕ → Route
path_list_by None rendition = routes.PathList rendition
path_list_by (Some us) rendition = routes.RecentList rendition us

-- the route of a rendition's live playlist by paths, with as much as the channel shows
abbrev pub path_list_route : ServedChannel → ℕ → Route
path_list_route channel rendition = path_list_by channel.shown_us rendition

-- what a text after /hls/ names: a playlist by its name, or what follows the name of a folder and the next `/`
abbrev pub player_route_at : ServedChannel → List ℕ → Option ℕ → Option Route
player_route_at channel text None = numbered_route (codes ".m3u8") (path_list_route channel) channel.renditions text
player_route_at channel text (Some at) = media_route channel.renditions (take at text) (drop (at + 1) text)

-- what a text after /hls/ names: the players' master playlist, the run, a live playlist by paths, or what is in a folder
abbrev pub player_route : ServedChannel → List ℕ → Option Route
player_route channel text =
    cond (bytes_eq text (codes "master.m3u8")) (Some routes.PathMaster)
    (cond (bytes_eq text (codes "run")) (Some routes.Run) (player_route_at channel text (position (λ b. b == 47) text)))

-- a channel of this number of renditions, whose units aren't mended, and whose live playlists show all that the line keeps
abbrev pub unmended_channel : ℕ → ServedChannel
unmended_channel count = record { renditions = count; mending = None; shown_us = None }

-- an encoder's rendition, whose units are mended as the channel's are
abbrev pub ingest_target : ServedChannel → ℕ → IngestTarget
ingest_target channel rendition = record { rendition = rendition; mending = channel.mending }

-- what a number after /ingest/ names: the ingest target of that rendition
abbrev pub ingest_route : ServedChannel → List ℕ → Option Route
ingest_route channel number = option_map (λ r. routes.Ingest (ingest_target channel r)) (rendition_in channel.renditions number)

-- what a path in /ingest/, /finish/, /live/, /media/ or /job/ names
abbrev pub own_folder_route : ServedChannel → List ℕ → Option Route
own_folder_route channel path =
    or_else (without_prefix (codes "/ingest/") path) (ingest_route channel)
    (or_else (without_prefix (codes "/finish/") path) (λ number. option_map routes.Finish (rendition_in channel.renditions number))
    (or_else (without_prefix (codes "/live/") path) (live_route channel.renditions)
    (or_else (without_prefix (codes "/media/") path) (numbered_route (codes ".mp4") routes.Media channel.renditions)
    (option_and_then (job_route channel.renditions) (without_prefix (codes "/job/") path)))))

-- what a path in a folder names
abbrev pub folder_route : ServedChannel → List ℕ → Option Route
folder_route channel path =
    or_else (without_prefix (codes "/hls/") path) (player_route channel)
    (own_folder_route channel path)

-- what a path names in a channel; paths aren't percent-decoded
abbrev pub route_of : ServedChannel → List ℕ → Option Route
route_of channel path =
    cond (bytes_eq path (codes "/status")) (Some routes.Status)
    (cond (bytes_eq path (codes "/metrics")) (Some routes.Metrics)
    (cond (bytes_eq path (codes "/catchup")) (Some routes.CatchUp) (folder_route channel path)))

-- ---- methods

-- whether the method is GET or HEAD
abbrev pub is_read : Method → Bool
is_read Get = true
is_read Head = true
is_read _ = false

-- whether the method is POST
abbrev pub is_post : Method → Bool
is_post Post = true
is_post _ = false

-- whether the method is PUT or POST
abbrev pub is_sent : Method → Bool
is_sent Put = true
is_sent Post = true
is_sent _ = false

-- whether the method is GET, HEAD or DELETE
abbrev pub is_read_or_deleted : Method → Bool
is_read_or_deleted Get = true
is_read_or_deleted Head = true
is_read_or_deleted Delete = true
is_read_or_deleted _ = false

-- the methods that a route allows: one that can't be sent to or deleted can only be read
abbrev pub allows : Route → Method → Bool
allows (routes.Ingest r) method = is_sent method
allows (routes.Finish r) method = is_post method
allows routes.CatchUp method = is_post method
allows (routes.Job id) method = is_read_or_deleted method
allows route method = is_read method

-- the methods that have a name of their own, and that name
abbrev pub named_methods : List (Method × List ℕ)
named_methods = (Get, codes "GET") ∷ (Head, codes "HEAD") ∷ (Put, codes "PUT") ∷ (Post, codes "POST") ∷ (Delete, codes "DELETE") ∷ []

-- the names of the methods that a route allows, in this order (RFC 9110, section 10.2.1), as a list (section 5.6.1)
abbrev pub methods_of : Route → List ℕ
methods_of route = join_by (λ named. named.1) (codes ", ") (filter (λ named. allows route named.0) named_methods)

-- whether a request with this route and method removes its job
abbrev pub removes_job : Route → Method → Bool
removes_job (routes.Job id) Delete = true
removes_job route method = false

-- whether the body of a request with this route and method is ingested in parts
abbrev pub takes_ingest : Option Route → Method → Bool
takes_ingest (Some (routes.Ingest r)) method = is_sent method
takes_ingest route method = false

-- whether the method is HEAD
abbrev pub is_to_head : Method → Bool
is_to_head Head = true
is_to_head _ = false

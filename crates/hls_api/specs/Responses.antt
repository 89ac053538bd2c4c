-- The replies: refusals, and how a state is shown.
use Rattle.std.specs.Prelude.{ℕ, ◌+◌, ◌-◌, Bool, cond, List, [], ◌∷◌, ◌++◌, length, drop, map, replicate, take, Option, Some, None, option_and_then, option_map, Result, Ok, Err, codes}
use Rattle.std.specs.Fmt.{decimal}
use Rattle.hls_http.specs.{declared.range_spec.RangeSelection.RangeSelection, declared.response_parts.ContentType.ContentType, declared.response_parts.ExtraField.ExtraField, Range.range_selection}
use Rattle.hls_http.specs.declared.response_parts.Status.TheVariants.{Done, PartialContent}
use Rattle.hls_http.specs.declared.response_parts.ContentType.TheVariants.{Text, Media, Playlist}
use Rattle.hls_http.specs.declared.response_parts.CachePolicy.{CachePolicy}
use Rattle.hls_http.specs.declared.response_parts.CachePolicy.TheVariants.{Unstated}
use Rattle.hls_http.specs.declared.response_parts.ExtraField.TheVariants.{Nothing, Range, NoRange}
use Rattle.hls_http.specs.ResponseText.{fault_name, fault_status, status_line, content_lines, extra_line, policy_lines, close_line, crlf, refusal_body}
use Rattle.hls_record.specs.RecordingData.{RecordingData, bytes_of, total_of, range_of}
use Rattle.hls_places_laws.specs.Line.Live.{segments_of}
use Rattle.hls_core_laws.specs.{Base.bytes_before_base, Line.line, Places.kept_places}
use Rattle.hls_core.specs.Getters.{recording_of}
use Rattle.hls_catchup.specs.Jobs.JobLine.{served_version}
use Rattle.hls_metrics.specs.{declared.measured.Measured.Measured, Metrics.metrics_text}
use Rattle.hls_api.specs.{Faults.core_status, Routes.methods_of, Types.{HttpFault, RangeSpec, Status, Refusal, State, Done as Moved, Route}}
use Rattle.hls_http.specs.declared.fault.HttpFault.TheVariants as http
use Rattle.hls_http.specs.declared.range_spec.RangeSelection.TheVariants as parts
use Rattle.hls_core_laws.specs.RefusalName as core_names
use Rattle.hls_core_laws.specs.declared.done.Done.TheVariants as moved

-- a reply without its `Connection` field: its status, the type of its body, the one optional field, what caches may do with it, and its
-- body
pub record ResponseData : Type 0 where
  pub status : Status
  pub kind : ContentType
  pub field : List ℕ
  pub policy : CachePolicy
  pub body : List ℕ

-- a reply as text: the head, with Connection: close if it is closing, and the body, which a reply to HEAD lacks
abbrev pub answer_text : ResponseData → Bool → Bool → List ℕ
answer_text a closing to_head =
    (status_line a.status ++ (content_lines a.status a.kind (length a.body) ++ (a.field ++ (policy_lines a.policy ++ (close_line closing ++ crlf))))) ++ cond to_head [] a.body

-- a text reply with this field in its head
abbrev pub text_with : List ℕ → Status → List ℕ → ResponseData
text_with field status body = record { status = status; kind = Text; field = field; policy = Unstated; body = body }

-- a text reply without an optional field
abbrev pub text_answer : Status → List ℕ → ResponseData
text_answer status body = text_with [] status body

-- ---- refusals

-- the reply to a fault of the request: its status and its name, with this field in the head
abbrev pub fault_with : List ℕ → HttpFault → ResponseData
fault_with field fault = text_with field (fault_status fault) (refusal_body (fault_name fault))

-- the reply to a fault of the request: its status and its name
abbrev pub fault_answer : HttpFault → ResponseData
fault_answer fault = fault_with [] fault

-- a known path that doesn't allow the method (RFC 9110, section 15.5.6)
abbrev pub method_answer : Route → ResponseData
method_answer route = fault_with (codes "Allow: " ++ (methods_of route ++ crlf)) http.BadMethod

-- ---- the end of a rendition

-- the reply to the end of a rendition: finished, repeated, or refused with the refusal's name
abbrev pub finish_answer : Result Moved Refusal → ResponseData
finish_answer (Ok (moved.New version)) = text_answer Done (codes "finished\n")
finish_answer (Ok moved.Repeat) = text_answer Done (codes "repeated\n")
finish_answer (Err refusal_) = text_answer (core_status refusal_) (refusal_body (core_names.name_of refusal_))

-- ---- the status

-- a line of the status: a name, a blank and the number in decimal
abbrev pub status_row : List ℕ → ℕ → List ℕ
status_row name number = name ++ (32 ∷ (decimal number ++ 10 ∷ []))

-- log entries, kept places, live segments, segments that have slid out, and jobs. Log entries and segments that precede this process count
abbrev pub status_text : State → ℕ → List ℕ
status_text s jobs =
    status_row (codes "version") (served_version s)
    ++ (status_row (codes "places") (length (kept_places s))
    ++ (status_row (codes "segments") (length (segments_of (line s)))
    ++ (status_row (codes "removed") (s.config.base.segments + (line s).removed)
    ++ status_row (codes "jobs") jobs)))

-- the reply for the status of a state and this number of jobs
abbrev pub status_answer : State → ℕ → ResponseData
status_answer s jobs = text_answer Done (status_text s jobs)

-- ---- the metrics

-- the reply for the metrics: a state, the number of jobs, and what the server measured
abbrev pub metrics_answer : State → ℕ → Measured → ResponseData
metrics_answer s jobs measured = text_answer Done (metrics_text s jobs measured)

-- ---- media

-- all bytes of a range, if each of them is available
unfoldable pub whole_range : List (Option ℕ) → Option (List ℕ)
whole_range [] = Some []
whole_range (b ∷ bytes) = option_and_then (λ first. option_map (λ others. first ∷ others) (whole_range bytes)) b

-- the reply with a part of a resource; 410 if a byte of the part is trimmed
abbrev pub media_part_answer : Status → ExtraField → Option (List ℕ) → ResponseData
media_part_answer status extra None = fault_answer http.Gone
media_part_answer status extra (Some bytes) = record { status = status; kind = Media; field = extra_line extra; policy = Unstated; body = bytes }

-- 416 for a range that has none of the resource's `total` bytes
abbrev pub outside_answer : ℕ → ResponseData
outside_answer total = fault_with (extra_line (NoRange total)) http.RangeOutside

-- the reply with the selected part of a resource, which is a function of an offset and a length and may be unavailable
abbrev pub part_answer : (ℕ → ℕ → Option (List ℕ)) → ℕ → RangeSelection → ResponseData
part_answer bytes total parts.Outside = outside_answer total
part_answer bytes total parts.Whole = media_part_answer Done Nothing (bytes 0 total)
part_answer bytes total (parts.Slice from len) = media_part_answer PartialContent (Range from (from + len - 1) total) (bytes from len)

-- a number of bytes of a rendition's resource from an offset on, if none of them is trimmed
abbrev pub media_bytes : RecordingData → ℕ → ℕ → Option (List ℕ)
media_bytes rec from len = whole_range (range_of rec from (from + len))

-- a rendition's resource byte by byte, None for a byte that isn't kept: `before` bytes of units precede the recording's units, and none of
-- them is kept
abbrev pub based_bytes : ℕ → RecordingData → List (Option ℕ)
based_bytes before rec = map Some rec.head ++ replicate before None ++ drop (length rec.head) (bytes_of rec)

-- `len` bytes of such a resource from offset `from` on, if all of them are kept
abbrev pub based_media_bytes : ℕ → RecordingData → ℕ → ℕ → Option (List ℕ)
based_media_bytes before rec from len = whole_range (take len (drop from (based_bytes before rec)))

-- the reply with a rendition's resource, its init section and all its units, or with a range of it; 404 before the init section
abbrev pub recording_answer : ℕ → Option RecordingData → RangeSpec → ResponseData
recording_answer before None range = fault_answer http.NotFound
recording_answer before (Some rec) range =
    part_answer (based_media_bytes before rec) (before + total_of rec) (range_selection range (before + total_of rec))

-- the reply for the resource of rendition r in a state: everything that was recorded of it, or the requested range
abbrev pub media_answer : State → ℕ → RangeSpec → ResponseData
media_answer s r range = recording_answer (bytes_before_base s.config.base r) (recording_of s r) range

-- ---- playlists

-- the reply with a playlist's text
abbrev pub playlist_answer : List ℕ → ResponseData
playlist_answer text = record { status = Done; kind = Playlist; field = []; policy = Unstated; body = text }

-- a missing playlist, such as a live one before a segment was closed, is not found
abbrev pub list_answer : Option (List ℕ) → ResponseData
list_answer None = fault_answer http.NotFound
list_answer (Some text) = playlist_answer text

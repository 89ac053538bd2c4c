-- The body of a response: a text or the resource of a rendition, each in slices; or a text that is partly written.
use Rattle.std.specs.Prelude.{◌≡◌, ℕ, ◌+◌, ◌-◌, ◌≤◌, min, max, List, [], ◌∷◌, length, take, drop, Option, Some, None, option_and_then}
use Rattle.std.specs.List.{concat}
use Rattle.hls_record.specs.RecordingData.{RecordingData, offset_at}
use Rattle.hls_core_laws.specs.Base.{bytes_before_base}
use Rattle.hls_core_laws.specs.State.{State}
use Rattle.hls_core.specs.Getters.{recording_of}
use Rattle.hls_http.specs.{declared.range_spec.RangeSpec.RangeSpec, declared.range_spec.RangeSelection.TheVariants.Outside, Range.range_selection, ResponseText.extra_line}
use Rattle.hls_playlists_laws.specs.JobResource.{units_between}
use Rattle.hls_io.specs.Slices.{part_at, rest_at}
use Rattle.hls_api.specs.Responses.{ResponseData, based_media_bytes, media_bytes, media_part_answer, part_answer}
use Rattle.hls_api.specs.{declared.media_responses.MediaResource.MediaResource, declared.media_responses.MediaRange.MediaRange}
use Rattle.hls_api.specs.{declared.response_body.ResponseBody.ResponseBody, declared.response_content.ResponseContent.ResponseContent}
use Rattle.hls_api.specs.declared.response.Response.TheInside.{Inside}
use Rattle.hls_api.specs.declared.response_body.ResponseBody.TheVariants as bodies
use Rattle.hls_api.specs.declared.response_content.ResponseContent.TheVariants as contents

-- a position in slices, as a slice's number and an offset, from which on `len` bytes are those from byte `at` of the joined slices
pub record IsPositionFor (slices : List (List ℕ)) (at len : ℕ) (place : ℕ × ℕ) : Type 0 where
  pub there : len ≤ length (rest_at slices place.0 place.1)
  pub is : part_at slices place.0 place.1 len ≡ take len (drop at (concat slices))
  pub back : place.1 ≤ at

-- ---- a rendition

-- a rendition's init section, and the kept ones of the units from number `first` to the one before `end`
abbrev pub slices_between : Option RecordingData → ℕ → ℕ → List (List ℕ)
slices_between None first end = []
slices_between (Some rec) first end = rec.head ∷ units_between rec.floor rec.units (max first rec.floor) end

-- the slices of a media resource: the rendition's init section and the kept ones of the resource's units, as its snapshot has them
abbrev pub media_slices : MediaResource → List (List ℕ)
media_slices m = slices_between (recording_of m.snapshot.value m.rendition) m.first m.end

-- the slices of a whole recording: its init section and all kept units
abbrev pub kept_slices : RecordingData → List (List ℕ)
kept_slices rec = slices_between (Some rec) 0 (length rec.facts)

-- the offset of an untrimmed byte among the untrimmed ones: in the init section and the kept units
abbrev pub kept_offset : RecordingData → ℕ → ℕ
kept_offset rec at = min at (length rec.head) + (at - max (length rec.head) (offset_at rec rec.floor))

-- `len` bytes from an offset on, if none of them is trimmed
abbrev pub kept_range_bytes : State → ℕ → ℕ → ℕ → Option (List ℕ)
kept_range_bytes s r from len = option_and_then (λ rec. media_bytes rec from len) (recording_of s r)

-- the same of its resource, with the bytes that precede the recording
abbrev pub based_range_bytes : State → ℕ → ℕ → ℕ → Option (List ℕ)
based_range_bytes s r from len = option_and_then (λ rec. based_media_bytes (bytes_before_base s.config.base r) rec from len) (recording_of s r)

-- where a byte of the resource is in the recording, if it isn't one of the `before` bytes that precede its units
abbrev pub own_offset : ℕ → RecordingData → ℕ → ℕ
own_offset before rec at = min at (length rec.head) + (at - (length rec.head + before))

-- ---- a response

-- this piece of a resource of `total` bytes is the requested part, for any function that returns the resource's bytes
pub record IsMediaRange (asked : RangeSpec) (total : ℕ) (piece : MediaRange) : Type 0 where
  pub within : piece.from + piece.len ≤ total
  pub shown : (bytes : ℕ → ℕ → Option (List ℕ))
      → media_part_answer piece.status piece.extra (bytes piece.from piece.len) ≡ part_answer bytes total (range_selection asked total)

-- the piece is the requested part of a resource of `total` bytes; none if the request is for no byte of it
abbrev pub IsMediaRangeFor : RangeSpec → ℕ → Option MediaRange → Type 0
IsMediaRangeFor asked total None = range_selection asked total ≡ Outside
IsMediaRangeFor asked total (Some piece) = IsMediaRange asked total piece

-- the slices of a response's body: one for a text, and those of the resource for media
abbrev pub slices_of : ResponseBody → List (List ℕ)
slices_of (bodies.Text text) = text.items ∷ []
slices_of (bodies.Shared text) = text ∷ []
slices_of (bodies.Media resource) = media_slices resource

-- the content of a response's body: its media, or the whole text of one that is partly written
abbrev pub content_of : ResponseContent → List ℕ
content_of (contents.Whole media) = media
content_of (contents.List text) = text
content_of (contents.Certificate text) = text

-- the reply that a response is: its status, fields and cache policy, and the content of its body
abbrev pub model_of : Inside → ResponseData
model_of a = record { status = a.status; kind = a.kind; field = extra_line a.extra; policy = a.policy; body = content_of a.body }

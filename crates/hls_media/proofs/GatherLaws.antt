-- A walk over the boxes of a `moov`, one box at a time.
use Rattle.std.proofs.Common.{◌≡◌, ℕ, ◌+◌, ◌-◌, ◌≤◌, ◌==◌, true, false, cond, List, [], ◌∷◌, length, drop, slice_range, Option, Some, None, IfSome, is_some, option_and_then, refl, ◌∙◌, ap}
use Rattle.std.proofs.lemmas.List.{length-append}
use Rattle.std.specs.Option.{option_or}
use Rattle.hls_boxes.specs.declared.box_header.BoxHeader.{BoxHeader}
use Rattle.hls_media_laws.specs.Kinds.{trak_type, mvex_type}
use Rattle.hls_media_laws.specs.declared.track.Track.{Track}
use Rattle.hls_media_laws.specs.Inits.{track_at}
use Rattle.hls_media.specs.declared.moov.ByteSpan.{ByteSpan}
use Rattle.hls_media.specs.MoovSteps.{MoovContents, AddsTrack, with_track, moov_step, contents_with}
use Rattle.hls_media.proofs.UnitLaws.{slice-of-drop}

-- a track that the code added is added to what was collected
added-true : (s : MoovContents) (o : Option Track) (ids : List ℕ) (tracks : List Track) → AddsTrack true o s.ids s.tracks ids tracks → option_and_then (with_track s) o ≡ Some (record s { ids = ids; tracks = tracks })
added-true s None ids tracks added = absurd added
added-true s (Some t) ids tracks added = rw (added.0, added.1, added.2) refl

-- if the code didn't add a track, it is invalid or its number occurred before
added-false : (s : MoovContents) (o : Option Track) (ids : List ℕ) (tracks : List Track) → AddsTrack false o s.ids s.tracks ids tracks → option_and_then (with_track s) o ≡ None
added-false s None ids tracks added = refl
added-false s (Some t) ids tracks added = rw added refl

-- adding a track adds one number
pub added-len : (o : Option Track) (ids : List ℕ) (tracks : List Track) (new_ids : List ℕ) (new_tracks : List Track) → AddsTrack true o ids tracks new_ids new_tracks → length new_ids ≡ length ids + 1
added-len None ids tracks new_ids new_tracks added = absurd added
added-len (Some t) ids tracks new_ids new_tracks added = ap length added.1 ∙ length-append ids (t.id ∷ [])

-- a step at a `trak` whose track was added gives the new numbers and tracks
pub visitor-trak : (moov ids : List ℕ) (tracks : List Track) (mvex : Option ByteSpan) (rest : List ℕ) (h : BoxHeader) (new_ids : List ℕ) (new_tracks : List Track) → h.kind ≡ trak_type → AddsTrack true (track_at (slice_range rest h.head h.size)) ids tracks new_ids new_tracks
    → moov_step (contents_with moov ids tracks mvex) h.kind (slice_range rest h.head h.size) ≡ Some (contents_with moov new_ids new_tracks mvex)
visitor-trak moov ids tracks mvex rest h new_ids new_tracks kind added =
    rw kind (added-true (contents_with moov ids tracks mvex) (track_at (slice_range rest h.head h.size)) new_ids new_tracks added)

-- a step at a `trak` whose track wasn't added fails
pub visitor-trak-bad : (moov ids : List ℕ) (tracks : List Track) (mvex : Option ByteSpan) (rest : List ℕ) (h : BoxHeader) (new_ids : List ℕ) (new_tracks : List Track) → h.kind ≡ trak_type → AddsTrack false (track_at (slice_range rest h.head h.size)) ids tracks new_ids new_tracks
    → moov_step (contents_with moov ids tracks mvex) h.kind (slice_range rest h.head h.size) ≡ None
visitor-trak-bad moov ids tracks mvex rest h new_ids new_tracks kind added =
    rw kind (added-false (contents_with moov ids tracks mvex) (track_at (slice_range rest h.head h.size)) new_ids new_tracks added)

-- keeping the content of an `mvex` unless one was kept is keeping its range unless one was kept
first_mvex : (moov ids : List ℕ) (tracks : List Track) (mvex : Option ByteSpan) (span : ByteSpan) (content : List ℕ) → content ≡ slice_range moov span.from span.to
    → cond (is_some (contents_with moov ids tracks mvex).mvex) (Some (contents_with moov ids tracks mvex)) (Some (record { ids = ids; tracks = tracks; mvex = Some content })) ≡ Some (contents_with moov ids tracks (option_or mvex (Some span)))
first_mvex moov ids tracks None span content is = rw is refl
first_mvex moov ids tracks (Some m) span content is = refl

-- a step at an `mvex` keeps its range, unless one was kept before
pub visitor-mvex : (moov ids : List ℕ) (tracks : List Track) (mvex : Option ByteSpan) (rest : List ℕ) (h : BoxHeader) → h.kind ≡ mvex_type → rest ≡ drop (length moov - length rest) moov
    → moov_step (contents_with moov ids tracks mvex) h.kind (slice_range rest h.head h.size) ≡ Some (contents_with moov ids tracks (option_or mvex (Some (record { from = length moov - length rest + h.head; to = length moov - length rest + h.size }))))
visitor-mvex moov ids tracks mvex rest h kind rest_is =
    rw kind (first_mvex moov ids tracks mvex (record { from = length moov - length rest + h.head; to = length moov - length rest + h.size }) (slice_range rest h.head h.size) (slice-of-drop moov rest (length moov - length rest) h.head h.size rest_is))

-- a step at a box that is neither `trak` nor `mvex` changes nothing
pub visitor-other : (moov ids : List ℕ) (tracks : List Track) (mvex : Option ByteSpan) (rest : List ℕ) (h : BoxHeader) → (h.kind == trak_type) ≡ false → (h.kind == mvex_type) ≡ false → moov_step (contents_with moov ids tracks mvex) h.kind (slice_range rest h.head h.size) ≡ Some (contents_with moov ids tracks mvex)
visitor-other moov ids tracks mvex rest h trak mvex_box = rw (trak, mvex_box) refl

-- if the kept range and the new one are both within the bytes, so is the first of them
pub span-within : (mvex : Option ByteSpan) (span : ByteSpan) (len : ℕ) → IfSome mvex (λ s. (s.from ≤ s.to) × (s.to ≤ len)) → span.from ≤ span.to → span.to ≤ len → IfSome (option_or mvex (Some span)) (λ s. (s.from ≤ s.to) × (s.to ≤ len))
span-within None span len before order fits = (order, fits)
span-within (Some m) span len before order fits = before

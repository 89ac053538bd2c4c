-- What the code collects from a `moov`, box by box.
-- For the proofs of this crate; no public clause cites it.
use Rattle.std.specs.Prelude.{Bool, true, false, ◌≡◌, ℕ, ◌-◌, ◌*◌, ◌≤◌, ◌==◌, if◌then◌else◌, Option, Some, None, IfSome, is_some, option_map, option_and_then, List, [], ◌∷◌, ◌++◌, length, drop, slice_range}
use Rattle.std.specs.List.{list_any}
use Rattle.hls_media_laws.specs.Kinds.{trak_type, mvex_type}
use Rattle.hls_media_laws.specs.declared.track.Track.{Track}
use Rattle.hls_media_laws.specs.Inits.{track_at}
use Rattle.hls_media.specs.declared.moov.ByteSpan.{ByteSpan}
use Rattle.hls_media.specs.Folds.{fold_content}
use Rattle.hls_media.specs.TrexSteps.{first_eight}

-- the numbers of all tracks, the first eight tracks, and the content of the first `mvex`
pub record MoovContents : Type 0 where
  pub ids : List ℕ
  pub tracks : List Track
  pub mvex : Option (List ℕ)

-- the contents of a `moov` before its first box
abbrev pub no_contents : MoovContents
no_contents = record { ids = []; tracks = []; mvex = None }

-- the contents with one more track, unless its number occurred before
abbrev pub with_track : MoovContents → Track → Option MoovContents
with_track s t = if list_any (λ (m : ℕ). m == t.id) s.ids then None else Some (record s { ids = s.ids ++ t.id ∷ []; tracks = first_eight s.tracks t })

-- whether a track was added to these lists, and their new values
abbrev pub AddsTrack : Bool → Option Track → List ℕ → List Track → List ℕ → List Track → Type 0
AddsTrack true None ids tracks new_ids new_tracks = ⊥
AddsTrack true (Some t) ids tracks new_ids new_tracks = (list_any (λ (m : ℕ). m == t.id) ids ≡ false) × (new_ids ≡ ids ++ t.id ∷ []) × (new_tracks ≡ first_eight tracks t)
AddsTrack false None ids tracks new_ids new_tracks = Unit {0}
AddsTrack false (Some t) ids tracks new_ids new_tracks = list_any (λ (m : ℕ). m == t.id) ids ≡ true

-- one step of the walk over a `moov`: a `trak` adds its track if it is valid and new, and the first `mvex` is kept
abbrev pub moov_step : MoovContents → ℕ → List ℕ → Option MoovContents
moov_step s kind content =
    if kind == trak_type then option_and_then (with_track s) (track_at content)
    else (if kind == mvex_type then (if is_some s.mvex then Some s else Some (record s { mvex = Some content }))
    else Some s)

-- whether these are the numbers of all tracks, and the result is the tracks if they are at most eight
abbrev pub AreTracks : Option (List Track) → Option (List Track) → List ℕ → Type 0
AreTracks (Some tracks) None ids = ⊥
AreTracks (Some tracks) (Some ts) ids = (length ids ≡ length ts) × (length ts ≤ 8 → tracks ≡ ts)
AreTracks None None ids = Unit {0}
AreTracks None (Some ts) ids = ⊥

-- what was collected of a `moov`: these numbers and tracks, and the content of the `mvex` in this range
abbrev pub contents_with : List ℕ → List ℕ → List Track → Option ByteSpan → MoovContents
contents_with moov ids tracks mvex = record { ids = ids; tracks = tracks; mvex = option_map (λ (s : ByteSpan). slice_range moov s.from s.to) mvex }

-- the boxes before the rest of a `moov` were collected: walking on from there over the rest gives what walking over the whole gives,
-- and each track had at least 64 bytes
pub record HasCollectedTracks (moov : List ℕ) (ids : List ℕ) (tracks : List Track) (mvex : Option ByteSpan) (rest : List ℕ) : Type 0 where
  pub value : fold_content moov_step Some no_contents moov ≡ fold_content moov_step Some (contents_with moov ids tracks mvex) rest
  pub room : length ids * 64 ≤ length moov - length rest
  pub within : length rest ≤ length moov
  pub rest_is : rest ≡ drop (length moov - length rest) moov
  pub mvex_is : IfSome mvex (λ s. (s.from ≤ s.to) × (s.to ≤ length moov))

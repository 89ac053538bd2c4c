-- Setting the defaults of tracks, one `trex` after another.
-- For the proofs of this crate; no public clause cites it.
use Rattle.std.specs.Prelude.{ℕ, ◌==◌, nat_lt, ◌&&◌, if◌then◌else◌, Option, Some, is_none, option_map, List, [], ◌∷◌, ◌++◌, length, map}
use Rattle.hls_media_laws.specs.Kinds.{trex_type}
use Rattle.hls_media_laws.specs.declared.track.Track.{Track}
use Rattle.hls_media_laws.specs.declared.track.Trex.{Trex}
use Rattle.hls_media_laws.specs.Inits.{trex_at}

-- a track after a `trex`: it gets the defaults if they are for it and it doesn't have some from an earlier one
abbrev pub track_with_defaults : Trex → Track → Track
track_with_defaults x t = if x.id == t.id && is_none t.defaults then record t { defaults = Some x.defaults } else t

-- one step of the walk over an `mvex`: a `trex` sets its track's defaults if it is valid, and other boxes are skipped
abbrev pub trex_step : List Track → ℕ → List ℕ → Option (List Track)
trex_step ts kind content = if kind == trex_type then option_map (λ (x : Trex). map (track_with_defaults x) ts) (trex_at content) else Some ts

-- the tracks with one more; the first eight are kept
abbrev pub first_eight : List Track → Track → List Track
first_eight ts t = if nat_lt (length ts) 8 then ts ++ t ∷ [] else ts

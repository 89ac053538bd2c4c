-- A walk that keeps a value of the first box of each of two types.
-- For the proofs of this crate; no public clause cites it.
use Rattle.std.specs.Prelude.{ℕ, ◌+◌, ◌==◌, if◌then◌else◌, Option, Some, is_some, option_map, List}
use Rattle.hls_media_laws.specs.Kinds.{mdhd_type, hdlr_type, tkhd_type, mdia_type}
use Rattle.hls_media_laws.specs.declared.track.Mdia.{Mdia}
use Rattle.hls_media_laws.specs.declared.track.Track.{Track}
use Rattle.hls_media_laws.specs.Inits.{versioned_field, handler_field, media_from, media_of, track_from}

-- the values of the first box of each of the two types, if there was one
abbrev pub Firsts : Type 0 → Type 0 → Type 0
Firsts X Y = Option X × Option Y

-- one step of the walk: f of the first box of type `one` and g of the first of type `two` are kept, and other boxes are skipped;
-- None if such a value doesn't exist
abbrev pub first_step : {X Y : Type 0} → (List ℕ → Option X) → (List ℕ → Option Y) → ℕ → ℕ → Firsts X Y → ℕ → List ℕ → Option (Firsts X Y)
first_step f g one two s kind content =
    if kind == one then (if is_some s.0 then Some s else option_map (λ v. (Some v, s.1)) (f content))
    else (if kind == two then (if is_some s.1 then Some s else option_map (λ v. (s.0, Some v)) (g content))
    else Some s)

-- the result of both values, each missing if there was no box of its type
abbrev pub from_both : {X Y R : Type 0} → (Option X → Option Y → Option R) → Firsts X Y → Option R
from_both combine s = combine s.0 s.1

-- the minimum number of bytes of the boxes whose values were kept: `a` for the first type, `b` for the second
abbrev pub weight : {X Y : Type 0} → ℕ → ℕ → Firsts X Y → ℕ
weight a b s = (if is_some s.0 then a else 0) + (if is_some s.1 then b else 0)

-- one step of the walk over an `mdia`: the timescale of its first `mdhd` and the handler of its first `hdlr` are kept
abbrev pub media_step : Firsts ℕ ℕ → ℕ → List ℕ → Option (Firsts ℕ ℕ)
media_step s kind content = first_step versioned_field handler_field mdhd_type hdlr_type s kind content

-- the media of an `mdia`, if both values were kept
abbrev pub whole_media : Firsts ℕ ℕ → Option Mdia
whole_media s = from_both media_from s

-- the minimum number of bytes of the kept boxes of an `mdia`: 24 of an `mdhd` and 20 of an `hdlr`
abbrev pub media_weight : Firsts ℕ ℕ → ℕ
media_weight s = weight 24 20 s

-- one step of the walk over a `trak`: the number in its first `tkhd` and the media of its first `mdia` are kept
abbrev pub track_step : Firsts ℕ Mdia → ℕ → List ℕ → Option (Firsts ℕ Mdia)
track_step s kind content = first_step versioned_field media_of tkhd_type mdia_type s kind content

-- the track of a `trak`, if both values were kept
abbrev pub whole_track : Firsts ℕ Mdia → Option Track
whole_track s = from_both track_from s

-- the minimum number of bytes of the kept boxes of a `trak`: 24 of a `tkhd` and 52 of an `mdia`
abbrev pub track_weight : Firsts ℕ Mdia → ℕ
track_weight s = weight 24 52 s

-- The results of walks over an `mdia` and a `trak`.
use Rattle.std.proofs.Common.{◌≡◌, ℕ, List, Option, Some, None, option_and_then, refl, ◌∙◌}
use Rattle.hls_media_laws.specs.Kinds.{mdhd_type, hdlr_type, tkhd_type, mdia_type}
use Rattle.hls_media_laws.specs.declared.track.Mdia.{Mdia}
use Rattle.hls_media_laws.specs.Inits.{versioned_field, handler_field, media_from, media_of, track_from, track_at}
use Rattle.hls_media.specs.Folds.{fold_content}
use Rattle.hls_media.specs.FirstBoxes.{media_step, whole_media, track_step, whole_track}
use Rattle.hls_media.proofs.Overs.{over-finish}
use Rattle.hls_media.proofs.FirstLaws.{over-firsts}

-- without a timescale or a handler there is no media, and without a number or media no track
no_scale : (handler : Option ℕ) → media_from None handler ≡ None
no_scale handler = refl

no_handler : (scale : Option ℕ) → media_from scale None ≡ None
no_handler None = refl
no_handler (Some s) = refl

no_id : (media : Option Mdia) → track_from None media ≡ None
no_id media = refl

no_media : (id : Option ℕ) → track_from id None ≡ None
no_media None = refl
no_media (Some i) = refl

-- a walk over the boxes of an `mdia` gives its media
pub over-media_of : (content : List ℕ) → option_and_then whole_media (fold_content media_step Some (None, None) content) ≡ media_of content
unfolding media_of
over-media_of content =
    over-finish media_step whole_media (None, None) content
    ∙ over-firsts versioned_field handler_field mdhd_type hdlr_type media_from refl no_scale no_handler content

-- a walk over the boxes of a `trak` gives its track, still without defaults
pub over-track_at : (content : List ℕ) → option_and_then whole_track (fold_content track_step Some (None, None) content) ≡ track_at content
unfolding track_at
over-track_at content =
    over-finish track_step whole_track (None, None) content
    ∙ over-firsts versioned_field media_of tkhd_type mdia_type track_from refl no_id no_media content

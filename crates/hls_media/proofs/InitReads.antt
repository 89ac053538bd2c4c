-- An init section from the tracks of its `moov`.
use Rattle.std.proofs.Common.{◌≡◌, ℕ, ◌<◌, ◌≤◌, ◌==◌, nat_lt, true, false, List, length, Option, Some, None, option_and_then, Err, refl, sym, ◌∙◌, ap, arith}
use Rattle.std.proofs.lemmas.Bool.{lt-ltb, eq-eqb, ne_eqb}
use Rattle.hls_media_laws.specs.Kinds.{max_tracks}
use Rattle.hls_media_laws.specs.declared.track.Track.{Track}
use Rattle.hls_media_laws.specs.declared.fault.MediaFault.TheVariants as faults
use Rattle.hls_media_laws.specs.Layout.{moov_of}
use Rattle.hls_media_laws.specs.Inits.{init_of, init_of_tracks, tracks_of}
use Rattle.hls_media.specs.MoovSteps.{AreTracks}

-- bytes without a `moov` are refused as `BadBox`
pub init-unread : (bytes : List ℕ) → None ≡ moov_of bytes → init_of bytes ≡ Err faults.BadBox
unfolding init_of
init-unread bytes none = ap (λ (m : Option (List ℕ)). init_of_tracks (option_and_then tracks_of m)) (sym none)

-- an init section is read from the tracks of its `moov`
init-moov : (bytes moov : List ℕ) → Some moov ≡ moov_of bytes → init_of bytes ≡ init_of_tracks (tracks_of moov)
unfolding init_of
init-moov bytes moov some = ap (λ (m : Option (List ℕ)). init_of_tracks (option_and_then tracks_of m)) (sym some)

-- tracks that weren't read are refused as `BadBox`
bad : (o : Option (List Track)) (ids : List ℕ) → AreTracks None o ids → init_of_tracks o ≡ Err faults.BadBox
bad None ids are = refl
bad (Some ts) ids are = absurd are

-- an init section whose tracks aren't valid is refused as `BadBox`
pub init-bad : (bytes moov ids : List ℕ) → Some moov ≡ moov_of bytes → AreTracks None (tracks_of moov) ids → init_of bytes ≡ Err faults.BadBox
init-bad bytes moov ids some are = init-moov bytes moov some ∙ bad (tracks_of moov) ids are

-- if no number of a track was collected, the tracks are refused as `NoTrack`
empty : (o : Option (List Track)) (ids : List ℕ) (tracks : List Track) → AreTracks (Some tracks) o ids → length ids ≡ 0 → init_of_tracks o ≡ Err faults.NoTrack
empty None ids tracks are none = absurd are
empty (Some ts) ids tracks are none = let e : (length ts == 0) ≡ true = eq-eqb (length ts) 0 (sym are.0 ∙ none) in rw e refl

-- an init section in which no track's number was collected is refused as `NoTrack`
pub init-empty : (bytes moov ids : List ℕ) (tracks : List Track) → Some moov ≡ moov_of bytes → AreTracks (Some tracks) (tracks_of moov) ids → length ids ≡ 0 → init_of bytes ≡ Err faults.NoTrack
init-empty bytes moov ids tracks some are none = init-moov bytes moov some ∙ empty (tracks_of moov) ids tracks are none

-- if more than eight numbers of tracks were collected, the tracks are refused as `TooManyTracks`
many : (o : Option (List Track)) (ids : List ℕ) (tracks : List Track) → AreTracks (Some tracks) o ids → max_tracks < length ids → init_of_tracks o ≡ Err faults.TooManyTracks
many None ids tracks are more = absurd are
many (Some ts) ids tracks are more =
    let some : (length ts == 0) ≡ false = ne_eqb (length ts) 0 (λ e. omega (arith, e, are.0, more)) in
    let past : nat_lt max_tracks (length ts) ≡ true = lt-ltb max_tracks (length ts) (omega (arith, are.0, more)) in
    rw (some, past) refl

-- an init section in which more than eight tracks' numbers were collected is refused as `TooManyTracks`
pub init-many : (bytes moov ids : List ℕ) (tracks : List Track) → Some moov ≡ moov_of bytes → AreTracks (Some tracks) (tracks_of moov) ids → max_tracks < length ids → init_of bytes ≡ Err faults.TooManyTracks
init-many bytes moov ids tracks some are more = init-moov bytes moov some ∙ many (tracks_of moov) ids tracks are more

-- up to eight tracks were all collected, so they are read like the tracks of the `moov`
few_tracks : (o : Option (List Track)) (ids : List ℕ) (tracks : List Track) → AreTracks (Some tracks) o ids → length ids ≤ max_tracks → (init_of_tracks o ≡ init_of_tracks (Some tracks)) × (length tracks ≡ length ids)
few_tracks None ids tracks are few = absurd are
few_tracks (Some ts) ids tracks are few =
    let same : tracks ≡ ts = are.1 (omega (arith, are.0, few)) in
    (ap (λ (ts : List Track). init_of_tracks (Some ts)) (sym same), ap length same ∙ sym are.0)

-- an init section with at most eight tracks is read from the tracks that were collected, one for each number
pub init-few : (bytes moov ids : List ℕ) (tracks : List Track) → Some moov ≡ moov_of bytes → AreTracks (Some tracks) (tracks_of moov) ids → length ids ≤ max_tracks → (init_of bytes ≡ init_of_tracks (Some tracks)) × (length tracks ≡ length ids)
init-few bytes moov ids tracks some are few =
    let t : (init_of_tracks (tracks_of moov) ≡ init_of_tracks (Some tracks)) × (length tracks ≡ length ids) = few_tracks (tracks_of moov) ids tracks are few in
    (init-moov bytes moov some ∙ t.0, t.1)

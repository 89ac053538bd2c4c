-- The tracks of an init section, one by one.
use Rattle.std.proofs.Common.{◌≡◌, ℕ, zero, suc, ◌+◌, ◌-◌, ◌<◌, List, Some, None, refl, arith}
use Rattle.hls_players_master.specs.declared.tracks.KnownTracks.{KnownTracks}
use Rattle.hls_players_master.specs.Tracks.{and_track, tracks_from}

-- if no track is left, the known tracks are the result
pub tracks-end : (init : List ℕ) (left n : ℕ) (known : KnownTracks) → left ≡ 0 → Some known ≡ tracks_from init left n known
unfolding tracks_from
tracks-end init zero n known none = refl
tracks-end init (suc left) n known none = absurd (omega arith)

-- if track n isn't understood or there is one of its kind already, there is no result
pub tracks-bad : (init : List ℕ) (left n : ℕ) (known : KnownTracks) → 0 < left → and_track init n known ≡ None → None ≡ tracks_from init left n known
unfolding tracks_from
tracks-bad init zero n known some bad = absurd (omega arith)
tracks-bad init (suc left) n known some bad = rw bad refl

-- if track n is added to the known tracks, the tracks after it give the result
pub tracks-next : (init : List ℕ) (left n : ℕ) (known more : KnownTracks) → 0 < left → and_track init n known ≡ Some more
    → tracks_from init (left - 1) (n + 1) more ≡ tracks_from init left n known
unfolding tracks_from
tracks-next init zero n known more some is = absurd (omega arith)
tracks-next init (suc left) n known more some is =
    let e : suc left - 1 ≡ left = omega arith in
    let next : n + 1 ≡ suc n = omega arith in
    rw (e, next, is) refl

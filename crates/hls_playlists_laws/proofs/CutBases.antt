-- A channel with the base of a cut takes over there.
use Rattle.std.proofs.Common.{◌≡◌, ℕ, zero, suc, ◌+◌, List, [], ◌∷◌, ◌++◌, length, replicate, Some, arith, refl, sym, ap, ◌∙◌}
use Rattle.std.specs.Prelude.{slice_get, slice_index_or, ◌-◌}
use Rattle.hls_places_laws.specs.declared.place.Place.{Place}
use Rattle.hls_m3u8.specs.Playlist.{Playlist}
use Rattle.hls_core_laws.specs.Base.{BaseData, bytes_before_base, run_limit}
use Rattle.hls_core_laws.specs.Channel.{Lane}
use Rattle.hls_core_laws.specs.State.{State, channel}
use Rattle.hls_core_laws.specs.IsState.{IsState}
use Rattle.hls_playlists_laws.specs.Handovers.{IsHandedOver, bytes_before}
use Rattle.hls_playlists_laws.specs.JoinedLists.{Offsets, offsets_of}
use Rattle.hls_playlists_laws.specs.BasedLists.{offsets_after, offsets_from}
use Rattle.hls_playlists_laws.specs.CutBases.{base_of_cut, bytes_to}
use Rattle.hls_playlists_laws.specs.PathLaws.{TakesOver}

-- entry r of the bytes to a cut is the sum of the bytes before the base and those from there to the cut, in rendition k + r
bytes-at : (cut : Place) (base : BaseData) (k : ℕ) (lanes : List Lane) (rest : List ℕ) (r : ℕ) (l : Lane) → slice_get lanes r ≡ Some l →
    slice_index_or (bytes_to cut base k lanes ++ rest) r 0 ≡ bytes_before_base base (k + r) + bytes_before cut (k + r) l
bytes-at cut base k [] rest r l at = absurd (cc)
bytes-at cut base k (m ∷ lanes) rest zero l at =
    let same : m ≡ l = cc in
    let none : k ≡ k + 0 = omega arith in
    ap (λ (n : ℕ). bytes_before_base base n + bytes_before cut n m) none
    ∙ ap (λ (x : Lane). bytes_before_base base (k + 0) + bytes_before cut (k + 0) x) same
bytes-at cut base k (m ∷ lanes) rest (suc r) l at =
    let next : suc k + r ≡ k + suc r = omega arith in
    bytes-at cut base (suc k) lanes rest r l at ∙ ap (λ (n : ℕ). bytes_before_base base n + bytes_before cut n l) next

-- the base of a cut counts, in each rendition, the bytes before the state's own base and those from there to the cut
bytes-of : (a : State) (n : ℕ) (cut : Place) (r : ℕ) (l : Lane) → slice_get (channel a).lanes r ≡ Some l →
    bytes_before_base (base_of_cut a n cut) r ≡ bytes_before_base a.config.base r + bytes_before cut r l
bytes-of a n cut r l at =
    let none : 0 + r ≡ r = omega arith in
    bytes-at cut a.config.base 0 (channel a).lanes (replicate (run_limit - length (channel a).lanes) 0) r l at
    ∙ ap (λ (k : ℕ). bytes_before_base a.config.base k + bytes_before cut k l) none

-- the offsets from the base of a cut are the cut's offsets after those of the state's own base
offsets-are : (a : State) (n : ℕ) (cut : Place) (r : ℕ) (l : Lane) → slice_get (channel a).lanes r ≡ Some l →
    offsets_from (base_of_cut a n cut) r ≡ offsets_after (offsets_from a.config.base r) (offsets_of a n cut r l)
offsets-are a n cut r l at =
    let bytes = bytes-of a n cut r l at in
    let o : Offsets = offsets_after (offsets_from a.config.base r) (offsets_of a n cut r l) in
    λ k. record { segments = o.segments; marks = o.marks; marked = o.marked; bytes = bytes k }

-- a channel that continues another one at a cut, with the base of that cut, takes it over
pub cut-takes-over : (a b : State) (n : ℕ) (cut : Place) (r : ℕ) (l : Lane) → IsHandedOver a b n cut → b.config.base ≡ base_of_cut a n cut →
    slice_get (channel a).lanes r ≡ Some l → TakesOver a b n cut r l
cut-takes-over a b n cut r l over base at = record {
  over = over;
  offsets = ap (λ (x : BaseData). offsets_from x r) base ∙ offsets-are a n cut r l at;
  run = ap (λ (x : BaseData). x.run) base;
}

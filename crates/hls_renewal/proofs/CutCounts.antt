-- What precedes a cut: its bytes by rendition, and the first cut's numbers.
use Rattle.std.proofs.Common.{◌≡◌, ◌∙◌, ℕ, zero, suc, ◌+◌, ◌-◌, ◌<◌, ◌≤◌, Option, Some, None, List, [], ◌∷◌, ◌++◌, length, take, set, refl, sym, ap, arith, append_assoc, length-append}
use Rattle.std.specs.Prelude.{replicate, slice_get}
use Rattle.std.proofs.lemmas.List.{take_all, take_more, length-take, set_at, length-replicate}
use Rattle.std.proofs.Math.Seq.{take-nil}
use Rattle.std.proofs.lemmas.Option.{slice_get_within, get_or_from_slice_get}
use Rattle.hls_check_tables.specs.Tables.{spot_in}
use Rattle.hls_media_laws.specs.InitData.{InitData}
use Rattle.hls_media_laws.specs.FactLists.{total_bytes}
use Rattle.hls_record.specs.RecordingData.{RecordingData}
use Rattle.hls_places_laws.specs.declared.place.Place.{Place}
use Rattle.hls_core_laws.specs.Base.{BaseData, bytes_before_base}
use Rattle.hls_core_laws.specs.Channel.{Lane}
use Rattle.hls_core_laws.specs.State.{State, HeldBytes, channel}
use Rattle.hls_core_laws.specs.IsState.{IsState, MatchesBytes}
use Rattle.hls_core_laws.specs.Outcome.{held_bytes}
use Rattle.hls_core_laws.proofs.Callers.{at_beside, some_at}
use Rattle.hls_core.specs.Getters.{recording_of, recorded_at, recorded_from}
use Rattle.hls_playlists_laws.specs.Handovers.{bytes_before}
use Rattle.hls_playlists_laws.specs.CutBases.{bytes_to, base_of_cut}
use Rattle.hls_renewal.specs.Renewals.{units_before, units_before_in, bytes_before_cut}
use Rattle.hls_renewal.proofs.Recorded.{of_lane}

-- ---- bytes by rendition

-- the bytes of units before a place in one rendition, with those of earlier logs
abbrev pub bytes_at : Place → BaseData → ℕ → Lane → ℕ
bytes_at p base r l = bytes_before_base base r + bytes_before p r l

-- there is one count of bytes for each lane
bytes_to_long : (p : Place) (base : BaseData) (k : ℕ) (lanes : List Lane) → length (bytes_to p base k lanes) ≡ length lanes
bytes_to_long p base k [] = refl
bytes_to_long p base k (l ∷ lanes) = ap suc (bytes_to_long p base (suc k) lanes)

-- of the counts from rendition k on, number r is that of rendition k + r
bytes_to_at : (p : Place) (base : BaseData) (k r : ℕ) (lanes : List Lane) (l : Lane) → slice_get lanes r ≡ Some l → slice_get (bytes_to p base k lanes) r ≡ Some (bytes_at p base (k + r) l)
bytes_to_at p base k r [] l at = absurd (cc)
bytes_to_at p base k zero (m ∷ lanes) l at =
    let same : m ≡ l = cc in
    let none : k ≡ k + 0 = omega arith in
    ap (λ (x : Lane). Some (bytes_at p base k x)) same ∙ ap (λ n. Some (bytes_at p base n l)) none
bytes_to_at p base k (suc r) (m ∷ lanes) l at =
    let next : suc k + r ≡ k + suc r = omega arith in
    bytes_to_at p base (suc k) r lanes l at ∙ ap (λ n. Some (bytes_at p base n l)) next

-- for each rendition of a state the bytes of units before a place, with those of earlier logs
abbrev pub all_bytes : State → Place → List ℕ
all_bytes s p = bytes_to p s.config.base 0 (channel s).lanes

-- the first n of 16 counts are the bytes of the first n renditions, and the others are 0
pub record AreCounted (s : State) (p : Place) (n : ℕ) (bytes : List ℕ) : Type 0 where
  pub is : bytes ≡ take n (all_bytes s p) ++ replicate (16 - n) 0
  pub long : length bytes ≡ 16

-- if all 16 counts are 0, the bytes of no rendition are counted yet
pub none_counted : (s : State) (p : Place) (bytes : List ℕ) → bytes ≡ replicate 16 0 → AreCounted s p 0 bytes
none_counted s p bytes is = record { is = is; long = ap length is ∙ length-replicate {A = ℕ} 16 0 }

zero_more : (r : ℕ) → 0 + r ≡ r
zero_more r = omega arith

-- a list of n numbers, filled up with zeros to 16, has 16 elements
counted_long : (n k : ℕ) (xs : List ℕ) → length xs ≡ k → k ≡ n → n ≤ 16 → length (xs ++ replicate (16 - n) 0) ≡ 16
counted_long n k xs long same few = omega (arith, length-append xs (replicate (16 - n) 0), length-replicate {A = ℕ} (16 - n) 0, long, same, few)

-- a rendition without a recording has no init section
not_begun : (i : Option InitData) (l : Lane) (h : HeldBytes) → recorded_from i l h ≡ None → i ≡ None
not_begun None l h none = refl
not_begun (Some init) l h none = absurd (cc)

-- the bytes of units before a place in a rendition are the same by its recording, which may be missing, and by its lane
counted_in : (s : State) (p : Place) (r : ℕ) (l : Lane) (o : Option RecordingData) → IsState s → slice_get (channel s).lanes r ≡ Some l → recording_of s r ≡ o
    → units_before_in (bytes_before_base s.config.base r) o (spot_in p.spots r).fragment ≡ bytes_at p s.config.base r l
counted_in s p r l (Some rec) state at found =
    let of = of_lane s r rec found in
    let same : of.its ≡ l = let q = of.at in cc in
    let facts : rec.facts ≡ l.facts = of.facts ∙ ap (λ (x : Lane). x.facts) same in
    let u = (spot_in p.spots r).fragment in
    let bytes : total_bytes (take u rec.facts) ≡ total_bytes (take u l.facts) = ap (λ fs. total_bytes (take u fs)) facts in
    let before : units_before rec u ≡ total_bytes (take u l.facts) = omega (arith, bytes) in
    ap (λ n. bytes_before_base s.config.base r + n) before
counted_in s p r l None state at found =
    let beside = at_beside (channel s).lanes s.bytes r l state.counts_agree at in
    let matches : MatchesBytes l beside.0 = state.fits r l beside.0 at beside.1 in
    let none : l.init ≡ None = not_begun l.init l (held_bytes s r) (sym (ap (λ (o : Option Lane). recorded_at o (held_bytes s r)) at) ∙ found) in
    let facts : l.facts ≡ [] = (matches.none none).0 in
    let u = (spot_in p.spots r).fragment in
    let bytes : total_bytes (take u l.facts) ≡ 0 = ap (λ fs. total_bytes (take u fs)) facts ∙ ap total_bytes (take-nil u) in
    omega (arith, bytes)

-- after the bytes of rendition r are set, those of the first r + 1 renditions are counted
pub one_counted : (s : State) (p : Place) (r bytes : ℕ) (old new : List ℕ) → IsState s → r < length (channel s).lanes → length (channel s).lanes ≤ 16 → AreCounted s p r old
    → bytes ≡ bytes_before_cut s p r → new ≡ set old r bytes → AreCounted s p (r + 1) new
one_counted s p r bytes old new state within few so_far is put =
    let found = some_at (channel s).lanes r within in
    let value : bytes ≡ bytes_at p s.config.base r found.0 = is ∙ counted_in s p r found.0 (recording_of s r) state found.1 refl in
    let here : slice_get (all_bytes s p) r ≡ Some bytes = bytes_to_at p s.config.base 0 r (channel s).lanes found.0 found.1 ∙ ap (λ n. Some (bytes_at p s.config.base n found.0)) (zero_more r) ∙ ap Some (sym value) in
    let long : length (take r (all_bytes s p)) ≡ r = omega (arith, length-take r (all_bytes s p), bytes_to_long p s.config.base 0 (channel s).lanes, within) in
    let left : 16 - r ≡ suc (16 - (r + 1)) = omega (arith, within, few) in
    let more : take (r + 1) (all_bytes s p) ≡ take r (all_bytes s p) ++ bytes ∷ [] =
    take_more (all_bytes s p) r bytes (slice_get_within (all_bytes s p) r bytes here) ∙ ap (λ x. take r (all_bytes s p) ++ x ∷ []) (get_or_from_slice_get (all_bytes s p) r bytes bytes here) in
    let now : new ≡ take (r + 1) (all_bytes s p) ++ replicate (16 - (r + 1)) 0 =
    put
    ∙ ap (λ xs. set xs r bytes) (so_far.is ∙ ap (λ k. take r (all_bytes s p) ++ replicate k 0) left)
    ∙ set_at (take r (all_bytes s p)) 0 (replicate (16 - (r + 1)) 0) bytes r long
    ∙ sym (append_assoc (take r (all_bytes s p)) (bytes ∷ []) (replicate (16 - (r + 1)) 0))
    ∙ ap (λ xs. xs ++ replicate (16 - (r + 1)) 0) (sym more) in
    record { is = now; long = ap length now ∙ counted_long (r + 1) (length (take (r + 1) (all_bytes s p))) (take (r + 1) (all_bytes s p)) refl (omega (arith, length-take (r + 1) (all_bytes s p), bytes_to_long p s.config.base 0 (channel s).lanes, within)) (omega (arith, within, few)) }

-- if all renditions are counted, the counts are the bytes of the cut's base
pub all_counted : (s : State) (n : ℕ) (p : Place) (k : ℕ) (bytes : List ℕ) → k ≡ length (channel s).lanes → AreCounted s p k bytes → bytes ≡ (base_of_cut s n p).bytes
all_counted s n p k bytes all so_far =
    so_far.is
    ∙ ap (λ xs. xs ++ replicate (16 - k) 0) (take_all k (all_bytes s p) (omega (arith, all, bytes_to_long p s.config.base 0 (channel s).lanes)))
    ∙ ap (λ m. all_bytes s p ++ replicate (16 - m) 0) all

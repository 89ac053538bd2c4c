-- A live line's segments start one after another.
use Rattle.std.proofs.Common.{◌≡◌, ◌∙◌, Bool, ℕ, zero, suc, ◌+◌, ◌-◌, ◌<◌, ◌≤◌, List, [], ◌∷◌, length, map, drop, Option, Some, arith, refl, sym, ap, inl, inr}
use Rattle.std.specs.Prelude.{slice_get}
use Rattle.std.proofs.lemmas.Bool.{cases_lt}
use Rattle.std.proofs.lemmas.Option.{same_Some, slice_get_within}
use Rattle.hls_check_tables.specs.declared.spot.Spot.{Spot}
use Rattle.hls_places_laws.specs.declared.place.Place.{Place}
use Rattle.hls_places_laws.specs.declared.line.goal.LineGoal.{LineGoal}
use Rattle.hls_places_laws.specs.declared.line.live_segment.LiveSegment.{LiveSegment}
use Rattle.hls_places_laws.specs.declared.line.segment_start.SegmentStart.{SegmentStart}
use Rattle.hls_places_laws.specs.FromPlace.{PlacesNeverGoBack, place_since, spots_since}
use Rattle.hls_places_laws.specs.Line.Cuts.{line_of}
use Rattle.hls_places_laws.specs.Line.FromCut.{LineFromCutAgrees, segment_since, segments_since}
use Rattle.hls_places_laws.specs.Line.Live.{front_of, front_place, live_of}
use Rattle.hls_places_laws.specs.Line.LineBounds.{FrontIsAPlace}
use Rattle.hls_places_laws.specs.Order.{time_of}
use Rattle.hls_core_laws.specs.State.{State}
use Rattle.hls_core_laws.specs.IsState.{IsState}
use Rattle.hls_core_laws.specs.Places.{places, sources}
use Rattle.hls_core_laws.specs.Line.{line_goal_of}
use Rattle.hls_core_laws.proofs.Callers.{at_drop, floors-count, mapped_at, sources_count, lanes_count, spots-count, states_are_timed, times-rise}
use Rattle.hls_playlists_laws.proofs.Callers.{closed}

-- a list from the index of an item on begins with this item
drop-at : {X : Type 0} (xs : List X) (k : ℕ) (x : X) → slice_get xs k ≡ Some x → (rest : List X) × (drop k xs ≡ x ∷ rest)
drop-at [] k x at = absurd (cc)
drop-at (y ∷ xs) zero x at = (xs, ap (λ z. z ∷ xs) (same_Some y x at))
drop-at (y ∷ xs) (suc k) x at = drop-at xs k x at

-- the front of a line with segments is its first segment's start
front-at : (xs : List LiveSegment) (segment_start : Option SegmentStart) (x : LiveSegment) (rest : List LiveSegment) → xs ≡ x ∷ rest →
    front_place xs segment_start ≡ Some x.from
front-at xs segment_start x rest is = ap (λ (ys : List LiveSegment). front_place ys segment_start) is

-- a segment after the first is at the same index once all are counted from a cut
since-at : (cut : List Spot) (xs : List LiveSegment) (k : ℕ) (x : LiveSegment) → slice_get xs (suc k) ≡ Some x →
    slice_get (segments_since cut xs) (suc k) ≡ Some (segment_since cut x)
since-at cut [] k x at = absurd (cc)
since-at cut (y ∷ xs) k x at = mapped xs k at
  where
    mapped : (ys : List LiveSegment) (n : ℕ) → slice_get ys n ≡ Some x → slice_get (map (segment_since cut) ys) n ≡ Some (segment_since cut x)
    mapped [] n there = absurd (cc)
    mapped (z ∷ ys) zero there = ap (λ (u : LiveSegment). Some (segment_since cut u)) (same_Some z x there)
    mapped (z ∷ ys) (suc n) there = mapped ys n there

-- counted from a cut, a place has the same time
time-since : (cut spots : List Spot) (closing : Bool) → 0 < length cut → 0 < length spots →
    time_of (record { spots = spots_since cut spots; closing = closing }) ≡ time_of (record { spots = spots; closing = closing })
time-since [] spots closing some many = absurd (omega (arith, some))
time-since (c ∷ cut) [] closing some many = absurd (omega (arith, many))
time-since (c ∷ cut) (spot ∷ spots) closing some many = refl

module _ (front_stands : FrontIsAPlace) (cuts_agree : LineFromCutAgrees) (go_on : PlacesNeverGoBack) (s : State) (state : IsState s) where
  abbrev goal : LineGoal
  goal = line_goal_of s.config

  -- a place of the line
  record Stands (p : Place) : Type 0 where
    number : ℕ
    there : slice_get (places s) number ≡ Some p
    some : 0 < length p.spots

  -- each of the places of a state has a spot in some rendition
  stands : (number : ℕ) (p : Place) → slice_get (places s) number ≡ Some p → Stands p
  stands number p there = record {
    number = number;
    there = there;
    some = omega (arith, spots-count s state number p there, floors-count s, sources_count s, lanes_count s.config s.log, state.configured.renditions.some);
  }

  -- each closed segment starts at a place of the state
  starts-stand : (k : ℕ) (x : LiveSegment) → slice_get (closed s) k ≡ Some x → Stands x.from
  starts-stand k x at =
      let on = drop-at (closed s) k x at in
      let one = front_stands goal (places s) k x.from (front-at (drop k (closed s)) (line_of goal (places s)).segment_start x on.0 on.1) in
      stands one.number x.from one.there

  -- a closed segment starts no later than one after it
  pub starts-rise : (i n : ℕ) (x y : LiveSegment) → slice_get (closed s) i ≡ Some x → slice_get (closed s) (i + n) ≡ Some y → time_of x.from ≤ time_of y.from
  starts-rise i zero x y at also =
      let same : x ≡ y = same_Some x y (sym at ∙ (ap (slice_get (closed s)) (omega arith) ∙ also)) in
      omega (arith, ap (λ (z : LiveSegment). time_of z.from) same)
  starts-rise i (suc n) x y at also =
      let on = drop-at (closed s) i x at in
      let from = starts-stand i x at in
      let to = starts-stand (i + suc n) y also in
      let within : i ≤ length (closed s) = omega (arith, slice_get_within (closed s) i x at) in
      let front : front_of (live_of goal (places s) i) ≡ Some x.from =
      front-at (drop i (closed s)) (line_of goal (places s)).segment_start x on.0 on.1 in
      let goes = cuts_agree goal (places s) i x.from (go_on (sources s) (states_are_timed s state)) within front in
      let cut = x.from.spots in
      let rest : List Place = map (place_since cut) (drop goes.number (places s)) in
      let later : slice_get (drop i (closed s)) (suc n) ≡ Some y = at_drop (closed s) i (suc n) ∙ also in
      let there : slice_get (line_of goal rest).segments (suc n) ≡ Some (segment_since cut y) =
      ap (λ (xs : List LiveSegment). slice_get xs (suc n)) goes.segments ∙ since-at cut (drop i (closed s)) n y later in
      let own = drop-at (line_of goal rest).segments (suc n) (segment_since cut y) there in
      let one = front_stands goal rest (suc n) (place_since cut y.from)
      (front-at (drop (suc n) (line_of goal rest).segments) (line_of goal rest).segment_start (segment_since cut y) own.0 own.1) in
      let found = mapped_at (place_since cut) (drop goes.number (places s)) one.number (place_since cut y.from) one.there in
      let p : Place = found.0 in
      let p-at : slice_get (places s) (goes.number + one.number) ≡ Some p = sym (at_drop (places s) goes.number one.number) ∙ found.1 in
      let here = stands (goes.number + one.number) p p-at in
      let time_is : time_of p ≡ time_of y.from =
      sym (time-since cut p.spots p.closing from.some here.some) ∙ (ap time_of found.2 ∙ time-since cut y.from.spots y.from.closing from.some to.some) in
      let rises : time_of x.from ≤ time_of p = elim (cases_lt 0 one.number) [
        | inl some ↦
            let after = times-rise s state goes.number (goes.number + one.number) x.from p (omega (arith, some)) goes.there p-at in
            omega (arith, after)
        | inr none ↦
            let number : goes.number + one.number ≡ goes.number = omega (arith, none) in
            let same : x.from ≡ p = same_Some x.from p (sym goes.there ∙ (ap (slice_get (places s)) (sym number) ∙ p-at)) in
            omega (arith, ap time_of same)
      ] in
      omega (arith, rises, time_is)

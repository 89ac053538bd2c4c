-- A live line whose places never go back: neither do its segments' starts, the place where the next one begins, and the best place. What
-- holds of each place holds of them.
use Rattle.std.proofs.Common.{◌≡◌, ℕ, zero, suc, ◌<◌, ◌≤◌, List, [], ◌∷◌, ◌++◌, length, drop, get_or, Option, Some, None, arith, refl, sym, subst, All}
use Rattle.std.specs.Prelude.{slice_get}
use Rattle.std.proofs.lemmas.Bool.{cond_both}
use Rattle.std.proofs.lemmas.Option.{same_Some}
use Rattle.std.proofs.lemmas.List.Elements.{All-head, All-tail}
use Rattle.hls_places_laws.specs.declared.place.Place.{Place}
use Rattle.hls_places_laws.specs.declared.line.goal.LineGoal.{LineGoal}
use Rattle.hls_places_laws.specs.declared.line.live_segment.LiveSegment.{LiveSegment}
use Rattle.hls_places_laws.specs.declared.line.segment_start.SegmentStart.{SegmentStart}
use Rattle.hls_places_laws.specs.Line.Steps.{is_later_place, is_allowed, is_long_enough}
use Rattle.hls_places_laws.specs.Line.Cuts.{start_at, segment_to}
use Rattle.hls_places_laws.specs.Line.Progress.{LineProgress, has_earlier, closed_with, progress_to, progress_restarted_at, progress_from, progress_after, advanced_through}
use Rattle.hls_places_laws.proofs.Callers.{progress-more, progress-none}

-- the segments' starts never go back, from a number up to another one, and P holds for their ends
abbrev pub AreRising : (Place → Type 0) → (Place → ℕ) → ℕ → List LiveSegment → ℕ → Type 0
AreRising P f low [] high = low ≤ high
AreRising P f low (x ∷ xs) high = (low ≤ f x.from) × (P x.from × P x.to) × AreRising P f (f x.from) xs high

-- the best place, if there is one, is between two numbers, and P holds for it
abbrev pub IsRisingBest : (Place → Type 0) → (Place → ℕ) → ℕ → ℕ → Option Place → Type 0
IsRisingBest P f low high None = low ≤ high
IsRisingBest P f low high (Some b) = (low ≤ f b) × (f b ≤ high) × P b

-- no place was added yet
abbrev IsFresh : ℕ → List LiveSegment → Option Place → Type 0
IsFresh low [] None = low ≡ 0
IsFresh low [] (Some b) = ⊥
IsFresh low (x ∷ xs) best = ⊥

-- segments, the open place and the best place, from a number up to another one; without an open place nothing was added yet
abbrev pub IsRisingFrom : (Place → Type 0) → (Place → ℕ) → ℕ → ℕ → List LiveSegment → Option SegmentStart → Option Place → Type 0
IsRisingFrom P f low high segments None best = IsFresh low segments best
IsRisingFrom P f low high segments (Some o) best = AreRising P f low segments (f o.place) × P o.place × IsRisingBest P f (f o.place) high best

-- a line's segments, open place and best place, from a number up to another one
abbrev pub IsRisingLine : (Place → Type 0) → (Place → ℕ) → ℕ → ℕ → LineProgress → Type 0
IsRisingLine P f low high t = IsRisingFrom P f low high t.line.segments t.line.segment_start t.best

-- places never go back, from a number on, and P holds for each
abbrev pub ArePlacesRising : (Place → Type 0) → (Place → ℕ) → ℕ → List Place → Type 0
ArePlacesRising P f low [] = Unit {0}
ArePlacesRising P f low (q ∷ rest) = (low ≤ f q) × P q × ArePlacesRising P f (f q) rest

-- the number of the last of some places, or `low` without places
abbrev pub last_of : (Place → ℕ) → ℕ → List Place → ℕ
last_of f low [] = low
last_of f low (q ∷ rest) = last_of f (f q) rest

module _ (P : Place → Type 0) (f : Place → ℕ) where
  -- segments that rise up to a number rise up to a greater one
  rising-more : (low : ℕ) (xs : List LiveSegment) (h k : ℕ) → AreRising P f low xs h → h ≤ k → AreRising P f low xs k
  rising-more low [] h k rising more = omega (arith, rising, more)
  rising-more low (x ∷ xs) h k rising more = (rising.0, rising.1, rising-more (f x.from) xs h k rising.2 more)

  -- segments that rise from a number on rise from a lesser one on
  rising-less : (low more : ℕ) (xs : List LiveSegment) (h : ℕ) → AreRising P f more xs h → low ≤ more → AreRising P f low xs h
  rising-less low more [] h rising less = omega (arith, rising, less)
  rising-less low more (x ∷ xs) h rising less = (omega (arith, rising.0, less), rising.1, rising.2)

  -- rising segments with one appended that begins where they end rise
  rising-snoc : (low : ℕ) (xs : List LiveSegment) (x : LiveSegment) (h : ℕ) → AreRising P f low xs (f x.from) → P x.from × P x.to → f x.from ≤ h →
      AreRising P f low (xs ++ x ∷ []) h
  rising-snoc low [] x h rising ends more = (rising, ends, more)
  rising-snoc low (y ∷ xs) x h rising ends more = (rising.0, rising.1, rising-snoc (f y.from) xs x h rising.2 ends more)

  -- rising segments without the first n rise
  pub rising-drop : (n low : ℕ) (xs : List LiveSegment) (h : ℕ) → AreRising P f low xs h → AreRising P f low (drop n xs) h
  rising-drop zero low xs h rising = rising
  rising-drop (suc n) low [] h rising = rising
  rising-drop (suc n) low (x ∷ xs) h rising =
      rising-drop n low xs h (rising-less low (f x.from) xs h rising.2 rising.0)

  -- a segment of rising ones begins at `low` or after it, and P holds for its ends
  pub rising-at : (low : ℕ) (xs : List LiveSegment) (h k : ℕ) (x : LiveSegment) → AreRising P f low xs h → slice_get xs k ≡ Some x →
      (low ≤ f x.from) × P x.from × P x.to
  rising-at low [] h k x rising at = absurd (cc)
  rising-at low (y ∷ xs) h zero x rising at =
      subst (λ (z : LiveSegment). (low ≤ f z.from) × P z.from × P z.to) (same_Some y x at) (rising.0, rising.1.0, rising.1.1)
  rising-at low (y ∷ xs) h (suc k) x rising at =
      let on = rising-at (f y.from) xs h k x rising.2 at in
      (omega (arith, rising.0, on.0), on.1, on.2)

  -- a best place up to a number is one up to a greater number
  best-more : (low h k : ℕ) (best : Option Place) → IsRisingBest P f low h best → h ≤ k → IsRisingBest P f low k best
  best-more low h k None is more = omega (arith, is, more)
  best-more low h k (Some b) is more = (is.0, omega (arith, is.1, more), is.2)

  -- if there may be a best place from one number up to another, the first is not greater
  best-within : (low h : ℕ) (best : Option Place) → IsRisingBest P f low h best → low ≤ h
  best-within low h None is = is
  best-within low h (Some b) is = omega (arith, is.0, is.1)

  -- closing the open segment at a place that is not earlier leaves the segments rising
  closed-rising : (removed low : ℕ) (segments : List LiveSegment) (o : SegmentStart) (to : Place) (h : ℕ) → AreRising P f low segments (f o.place) →
      P o.place → P to → f o.place ≤ h → AreRising P f low (closed_with removed segments o to) h
  closed-rising removed low segments o to h rising here there more =
      rising-snoc low segments (segment_to (has_earlier removed segments) o to) h rising (here, there) more

  -- trying a place that is not earlier leaves a line rising, if the line that results from a place out of reach rises
  tried-rising : (line_goal : LineGoal) (removed low h : ℕ) (segments : List LiveSegment) (o : SegmentStart) (best : Option Place) (q : Place) (stopped : LineProgress) →
      IsRisingFrom P f low h segments (Some o) best → h ≤ f q → P q → IsRisingLine P f low (f q) stopped →
      IsRisingLine P f low (f q) (progress_to line_goal removed segments o best q stopped)
  unfolding progress_to
  tried-rising line_goal removed low h segments o best q stopped is more there last =
      let past : f o.place ≤ f q = omega (arith, best-within (f o.place) h best is.2, more) in
      let none : f q ≤ f q = omega arith in
      cond_both (is_later_place o.place q) _ _ (IsRisingLine P f low (f q))
      (λ later. cond_both (is_allowed line_goal o.place q) _ _ (IsRisingLine P f low (f q))
      (λ allowed. cond_both (is_long_enough line_goal o.place q) _ _ (IsRisingLine P f low (f q))
      (λ enough. (closed-rising removed low segments o q (f q) is.0 is.1 there past, there, none))
      (λ further. (is.0, is.1, (past, none, there))))
      (λ out_of_reach. last))
      (λ skipped. (is.0, is.1, best-more (f o.place) h (f q) best is.2 more))

  -- a place out of reach that is not earlier leaves a line rising
  stopped-rising : (line_goal : LineGoal) (removed low h : ℕ) (segments : List LiveSegment) (o : SegmentStart) (best : Option Place) (q : Place) →
      IsRisingFrom P f low h segments (Some o) best → h ≤ f q → P q →
      IsRisingLine P f low (f q) (progress_restarted_at line_goal removed segments o best q)
  unfolding progress_restarted_at
  stopped-rising line_goal removed low h segments o None q is more there =
      (rising-more low segments (f o.place) (f q) is.0 (omega (arith, is.2, more)), there, omega arith)
  stopped-rising line_goal removed low h segments o (Some b) q is more there =
      let closed : AreRising P f low (closed_with removed segments o b) (f b) = closed-rising removed low segments o b (f b) is.0 is.1 is.2.2 is.2.0 in
      let last : AreRising P f low (closed_with removed segments o b) (f q) =
      rising-more low (closed_with removed segments o b) (f b) (f q) closed (omega (arith, is.2.1, more)) in
      tried-rising line_goal removed low h (closed_with removed segments o b) (start_at b) None q _ (closed, is.2.2, is.2.1) more there
      (last, there, omega arith)

  -- one more place that is not earlier leaves a line rising
  advanced-rising : (line_goal : LineGoal) (removed low h : ℕ) (segments : List LiveSegment) (segment_start : Option SegmentStart) (best : Option Place) (q : Place) →
      IsRisingFrom P f low h segments segment_start best → h ≤ f q → P q →
      IsRisingLine P f low (f q) (progress_from line_goal removed segments segment_start best q)
  unfolding progress_from
  advanced-rising line_goal removed low h [] None None q is more there = (omega (arith, is), there, omega arith)
  advanced-rising line_goal removed low h [] None (Some b) q is more there = absurd is
  advanced-rising line_goal removed low h (x ∷ xs) None best q is more there = absurd is
  advanced-rising line_goal removed low h segments (Some o) best q is more there =
      tried-rising line_goal removed low h segments o best q _ is more there (stopped-rising line_goal removed low h segments o best q is more there)

  -- more places that rise leave a line rising
  pub line-rises : (line_goal : LineGoal) (removed low h : ℕ) (t : LineProgress) (places : List Place) → IsRisingLine P f low h t →
      ArePlacesRising P f h places → IsRisingLine P f low (last_of f h places) (advanced_through line_goal removed t places)
  line-rises line_goal removed low h t [] is more = subst (IsRisingLine P f low h) (sym (progress-none line_goal removed t)) is
  line-rises line_goal removed low h t (q ∷ rest) is more =
      subst (IsRisingLine P f low (last_of f (f q) rest)) (sym (progress-more line_goal removed t q rest))
      (line-rises line_goal removed low (f q) (progress_after line_goal removed t q) rest
      (advanced-rising line_goal removed low h t.line.segments t.line.segment_start t.best q is more.0 more.1) more.2)

  -- a rising line without its first n segments rises
  pub rises-without : (n low h : ℕ) (segments : List LiveSegment) (segment_start : Option SegmentStart) (best : Option Place) →
      IsRisingFrom P f low h segments segment_start best → IsRisingFrom P f low h (drop n segments) segment_start best
  rises-without zero low h segments None best is = is
  rises-without (suc n) low h [] None best is = is
  rises-without (suc n) low h (x ∷ xs) None best is = absurd is
  rises-without n low h segments (Some o) best is = (rising-drop n low segments (f o.place) is.0, is.1, is.2)

  -- of rising places in two parts, the second part rises from the last number of the first on
  pub places-rest : (low : ℕ) (places more : List Place) → ArePlacesRising P f low (places ++ more) → ArePlacesRising P f (last_of f low places) more
  places-rest low [] more rising = rising
  places-rest low (q ∷ rest) more rising = places-rest (f q) rest more rising.2

  -- places that are in order pair by pair, from a number on, and for which P holds, rise
  pub places-rising : (low : ℕ) (places : List Place) → All P places → ((k : ℕ) (d : Place) → k < length places → low ≤ f (get_or places k d)) →
      ((i j : ℕ) (d : Place) → i < j → j < length places → f (get_or places i d) ≤ f (get_or places j d)) → ArePlacesRising P f low places
  places-rising low [] each from pairs = tt
  places-rising low (q ∷ rest) each from pairs = (
    from 0 q (omega arith),
    All-head P q rest each,
    places-rising (f q) rest (All-tail P q rest each)
        (λ k d h. pairs 0 (suc k) d (omega arith) (omega (arith, h)))
        (λ i j d h within. pairs (suc i) (suc j) d (omega (arith, h)) (omega (arith, within))),
  )

-- the last number of two joined lists is the second's, or the first's if the second is empty
pub last-append : (f : Place → ℕ) (low : ℕ) (places more : List Place) → last_of f low (places ++ more) ≡ last_of f (last_of f low places) more
last-append f low [] more = refl
last-append f low (q ∷ rest) more = last-append f (f q) rest more

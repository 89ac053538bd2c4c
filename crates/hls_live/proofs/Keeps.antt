-- The invariants of a line's parts are preserved as the line changes.
use Rattle.std.proofs.Common.{◌≡◌, ℕ, zero, suc, ◌+◌, ◌-◌, ◌<◌, ◌≤◌, ◌⊎◌, true, false, Bool, List, [], ◌∷◌, length, take, drop, get_or, Option, None, Some, arith, refl, sym, ap, subst, inl, inr, ◌∙◌}
use Rattle.std.specs.Prelude.{slice_get}
use Rattle.std.proofs.lemmas.Bool.{and_from, and_left, and_right, and_parts}
use Rattle.std.proofs.lemmas.List.{get_or_past, length-take-le}
use Rattle.std.proofs.lemmas.List.Sums.{count_by-le-length}
use Rattle.std.proofs.lemmas.Option.{same_Some}
use Rattle.hls_blocks.specs.Numbered.{list_limit}
use Rattle.hls_check_tables.specs.Tables.{spot_in, no_spot, target_limit}
use Rattle.hls_check_tables.specs.declared.spot.Spot.{Spot}
use Rattle.hls_places_laws.specs.declared.place.Place.{Place}
use Rattle.hls_places_laws.specs.declared.line.goal.LineGoal.{LineGoal}
use Rattle.hls_places_laws.specs.declared.line.live_segment.LiveSegment.{LiveSegment}
use Rattle.hls_places_laws.specs.declared.line.segment_start.SegmentStart.{SegmentStart}
use Rattle.hls_places_laws.specs.Line.Steps.{is_allowed}
use Rattle.hls_places_laws.specs.Line.Cuts.{start_at}
use Rattle.hls_places_laws.specs.Line.Live.{without_front}
use Rattle.hls_places_laws.specs.Line.Lengths.{length_in, remaining_length, marks_in, renditions_of, each_below}
use Rattle.hls_live.proofs.Cited.{step-from_allowed}
use Rattle.hls_live.specs.declared.prefix_sums.PrefixSums.{PrefixSums}
use Rattle.hls_live.specs.declared.live_line.LiveLine.TheInside.{Inside}
use Rattle.hls_live.specs.declared.kept_segments.KeptSegments.{KeptSegments}
use Rattle.hls_live.specs.PrefixSums.{AreSums, last_of, lengths_of, marks_of}
use Rattle.hls_live.specs.KeptSegments.{AreAligned, HasDroppedSegments, HasPushedSegment}
use Rattle.hls_live.specs.Model.{model_of, AreKept, IsSoundLine}
use Rattle.hls_live.specs.Advances.{with_kept}
use Rattle.hls_live.proofs.Beside.{at-there, sums-none, last-known, sums-pushed, sums-dropped}
use Rattle.hls_check_tables.specs.Steps.{cost_limit}

-- an allowed segment is short, in every rendition
pub allowed-short : (line_goal : LineGoal) (o q : Place) → line_goal.target ≤ target_limit → is_allowed line_goal o q ≡ true → (r : ℕ) →
    (spot_in q.spots r).prev_end - (spot_in o.spots r).start ≤ cost_limit
allowed-short line_goal o q target allowed r =
    let step = step-from_allowed line_goal o q allowed in
    let either : (r < length o.spots) ⊎ (length o.spots ≤ r) = grind arith in
    elim either [
      | inl within ↦ omega (arith, (step.step r within).fits, target)
      | inr outside ↦
          let none : spot_in q.spots r ≡ no_spot = get_or_past q.spots r no_spot (omega (arith, step.same, outside)) in
          let end : (spot_in q.spots r).prev_end ≡ 0 = ap (λ (s : Spot). s.prev_end) none in
          omega (arith, end)
    ]

-- the sums stay the same for another number of renditions, if there are no segments or the number is the same
sums-renamed : (first breaks before after : ℕ) (segments : List LiveSegment) (sums : List PrefixSums) →
    (0 < length segments → after ≡ before) → AreSums first breaks before segments sums → AreSums first breaks after segments sums
sums-renamed first breaks before after [] [] same are = sums-none first breaks after
sums-renamed first breaks before after [] (s ∷ sums) same are = absurd (omega (arith, are.count))
sums-renamed first breaks before after (x ∷ segments) sums same are =
    let is : after ≡ before = same (omega arith) in
    subst (λ (n : ℕ). AreSums first breaks n (x ∷ segments) sums) (sym is) are

-- a sound line is still sound with another open place and best place, if the open one has spots for the line's renditions and the best one is within
-- reach
pub opened-sound : (i : Inside) (kept : KeptSegments) (start : SegmentStart) (best : Option Place) →
    IsSoundLine i → kept ≡ i.kept → 0 < length start.place.spots →
    (0 < length i.kept.segments.items → length start.place.spots ≡ renditions_of i.segment_start) →
    ((b : Place) → best ≡ Some b → is_allowed i.line_goal start.place b ≡ true) →
    IsSoundLine (record { line_goal = i.line_goal; kept = kept; segment_start = Some start; best = best })
opened-sound i kept start best sound kept_is some same reached = rw (kept_is) (record {
  target = sound.target;
  kept = record {
    first = sound.kept.first;
    sums = sums-renamed i.kept.segments.first i.kept.breaks (renditions_of i.segment_start) (length start.place.spots) i.kept.segments.items i.kept.sums.items
        same sound.kept.sums;
    breaks = sound.kept.breaks;
  };
  no_segment = λ e. absurd (cc);
  some = λ o e.
      let is : start ≡ o = same_Some start o e in
      subst (λ (x : SegmentStart). 0 < length x.place.spots) is some;
  no_best = λ e. absurd (cc);
  best = λ o b e best_is.
      let is : start ≡ o = same_Some start o e in
      subst (λ (x : SegmentStart). is_allowed i.line_goal x.place b ≡ true) is (reached b best_is);
})

-- a sound line is still sound with other kept segments that fit its renditions
pub held-sound : (i : Inside) (kept : KeptSegments) (segment_start : Option SegmentStart) (best : Option Place) → IsSoundLine i →
    AreKept (renditions_of i.segment_start) kept → (i.segment_start ≡ None → kept.segments.items ≡ []) → segment_start ≡ i.segment_start → best ≡ i.best →
    IsSoundLine (record { line_goal = i.line_goal; kept = kept; segment_start = segment_start; best = best })
held-sound i kept segment_start best sound are none open_is best_is = rw (open_is, best_is) (record {
  target = sound.target;
  kept = are;
  no_segment = none;
  some = sound.some;
  no_best = sound.no_best;
  best = sound.best;
})

-- each segment has its sums
pub are-aligned : (renditions : ℕ) (k : KeptSegments) → AreKept renditions k → AreAligned k
are-aligned renditions k are = record { first = are.first; count = are.sums.count }

-- kept segments still fit the renditions with one more segment, which is no longer than the maximum in any of them
pub with-kept : (renditions : ℕ) (k after : KeptSegments) (segment : LiveSegment) → AreKept renditions k → HasPushedSegment segment k after →
    length segment.from.spots ≡ renditions → ((r : ℕ) → length_in r segment ≤ cost_limit) → AreKept renditions after
with-kept renditions k after segment are is same short =
    rw (is.segments, is.sums, is.breaks) (record {
      first = are.first;
      sums = sums-pushed k.segments.first k.breaks renditions k.segments.items k.sums.items segment is.next are.sums is.is same short;
      breaks = are.breaks;
    })

-- a sound line is still sound after its open segment is closed at a place within reach, where the next one begins
pub closed-sound : (i : Inside) (o : SegmentStart) (to : Place) (segment : LiveSegment) (kept : KeptSegments) (start : SegmentStart) →
    IsSoundLine i → i.segment_start ≡ Some o → is_allowed i.line_goal o.place to ≡ true → segment.from ≡ o.place → segment.to ≡ to →
    HasPushedSegment segment i.kept kept → start ≡ start_at to → IsSoundLine (record { line_goal = i.line_goal; kept = kept; segment_start = Some start; best = None })
closed-sound i o to segment kept start sound at allowed from_is to_is is opening_is =
    let step = step-from_allowed i.line_goal o.place to allowed in
    let before : length segment.from.spots ≡ renditions_of i.segment_start =
    ap (λ (p : Place). length p.spots) from_is ∙ sym (ap renditions_of at) in
    let after : renditions_of i.segment_start ≡ length to.spots = ap renditions_of at ∙ sym step.same in
    let short : (r : ℕ) → length_in r segment ≤ cost_limit =
    λ r. rw (from_is, to_is) (allowed-short i.line_goal o.place to sound.target allowed r) in
    let pushed = with-kept (renditions_of i.segment_start) i.kept kept segment sound.kept is before short in
    let some : 0 < length to.spots = omega (arith, sound.some o at, step.same) in
    rw (opening_is) (record {
      target = sound.target;
      kept = subst (λ (n : ℕ). AreKept n kept) after pushed;
      no_segment = λ e. absurd (cc);
      some = λ x e.
          let same : start_at to ≡ x = same_Some (start_at to) x e in
          subst (λ (y : SegmentStart). 0 < length y.place.spots) same some;
      no_best = λ e. absurd (cc);
      best = λ x b e best_is. absurd (cc);
    })

-- there are at most as many marks as segments
marks-few : (n : ℕ) (segments : List LiveSegment) → n ≤ length segments → marks_in n segments ≤ n
marks-few n segments few =
    let counted : marks_in n segments ≤ length (take n segments) = count_by-le-length (λ (x : LiveSegment). x.mark) (take n segments) in
    omega (arith, counted, length-take-le n segments few)

-- while there is room for one more segment, the marks in the last sums are at most the limit of a list
pub last-few : (renditions : ℕ) (k : KeptSegments) → AreKept renditions k → k.segments.first + length k.segments.items < list_limit →
    marks_of k.breaks (last_of k.sums.items) ≤ list_limit
last-few renditions k are room =
    let known = last-known k.segments.first k.breaks renditions k.segments.items k.sums.items are.sums in
    omega (arith, known.marks, marks-few (length k.segments.items) k.segments.items (omega arith), are.breaks, room)

-- while there is room for one more segment, each length in the last sums is at most 2^60
pub last-small : (renditions : ℕ) (k : KeptSegments) → AreKept renditions k → k.segments.first + length k.segments.items < list_limit → (r : ℕ) →
    get_or (lengths_of (last_of k.sums.items)) r 0 ≤ 1152921504606846976
last-small renditions k are room r =
    let known = last-known k.segments.first k.breaks renditions k.segments.items k.sums.items are.sums in
    omega (arith, known.small r, room)

-- removing the first n segments adds their marks to the removed ones
last-gone : (renditions n : ℕ) (k after : KeptSegments) → AreKept renditions k → 0 < n → n ≤ length k.segments.items → HasDroppedSegments n k after →
    after.breaks ≡ k.breaks + marks_in n k.segments.items
last-gone renditions n k after are some few is =
    let m : ℕ = n - 1 in
    let n_is : suc m ≡ n = omega (arith, some) in
    let last = at-there k.sums.items m (omega (arith, some, few, are.sums.count)) in
    let to = are.sums.each m last.0 last.1 in
    is.breaks ∙ (ap (marks_of 0) last.1 ∙ (to.marks ∙ ap (λ (j : ℕ). k.breaks + marks_in j k.segments.items) n_is))

-- kept segments still fit the renditions without the first n
pub without-kept : (renditions n : ℕ) (k after : KeptSegments) → AreKept renditions k → 0 < n → n ≤ length k.segments.items →
    HasDroppedSegments n k after → AreKept renditions after
without-kept renditions n k after are some few is =
    let at : ℕ = k.segments.first + n in
    let marks = last-gone renditions n k after are some few is in
    let from : at - k.segments.first ≡ n = omega arith in
    let also : at - k.sums.first ≡ n = omega (arith, are.first) in
    let segments_from : after.segments ≡ record { first = at; items = drop n k.segments.items } =
    is.segments ∙ ap (λ (j : ℕ). record { first = at; items = drop j k.segments.items }) from in
    let sums_from : after.sums ≡ record { first = at; items = drop n k.sums.items } =
    is.sums ∙ ap (λ (j : ℕ). record { first = at; items = drop j k.sums.items }) also in
    rw (segments_from, sums_from, marks) (record {
      first = refl;
      sums = sums-dropped k.segments.first k.breaks renditions n k.segments.items k.sums.items few are.sums;
      breaks = omega (arith, marks-few n k.segments.items few, are.breaks);
    })

-- a line whose first n segments were removed is the defined line without them
pub slid-is : (i : Inside) (n : ℕ) (after : KeptSegments) → IsSoundLine i → 0 < n → n ≤ length i.kept.segments.items → HasDroppedSegments n i.kept after →
    with_kept (model_of i) after ≡ without_front n (model_of i)
slid-is i n after sound some few is =
    let from : i.kept.segments.first + n - i.kept.segments.first ≡ n = omega arith in
    let segments_from : after.segments ≡ record { first = i.kept.segments.first + n; items = drop n i.kept.segments.items } =
    is.segments ∙ ap (λ (j : ℕ). record { first = i.kept.segments.first + n; items = drop j i.kept.segments.items }) from in
    let marks = last-gone (renditions_of i.segment_start) n i.kept after sound.kept some few is in
    rw (segments_from, marks) refl

-- if segments are kept, the line has at least one rendition
pub renditions-some : (o : Option SegmentStart) (segments : List LiveSegment) → (o ≡ None → segments ≡ []) →
    ((x : SegmentStart) → o ≡ Some x → 0 < length x.place.spots) → 0 < length segments → 0 < renditions_of o
renditions-some None segments none some kept = absurd (omega (arith, ap length (none refl), kept))
renditions-some (Some x) segments none some kept = some x refl

-- the remaining length is the difference of two of the sums
pub left-progress : (renditions : ℕ) (k : KeptSegments) (r n at last : ℕ) (s t : PrefixSums) → AreKept renditions k → 0 < n → n ≤ length k.segments.items →
    r < renditions → at ≡ n - 1 → slice_get k.sums.items at ≡ Some s →
    last ≡ length k.segments.items - 1 → slice_get k.sums.items last ≡ Some t →
    get_or s.lengths.items r 0 + remaining_length r k.segments.items n ≡ get_or t.lengths.items r 0
left-progress renditions k r n at last s t are some few within at_is s_at last_is t_at =
    let n_is : suc at ≡ n = omega (arith, at_is, some) in
    subst (λ (j : ℕ). get_or s.lengths.items r 0 + remaining_length r k.segments.items j ≡ get_or t.lengths.items r 0) n_is
    (are.sums.rest at last r s t s_at t_at (omega (arith, last_is, some, few)) within)

-- a test that holds of each number below r, and of r, holds of each number below r + 1
pub each-more : (test : ℕ → Bool) (r : ℕ) → each_below r test ≡ true → test r ≡ true → each_below (r + 1) test ≡ true
each-more test r before here =
    let next : suc r ≡ r + 1 = omega arith in
    subst (λ (n : ℕ). each_below n test ≡ true) next (and_from (each_below r test) (test r) before here)

-- a test that fails at a number below a bound doesn't hold of each number below it
pub each-fails : (test : ℕ → Bool) (bound r : ℕ) → r < bound → test r ≡ false → each_below bound test ≡ false
each-fails test zero r h fails = absurd (omega arith)
each-fails test (suc bound) r h fails =
    let either : (r < bound) ⊎ (r ≡ bound) = grind arith in
    elim either [
      | inl before ↦ and_left (each_below bound test) (test bound) (each-fails test bound r before fails)
      | inr here ↦ and_right (each_below bound test) (test bound) (subst (λ (n : ℕ). test n ≡ false) here fails)
    ]

-- a test that holds of each number below a bound holds of any one of them
pub each-at : (test : ℕ → Bool) (bound r : ℕ) → r < bound → each_below bound test ≡ true → test r ≡ true
each-at test zero r h all = absurd (omega arith)
each-at test (suc bound) r h all =
    let parts = and_parts (each_below bound test) (test bound) all in
    let either : (r < bound) ⊎ (r ≡ bound) = grind arith in
    elim either [
      | inl before ↦ each-at test bound r before parts.0
      | inr here ↦ subst (λ (n : ℕ). test n ≡ true) (sym here) parts.1
    ]

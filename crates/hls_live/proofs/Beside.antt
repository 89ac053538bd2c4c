-- The sums at the segments of a line: one more segment, and some that are removed.
use Rattle.std.proofs.Common.{◌≡◌, ℕ, zero, suc, ◌+◌, ◌-◌, ◌*◌, ◌<◌, ◌≤◌, ◌⊎◌, List, [], ◌∷◌, ◌++◌, length, drop, get_or, cond, Option, Some, arith, refl, sym, ap, inl, inr, ◌∙◌, zero-add}
use Rattle.std.specs.Prelude.{slice_get}
use Rattle.std.specs.List.{sum_by, count_by}
use Rattle.std.proofs.lemmas.Option.{slice_get_within}
use Rattle.std.proofs.lemmas.List.{length-append, length-drop, drop-append-le, drop-drop, get_or_past}
use Rattle.std.proofs.lemmas.List.Sums.{sum_by-append}
use Rattle.std.proofs.Math.Seq.{take-length, drop-length}
use Rattle.hls_live.proofs.Cited.{at_snoc, at_drop, marks-append, marks-add}
use Rattle.hls_places_laws.specs.declared.line.live_segment.LiveSegment.{LiveSegment}
use Rattle.hls_places_laws.specs.Line.Lengths.{length_in, remaining_length, is_marked, marks_in}
use Rattle.hls_live.specs.declared.prefix_sums.PrefixSums.{PrefixSums}
use Rattle.hls_live.specs.PrefixSums.{AreExtendedLengths, IsSumsTo, AreSums, last_of, lengths_of, marks_of, IsSumsAfter}
use Rattle.hls_check_tables.specs.Steps.{cost_limit}

-- a list has an element at each number below its length
pub at-there : {A : Type 0} (xs : List A) (m : ℕ) → m < length xs → (x : A) × (slice_get xs m ≡ Some x)
at-there [] m within = absurd (omega (arith, within))
at-there (x ∷ xs) zero within = (x, refl)
at-there (x ∷ xs) (suc m) within = at-there xs m (omega (arith, within))

at-last : {A : Type 0} (xs : List A) (m : ℕ) → length xs ≡ suc m → (x : A) × (slice_get xs m ≡ Some x)
at-last xs m count = at-there xs m (omega (arith, count))

no-items : {A : Type 0} (xs : List A) → length xs ≡ 0 → xs ≡ []
no-items [] count = refl
no-items (x ∷ xs) count = absurd (omega (arith, count))

-- the sums at the last number are the last ones
last-at : (sums : List PrefixSums) (m : ℕ) (t : PrefixSums) → length sums ≡ suc m → slice_get sums m ≡ Some t → last_of sums ≡ Some t
last-at sums m t count at =
    let number : length sums - 1 ≡ m = omega (arith, count) in
    ap (slice_get sums) number ∙ at

-- without segments there are no sums
pub sums-none : (first breaks renditions : ℕ) → AreSums first breaks renditions [] []
sums-none first breaks renditions = record {
  count = refl;
  each = λ k s at. absurd (omega (arith, slice_get_within {A = PrefixSums} [] k s at));
  rest = λ k last r s t at also count within. absurd (omega (arith, count));
}

-- with one more segment, each length is at most the maximum for one segment more
longer-small : (before : List ℕ) (segment : LiveSegment) (lengths : List ℕ) (n : ℕ) → AreExtendedLengths before segment lengths →
    ((r : ℕ) → get_or before r 0 ≤ n * cost_limit) → ((r : ℕ) → length_in r segment ≤ cost_limit) → (r : ℕ) →
    get_or lengths r 0 ≤ suc n * cost_limit
longer-small before segment lengths n longer past short r =
    let either : (r < length segment.from.spots) ⊎ (length segment.from.spots ≤ r) = grind arith in
    elim either [
      | inl within ↦ omega (arith, longer.each r within, past r, short r)
      | inr outside ↦ omega (arith, get_or_past lengths r 0 (omega (arith, longer.count, outside)))
    ]

-- a length that is missing is 0, so it fits each bound
no-lengths : (r n : ℕ) → get_or {A = ℕ} [] r 0 ≤ n * cost_limit
no-lengths r n = omega arith

-- the sums at the last segment: all are 0 before the first segment
pub record IsLast (first breaks renditions : ℕ) (segments : List LiveSegment) (sums : List PrefixSums) : Type 0 where
  pub marks : marks_of breaks (last_of sums) ≡ breaks + marks_in (length segments) segments
  pub small : (r : ℕ) → get_or (lengths_of (last_of sums)) r 0 ≤ (first + length segments) * cost_limit

-- without segments, the sums at the last one are the removed marks and no lengths
no-segments : (first breaks renditions : ℕ) (segments : List LiveSegment) (sums : List PrefixSums) → segments ≡ [] → sums ≡ [] →
    IsLast first breaks renditions segments sums
no-segments first breaks renditions segments sums no_segment no_sums = rw (no_segment, no_sums) (record {
  marks = omega arith;
  small = λ r. omega arith;
})

-- the sums at the last of n segments count their marks and the removed ones, and each length fits its bound
is-last : (first breaks renditions : ℕ) (segments : List LiveSegment) (sums : List PrefixSums) (n : ℕ) → n ≡ length segments →
    AreSums first breaks renditions segments sums → IsLast first breaks renditions segments sums
is-last first breaks renditions segments sums zero n_is are =
    no-segments first breaks renditions segments sums (no-items segments (sym n_is)) (no-items sums (are.count ∙ sym n_is))
is-last first breaks renditions segments sums (suc m) n_is are =
    let last = at-last sums m (are.count ∙ sym n_is) in
    let to = are.each m last.0 last.1 in
    let is = last-at sums m last.0 (are.count ∙ sym n_is) last.1 in
    record {
      marks = ap (marks_of breaks) is ∙ (to.marks ∙ ap (λ (n : ℕ). breaks + marks_in n segments) n_is);
      small = λ r. omega (arith, ap (λ (o : Option PrefixSums). get_or (lengths_of o) r 0) is, to.small r, n_is);
    }

-- the sums at the last segment count all marks, and each length is at most the maximum for the segments so far
pub last-known : (first breaks renditions : ℕ) (segments : List LiveSegment) (sums : List PrefixSums) →
    AreSums first breaks renditions segments sums → IsLast first breaks renditions segments sums
last-known first breaks renditions segments sums are = is-last first breaks renditions segments sums (length segments) refl are

-- one more segment adds its length to what remains after the first n
left-append : (r n : ℕ) (segments : List LiveSegment) (segment : LiveSegment) → n ≤ length segments →
    remaining_length r (segments ++ segment ∷ []) n ≡ remaining_length r segments n + length_in r segment
left-append r n segments segment few =
    let parts : remaining_length r (segments ++ segment ∷ []) n ≡ sum_by (length_in r) (drop n segments ++ segment ∷ []) =
    ap (sum_by (length_in r)) (drop-append-le n segments (segment ∷ []) few) in
    let both = sum_by-append (length_in r) (drop n segments) (segment ∷ []) in
    let one : sum_by (length_in r) (segment ∷ []) ≡ length_in r segment = zero-add _ in
    parts ∙ (both ∙ ap (λ (x : ℕ). sum_by (length_in r) (drop n segments) + x) one)

-- one more segment adds its mark to the marks of all segments
marks-all : (segments : List LiveSegment) (segment : LiveSegment) →
    marks_in (suc (length segments)) (segments ++ segment ∷ []) ≡ marks_in (length segments) segments + cond segment.mark 1 0
marks-all segments segment =
    let longer : suc (length segments) ≡ length (segments ++ segment ∷ []) = omega (arith, length-append segments (segment ∷ [])) in
    let all : marks_in (suc (length segments)) (segments ++ segment ∷ []) ≡ count_by is_marked (segments ++ segment ∷ []) =
    ap (λ (n : ℕ). marks_in n (segments ++ segment ∷ [])) longer
    ∙ ap (count_by is_marked) (take-length (segments ++ segment ∷ [])) in
    let both = sum_by-append (λ (x : LiveSegment). cond (is_marked x) 1 0) segments (segment ∷ []) in
    let one : sum_by (λ (x : LiveSegment). cond (is_marked x) 1 0) (segment ∷ []) ≡ cond segment.mark 1 0 = zero-add _ in
    let before : marks_in (length segments) segments ≡ sum_by (λ (x : LiveSegment). cond (is_marked x) 1 0) segments =
    ap (count_by is_marked) (take-length segments) in
    all ∙ (both ∙ (ap (λ (x : ℕ). sum_by (λ (y : LiveSegment). cond (is_marked y) 1 0) segments + x) one
    ∙ ap (λ (x : ℕ). x + cond segment.mark 1 0) (sym before)))

-- nothing remains after all segments
left-none : (r : ℕ) (segments : List LiveSegment) (n : ℕ) → n ≡ length segments → remaining_length r segments n ≡ 0
left-none r segments n n_is = ap (λ (m : ℕ). remaining_length r segments m) n_is ∙ ap (sum_by (length_in r)) (drop-length segments)

-- with one more segment and its sums, each segment's sums still count the marks and bound the lengths up to it
pushed-each : (first breaks renditions : ℕ) (segments : List LiveSegment) (sums : List PrefixSums) (segment : LiveSegment) (next : PrefixSums) →
    AreSums first breaks renditions segments sums → IsSumsAfter breaks sums segment next → length segment.from.spots ≡ renditions →
    ((r : ℕ) → length_in r segment ≤ cost_limit) → (k : ℕ) (s : PrefixSums) → slice_get (sums ++ next ∷ []) k ≡ Some s →
    IsSumsTo first breaks renditions (segments ++ segment ∷ []) k s
pushed-each first breaks renditions segments sums segment next are is same short k s at =
    elim (at_snoc sums next k s at) [
      | inl old ↦
          let to = are.each k s old in
          let within : suc k ≤ length segments = omega (arith, slice_get_within sums k s old, are.count) in
          record { lengths = to.lengths; marks = to.marks ∙ ap (λ (n : ℕ). breaks + n) (sym (marks-append (suc k) segments (segment ∷ []) within)); small = to.small }
      | inr new ↦
          let number : k ≡ length segments = new.0 ∙ are.count in
          let last = last-known first breaks renditions segments sums are in
          rw (number, new.1) (record {
            lengths = is.lengths.count ∙ same;
            marks = omega (arith, is.marks, last.marks, marks-all segments segment);
            small = λ r.
                let bound = longer-small (lengths_of (last_of sums)) segment next.lengths.items (first + length segments) is.lengths last.small short r in
                omega (arith, bound);
          })
    ]

-- a segment's lengths plus what remains after it, the new segment included, are the lengths in the new segment's sums
rest-known : (first breaks renditions : ℕ) (segments : List LiveSegment) (sums : List PrefixSums) (segment : LiveSegment) (next : PrefixSums) →
    AreSums first breaks renditions segments sums → IsSumsAfter breaks sums segment next → length segment.from.spots ≡ renditions →
    (k m r : ℕ) (s : PrefixSums) → slice_get sums k ≡ Some s → length segments ≡ suc m → r < renditions →
    get_or s.lengths.items r 0 + remaining_length r (segments ++ segment ∷ []) (suc k) ≡ get_or next.lengths.items r 0
rest-known first breaks renditions segments sums segment next are is same k m r s at count within =
    let last = at-last sums m (are.count ∙ count) in
    let known = are.rest k m r s last.0 at last.1 (sym count) within in
    let few : suc k ≤ length segments = omega (arith, slice_get_within sums k s at, are.count) in
    let past : get_or (lengths_of (last_of sums)) r 0 ≡ get_or last.0.lengths.items r 0 =
    ap (λ (o : Option PrefixSums). get_or (lengths_of o) r 0) (last-at sums m last.0 (are.count ∙ count) last.1) in
    omega (arith, known, left-append r (suc k) segments segment few, is.lengths.each r (omega (arith, same, within)), past)

-- with one more segment, a segment's lengths plus what remains after it are still the lengths in the last sums
pushed-rest : (first breaks renditions : ℕ) (segments : List LiveSegment) (sums : List PrefixSums) (segment : LiveSegment) (next : PrefixSums) →
    AreSums first breaks renditions segments sums → IsSumsAfter breaks sums segment next → length segment.from.spots ≡ renditions →
    (k last r : ℕ) (s t : PrefixSums) → slice_get (sums ++ next ∷ []) k ≡ Some s → slice_get (sums ++ next ∷ []) last ≡ Some t →
    suc last ≡ length (segments ++ segment ∷ []) → r < renditions →
    get_or s.lengths.items r 0 + remaining_length r (segments ++ segment ∷ []) (suc k) ≡ get_or t.lengths.items r 0
pushed-rest first breaks renditions segments sums segment next are is same k last r s t at also count within =
    let longer = length-append segments (segment ∷ []) in
    elim (at_snoc sums next last t also) [
      | inl old ↦ absurd (omega (arith, slice_get_within sums last t old, are.count, count, longer))
      | inr end ↦ elim (at_snoc sums next k s at) [
        | inl old ↦
            let m : ℕ = length segments - 1 in
            let some : length segments ≡ suc m = omega (arith, slice_get_within sums k s old, are.count) in
            rw (end.1) (rest-known first breaks renditions segments sums segment next are is same k m r s old some within)
        | inr new ↦
            let all : suc k ≡ length (segments ++ segment ∷ []) = omega (arith, new.0, are.count, longer) in
            rw (end.1, new.1) (omega (arith, left-none r (segments ++ segment ∷ []) (suc k) all))
      ]
    ]

-- a segment of each rendition that is no longer than the maximum keeps one sum for each segment, if its own is appended
pub sums-pushed : (first breaks renditions : ℕ) (segments : List LiveSegment) (sums : List PrefixSums) (segment : LiveSegment) (next : PrefixSums) →
    AreSums first breaks renditions segments sums → IsSumsAfter breaks sums segment next → length segment.from.spots ≡ renditions →
    ((r : ℕ) → length_in r segment ≤ cost_limit) → AreSums first breaks renditions (segments ++ segment ∷ []) (sums ++ next ∷ [])
sums-pushed first breaks renditions segments sums segment next are is same short = record {
  count = omega (arith, length-append sums (next ∷ []), length-append segments (segment ∷ []), are.count);
  each = pushed-each first breaks renditions segments sums segment next are is same short;
  rest = pushed-rest first breaks renditions segments sums segment next are is same;
}

-- without the first n segments and their sums, the others still have their sums, and n more segments are counted as removed
pub sums-dropped : (first breaks renditions n : ℕ) (segments : List LiveSegment) (sums : List PrefixSums) → n ≤ length segments →
    AreSums first breaks renditions segments sums →
    AreSums (first + n) (breaks + marks_in n segments) renditions (drop n segments) (drop n sums)
sums-dropped first breaks renditions n segments sums few are =
    let count = length-drop n segments in
    record {
      count = omega (arith, count, length-drop n sums, are.count);
      each = λ k s at.
          let to = are.each (n + k) s (sym (at_drop sums n k) ∙ at) in
          let number : suc (n + k) ≡ n + suc k = omega arith in
          let marks : marks_in (suc (n + k)) segments ≡ marks_in n segments + marks_in (suc k) (drop n segments) =
          ap (λ (m : ℕ). marks_in m segments) number ∙ marks-add n (suc k) segments in
          record {
            lengths = to.lengths;
            marks = omega (arith, to.marks, marks);
            small = λ r. omega (arith, to.small r);
          };
      rest = λ k last r s t at also all within.
          let known = are.rest (n + k) (n + last) r s t (sym (at_drop sums n k) ∙ at) (sym (at_drop sums n last) ∙ also)
          (omega (arith, all, count, few)) within in
          let number : n + suc k ≡ suc (n + k) = omega arith in
          let left : remaining_length r (drop n segments) (suc k) ≡ remaining_length r segments (suc (n + k)) =
          ap (sum_by (length_in r)) (drop-drop (suc k) n segments) ∙ ap (λ (m : ℕ). remaining_length r segments m) number in
          omega (arith, known, left);
    }

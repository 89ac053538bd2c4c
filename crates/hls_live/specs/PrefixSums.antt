-- Sums over the segments of a line, one for each of them. For the proofs of this crate; no public clause cites it.
use Rattle.std.specs.Prelude.{◌≡◌, ℕ, suc, ◌+◌, ◌-◌, ◌*◌, ◌<◌, ◌≤◌, if◌then◌else◌, List, [], length, slice_index, slice_get, Option, None, Some}
use Rattle.hls_places_laws.specs.declared.line.live_segment.LiveSegment.{LiveSegment}
use Rattle.hls_places_laws.specs.Line.Lengths.{length_in, remaining_length, marks_in}
use Rattle.hls_live.specs.declared.prefix_sums.PrefixSums.{PrefixSums}
use Rattle.hls_check_tables.specs.Steps.{cost_limit}

-- the length in each rendition with one more segment added to the sums before
pub record AreExtendedLengths (before : List ℕ) (segment : LiveSegment) (lengths : List ℕ) : Type 0 where
  pub count : length lengths ≡ length segment.from.spots
  pub each : (r : ℕ) → r < length segment.from.spots → slice_index lengths r ≡ slice_index before r + length_in r segment

-- the sums up to and including the kept segment k
pub record IsSumsTo (first breaks renditions : ℕ) (segments : List LiveSegment) (k : ℕ) (sums : PrefixSums) : Type 0 where
  pub lengths : length sums.lengths.items ≡ renditions
  pub marks : sums.marks ≡ breaks + marks_in (suc k) segments
  pub small : (r : ℕ) → slice_index sums.lengths.items r ≤ (first + suc k) * cost_limit

-- one sum for each kept segment; the length that remains after a segment is the difference to the last sum
pub record AreSums (first breaks renditions : ℕ) (segments : List LiveSegment) (sums : List PrefixSums) : Type 0 where
  pub count : length sums ≡ length segments
  pub each : (k : ℕ) (s : PrefixSums) → slice_get sums k ≡ Some s → IsSumsTo first breaks renditions segments k s
  pub rest : (k last r : ℕ) (s t : PrefixSums) → slice_get sums k ≡ Some s → slice_get sums last ≡ Some t →
      suc last ≡ length segments → r < renditions →
      slice_index s.lengths.items r + remaining_length r segments (suc k) ≡ slice_index t.lengths.items r

-- the sums at the last of some segments, if there is one
abbrev pub last_of : List PrefixSums → Option PrefixSums
last_of sums = slice_get sums (length sums - 1)

-- the lengths of the sums in each rendition, none before the first segment
abbrev pub lengths_of : Option PrefixSums → List ℕ
lengths_of None = []
lengths_of (Some s) = s.lengths.items

-- the number of marks of the sums, or the number of removed marks before the first segment
abbrev pub marks_of : ℕ → Option PrefixSums → ℕ
marks_of breaks None = breaks
marks_of breaks (Some s) = s.marks

-- the sums with one more segment: its lengths and its mark are added
pub record IsNextSums (before : List ℕ) (marked : ℕ) (segment : LiveSegment) (next : PrefixSums) : Type 0 where
  pub lengths : AreExtendedLengths before segment next.lengths.items
  pub marks : next.marks ≡ marked + (if segment.mark then 1 else 0)

-- the sums at a segment that follows them
abbrev pub IsSumsAfter : ℕ → List PrefixSums → LiveSegment → PrefixSums → Type 0
IsSumsAfter breaks sums segment next = IsNextSums (lengths_of (last_of sums)) (marks_of breaks (last_of sums)) segment next

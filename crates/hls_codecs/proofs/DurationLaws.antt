-- The range of the durations in a column, and of equal ones.
use Rattle.std.proofs.Common.{◌≡◌, ℕ, zero, suc, ◌+◌, ◌-◌, ◌*◌, ◌<◌, ◌≤◌, min, max, List, [], ◌∷◌, drop, replicate, Some, None, refl, sym, ◌∙◌, ap, arith}
use Rattle.std.specs.Int.{w32}
use Rattle.std.specs.List.{fold}
use Rattle.hls_boxes.specs.Boxes.{number_at}
use Rattle.hls_media_laws.specs.Fields.{column}
use Rattle.hls_codecs.specs.declared.sample_durations.DurationRange.{DurationRange}
use Rattle.hls_media_laws.specs.Kinds.{traf_type}
use Rattle.hls_media_laws.specs.declared.track.Track.{Track}
use Rattle.hls_codecs.specs.Boxes.{box_in}
use Rattle.hls_codecs.specs.FrameRates.{one_duration, and_duration, range_of_durations, range_of_traf, head_of_track, range_from}

-- a column of no rows is empty
pub column-none : (n row : ℕ) (bytes : List ℕ) → n ≡ 0 → column n row 0 bytes ≡ []
unfolding column
column-none zero row bytes none = refl
column-none (suc n) row bytes none = absurd (omega arith)

-- a column of some rows is its first number and the column of the other rows
pub column-next : (n row : ℕ) (bytes : List ℕ) → 0 < n → column n row 0 bytes ≡ number_at w32 0 bytes ∷ column (n - 1) row 0 (drop row bytes)
unfolding column
column-next zero row bytes some = absurd (omega arith)
column-next (suc n) row bytes some = let e : suc n - 1 ≡ n = omega arith in rw e refl

-- a column of no rows has no range
pub range-none : (n row : ℕ) (bytes : List ℕ) → n ≡ 0 → None ≡ range_of_durations (column n row 0 bytes)
unfolding range_of_durations
range-none n row bytes none = rw (column-none n row bytes none) refl

-- adding a row's duration to the range so far leaves the range of the whole column as it is
pub range-next : (r : DurationRange) (n row : ℕ) (bytes : List ℕ) → 0 < n
    → fold and_duration (and_duration r (number_at w32 0 bytes)) (column (n - 1) row 0 (drop row bytes)) ≡ fold and_duration r (column n row 0 bytes)
range-next r n row bytes some = sym (ap (fold and_duration r) (column-next n row bytes some))

-- after the last row the range so far is that of the column
pub range-end : (r : DurationRange) (n left row : ℕ) (rows rest : List ℕ) → 0 < n → left ≡ 0
    → fold and_duration r (column left row 0 rest) ≡ fold and_duration (one_duration (number_at w32 0 rows)) (column (n - 1) row 0 (drop row rows))
    → Some r ≡ range_of_durations (column n row 0 rows)
unfolding range_of_durations
range-end r n left row rows rest some none is =
    rw (column-next n row rows some) (ap (λ (q : DurationRange). Some q) (sym (ap (fold and_duration r) (column-none left row rest none)) ∙ is))

-- if the rows are within the bytes, the other rows are within the bytes after the first row
pub rows-less : (n row len : ℕ) → 0 < n → n * row ≤ len → (n - 1) * row ≤ len - row
rows-less zero row len some fits = absurd (omega arith)
rows-less (suc n) row len some fits = let e : suc n - 1 ≡ n = omega arith in rw e (omega arith)

-- if some rows are within the bytes, the first one is
pub row-fits : (n row len : ℕ) → 0 < n → n * row ≤ len → row ≤ len
row-fits zero row len some fits = absurd (omega arith)
row-fits (suc n) row len some fits = omega arith

-- the smaller of two equal durations is that duration
least-self : (d : ℕ) → min d d ≡ d
least-self d = omega arith

-- the larger of two equal durations is that duration
most-self : (d : ℕ) → max d d ≡ d
most-self d = omega arith

-- the range of durations that are all d
abbrev equal-range : ℕ → ℕ → ℕ → DurationRange
equal-range d t c = record { least = d; most = d; total = t; count = c }

-- ranges with the same sum and number of equal durations are the same
same-range : (d t u c e : ℕ) → t ≡ u → c ≡ e → equal-range d t c ≡ equal-range d u e
same-range d t u c e total count = cc

-- one more duration d in a range of durations d adds d to the sum and 1 to the number
one-equal : (d t c : ℕ) → and_duration (record { least = d; most = d; total = t; count = c }) d ≡ record { least = d; most = d; total = t + d; count = c + 1 }
one-equal d t c = rw (least-self d, most-self d) refl

-- n + 1 equal durations are one and n more
one-more : (n d : ℕ) → replicate (suc n) d ≡ d ∷ replicate n d
one-more n d = refl

-- n more durations d in a range of durations d add n * d to the sum and n to the number
equals-from : (d t c n : ℕ) → fold and_duration (record { least = d; most = d; total = t; count = c }) (replicate n d) ≡ record { least = d; most = d; total = t + n * d; count = c + n }
equals-from d t c zero =
    let a : t + zero * d ≡ t = omega arith in
    let b : c + zero ≡ c = omega arith in
    sym (same-range d (t + zero * d) t (c + zero) c a b)
equals-from d t c (suc n) =
    let a : t + d + n * d ≡ t + suc n * d = omega arith in
    let b : c + 1 + n ≡ c + suc n = omega arith in
    let joined = same-range d (t + d + n * d) (t + suc n * d) (c + 1 + n) (c + suc n) a b in
    ap (fold and_duration (record { least = d; most = d; total = t; count = c })) (one-more n d)
    ∙ ap (λ (r : DurationRange). fold and_duration r (replicate n d)) (one-equal d t c)
    ∙ equals-from d (t + d) (c + 1) n ∙ joined

-- no durations have no range
pub equals-none : (n d : ℕ) → n ≡ 0 → None ≡ range_of_durations (replicate n d)
unfolding range_of_durations
equals-none zero d none = refl
equals-none (suc n) d none = absurd (omega arith)

-- n durations d have the range of d alone, with the sum d * n
pub equals-some : (n d : ℕ) → 0 < n → Some (record { least = d; most = d; total = d * n; count = n }) ≡ range_of_durations (replicate n d)
unfolding range_of_durations
equals-some zero d some = absurd (omega arith)
equals-some (suc n) d some =
    let a : d + n * d ≡ d * suc n = grind arith in
    let b : 1 + n ≡ suc n = omega arith in
    let joined = same-range d (d + n * d) (d * suc n) (1 + n) (suc n) a b in
    sym (ap range_of_durations (one-more n d) ∙ ap (λ (q : DurationRange). Some q) (equals-from d d 1 n ∙ joined))

-- no fragment is looked at after the last that may be
pub from-end : (most n : ℕ) (track : Track) (moof : List ℕ) → most ≡ 0 → None ≡ range_from most n track moof
unfolding range_from
from-end zero n track moof none = refl
from-end (suc most) n track moof none = absurd (omega arith)

-- after the last fragment that is there no durations are found
pub from-none : (most n : ℕ) (track : Track) (moof : List ℕ) → box_in traf_type n moof ≡ None → None ≡ range_from most n track moof
unfolding range_from
from-none zero n track moof is = refl
from-none (suc most) n track moof is = rw is refl

-- the durations are those of the first fragment of the track
pub from-found : (most n : ℕ) (track : Track) (moof traf head : List ℕ) → 0 < most → box_in traf_type n moof ≡ Some traf → head_of_track track.id traf ≡ Some head
    → range_of_traf track head traf ≡ range_from most n track moof
unfolding range_from
from-found zero n track moof traf head some is is_head = absurd (omega arith)
from-found (suc most) n track moof traf head some is is_head = rw is (rw is_head refl)

-- a fragment that isn't the track's is passed over
pub from-other : (most n : ℕ) (track : Track) (moof traf : List ℕ) → 0 < most → box_in traf_type n moof ≡ Some traf → head_of_track track.id traf ≡ None
    → range_from (most - 1) (n + 1) track moof ≡ range_from most n track moof
unfolding range_from
from-other zero n track moof traf some is is_head = absurd (omega arith)
from-other (suc most) n track moof traf some is is_head =
    let e : suc most - 1 ≡ most = omega arith in
    let next : n + 1 ≡ suc n = omega arith in
    rw (e, next, is) (rw is_head refl)

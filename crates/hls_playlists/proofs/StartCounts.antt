-- How many of a line's first segments started, along a walk over them.
use Rattle.std.proofs.Common.{◌≡◌, ◌∙◌, ℕ, suc, ◌+◌, ◌<◌, ◌≤◌, List, [], ◌∷◌, arith, ap, leb}
use Rattle.std.proofs.lemmas.Bool.{cond-false, cond-true, le-leb, lt-leb}
use Rattle.hls_places_laws.specs.declared.line.live_segment.LiveSegment.{LiveSegment}
use Rattle.hls_places_laws.specs.Order.{time_of}
use Rattle.hls_playlists.specs.StartTimes.{count_started}

-- if the next segment starts later, none of the rest counts
pub started_stops : (us count total time : ℕ) (walk rest : List LiveSegment) (x : LiveSegment) → walk ≡ x ∷ rest → time ≡ time_of x.from → us < time →
    count + count_started us walk ≡ total → count ≡ total
started_stops us count total time walk rest x is time_is later whole =
    let none = ap (count_started us) is ∙ cond-false (leb (time_of x.from) us) (suc (count_started us rest)) 0 (lt-leb (time_of x.from) us (omega (arith, later, time_is))) in
    omega (arith, whole, none)

-- if the next segment starts at the time or before it, it counts, and the rest make up the total
pub started_more : (us count total time : ℕ) (walk rest : List LiveSegment) (x : LiveSegment) → walk ≡ x ∷ rest → time ≡ time_of x.from → time ≤ us →
    count + count_started us walk ≡ total → count + 1 + count_started us rest ≡ total
started_more us count total time walk rest x is time_is started whole =
    let one = ap (count_started us) is ∙ cond-true (leb (time_of x.from) us) (suc (count_started us rest)) 0 (le-leb (time_of x.from) us (omega (arith, started, time_is))) in
    omega (arith, whole, one)

-- if no segment is left, the count is the total
pub started_all : (us count total : ℕ) (walk : List LiveSegment) → walk ≡ [] → count + count_started us walk ≡ total → count ≡ total
started_all us count total walk is whole =
    let none = ap (count_started us) is in
    omega (arith, whole, none)

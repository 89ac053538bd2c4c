-- The segments of a plan fit the target and can be written.
use Rattle.std.proofs.Common.{◌≡◌, ℕ, zero, suc, ◌+◌, ◌-◌, ◌*◌, ◌^◌, ◌<◌, ◌≤◌, Bool, false, List, [], ◌∷◌, length, take, drop, sum_by, refl, ap, arith, length-drop}
use Rattle.std.specs.Prelude.{All}
use Rattle.std.proofs.lemmas.List.Elements.{All-nil, All-cons, All-head, All-drop}
use Rattle.std.proofs.lemmas.List.Sums.{sum_by-cons, sum_by-take-drop, sum_by-take-le}
use Rattle.hls_media_laws.specs.declared.facts.Facts.{Facts}
use Rattle.hls_check_tables.specs.Tables.{Table, IsTable, spot_in, place_at}
use Rattle.hls_check_tables.specs.Plans.{StepsAreAllowed, last_place}
use Rattle.hls_core_laws.specs.Config.{IsEpoch}
use Rattle.hls_m3u8.specs.HasText.{IsSegment}
use Rattle.hls_media_laws.specs.FactLists.{len_of}
use Rattle.hls_playlists_laws.specs.JobResource.{bytes_between}
use Rattle.hls_playlists_laws.specs.Segments.{ResourceLayout, is_break, segment_between, plan_segments_from}
use Rattle.hls_playlists_laws.specs.SegmentLaws.{end_fragment, SegmentFits, AreUnits, SegmentsAreGood}
use Rattle.hls_playlists_laws.proofs.Dates.{date_good, start_small}
use Rattle.hls_playlists_laws.proofs.JoinedMedia.{fragment_at, fragments_rise}

-- if each unit has bytes and there is a unit, the first n of them have bytes, where n is above 0
some_taken : (n : ℕ) (facts : List Facts) → 0 < n → 0 < length facts → All (λ f. 0 < f.len) facts → 0 < sum_by len_of (take n facts)
some_taken zero facts some long each = absurd (omega arith)
some_taken (suc n) [] some long each = absurd (omega arith)
some_taken (suc n) (f ∷ facts) some long each =
    let one : 0 < f.len = All-head (λ f. 0 < f.len) f facts each in
    let sum : sum_by len_of (f ∷ take n facts) ≡ f.len + sum_by len_of (take n facts) = sum_by-cons len_of f (take n facts) in
    omega (arith, sum)

-- a span of units has bytes
pub some_bytes : (facts : List Facts) (a b : ℕ) → All (λ f. 0 < f.len) facts → a < b → b ≤ length facts → 0 < bytes_between facts a b
some_bytes facts a b each up within =
    let long : length (drop a facts) ≡ length facts - a = length-drop a facts in
    some_taken (b - a) (drop a facts) (omega arith) (omega (arith, long)) (All-drop (λ f. 0 < f.len) a facts each)

-- and no more than all units have
pub few_bytes : (facts : List Facts) (a b : ℕ) → bytes_between facts a b ≤ sum_by len_of facts
few_bytes facts a b =
    let all : sum_by len_of (take a facts) + sum_by len_of (drop a facts) ≡ sum_by len_of facts = sum_by-take-drop len_of facts a in
    let part : sum_by len_of (take (b - a) (drop a facts)) ≤ sum_by len_of (drop a facts) = sum_by-take-le len_of (drop a facts) (b - a) in
    omega arith

-- each segment from place p along a plan fits the target duration
pub fits_from : (t : Table) (cut : ResourceLayout) (p : ℕ) (mark : Bool) (rest : List ℕ) → StepsAreAllowed t p rest → cut.rendition < t.renditions →
    All (SegmentFits t.goal.target) (plan_segments_from cut t.places p mark rest)
fits_from t cut p mark [] leads within = All-nil (SegmentFits t.goal.target)
fits_from t cut p mark (q ∷ rest) leads within =
    All-cons (SegmentFits t.goal.target) (segment_between cut mark (place_at t.places p) (place_at t.places q)) (plan_segments_from cut t.places q (is_break (place_at t.places q)) rest)
    ((leads.0.step cut.rendition within).fits)
    (fits_from t cut q (is_break (place_at t.places q)) rest leads.1 within)

-- each segment from place p along a plan can be written, if the units have bytes, and not more than a recording may have
pub good_from : (t : Table) (cut : ResourceLayout) (p : ℕ) (mark : Bool) (rest : List ℕ) → IsTable t → StepsAreAllowed t p rest → cut.rendition < t.renditions → AreUnits cut → IsEpoch cut.epoch →
    fragment_at t cut.rendition (last_place p rest) ≤ length cut.facts → All (IsSegment cut.uri) (plan_segments_from cut t.places p mark rest)
good_from t cut p mark [] valid leads within units known over = All-nil (IsSegment cut.uri)
good_from t cut p mark (q ∷ rest) valid leads within units known over =
    let a : ℕ = fragment_at t cut.rendition p in
    let b : ℕ = fragment_at t cut.rendition q in
    let step = leads.0.step cut.rendition within in
    let later : a < b = step.later in
    let rises : b ≤ fragment_at t cut.rendition (last_place q rest) = fragments_rise t cut.rendition q rest within leads.1 in
    let fits : (spot_in (place_at t.places q) cut.rendition).prev_end - (spot_in (place_at t.places p) cut.rendition).start ≤ t.goal.target * 1000000 + 499999 = step.fits in
    let target : t.goal.target ≤ 3600 = valid.goal.target.1 in
    let some : 0 < bytes_between cut.facts a b = some_bytes cut.facts a b units.some later (omega arith) in
    let few : bytes_between cut.facts a b ≤ sum_by len_of cut.facts = few_bytes cut.facts a b in
    let before : bytes_between cut.facts cut.first a ≤ sum_by len_of cut.facts = few_bytes cut.facts cut.first a in
    let total : cut.init_length + sum_by len_of cut.facts ≤ 2 ^ 40 = units.total in
    let one : IsSegment cut.uri (segment_between cut mark (place_at t.places p) (place_at t.places q)) =
    record { date = date_good cut.epoch (spot_in (place_at t.places p) cut.rendition).start known (start_small t p cut.rendition valid); length = omega arith; range = (some, omega arith, omega arith); uri_is = refl } in
    All-cons (IsSegment cut.uri) (segment_between cut mark (place_at t.places p) (place_at t.places q)) (plan_segments_from cut t.places q (is_break (place_at t.places q)) rest)
    one
    (good_from t cut q (is_break (place_at t.places q)) rest valid leads.1 within units known over)

-- the segments of a table's plan fit the target duration and can be written
pub segments_are_good : SegmentsAreGood
segments_are_good t [] cut valid plan within units known over = absurd plan
segments_are_good t (p ∷ rest) cut valid plan within units known over =
    let at_end : fragment_at t cut.rendition (last_place p rest) ≡ end_fragment t cut.rendition = ap (fragment_at t cut.rendition) plan.1 in (
      fits_from t cut p false rest plan.2 within,
      good_from t cut p false rest valid plan.2 within units known (omega (arith, at_end)),
    )

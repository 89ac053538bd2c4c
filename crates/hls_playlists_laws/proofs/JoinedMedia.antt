-- The joined media of a plan's segments.
use Rattle.std.proofs.Common.{◌≡◌, ℕ, ◌+◌, ◌-◌, ◌<◌, ◌≤◌, Bool, false, List, [], ◌∷◌, ◌++◌, length, take, drop, sym, ◌∙◌, ap, arith}
use Rattle.std.specs.List.{concat}
use Rattle.hls_check_tables.specs.Tables.{Table, spot_in, place_at}
use Rattle.hls_check_tables.specs.Plans.{StepsAreAllowed, last_place}
use Rattle.hls_playlists_laws.specs.Media.{joined_media}
use Rattle.hls_playlists_laws.specs.JobResource.{bytes_between, units_between, resource_of, HaveLengths}
use Rattle.hls_playlists_laws.specs.Segments.{ResourceLayout, is_break, plan_segments_from}
use Rattle.hls_playlists_laws.specs.SegmentLaws.{end_fragment, SegmentsTileTheUnits}
use Rattle.hls_playlists_laws.proofs.Ranges.{bytes_are, units_join, taken, drop_drop}

-- the number of the fragment at place p of a table in rendition r
abbrev pub fragment_at : Table → ℕ → ℕ → ℕ
fragment_at t r p = (spot_in (place_at t.places p) r).fragment

-- the fragment numbers along a plan never decrease
pub fragments_rise : (t : Table) (r p : ℕ) (rest : List ℕ) → r < t.renditions → StepsAreAllowed t p rest →
    fragment_at t r p ≤ fragment_at t r (last_place p rest)
fragments_rise t r p [] within leads = omega arith
fragments_rise t r p (q ∷ rest) within leads =
    let here : fragment_at t r p < fragment_at t r q = (leads.0.step r within).later in
    let later : fragment_at t r q ≤ fragment_at t r (last_place q rest) = fragments_rise t r q rest within leads.1 in
    omega arith

-- the bytes of one range are the units that it spans
pub range_is : (head : List ℕ) (floor : ℕ) (units : List (List ℕ)) (first a b e n m : ℕ) →
    floor ≤ first → first ≤ a → a ≤ b → b ≤ e →
    n ≡ length (concat (units_between floor units a b)) → m ≡ length (concat (units_between floor units first a)) →
    take n (drop (length head + m) (resource_of head floor units first e)) ≡ concat (units_between floor units a b)
range_is head floor units first a b e n m low start up within is_n is_m =
    let us : List (List ℕ) = drop (first - floor) units in
    let i : ℕ = a - first in
    let d : ℕ = b - a in
    let x : ℕ = e - b in
    let later : drop (a - floor) units ≡ drop i us =
    sym (drop_drop (first - floor) i units ∙ ap (λ j. drop j units) (omega arith)) in
    let whole : e - first ≡ i + (d + x) = omega arith in
    let one : units_between floor units a b ≡ take d (drop i us) = ap (take d) later in
    rw (is_n, is_m, one, whole) (taken head us i d x)

-- the media of the segments from place p along a plan, joined, are the units from there to the plan's last place
pub joined_from : (t : Table) (cut : ResourceLayout) (head : List ℕ) (floor : ℕ) (units : List (List ℕ)) (e p : ℕ) (mark : Bool) (rest : List ℕ) →
    StepsAreAllowed t p rest → cut.rendition < t.renditions → length head ≡ cut.init_length → floor ≤ cut.first →
    cut.first ≤ fragment_at t cut.rendition p → fragment_at t cut.rendition (last_place p rest) ≤ e → HaveLengths cut.facts floor units →
    joined_media (plan_segments_from cut t.places p mark rest) (resource_of head floor units cut.first e) ≡
    concat (units_between floor units (fragment_at t cut.rendition p) (fragment_at t cut.rendition (last_place p rest)))
joined_from t cut head floor units e p mark [] leads within size low start over lens =
    let a : ℕ = fragment_at t cut.rendition p in
    ap (λ n. concat (take n (drop (a - floor) units))) (let none : 0 ≡ a - a = omega arith in none)
joined_from t cut head floor units e p mark (q ∷ rest) leads within size low start over lens =
    let a : ℕ = fragment_at t cut.rendition p in
    let b : ℕ = fragment_at t cut.rendition q in
    let c : ℕ = fragment_at t cut.rendition (last_place q rest) in
    let resource : List ℕ = resource_of head floor units cut.first e in
    let here : a < b = (leads.0.step cut.rendition within).later in
    let later : b ≤ c = fragments_rise t cut.rendition q rest within leads.1 in
    let n : ℕ = bytes_between cut.facts a b in
    let m : ℕ = bytes_between cut.facts cut.first a in
    let one : take n (drop (cut.init_length + m) resource) ≡ concat (units_between floor units a b) =
    ap (λ k. take n (drop (k + m) resource)) (sym size)
    ∙ range_is head floor units cut.first a b e n m low start (omega arith) (omega arith)
    (bytes_are cut.facts floor units a b (omega arith) lens) (bytes_are cut.facts floor units cut.first a low lens) in
    let others : joined_media (plan_segments_from cut t.places q (is_break (place_at t.places q)) rest) resource ≡ concat (units_between floor units b c) =
    joined_from t cut head floor units e q (is_break (place_at t.places q)) rest leads.1 within size low (omega arith) over lens in
    ap (λ xs. xs ++ joined_media (plan_segments_from cut t.places q (is_break (place_at t.places q)) rest) resource) one
    ∙ ap (λ ys. concat (units_between floor units a b) ++ ys) others
    ∙ units_join floor units a b c (omega arith) (omega arith) later

-- the bytes of a plan's segments, joined, are the units of the programme, each exactly once
pub media_are_the_units : SegmentsTileTheUnits
media_are_the_units t [] cut head floor units plan within first size low lens = absurd plan
media_are_the_units t (p ∷ rest) cut head floor units plan within first size low lens =
    let e : ℕ = end_fragment t cut.rendition in
    let at_first : cut.first ≡ fragment_at t cut.rendition p = first ∙ ap (fragment_at t cut.rendition) (sym plan.0) in
    let at_end : fragment_at t cut.rendition (last_place p rest) ≡ e = ap (fragment_at t cut.rendition) plan.1 in
    joined_from t cut head floor units e p false rest plan.2 within size low (omega (arith, at_first)) (omega (arith, at_end)) lens
    ∙ ap (λ k. concat (units_between floor units k (fragment_at t cut.rendition (last_place p rest)))) (sym at_first)
    ∙ ap (λ k. concat (units_between floor units cut.first k)) at_end

-- Places one after another, as an iteration yields them.
use Rattle.std.proofs.Common.{◌≡◌, ℕ, zero, suc, ◌+◌, ◌<◌, Bool, false, List, [], ◌∷◌, length, drop, refl, sym, ap, ◌∙◌, arith, inl, inr, subst, add-one, ◌++◌, append_assoc, append-nil}
use Rattle.std.specs.List.{range_with_len}
use Rattle.std.specs.Prelude.{All}
use Rattle.std.proofs.lemmas.Bool.{cases_lt}
use Rattle.std.proofs.lemmas.List.Elements.{All-head, All-tail}
use Rattle.hls_check_tables.specs.Tables.{IsPlaceOf, place_at}
use Rattle.hls_check_tables.specs.declared.spot.Spot.{Spot}
use Rattle.hls_m3u8.specs.declared.playlist.MediaSegment.{MediaSegment}
use Rattle.hls_places_laws.specs.Order.{spots_of}
use Rattle.hls_places_laws.specs.declared.place.Place.{Place}
use Rattle.hls_playlists_laws.specs.Segments.{ResourceLayout, is_break, segment_between, plan_segments_from, plan_segments}
use Rattle.hls_commands.specs.Each.{full_plan, ReachesNext}

-- the segments from a place to the first of the rest, and from each of the rest to the next
abbrev pub along : ResourceLayout → Bool → List Spot → List (List Spot) → List MediaSegment
along cut mark from [] = []
along cut mark from (to ∷ rest) = segment_between cut mark from to ∷ along cut (is_break to) to rest

-- if what follows i places begins with a place, it is place i, and the rest follows i + 1 places
next_from : (places : List (List Spot)) (i : ℕ) (to : List Spot) (rest : List (List Spot)) → drop i places ≡ to ∷ rest →
    (place_at places i ≡ to) × (drop (suc i) places ≡ rest)
next_from [] zero to rest is = absurd (cc)
next_from [] (suc i) to rest is = absurd (cc)
next_from (p ∷ places) zero to rest is = (cc, cc)
next_from (p ∷ places) (suc i) to rest is = next_from places i to rest is

-- the rest after place i begins with the next place
pub at_next : (places : List (List Spot)) (i : ℕ) (to : List Spot) (rest : List (List Spot)) → drop (i + 1) places ≡ to ∷ rest →
    (place_at places (i + 1) ≡ to) × (drop (i + 1 + 1) places ≡ rest)
at_next places i to rest is =
    let next = next_from places (i + 1) to rest is in
    (next.0, ap (λ (n : ℕ). drop n places) (add-one (i + 1)) ∙ next.1)

-- the segments from place i along the rest are those of a plan that contains place i and every later place
along_from : (cut : ResourceLayout) (places : List (List Spot)) (i : ℕ) (mark : Bool) (rest : List (List Spot)) → drop (i + 1) places ≡ rest →
    along cut mark (place_at places i) rest ≡ plan_segments_from cut places i mark (range_with_len (i + 1) (length rest))
along_from cut places i mark [] is = refl
along_from cut places i mark (to ∷ rest) is =
    let next = at_next places i to rest is in
    let p : List Spot = place_at places i in
    ap (λ (x : List Spot). segment_between cut mark p x ∷ along cut (is_break x) x rest) (sym next.0)
    ∙ ap (λ (ss : List MediaSegment). segment_between cut mark p (place_at places (i + 1)) ∷ ss)
    (along_from cut places (i + 1) (is_break (place_at places (i + 1))) rest next.1)

-- the segments from the first place along the others are those of the plan that contains every place
pub along_each : (cut : ResourceLayout) (first : List Spot) (rest : List (List Spot)) →
    along cut false first rest ≡ plan_segments cut (first ∷ rest) (full_plan (first ∷ rest))
along_each cut first rest = along_from cut (first ∷ rest) 0 false rest refl

-- the first place of an iteration has one spot, and so do the others
pub ones_of : (items : List Place) (first : Place) (rest : List Place) → items ≡ first ∷ rest →
    All (IsPlaceOf 1) (spots_of items) → IsPlaceOf 1 first.spots × All (IsPlaceOf 1) (spots_of rest)
ones_of items first rest is ones =
    let split : All (IsPlaceOf 1) (first.spots ∷ spots_of rest) = subst (λ (ps : List Place). All (IsPlaceOf 1) (spots_of ps)) is ones in (
      All-head (IsPlaceOf 1) first.spots (spots_of rest) split,
      All-tail (IsPlaceOf 1) first.spots (spots_of rest) split,
    )

-- adding the segment to the next place leaves the segments made and those to come the same in total
pub one_more : (cut : ResourceLayout) (made more : List MediaSegment) (mark next : Bool) (from : List Spot) (walk : List Place) (to : Place) (rest : List Place)
    (segment : MediaSegment) (whole : List MediaSegment) → walk ≡ to ∷ rest → more ≡ made ++ segment ∷ [] → segment ≡ segment_between cut mark from to.spots →
    next ≡ is_break to.spots → made ++ along cut mark from (spots_of walk) ≡ whole → more ++ along cut next to.spots (spots_of rest) ≡ whole
one_more cut made more mark next from walk to rest segment whole is pushed here break before =
    ap (λ (ss : List MediaSegment). ss ++ along cut next to.spots (spots_of rest)) pushed
    ∙ append_assoc made (segment ∷ []) (along cut next to.spots (spots_of rest))
    ∙ ap (λ (b : Bool). made ++ (segment ∷ along cut b to.spots (spots_of rest))) break
    ∙ ap (λ (s : MediaSegment). made ++ (s ∷ along cut (is_break to.spots) to.spots (spots_of rest))) here
    ∙ ap (λ (ps : List Place). made ++ along cut mark from (spots_of ps)) (sym is) ∙ before

-- after the last place the segments made are those of the plan that contains every place
pub all_made : (cut : ResourceLayout) (items : List Place) (first : Place) (rest left : List Place) (made : List MediaSegment) (mark : Bool) (from : List Spot) →
    items ≡ first ∷ rest → left ≡ [] →
    made ++ along cut mark from (spots_of left) ≡ along cut false first.spots (spots_of rest) →
    made ≡ plan_segments cut (spots_of items) (full_plan (spots_of items))
all_made cut items first rest left made mark from is over done =
    sym (append-nil made) ∙ ap (λ (ps : List Place). made ++ along cut mark from (spots_of ps)) (sym over) ∙ done
    ∙ along_each cut first.spots (spots_of rest)
    ∙ ap (λ (ps : List Place). plan_segments cut (spots_of ps) (full_plan (spots_of ps))) (sym is)

-- without places there is no segment
pub none_made : (cut : ResourceLayout) (items : List Place) (made : List MediaSegment) → items ≡ [] → made ≡ [] →
    made ≡ plan_segments cut (spots_of items) (full_plan (spots_of items))
none_made cut items made none empty = empty ∙ ap (λ (ps : List Place). plan_segments cut (spots_of ps) (full_plan (spots_of ps))) (sym none)

-- if each place before this one reaches the next, and this one does, each place up to it does
pub step_more : (target : ℕ) (places : List (List Spot)) (place : ℕ) → ((k : ℕ) → k < place → ReachesNext target places k) → ReachesNext target places place →
    (k : ℕ) → k < place + 1 → ReachesNext target places k
step_more target places place before here k within = elim (cases_lt k place) [
  | inl earlier ↦ before k earlier
  | inr last ↦ (let same : place ≡ k = omega arith in subst (ReachesNext target places) same here)
]

-- the next place of an iteration is the place after the present one
pub next_place : (items walk rest : List Place) (place : ℕ) (to : Place) → drop (place + 1) (spots_of items) ≡ spots_of walk → walk ≡ to ∷ rest →
    (place_at (spots_of items) (place + 1) ≡ to.spots) × (drop (place + 1 + 1) (spots_of items) ≡ spots_of rest)
next_place items walk rest place to left is =
    at_next (spots_of items) place to.spots (spots_of rest) (left ∙ ap spots_of is)

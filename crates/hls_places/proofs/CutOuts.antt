-- The range of places of a programme.
use Rattle.std.proofs.Common.{◌≡◌, ℕ, ◌+◌, ◌-◌, ◌<◌, List, [], ◌∷◌, length, map, take, drop, get_or, arith, refl, sym, ap, ◌∙◌}
use Rattle.std.specs.List.{slice_range, take-map}
use Rattle.std.proofs.lemmas.List.{drop-map}
use Rattle.hls_check_tables.specs.declared.goal.Goal.{Goal}
use Rattle.hls_check_tables.specs.declared.spot.Spot.{Spot}
use Rattle.hls_check_tables.specs.Tables.{table_of}
use Rattle.hls_places_laws.specs.declared.place.Place.{Place}
use Rattle.hls_places_laws.specs.Order.{spots_of, renditions_in}
use Rattle.hls_places_laws.specs.Programmes.{table_between}

-- the first place's number of spots is the number of renditions of the places
first-count : {X : Type 0} (f : X → Place) (xs : List X) (d : X) → 0 < length xs →
    length (f (get_or xs 0 d)).spots ≡ renditions_in (map f xs)
first-count f [] d some = absurd (omega arith)
first-count f (y ∷ ys) d some = refl

-- the table of the spots of the places with the numbers `from` to `to` is the table between these places
pub cut_out-is : {X : Type 0} (f : X → Place) (xs : List X) (d : X) (goal : Goal) (from to renditions : ℕ)
    (spots : List (List Spot)) → 0 < length xs → renditions ≡ length (f (get_or xs 0 d)).spots →
    spots ≡ spots_of (map f (take (to + 1 - from) (drop from xs))) →
    table_of goal renditions spots ≡ table_between goal (map f xs) from to
cut_out-is f xs d goal from to renditions spots some count spots_are =
    let first = first-count f xs d some in
    let range : map f (take (to + 1 - from) (drop from xs)) ≡ slice_range (map f xs) from (to + 1) =
    sym (ap (take (to + 1 - from)) (drop-map f from xs) ∙ take-map f (to + 1 - from) (drop from xs)) in
    rw (count, first, spots_are, range) refl

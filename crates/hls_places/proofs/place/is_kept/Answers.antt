-- If the spots end before the floors do, the place is kept: no spot is left that could be below its floor.
use Rattle.std.proofs.Common.{◌≡◌, ℕ, List, [], ◌∷◌, drop, true, arith, refl, sym, ◌∙◌}
use Rattle.std.proofs.lemmas.List.{drop_all}
use Rattle.hls_places_laws.specs.Programmes.{is_kept_above}
use Rattle.hls_places.proofs.place.is_kept.Goals as goal

-- a place without spots is kept, whatever the floors
kept-without : (floors : List ℕ) → is_kept_above floors [] ≡ true
kept-without [] = refl
kept-without (floor ∷ floors) = refl

pub returns-then-r-spots : goal.returns-then-r-spots
returns-then-r-spots c =
    let over = drop_all c.loop-r.r c.as_slice-spots.result.now (omega arith) in
    let kept = rw over at c.loop-r.invariant in
    sym (kept-without (drop c.loop-r.r c.args.floors.now)) ∙ rw (← c.as_slice-spots.ensures) kept

-- The spots so far, followed by those of the renditions that are left, are the spots of all; a rendition without a spot makes both sides none.
use Rattle.std.proofs.Common.{◌≡◌, ℕ, suc, ◌+◌, ◌<◌, List, [], ◌∷◌, ◌++◌, length, drop, Option, None, Some, arith, refl, sym, ap, ◌∙◌}
use Rattle.std.specs.Prelude.{option_map}
use Rattle.std.proofs.Math.Seq.{drop-cons}
use Rattle.std.proofs.lemmas.List.{append_assoc}
use Rattle.hls_check_tables.specs.declared.spot.Spot.{Spot}
use Rattle.hls_places_laws.specs.Sources.{Source, no_source, source_at}
use Rattle.hls_places_laws.specs.Spots.{near_spot}
use Rattle.hls_places_laws.specs.Places.{with_spot, spots}
use Rattle.hls_places.proofs.positions.find_spots.Goals as goal

-- the spots of the renditions from number r on are that of rendition r and those of the ones after it
from-next : (sources : List Source) (time r : ℕ) → r < length sources →
    spots (drop r sources) time ≡ with_spot (near_spot (source_at sources r) time) (spots (drop (r + 1) sources) time)
from-next sources time r within =
    let next : suc r ≡ r + 1 = omega arith in
    ap (λ (l : List Source). spots l time) (drop-cons sources r no_source within)
    ∙ ap (λ (n : ℕ). with_spot (near_spot (source_at sources r) time) (spots (drop n sources) time)) next

-- appending a spot to those that were found is the same as putting it before the others
one-more : (found : List Spot) (spot : Spot) (rest : Option (List Spot)) →
    option_map (λ more. (found ++ spot ∷ []) ++ more) rest ≡ option_map (λ more. found ++ more) (with_spot (Some spot) rest)
one-more found spot None = refl
one-more found spot (Some rest) = ap Some (append_assoc found (spot ∷ []) rest)

pub loop-r-preserved : goal.loop-r-preserved
loop-r-preserved c =
    let sources = c.args.renditions.now in
    let within : c.loop-r.r < length sources = omega (arith, c.requires.count, c.loop-r-test.true) in
    let at = c.requires.found c.loop-r.r within in
    let here : near_spot (source_at sources c.loop-r.r) c.args.time ≡ Some c.in-Some.spot =
    cc (c.find_near_spot.ensures, c.recording.ensures, c.tolerance.ensures, at.found, c.in-Some.is) in
    let rest = spots (drop (c.loop-r.r + 1) sources) c.args.time in
    ap (λ (l : List Spot). option_map (λ more. l ++ more) rest) c.in_ok-push-in-Some.ensures.items
    ∙ (one-more c.loop-r.spots.items c.in-Some.spot rest
    ∙ (ap (λ (o : Option Spot). option_map (λ more. c.loop-r.spots.items ++ more) (with_spot o rest)) (sym here)
    ∙ (ap (option_map (λ more. c.loop-r.spots.items ++ more)) (sym (from-next sources c.args.time c.loop-r.r within)) ∙ c.loop-r.invariant)))

pub returns-in-None : goal.returns-in-None
returns-in-None c =
    let sources = c.args.renditions.now in
    let within : c.loop-r.r < length sources = omega (arith, c.requires.count, c.loop-r-test.true) in
    let at = c.requires.found c.loop-r.r within in
    let here : near_spot (source_at sources c.loop-r.r) c.args.time ≡ None =
    cc (c.find_near_spot.ensures, c.recording.ensures, c.tolerance.ensures, at.found, c.in-None.is) in
    let rest = spots (drop (c.loop-r.r + 1) sources) c.args.time in
    ap (λ (o : Option Spot). option_map (λ more. c.loop-r.spots.items ++ more) (with_spot o rest)) (sym here)
    ∙ (ap (option_map (λ more. c.loop-r.spots.items ++ more)) (sym (from-next sources c.args.time c.loop-r.r within)) ∙ c.loop-r.invariant)

pub find_near_spot-requires : goal.find_near_spot-requires
find_near_spot-requires c = rw (c.recording.ensures) (c.requires.found c.loop-r.r (omega (arith, c.requires.count, c.loop-r-test.true))).run

-- A kept place's spots are appended to the copies; a place that isn't kept changes nothing.
use Rattle.std.proofs.Common.{◌≡◌, ◌∷◌, ◌++◌, ◌-◌, List, length, take, true, arith, ap, sym, ◌∙◌}
use Rattle.hls_check_tables.specs.declared.spot.Spot.{Spot}
use Rattle.hls_places_laws.specs.declared.place.Place.{Place}
use Rattle.hls_places_laws.specs.Order.{spots_of}
use Rattle.hls_places_laws.specs.Programmes.{is_kept, filter_kept}
use Rattle.hls_catchup.specs.KeptPlaces.{kept_places_from}
use Rattle.hls_catchup.proofs.Walks.{one_copy_more}
use Rattle.hls_catchup.proofs.kept_places.KeptPlaces.push_spots.Goals as goal

pub loop-place-preserved-in_ok-push : goal.loop-place-preserved-in_ok-push
loop-place-preserved-in_ok-push c =
    let k = c.args.self.now in
    let made : List (List Spot) = c.loop-place.spots.items in
    let p : Place = c.in-Some.place.now in
    let whole : List (List Spot) = spots_of (take c.args.count (kept_places_from k c.args.from)) in
    let rest : c.loop-place.walk ≡ p ∷ c.next_place.new.walk = c.in-Some.ensures in
    let is : is_kept k.floors p ≡ true = sym c.is_kept.ensures ∙ c.if-is_kept.true in
    let before : made ++ spots_of (take (c.args.count - length made) (filter_kept k.floors (p ∷ c.next_place.new.walk))) ≡ whole =
    ap (λ (ps : List Place). made ++ spots_of (take (c.args.count - length made) (filter_kept k.floors ps))) (sym rest) ∙ c.loop-place.invariant.copied in
    rw c.in_ok-push.ensures.items (record {
      copied = one_copy_more made c.in_ok-share.field-0 c.args.count k.floors p c.next_place.new.walk whole
          (omega (arith, c.len.ensures, c.if-len-count.false)) is c.in_ok-share.ensures before;
    })

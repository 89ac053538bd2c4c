-- The table has the places that the walk yielded, which are all places and in order.
use Rattle.std.proofs.Common.{◌≡◌, ◌++◌, List, ap, subst, ◌∙◌, sym, append-nil}
use Rattle.hls_check_tables.specs.Tables.{table_of}
use Rattle.hls_check_tables.specs.Orders.{IsOrderly}
use Rattle.hls_places_laws.specs.declared.place.Place.{Place}
use Rattle.hls_places_laws.specs.Order.{spots_of}
use Rattle.hls_commands.proofs.Whole.{whole_is_orderly}
use Rattle.hls_commands.proofs.table.build_table.Goals as goal

pub new-requires-2 : goal.new-requires-2
new-requires-2 c =
    let made : c.loop-place.spots.items ≡ spots_of c.args.places.now.items =
    sym (append-nil c.loop-place.spots.items)
    ∙ ap (λ (ps : List Place). c.loop-place.spots.items ++ spots_of ps) (sym c.in_default.ensures.0) ∙ c.loop-place.invariant in
    let table : c.new.result ≡ table_of c.args.goal 1 (spots_of c.args.places.now.items) =
    c.new.ensures ∙ ap (table_of c.args.goal 1) made in
    subst IsOrderly (sym table) (whole_is_orderly c.args.goal c.args.places.now.items c.requires.places c.requires.single)

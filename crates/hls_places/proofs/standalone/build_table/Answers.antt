-- The table that is built is the table between the two places (`cut_out-is`), which is valid and in order.
use Rattle.std.proofs.Common.{map, arith, sym, subst, ◌∙◌}
use Rattle.std.proofs.lemmas.List.{length-map}
use Rattle.hls_check_tables.specs.Orders.{IsOrderly}
use Rattle.hls_places.proofs.Cited.{cut_out-is_table, cut_out-is_orderly}
use Rattle.hls_places.proofs.CutOuts.{cut_out-is}
use Rattle.hls_places.proofs.standalone.build_table.Goals as goal

pub new-requires : goal.new-requires
new-requires c =
    let count = length-map c.args.places.now (λ p. p.now) in
    let made = cut_out-is (λ p. p.now) c.args.places.now c.index-places-0.result c.args.goal c.args.from c.args.to
    c.len-renditions.result c.in_ok-spots.spots.items (omega arith) c.len-renditions.ensures c.in_ok-spots.ensures in
    rw made (cut_out-is_table c.args.goal (map (λ p. p.now) c.args.places.now) c.args.from c.args.to
    c.requires.places (record { order = c.requires.order; within = omega (arith, count) })
    c.requires.goal c.requires.few)

pub new-requires-2 : goal.new-requires-2
new-requires-2 c =
    let count = length-map c.args.places.now (λ p. p.now) in
    let made = cut_out-is (λ p. p.now) c.args.places.now c.index-places-0.result c.args.goal c.args.from c.args.to
    c.len-renditions.result c.in_ok-spots.spots.items (omega arith) c.len-renditions.ensures c.in_ok-spots.ensures in
    subst IsOrderly (sym (c.new.ensures ∙ made)) (cut_out-is_orderly c.args.goal (map (λ p. p.now) c.args.places.now) c.args.from c.args.to
    c.requires.places (record { order = c.requires.order; within = omega (arith, count) }))

pub returns : goal.returns
returns c =
    let made = cut_out-is (λ p. p.now) c.args.places.now c.index-places-0.result c.args.goal c.args.from c.args.to
    c.len-renditions.result c.in_ok-spots.spots.items (omega arith) c.len-renditions.ensures c.in_ok-spots.ensures in
    c.new-2.ensures ∙ (c.new.ensures ∙ made)

-- The place in the middle decides: if it satisfies the predicate, so does each before it; if not, none after it does.
use Rattle.std.proofs.Common.{ℕ, true, false, arith, sym, ◌∙◌, ◌≡◌}
use Rattle.hls_core.specs.Predicates.{satisfies}
use Rattle.hls_core.proofs.KeptPlaces.{met-more, unmet-more}
use Rattle.hls_core.proofs.place_search.count_matching_front.Goals as goal

pub loop-low-preserved-then-satisfies : goal.loop-low-preserved-then-satisfies
loop-low-preserved-then-satisfies c =
    let middle : ℕ = c.guess_next-middle.result in
    let is : satisfies c.args.snapshot.now c.match-predicate.predicate c.get_place-there.result.now ≡ true = sym c.satisfies.ensures ∙ c.if-satisfies.true in
    record {
      order = omega (arith, c.guess_next-middle.ensures.high);
      within = c.loop-low.invariant.within;
      met = met-more c.args.snapshot.now c.place_count-high.ensures.valid c.match-predicate.predicate middle c.get_place-there.result.now c.get_place-there.ensures.there is;
      unmet = c.loop-low.invariant.unmet;
    }

pub loop-low-preserved : goal.loop-low-preserved
loop-low-preserved c =
    let middle : ℕ = c.guess_next-middle.result in
    let isnt : satisfies c.args.snapshot.now c.match-predicate.predicate c.get_place-there.result.now ≡ false = sym c.satisfies.ensures ∙ c.if-satisfies.false in
    record {
      order = omega (arith, c.guess_next-middle.ensures.low);
      within = omega (arith, c.guess_next-middle.ensures.high, c.loop-low.invariant.within);
      met = c.loop-low.invariant.met;
      unmet = unmet-more c.args.snapshot.now c.place_count-high.ensures.valid c.match-predicate.predicate middle c.get_place-there.result.now c.get_place-there.ensures.there isnt;
    }

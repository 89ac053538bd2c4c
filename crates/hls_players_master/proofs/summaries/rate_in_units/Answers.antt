-- Each number from the first of the newest units on finds a kept unit, and its durations join those before within the bounds of eight units.
use Rattle.std.proofs.Common.{◌≡◌, ◌+◌, ◌-◌, Some, ap, sym, ◌∙◌, arith}
use Rattle.std.specs.List.{fold}
use Rattle.std.specs.Prelude.{List, ℕ, option_and_then}
use Rattle.hls_codecs.specs.FrameRates.{rate_of_range}
use Rattle.hls_players_master.specs.Summaries.{and_unit}
use Rattle.hls_players_master.proofs.UnitLaws.{unit-next, unit-there, modest-more, rate-end}
use Rattle.hls_players_master.proofs.summaries.rate_in_units.Goals as goal

pub unreachable-requires : goal.unreachable-requires
unreachable-requires c =
    unit-there c.args.recording.now c.units.n c.units.invariant.low (omega (arith, c.count-count.ensures.valid.kept, c.count-count.ensures.value, c.units-test.true)) c.in_default.ensures

pub units-preserved : goal.units-preserved
units-preserved c =
    let same : c.deref.result.now ≡ c.in-Some.unit.now = cc in
    let next = unit-next c.args.recording.now c.units.n c.deref.result.now c.units.invariant.low (ap (λ (u : List ℕ). Some u) same ∙ c.in-Some.ensures) in
    record {
      value = rw (c.join_durations-range.ensures.value, c.read_durations.ensures.value) (sym (ap (fold (and_unit c.args.track) c.units.range) next) ∙ c.units.invariant.value);
      low = omega arith;
      high = omega arith;
      few = omega arith;
      modest = modest-more (8 - (c.count-count.result - c.units.n) + 1) (8 - (c.count-count.result - (c.units.n + 1))) c.join_durations-range.result (omega arith)
          (c.join_durations-range.ensures.modest (8 - (c.count-count.result - c.units.n)) 1 c.units.invariant.modest c.read_durations.ensures.modest);
    }

pub returns-in_default-range : goal.returns-in_default-range
returns-in_default-range c =
    ap (option_and_then (rate_of_range c.args.track.scale)) (sym c.in_default-range.is)
    ∙ rate-end c.args.track c.args.recording.now c.units.n c.units.range (omega (arith, c.count-count.ensures.valid.kept, c.count-count.ensures.value, c.units-test.false)) c.units.invariant.value

pub returns : goal.returns
returns c =
    c.frame_rate.ensures
    ∙ ap (option_and_then (rate_of_range c.args.track.scale)) (sym c.in-Some-range.is)
    ∙ rate-end c.args.track c.args.recording.now c.units.n c.units.range (omega (arith, c.count-count.ensures.valid.kept, c.count-count.ensures.value, c.units-test.false)) c.units.invariant.value

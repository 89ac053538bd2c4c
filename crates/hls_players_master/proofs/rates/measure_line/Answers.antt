-- After one more segment, the measure so far and the remaining segments still give the measure of the newest segments; its bytes and microseconds
-- stay bounded.
use Rattle.std.proofs.Common.{◌≡◌, suc, length, ap, sym, ◌∙◌, arith}
use Rattle.std.specs.List.{fold}
use Rattle.hls_places_laws.specs.declared.line.live_segment.LiveSegment.{LiveSegment}
use Rattle.hls_players_master.specs.Rates.{and_segment}
use Rattle.hls_players_master.proofs.rates.measure_line.Goals as goal

pub loop-segment-preserved : goal.loop-segment-preserved
loop-segment-preserved c =
    let shorter : length c.loop-segment.walk ≡ suc (length c.next_segment.new.walk) = ap (length {A = LiveSegment}) c.in-Some.ensures in
    record {
      value = rw c.and_segment-measure.ensures.value (sym (ap (fold (and_segment c.args.recording.now c.args.rendition) c.loop-segment.measure) c.in-Some.ensures) ∙ c.loop-segment.invariant.value);
      bytes = omega (arith, shorter, c.loop-segment.invariant.bytes, c.and_segment-measure.ensures.bytes);
      us = omega (arith, shorter, c.loop-segment.invariant.us, c.and_segment-measure.ensures.us);
    }

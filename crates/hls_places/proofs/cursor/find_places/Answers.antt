-- A decided fragment moves its place from those that are left to those so far (`walk-on`).
use Rattle.std.proofs.Common.{◌∙◌, sym, ap, length, arith}
use Rattle.hls_places.proofs.Walks.{was-told, walk-on, written-back}
use Rattle.hls_places.proofs.Lines.{timeline-of}
use Rattle.hls_places.proofs.cursor.find_places.Goals as goal

pub loop-done-preserved : goal.loop-done-preserved
loop-done-preserved c =
    let told = was-told c.args.renditions.now c.loop-done.done c.decide_fragment.new.search_positions c.loop-done.places.items c.decide_fragment.new.places.items
    c.in_ok-decide_fragment.field-0 c.in_ok-decide_fragment.ensures c.if-not-branch.false in
    let same = written-back c.loop-done.search_positions.len c.loop-done.search_positions.items c.decide_fragment.new.search_positions
    (sym (ap length c.deref_mut.ensures.value) ∙ c.deref_mut.ensures.len)
    (c.decide_fragment.auto.search_positions ∙ c.deref_mut.ensures.len) in
    record {
      cursor = rw same told.cursor;
      told = walk-on c.args.renditions.now c.loop-done.done c.decide_fragment.new.search_positions c.loop-done.places.items c.decide_fragment.new.places.items _
          (rw (← c.recording-first.ensures) (omega (arith, c.count-count.ensures.value))) told c.loop-done.invariant.told;
    }

pub decide_fragment-requires-clause-order : goal.decide_fragment-requires-clause-order
decide_fragment-requires-clause-order c =
    rw (← c.recording-first.ensures) (timeline-of c.recording-first.result.now c.count-count.ensures.valid)

-- Each step appends a copy of the next entry and counts one slot.
use Rattle.std.proofs.Common.{length}
use Rattle.hls_blocks.proofs.Copies.{one_copied, one_counted, room_to_count}
use Rattle.hls_blocks.proofs.copy.append_copies.Goals as goal

pub tick-requires : goal.tick-requires
tick-requires g c =
    room_to_count c.args.ticks.now c.loop-entry.ticks c.loop-entry.entry-index (length c.args.entries.now) 9223372036854775808
    c.loop-entry.invariant.count c.loop-entry-test.true c.requires

pub loop-entry-preserved : goal.loop-entry-preserved
loop-entry-preserved g c = record {
  values = one_copied (λ u. u.value) c.args.all.now.items c.loop-entry.all.items c.push.new.self.items c.args.entries.now c.loop-entry.entry-index
      c.entry-item.result c.in_ok-clone.field-0 c.loop-entry.invariant.values c.loop-entry-test.true c.entry-item.is c.in_ok-clone.ensures.cases c.in_ok-push.ensures.items;
  count = one_counted c.args.ticks.now c.loop-entry.ticks c.tick.new.self c.loop-entry.entry-index c.loop-entry.invariant.count c.tick.ensures;
}

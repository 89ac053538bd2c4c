-- Pass 0 counts the passes made so far, and the others are the passes of the opening with the numbers from 1 on.
use Rattle.std.proofs.Common.{◌≡◌, ◌-◌, map}
use Rattle.std.specs.List.{range_with_len}
use Rattle.crossbeam_queue.specs.Passes.{view, IsPassOf}
use Rattle.hls_turn.specs.Calls.{opening_pass}
use Rattle.hls_turn.proofs.Steps.{made_to}
use Rattle.hls_turn.proofs.turn.Turn.new.Given as goal

abbrev pub invariant-loop-number : goal.invariant-loop-number
invariant-loop-number g l = record {
  ours : IsPassOf l.queue l.queue_pass;
  first : l.queue_pass.id ≡ 0;
  knows : view l.queue_pass ≡ made_to l.number l.fn.snapshot;
  others : l.passes.items ≡ map (opening_pass l.queue.table.shared.table_id l.fn.snapshot) (range_with_len 1 (l.number - 1));
}

-- The range of the rows read, and of the rows still to read, is that of the column; the sum is small enough for 64 bits.
use Rattle.std.proofs.Common.{◌≡◌, ◌+◌, ◌-◌, ◌*◌, ◌^◌, ◌≤◌, length, drop}
use Rattle.std.specs.Int.{w32}
use Rattle.std.specs.List.{fold}
use Rattle.hls_boxes.specs.Boxes.{number_at}
use Rattle.hls_media_laws.specs.Fields.{column}
use Rattle.hls_codecs.specs.FrameRates.{one_duration, and_duration}
use Rattle.hls_codecs.proofs.sample_durations.range_of_column.Given as goal

abbrev pub invariant-rows : goal.invariant-rows
invariant-rows l = record {
  value : fold and_duration l.range (column l.left l.row 0 l.rest) ≡ fold and_duration (one_duration (number_at w32 0 l.fn.rows)) (column (l.count - 1) l.row 0 (drop l.row l.fn.rows));
  room : l.left * l.row ≤ length l.rest;
  total : l.range.total + l.left * 2 ^ 32 ≤ l.count * 2 ^ 32;
  least : l.range.least ≤ l.range.total;
  some : 1 ≤ l.range.count;
  counted : l.range.count + l.left ≡ l.count;
}

abbrev pub decreases-rows : goal.decreases-rows
decreases-rows l = l.left

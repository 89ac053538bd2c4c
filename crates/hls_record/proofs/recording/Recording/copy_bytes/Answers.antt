-- The bytes that a round appends are the resource's next ones, so the copy still equals the resource from `a` to the new place.
use Rattle.std.proofs.Common.{arith}
use Rattle.std.proofs.lemmas.List.{length-take-le}
use Rattle.hls_record.proofs.Ranges.{copied_more}
use Rattle.hls_record.proofs.recording.Recording.copy_bytes.Goals as goal

pub loop-at-preserved : goal.loop-at-preserved
loop-at-preserved c =
    let start = c.piece_up_to-piece.ensures.start in
    record {
      low = omega arith;
      high = c.piece_up_to-piece.ensures.few;
      bytes = rw (c.in_ok-extend_from_slice.ensures.items, start.is, length-take-le start.count start.piece start.few)
          (copied_more c.args.self.now c.args.a c.loop-at.at start.count start.piece c.loop-at.all.items c.loop-at.invariant.low start.found start.few c.loop-at.invariant.bytes);
    }

-- After one more variant stream of a rendition alone, the text so far and the lines of the remaining renditions are still the whole text; at the
-- end none remain.
use Rattle.std.proofs.Common.{◌++◌, arith}
use Rattle.hls_m3u8.specs.Lines.{text_of_lines}
use Rattle.hls_players_master.specs.Text.{variants_alone}
use Rattle.hls_players_master.proofs.LineLaws.{alone-next, alone-end}
use Rattle.hls_players_master.proofs.write.push_all_alone.Goals as goal

pub renditions-preserved : goal.renditions-preserved
renditions-preserved c = record {
  written = alone-next (c.args.out.now.items ++ text_of_lines (variants_alone c.args.summaries.now)) c.renditions.out.items c.push_stream_alone.new.out.items c.args.summaries.now c.renditions.n c.index-summaries-n.result c.renditions-test.true c.index-summaries-n.is
      c.in_ok-push_stream_alone.ensures c.renditions.invariant.written;
  within = omega arith;
}

pub returns : goal.returns
returns c = alone-end (c.args.out.now.items ++ text_of_lines (variants_alone c.args.summaries.now)) c.renditions.out.items c.args.summaries.now c.renditions.n c.renditions-test.false c.renditions.invariant.written

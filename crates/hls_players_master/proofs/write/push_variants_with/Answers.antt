-- After one more rendition, the text so far and the variant streams of the video rendition with the remaining audio groups are still the whole
-- text; at the end none remain.
use Rattle.std.proofs.Common.{◌++◌, [], arith}
use Rattle.hls_m3u8.specs.Lines.{text_of_lines}
use Rattle.hls_players_master.specs.Text.{variants_with}
use Rattle.hls_players_master.proofs.LineLaws.{variants-next, variants-end}
use Rattle.hls_players_master.proofs.write.push_variants_with.Goals as goal

pub renditions-preserved : goal.renditions-preserved
renditions-preserved c = record {
  written = variants-next c.args.summaries.now c.args.video.now (c.args.out.now.items ++ text_of_lines (variants_with c.args.summaries.now c.args.video.now [] c.args.summaries.now)) c.renditions.out.items c.push_variant_of.new.out.items c.args.summaries.now c.renditions.n c.index-summaries-n.result c.renditions-test.true c.index-summaries-n.is
      c.in_ok-push_variant_of.ensures c.renditions.invariant.written;
  within = omega arith;
}

pub returns : goal.returns
returns c = variants-end c.args.summaries.now c.args.video.now (c.args.out.now.items ++ text_of_lines (variants_with c.args.summaries.now c.args.video.now [] c.args.summaries.now)) c.renditions.out.items c.args.summaries.now c.renditions.n c.renditions-test.false c.renditions.invariant.written

-- After the variant streams of one more rendition, the text so far and those of the remaining renditions are still the whole text; at the end
-- none remain.
use Rattle.std.proofs.Common.{◌++◌, arith}
use Rattle.hls_m3u8.specs.Lines.{text_of_lines}
use Rattle.hls_players_master.specs.Text.{variants_of_videos}
use Rattle.hls_players_master.proofs.LineLaws.{videos-next, videos-end}
use Rattle.hls_players_master.proofs.write.push_videos.Goals as goal

pub renditions-preserved : goal.renditions-preserved
renditions-preserved c = record {
  written = videos-next c.args.summaries.now (c.args.out.now.items ++ text_of_lines (variants_of_videos c.args.summaries.now c.args.summaries.now)) c.renditions.out.items c.push_variants_of.new.out.items c.args.summaries.now c.renditions.n c.index-summaries-n.result c.renditions-test.true c.index-summaries-n.is
      c.in_ok-push_variants_of.ensures c.renditions.invariant.written;
  within = omega arith;
}

pub returns : goal.returns
returns c = videos-end c.args.summaries.now (c.args.out.now.items ++ text_of_lines (variants_of_videos c.args.summaries.now c.args.summaries.now)) c.renditions.out.items c.args.summaries.now c.renditions.n c.renditions-test.false c.renditions.invariant.written

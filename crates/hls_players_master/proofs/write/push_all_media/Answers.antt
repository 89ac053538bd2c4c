-- After the EXT-X-MEDIA lines of one more rendition, the text so far and those of the remaining renditions are still the whole text; at the end
-- none remain.
use Rattle.std.proofs.Common.{◌++◌, [], arith}
use Rattle.hls_m3u8.specs.Lines.{text_of_lines}
use Rattle.hls_players_master.specs.Text.{media_lines}
use Rattle.hls_players_master.proofs.LineLaws.{media-next, media-end}
use Rattle.hls_players_master.proofs.write.push_all_media.Goals as goal

pub renditions-preserved : goal.renditions-preserved
renditions-preserved c = record {
  written = media-next (c.args.out.now.items ++ text_of_lines (media_lines [] c.args.summaries.now)) c.renditions.out.items c.push_media_of.new.out.items c.args.summaries.now c.renditions.n c.index-summaries-n.result c.renditions-test.true c.index-summaries-n.is
      c.in_ok-push_media_of.ensures c.renditions.invariant.written;
  within = omega arith;
}

pub returns : goal.returns
returns c = media-end (c.args.out.now.items ++ text_of_lines (media_lines [] c.args.summaries.now)) c.renditions.out.items c.args.summaries.now c.renditions.n c.renditions-test.false c.renditions.invariant.written

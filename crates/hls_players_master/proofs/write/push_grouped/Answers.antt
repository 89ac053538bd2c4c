-- The EXT-X-MEDIA lines of all renditions are appended, and then the variant streams of the video renditions.
use Rattle.std.proofs.Common.{[]}
use Rattle.hls_players_master.specs.Text.{media_lines, variants_of_videos}
use Rattle.hls_players_master.proofs.LineLaws.{both-written}
use Rattle.hls_players_master.proofs.write.push_grouped.Goals as goal

pub returns : goal.returns
returns c =
    both-written c.args.out.now.items c.push_all_media.new.out.items c.push_videos.new.out.items (media_lines [] c.args.summaries.now)
    (variants_of_videos c.args.summaries.now c.args.summaries.now) c.in_ok-push_all_media.ensures c.in_ok-push_videos.ensures

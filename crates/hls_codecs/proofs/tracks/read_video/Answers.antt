-- The format of a video track is the one that the definition reads of its sample entry: the boxes follow the 78 bytes of fields.
use Rattle.std.proofs.Common.{◌∙◌}
use Rattle.std.proofs.lemmas.List.{take_rest}
use Rattle.hls_codecs.proofs.TrackLaws.{video-boxes}
use Rattle.hls_codecs.proofs.tracks.read_video.Goals as goal

pub returns : goal.returns
returns c =
    let is = rw (take_rest c.args.entry.now 78) at c.video_of_boxes.ensures in
    is ∙ video-boxes c.args.turned c.args.kind c.args.entry.now c.if-entry-lt78.false

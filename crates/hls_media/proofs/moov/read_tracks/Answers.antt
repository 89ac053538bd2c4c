-- The tracks of a `moov` are those collected, with the defaults of its `mvex` if it has one; if a box isn't valid, there are none.
use Rattle.std.proofs.Common.{slice_range, option_map, ap}
use Rattle.hls_media.specs.declared.moov.ByteSpan.{ByteSpan}
use Rattle.hls_media.specs.MoovSteps.{contents_with}
use Rattle.hls_media.proofs.TracksLaws.{read-nothing, read-alone, read-given}
use Rattle.hls_media.proofs.moov.read_tracks.Goals as goal

pub returns-in_default : goal.returns-in_default
returns-in_default c = read-nothing c.args.moov.now c.collect_tracks.new.ids c.in_default.ensures.value

pub returns-in_default-mvex : goal.returns-in_default-mvex
returns-in_default-mvex c =
    read-alone c.args.moov.now (contents_with c.args.moov.now c.collect_tracks.new.ids c.collect_tracks.new.tracks c.in-Some.rest.mvex) c.in-Some.ensures.value (ap (option_map (λ (s : ByteSpan). slice_range c.args.moov.now s.from s.to)) c.in_default-mvex.is)

pub returns : goal.returns
returns c =
    rw c.apply_mvex.ensures
    (read-given c.args.moov.now (contents_with c.args.moov.now c.collect_tracks.new.ids c.collect_tracks.new.tracks c.in-Some.rest.mvex) (slice_range c.args.moov.now c.in-Some-mvex.mvex.from c.in-Some-mvex.mvex.to)
    c.in-Some.ensures.value (ap (option_map (λ (s : ByteSpan). slice_range c.args.moov.now s.from s.to)) c.in-Some-mvex.is))

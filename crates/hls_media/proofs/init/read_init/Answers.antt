-- The result is the init section, or its fault: a bad box, no track, or too many tracks, the first that applies (InitReads).
use Rattle.std.proofs.Common.{slice_range, subst, ◌≡◌, length, Some, sym, arith}
use Rattle.hls_media_laws.specs.Inits.{init_of, init_of_tracks}
use Rattle.hls_media_laws.specs.IsInitOrUnit.{ReadsAs}
use Rattle.hls_media.proofs.InitReads.{init-unread, init-bad, init-empty, init-many, init-few}
use Rattle.hls_media.proofs.init.read_init.Goals as goal

pub returns-in_default : goal.returns-in_default
returns-in_default c = init-unread c.args.bytes.now c.in_default.ensures.value

pub returns-in_default-read_tracks : goal.returns-in_default-read_tracks
returns-in_default-read_tracks c = init-bad c.args.bytes.now (slice_range c.args.bytes.now c.in-Some.moov.from c.in-Some.moov.to) c.read_tracks.new.ids c.in-Some.ensures.value c.in_default-read_tracks.ensures

pub returns-then-len-eq0 : goal.returns-then-len-eq0
returns-then-len-eq0 c = init-empty c.args.bytes.now (slice_range c.args.bytes.now c.in-Some.moov.from c.in-Some.moov.to) c.read_tracks.new.ids c.in-Some-read_tracks.tracks c.in-Some.ensures.value c.in-Some-read_tracks.ensures (omega arith)

pub returns-then-len-gt-MAX_TRACKS : goal.returns-then-len-gt-MAX_TRACKS
returns-then-len-gt-MAX_TRACKS c = init-many c.args.bytes.now (slice_range c.args.bytes.now c.in-Some.moov.from c.in-Some.moov.to) c.read_tracks.new.ids c.in-Some-read_tracks.tracks c.in-Some.ensures.value c.in-Some-read_tracks.ensures (omega arith)

pub returns : goal.returns
returns c =
    let f : (init_of c.args.bytes.now ≡ init_of_tracks (Some c.in-Some-read_tracks.tracks)) × (length c.in-Some-read_tracks.tracks ≡ length c.read_tracks.new.ids) =
    init-few c.args.bytes.now (slice_range c.args.bytes.now c.in-Some.moov.from c.in-Some.moov.to) c.read_tracks.new.ids c.in-Some-read_tracks.tracks c.in-Some.ensures.value c.in-Some-read_tracks.ensures (omega arith) in
    subst (ReadsAs c.make_init.result) (sym f.0) (rw c.as_slice.ensures.items at c.make_init.ensures)

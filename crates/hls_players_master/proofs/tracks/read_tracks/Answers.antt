-- If a track isn't understood or is the second of its kind, the init section has no known tracks. Otherwise the remaining tracks give the same
-- result, and at the end it is the tracks found.
use Rattle.std.proofs.Common.{◌≡◌, ◌+◌, ◌-◌, sym, ◌∙◌, arith}
use Rattle.hls_players_master.proofs.TrackLaws.{tracks-end, tracks-bad, tracks-next}
use Rattle.hls_players_master.proofs.tracks.read_tracks.Goals as goal

pub returns-in_default : goal.returns-in_default
returns-in_default c =
    tracks-bad c.args.init.now (c.args.count - c.tracks.n) c.tracks.n c.tracks.known (omega arith) (sym c.and_track.ensures ∙ c.in_default.is) ∙ c.tracks.invariant.value

pub tracks-preserved : goal.tracks-preserved
tracks-preserved c =
    let less : c.args.count - (c.tracks.n + 1) ≡ c.args.count - c.tracks.n - 1 = omega arith in
    record {
      value = rw less (tracks-next c.args.init.now (c.args.count - c.tracks.n) c.tracks.n c.tracks.known c.in-Some.more (omega arith) (sym c.and_track.ensures ∙ c.in-Some.is) ∙ c.tracks.invariant.value);
      within = omega arith;
    }

pub returns : goal.returns
returns c = tracks-end c.args.init.now (c.args.count - c.tracks.n) c.tracks.n c.tracks.known (omega arith) ∙ c.tracks.invariant.value

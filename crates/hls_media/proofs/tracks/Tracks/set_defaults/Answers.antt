-- Each track with the number of the `trex` gets its defaults unless it has some: they are set in all slots, and the tracks are the first
-- of these.
use Rattle.std.proofs.lemmas.List.{take-map}
use Rattle.hls_media.specs.TrexSteps.{track_with_defaults}
use Rattle.hls_media.proofs.tracks.Tracks.set_defaults.Goals as goal

pub returns : goal.returns
returns c =
    rw (← c.self.view_is, c.set_all_defaults.ensures) (take-map (track_with_defaults c.args.trex) c.self.inside.count c.self.inside.slots)

-- A place that isn't there has no spots, so its time is 0.
use Rattle.std.proofs.Common.{◌∙◌, ap, sym}
use Rattle.std.specs.Option.{option_copied}
use Rattle.hls_catchup.proofs.CanonicalTimes.{time-none}
use Rattle.hls_catchup.proofs.canonical.time_of_place.Goals as goal

pub returns-in-None : goal.returns-in-None
returns-in-None c = time-none c.args.places.now c.args.number c.requires (sym (ap option_copied c.in-None.is) ∙ c.get.ensures)

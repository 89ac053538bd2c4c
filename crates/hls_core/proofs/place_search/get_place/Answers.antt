-- A place has one spot in each rendition of the channel.
use Rattle.std.proofs.Common.{sym, ap, ◌∙◌}
use Rattle.std.specs.Option.{option_copied}
use Rattle.hls_core.proofs.Cited.{spots-count}
use Rattle.hls_core.proofs.place_search.get_place.Goals as goal

pub returns-clause-spots : goal.returns-clause-spots
returns-clause-spots c =
    spots-count c.args.snapshot.now c.place_at.ensures.valid c.args.n c.in-Some.place.now
    (sym c.place_at.ensures.there ∙ ap option_copied c.in-Some.is)

-- The number is below the number of renditions, so it is within the slice.
use Rattle.std.proofs.Common.{arith, length, sym, ap, ◌∙◌}
use Rattle.hls_places.proofs.rendition_sources.RenditionSources.at.Goals as goal

pub offset_bounds-sources-r : goal.offset_bounds-sources-r
offset_bounds-sources-r c = omega (arith, c.self.invariant, c.requires, ap length c.self.view_is)

pub bounds-sources-r : goal.bounds-sources-r
bounds-sources-r c = omega (arith, c.requires, ap length c.self.view_is)

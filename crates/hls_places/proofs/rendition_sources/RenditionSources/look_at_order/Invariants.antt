-- Before each round, the units of each rendition so far are in order.
use Rattle.std.proofs.Common.{ℕ, ◌<◌}
use Rattle.hls_places_laws.specs.Sources.{source_at, IsTimeline}
use Rattle.hls_places.proofs.rendition_sources.RenditionSources.look_at_order.Given as goal

abbrev pub invariant-loop-r : goal.invariant-loop-r
invariant-loop-r l = (k : ℕ) → k < l.r → IsTimeline (source_at l.self k).facts

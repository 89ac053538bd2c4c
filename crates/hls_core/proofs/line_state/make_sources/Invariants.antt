-- Before each round, the sources so far are those of the renditions so far.
use Rattle.std.proofs.Common.{◌≡◌, map, take}
use Rattle.hls_core.specs.RenditionStates.{sources_by}
use Rattle.hls_core.proofs.line_state.make_sources.Given as goal

abbrev pub invariant-loop-r : goal.invariant-loop-r
invariant-loop-r l = l.sources.items ≡ take l.r (sources_by l.config (map (λ a. a.value) l.rendition_states))

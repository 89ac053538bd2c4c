-- Before each round, there is a state that hasn't begun for each rendition so far.
use Rattle.std.proofs.Common.{◌≡◌, map, take}
use Rattle.hls_core.specs.RenditionStates.{fresh_rendition_state}
use Rattle.hls_core.proofs.snapshot.make_renditions.Given as goal

abbrev pub invariant-loop-rendition : goal.invariant-loop-rendition
invariant-loop-rendition l = map (λ a. a.value) l.rendition_states.items ≡ map fresh_rendition_state (take l._rendition-index l.renditions)

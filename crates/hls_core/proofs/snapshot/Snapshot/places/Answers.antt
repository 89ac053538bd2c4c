-- The places of a snapshot are those of renditions whose units are in order of time.
use Rattle.std.proofs.Common.{subst}
use Rattle.hls_places_laws.specs.Sources.{AreSources}
use Rattle.hls_core_laws.specs.State.{State}
use Rattle.hls_core_laws.specs.Places.{sources}
use Rattle.hls_core.proofs.Cited.{states_are_timed}
use Rattle.hls_core.proofs.snapshot.Snapshot.places.Goals as goal

pub returns-clause-sources : goal.returns-clause-sources
returns-clause-sources c =
    subst (λ (s : State). AreSources (sources s)) c.self.view_is (states_are_timed _ c.self.invariant.valid)

-- Before each round, the renditions so far are finished: all are exactly if the remaining ones are.
use Rattle.std.proofs.Common.{◌≡◌, drop}
use Rattle.std.specs.List.{list_all}
use Rattle.hls_core_laws.specs.State.{channel}
use Rattle.hls_core_laws.specs.Places.{is_finished}
use Rattle.hls_catchup.proofs.recordings.all_finished.Given as goal

abbrev pub invariant-loop-rendition : goal.invariant-loop-rendition
invariant-loop-rendition l = list_all is_finished (drop l.rendition (channel l.snapshot).lanes) ≡ list_all is_finished (channel l.snapshot).lanes

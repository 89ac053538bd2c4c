-- Before each round, the list has one recording for each rendition so far, and each is that rendition's recording in the snapshot.
use Rattle.std.proofs.Common.{◌≡◌, ℕ, length, map, Some}
use Rattle.std.specs.Prelude.{slice_get}
use Rattle.hls_record.specs.RecordingData.{RecordingData}
use Rattle.hls_core.specs.Getters.{recording_of}
use Rattle.hls_catchup.proofs.recordings.collect_recordings.Given as goal

abbrev pub invariant-loop-rendition : goal.invariant-loop-rendition
invariant-loop-rendition l = record {
  count : length l.recordings.items ≡ l.rendition;
  each : (r : ℕ) (recorded : RecordingData) → slice_get (map (λ r. r.now) l.recordings.items) r ≡ Some recorded → recording_of l.snapshot r ≡ Some recorded;
}

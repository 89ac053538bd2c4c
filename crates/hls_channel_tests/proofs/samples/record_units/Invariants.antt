-- Before each round, the recording so far is a valid one.
use Rattle.hls_record.specs.IsRecorded.{IsRecorded}
use Rattle.hls_channel_tests.proofs.samples.record_units.Given as goal

abbrev pub invariant-loop-unit : goal.invariant-loop-unit
invariant-loop-unit l = IsRecorded l.recording

-- The duration of the samples of a `traf`, and the flags of the first one, run by run.
-- For the proofs of this crate; no public clause cites it.
use Rattle.std.specs.Prelude.{ℕ, ◌+◌, nat_lt, false, not, ◌&&◌, ◌||◌, if◌then◌else◌, Option, None, List}
use Rattle.hls_media_laws.specs.Fields.{sample_count, durations, total, some_missing}
use Rattle.hls_media_laws.specs.Runs.{first_sample_flags}
use Rattle.hls_media.specs.declared.samples.SampleSummary.{SampleSummary}

-- the summary before the first sample
abbrev pub no_samples : SampleSummary
no_samples = record { duration = 0; lacking = false; samples = false; flags = None }

-- the flags of the first sample after one more run: those so far if there was a sample, or else those of the run's first sample
abbrev pub flags_with_run : Option ℕ → SampleSummary → List ℕ → Option ℕ
flags_with_run flags t r = if not t.samples && nat_lt 0 (sample_count r) then first_sample_flags flags r else t.flags

-- the summary of samples after one more run
unfoldable pub samples_after_run : Option ℕ → Option ℕ → SampleSummary → List ℕ → SampleSummary
samples_after_run duration flags t r =
    let lengths = durations duration r in
    record { duration = t.duration + total lengths; lacking = t.lacking || some_missing lengths; samples = t.samples || nat_lt 0 (sample_count r); flags = flags_with_run flags t r }

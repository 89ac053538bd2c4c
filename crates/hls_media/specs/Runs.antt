-- What the code collects from the runs of a `traf`, box by box.
-- For the proofs of this crate; no public clause cites it.
use Rattle.std.specs.Prelude.{ℕ, ◌+◌, ◌*◌, ◌^◌, ◌≤◌, ◌==◌, if◌then◌else◌, Option, Some, None, IfSome, option_map, List}
use Rattle.hls_media_laws.specs.Kinds.{trun_type}
use Rattle.hls_media_laws.specs.Fields.{trun_fits}
use Rattle.hls_media.specs.declared.traf_runs.TrunVisitor.{TrunVisitor}
use Rattle.hls_media.specs.declared.traf_runs.RunSummary.{RunSummary}
use Rattle.hls_media.specs.declared.samples.SampleSummary.{SampleSummary}
use Rattle.hls_media.specs.RunPlacement.{placement_after_run, IsNear}
use Rattle.hls_media.specs.SampleSummary.{samples_after_run}

-- the summary of runs after one more
unfoldable pub summary_after_run : TrunVisitor → RunSummary → List ℕ → RunSummary
summary_after_run k s r = record { placement = placement_after_run k.size k.window s.placement r; sample_summary = option_map (λ (t : SampleSummary). samples_after_run k.duration k.flags t r) s.sample_summary }

-- the summary of runs after a `trun` with this content, or None if that isn't valid
unfoldable pub summary_after_trun : TrunVisitor → RunSummary → List ℕ → Option RunSummary
summary_after_trun k s r = if trun_fits r then Some (summary_after_run k s r) else None

-- one step of the walk over the runs of a `traf`: a `trun` is added to the summary if it is valid, and other boxes are skipped
abbrev pub runs_step : TrunVisitor → RunSummary → ℕ → List ℕ → Option RunSummary
runs_step k s kind content = if kind == trun_type then summary_after_trun k s content else Some s

-- a duration that samples of the given number of bytes can have
abbrev pub IsBrief : ℕ → Option SampleSummary → Type 0
IsBrief n sample_summary = IfSome sample_summary (λ t. t.duration ≤ n * 2 ^ 61)

-- the bounds of a summary of runs after boxes of n bytes: how far from the base the last run ends, and the duration of the samples
pub record IsBoundedRuns (k : TrunVisitor) (n : ℕ) (s : RunSummary) : Type 0 where
  pub base : IsNear (2 ^ 26) k.window.base
  pub near : (m : ℕ) → IsNear m k.window.base → IsNear (m + n) s.placement.end
  pub brief : IsBrief n s.sample_summary

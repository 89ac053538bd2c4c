-- The bounds of the positions and of the samples hold after this run, and so for the bytes of its whole box (`near-more`, `brief-more`).
use Rattle.std.proofs.Common.{◌+◌, ◌^◌, length, refl, arith}
use Rattle.hls_media.specs.DurationBounds.{near-more, brief-more}
use Rattle.hls_media.specs.Runs.{summary_after_run}
use Rattle.hls_media.proofs.traf_runs.summarize_run.Goals as goal

pub add_run-placement-requires-clause-end : goal.add_run-placement-requires-clause-end
add_run-placement-requires-clause-end c =
    near-more (2 ^ 26 + 2 ^ 26) (2 ^ 27) c.args.state.placement.end (omega arith) (c.requires.known.near (2 ^ 26) c.requires.known.base)

pub returns-clause-value : goal.returns-clause-value
unfolding summary_after_run
returns-clause-value c = rw (c.add_run-placement.ensures.value, c.add_run_samples-sample_summary.ensures.value) refl

pub returns-clause-known : goal.returns-clause-known
returns-clause-known c = λ n known. record {
  base = known.base;
  near = λ m base.
      near-more (m + n + length c.args.content.now) (m + (n + 8 + length c.args.content.now)) c.add_run-placement.result.end (omega arith)
      (c.add_run-placement.ensures.near (m + n) (near-more m (m + n) c.args.rules.window.base (omega arith) base) (known.near m base));
  brief = brief-more (n + length c.args.content.now) (n + 8 + length c.args.content.now) c.add_run_samples-sample_summary.result (omega arith) (c.add_run_samples-sample_summary.ensures.brief n known.brief);
}

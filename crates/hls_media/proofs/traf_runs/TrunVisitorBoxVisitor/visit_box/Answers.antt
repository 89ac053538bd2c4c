-- A `trun` is added to the summary if its fields are within it; other boxes leave the summary and its bounds.
use Rattle.std.proofs.Common.{◌+◌, length, Some, refl, sym, ◌∙◌, ap, arith}
use Rattle.hls_media.specs.DurationBounds.{runs-more}
use Rattle.hls_media.specs.Runs.{summary_after_trun}
use Rattle.hls_media.proofs.RunLaws.{run_fits-none, run_fits-some}
use Rattle.hls_media.proofs.traf_runs.TrunVisitorBoxVisitor.visit_box.Goals as goal

pub returns-then-kind-ne-TRUN-clause-known : goal.returns-then-kind-ne-TRUN-clause-known
returns-then-kind-ne-TRUN-clause-known c = λ n known. runs-more c.args.self.now n (n + 8 + length c.args.content.now) c.args.state (omega arith) known

pub returns-in_default-clause-value : goal.returns-in_default-clause-value
unfolding summary_after_trun
returns-in_default-clause-value c =
    let none = run_fits-none c.args.content.now (sym c.parse_trun.ensures.value ∙ c.in_default.is) in
    rw (c.if-kind-ne-TRUN.false, none) refl

pub returns-clause-value : goal.returns-clause-value
unfolding summary_after_trun
returns-clause-value c =
    let some = run_fits-some c.args.content.now c.in-Some.run' c.in-Some.ensures.is_run in
    rw (c.if-kind-ne-TRUN.false, some) (ap Some c.summarize_run.ensures.value)

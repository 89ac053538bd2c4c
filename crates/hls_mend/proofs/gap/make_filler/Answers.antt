-- What is made of the first sample of a source is a filler of the source.
use Rattle.std.proofs.Common.{arith}
use Rattle.hls_mend.specs.MendedUnits.{source_view}
use Rattle.hls_mend.specs.FirstSamples.{first_view}
use Rattle.hls_mend.proofs.FirstSteps.{filler_by_first}
use Rattle.hls_mend.proofs.gap.make_filler.Goals as goal

pub returns-clause-value : goal.returns-clause-value
returns-clause-value c =
    filler_by_first c.args.init.now (source_view c.args.source) (first_view c.args.first) c.args.start c.args.ticks _ c.span_for-span.result _ c.read_span.result
    c.requires.read c.span_for-span.ensures c.in_ok-made.ensures (omega arith) c.read_span.ensures.value

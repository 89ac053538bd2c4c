-- A span isn't filled if its source can't be read.
use Rattle.std.proofs.Common.{rules, ◌≡◌, Some, None}
use Rattle.hls_mend.specs.MendedUnits.{source_of, source_view}
use Rattle.hls_mend.specs.FirstSamples.{first_in}
use Rattle.hls_mend.proofs.FirstSteps.{unread_fills_no_span}
use Rattle.hls_mend.proofs.gap.make_span_filler.Goals as goal

pub returns-in_default-2-clause-value : goal.returns-in_default-2-clause-value
returns-in_default-2-clause-value c =
    let source : Some (source_view c.in-Some.source) ≡ source_of c.args.bandwidth c.args.recording.now.init c.args.recording.now = search rules in
    let unread : None ≡ first_in c.args.recording.now.init (source_view c.in-Some.source).unit = search rules in
    unread_fills_no_span c.args.bandwidth c.args.recording.now (source_view c.in-Some.source) c.args.start c.args.ticks source unread

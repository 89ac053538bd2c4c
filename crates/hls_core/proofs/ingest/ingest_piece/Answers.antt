-- By whether the reader finds a fault in the piece: if not, the result is that of draining; else a part before the fault, or the fault.
use Rattle.std.proofs.Common.{◌≡◌, ◌∙◌, List, ℕ, Err, ap, sym, subst, rules}
use Rattle.hls_boxes.specs.Parts.{text_fault}
use Rattle.hls_core.specs.DrainSteps.{Drains}
use Rattle.hls_core.proofs.FeedLaws.{broken_behind, goes_behind, stops_before}
use Rattle.hls_core.proofs.ingest.ingest_piece.Goals as goal

pub returns-in-Ok-clause-ingests : goal.returns-in-Ok-clause-ingests
returns-in-Ok-clause-ingests g c = λ start content reached.
    let x = g.T.PartSink.progress c.args.kept.now c.args.channel.now in
    let y = g.T.PartSink.progress c.drain_parts.new.kept c.drain_parts.new.channel in
    let fed = c.in-Ok.ensures.ok in
    goes_behind (g.T.PartSink.yields c.args.sink.now) start x y content c.args.reader.now c.args.piece.now c.drain_parts.new.reader c.drain_parts.result reached
    (ap text_fault (sym fed.0) ∙ fed.1)
    (subst (λ (text : List ℕ). Drains (g.T.PartSink.yields c.args.sink.now) text c.drain_parts.new.reader x y c.drain_parts.result) fed.0 c.drain_parts.ensures.drains)

pub returns-in_err-drain_parts-in_default : goal.returns-in_err-drain_parts-in_default
returns-in_err-drain_parts-in_default g c =
    let is : c.from_residual.result ≡ Err c.in_err-drain_parts-in_default.field-0.0 = search rules in
    let x = g.T.PartSink.progress c.args.kept.now c.args.channel.now in
    let y = g.T.PartSink.progress c.drain_parts-in_default.new.kept c.drain_parts-in_default.new.channel in record {
      fits = c.drain_parts-in_default.ensures.fits;
      changes = c.drain_parts-in_default.ensures.changes;
      ingests = λ start content reached.
          rw is
          (stops_before (g.T.PartSink.yields c.args.sink.now) start x y content c.args.reader.now c.args.piece.now c.feed.new.self c.drain_parts-in_default.new.reader c.in-Err.fault c.in_err-drain_parts-in_default.field-0.0
          c.in_default.not-Memory c.in-Err.ensures.err reached c.in_err-drain_parts-in_default.ensures.drains);
    }

pub returns-in_ok-drain_parts-in_default : goal.returns-in_ok-drain_parts-in_default
returns-in_ok-drain_parts-in_default g c =
    let x = g.T.PartSink.progress c.args.kept.now c.args.channel.now in
    let y = g.T.PartSink.progress c.drain_parts-in_default.new.kept c.drain_parts-in_default.new.channel in record {
      fits = c.drain_parts-in_default.ensures.fits;
      changes = c.drain_parts-in_default.ensures.changes;
      ingests = λ start content reached.
          broken_behind (g.T.PartSink.yields c.args.sink.now) start x y content c.args.reader.now c.args.piece.now c.feed.new.self c.drain_parts-in_default.new.reader c.in-Err.fault
          c.in_default.not-Memory c.in-Err.ensures.err reached c.in_ok-drain_parts-in_default.ensures.drains;
    }

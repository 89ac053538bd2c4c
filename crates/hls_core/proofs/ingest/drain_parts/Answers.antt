-- Each round takes the first part of what is left and has it accepted; a part that isn't accepted is the result.
use Rattle.std.proofs.Common.{◌≡◌, ◌∙◌, ap, sym, Err, rules}
use Rattle.hls_boxes.specs.Parts.{StreamCut, fault_of_rest}
use Rattle.hls_boxes.specs.Reader.{TakesFirstPart}
use Rattle.hls_core.specs.declared.feed_fault.FeedFault.TheVariants.{Memory}
use Rattle.hls_core.proofs.DrainLaws.{part_stops, taken_part, wanted_in}
use Rattle.hls_core.proofs.ingest.drain_parts.Goals as goal

pub returns-in_err-part-clause-drains : goal.returns-in_err-part-clause-drains
returns-in_err-part-clause-drains g c =
    let is : c.from_residual.result ≡ Err Memory = search rules in
    let x = g.T.PartSink.progress c.args.kept.now c.args.channel.now in
    let y = g.T.PartSink.progress c.loop-part.kept c.loop-part.channel in
    rw is (wanted_in (g.T.PartSink.yields c.args.sink.now) x y c.args.reader.now c.loop-part.reader c.loop-part.invariant.taken)

pub loop-part-preserved : goal.loop-part-preserved
loop-part-preserved g c =
    let first : TakesFirstPart c.in-Some.part c.loop-part.reader c.take.new.self = rw c.in-Some.is at c.in_ok-part.ensures.ok in
    let x = g.T.PartSink.progress c.args.kept.now c.args.channel.now in
    let y = g.T.PartSink.progress c.loop-part.kept c.loop-part.channel in
    let z = g.T.PartSink.progress c.accept_part.new.kept c.accept_part.new.channel in record {
      fits = c.accept_part.ensures.fits;
      changes = g.T.PartSink.changes_trans c.args.kept.now c.args.channel.now c.loop-part.kept c.loop-part.channel c.accept_part.new.kept c.accept_part.new.channel
          c.loop-part.invariant.changes c.accept_part.ensures.changes;
      taken = taken_part (g.T.PartSink.yields c.args.sink.now) x y z c.args.reader.now c.loop-part.reader c.take.new.self c.in-Some.part c.loop-part.invariant.taken first c.in_ok-accept_part.ensures.yields;
      fault = sym (ap (λ (cut : StreamCut). fault_of_rest cut.left) first.now) ∙ c.loop-part.invariant.fault;
    }

pub returns-in_err-accept_part-clause-drains : goal.returns-in_err-accept_part-clause-drains
returns-in_err-accept_part-clause-drains g c =
    let first : TakesFirstPart c.in-Some.part c.loop-part.reader c.take.new.self = rw c.in-Some.is at c.in_ok-part.ensures.ok in
    let is : c.from_residual-in_err-accept_part.result ≡ Err c.in_err-accept_part.field-0.0 = search rules in
    let x = g.T.PartSink.progress c.args.kept.now c.args.channel.now in
    let y = g.T.PartSink.progress c.loop-part.kept c.loop-part.channel in
    let z = g.T.PartSink.progress c.accept_part.new.kept c.accept_part.new.channel in
    rw is (part_stops (g.T.PartSink.yields c.args.sink.now) x y z c.args.reader.now c.loop-part.reader c.take.new.self c.in-Some.part c.in_err-accept_part.field-0.0 c.loop-part.invariant.taken first c.in_err-accept_part.ensures.yields)

-- The fillers before the present one were submitted; it is the next, or the loop stops there.
use Rattle.std.proofs.Common.{rules, ◌≡◌, Bool, true, false, Ok, ap, subst}
use Rattle.hls_api.{specs.Ingest.Progress, proofs.Callers.acted_on}
use Rattle.hls_connection.specs.{IngestStates.progress_of, MendingStates.SubmitsFillerOrFails}
use Rattle.hls_connection.proofs.MendLaws.{counts_on, fillers_more, read_filler, stops_at_overlap}
use Rattle.hls_connection.proofs.ingest_sink.IngestSink.submit_fillers.Goals as goal

pub submit_filler-requires-clause-usable : goal.submit_filler-requires-clause-usable
submit_filler-requires-clause-usable g c = c.loop-filler.invariant.usable

pub submit_filler-requires-clause-reads : goal.submit_filler-requires-clause-reads
submit_filler-requires-clause-reads g c =
    read_filler c.args.taken.now.init c.loop-filler.taken.init c.args.fillers.now c.loop-filler.filler-index c.filler-item.result
    (ap (λ (p : Progress). p.init) c.loop-filler.invariant.same) c.loop-filler-test.true c.filler-item.is c.requires.reads

pub returns-in_err-is_joined-clause-act_steps : goal.returns-in_err-is_joined-clause-act_steps
returns-in_err-is_joined-clause-act_steps g c = acted_on _ _ _ _ _ _ _ c.loop-filler.invariant.act_steps c.submit_filler.ensures.act_steps

pub returns-then-not-is_joined-clause-act_steps : goal.returns-then-not-is_joined-clause-act_steps
returns-then-not-is_joined-clause-act_steps g c = acted_on _ _ _ _ _ _ _ c.loop-filler.invariant.act_steps c.submit_filler.ensures.act_steps

pub returns-then-not-is_joined-clause-fills : goal.returns-then-not-is_joined-clause-fills
returns-then-not-is_joined-clause-fills g c =
    let overlaps : c.in_ok-is_joined.is_joined ≡ false = search rules in
    stops_at_overlap c.args.self.now.encoder.rendition (progress_of c.args.taken.now) (progress_of c.loop-filler.taken) (progress_of c.submit_filler.new.taken) c.args.fillers.now
    c.loop-filler.filler-index c.filler-item.result c.loop-filler-test.true c.filler-item.is c.loop-filler.invariant.same c.loop-filler.invariant.fills
    (subst (λ (b : Bool). SubmitsFillerOrFails c.args.self.now.encoder.rendition (progress_of c.loop-filler.taken) c.filler-item.result (progress_of c.submit_filler.new.taken) (Ok b)) overlaps
    c.in_ok-is_joined.ensures.fills)

pub loop-filler-preserved : goal.loop-filler-preserved
loop-filler-preserved g c =
    let joined : c.in_ok-is_joined.is_joined ≡ true = search rules in
    let fills : SubmitsFillerOrFails c.args.self.now.encoder.rendition (progress_of c.loop-filler.taken) c.filler-item.result (progress_of c.submit_filler.new.taken) (Ok true) =
    subst (λ (b : Bool). SubmitsFillerOrFails c.args.self.now.encoder.rendition (progress_of c.loop-filler.taken) c.filler-item.result (progress_of c.submit_filler.new.taken) (Ok b)) joined
    c.in_ok-is_joined.ensures.fills in
    record {
      usable = c.submit_filler.ensures.usable;
      act_steps = acted_on _ _ _ _ _ _ _ c.loop-filler.invariant.act_steps c.submit_filler.ensures.act_steps;
      same = counts_on (progress_of c.args.taken.now) (progress_of c.loop-filler.taken) (progress_of c.submit_filler.new.taken) c.loop-filler.invariant.same fills.0;
      fills = fillers_more c.args.self.now.encoder.rendition c.args.fillers.now c.loop-filler.filler-index c.filler-item.result c.args.taken.now.counts c.loop-filler.taken.counts
          c.submit_filler.new.taken.counts c.args.taken.now.acts c.loop-filler.taken.acts c.submit_filler.new.taken.acts c.loop-filler-test.true c.filler-item.is c.loop-filler.invariant.fills
          fills.1;
    }

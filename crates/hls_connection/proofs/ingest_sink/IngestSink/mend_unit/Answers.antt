-- The unit was prepared, its fillers submitted, and then the unit itself, unless one of these stopped (MendLaws).
use Rattle.std.proofs.Common.{rules, ◌≡◌, Bool, List, true, false, Ok, Err, refl, ap, subst}
use Rattle.hls_mend.specs.declared.mended.ReadUnit.{ReadUnit}
use Rattle.hls_api.{specs.Ingest.Progress, proofs.Callers.acted_on}
use Rattle.hls_connection.specs.{IngestStates.progress_of, MendingStates.SubmitsFillersOrFail}
use Rattle.hls_connection.proofs.MendLaws.{is_overtaken, mends_unit, stops_filling_of}
use Rattle.hls_connection.proofs.ingest_sink.IngestSink.mend_unit.Goals as goal

pub submit_mended-requires-clause-reads : goal.submit_mended-requires-clause-reads
submit_mended-requires-clause-reads g c =
    let all : c.in_ok-is_filled.is_filled ≡ true = search rules in
    let filled : SubmitsFillersOrFail c.args.self.now.encoder.rendition (progress_of c.prepare_unit.new.taken) c.deref.result.now (progress_of c.submit_fillers.new.taken) (Ok true) =
    subst (λ (b : Bool). SubmitsFillersOrFail c.args.self.now.encoder.rendition (progress_of c.prepare_unit.new.taken) c.deref.result.now (progress_of c.submit_fillers.new.taken) (Ok b)) all
    c.in_ok-is_filled.ensures.fills in
    let init : c.submit_fillers.new.taken.init ≡ c.prepare_unit.new.taken.init = ap (λ (p : Progress). p.init) filled.0 in
    rw init c.in_ok-mended.ensures.valid

pub returns-in_err-is_filled-clause-act_steps : goal.returns-in_err-is_filled-clause-act_steps
returns-in_err-is_filled-clause-act_steps g c = acted_on _ _ _ _ _ _ _ c.prepare_unit.ensures.act_steps c.submit_fillers.ensures.act_steps

pub returns-in_err-is_filled-clause-yields : goal.returns-in_err-is_filled-clause-yields
returns-in_err-is_filled-clause-yields g c =
    let is : c.from_residual-in_err-is_filled.result ≡ Err c.in_err-is_filled.field-0.0 = search rules in
    let same : c.deref.result.now ≡ c.in_ok-mended.mended.fillers.items = search rules in
    rw is (stops_filling_of c.args.settings c.args.self.now.encoder.rendition (progress_of c.args.taken.now) (progress_of c.prepare_unit.new.taken) (progress_of c.submit_fillers.new.taken) c.args.bytes
    c.in_ok-mended.mended c.deref.result.now c.in_err-is_filled.field-0.0 c.in_ok-mended.ensures.prepares same c.in_err-is_filled.ensures.fills)

pub returns-then-not-is_filled-clause-act_steps : goal.returns-then-not-is_filled-clause-act_steps
returns-then-not-is_filled-clause-act_steps g c = acted_on _ _ _ _ _ _ _ c.prepare_unit.ensures.act_steps c.submit_fillers.ensures.act_steps

pub returns-then-not-is_filled-clause-yields : goal.returns-then-not-is_filled-clause-yields
returns-then-not-is_filled-clause-yields g c =
    let overlaps : c.in_ok-is_filled.is_filled ≡ false = search rules in
    let same : c.deref.result.now ≡ c.in_ok-mended.mended.fillers.items = search rules in
    is_overtaken c.args.settings c.args.self.now.encoder.rendition (progress_of c.args.taken.now) (progress_of c.prepare_unit.new.taken) (progress_of c.submit_fillers.new.taken) _ c.args.bytes c.in_ok-mended.mended
    c.in_ok-mended.ensures.prepares
    (subst (λ (us : List ReadUnit). SubmitsFillersOrFail c.args.self.now.encoder.rendition (progress_of c.prepare_unit.new.taken) us (progress_of c.submit_fillers.new.taken) (Ok false)) same
    (subst (λ (b : Bool). SubmitsFillersOrFail c.args.self.now.encoder.rendition (progress_of c.prepare_unit.new.taken) c.deref.result.now (progress_of c.submit_fillers.new.taken) (Ok b)) overlaps
    c.in_ok-is_filled.ensures.fills))
    refl (search rules) refl

pub returns-clause-act_steps : goal.returns-clause-act_steps
returns-clause-act_steps g c =
    acted_on _ _ _ _ _ _ _ c.prepare_unit.ensures.act_steps (acted_on _ _ _ _ _ _ _ c.submit_fillers.ensures.act_steps c.submit_mended.ensures.act_steps)

pub returns-clause-yields : goal.returns-clause-yields
returns-clause-yields g c =
    let all : c.in_ok-is_filled.is_filled ≡ true = search rules in
    let same : c.deref.result.now ≡ c.in_ok-mended.mended.fillers.items = search rules in
    mends_unit c.args.settings c.args.self.now.encoder.rendition (progress_of c.args.taken.now) (progress_of c.prepare_unit.new.taken) (progress_of c.submit_fillers.new.taken) _ c.args.bytes c.in_ok-mended.mended _
    c.in_ok-mended.ensures.prepares
    (subst (λ (us : List ReadUnit). SubmitsFillersOrFail c.args.self.now.encoder.rendition (progress_of c.prepare_unit.new.taken) us (progress_of c.submit_fillers.new.taken) (Ok true)) same
    (subst (λ (b : Bool). SubmitsFillersOrFail c.args.self.now.encoder.rendition (progress_of c.prepare_unit.new.taken) c.deref.result.now (progress_of c.submit_fillers.new.taken) (Ok b)) all
    c.in_ok-is_filled.ensures.fills))
    c.submit_mended.ensures.submits

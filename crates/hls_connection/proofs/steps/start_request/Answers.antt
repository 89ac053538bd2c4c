-- By the request's action it is refused, or its body begins: an encoder's, or one that is discarded.
use Rattle.std.proofs.Common.{◌∙◌, [], refl, sym, ap, arith, rules}
use Rattle.hls_core.{specs.Streams.Reached, proofs.Callers.reached_none}
use Rattle.hls_http.specs.declared.request_action.RequestAction.TheVariants.{Ingest, Refuse, Discard}
use Rattle.hls_api.specs.{Exchanges.continue_prefix, Ingest.IngestsPart, Ingest.no_progress}
use Rattle.hls_connection.{specs.IngestStates.progress_of, proofs.CallLaws.{sent_asks_nothing, sent_few, sent_more}}
use Rattle.hls_connection.proofs.HoldLaws.{begins, begun_asks, has_body, refuses}
use Rattle.hls_connection.proofs.steps.start_request.Goals as goal

pub returns-in-Refuse-clause-consistent : goal.returns-in-Refuse-clause-consistent
returns-in-Refuse-clause-consistent g c = λ channel ended before unread h reads context received sent past_acts x.
    let action = sym (c.action_for-action.ensures.action channel h context) ∙ c.in-Refuse.is in
    refuses x refl reads context c.in-Refuse.fault c.in-Refuse.closing action (rw c.new.ensures at (c.refuse_request.ensures.responds channel h (Refuse c.in-Refuse.fault c.in-Refuse.closing) context))

pub returns-in-Some-Ingest-clause-consistent : goal.returns-in-Some-Ingest-clause-consistent
returns-in-Some-Ingest-clause-consistent g c = λ channel ended before unread h reads context received sent past_acts x.
    let text = c.begin_body.result.output in
    let action = sym (c.action_for-action.ensures.action channel h context) ∙ c.in-Ingest.is in
    let first = c.begin_body.ensures.first channel h context ∙ ap (continue_prefix h) (sym action) in
    let consistent = IngestsPart c.in-Some-Ingest.encoder in
    let taken = c.begin_body.ensures.is.0 in
    let reached : Reached consistent no_progress [] c.new-reader.result (progress_of taken) = rw (c.new-reader.ensures, c.begin_body.ensures.is.1) (reached_none consistent no_progress) in
    rw c.begin_body.ensures.is.2 (begins x refl reads context text (record { at = has_body x refl reads context Ingest c.in-Ingest.body text action first; route = search rules; received = (refl, reached) }, refl))

pub returns-in-Some-clause-consistent : goal.returns-in-Some-clause-consistent
returns-in-Some-clause-consistent g c = λ channel ended before unread h reads context received sent past_acts x.
    let text = c.begin_body-in-Some.result.output in
    let action = sym (c.action_for-action.ensures.action channel h context) ∙ c.in-Discard.is in
    let first = c.begin_body-in-Some.ensures.first channel h context ∙ ap (continue_prefix h) (sym action) in
    let fits = c.action_for-action.ensures.fits c.in-Discard.body c.in-Discard.is in
    let nothing = ap (λ p. p.acts) c.begin_body-in-Some.ensures.is.1 in
    rw c.begin_body-in-Some.ensures.is.2 (begins x refl reads context text
    (record { at = has_body x refl reads context Discard c.in-Discard.body text action first; route = c.in-Some.is; received = (nothing, omega (arith, c.announced_len-room.ensures, fits)) }, refl))

pub returns-in-Some-Ingest-clause-asks : goal.returns-in-Some-Ingest-clause-asks
returns-in-Some-Ingest-clause-asks g c = begun_asks c.begin_body.result c.begin_body.ensures.is refl

pub returns-in-Some-clause-asks : goal.returns-in-Some-clause-asks
returns-in-Some-clause-asks g c = begun_asks c.begin_body-in-Some.result c.begin_body-in-Some.ensures.is (search rules)

pub returns-in-Refuse-clause-asks : goal.returns-in-Refuse-clause-asks
returns-in-Refuse-clause-asks g c = sent_asks_nothing c.refuse_request.ensures.sends c.new.ensures

pub returns-in-Refuse-clause-continues : goal.returns-in-Refuse-clause-continues
returns-in-Refuse-clause-continues g c = sent_more c.refuse_request.ensures.sends

pub returns-in-Refuse-clause-few : goal.returns-in-Refuse-clause-few
returns-in-Refuse-clause-few g c = omega (arith, sent_few c.refuse_request.ensures.sends)

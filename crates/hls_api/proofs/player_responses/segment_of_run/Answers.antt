-- The slice's reply is the reply for the path, since the path names the slice in this state (`kept_answer`).
use Rattle.std.proofs.Common.{IfOk, subst}
use Rattle.hls_core_laws.specs.Base.{bytes_before_base}
use Rattle.hls_core.specs.Getters.{recording_of}
use Rattle.hls_api.specs.NamedSpans.{IsNamedIn}
use Rattle.hls_api.specs.Responses.{ResponseData}
use Rattle.hls_api.specs.Types.{State}
use Rattle.hls_api.specs.declared.player_responses.NamedSpan.TheVariants as spans
use Rattle.hls_api.proofs.NamedSpans.{kept_answer}
use Rattle.hls_api.proofs.player_responses.segment_of_run.Goals as goal

pub returns-in-Kept : goal.returns-in-Kept
returns-in-Kept c =
    let s = c.args.snapshot.value in
    let r = c.args.rendition in
    let first = c.args.span.first in
    let last = c.args.span.last in
    kept_answer (recording_of s r) c.in-Kept.kept (bytes_before_base s.config.base r) s.config.target first last c.args.asked
    (λ (Shown : ResponseData → Type 0). IfOk c.slice_response.result Shown)
    (subst (λ (x : State). IsNamedIn (recording_of x r) (spans.Kept c.in-Kept.kept) (bytes_before_base x.config.base r) x.config.target first last) c.deref.ensures c.in-Kept.ensures)
    c.slice_response.ensures

-- A rendition with a recording is the next one that the search sees; one without a recording is an unbegun rendition.
use Rattle.std.proofs.Common.{◌≡◌, ◌∙◌, List, [], ◌∷◌, ◌++◌, map, take, get_or, sym, ap}
use Rattle.hls_places_laws.specs.Sources.{Source}
use Rattle.hls_core_laws.specs.declared.rendition.Rendition.{Rendition}
use Rattle.hls_core.specs.declared.rendition_state.RenditionState.{RenditionState}
use Rattle.hls_core.specs.RenditionStates.{sources_by}
use Rattle.hls_core.proofs.Cited.{at_read, at_map}
use Rattle.hls_core.proofs.Moved.{next_source}
use Rattle.hls_core.proofs.line_state.make_source.Goals as goal

pub returns-clause-next : goal.returns-clause-next
returns-clause-next c =
    let whole = sources_by c.args.config.now (map (λ a. a.value) c.args.rendition_states.now) in
    let begun = ap (λ (s : RenditionState). s.recording) (sym c.deref-rendition_state.ensures) ∙ c.in-Some.is in
    let rendition = c.index-renditions-r.is
    ∙ ap (λ (l : List Rendition). get_or l c.args.r c.index-renditions-r.result) c.renditions-renditions.ensures.value in
    let next = next_source (λ a. a.value) c.args.rendition_states.now c.args.config.now c.args.r c.index-rendition_states-r.result c.index-renditions-r.result
    c.in-Some.recording c.requires.count c.requires.there c.index-rendition_states-r.is rendition begun in
    let tolerance = ap (λ (t : Rendition). t.tolerance) (sym c.index-renditions-r.is) in
    let here : c.new.result ≡ record { facts = c.in-Some.recording.facts; tolerance = c.index-renditions-r.result.tolerance; finished = c.index-rendition_states-r.result.value.finished } =
    c.new.ensures ∙ (λ k. record { facts = c.in-Some.recording.facts; tolerance = tolerance k; finished = (c.deref-rendition_state.ensures k).finished }) in
    next ∙ ap (λ (s : Source). take c.args.r whole ++ s ∷ []) (sym here)

pub returns-in_default-clause-lacks : goal.returns-in_default-clause-lacks
returns-in_default-clause-lacks c = λ same. record {
  number = c.args.r;
  rendition_state = c.index-rendition_states-r.result.value;
  at = at_map (λ a. a.value) c.args.rendition_states.now c.args.r _ (at_read _ _ _ c.requires.there c.index-rendition_states-r.is);
  none = ap (λ (s : RenditionState). s.recording) (sym c.deref-rendition_state.ensures) ∙ c.in_default.is;
}

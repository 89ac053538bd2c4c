-- Each round appends the source of the next rendition; after the last round, the list has those of all renditions.
use Rattle.std.proofs.Common.{◌∙◌, List, [], ◌∷◌, ◌++◌, map, sym, ap, arith}
use Rattle.std.proofs.lemmas.List.{length-map, take_all}
use Rattle.hls_places_laws.specs.Sources.{Source}
use Rattle.hls_core.proofs.Moved.{by_count}
use Rattle.hls_core.proofs.line_state.make_sources.Goals as goal

pub loop-r-preserved : goal.loop-r-preserved
loop-r-preserved c =
    c.in_ok-push.ensures.items ∙ (ap (λ (l : List Source). l ++ c.in-Some.source ∷ []) c.loop-r.invariant ∙ sym c.in-Some.ensures.next)

pub returns-clause-gathers : goal.returns-clause-gathers
returns-clause-gathers c =
    let rendition_states = length-map c.args.rendition_states.now (λ a. a.value) in
    let count = by_count c.args.config.now (map (λ a. a.value) c.args.rendition_states.now) (c.requires.count ∙ sym rendition_states) in
    c.loop-r.invariant ∙ take_all _ _ (omega (arith, count, rendition_states, c.loop-r-test.false))

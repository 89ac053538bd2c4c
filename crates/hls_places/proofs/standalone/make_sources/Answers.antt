-- Each step appends the next rendition (`next-side`); after the last one the list is complete.
use Rattle.std.proofs.Common.{◌≡◌, ◌∙◌, List, [], ◌∷◌, ◌++◌, false, length, map, take, get_or, sym, ap, arith}
use Rattle.std.proofs.lemmas.List.{length-map, get_or-map, take_all}
use Rattle.hls_places_laws.specs.Sources.{Source, sources_of}
use Rattle.hls_places.proofs.Cited.{length-sides}
use Rattle.hls_places.proofs.Gathered.{next-side}
use Rattle.hls_places.proofs.standalone.make_sources.Goals as goal
use Rattle.std.proofs.Common.{refl}

pub loop-r-preserved : goal.loop-r-preserved
loop-r-preserved c =
    let lists = map (λ r. r.now.facts) c.args.recordings.now in
    let count = length-map c.args.recordings.now (λ r. r.now.facts) in
    let next = next-side lists c.args.tolerances.now c.args.finished.now (c.requires.tolerances ∙ sym count) (c.requires.finished ∙ sym count)
    c.loop-r.r (omega (arith, count, c.loop-r-test.true)) in
    let read = get_or-map (λ r. r.now.facts) c.args.recordings.now c.loop-r.r c.index-recordings-r.result [] (omega (arith, c.loop-r-test.true)) in
    let facts_at = ap (λ r. r.now.facts) c.index-recordings-r.is ∙ sym read in
    let here : c.new.result ≡ record { facts = get_or lists c.loop-r.r []; tolerance = get_or c.args.tolerances.now c.loop-r.r 0; finished = get_or c.args.finished.now c.loop-r.r false } =
    c.new.ensures ∙ (λ k. record { facts = facts_at k; tolerance = get_or c.args.tolerances.now c.loop-r.r 0; finished = get_or c.args.finished.now c.loop-r.r false }) in
    c.in_ok-push.ensures.items
    ∙ (ap (λ (l : List Source). l ++ c.new.result ∷ []) c.loop-r.invariant
    ∙ (ap (λ (s : Source). take c.loop-r.r (sources_of lists c.args.tolerances.now c.args.finished.now) ++ s ∷ []) here ∙ sym next))

pub returns : goal.returns
returns c =
    let whole = length-sides (λ r. r.now.facts) c.args.recordings.now c.args.tolerances.now c.args.finished.now
    c.requires.tolerances c.requires.finished _ refl in
    c.loop-r.invariant ∙ take_all _ _ (omega (arith, whole, c.loop-r-test.false))

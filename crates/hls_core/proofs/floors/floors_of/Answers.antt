-- Each round writes the floor of one more rendition, and the array has room for as many renditions as a channel may have.
use Rattle.std.proofs.Common.{◌≡◌, ◌∷◌, ◌++◌, [], ℕ, List, length, take, arith, ap, sym, ◌∙◌}
use Rattle.std.proofs.lemmas.List.{length-map, length-set, take_more, take_more_set, take_all}
use Rattle.hls_core_laws.specs.State.{channel}
use Rattle.hls_core_laws.specs.Places.{floor_of, floors}
use Rattle.hls_core.proofs.floors.floors_of.Goals as goal

pub loop-rendition-preserved : goal.loop-rendition-preserved
loop-rendition-preserved c =
    let s = c.args.snapshot.now in
    let fs : List ℕ = c.loop-rendition.floors in
    let r : ℕ = c.loop-rendition.rendition in
    let renditions = c.rendition_count-rendition-end.ensures in
    let count : length (floors s) ≡ length (channel s).lanes = length-map (channel s).lanes floor_of in
    record {
      long = length-set fs r c.floor_of.result ∙ c.loop-rendition.invariant.long;
      done = take_more_set fs r c.floor_of.result (omega (arith, renditions.few, c.loop-rendition.invariant.long))
          ∙ ap (λ (xs : List ℕ). xs ++ c.floor_of.result ∷ []) c.loop-rendition.invariant.done
          ∙ ap (λ (x : ℕ). take r (floors s) ++ x ∷ []) c.floor_of.ensures
          ∙ sym (take_more (floors s) r 0 (omega (arith, renditions.lanes)));
    }

pub returns : goal.returns
returns c =
    let s = c.args.snapshot.now in
    let all : c.loop-rendition.rendition ≡ length (channel s).lanes = omega (arith, c.rendition_count-rendition-end.ensures.lanes, c.loop-rendition.auto.rendition-end) in
    let count : length (floors s) ≡ length (channel s).lanes = length-map (channel s).lanes floor_of in
    ap (λ (n : ℕ). take n c.loop-rendition.floors) (sym all) ∙ c.loop-rendition.invariant.done ∙ take_all c.loop-rendition.rendition (floors s) (omega arith)

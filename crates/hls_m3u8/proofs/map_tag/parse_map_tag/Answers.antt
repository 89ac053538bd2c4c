-- By whether the first of the remaining attributes is rejected, is the last one, or has others after it.
use Rattle.std.proofs.Common.{◌≡◌, refl, sym, ◌∙◌, false, Some, None, List, ℕ, rules}
use Rattle.std.specs.Borrow.{Bor}
use Rattle.std.specs.Prelude.{option_map}
use Rattle.hls_m3u8.specs.Attributes.{attribute_texts, map_from, map_tag}
use Rattle.hls_m3u8.specs.Commas.{IsFirstAttribute}
use Rattle.hls_m3u8.proofs.Commas.{map_goes_on, map_is_bad, map_ends}
use Rattle.hls_m3u8.proofs.map_tag.parse_map_tag.Goals as goal

pub loop-parts-init : goal.loop-parts-init
loop-parts-init c = (c.utf8.text, refl)

pub returns-in_err-parts : goal.returns-in_err-parts
returns-in_err-parts c =
    let so_far : map_from c.loop-parts.parts (attribute_texts false c.loop-parts.rest.now) ≡ map_tag c.args.text.now = c.loop-parts.invariant.1 in
    c.from_residual.ensures
    ∙ sym (map_is_bad c.loop-parts.parts c.loop-parts.rest.now c.split_first_attribute-cut.result.front.now
    (option_map (λ (t : Bor (List ℕ)). t.now) c.split_first_attribute-cut.result.remainder) c.split_first_attribute-cut.ensures c.in_err-parts.ensures)
    ∙ so_far

pub returns-in-None : goal.returns-in-None
returns-in-None c =
    let so_far : map_from c.loop-parts.parts (attribute_texts false c.loop-parts.rest.now) ≡ map_tag c.args.text.now = c.loop-parts.invariant.1 in
    let last : IsFirstAttribute c.loop-parts.rest.now c.split_first_attribute-cut.result.front.now None = rw c.in-None.is at c.split_first_attribute-cut.ensures in
    c.finish_map.ensures
    ∙ sym (map_ends c.loop-parts.parts c.in_ok-parts.parts c.loop-parts.rest.now c.split_first_attribute-cut.result.front.now last c.in_ok-parts.ensures)
    ∙ so_far

pub loop-parts-preserved : goal.loop-parts-preserved
loop-parts-preserved c =
    let so_far : map_from c.loop-parts.parts (attribute_texts false c.loop-parts.rest.now) ≡ map_tag c.args.text.now = c.loop-parts.invariant.1 in
    let first : IsFirstAttribute c.loop-parts.rest.now c.split_first_attribute-cut.result.front.now (Some c.in-Some.after.now) = rw c.in-Some.is at c.split_first_attribute-cut.ensures in
    let more = map_goes_on c.loop-parts.parts c.in_ok-parts.parts c.loop-parts.rest.now c.split_first_attribute-cut.result.front.now c.in-Some.after.now first c.in_ok-parts.ensures in
    (search rules, sym more ∙ so_far)

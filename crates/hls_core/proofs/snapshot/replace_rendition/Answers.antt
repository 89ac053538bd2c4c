-- The list of states is the old one with the new state at the given number.
use Rattle.std.proofs.Common.{◌∙◌, refl}
use Rattle.std.proofs.lemmas.List.{map-set}
use Rattle.hls_core.proofs.snapshot.replace_rendition.Goals as goal

pub returns : goal.returns
returns c =
    map-set (λ a. a.value) c.in_ok-copies.copies.items c.args.r c.args.rendition_state ∙ rw c.in_ok-copies.ensures refl

-- Exactly the given number of zeros is appended: they are the first ones of 32.
use Rattle.std.proofs.Common.{◌∙◌, ℕ, ◌++◌, List, ap}
use Rattle.std.proofs.lemmas.List.{take-replicate}
use Rattle.hls_mend.proofs.blank.push_zeros.Goals as goal

pub returns : goal.returns
returns c = c.in_ok-extend_from_slice.ensures.items ∙ ap (λ (xs : List ℕ). c.args.out.now.items ++ xs) (take-replicate c.args.count 32 0 c.requires)

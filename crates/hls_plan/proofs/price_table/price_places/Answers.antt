-- The vector that is filled with None, with 0 at the first place, is the start of the pricing (`pricing_start`).
use Rattle.std.proofs.Common.{ℕ, ◌≡◌, replicate, None, ap, ◌∙◌, rules}
use Rattle.hls_plan.proofs.PricedRows.{pricing_start}
use Rattle.hls_plan.proofs.price_table.price_places.Goals as goal

pub relax_rows-requires-clause-priced : goal.relax_rows-requires-clause-priced
relax_rows-requires-clause-priced c =
    let none : c.in_ok-prices.prices.items ≡ replicate c.len-count.result None =
    c.in_ok-prices.ensures.items_if_clones_equal (λ y clone. search rules) in
    rw c.as_mut_slice.ensures.value (pricing_start _ _ _ c.len-count.ensures.valid
    (none ∙ ap (λ (n : ℕ). replicate n None) c.len-count.ensures.len)
    (search rules))

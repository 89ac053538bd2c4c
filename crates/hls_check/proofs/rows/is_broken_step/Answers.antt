-- A step is broken exactly if its first place has a price, the price of the second is too high or missing, and the step is allowed.
use Rattle.std.proofs.Common.{refl, sym, ◌∙◌}
use Rattle.hls_check_tables.specs.Certificates.{claim_data}
use Rattle.hls_check.proofs.Seen.{unpriced, kept, unkept}
use Rattle.hls_check.proofs.rows.is_broken_step.Goals as goal

pub returns-in_default : goal.returns-in_default
returns-in_default c = unpriced c.args.table.now (claim_data c.args.claim.now) c.args.p c.args.q (sym c.price_of.ensures ∙ c.in_default.is)

pub returns-then-keeps_price : goal.returns-then-keeps_price
returns-then-keeps_price c =
    kept c.args.table.now (claim_data c.args.claim.now) c.args.p c.args.q c.in-Some.price c.cost_between.result c.price_of-2.result
    (sym c.in-Some.is ∙ c.price_of.ensures) c.cost_between.ensures c.price_of-2.ensures (c.if-keeps_price.ensures.0 refl)

pub returns : goal.returns
returns c =
    unkept c.args.table.now (claim_data c.args.claim.now) c.args.p c.args.q c.in-Some.price c.cost_between.result c.price_of-2.result c.is_step.result
    c.requires.forward (sym c.in-Some.is ∙ c.price_of.ensures) c.cost_between.ensures c.price_of-2.ensures c.if-keeps_price.ensures.1 c.is_step.ensures

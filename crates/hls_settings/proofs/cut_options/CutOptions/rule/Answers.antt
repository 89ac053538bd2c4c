-- The rule that these options choose has its charge within the limit, since the options' charge is.
use Rattle.hls_settings.proofs.Charges.{rule_in_range}
use Rattle.hls_settings.proofs.cut_options.CutOptions.rule.Goals as goal

pub returns-clause-in_range : goal.returns-clause-in_range
returns-clause-in_range c = rw c.from_charge.ensures (rule_in_range c.self.inside.charge c.self.invariant.charge)

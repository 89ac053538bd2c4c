-- The pause is what is owed above the burst, divided by the rate and rounded up.
use Rattle.std.proofs.Common.{◌≡◌, ◌∙◌, ℕ, ◌-◌, ◌*◌, ap, arith}
use Rattle.std.specs.Int.{div_ceil}
use Rattle.hls_rates.proofs.meter.Meter.pause_ms.Goals as goal
use Rattle.hls_rates.proofs.Pauses.{paid_after}

pub returns-clause-time : goal.returns-clause-time
returns-clause-time c = λ time.
    let owed = c.args.self.owed in
    let per = c.args.rate.per_second in
    let burst = c.args.rate.at_once * 1000 in
    let above : c.saturating_sub.result ≡ owed - burst = omega (arith, c.saturating_sub.ensures, c.saturating_mul-burst.ensures, c.well_formed) in
    let is = c.div_ceil.ensures ∙ ap (λ (a : ℕ). div_ceil a per) above in
    rw is (paid_after owed burst per time c.requires)

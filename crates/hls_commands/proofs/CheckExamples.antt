-- Worked examples: the lines of answers, computed.
use Rattle.std.proofs.Common.{◌≡◌, Ok, Err, codes, refl}
use Rattle.std.specs.Fmt.{digits}
use Rattle.hls_check_tables.specs.declared.cert_fault.CertFault.TheVariants.{Form, TableNotSorted, PlanEnds, PlanStep, PlanCost, PriceStart, PriceStep, EndReached, Memory}
use Rattle.hls_check_tables.specs.declared.verdict.Verdict.TheVariants.{Cut, NoCut}
use Rattle.hls_text.specs.Numbers.{spaced_numbers}
use Rattle.hls_commands.specs.CheckAnswer.{check_line}

-- the line of a verdict with a cut; no_cut that of one without; and the others those of the faults, with the numbers that they name
cut : check_line (Ok (Cut 1000000)) ≡ codes "cut 1000000\n"
unfolding spaced_numbers digits
cut = refl

no_cut : check_line (Ok NoCut) ≡ codes "none\n"
unfolding spaced_numbers digits
no_cut = refl

form : check_line (Err (Form 18)) ≡ codes "refused Form 18\n"
unfolding spaced_numbers digits
form = refl

not_sorted : check_line (Err (TableNotSorted 1)) ≡ codes "refused TableNotSorted 1\n"
unfolding spaced_numbers digits
not_sorted = refl

plan_ends : check_line (Err PlanEnds) ≡ codes "refused PlanEnds\n"
unfolding spaced_numbers digits
plan_ends = refl

plan_step : check_line (Err (PlanStep 1 0)) ≡ codes "refused PlanStep 1 0\n"
unfolding spaced_numbers digits
plan_step = refl

plan_cost : check_line (Err PlanCost) ≡ codes "refused PlanCost\n"
unfolding spaced_numbers digits
plan_cost = refl

price_start : check_line (Err PriceStart) ≡ codes "refused PriceStart\n"
unfolding spaced_numbers digits
price_start = refl

price_step : check_line (Err (PriceStep 1 3)) ≡ codes "refused PriceStep 1 3\n"
unfolding spaced_numbers digits
price_step = refl

end_reached : check_line (Err EndReached) ≡ codes "refused EndReached\n"
unfolding spaced_numbers digits
end_reached = refl

memory : check_line (Err Memory) ≡ codes "refused Memory\n"
unfolding spaced_numbers digits
memory = refl

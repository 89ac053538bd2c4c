-- A line, number by number.
use Rattle.std.proofs.Common.{◌≡◌, ◌∙◌, ℕ, List, [], ◌∷◌, ◌++◌, ◌⊎◌, inl, inr, sym, ap, append_assoc, append-nil}
use Rattle.std.specs.Fmt.{decimal}
use Rattle.hls_check_tables.specs.declared.cert_fault.CertFault.{CertFault}
use Rattle.hls_check_tables.specs.declared.cert_fault.CertFault.TheVariants.{PlanEnds, PlanCost, PriceStart, EndReached, Memory}
use Rattle.hls_text.specs.Numbers.{spaced_numbers}
use Rattle.hls_commands.specs.CheckAnswer.{fault_numbers}

-- a blank and a number's digits, added to a line, are the spaced number
pub one_number : (old mid new digits : List ℕ) (n : ℕ) → mid ≡ old ++ (32 ∷ []) → new ≡ mid ++ digits → digits ≡ decimal n → new ≡ old ++ spaced_numbers (n ∷ [])
unfolding spaced_numbers
one_number old mid new digits n first second is =
    second ∙ ap (λ xs. xs ++ digits) first ∙ append_assoc old (32 ∷ []) digits ∙ ap (λ xs. old ++ (32 ∷ xs)) (is ∙ sym (append-nil (decimal n)))

-- two spaced numbers, added to a line one after the other, are the two spaced numbers
pub two_numbers : (old mid new : List ℕ) (m n : ℕ) → mid ≡ old ++ spaced_numbers (m ∷ []) → new ≡ mid ++ spaced_numbers (n ∷ []) → new ≡ old ++ spaced_numbers (m ∷ n ∷ [])
unfolding spaced_numbers
two_numbers old mid new m n first second =
    second ∙ ap (λ xs. xs ++ spaced_numbers (n ∷ [])) first ∙ append_assoc old (spaced_numbers (m ∷ [])) (spaced_numbers (n ∷ [])) ∙ ap (λ xs. old ++ (32 ∷ xs)) (append_assoc (decimal m) [] (spaced_numbers (n ∷ [])))

-- a fault that is about the whole certificate, and out of memory, name no number
no_number : (f : CertFault) → (f ≡ PlanEnds) ⊎ ((f ≡ PlanCost) ⊎ ((f ≡ PriceStart) ⊎ ((f ≡ EndReached) ⊎ (f ≡ Memory)))) → fault_numbers f ≡ []
no_number f (inl e) = ap fault_numbers e
no_number f (inr (inl e)) = ap fault_numbers e
no_number f (inr (inr (inl e))) = ap fault_numbers e
no_number f (inr (inr (inr (inl e)))) = ap fault_numbers e
no_number f (inr (inr (inr (inr e)))) = ap fault_numbers e

-- a line about such a fault has no number after the fault's name
pub no_numbers : (line : List ℕ) (f : CertFault) → (f ≡ PlanEnds) ⊎ ((f ≡ PlanCost) ⊎ ((f ≡ PriceStart) ⊎ ((f ≡ EndReached) ⊎ (f ≡ Memory)))) → line ≡ line ++ spaced_numbers (fault_numbers f)
unfolding spaced_numbers
no_numbers line f is = sym (ap (λ ns. line ++ spaced_numbers ns) (no_number f is) ∙ append-nil line)

-- A closed set as prices: its places have the price 0 and the others none.
use Rattle.std.proofs.Common.{◌≡◌, ℕ, zero, suc, List, [], ◌∷◌, length, map, Bool, true, false, refl, ◌∙◌, arith, Err}
use Rattle.std.proofs.lemmas.List.{length-map}
use Rattle.hls_check_tables.specs.declared.cert_fault.CertFault.TheVariants.{PriceStep}
use Rattle.hls_check_tables.specs.Tables.{Table}
use Rattle.hls_check_tables.specs.Steps.{cost}
use Rattle.hls_check_tables.specs.Certificates.{ClaimData, CutClaim, NoneClaim, price_at, is_closed, KeepsPrice, NoneKeepsClosed, IsForm}
use Rattle.hls_check.specs.Faults.{IsFirstBrokenStep}
use Rattle.hls_check.specs.CheckResults.{CheckResultOver}
use Rattle.hls_check.specs.Rows.{price_if_closed, claimed_prices, StepKeepsPrices, HasNoEarlyFault}

-- the price of a place of a closed set is 0, and that of another place is none
pub price_of_closed : (closed : List Bool) (p : ℕ) → price_at (map price_if_closed closed) p ≡ price_if_closed (is_closed closed p)
price_of_closed [] p = refl
price_of_closed (mark ∷ closed) zero = refl
price_of_closed (mark ∷ closed) (suc p) = price_of_closed closed p

-- the prices of a claim, also those of a closed set, are one for each place
pub one_price_each : (count : ℕ) (shown : ClaimData) → IsForm count shown → length (claimed_prices shown) ≡ count
one_price_each count (CutClaim total plan prices) form = form.one_each
one_price_each count (NoneClaim closed) form = length-map closed price_if_closed ∙ form

-- between two flags of a closed set, a step that respects their prices doesn't leave the set
marks_keep : (step : ℕ) (from to : Bool) → KeepsPrice step (price_if_closed from) (price_if_closed to) → from ≡ true → to ≡ true
marks_keep step true true keeps inside = refl
marks_keep step true false keeps inside = absurd keeps
marks_keep step false to keeps inside = cc

-- between two flags of a closed set, a step that doesn't leave the set respects their prices
keep_marks : (step : ℕ) (from to : Bool) → (from ≡ true → to ≡ true) → KeepsPrice step (price_if_closed from) (price_if_closed to)
keep_marks step true true stays = omega arith
keep_marks step true false stays = let no : false ≡ true = stays refl in cc
keep_marks step false to stays = tt

-- a step that respects the prices of a closed set doesn't leave the set
pub stays_in : (t : Table) (closed : List Bool) (p q : ℕ) → StepKeepsPrices t (NoneClaim closed) p q → NoneKeepsClosed t closed p q
stays_in t closed p q keeps rises allowed =
    marks_keep (cost t p q) (is_closed closed p) (is_closed closed q)
    (rw (← price_of_closed closed p, ← price_of_closed closed q) (keeps rises allowed))

-- a step that doesn't leave a closed set respects the prices of the set
pub keeps_in : (t : Table) (closed : List Bool) (p q : ℕ) → NoneKeepsClosed t closed p q → StepKeepsPrices t (NoneClaim closed) p q
keeps_in t closed p q stays rises allowed =
    rw (price_of_closed closed p, price_of_closed closed q)
    (keep_marks (cost t p q) (is_closed closed p) (is_closed closed q) (stays rises allowed))

-- the first step that doesn't respect the prices of a closed set is the first that leaves it
pub first_that_leaves : (t : Table) (closed : List Bool) (p q : ℕ) → IsFirstBrokenStep (StepKeepsPrices t (NoneClaim closed)) p q →
    IsFirstBrokenStep (NoneKeepsClosed t closed) p q
first_that_leaves t closed p q first = record {
  in_row = record {
    broken = λ stays. first.in_row.broken (keeps_in t closed p q stays);
    before = λ j below. stays_in t closed p j (first.in_row.before j below);
  };
  rows = λ i j below. stays_in t closed i j (first.rows i j below);
}

-- if a claim has no earlier fault, its first step that doesn't respect the prices is its result
pub broken_answer : (t : Table) (shown : ClaimData) (p q : ℕ) → HasNoEarlyFault t shown → IsFirstBrokenStep (StepKeepsPrices t shown) p q →
    CheckResultOver t shown (Err (PriceStep p q))
broken_answer t (CutClaim total plan prices) p q so_far first = (so_far.0, so_far.1, so_far.2, so_far.3, first)
broken_answer t (NoneClaim closed) p q so_far first = (so_far.0, so_far.1, first_that_leaves t closed p q first)

-- A search through blocks of 32 places, whose flags are computed in parallel.
use Rattle.std.proofs.Common.{◌≡◌, ℕ, zero, suc, ◌+◌, ◌-◌, ◌*◌, ◌<◌, ◌≤◌, List, [], ◌∷◌, Option, Some, None, Bool, true, false, slice_get, MatchOption, inl, inr, arith, ◌/◌, length}
use Rattle.std.specs.Bool.{MatchBool}
use Rattle.std.specs.List.{AllZip, range_with_len}
use Rattle.std.specs.Borrow.{Bor}
use Rattle.std.proofs.lemmas.Bool.{cases_lt, cases_eq}
use Rattle.rayon.specs.Lists.{filter_by_mask}
use Rattle.rayon.specs.Numbers.{nat_range}
use Rattle.hls_check_tables.specs.Tables.{Table}
use Rattle.hls_check_tables.specs.Certificates.{ClaimData}
use Rattle.hls_check.specs.Faults.{IsFirstBrokenStep}
use Rattle.hls_check.specs.Rows.{StepKeepsPrices, RowsKeepPrices, BlockKeepsPrices, IsFirstBadBlock, IsFirstOfRows}
use Rattle.hls_check.proofs.Blocks.{first_of_all}

-- the flag that was computed for block b says whether it has a step that breaks the prices
abbrev pub IsToldAt : Table → ClaimData → ℕ → Bool → Type 0
IsToldAt t shown b bad = (p : Bor ℕ) × (p.now ≡ b) × MatchBool bad (BlockKeepsPrices t shown p.now → ⊥) (BlockKeepsPrices t shown p.now)

-- the first of n blocks from a on whose flag is true is the first bad block; if there is none, all steps from them respect the prices
first_yes : (t : Table) (shown : ClaimData) (a n : ℕ) (bs : List Bool) → AllZip (IsToldAt t shown) (range_with_len a n) bs →
    MatchOption (slice_get (filter_by_mask (range_with_len a n) bs) 0)
    ((b : ℕ) → a ≤ b → b < a + n → BlockKeepsPrices t shown b) (IsFirstBadBlock t shown a (a + n))
first_yes t shown a zero [] told = λ b from below. absurd (omega arith)
first_yes t shown a zero (x ∷ bs) told = absurd told
first_yes t shown a (suc n) [] told = absurd told
first_yes t shown a (suc n) (true ∷ bs) told = record {
  from = omega arith;
  below = omega arith;
  bad = λ keeps. told.0.2 (rw told.0.1 keeps);
  before = λ b from below. absurd (omega arith);
}
first_yes t shown a (suc n) (false ∷ bs) told =
    let here : BlockKeepsPrices t shown a = rw told.0.1 at told.0.2 in
    later (slice_get (filter_by_mask (range_with_len (a + 1) n) bs) 0) here (first_yes t shown (a + 1) n bs told.1)
  where
    later : (r : Option ℕ) → BlockKeepsPrices t shown a →
        MatchOption r ((b : ℕ) → a + 1 ≤ b → b < a + 1 + n → BlockKeepsPrices t shown b) (IsFirstBadBlock t shown (a + 1) (a + 1 + n)) →
        MatchOption r ((b : ℕ) → a ≤ b → b < a + suc n → BlockKeepsPrices t shown b) (IsFirstBadBlock t shown a (a + suc n))
    later None here rest = λ b from below.
        elim (cases_eq b a) [
          | inl same ↦ rw same here
          | inr other ↦ rest b (omega arith) (omega arith)
        ]
    later (Some x) here rest = record {
      from = omega (arith, rest.from);
      below = omega (arith, rest.below);
      bad = rest.bad;
      before = λ b from below.
          elim (cases_eq b a) [
            | inl same ↦ rw same here
            | inr other ↦ rest.before b (omega arith) below
          ];
    }

-- the same for a search through `from..to` that returns the first item with a true flag
pub first_told : (t : Table) (shown : ClaimData) (from to start end : ℕ) → from ≤ to → start ≡ from → end ≡ to →
    (xs : List ℕ) (bs : List Bool) (r : Option ℕ) → xs ≡ nat_range start end → AllZip (IsToldAt t shown) xs bs →
    r ≡ slice_get (filter_by_mask xs bs) 0 →
    MatchOption r ((b : ℕ) → from ≤ b → b < to → BlockKeepsPrices t shown b) (IsFirstBadBlock t shown from to)
first_told t shown from to start end order is_start is_end xs bs r is told found =
    let whole : from + (to - from) ≡ to = omega (arith, order) in
    let list : xs ≡ range_with_len from (to - from) = rw (is_start, is_end) at is in
    let first = first_yes t shown from (to - from) bs (rw list at told) in
    rw (found, list) (rw whole at first)

-- if the first n blocks respect the prices, so do all steps from their places
pub rows_of_blocks : (t : Table) (shown : ClaimData) (n : ℕ) → ((b : ℕ) → b < n → BlockKeepsPrices t shown b) → RowsKeepPrices t shown 0 (n * 32)
rows_of_blocks t shown n keep i j from below = keep (i / 32) (omega (arith, below)) i j (omega arith) (omega arith)

-- the first broken step of the first bad block is the first of all, if the blocks before the search respect the prices
pub first_of_bad : (t : Table) (shown : ClaimData) (done end block : ℕ) (r : Option (ℕ × ℕ)) →
    ((b : ℕ) → b < done → BlockKeepsPrices t shown b) → IsFirstBadBlock t shown done end block →
    MatchOption r (BlockKeepsPrices t shown block) (λ step. IsFirstOfRows t shown (block * 32) (block * 32 + 32) step.0 step.1) →
    MatchOption r ((p q : ℕ) → StepKeepsPrices t shown p q) (λ step. IsFirstBrokenStep (StepKeepsPrices t shown) step.0 step.1)
first_of_bad t shown done end block None before first keeps = absurd (first.bad keeps)
first_of_bad t shown done end block (Some step) before first found =
    first_of_all t shown (block * 32) (block * 32 + 32) step.0 step.1
    (rows_of_blocks t shown block (λ b below.
    elim (cases_lt b done) [
      | inl low ↦ before b low
      | inr high ↦ first.before b high below
    ]))
    found

-- if all blocks respect the prices, each step does
pub all_of_blocks : (t : Table) (shown : ClaimData) (blocks : ℕ) → length t.places ≤ blocks * 32 →
    ((b : ℕ) → b < blocks → BlockKeepsPrices t shown b) → (p q : ℕ) → StepKeepsPrices t shown p q
all_of_blocks t shown blocks enough keep p q rises allowed =
    rows_of_blocks t shown blocks keep p q (omega arith) (omega (arith, allowed.from, enough)) rises allowed

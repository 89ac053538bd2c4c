-- Jobs by their ids, and by their indices among the rows.
use Rattle.std.proofs.Common.{◌≡◌, ◌≢◌, ℕ, suc, zero, ◌<◌, false, List, [], ◌∷◌, Some, None, refl, sym, ap, subst, arith}
use Rattle.std.specs.Prelude.{◌==◌, All, slice_get, slice_set}
use Rattle.std.specs.List.{AllByRecursion, remove}
use Rattle.std.proofs.lemmas.Bool.{eq-eqb, ne_eqb}
use Rattle.std.proofs.lemmas.List.Elements.{All-head, All-tail}
use Rattle.hls_catchup.specs.declared.jobs.job.JobRow.{JobRow}
use Rattle.hls_catchup.specs.declared.jobs.job.JobState.{JobState}
use Rattle.hls_catchup.specs.Jobs.Tables.{HaveRisingIds, job_state_at, rows_with_state, rows_without}

-- an index has one row
pub same_row : (first row : JobRow) → Some first ≡ Some row → first ≡ row
same_row first row is = cc

-- an empty list has no row
pub none_there : (row : JobRow) → None ≡ Some row → ⊥
none_there row there = cc

-- an id isn't equal to a lower one
apart : (low high : ℕ) → low < high → (high == low) ≡ false
apart low high below = ne_eqb high low (λ same. omega (arith, same))

-- an id isn't equal to a greater one
apart_below : (low high : ℕ) → low < high → (low == high) ≡ false
apart_below low high below = ne_eqb low high (λ same. omega (arith, same))

-- later rows have later ids
pub later_at : (id : ℕ) (rows : List JobRow) (at : ℕ) (row : JobRow) → AllByRecursion (λ later. id < later.id) rows → slice_get rows at ≡ Some row → id < row.id
later_at id [] at row later there = absurd (none_there row there)
later_at id (first ∷ rows) zero row later there = subst (λ (r : JobRow). id < r.id) (same_row first row there) later.0
later_at id (first ∷ rows) (suc at) row later there = later_at id rows at row later.1 there

-- if all ids are greater, changing the job of this one changes nothing
pub kept_with : (id : ℕ) (state : JobState) (rows : List JobRow) → AllByRecursion (λ later. id < later.id) rows → rows_with_state id state rows ≡ rows
kept_with id state [] later = refl
kept_with id state (row ∷ rows) later = rw (apart id row.id later.0) (ap (λ (rs : List JobRow). row ∷ rs) (kept_with id state rows later.1))

-- if all ids are greater, removing the job of this one changes nothing
pub kept_without : (id : ℕ) (rows : List JobRow) → AllByRecursion (λ later. id < later.id) rows → rows_without id rows ≡ rows
kept_without id [] later = refl
kept_without id (row ∷ rows) later = rw (apart id row.id later.0) (ap (λ (rs : List JobRow). row ∷ rs) (kept_without id rows later.1))

-- the state of the job at an index is that of its id
pub phase_is : (rows : List JobRow) (at : ℕ) (row : JobRow) → HaveRisingIds rows → slice_get rows at ≡ Some row → job_state_at row.id rows ≡ Some row.state
phase_is [] at row rising there = absurd (none_there row there)
phase_is (first ∷ rows) zero row rising there =
    subst (λ (r : JobRow). job_state_at r.id (first ∷ rows) ≡ Some r.state) (same_row first row there) (rw (eq-eqb first.id first.id refl) refl)
phase_is (first ∷ rows) (suc at) row rising there =
    rw (apart_below first.id row.id (later_at first.id rows at row rising.0 there)) (phase_is rows at row rising.1 there)

-- changing the job at an index changes the one of its id
pub set_is : (rows : List JobRow) (at : ℕ) (row : JobRow) (state : JobState) → HaveRisingIds rows → slice_get rows at ≡ Some row
    → slice_set rows at (record { id = row.id; state = state }) ≡ rows_with_state row.id state rows
set_is [] at row state rising there = absurd (none_there row there)
set_is (first ∷ rows) zero row state rising there =
    subst (λ (r : JobRow). slice_set (first ∷ rows) 0 (record { id = r.id; state = state }) ≡ rows_with_state r.id state (first ∷ rows)) (same_row first row there)
    (rw (eq-eqb first.id first.id refl) (ap (λ (rs : List JobRow). record { id = first.id; state = state } ∷ rs) (sym (kept_with first.id state rows rising.0))))
set_is (first ∷ rows) (suc at) row state rising there =
    rw (apart_below first.id row.id (later_at first.id rows at row rising.0 there)) (ap (λ (rs : List JobRow). first ∷ rs) (set_is rows at row state rising.1 there))

-- removing the job at an index removes the one of its id
pub removed_is : (rows : List JobRow) (at : ℕ) (row : JobRow) → HaveRisingIds rows → slice_get rows at ≡ Some row → remove rows at ≡ rows_without row.id rows
removed_is [] at row rising there = absurd (none_there row there)
removed_is (first ∷ rows) zero row rising there =
    subst (λ (r : JobRow). rows ≡ rows_without r.id (first ∷ rows)) (same_row first row there)
    (rw (eq-eqb first.id first.id refl) (sym (kept_without first.id rows rising.0)))
removed_is (first ∷ rows) (suc at) row rising there =
    rw (apart_below first.id row.id (later_at first.id rows at row rising.0 there)) (ap (λ (rs : List JobRow). first ∷ rs) (removed_is rows at row rising.1 there))

-- if no row has the id, there is no such job
pub none_is : (id : ℕ) (rows : List JobRow) → All (λ row. row.id ≢ id) rows → job_state_at id rows ≡ None
none_is id [] other = refl
none_is id (row ∷ rows) other =
    rw (ne_eqb row.id id (All-head (λ (r : JobRow). r.id ≢ id) row rows other)) (none_is id rows (All-tail (λ (r : JobRow). r.id ≢ id) row rows other))

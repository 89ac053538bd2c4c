-- Each change of a table preserves its invariant.
use Rattle.std.proofs.Common.{◌≡◌, ◌≢◌, ℕ, suc, ◌<◌, ◌≤◌, ◌+◌, true, false, cond, List, [], ◌∷◌, ◌++◌, length, refl, sym, ap, subst, ⊎_elim, arith, length-append}
use Rattle.std.specs.Prelude.{◌==◌, if◌then◌else◌, not}
use Rattle.std.specs.List.{AllByRecursion}
use Rattle.std.proofs.lemmas.Bool.Decides.{eqb_tells}
use Rattle.hls_catchup.specs.declared.jobs.job.JobRow.{JobRow}
use Rattle.hls_catchup.specs.declared.jobs.job.JobState.{JobState}
use Rattle.hls_catchup.specs.Jobs.States.{IsRightState}
use Rattle.hls_catchup.specs.Jobs.Tables.{JobTableData, IsJobTable, HaveRisingIds, IsUsed, job_limit, id_limit, rows_with_state, rows_without}

-- what holds of each row and of one more holds of each once this one is added
pub all_more : (P : JobRow → Type 0) (rows : List JobRow) (row : JobRow) → AllByRecursion P rows → P row → AllByRecursion P (rows ++ row ∷ [])
all_more P [] row all one = (one, tt)
all_more P (first ∷ rows) row all one = (all.0, all_more P rows row all.1 one)

-- if P implies Q and P holds of each row, Q does
pub all_weaker : (P Q : JobRow → Type 0) (rows : List JobRow) → ((row : JobRow) → P row → Q row) → AllByRecursion P rows → AllByRecursion Q rows
all_weaker P Q [] weaker all = tt
all_weaker P Q (row ∷ rows) weaker all = (weaker row all.0, all_weaker P Q rows weaker all.1)

-- what holds of each row holds of the remaining ones
pub all_without : (P : JobRow → Type 0) (id : ℕ) (rows : List JobRow) → AllByRecursion P rows → AllByRecursion P (rows_without id rows)
all_without P id [] all = tt
all_without P id (row ∷ rows) all = elim (row.id == id) as (λ b. AllByRecursion P (cond (not b) (row ∷ rows_without id rows) (rows_without id rows))) [
  | true ↦ all_without P id rows all.1
  | false ↦ (all.0, all_without P id rows all.1)
]

-- removing a job leaves the ids rising
pub rising_without : (id : ℕ) (rows : List JobRow) → HaveRisingIds rows → HaveRisingIds (rows_without id rows)
rising_without id [] rising = tt
rising_without id (row ∷ rows) rising = elim (row.id == id) as (λ b. HaveRisingIds (cond (not b) (row ∷ rows_without id rows) (rows_without id rows))) [
  | true ↦ rising_without id rows rising.1
  | false ↦ (all_without (λ later. row.id < later.id) id rows rising.0, rising_without id rows rising.1)
]

-- removing a job adds no row
pub fewer_without : (id : ℕ) (rows : List JobRow) → length (rows_without id rows) ≤ length rows
fewer_without id [] = omega arith
fewer_without id (row ∷ rows) = let fewer = fewer_without id rows in elim (row.id == id) as (λ b. length (cond (not b) (row ∷ rows_without id rows) (rows_without id rows)) ≤ length (row ∷ rows)) [
  | true ↦ omega arith
  | false ↦ omega arith
]

-- a row with another state, if it has this id
abbrev changed_row : ℕ → JobState → JobRow → JobRow
changed_row id state row = if row.id == id then record { id = id; state = state } else row

-- a row keeps its id when its state is set
id_kept : (id : ℕ) (state : JobState) (row : JobRow) → (changed_row id state row).id ≡ row.id
id_kept id state row = ⊎_elim
    (λ (same : ((row.id == id) ≡ true) × (row.id ≡ id)). rw same.0 (sym same.1))
    (λ (other : ((row.id == id) ≡ false) × (row.id ≢ id)). rw other.0 refl)
    (eqb_tells row.id id)

-- setting a job's state preserves each property of the ids alone
pub ids_with : (P : ℕ → Type 0) (id : ℕ) (state : JobState) (rows : List JobRow) → AllByRecursion (λ row. P row.id) rows → AllByRecursion (λ row. P row.id) (rows_with_state id state rows)
ids_with P id state [] all = tt
ids_with P id state (row ∷ rows) all = (subst P (sym (id_kept id state row)) all.0, ids_with P id state rows all.1)

-- setting a job's state leaves the ids rising
pub rising_with : (id : ℕ) (state : JobState) (rows : List JobRow) → HaveRisingIds rows → HaveRisingIds (rows_with_state id state rows)
rising_with id state [] rising = tt
rising_with id state (row ∷ rows) rising = (
  subst (λ (n : ℕ). AllByRecursion (λ later. n < later.id) (rows_with_state id state rows)) (sym (id_kept id state row)) (ids_with (λ n. row.id < n) id state rows rising.0),
  rising_with id state rows rising.1,
)

-- what holds of each state and of a new one holds of each state after the new one was set
pub phases_with : (P : JobState → Type 0) (id : ℕ) (state : JobState) (rows : List JobRow) → P state → AllByRecursion (λ row. P row.state) rows → AllByRecursion (λ row. P row.state) (rows_with_state id state rows)
phases_with P id state [] one all = tt
phases_with P id state (row ∷ rows) one all = (
  elim (row.id == id) as (λ b. P (if b then record { id = id; state = state } else row).state) [ true ↦ one | false ↦ all.0 ],
  phases_with P id state rows one all.1,
)

-- adding a row with the next id leaves the ids rising
pub rising_more : (next : ℕ) (rows : List JobRow) (row : JobRow) → HaveRisingIds rows → AllByRecursion (IsUsed next) rows → row.id ≡ next → HaveRisingIds (rows ++ row ∷ [])
rising_more next [] row rising used is = (tt, tt)
rising_more next (first ∷ rows) row rising used is = (
  all_more (λ later. first.id < later.id) rows row rising.0 (omega (arith, is, used.0.1)),
  rising_more next rows row rising.1 used.1 is,
)

-- adding a job under the next id to a table that is not full leaves a table
pub table_added : (t : JobTableData) (row : JobRow) → IsJobTable t → length t.rows < job_limit → t.next ≢ id_limit → row.id ≡ t.next → IsRightState row.state
    → IsJobTable (record { next = t.next + 1; rows = t.rows ++ row ∷ [] })
table_added t row is room more id right = record {
  first = let low = is.first in omega arith;
  last = let high = is.last in omega arith;
  few = let n = length-append t.rows (row ∷ []) in omega (arith, n, room);
  used = all_more (IsUsed (t.next + 1)) t.rows row
      (all_weaker (IsUsed t.next) (IsUsed (t.next + 1)) t.rows (λ r u. (u.0, let below = u.1 in omega arith)) is.used)
      (let low = is.first in omega (arith, id), omega (arith, id));
  rising = rising_more t.next t.rows row is.rising is.used id;
  right = all_more (λ r. IsRightState r.state) t.rows row is.right right;
}

-- setting a job's state leaves the number of rows
length_with : (id : ℕ) (state : JobState) (rows : List JobRow) → length (rows_with_state id state rows) ≡ length rows
length_with id state [] = refl
length_with id state (row ∷ rows) = ap suc (length_with id state rows)

-- setting a job's state to a right one leaves a table
pub table_changed : (t : JobTableData) (id : ℕ) (state : JobState) → IsJobTable t → IsRightState state → IsJobTable (record { next = t.next; rows = rows_with_state id state t.rows })
table_changed t id state is right = record {
  first = is.first;
  last = is.last;
  few = subst (λ (n : ℕ). n ≤ job_limit) (sym (length_with id state t.rows)) is.few;
  used = ids_with (λ n. (1 ≤ n) × (n < t.next)) id state t.rows is.used;
  rising = rising_with id state t.rows is.rising;
  right = phases_with IsRightState id state t.rows right is.right;
}

-- removing a job leaves a table
pub table_without : (t : JobTableData) (id : ℕ) → IsJobTable t → IsJobTable (record { next = t.next; rows = rows_without id t.rows })
table_without t id is = record {
  first = is.first;
  last = is.last;
  few = let fewer = fewer_without id t.rows in let few = is.few in omega arith;
  used = all_without (IsUsed t.next) id t.rows is.used;
  rising = rising_without id t.rows is.rising;
  right = all_without (λ r. IsRightState r.state) id t.rows is.right;
}

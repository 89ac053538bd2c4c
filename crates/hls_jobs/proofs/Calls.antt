-- What is found and changed among the rows, as the clauses of calls on the table say it.
use Rattle.std.proofs.Common.{◌≡◌, ℕ, suc, zero, ◌<◌, ◌≤◌, true, false, List, [], ◌∷◌, length, take, get_or, Some, refl, ap, subst, ◌∙◌, arith}
use Rattle.std.specs.Prelude.{All, slice_get}
use Rattle.std.specs.List.{AllByRecursion, remove}
use Rattle.std.proofs.lemmas.List.Elements.{All-head, All-tail}
use Rattle.std.proofs.lemmas.Option.{slice_get_read}
use Rattle.hls_catchup.specs.declared.jobs.job.JobRow.{JobRow}
use Rattle.hls_catchup.specs.declared.jobs.job.JobState.{JobState}
use Rattle.hls_catchup.specs.declared.jobs.job.JobState.TheVariants.{Running}
use Rattle.hls_catchup.specs.declared.jobs.job.Work.{Work}
use Rattle.hls_catchup.specs.Jobs.States.{is_waiting}
use Rattle.hls_catchup.specs.Jobs.Tables.{HaveRisingIds, job_state_at, rows_with_state, rows_without}
use Rattle.hls_catchup.specs.Jobs.Changes.{IsNext}
use Rattle.hls_jobs.specs.Rows.{IsRowAt, WaitsAt, Starts, Sets, waiting_row}
use Rattle.hls_jobs.proofs.ByIds.{same_row, none_there, phase_is, set_is, removed_is}

-- an index has one row
one_row : (rows : List JobRow) (at : ℕ) (a b : JobRow) → slice_get rows at ≡ Some a → slice_get rows at ≡ Some b → a ≡ b
one_row rows at a b first second = cc

-- the row at the index of an id has that id
pub id_at : (rows : List JobRow) (id at : ℕ) (row : JobRow) → IsRowAt rows id at → slice_get rows at ≡ Some row → row.id ≡ id
id_at rows id at row stands there = ap (λ (r : JobRow). r.id) (one_row rows at row stands.row there stands.there) ∙ stands.id_is

-- the state of the row at the index of an id is that of the job of this id
pub phase_there : (rows : List JobRow) (id at : ℕ) (row : JobRow) → HaveRisingIds rows → IsRowAt rows id at → slice_get rows at ≡ Some row → job_state_at id rows ≡ Some row.state
phase_there rows id at row rising stands there =
    subst (λ (n : ℕ). job_state_at n rows ≡ Some row.state) (id_at rows id at row stands there) (phase_is rows at row rising there)

-- the same for the row that was read at that index
pub phase_read : (rows : List JobRow) (id at : ℕ) (row : JobRow) → HaveRisingIds rows → IsRowAt rows id at → row ≡ get_or rows at row → job_state_at id rows ≡ Some row.state
phase_read rows id at row rising stands is =
    phase_there rows id at row rising stands (slice_get_read rows (length rows) at row refl stands.within is)

-- setting the state of the row at the index of an id sets that of the job of this id
pub changed_there : (rows then : List JobRow) (id at : ℕ) (state : JobState) → HaveRisingIds rows → IsRowAt rows id at → Sets rows at state then → then ≡ rows_with_state id state rows
changed_there rows then id at state rising stands sets =
    subst (λ (n : ℕ). then ≡ rows_with_state n state rows) stands.id_is (sets stands.row stands.there ∙ set_is rows at stands.row state rising stands.there)

-- removing the row at the index of an id removes the job of this id
pub gone_there : (rows then : List JobRow) (id at : ℕ) → HaveRisingIds rows → IsRowAt rows id at → then ≡ remove rows at → then ≡ rows_without id rows
gone_there rows then id at rising stands is =
    subst (λ (n : ℕ). then ≡ rows_without n rows) stands.id_is (is ∙ removed_is rows at stands.row rising stands.there)

-- greater ids aren't less
not_less : (id : ℕ) (rows : List JobRow) → AllByRecursion (λ later. id < later.id) rows → AllByRecursion (λ row. is_waiting row.state ≡ true → id ≤ row.id) rows
not_less id [] later = tt
not_less id (row ∷ rows) later = ((λ waits. let below = later.0 in omega arith), not_less id rows later.1)

-- if no job before an index waits, every waiting job has the id at that index, or a later one
pub least_there : (rows : List JobRow) (at : ℕ) (row : JobRow) → HaveRisingIds rows → slice_get rows at ≡ Some row → All (λ r. is_waiting r.state ≡ false) (take at rows)
    → AllByRecursion (λ r. is_waiting r.state ≡ true → row.id ≤ r.id) rows
least_there [] at row rising there first = absurd (none_there row there)
least_there (head ∷ rows) zero row rising there first =
    subst (λ (n : JobRow). AllByRecursion (λ r. is_waiting r.state ≡ true → n.id ≤ r.id) (head ∷ rows)) (same_row head row there) ((λ waits. omega arith), not_less head.id rows rising.0)
least_there (head ∷ rows) (suc at) row rising there first = (
  (λ waits. let not = All-head (λ (r : JobRow). is_waiting r.state ≡ false) head (take at rows) first in absurd (cc)),
  least_there rows at row rising.1 there (All-tail (λ (r : JobRow). is_waiting r.state ≡ false) head (take at rows) first),
)

-- the work that was started is the next one
pub next_there : (rows then : List JobRow) (at : ℕ) (work : Work) → HaveRisingIds rows → WaitsAt rows at → Starts rows at work then → IsNext rows work
next_there rows then at work rising waits begins = record {
  waits = phase_is rows at (waiting_row work) rising begins.waited;
  least = least_there rows at (waiting_row work) rising begins.waited waits.first;
}

-- starting the work at an index makes the job of its id run for its request, at the version of its snapshot
pub runs_there : (rows then : List JobRow) (at : ℕ) (work : Work) → HaveRisingIds rows → Starts rows at work then
    → then ≡ rows_with_state work.id (Running (length work.snapshot.value.log) work.request) rows
runs_there rows then at work rising begins =
    begins.runs ∙ set_is rows at (waiting_row work) (Running (length work.snapshot.value.log) work.request) rising begins.waited

-- Removing the row of an unused job, as the clause of that call on the table says it.
use Rattle.std.proofs.Common.{◌≡◌, ℕ, List, get_or, true, sym, subst, ◌∙◌}
use Rattle.std.specs.List.{remove}
use Rattle.std.proofs.lemmas.Option.{get_or_from_slice_get}
use Rattle.hls_catchup.specs.declared.jobs.job.JobRow.{JobRow}
use Rattle.hls_catchup.specs.Jobs.Tables.{HaveRisingIds, rows_without}
use Rattle.hls_catchup.specs.Jobs.Changes.{HasJob}
use Rattle.hls_jobs.specs.declared.last_uses.JobAge.{JobAge}
use Rattle.hls_jobs.specs.declared.last_uses.LastUse.{LastUse}
use Rattle.hls_jobs.specs.LastUses.{IsUnusedAt, is_unused}
use Rattle.hls_jobs.proofs.ByIds.{phase_is, removed_is}

-- removing the row of an unused job at its index removes that job, and no other one
pub removed_unused : (rows after : List JobRow) (uses : List LastUse) (age : JobAge) (at : ℕ) (removed : JobRow) → HaveRisingIds rows → IsUnusedAt rows uses age at
    → removed ≡ get_or rows at removed → after ≡ remove rows at
    → (is_unused uses age removed ≡ true) × HasJob removed.id rows × (after ≡ rows_without removed.id rows)
removed_unused rows after uses age at removed rising found value items =
    let same : found.row ≡ removed = sym (value ∙ get_or_from_slice_get rows at found.row removed found.there) in
    subst (λ (row : JobRow). (is_unused uses age row ≡ true) × HasJob row.id rows × (after ≡ rows_without row.id rows)) same (
      found.unused,
      record { state = found.row.state; there = phase_is rows at found.row rising found.there },
      items ∙ removed_is rows at found.row rising found.there,
    )

-- By the row at the id's index: there is none, it doesn't run for this request and version, or its state becomes the answer's.
use Rattle.std.proofs.Common.{◌≡◌, ℕ, List, Some, None, refl, ap, subst, ◌∙◌, ◌≢◌}
use Rattle.std.specs.Prelude.{All}
use Rattle.hls_catchup.specs.declared.jobs.job.JobRow.{JobRow}
use Rattle.hls_catchup.specs.declared.jobs.job.JobState.{JobState}
use Rattle.hls_catchup.specs.declared.jobs.job.JobState.TheVariants.{Running}
use Rattle.hls_catchup.specs.declared.request.Request.{Request}
use Rattle.hls_catchup.specs.Jobs.States.{state_of_answer, IsRunningFor}
use Rattle.hls_jobs.specs.Rows.{IsRowAt, Sets}
use Rattle.hls_catchup.specs.Jobs.Tables.{JobTableData, job_state_at}
use Rattle.hls_catchup.specs.Jobs.Changes.{IsStray, with_job_state}
use Rattle.hls_jobs.proofs.ByIds.{none_is}
use Rattle.hls_jobs.proofs.Calls.{phase_read, changed_there}
use Rattle.hls_jobs.proofs.Keeps.{kept_changed, right_end}
use Rattle.hls_jobs.proofs.table.JobTable.try_finish.Goals as goal

pub returns-in_default-clause-finishes : goal.returns-in_default-clause-finishes
returns-in_default-clause-finishes c =
    let id = c.args.finished.id in
    let none = subst (λ (x : List JobRow × ℕ). All (λ row. row.id ≢ x.1) x.0) (λ i. (c.deref.ensures.value i, c.id.ensures i)) c.in_default.ensures in
    (subst (λ (t : JobTableData). job_state_at id t.rows ≡ None) c.self.view_is (none_is id c.self.inside.rows.items none), refl)

pub returns-then-not-is_running_for-clause-finishes : goal.returns-then-not-is_running_for-clause-finishes
returns-then-not-is_running_for-clause-finishes c =
    let f = c.args.finished in
    let rows = c.self.inside.rows.items in
    let stands = subst (λ (x : List JobRow × ℕ). IsRowAt x.0 x.1 c.in-Some.at) (λ i. (c.deref.ensures.value i, c.id.ensures i)) c.in-Some.ensures in
    let row = c.index.result.now in (
      subst (λ (t : JobTableData). IsStray f t.rows) c.self.view_is (record {
        state = row.state;
        there = phase_read rows f.id c.in-Some.at row c.self.invariant.table.rising stands c.index.ensures;
        other = subst (λ (x : ℕ × Request). ¬ IsRunningFor x.0 x.1 row.state) (λ i. (c.version.ensures i, c.request.ensures i))
            (c.is_running_for.ensures.no c.if-not-is_running_for.true);
      }),
      refl,
    )

pub invariant_of-self : goal.invariant_of-self
invariant_of-self c =
    let f = c.args.finished in
    let rows = c.self.inside.rows.items in
    let stands = subst (λ (x : List JobRow × ℕ). IsRowAt x.0 x.1 c.in-Some.at) (λ i. (c.deref.ensures.value i, c.id.ensures i)) c.in-Some.ensures in
    let state : c.state_of_answer.result ≡ state_of_answer f.answer = c.state_of_answer.ensures ∙ ap state_of_answer c.into_answer.ensures.value in
    kept_changed c.self.inside c.set_state.new.rows f.id (state_of_answer f.answer) c.self.invariant
    (right_end f.version f.request f.answer c.into_answer.ensures.right)
    (changed_there rows c.set_state.new.rows.items f.id c.in-Some.at (state_of_answer f.answer) c.self.invariant.table.rising stands
    (subst (λ (p : JobState). Sets rows c.in-Some.at p c.set_state.new.rows.items) state c.set_state.ensures.sets))
    c.set_state.ensures.room

pub returns-clause-finishes : goal.returns-clause-finishes
returns-clause-finishes c =
    let f = c.args.finished in
    let rows = c.self.inside.rows.items in
    let rising = c.self.invariant.table.rising in
    let stands = subst (λ (x : List JobRow × ℕ). IsRowAt x.0 x.1 c.in-Some.at) (λ i. (c.deref.ensures.value i, c.id.ensures i)) c.in-Some.ensures in
    let row = c.index.result.now in
    let runs = subst (λ (x : ℕ × Request). IsRunningFor x.0 x.1 row.state) (λ i. (c.version.ensures i, c.request.ensures i))
    (c.is_running_for.ensures.yes c.if-not-is_running_for.false) in
    let state : c.state_of_answer.result ≡ state_of_answer f.answer = c.state_of_answer.ensures ∙ ap state_of_answer c.into_answer.ensures.value in
    let changes = changed_there rows c.set_state.new.rows.items f.id c.in-Some.at (state_of_answer f.answer) rising stands
    (subst (λ (p : JobState). Sets rows c.in-Some.at p c.set_state.new.rows.items) state c.set_state.ensures.sets) in
    subst (λ (t : JobTableData). (job_state_at f.id t.rows ≡ Some (Running f.version f.request))
    × (◌≡◌ {A = JobTableData} (record { next = c.self.inside.next; rows = c.set_state.new.rows.items }) (with_job_state t f.id (state_of_answer f.answer))))
    c.self.view_is (
      phase_read rows f.id c.in-Some.at row rising stands c.index.ensures ∙ ap Some runs,
      ap (λ (rs : List JobRow). record { next = c.self.inside.next; rows = rs }) changes,
    )

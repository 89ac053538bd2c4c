-- Each change of a table keeps its representation sound.
use Rattle.std.proofs.Common.{◌≡◌, ℕ, ◌+◌, ◌<◌, ◌≤◌, List, [], ◌∷◌, ◌++◌, length, sym, subst, arith, Vec, Global, Result, Ok, Err}
use Rattle.std.specs.declared.alloc.AllocError.{AllocError}
use Rattle.std.specs.Vec.{vec_capacity}
use Rattle.hls_catchup.specs.declared.jobs.job.JobRow.{JobRow}
use Rattle.hls_catchup.specs.declared.jobs.job.JobState.{JobState}
use Rattle.hls_jobs.specs.declared.table.JobTable.TheInside.{Inside}
use Rattle.hls_catchup.specs.declared.request.Request.{Request}
use Rattle.hls_catchup.specs.Jobs.Answers.{AnsweredData}
use Rattle.hls_catchup.specs.Jobs.Finished.{IsAnswerFor}
use Rattle.hls_catchup.specs.Jobs.States.{IsRightState, state_of_answer}
use Rattle.hls_catchup.specs.Jobs.Tables.{IsJobTable, rows_with_state, rows_without, job_limit, id_limit}
use Rattle.hls_jobs.specs.Model.{model_of, IsSoundTable}
use Rattle.hls_jobs.proofs.Valid.{table_added, table_changed, table_without}

-- adding a job under the next id to a table that has room for it keeps the table sound
pub kept_added : (t : Inside) (rows : Vec JobRow Global) (row : JobRow) → IsSoundTable t → length t.rows.items < job_limit → t.next < id_limit → row.id ≡ t.next → IsRightState row.state
    → rows.items ≡ t.rows.items ++ row ∷ [] → vec_capacity t.rows ≤ vec_capacity rows → IsSoundTable (record { next = t.next + 1; rows = rows })
kept_added t rows row kept room more id right items more_room = record {
  table = subst (λ (rs : List JobRow). IsJobTable (record { next = t.next + 1; rows = rs })) (sym items) (table_added (model_of t) row kept.table room (λ is. omega (arith, is, more)) id right);
  room = let room = kept.room in omega (arith, more_room);
}

-- setting a job's state to a right one keeps the table sound
pub kept_changed : (t : Inside) (rows : Vec JobRow Global) (id : ℕ) (state : JobState) → IsSoundTable t → IsRightState state
    → rows.items ≡ rows_with_state id state t.rows.items → vec_capacity t.rows ≤ vec_capacity rows → IsSoundTable (record { next = t.next; rows = rows })
kept_changed t rows id state kept right items more_room = record {
  table = subst (λ (rs : List JobRow). IsJobTable (record { next = t.next; rows = rs })) (sym items) (table_changed (model_of t) id state kept.table right);
  room = let room = kept.room in omega (arith, more_room);
}

-- removing a job keeps the table sound
pub kept_without : (t : Inside) (rows : Vec JobRow Global) (id : ℕ) → IsSoundTable t → rows.items ≡ rows_without id t.rows.items → vec_capacity rows ≡ vec_capacity t.rows
    → IsSoundTable (record { next = t.next; rows = rows })
kept_without t rows id kept items same_room = record {
  table = subst (λ (rs : List JobRow). IsJobTable (record { next = t.next; rows = rs })) (sym items) (table_without (model_of t) id kept.table);
  room = let room = kept.room in omega (arith, same_room);
}

-- the state in which a right answer leaves its job is a right one
pub right_end : (version : ℕ) (request : Request) (answer : Result AnsweredData AllocError) → IsAnswerFor version request answer → IsRightState (state_of_answer answer)
right_end version request (Ok a) right = right.2
right_end version request (Err wanted) right = tt

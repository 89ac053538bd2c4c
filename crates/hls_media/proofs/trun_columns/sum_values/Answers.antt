-- The sum is that of the values of a run's samples in each case: fields in the rows, a default for all, or neither.
use Rattle.std.proofs.Common.{◌≡◌, ℕ, ◌*◌, Bool, true, false, List, drop, map, sum, Option, Some, None, sym, ◌∙◌, arith, nat_lt, refl}
use Rattle.std.proofs.lemmas.List.{take_rest}
use Rattle.hls_media_laws.specs.Fields.{column, values, total, some_missing, sample_count, row_len, rows_offset}
use Rattle.hls_media.specs.declared.trun_columns.ColumnSum.{ColumnSum}
use Rattle.hls_media.specs.ColumnSum.{column_sum}
use Rattle.hls_media.proofs.ColumnLaws.{total-fields, lacks-fields, total-defaults, lacks-defaults, lacks-none}
use Rattle.hls_media.proofs.trun_columns.sum_values.Goals as goal

-- two sums of a column are equal if their totals are and both lack a value or neither
same : (a b : ℕ) (p q : Bool) → a ≡ b → p ≡ q → ◌≡◌ {A = ColumnSum} (record { total = a; lacking = p }) (record { total = b; lacking = q })
same a b p q e f = rw (e, f) refl

-- the sum of the fields in the rows, with no value missing, is the sum of the values of a run whose rows have them
fields : (at : ℕ) (default : Option ℕ) (run : List ℕ) (sum_is : ℕ) → sum_is ≡ sum (column (sample_count run) (row_len run) at (drop (rows_offset run) run)) → ◌≡◌ {A = ColumnSum} (record { total = sum_is; lacking = false }) (column_sum (values true at default run))
unfolding values
fields at default run sum_is e =
    let col : List ℕ = column (sample_count run) (row_len run) at (drop (rows_offset run) run) in
    same sum_is (total (map Some col)) false (some_missing (map Some col)) (e ∙ sym (total-fields col)) (sym (lacks-fields col))

-- without fields in the rows, the sum of the values is the number of samples times the default
defaults : (at v : ℕ) (run : List ℕ) → ◌≡◌ {A = ColumnSum} (record { total = sample_count run * v; lacking = false }) (column_sum (values false at (Some v) run))
unfolding values
defaults at v run =
    same (sample_count run * v) _ false _ (sym (total-defaults (sample_count run) (Some v))) (sym (lacks-defaults (sample_count run) v))

-- without fields in the rows and without a default, the sum is 0, and a value is missing if there is a sample
nothing : (at : ℕ) (run : List ℕ) → ◌≡◌ {A = ColumnSum} (record { total = 0; lacking = nat_lt 0 (sample_count run) }) (column_sum (values false at None run))
unfolding values
nothing at run =
    let zero : sample_count run * 0 ≡ 0 = omega arith in
    same 0 _ (nat_lt 0 (sample_count run)) _ (sym (total-defaults (sample_count run) None ∙ zero)) (sym (lacks-none (sample_count run)))

pub returns-then-present-clause-value : goal.returns-then-present-clause-value
returns-then-present-clause-value c =
    let is : c.sum_column.result ≡ sum (column (sample_count c.args.content.now) (row_len c.args.content.now) c.args.at (drop (rows_offset c.args.content.now) c.args.content.now)) =
    rw (← c.requires.is_run.count, ← c.requires.is_run.row, ← c.requires.is_run.rows, ← take_rest c.args.content.now c.args.run.rows) c.sum_column.ensures.value in
    rw c.if-present.true (fields c.args.at c.args.default c.args.content.now c.sum_column.result is)

pub returns-in_default-clause-value : goal.returns-in_default-clause-value
returns-in_default-clause-value c = rw (c.if-present.false, c.in_default.is, c.requires.is_run.count) (nothing c.args.at c.args.content.now)

pub returns-clause-value : goal.returns-clause-value
returns-clause-value c =
    rw (c.if-present.false, c.in-Some.is, c.from.ensures, c.from-2.ensures, c.requires.is_run.count) (defaults c.args.at c.in-Some.value c.args.content.now)

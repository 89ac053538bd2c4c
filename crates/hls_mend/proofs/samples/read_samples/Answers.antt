-- The rows are within the `trun` (`starts-within`), and are as long by their format as the `trun` says.
use Rattle.std.proofs.Common.{rules, ◌≡◌, ◌∙◌, ℕ, ◌*◌, ◌≤◌, length, ap, arith}
use Rattle.std.proofs.lemmas.List.{take_rest, length-drop}
use Rattle.hls_media_laws.specs.Fields.{sample_count, row_len}
use Rattle.hls_mend_laws.specs.FragmentsRead.{row_width}
use Rattle.hls_mend.proofs.RunSteps.{starts-within}
use Rattle.hls_mend.proofs.samples.read_samples.Goals as goal

pub slice_bounds-rows-count : goal.slice_bounds-rows-count
slice_bounds-rows-count c = omega (arith, starts-within c.args.run.now c.requires.room, c.find_rows.ensures.value)

pub slice_bounds-rows-start : goal.slice_bounds-rows-start
slice_bounds-rows-start c =
    let low : c.find_rows.result ≤ length c.args.run.now = omega (arith, starts-within c.args.run.now c.requires.room, c.find_rows.ensures.value) in
    search rules

pub read_rows-requires : goal.read_rows-requires
unfolding sample_count
read_rows-requires c =
    let product : c.u32_at.result * row_width c.in-Some.format ≡ sample_count c.args.run.now * row_len c.args.run.now =
    ap (λ (n : ℕ). n * row_width c.in-Some.format) c.u32_at.ensures ∙ ap (λ (n : ℕ). sample_count c.args.run.now * n) c.in-Some.ensures.width in
    rw (take_rest c.args.run.now c.find_rows.result)
    (omega (arith, product, c.requires.room, c.find_rows.ensures.value, length-drop c.find_rows.result c.args.run.now))

pub read_first_flags-requires-clause-rows : goal.read_first_flags-requires-clause-rows
read_first_flags-requires-clause-rows c = starts-within c.args.run.now c.requires.room

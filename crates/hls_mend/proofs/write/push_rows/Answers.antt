-- The rows appended and those of the samples that are left are all rows (`rows-next`).
use Rattle.std.proofs.Common.{rules, ◌∙◌, ℕ, ◌+◌, ◌<◌, List, ◌++◌, length, drop, sym, ap, append_assoc}
use Rattle.std.specs.List.{flat_map}
use Rattle.hls_mend_laws.specs.declared.sample.Sample.{Sample}
use Rattle.hls_mend_laws.specs.Bytes.{words}
use Rattle.hls_mend_laws.specs.Fragments.{row}
use Rattle.hls_mend.proofs.Joined.{rows-next}
use Rattle.hls_mend.proofs.write.push_rows.Goals as goal

pub loop-sample-preserved : goal.loop-sample-preserved
loop-sample-preserved c =
    let ss : List Sample = c.args.samples.now in
    let i : ℕ = c.loop-sample.sample-index in
    let rest : List ℕ = words (flat_map row (drop (i + 1) ss)) in
    let inside : i < length ss = search rules in
    ap (λ (xs : List ℕ). xs ++ rest) c.in_ok-push_row.ensures
    ∙ append_assoc c.loop-sample.out.items (words (row _)) rest
    ∙ ap (λ (xs : List ℕ). c.loop-sample.out.items ++ xs) (sym (rows-next ss i _ inside (search rules)))
    ∙ c.loop-sample.invariant

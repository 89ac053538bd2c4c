-- The parallel search finds the first block with a step that doesn't respect the prices, or there is none.
-- Each block that a thread examines begins within the table.
use Rattle.std.proofs.Common.{◌*◌, ◌<◌, length, ap, ◌∙◌}
use Rattle.rayon.proofs.ToStd.{nat_range-All}
use Rattle.hls_check_tables.specs.Certificates.{claim_data}
use Rattle.hls_check.proofs.FirstBlocks.{first_told}
use Rattle.hls_check.proofs.parallel.first_bad_block.Goals as goal

pub find_first-requires-clause-items : goal.find_first-requires-clause-items
find_first-requires-clause-items g c =
    let ends = c.into_par_iter.ensures in
    let inside = nat_range-All (λ b. b * 32 < length c.args.table.now.places) c.args.from c.args.to
    (λ b low high. c.requires.in_range b high) in
    rw (c.with_min_len.ensures.base, ends.0, ends.1) (λ κs outer k d lt p e. (c.requires.valid, rw e (inside k d lt), c.requires.one_each))

pub returns : goal.returns
returns g c =
    let ends = c.into_par_iter.ensures in
    let found = c.find_first.ensures in
    first_told c.args.table.now (claim_data c.args.claim.now) c.args.from c.args.to _ _ c.requires.order
    (ap (λ it. it.start) c.with_min_len.ensures.base ∙ ends.0) (ap (λ it. it.end) c.with_min_len.ensures.base ∙ ends.1)
    found.0 found.1 c.find_first.result found.2 found.3 found.4

-- The samples read and those of the rows that are left are all samples (`joined-next`), and these rows fit what is left (`room-next`).
use Rattle.std.proofs.Common.{◌∙◌, ◌<◌, List, ◌++◌, sym, ap, arith}
use Rattle.std.proofs.lemmas.List.{append-nil}
use Rattle.hls_mend_laws.specs.declared.sample.Sample.{Sample}
use Rattle.hls_mend.proofs.RowSteps.{joined-next, room-next, no-rows}
use Rattle.hls_mend.proofs.rows.read_rows.Goals as goal

pub rows-preserved : goal.rows-preserved
rows-preserved c =
    let some : 0 < c.rows.left = omega arith in
    record {
      joined = joined-next c.args.format c.rows.left c.rows.samples.items c.rows.rest.now c.read_row-row.result.sample c.push.new.self.items c.read_row-row.result.rest.now _ some
          c.read_row-row.ensures.sample c.in_ok-push.ensures.items c.read_row-row.ensures.rest c.rows.invariant.joined;
      room = room-next c.args.format c.rows.left c.rows.rest.now c.read_row-row.result.rest.now some c.read_row-row.ensures.rest c.rows.invariant.room;
    }

pub returns : goal.returns
returns c =
    sym (append-nil c.rows.samples.items)
    ∙ ap (λ (xs : List Sample). c.rows.samples.items ++ xs) (sym (no-rows c.rows.left c.args.format c.rows.rest.now (omega arith)))
    ∙ c.rows.invariant.joined

-- The gap count before the next fragment is the count at this one (`run_in-next`), which is at most the number of fragments.
use Rattle.std.proofs.Common.{arith}
use Rattle.hls_places.proofs.Cited.{gaps-run_in, gaps-le, run_in-next}
use Rattle.hls_places.proofs.search.next_position.Goals as goal

pub overflow_add-result-2 : goal.overflow_add-result-2
overflow_add-result-2 c =
    omega (
      arith,
      gaps-run_in c.args.recording.now.facts c.args.search_position.at,
      gaps-le c.args.recording.now.facts c.args.search_position.at,
      c.requires.run.runs,
      c.gap_before.ensures,
      c.count-count.ensures.value,
    )

pub returns-clause-run : goal.returns-clause-run
returns-clause-run c =
    let next = run_in-next c.args.recording.now.facts c.args.search_position.at in
    let here = gaps-run_in c.args.recording.now.facts c.args.search_position.at in
    record {
      within = omega arith;
      runs = omega (arith, next, here, c.requires.run.runs, c.gap_before.ensures);
    }

-- The gap count at a fragment is the count before it, and 1 more if there is a gap before it (`gaps-run_in`).
use Rattle.std.proofs.Common.{◌≡◌, ◌+◌, arith, ap, refl}
use Rattle.hls_media_laws.specs.declared.facts.Facts.{Facts}
use Rattle.hls_places_laws.specs.Gaps.{gaps}
use Rattle.hls_places.proofs.Cited.{gaps-run_in, gaps-le}
use Rattle.hls_places.proofs.search.make_spot.Goals as goal

pub overflow_add-result : goal.overflow_add-result
overflow_add-result c =
    omega (
      arith,
      gaps-run_in c.args.recording.now.facts c.args.search_position.at,
      gaps-le c.args.recording.now.facts c.args.search_position.at,
      c.requires.run.runs,
      c.gap_before.ensures,
      c.count-count.ensures.value,
    )

pub returns : goal.returns
returns c =
    let out : c.args.search_position.runs + c.gap_before.result ≡ gaps c.args.recording.now.facts c.args.search_position.at =
    omega (arith, gaps-run_in c.args.recording.now.facts c.args.search_position.at, c.requires.run.runs, c.gap_before.ensures) in
    let start = ap (λ (f : Facts). f.start_us) c.get_facts.ensures in
    rw (out, c.prev_end.ensures, start, c.requires.run.runs) refl

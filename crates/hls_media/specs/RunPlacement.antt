-- The positions of runs, in order.
-- For the proofs of this crate; no public clause cites it.
use Rattle.std.specs.Prelude.{unwrap_or, option_map, ℕ, ℤ, pos, neg_ℤ, ◌+◌, ◌*◌, ◌^◌, ◌+ℤ◌, ◌≤ℤ◌, ◌||◌, Option, List}
use Rattle.hls_media_laws.specs.Fields.{sizes, total, some_missing}
use Rattle.hls_media_laws.specs.Runs.{run_begin, is_outside}
use Rattle.hls_media.specs.declared.run_placement.DataWindow.{DataWindow}
use Rattle.hls_media.specs.declared.run_placement.RunPlacement.{RunPlacement}
use Rattle.hls_media.specs.declared.run_placement.RunExtent.{RunExtent}
use Rattle.hls_media.specs.declared.trun.Trun.{Trun}

-- the bytes of a run: they start at its offset from the base, or else at the end of the previous run
abbrev pub run_extent : Trun → DataWindow → RunPlacement → ℕ → RunExtent
run_extent run f p len = record { begin = unwrap_or (option_map (λ (o : ℤ). f.base +ℤ o) run.offset) p.end; len = len }

-- the summary of positions after one more run
unfoldable pub placement_after_run : Option ℕ → DataWindow → RunPlacement → List ℕ → RunPlacement
placement_after_run default f p r =
    let begin = run_begin f.base p.end r in
    let len = total (sizes default r) in
    record { end = begin +ℤ pos len; lacking = p.lacking || some_missing (sizes default r); outside = p.outside || is_outside f.low f.high begin len }

-- at most n times 2 ^ 62 in absolute value
abbrev pub IsNear : ℕ → ℤ → Type 0
IsNear n z = (neg_ℤ (pos (n * 2 ^ 62)) ≤ℤ z) × (z ≤ℤ pos (n * 2 ^ 62))

-- at most n times 2 ^ 62, plus 2 ^ 31, in absolute value
abbrev pub IsAround : ℕ → ℤ → Type 0
IsAround n z = (neg_ℤ (pos (n * 2 ^ 62 + 2 ^ 31)) ≤ℤ z) × (z ≤ℤ pos (n * 2 ^ 62 + 2 ^ 31))

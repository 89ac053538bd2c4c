-- The fields of a `trun` that fits are within it.
use Rattle.std.proofs.Common.{◌≡◌, ℕ, ◌+◌, ◌*◌, ◌≤◌, true, List, length, arith}
use Rattle.std.proofs.lemmas.Bool.{leb-true}
use Rattle.hls_media_laws.specs.Fields.{rows_offset, sample_count, row_len, trun_fits}

less : (a b c : ℕ) → a + b ≤ c → a ≤ c
less a b c fits = omega (arith, fits)

-- the rows of a `trun` that fits are within it
pub rows_within : (run : List ℕ) → trun_fits run ≡ true → rows_offset run + sample_count run * row_len run ≤ length run
unfolding trun_fits
rows_within run fits = leb-true (rows_offset run + sample_count run * row_len run) (length run) fits

-- if the rows of a `trun` are within it, so is their start
pub starts-within : (run : List ℕ) → rows_offset run + sample_count run * row_len run ≤ length run → rows_offset run ≤ length run
starts-within run room = less (rows_offset run) (sample_count run * row_len run) (length run) room

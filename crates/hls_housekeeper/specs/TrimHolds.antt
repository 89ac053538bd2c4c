-- What holds trims back.
use Rattle.std.specs.Prelude.{ℕ, Bool, ◌||◌, List, get_or, nat_lt, replicate}
use Rattle.hls_housekeeper.specs.declared.trim_hold.TrimHold.{TrimHold}

-- during a backoff each trim waits, and otherwise each trim of units that are not all written
abbrev pub holds_back : TrimHold → ℕ → ℕ → Bool
holds_back hold rendition floor = hold.resting || nat_lt (get_or hold.written rendition 0) floor

-- without a journal no trim waits for it
abbrev pub no_limit : List ℕ
no_limit = replicate 16 18446744073709551615

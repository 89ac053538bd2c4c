-- For the proofs of this crate; no public clause cites it.
-- The next line of each kind, and the text after it.
use Rattle.std.specs.Prelude.{◌≡◌, ℕ, ◌<◌, ◌≤◌, List, length, All}
use Rattle.hls_check_tables.specs.declared.spot.Spot.{Spot}
use Rattle.hls_check_tables.specs.Tables.{IsPlaceOf}
use Rattle.hls_text.specs.Lines.{IsFirstLine}
use Rattle.hls_text.specs.Numbers.{number_line}
use Rattle.hls_check.specs.declared.wrong_line.WrongLine.{WrongLine}
use Rattle.hls_check.specs.Text.{plan_line, place_line}
use Rattle.hls_check.specs.Stages.{IsNumberLine, IsWrongLineAfter}

-- a line is this word and a number in this range
abbrev pub IsInRange : List ℕ → ℕ → ℕ → List ℕ → Type 0
IsInRange word low high line = IsNumberLine (number_line word) (λ n. (low ≤ n) × (n ≤ high)) line

-- the line after the first `lines_read` lines is missing or not valid
abbrev pub IsWrongNextLine : (List ℕ → Type 0) → List ℕ → ℕ → WrongLine → Type 0
IsWrongNextLine IsGood rest lines_read wrong = IsWrongLineAfter IsGood rest lines_read wrong.line

-- the line after the first `lines_read` lines is missing, or isn't this word and a number in this range
abbrev pub IsWrongNumber : List ℕ → ℕ → ℕ → List ℕ → ℕ → WrongLine → Type 0
IsWrongNumber word low high rest lines_read wrong = IsWrongNextLine (IsInRange word low high) rest lines_read wrong

-- the first line is this word and n, which is in this range, and `after` is the text after it
abbrev pub IsNextNumber : List ℕ → ℕ → ℕ → List ℕ → ℕ → List ℕ → Type 0
IsNextNumber word low high rest n after = (low ≤ n) × (n ≤ high) × IsFirstLine rest (number_line word n) after

-- the first line is this place's, which has this many renditions, and `after` is the text after it
abbrev pub IsNextPlace : ℕ → List ℕ → List Spot → List ℕ → Type 0
IsNextPlace renditions rest place after = IsPlaceOf renditions place × IsFirstLine rest (place_line place) after

-- the first line is the plan line of this plan, whose places are below `count`, and `after` is the text after it
abbrev pub IsNextPlan : ℕ → List ℕ → List ℕ → List ℕ → Type 0
IsNextPlan count rest plan after =
    (0 < length plan) × All (λ p. p < count) plan × IsFirstLine rest (plan_line plan) after

-- The lines of a metric, in Prometheus' text format.
use Rattle.std.specs.Prelude.{ℕ, List, [], ◌∷◌, ◌++◌, codes}
use Rattle.std.specs.Fmt.{decimal}

-- the line that says what a metric is
unfoldable pub help_line : List ℕ → List ℕ → List ℕ
help_line name help = codes "# HELP " ++ (name ++ (32 ∷ (help ++ 10 ∷ [])))

-- the line that says a metric's type
unfoldable pub type_line : List ℕ → List ℕ → List ℕ
type_line name kind = codes "# TYPE " ++ (name ++ (32 ∷ (kind ++ 10 ∷ [])))

-- the lines that say what a metric is and its type
abbrev pub description : List ℕ → List ℕ → List ℕ → List ℕ
description name kind help = help_line name help ++ type_line name kind

-- the row of a metric without labels
unfoldable pub row : List ℕ → ℕ → List ℕ
row name number = name ++ (32 ∷ (decimal number ++ 10 ∷ []))

-- the row of a time in microseconds, shown in seconds with an exponent
unfoldable pub seconds_row : List ℕ → ℕ → List ℕ
seconds_row name us = name ++ (32 ∷ (decimal us ++ codes "e-6\n"))

-- the lines of a number that may rise and fall
unfoldable pub gauge : List ℕ → List ℕ → ℕ → List ℕ
gauge name help number = description name (codes "gauge") help ++ row name number

-- the lines of a number that only rises
unfoldable pub counter : List ℕ → List ℕ → ℕ → List ℕ
counter name help number = description name (codes "counter") help ++ row name number

-- the lines of a time in microseconds that may rise and fall, shown in seconds
unfoldable pub seconds_gauge : List ℕ → List ℕ → ℕ → List ℕ
seconds_gauge name help us = description name (codes "gauge") help ++ seconds_row name us

-- the lines of a time in microseconds that only rises, shown in seconds
unfoldable pub seconds_counter : List ℕ → List ℕ → ℕ → List ℕ
seconds_counter name help us = description name (codes "counter") help ++ seconds_row name us

-- The contract of `explain`.
use Rattle.std.specs.Prelude.{◌≡◌, ℕ, true, false, List, Option, Some, None}
use Rattle.hls_io.specs.Writing.{Writes}
use Rattle.hls_io.specs.Failures.{FailuresRose}
use Rattle.hls_commands.specs.declared.explain.ExplainEnd.{ExplainEnd}
use Rattle.hls_commands.specs.declared.explain.ExplainEnd.TheVariants.{Explained, Unknown, WriteFailed, Memory}

-- the whole explanation was written, or a prefix of it up to a failed write
abbrev pub Prints : List ℕ → List ℕ → Option (List ℕ) → ExplainEnd → Type 0
Prints explanation held contents Explained = Writes held explanation contents true
Prints explanation held contents WriteFailed = Writes held explanation contents false
Prints explanation held contents end = ⊥

-- a run of `explain`: without an explanation nothing was written
abbrev pub Explains : Option (List ℕ) → List ℕ → Option (List ℕ) → ExplainEnd → Type 0
Explains explanation held contents Unknown = (explanation ≡ None) × (contents ≡ Some held)
Explains explanation held contents Memory = contents ≡ Some held
Explains None held contents end = ⊥
Explains (Some text) held contents end = Prints text held contents end

-- a failed write was counted exactly if the end reports one
abbrev pub CountsFailures : ExplainEnd → ℕ → ℕ → Type 0
CountsFailures WriteFailed old new = FailuresRose old new
CountsFailures end old new = new ≡ old

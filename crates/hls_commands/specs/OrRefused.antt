-- Sequencing up to the first refusal.
use Rattle.std.specs.Prelude.{Result, Ok, Err}

infixl 10 ◌>>=◌
-- the continuation of a result, unless it is a refusal
abbrev pub ◌>>=◌ : {A B E : Type 0} → Result A E → (A → Result B E) → Result B E
Ok a >>= next = next a
Err e >>= next = Err e

-- the result with its refusal, if it is one, wrapped in another
abbrev pub or_refused_as : {A E F : Type 0} → (E → F) → Result A E → Result A F
or_refused_as hold (Ok a) = Ok a
or_refused_as hold (Err e) = Err (hold e)

-- The increase of a count of fields.
-- For the proofs of this crate; no public clause cites it.
use Rattle.std.specs.Prelude.{ℕ, ◌+◌, ◌≤◌}

-- a count doesn't decrease, and increases by at most the given number
abbrev pub RisesBy : ℕ → ℕ → ℕ → Type 0
RisesBy most before after = (before ≤ after) × (after ≤ before + most)

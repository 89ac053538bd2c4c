-- The result of writing a whole text.
use Rattle.std.specs.Prelude.{◌≡◌, ℕ, List, ◌++◌, Option, Some, [], Bool, true, false}
use Rattle.hls_io.specs.Failures.{FailuresRose}

-- part of a text was written after the earlier output, and all of it if writing is done
pub record Writes (held text : List ℕ) (contents : Option (List ℕ)) (done : Bool) : Type 0 where
  pub written : List ℕ
  pub left : List ℕ
  pub split : text ≡ written ++ left
  pub contents_are : contents ≡ Some (held ++ written)
  pub whole : done ≡ true → left ≡ []

-- a write that succeeds leaves the count of failures, and one that fails increases it
abbrev pub CountsWrite : Bool → ℕ → ℕ → Type 0
CountsWrite true old new = new ≡ old
CountsWrite false old new = FailuresRose old new

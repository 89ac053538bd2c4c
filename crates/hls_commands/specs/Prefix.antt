-- A prefix of a text.
use Rattle.std.specs.Prelude.{◌≡◌, ℕ, List, ◌++◌}

-- the text is a prefix of the whole text
pub record IsPrefix (text whole : List ℕ) : Type 0 where
  pub missing : List ℕ
  pub is : whole ≡ text ++ missing

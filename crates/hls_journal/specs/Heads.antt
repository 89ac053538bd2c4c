-- A unit without a head.
use Rattle.std.specs.Prelude.{◌≡◌, ℕ, List, ◌++◌, length}
use Rattle.hls_journal_laws.specs.Heads.{IsHead}

-- a unit doesn't begin with a head
abbrev pub HasNoHead : List ℕ → Type 0
HasNoHead unit = (head rest : List ℕ) → unit ≡ head ++ rest → IsHead head (length rest) → ⊥

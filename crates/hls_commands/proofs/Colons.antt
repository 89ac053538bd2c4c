-- A line's name, by the position of its colon.
use Rattle.std.proofs.Common.{◌≡◌, sym, ap, ℕ, ◌==◌, List, length, take, take_all, Some, None, inl, inr, position}
use Rattle.std.specs.List.{position_or_len}
use Rattle.std.proofs.lemmas.Bool.{cases_lt, lt-ltb, le-ltb}
use Rattle.hls_commands.specs.Explanations.{name_in}

-- the position of a line's first colon, or the line's length
abbrev colon_place : List ℕ → ℕ
colon_place line = position_or_len (λ b. b == 58) line

-- if a line's first colon is at k, the first k bytes are its name
pub name_before : (line : List ℕ) (k : ℕ) → position (λ b. b == 58) line ≡ Some k → take k line ≡ name_in line
name_before line k h =
    elim (cases_lt (colon_place line) (length line)) [
      | inl lt ↦
          let found : Some (colon_place line) ≡ Some k = rw (lt-ltb (colon_place line) (length line) lt) at h in
          let same : k ≡ colon_place line = cc in
          ap (λ (n : ℕ). take n line) same
      | inr le ↦
          let none : None ≡ Some k = rw (le-ltb (colon_place line) (length line) le) at h in
          absurd cc
    ]

-- a line without a colon is its own name
pub name_whole : (line : List ℕ) → position (λ b. b == 58) line ≡ None → line ≡ name_in line
name_whole line h =
    elim (cases_lt (colon_place line) (length line)) [
      | inl lt ↦
          let found : Some (colon_place line) ≡ None = rw (lt-ltb (colon_place line) (length line) lt) at h in
          absurd cc
      | inr le ↦ sym (take_all (colon_place line) line le)
    ]

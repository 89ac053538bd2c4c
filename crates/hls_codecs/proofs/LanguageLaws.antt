-- A search in rows of five letters.
use Rattle.std.proofs.Common.{◌≡◌, ℕ, ◌<◌, ◌≤◌, true, false, List, [], ◌∷◌, length, take, drop, Some, None, refl, arith}
use Rattle.std.specs.Prelude.{bytes_eq}
use Rattle.hls_codecs.specs.Texts.{short_in}

-- in fewer than five letters there is no row
pub short-end : (rows letters : List ℕ) → length rows < 5 → short_in rows letters ≡ None
unfolding short_in
short-end [] letters few = refl
short-end (a ∷ []) letters few = refl
short-end (a ∷ b ∷ []) letters few = refl
short-end (a ∷ b ∷ c ∷ []) letters few = refl
short-end (a ∷ b ∷ c ∷ d ∷ []) letters few = refl
short-end (a ∷ b ∷ c ∷ d ∷ e ∷ rows) letters few = absurd (omega arith)

-- the first row that begins with the three letters has the code of two letters after them
pub short-found : (rows letters : List ℕ) → 5 ≤ length rows → bytes_eq letters (take 3 rows) ≡ true → Some (take 2 (drop 3 rows)) ≡ short_in rows letters
unfolding short_in
short-found [] letters some is = absurd (omega arith)
short-found (a ∷ []) letters some is = absurd (omega arith)
short-found (a ∷ b ∷ []) letters some is = absurd (omega arith)
short-found (a ∷ b ∷ c ∷ []) letters some is = absurd (omega arith)
short-found (a ∷ b ∷ c ∷ d ∷ []) letters some is = absurd (omega arith)
short-found (a ∷ b ∷ c ∷ d ∷ e ∷ rows) letters some is = rw is refl

-- a row that begins with other letters is passed over
pub short-passed : (rows letters : List ℕ) → 5 ≤ length rows → bytes_eq letters (take 3 rows) ≡ false → short_in (drop 5 rows) letters ≡ short_in rows letters
unfolding short_in
short-passed [] letters some is = absurd (omega arith)
short-passed (a ∷ []) letters some is = absurd (omega arith)
short-passed (a ∷ b ∷ []) letters some is = absurd (omega arith)
short-passed (a ∷ b ∷ c ∷ []) letters some is = absurd (omega arith)
short-passed (a ∷ b ∷ c ∷ d ∷ []) letters some is = absurd (omega arith)
short-passed (a ∷ b ∷ c ∷ d ∷ e ∷ rows) letters some is = rw is refl

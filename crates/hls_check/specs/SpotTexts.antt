-- For the proofs of this crate; no public clause cites it.
-- The numbers of a spot, and a place line, at the start of a text.
use Rattle.std.specs.Prelude.{◌≡◌, ℕ, false, List, [], ◌∷◌, ◌++◌}
use Rattle.hls_check_tables.specs.declared.spot.Spot.{Spot}
use Rattle.hls_check_tables.specs.Tables.{IsSpotInRange, IsPlaceOf}
use Rattle.hls_text.specs.Numbers.{numbers_text, spaced_numbers, begins_with_digit}
use Rattle.hls_check.specs.Text.{place_line, place_numbers}

-- a text begins with the numbers of the first spot of a place line, and no digit follows them
pub record IsFirstSpot (text : List ℕ) (s : Spot) (rest : List ℕ) : Type 0 where
  pub small : IsSpotInRange s
  pub is : text ≡ numbers_text (place_numbers (s ∷ [])) ++ rest
  pub ends : begins_with_digit rest ≡ false

-- a text begins with the numbers of a further spot of a place line, each after a space, and no digit follows them
pub record IsNextSpot (text : List ℕ) (s : Spot) (rest : List ℕ) : Type 0 where
  pub small : IsSpotInRange s
  pub is : text ≡ spaced_numbers (place_numbers (s ∷ [])) ++ rest
  pub ends : begins_with_digit rest ≡ false

-- the text begins with the line of some place of this many renditions, and `after` follows that line
pub record SkipsPlace (renditions : ℕ) (text after : List ℕ) : Type 0 where
  pub place : List Spot
  pub good : IsPlaceOf renditions place
  pub is : text ≡ place_line place ++ (10 ∷ after)

-- the text begins with the line of this place, which has this many renditions, and `after` follows that line
abbrev pub HasPlace : ℕ → List ℕ → List Spot → List ℕ → Type 0
HasPlace renditions text place after = IsPlaceOf renditions place × (text ≡ place_line place ++ (10 ∷ after))

-- the text begins with the line of no place of this many renditions
abbrev pub HasNoPlace : ℕ → List ℕ → Type 0
HasNoPlace renditions text =
    (place : List Spot) (after : List ℕ) → IsPlaceOf renditions place → text ≡ place_line place ++ (10 ∷ after) → ⊥

-- the text begins with no place line
abbrev pub SkipsNoPlace : ℕ → List ℕ → Type 0
SkipsNoPlace renditions text = (after : List ℕ) → SkipsPlace renditions text after → ⊥

-- The first rendition that is invalid at its number.
use Rattle.std.specs.Prelude.{◌≡◌, ◌⊎◌, ℕ, ◌<◌, Bool, List, [], length, Some, slice_get}
use Rattle.std.specs.List.{list_any}
use Rattle.std.specs.Str.{bytes_eq}
use Rattle.hls_core_laws.specs.declared.rendition.Rendition.{Rendition}
use Rattle.hls_core_laws.specs.Config.{IsRenditionAt}
use Rattle.hls_check_tables.specs.Tables.{rendition_limit}

-- whether one of the renditions has this name
abbrev pub has_name : List Rendition → List ℕ → Bool
has_name rs name = list_any (λ r. bytes_eq r.name name) rs

-- each rendition before number n is valid at its number
abbrev pub AreGoodBefore : List Rendition → ℕ → Type 0
AreGoodBefore rs n = (k : ℕ) (r : Rendition) → k < n → slice_get rs k ≡ Some r → IsRenditionAt rs k r

-- rendition n is invalid at its number, and each before it is valid
pub record IsBadAt (rs : List Rendition) (n : ℕ) : Type 0 where
  pub before : AreGoodBefore rs n
  pub few : n < rendition_limit
  pub rendition : Rendition
  pub at : slice_get rs n ≡ Some rendition
  pub bad : IsRenditionAt rs n rendition → ⊥

-- sixteen renditions that are valid at their numbers, and a seventeenth
pub record IsSeventeenth (rs : List Rendition) (n : ℕ) : Type 0 where
  pub before : AreGoodBefore rs rendition_limit
  pub number : n ≡ rendition_limit
  pub there : rendition_limit < length rs

-- there is no rendition, and n is 0; or rendition n is invalid; or n is the number of a seventeenth
abbrev pub IsFirstBadRendition : List Rendition → ℕ → Type 0
IsFirstBadRendition rs n = ((rs ≡ []) × (n ≡ 0)) ⊎ IsBadAt rs n ⊎ IsSeventeenth rs n

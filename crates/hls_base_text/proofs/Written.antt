-- The lines of the renditions, one after the other.
use Rattle.std.proofs.Common.{◌≡◌, ℕ, zero, suc, ◌+◌, ◌<◌, ◌≤◌, List, [], ◌∷◌, ◌++◌, length, drop, get_or, refl, ap, ◌∙◌, arith}
use Rattle.hls_core_laws.specs.declared.rendition.Rendition.{Rendition}
use Rattle.hls_core_laws.specs.Base.{BaseData, bytes_before_base}
use Rattle.hls_base_text.specs.BaseText.{bytes_line, bytes_lines, names_of}
use Rattle.hls_base_text.proofs.Bytes.{named, none-left}

-- the names from number r on are the name of rendition r and then those from r + 1 on
record NextRendition (renditions : List Rendition) (r : ℕ) (d : Rendition) : Type 0 where
  is : drop r (names_of renditions) ≡ (get_or renditions r d).name ∷ drop (suc r) (names_of renditions)

-- if r is below the number of renditions, the names from r on begin with the name of rendition r
next-rendition : (renditions : List Rendition) (r : ℕ) (d : Rendition) → r < length renditions → NextRendition renditions r d
next-rendition [] r d h = absurd (omega (arith, h))
next-rendition (x ∷ renditions) zero d h = record { is = refl }
next-rendition (x ∷ renditions) (suc r) d h = record { is = (next-rendition renditions r d (omega (arith, h))).is }

-- the lines of the renditions from number r on are the line of rendition r and then those from r + 1 on
pub lines_next : (base : BaseData) (renditions : List Rendition) (r : ℕ) (d : Rendition) → r < length renditions →
    bytes_lines base (drop r (names_of renditions)) r
    ≡ bytes_line (get_or renditions r d).name (bytes_before_base base r) ++ bytes_lines base (drop (r + 1) (names_of renditions)) (r + 1)
lines_next base renditions r d h =
    let one : suc r ≡ r + 1 = omega arith in
    ap (λ (l : List (List ℕ)). bytes_lines base l r) (next-rendition renditions r d h).is
    ∙ ap (λ (k : ℕ). bytes_line (get_or renditions r d).name (bytes_before_base base r) ++ bytes_lines base (drop k (names_of renditions)) k) one

-- when no rendition is left, no line is
pub lines_done : (base : BaseData) (renditions : List Rendition) (r : ℕ) → length renditions ≤ r → bytes_lines base (drop r (names_of renditions)) r ≡ []
lines_done base renditions r h =
    ap (λ (l : List (List ℕ)). bytes_lines base l r) (none-left (names_of renditions) r (omega (arith, h, named renditions)))

-- The bytes of the renditions, one after the other.
use Rattle.std.proofs.Common.{◌≡◌, ℕ, zero, suc, ◌+◌, ◌<◌, ◌≤◌, List, [], ◌∷◌, length, drop, Result, Ok, Err, refl, ap, ◌∙◌, arith}
use Rattle.std.specs.Prelude.{slice_set}
use Rattle.std.proofs.lemmas.List.{length-map}
use Rattle.hls_core_laws.specs.declared.rendition.Rendition.{Rendition}
use Rattle.hls_base_text.specs.declared.base_line.BaseLine.TheVariants.{Bytes}
use Rattle.hls_base_text.specs.declared.base_fault.BaseFault.{BaseFault}
use Rattle.hls_base_text.specs.BaseText.{bytes_from, names_of, number_in, result_then}

-- a list of names from number r on is one name and then the list from r + 1 on
record Next (names : List (List ℕ)) (r : ℕ) : Type 0 where
  name : List ℕ
  is : drop r names ≡ name ∷ drop (suc r) names

-- if r is below the number of names, there is such a name
next-name : (names : List (List ℕ)) (r : ℕ) → r < length names → Next names r
next-name [] r h = absurd (omega (arith, h))
next-name (name ∷ names) zero h = record { name = name; is = refl }
next-name (name ∷ names) (suc r) h =
    let on = next-name names r (omega (arith, h)) in
    record { name = on.name; is = on.is }

-- if r isn't below the number of names, none is left
pub none-left : (names : List (List ℕ)) (r : ℕ) → length names ≤ r → drop r names ≡ []
none-left [] zero h = refl
none-left [] (suc r) h = refl
none-left (name ∷ names) zero h = absurd (omega (arith, h))
none-left (name ∷ names) (suc r) h = none-left names r (omega (arith, h))

-- there is one name for each rendition
pub named : (renditions : List Rendition) → length (names_of renditions) ≡ length renditions
named renditions = length-map renditions (λ r. r.name)

-- if the line of rendition r has a number, reading continues with the next rendition and that number stored
pub bytes_next : (renditions : List Rendition) (lines : List (List ℕ)) (r : ℕ) (bytes : List ℕ) (n : ℕ) → r < length renditions →
    number_in (names_of renditions) (Bytes r) lines ≡ Ok n →
    bytes_from (names_of renditions) lines (drop r (names_of renditions)) r bytes
    ≡ bytes_from (names_of renditions) lines (drop (r + 1) (names_of renditions)) (r + 1) (slice_set bytes r n)
bytes_next renditions lines r bytes n h is =
    let names : List (List ℕ) = names_of renditions in
    let next = next-name names r (omega (arith, h, named renditions)) in
    let one : suc r ≡ r + 1 = omega arith in
    ap (λ (l : List (List ℕ)). bytes_from names lines l r bytes) next.is
    ∙ (ap (λ (o : Result ℕ BaseFault). result_then o (λ m. bytes_from names lines (drop (suc r) names) (suc r) (slice_set bytes r m))) is
    ∙ ap (λ (k : ℕ). bytes_from names lines (drop k names) k (slice_set bytes r n)) one)

-- if the line of rendition r has a fault, that is the result
pub bytes_stop : (renditions : List Rendition) (lines : List (List ℕ)) (r : ℕ) (bytes : List ℕ) (fault : BaseFault) → r < length renditions →
    number_in (names_of renditions) (Bytes r) lines ≡ Err fault →
    bytes_from (names_of renditions) lines (drop r (names_of renditions)) r bytes ≡ Err fault
bytes_stop renditions lines r bytes fault h is =
    let names : List (List ℕ) = names_of renditions in
    let next = next-name names r (omega (arith, h, named renditions)) in
    ap (λ (l : List (List ℕ)). bytes_from names lines l r bytes) next.is
    ∙ ap (λ (o : Result ℕ BaseFault). result_then o (λ m. bytes_from names lines (drop (suc r) names) (suc r) (slice_set bytes r m))) is

-- when no rendition is left, the result is the bytes that were read
pub bytes_done : (renditions : List Rendition) (lines : List (List ℕ)) (r : ℕ) (bytes : List ℕ) → length renditions ≤ r →
    bytes_from (names_of renditions) lines (drop r (names_of renditions)) r bytes ≡ Ok bytes
bytes_done renditions lines r bytes h =
    ap (λ (l : List (List ℕ)). bytes_from (names_of renditions) lines l r bytes) (none-left (names_of renditions) r (omega (arith, h, named renditions)))

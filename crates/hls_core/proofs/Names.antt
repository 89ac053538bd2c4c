-- Names among the first renditions.
use Rattle.std.proofs.Common.{◌≡◌, ℕ, zero, suc, ◌+◌, ◌<◌, Bool, true, false, ◌||◌, not, List, [], ◌∷◌, Some, take, refl, sym, ap, subst, inl, inr, ◌∙◌, arith, ◌↔◌, IsTrue}
use Rattle.std.specs.Prelude.{slice_get}
use Rattle.std.specs.Str.{bytes_eq}
use Rattle.std.proofs.lemmas.Slice.Eq.{bytes_eq-Decides}
use Rattle.std.proofs.lemmas.Bool.{or_cases, both_ways, not-true, cases_eq}
use Rattle.hls_core_laws.specs.declared.rendition.Rendition.{Rendition}
use Rattle.hls_core_laws.specs.Config.{IsRendition, IsRenditionAt}
use Rattle.hls_core.specs.FirstBad.{has_name}

-- an element below index n is among the first n
at_take : (xs : List Rendition) (n k : ℕ) (x : Rendition) → k < n → slice_get xs k ≡ Some x → slice_get (take n xs) k ≡ Some x
at_take xs zero k x below at = absurd (omega arith)
at_take [] (suc n) k x below at = at
at_take (z ∷ xs) (suc n) zero x below at = at
at_take (z ∷ xs) (suc n) (suc k) x below at = at_take xs n k x (omega arith) at

-- an element among the first n is below index n
take_at : (xs : List Rendition) (n k : ℕ) (x : Rendition) → slice_get (take n xs) k ≡ Some x → (k < n) × (slice_get xs k ≡ Some x)
take_at xs zero k x at = cc
take_at [] (suc n) k x at = cc
take_at (z ∷ xs) (suc n) zero x at = (omega arith, at)
take_at (z ∷ xs) (suc n) (suc k) x at = let h = take_at xs n k x at in (omega (arith, h.0), h.1)

-- some rendition has that name
record Bears (rs : List Rendition) (name : List ℕ) : Type 0 where
  number : ℕ
  rendition : Rendition
  at : slice_get rs number ≡ Some rendition
  same : rendition.name ≡ name

-- if a name is found among renditions, one of them has it
found : (rs : List Rendition) (name : List ℕ) → has_name rs name ≡ true → Bears rs name
found [] name h = cc
found (r ∷ rs) name h = elim (or_cases (bytes_eq r.name name) (has_name rs name) h) [
  | inl here ↦ record { number = 0; rendition = r; at = refl; same = (bytes_eq-Decides r.name name).0 here }
  | inr there ↦ let f = found rs name there in record { number = suc f.number; rendition = f.rendition; at = f.at; same = f.same }
]

-- a disjunction holds if its second part does
or_right : (a b : Bool) → b ≡ true → (a || b) ≡ true
or_right true b h = refl
or_right false b h = h

-- the name of a rendition is found among the renditions
listed : (rs : List Rendition) (name : List ℕ) (k : ℕ) (r : Rendition) → slice_get rs k ≡ Some r → r.name ≡ name → has_name rs name ≡ true
listed [] name k r at same = cc
listed (z ∷ rs) name zero r at same =
    let z_is : z ≡ r = cc in
    let test : bytes_eq z.name name ≡ true = (bytes_eq-Decides z.name name).1 (ap (λ (x : Rendition). x.name) z_is ∙ same) in
    rw test refl
listed (z ∷ rs) name (suc k) r at same = or_right (bytes_eq z.name name) (has_name rs name) (listed rs name k r at same)

-- a name that no rendition has isn't found among them
pub unlisted : (rs : List Rendition) (name : List ℕ) → ((k : ℕ) (r : Rendition) → slice_get rs k ≡ Some r → bytes_eq r.name name ≡ false) → false ≡ has_name rs name
unlisted [] name none = refl
unlisted (z ∷ rs) name none =
    let here : bytes_eq z.name name ≡ false = none 0 z refl in
    rw here (unlisted rs name (λ k r at. none (suc k) r at))

-- the name of a rendition that is valid at number n isn't found among the first n renditions
not_found : (rs : List Rendition) (n : ℕ) (r : Rendition) → IsRenditionAt rs n r → (b : Bool) → has_name (take n rs) r.name ≡ b → not b ≡ true
not_found rs n r there false is = refl
not_found rs n r there true is =
    let f = found (take n rs) r.name is in
    let h = take_at rs n f.number f.rendition f.at in
    absurd (there.name f.number f.rendition h.0 h.1 f.same)

-- a rendition within its own limits is valid at number n exactly if its name isn't found among the first n
pub named_apart : (rs : List Rendition) (n : ℕ) (r : Rendition) → IsRendition r → (n ≡ 0 → r.tolerance ≡ 0) → IsTrue (not (has_name (take n rs) r.name)) ↔ IsRenditionAt rs n r
named_apart rs n r own first = (
  λ apart. record {
    own = own;
    first = first;
    name = λ k other below at same. both_ways (has_name (take n rs) r.name) (not-true (has_name (take n rs) r.name) apart) (listed (take n rs) r.name k other (at_take rs n k other below at) same);
  },
  λ there. not_found rs n r there (has_name (take n rs) r.name) refl,
)

-- if each rendition before n and the one at n are valid at their numbers, so is each before n + 1
pub good_more : (rs : List Rendition) (n : ℕ) (x : Rendition) → ((k : ℕ) (r : Rendition) → k < n → slice_get rs k ≡ Some r → IsRenditionAt rs k r) → slice_get rs n ≡ Some x → IsRenditionAt rs n x → (k : ℕ) (r : Rendition) → k < n + 1 → slice_get rs k ≡ Some r → IsRenditionAt rs k r
good_more rs n x good at_n good_n k r below at = elim (cases_eq k n) [
  | inl same ↦
      let at_k : slice_get rs n ≡ Some r = subst (λ (i : ℕ). slice_get rs i ≡ Some r) same at in
      let x_is : x ≡ r = cc in
      subst (λ (i : ℕ). IsRenditionAt rs i r) (sym same) (subst (λ (y : Rendition). IsRenditionAt rs n y) x_is good_n)
  | inr other ↦ good k r (omega arith) at
]

-- The unit that begins a number of bytes after the first one.
use Rattle.std.proofs.Common.{◌≡◌, ℕ, zero, suc, ◌+◌, ◌-◌, ◌<◌, ◌≤◌, Bool, true, false, List, [], ◌∷◌, ◌++◌, length, take, cond, Option, Some, None, arith, refl, sym, ap, ◌∙◌}
use Rattle.std.specs.Prelude.{nat_lt, ◌==◌, All}
use Rattle.std.proofs.lemmas.Bool.{cond-false, eqb-true, ne_eqb, le-ltb, ltb-false}
use Rattle.std.proofs.lemmas.Option.{same_Some}
use Rattle.std.proofs.lemmas.List.Elements.{All-head, All-tail}
use Rattle.std.proofs.lemmas.List.Sums.{sum_by-cons}
use Rattle.hls_media_laws.specs.declared.facts.Facts.{Facts}
use Rattle.hls_media_laws.specs.FactLists.{len_of, total_bytes}
use Rattle.hls_playlists_laws.specs.NamedUnits.{unit_after}

-- where no byte is left the first unit begins
at-none : (n : ℕ) (facts : List Facts) → unit_after n facts 0 ≡ Some n
at-none n [] = refl
at-none n (f ∷ fs) = refl

-- two searches with the same first unit agree on what is found, if they do after that unit
step-on : (b c : Bool) (n m : ℕ) (y z : Option ℕ) → (y ≡ Some m → z ≡ Some m) →
    cond b (Some n) (cond c None y) ≡ Some m → cond b (Some n) (cond c None z) ≡ Some m
step-on true c n m y z on is = is
step-on false true n m y z on is = is
step-on false false n m y z on is = on is

-- if the units end here, what is found is found by each search that finds number n where no byte is left
only-none : (b : Bool) (n m : ℕ) (z : Option ℕ) → (b ≡ true → z ≡ Some n) → cond b (Some n) None ≡ Some m → z ≡ Some m
only-none true n m z on is = on refl ∙ is
only-none false n m z on is = absurd (cc)

-- units that follow don't change what is found
pub found-in_more : (n : ℕ) (facts more : List Facts) (k m : ℕ) → unit_after n facts k ≡ Some m → unit_after n (facts ++ more) k ≡ Some m
found-in_more n [] more k m is =
    only-none (k == 0) n m (unit_after n more k)
    (λ none. ap (unit_after n more) (eqb-true k 0 none) ∙ at-none n more) is
found-in_more n (f ∷ fs) more k m is =
    step-on (k == 0) (nat_lt k f.len) n m (unit_after (suc n) fs (k - f.len)) (unit_after (suc n) (fs ++ more) (k - f.len))
    (found-in_more (suc n) fs more (k - f.len) m) is

-- what is found among units that are numbered from n on: unit m is one of them, or their end, and those before it have k bytes
pub record IsFound (n : ℕ) (facts : List Facts) (k m : ℕ) : Type 0 where
  pub number : ℕ
  pub is : m ≡ n + number
  pub within : number ≤ length facts
  pub bytes : total_bytes (take number facts) ≡ k

-- among no units, the end is found, after no bytes
found-none : (b : Bool) (n m k : ℕ) → (k == 0) ≡ b → cond b (Some n) None ≡ Some m → IsFound n [] k m
found-none true n m k none is = record {
  number = 0;
  is = omega (arith, same_Some n m is);
  within = omega arith;
  bytes = sym (eqb-true k 0 none);
}
found-none false n m k none is = absurd (cc)

-- what is found after the first unit has the bytes of that unit before it as well
found-step : (b c : Bool) (n m k : ℕ) (f : Facts) (fs : List Facts) → (k == 0) ≡ b → nat_lt k f.len ≡ c →
    (unit_after (suc n) fs (k - f.len) ≡ Some m → IsFound (suc n) fs (k - f.len) m) →
    cond b (Some n) (cond c None (unit_after (suc n) fs (k - f.len))) ≡ Some m → IsFound n (f ∷ fs) k m
found-step true c n m k f fs none few on is = record {
  number = 0;
  is = omega (arith, same_Some n m is);
  within = omega arith;
  bytes = sym (eqb-true k 0 none);
}
found-step false true n m k f fs none few on is = absurd (cc)
found-step false false n m k f fs none few on is =
    let next = on is in
    let sums = sum_by-cons len_of f (take next.number fs) in
    record {
      number = suc next.number;
      is = omega (arith, next.is);
      within = omega (arith, next.within);
      bytes = omega (arith, sums, next.bytes, ltb-false k f.len few);
    }

-- a unit that is found has exactly the given number of bytes before it
pub is-found : (n : ℕ) (facts : List Facts) (k m : ℕ) → unit_after n facts k ≡ Some m → IsFound n facts k m
is-found n [] k m is = found-none (k == 0) n m k refl is
is-found n (f ∷ fs) k m is =
    found-step (k == 0) (nat_lt k f.len) n m k f fs refl refl (is-found (suc n) fs (k - f.len) m) is

-- each unit is found at its first byte, and the end after the last one
pub finds : (n : ℕ) (facts : List Facts) (number : ℕ) → All (λ f. 0 < f.len) facts → number ≤ length facts →
    unit_after n facts (total_bytes (take number facts)) ≡ Some (n + number)
finds n facts zero some few =
    let same : n ≡ n + 0 = omega arith in
    at-none n facts ∙ ap (λ (k : ℕ). Some k) same
finds n [] (suc number) some few = absurd (omega (arith, few))
finds n (f ∷ fs) (suc number) some few =
    let sums : total_bytes (f ∷ take number fs) ≡ f.len + total_bytes (take number fs) = sum_by-cons len_of f (take number fs) in
    let bytes : ℕ = total_bytes (f ∷ take number fs) in
    let one : 0 < f.len = All-head (λ (g : Facts). 0 < g.len) f fs some in
    let rest : bytes - f.len ≡ total_bytes (take number fs) = omega (arith, sums) in
    let next = finds (suc n) fs number (All-tail (λ (g : Facts). 0 < g.len) f fs some) (omega (arith, few)) in
    let same : suc n + number ≡ n + suc number = omega arith in
    cond-false (bytes == 0) (Some n) _ (ne_eqb bytes 0 (λ none. absurd (omega (arith, none, sums, one))))
    ∙ (cond-false (nat_lt bytes f.len) None _ (le-ltb bytes f.len (omega (arith, sums)))
    ∙ (ap (unit_after (suc n) fs) rest ∙ (next ∙ ap (λ (k : ℕ). Some k) same)))

-- the same for numbers from 0 on
pub finds-first : (facts : List Facts) (number : ℕ) → All (λ f. 0 < f.len) facts → number ≤ length facts →
    unit_after 0 facts (total_bytes (take number facts)) ≡ Some number
finds-first facts number some few =
    let none : 0 + number ≡ number = omega arith in
    finds 0 facts number some few ∙ ap (λ (k : ℕ). Some k) none

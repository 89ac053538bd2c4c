-- The shortest prefix of a content that shows a part.
use Rattle.std.proofs.Common.{◌≡◌, ◌⊎◌, ℕ, zero, suc, ◌<◌, ◌≤◌, Bool, true, false, nat_lt, List, [], ◌∷◌, ◌++◌, length, take, drop, refl, sym, ap, ◌∙◌, arith, length-append, inl, inr, below_more}
use Rattle.std.proofs.lemmas.List.{take-append-drop}
use Rattle.std.proofs.Math.Seq.{take-length}

-- the least number below n at which a test holds
abbrev Least : (p : ℕ → Bool) (n : ℕ) → Type 0
Least p n = (k : ℕ) × (k < n) × (p k ≡ true) × ((j : ℕ) → j < k → p j ≡ false)

case_of : (b : Bool) → (b ≡ true) ⊎ (b ≡ false)
case_of true = inl refl
case_of false = inr refl

-- below n a test holds nowhere, or there is a least number at which it holds
none_or_least : (p : ℕ → Bool) (n : ℕ) → ((j : ℕ) → j < n → p j ≡ false) ⊎ Least p n
none_or_least p zero = inl (λ j low. absurd (omega arith))
none_or_least p (suc n) =
    elim (none_or_least p n) [
      | inr found ↦ inr (found.0, omega arith, found.2, found.3)
      | inl none ↦ elim (case_of (p n)) [
        | inl holds ↦ inr (n, omega arith, holds, none)
        | inr fails ↦ inl (λ j low. below_more (λ (t : ℕ). p t ≡ false) n none fails j (omega arith))
      ]
    ]

-- if a test holds at n, there is a least number up to n at which it holds
pub least : (p : ℕ → Bool) (n : ℕ) → p n ≡ true → Least p (suc n)
least p n holds =
    elim (none_or_least p (suc n)) [
      | inl none ↦ let fails = none n (omega arith) in absurd (cc)
      | inr found ↦ found
    ]

-- texts are cut into parts, and what is cut stays the same whatever follows
module _ {P : Type 0} (cut : List ℕ → List P) (stays : (x more : List ℕ) → (later : List P) × (cut (x ++ more) ≡ cut x ++ later)) where
  -- this prefix of the content shows the part after those that were taken, and no shorter one does
  pub record IsShortest (content : List ℕ) (taken : List P) (part : P) : Type 0 where
    pub size : ℕ
    pub within : size ≤ length content
    pub others : List P
    pub shows : cut (take size content) ≡ taken ++ part ∷ others
    pub none : (j : ℕ) → j < size → length (cut (take j content)) ≤ length taken

  -- the first k bytes of the content show more parts than were taken
  abbrev is_past : List ℕ → List P → ℕ → Bool
  is_past content taken k = nat_lt (length taken) (length (cut (take k content)))

  -- of two prefixes of a list, the longer one begins with the shorter one and the next element
  front_of : (xs later taken others : List P) (part : P) → xs ++ later ≡ taken ++ part ∷ others → length taken < length xs
      → (rest : List P) × (xs ≡ taken ++ part ∷ rest)
  front_of [] later taken others part is long = absurd (omega arith)
  front_of (x ∷ xs) later [] others part is long = (xs, let same : x ≡ part = cc in ap (λ (t : P). t ∷ xs) same)
  front_of (x ∷ xs) later (y ∷ taken) others part is long =
      let same : x ≡ y = cc in
      let tails : xs ++ later ≡ taken ++ part ∷ others = cc in
      let found = front_of xs later taken others part tails (omega arith) in
      (found.0, ap (λ (t : P). t ∷ xs) same ∙ ap (λ (t : List P). y ∷ t) found.1)

  -- if the content shows a part after those that were taken, there is a shortest prefix that shows it
  pub shortest : (content : List ℕ) (taken others : List P) (part : P) → cut content ≡ taken ++ part ∷ others → IsShortest content taken part
  shortest content taken others part is =
      let whole : take (length content) content ≡ content = take-length content in
      let long : length taken < length (cut (take (length content) content)) =
      omega (arith, ap length (ap cut whole ∙ is), length-append taken (part ∷ others)) in
      let found = least (is_past content taken) (length content) (grind arith) in
      let k = found.0 in
      let later = stays (take k content) (drop k content) in
      let joined : cut (take k content) ++ later.0 ≡ taken ++ part ∷ others = sym later.1 ∙ ap cut (take-append-drop k content) ∙ is in
      let past : length taken < length (cut (take k content)) = let h = found.2 in grind arith in
      let front = front_of (cut (take k content)) later.0 taken others part joined past in
      record {
        size = k;
        within = omega (arith, found.1);
        others = front.0;
        shows = front.1;
        none = λ j low. let h = found.3 j low in grind arith;
      }

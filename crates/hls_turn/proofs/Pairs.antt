-- Several passes, before and after they look.
use Rattle.std.proofs.Common.{◌≡◌, ◌<◌, ℕ, zero, suc, List, [], ◌∷◌, ◌++◌, length, take, drop, set, get_or, map, sym, refl, ap, ◌∙◌, subst, arith}
use Rattle.std.specs.List.{AllZip}

module _ {A : Type 0} (R : A → A → Type 0) where
  heads : (x y : A) (xs ys : List A) → x ∷ xs ≡ y ∷ ys → x ≡ y
  heads x y xs ys e = cc

  -- if the first i are related and the others unchanged, and item i is replaced by a related one, the first i + 1 are related
  pub zip_more : (i : ℕ) (old now : List A) (d q : A) → i < length now → AllZip R (take i old) (take i now) → drop i now ≡ drop i old → R (get_or now i d) q → AllZip R (take (suc i) old) (take (suc i) (set now i q))
  zip_more i old [] d q low zipped rest related = absurd (omega arith)
  zip_more zero [] (y ∷ ys) d q low zipped rest related = let never : y ∷ ys ≡ [] = rest in absurd (cc)
  zip_more zero (x ∷ xs) (y ∷ ys) d q low zipped rest related = (subst (λ (z : A). R z q) (heads y x ys xs rest) related, tt)
  zip_more (suc i) [] (y ∷ ys) d q low zipped rest related = absurd zipped
  zip_more (suc i) (x ∷ xs) (y ∷ ys) d q low zipped rest related = (zipped.0, zip_more i xs ys d q (omega arith) zipped.1 rest related)

module _ {A : Type 0} where
  -- setting item i leaves the items after it as they were
  pub drop_set : (i : ℕ) (xs : List A) (q : A) → drop (suc i) (set xs i q) ≡ drop (suc i) xs
  drop_set i [] q = refl
  drop_set zero (x ∷ xs) q = refl
  drop_set (suc i) (x ∷ xs) q = drop_set i xs q

  drop-suc : (i : ℕ) (xs : List A) → drop (suc i) xs ≡ drop 1 (drop i xs)
  drop-suc zero [] = refl
  drop-suc (suc i) [] = refl
  drop-suc zero (x ∷ xs) = refl
  drop-suc (suc i) (x ∷ xs) = drop-suc i xs

  -- two lists that agree from item i on agree from the next one on
  pub drop_one : (i : ℕ) (xs ys : List A) → drop i xs ≡ drop i ys → drop (suc i) xs ≡ drop (suc i) ys
  drop_one i xs ys same = drop-suc i xs ∙ ap (drop 1) same ∙ sym (drop-suc i ys)

  -- a relation of each item to itself relates each list to itself, item by item
  pub zip_self : (R : A → A → Type 0) → ((x : A) → R x x) → (xs : List A) → AllZip R xs xs
  zip_self R self [] = tt
  zip_self R self (x ∷ xs) = (self x, zip_self R self xs)

  -- if the first i are related and the others unchanged, all are related, given that each is related to itself
  pub zip_all : (R : A → A → Type 0) → ((x : A) → R x x) → (i : ℕ) (old now : List A) → AllZip R (take i old) (take i now) → drop i now ≡ drop i old → AllZip R old now
  zip_all R self zero old now zipped rest = subst (λ (l : List A). AllZip R old l) (sym rest) (zip_self R self old)
  zip_all R self (suc i) [] [] zipped rest = tt
  zip_all R self (suc i) [] (y ∷ ys) zipped rest = absurd zipped
  zip_all R self (suc i) (x ∷ xs) [] zipped rest = absurd zipped
  zip_all R self (suc i) (x ∷ xs) (y ∷ ys) zipped rest = (zipped.0, zip_all R self i xs ys zipped.1 rest)

  -- if R implies S, two lists that R relates item by item are so related by S
  pub zip_map : {B : Type 0} (R S : A → B → Type 0) → ((x : A) (y : B) → R x y → S x y) → (xs : List A) (ys : List B) → AllZip R xs ys → AllZip S xs ys
  zip_map R S weaker [] [] zipped = tt
  zip_map R S weaker [] (y ∷ ys) zipped = absurd zipped
  zip_map R S weaker (x ∷ xs) [] zipped = absurd zipped
  zip_map R S weaker (x ∷ xs) (y ∷ ys) zipped = (weaker x y zipped.0, zip_map R S weaker xs ys zipped.1)

  -- if R relates the first i and the others are unchanged, and S relates item i to a new one put in its place, S relates all: R implies S, which
  -- relates each item to itself
  pub zip_put : (R S : A → A → Type 0) → ((x : A) → S x x) → ((x y : A) → R x y → S x y) → (i : ℕ) (old now : List A) (d q : A) → i < length now → AllZip R (take i old) (take i now) → drop i now ≡ drop i old → S (get_or now i d) q
      → AllZip S old (set now i q)
  zip_put R S self weaker i old now d q low zipped rest related = zip_all S self (suc i) old (set now i q)
      (zip_more S i old now d q low (zip_map R S weaker (take i old) (take i now) zipped) rest related)
      (drop_set i now q ∙ drop_one i now old rest)

  -- the results for the first i + 1 items, after item i is set, are those for the first i and the one for the new item
  pub put_map : {B : Type 0} (f : A → B) (i : ℕ) (now : List A) (q : A) → i < length now → map f (take (suc i) (set now i q)) ≡ map f (take i now) ++ f q ∷ []
  put_map f i [] q low = absurd (omega arith)
  put_map f zero (x ∷ xs) q low = refl
  put_map f (suc i) (x ∷ xs) q low = ap (λ l. f x ∷ l) (put_map f i xs q (omega arith))

module _ {A B : Type 0} (R : A → B → Type 0) where
  -- if the first i are related, and item i is, too, the first i + 1 are related
  pub zip_next : (i : ℕ) (xs : List A) (ys : List B) (d : A) (e : B) → i < length xs → i < length ys → AllZip R (take i xs) (take i ys) → R (get_or xs i d) (get_or ys i e) → AllZip R (take (suc i) xs) (take (suc i) ys)
  zip_next i [] ys d e low low' zipped related = absurd (omega arith)
  zip_next i (x ∷ xs) [] d e low low' zipped related = absurd (omega arith)
  zip_next zero (x ∷ xs) (y ∷ ys) d e low low' zipped related = (related, tt)
  zip_next (suc i) (x ∷ xs) (y ∷ ys) d e low low' zipped related = (zipped.0, zip_next i xs ys d e (omega arith) (omega arith) zipped.1 related)

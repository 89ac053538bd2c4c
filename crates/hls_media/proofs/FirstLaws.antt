-- A walk that keeps a value of the first box of each of two types gives the first of each list of those types.
use Rattle.std.proofs.Common.{◌≡◌, ℕ, ◌==◌, false, cond, List, [], ◌∷◌, Option, Some, None, is_some, option_and_then, option_map, slice_get, refl, sym, ◌∙◌, ap, inl, inr}
use Rattle.std.proofs.lemmas.Bool.{cases_Bool, eqb-true}
use Rattle.hls_boxes.specs.Boxes.{Child, children, contents_of_type}
use Rattle.hls_media_laws.specs.Inits.{first_with}
use Rattle.hls_media.specs.Folds.{fold_boxes, fold_content}
use Rattle.hls_media.specs.FirstBoxes.{Firsts, first_step, from_both}

-- the value of the first of these contents, unless one was kept before
taken : {A : Type 0} → (List ℕ → Option A) → Option A → List (List ℕ) → Option (Option A)
taken keep seen [] = Some seen
taken keep seen (x ∷ xs) = cond (is_some seen) (taken keep seen xs) (option_and_then (λ v. taken keep (Some v) xs) (keep x))

-- once a value was kept, more boxes of its type change nothing
taken-stays : {A : Type 0} (keep : List ℕ → Option A) (v : A) (xs : List (List ℕ)) → taken keep (Some v) xs ≡ Some (Some v)
unfolding taken
taken-stays keep v [] = refl
taken-stays keep v (x ∷ xs) = taken-stays keep v xs

module _ {X Y R : Type 0} (f : List ℕ → Option X) (g : List ℕ → Option Y) (one two : ℕ) (combine : Option X → Option Y → Option R) (differ : (one == two) ≡ false) (no_one : (y : Option Y) → combine None y ≡ None) (no_two : (x : Option X) → combine x None ≡ None) where
  -- the result of the two values, where either may be invalid
  joined : Option (Option X) → Option (Option Y) → Option R
  joined None y = None
  joined (Some x) None = None
  joined (Some x) (Some y) = combine x y

  -- if reading the second value failed, there is no result
  joined-none : (x : Option (Option X)) → joined x None ≡ None
  unfolding joined
  joined-none None = refl
  joined-none (Some x) = refl

  -- a walk over these boxes gives the result of the first values of both types, unless they were kept before
  abbrev Comes : Firsts X Y → List Child → Type 0
  Comes s cs = fold_boxes (first_step f g one two) (from_both combine) s cs ≡ joined (taken f s.0 (contents_of_type one cs)) (taken g s.1 (contents_of_type two cs))

  -- a walk that continues over these boxes after a step
  abbrev goes : List Child → Option (Firsts X Y) → Option R
  goes cs next = option_and_then (λ (s : Firsts X Y). fold_boxes (first_step f g one two) (from_both combine) s cs) next

  -- a step at a box of the first type keeps its value, unless one was kept before
  a_one : (x : Option X) (y : Option Y) (kept : Option X) (cs : List Child) → ((s : Firsts X Y) → Comes s cs)
      → goes cs (cond (is_some x) (Some (x, y)) (option_map (λ (v : X). (Some v, y)) kept))
      ≡ joined (cond (is_some x) (taken f x (contents_of_type one cs)) (option_and_then (λ (v : X). taken f (Some v) (contents_of_type one cs)) kept)) (taken g y (contents_of_type two cs))
  unfolding joined
  a_one (Some x) y kept cs ih = ih (Some x, y)
  a_one None y None cs ih = refl
  a_one None y (Some v) cs ih = ih (Some v, y)

  -- a step at a box of the second type keeps its value, unless one was kept before
  a_two : (x : Option X) (y : Option Y) (kept : Option Y) (cs : List Child) → ((s : Firsts X Y) → Comes s cs)
      → goes cs (cond (is_some y) (Some (x, y)) (option_map (λ (v : Y). (x, Some v)) kept))
      ≡ joined (taken f x (contents_of_type one cs)) (cond (is_some y) (taken g y (contents_of_type two cs)) (option_and_then (λ (v : Y). taken g (Some v) (contents_of_type two cs)) kept))
  a_two x (Some y) kept cs ih = ih (x, Some y)
  a_two x None None cs ih = sym (joined-none (taken f x (contents_of_type one cs)))
  a_two x None (Some v) cs ih = ih (x, Some v)

  -- a walk over boxes gives the result of the first values of both types
  comes : (s : Firsts X Y) (cs : List Child) → Comes s cs
  unfolding fold_boxes taken joined
  comes s [] = refl
  comes s (c ∷ cs) =
      elim (cases_Bool (c.kind == one)) [
        | inl e ↦
            let d : (c.kind == two) ≡ false = ap (λ (k : ℕ). k == two) (eqb-true c.kind one e) ∙ differ in
            rw (e, d) (a_one s.0 s.1 (f c.content) cs (λ s. comes s cs))
        | inr d ↦ elim (cases_Bool (c.kind == two)) [
          | inl e ↦ rw (d, e) (a_two s.0 s.1 (g c.content) cs (λ s. comes s cs))
          | inr e ↦ rw (d, e) (comes s cs)
        ]
      ]

  -- with a first value kept, the result needs only the first of the boxes of the second type
  kept_two : (x : Option X) (y : Option Y) (ys : List (List ℕ)) → joined (Some x) (option_and_then (λ (v : Y). taken g (Some v) ys) y) ≡ combine x y
  unfolding joined
  kept_two x None ys = sym (no_two x)
  kept_two x (Some v) ys = ap (joined (Some x)) (taken-stays g v ys)

  -- with a first value, the result needs only the first of the boxes of each type
  kept_one : (x : Option X) (xs ys : List (List ℕ)) → joined (option_and_then (λ (v : X). taken f (Some v) xs) x) (taken g None ys) ≡ combine x (option_and_then g (slice_get ys 0))
  unfolding joined taken
  kept_one None xs ys = sym (no_one (option_and_then g (slice_get ys 0)))
  kept_one (Some v) xs [] = ap (λ (x : Option (Option X)). joined x (Some None)) (taken-stays f v xs)
  kept_one (Some v) xs (y ∷ ys) = ap (λ (x : Option (Option X)). joined x (taken g None (y ∷ ys))) (taken-stays f v xs) ∙ kept_two (Some v) (g y) ys

  -- the values that are taken from both lists give the result of the first of each
  by_lists : (xs ys : List (List ℕ)) → joined (taken f None xs) (taken g None ys) ≡ combine (option_and_then f (slice_get xs 0)) (option_and_then g (slice_get ys 0))
  unfolding joined taken
  by_lists [] [] = refl
  by_lists [] (y ∷ ys) = kept_two None (g y) ys
  by_lists (x ∷ xs) ys = kept_one (f x) xs ys

  -- the same for boxes that may not be readable
  by_boxes : (boxes : Option (List Child)) → option_and_then (fold_boxes (first_step f g one two) (from_both combine) (None, None)) boxes ≡ option_and_then (λ (cs : List Child). combine (first_with f one cs) (first_with g two cs)) boxes
  by_boxes None = refl
  by_boxes (Some cs) = comes (None, None) cs ∙ by_lists (contents_of_type one cs) (contents_of_type two cs)

  -- a walk over the boxes that fill a text gives the result of the first box of each of the two types
  pub over-firsts : (content : List ℕ) → fold_content (first_step f g one two) (from_both combine) (None, None) content ≡ option_and_then (λ (cs : List Child). combine (first_with f one cs) (first_with g two cs)) (children content)
  unfolding fold_content
  over-firsts content = by_boxes (children content)

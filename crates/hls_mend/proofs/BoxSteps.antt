-- The normal forms of boxes, one box at a time.
use Rattle.std.proofs.Common.{◌≡◌, ◌∙◌, ℕ, zero, suc, ◌-◌, ◌<◌, true, false, Option, Some, None, is_some, option_map, List, [], ◌∷◌, ◌++◌, length, drop, refl, sym, ap, arith}
use Rattle.std.specs.Prelude.{Result, Ok, Err, OnOk, if◌then◌else◌}
use Rattle.std.specs.Result.{is_ok}
use Rattle.std.specs.List.{flat_map}
use Rattle.hls_boxes.specs.declared.box_header.BoxHeader.{BoxHeader}
use Rattle.hls_boxes.specs.Boxes.{Child, child_of, box_at, children}
use Rattle.hls_boxes.proofs.Callers.{children-empty, children-step}
use Rattle.hls_mend.specs.InitSections.{normal_box, normal_boxes}

-- the normal forms of these boxes, one after another, or nothing if there are none
abbrev normal_of : ℕ → Option (List Child) → List ℕ
normal_of depth None = []
normal_of depth (Some boxes) = flat_map (normal_box (normal_boxes depth)) boxes

-- the normal forms of the boxes that fill the bytes, or nothing if no boxes do
pub normal_rest : ℕ → List ℕ → List ℕ
normal_rest depth bytes = normal_of depth (children bytes)

-- a box before others doesn't change whether boxes are readable
same-some : (b : Child) (o : Option (List Child)) → is_some (option_map (λ more. b ∷ more) o) ≡ is_some o
same-some b None = refl
same-some b (Some boxes) = refl

-- boxes fill bytes with a complete box at the start exactly if boxes fill the bytes after it
pub boxes-step : (bytes : List ℕ) (h : BoxHeader) → 0 < length bytes → box_at bytes ≡ Some h → is_some (children bytes) ≡ is_some (children (drop h.size bytes))
boxes-step bytes h some is = ap is_some (children-step bytes some) ∙ rw is (same-some (child_of h bytes) (children (drop h.size bytes)))

-- no boxes fill bytes that aren't empty and don't begin with a complete box
pub boxes-none : (bytes : List ℕ) → 0 < length bytes → box_at bytes ≡ None → is_some (children bytes) ≡ false
boxes-none bytes some none = ap is_some (children-step bytes some) ∙ rw none refl

pub boxes-empty : is_some (children []) ≡ true
boxes-empty = ap is_some children-empty

-- the normal forms of a box and readable others are that of the box and then those of the others
first-then : (depth : ℕ) (b : Child) (o : Option (List Child)) → is_some o ≡ true
    → normal_of depth (option_map (λ more. b ∷ more) o) ≡ normal_box (normal_boxes depth) b ++ normal_of depth o
first-then depth b None some = absurd (cc)
first-then depth b (Some boxes) some = refl

-- the normal forms of boxes that fill bytes are that of the first box and then those of the boxes after it
pub normal-step : (depth : ℕ) (bytes : List ℕ) (h : BoxHeader) → 0 < length bytes → box_at bytes ≡ Some h → is_some (children bytes) ≡ true
    → normal_rest depth bytes ≡ normal_box (normal_boxes depth) (child_of h bytes) ++ normal_rest depth (drop h.size bytes)
unfolding normal_rest
normal-step depth bytes h some is filled =
    ap (normal_of depth) (children-step bytes some)
    ∙ rw is (first-then depth (child_of h bytes) (children (drop h.size bytes)) (sym (boxes-step bytes h some is) ∙ filled))

pub normal-empty : (depth : ℕ) → normal_rest depth [] ≡ []
unfolding normal_rest
normal-empty depth = ap (normal_of depth) children-empty

-- to a depth above 0, the normal form of readable boxes is that of each of them
start-of : (depth : ℕ) (bytes : List ℕ) (o : Option (List Child)) → children bytes ≡ o → is_some o ≡ true → normal_boxes (suc depth) bytes ≡ normal_of depth o
unfolding normal_boxes
start-of depth bytes None is some = absurd (cc)
start-of depth bytes (Some boxes) is some = rw is refl

-- to a depth above 0, the normal form of bytes that boxes fill is that of each box, with the boxes in it to one level less
pub normal-start : (depth : ℕ) (bytes : List ℕ) → 0 < depth → is_some (children bytes) ≡ true → normal_boxes depth bytes ≡ normal_rest (depth - 1) bytes
unfolding normal_rest
normal-start zero bytes some filled = absurd (omega (arith, some))
normal-start (suc depth) bytes some filled =
    let one : suc depth - 1 ≡ depth = omega arith in
    start-of depth bytes (children bytes) refl filled ∙ ap (λ (k : ℕ). normal_rest k bytes) (sym one)

-- bytes that these boxes don't fill are their own normal form
raw-of : (depth : ℕ) (bytes : List ℕ) (o : Option (List Child)) → children bytes ≡ o → is_some o ≡ false → normal_boxes (suc depth) bytes ≡ bytes
unfolding normal_boxes
raw-of depth bytes None is none = rw is refl
raw-of depth bytes (Some boxes) is none = absurd (cc)

-- bytes that no boxes fill are their own normal form, to any depth
pub normal-raw : (depth : ℕ) (bytes : List ℕ) → is_some (children bytes) ≡ false → normal_boxes depth bytes ≡ bytes
unfolding normal_boxes
normal-raw zero bytes none = refl
normal-raw (suc depth) bytes none = raw-of depth bytes (children bytes) refl none

-- to depth 0, bytes are their own normal form
pub normal-zero : (depth : ℕ) (bytes : List ℕ) → depth ≡ 0 → normal_boxes depth bytes ≡ bytes
unfolding normal_boxes
normal-zero zero bytes is = refl
normal-zero (suc depth) bytes is = absurd (omega (arith, is))

pub no-bytes : (xs : List ℕ) → length xs ≡ 0 → xs ≡ []
no-bytes [] none = refl
no-bytes (x ∷ xs) none = absurd (omega (arith, none))

-- if the bytes after an append are the joined ones when it succeeds, and the old ones otherwise, then a success leaves the joined ones
pub when-ok : {T E : Type 0} (r : Result T E) (new joined old : List ℕ) → new ≡ (if is_ok r then joined else old) → OnOk r (new ≡ joined)
when-ok (Ok x) new joined old is = is
when-ok (Err e) new joined old is = tt

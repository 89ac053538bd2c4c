-- A walk over the top-level boxes of a unit, one box at a time.
use Rattle.std.proofs.Common.{◌≡◌, ℕ, ◌+◌, ◌-◌, ◌<◌, ◌≤◌, ◌==◌, true, false, List, [], ◌∷◌, length, take, drop, slice_range, Option, Some, None, is_some, IfSome, option_and_then, option_map, refl, sym, ◌∙◌, ap, arith}
use Rattle.std.proofs.lemmas.Bool.{lt-ltb, le-ltb}
use Rattle.std.proofs.lemmas.List.{drop-drop, length-drop}
use Rattle.hls_boxes.specs.declared.box_header.BoxHeader.{BoxHeader}
use Rattle.hls_boxes.specs.Kinds.{moov_type, moof_type, mdat_type, unit_limit}
use Rattle.hls_boxes.specs.Boxes.{Child, child_of, children, children_after_header, box_at, IsWithin}
use Rattle.hls_boxes.proofs.Callers.{children-empty, children-step}
use Rattle.hls_media_laws.specs.Layout.{Layout, layout_of_boxes, layout_of, with_mdat, last_box, size_of_box}
use Rattle.hls_media.specs.declared.unit.FoundMoof.{FoundMoof}
use Rattle.hls_media.specs.UnitLayout.{layout_of_rest}
use Rattle.hls_media.proofs.Slices.{slice-length}

-- F of a first box and the boxes after it is G of those after it
pushed : {A : Type 0} (F G : List Child → Option A) (c : Child) → ((cs : List Child) → F (c ∷ cs) ≡ G cs) → (o : Option (List Child)) → option_and_then F (option_map (λ more. c ∷ more) o) ≡ option_and_then G o
pushed F G c each None = refl
pushed F G c each (Some cs) = each cs

-- if F of a first box and others is G of the others, F of the boxes in the rest is G of those after its first box
pub first-box : {A : Type 0} (F G : List Child → Option A) (rest : List ℕ) (h : BoxHeader) → 0 < length rest → box_at rest ≡ Some h → ((cs : List Child) → F (child_of h rest ∷ cs) ≡ G cs)
    → option_and_then F (children rest) ≡ option_and_then G (children (drop h.size rest))
first-box F G rest h some is each =
    ap (option_and_then F) (children-step rest some ∙ ap (children_after_header children rest) is) ∙ pushed F G (child_of h rest) each (children (drop h.size rest))

-- if bytes aren't empty and don't begin with a complete box, every function of the boxes that fill them fails
pub no-box : {A : Type 0} (F : List Child → Option A) (rest : List ℕ) → 0 < length rest → box_at rest ≡ None → option_and_then F (children rest) ≡ None
no-box F rest some is = ap (option_and_then F) (children-step rest some ∙ ap (children_after_header children rest) is)

-- at the end, F of the boxes is F of none
pub end-box : {A : Type 0} (F : List Child → Option A) (rest : List ℕ) → length rest ≡ 0 → option_and_then F (children rest) ≡ F []
end-box F [] none = ap (option_and_then F) children-empty
end-box F (b ∷ bytes) none = absurd (omega (arith, none))

-- a function that fails for all boxes fails, whether or not boxes fill the bytes
pub nothing : {A : Type 0} (o : Option (List Child)) → option_and_then {U = A} (λ (cs : List Child). None) o ≡ None
nothing None = refl
nothing (Some cs) = refl

-- if F fails for one box or more, it fails for boxes after this header
by_header : {A : Type 0} (F : List Child → Option A) (bytes : List ℕ) → ((c : Child) (cs : List Child) → F (c ∷ cs) ≡ None) → (o : Option BoxHeader) → option_and_then F (children_after_header children bytes o) ≡ None
by_header F bytes each None = refl
by_header F bytes each (Some h) = pushed F (λ cs. None) (child_of h bytes) (each (child_of h bytes)) (children (drop h.size bytes)) ∙ nothing (children (drop h.size bytes))

-- if F fails for one box or more, it fails for the boxes that fill bytes, if there are bytes
pub some_boxes : {A : Type 0} (F : List Child → Option A) (bytes : List ℕ) → 0 < length bytes → ((c : Child) (cs : List Child) → F (c ∷ cs) ≡ None) → option_and_then F (children bytes) ≡ None
some_boxes F bytes some each = ap (option_and_then F) (children-step bytes some) ∙ by_header F bytes each (box_at bytes)

-- the layout by the boxes that follow, after the `moof` that was found or before one
come : List ℕ → Option FoundMoof → List ℕ → List Child → Option Layout
come unit None rest = layout_of_boxes
come unit (Some m) rest = with_mdat (slice_range unit m.from m.to) (length unit - length rest - m.begin)

-- the layout by the bytes that remain is that by the boxes that fill them
come-is : (unit : List ℕ) (met : Option FoundMoof) (rest : List ℕ) → layout_of_rest unit met rest ≡ option_and_then (come unit met rest) (children rest)
unfolding come
come-is unit None rest = refl
come-is unit (Some m) rest = refl

-- a rest that doesn't begin with a complete box gives no layout
pub come-bad : (unit : List ℕ) (met : Option FoundMoof) (rest : List ℕ) → 0 < length rest → box_at rest ≡ None → layout_of_rest unit met rest ≡ None
come-bad unit met rest some is = come-is unit met rest ∙ no-box (come unit met rest) rest some is

-- an empty rest gives no layout
pub come-end : (unit : List ℕ) (met : Option FoundMoof) (rest : List ℕ) → length rest ≡ 0 → layout_of_rest unit met rest ≡ None
unfolding come
come-end unit None rest none = end-box layout_of_boxes rest none
come-end unit (Some m) rest none = end-box (with_mdat (slice_range unit m.from m.to) (length unit - length rest - m.begin)) rest none

-- a `moov` next gives no layout
pub come-moov : (unit : List ℕ) (met : Option FoundMoof) (rest : List ℕ) (h : BoxHeader) → 0 < length rest → box_at rest ≡ Some h → h.kind ≡ moov_type → layout_of_rest unit met rest ≡ None
come-moov unit None rest h some is kind =
    first-box layout_of_boxes (λ cs. None) rest h some is (λ cs. rw kind refl) ∙ nothing (children (drop h.size rest))
come-moov unit (Some m) rest h some is kind =
    first-box (with_mdat (slice_range unit m.from m.to) (length unit - length rest - m.begin)) (λ cs. None) rest h some is (λ cs. rw kind refl) ∙ nothing (children (drop h.size rest))

-- a second `moof` gives no layout
pub come-moof-again : (unit : List ℕ) (met : Option FoundMoof) (rest : List ℕ) (h : BoxHeader) → 0 < length rest → box_at rest ≡ Some h → h.kind ≡ moof_type → is_some met ≡ true → layout_of_rest unit met rest ≡ None
come-moof-again unit None rest h some is kind again = absurd (cc)
come-moof-again unit (Some m) rest h some is kind again =
    first-box (with_mdat (slice_range unit m.from m.to) (length unit - length rest - m.begin)) (λ cs. None) rest h some is (λ cs. rw kind refl) ∙ nothing (children (drop h.size rest))

-- an `mdat` before the `moof` gives no layout
pub come-mdat-alone : (unit : List ℕ) (met : Option FoundMoof) (rest : List ℕ) (h : BoxHeader) → 0 < length rest → box_at rest ≡ Some h → h.kind ≡ mdat_type → met ≡ None → layout_of_rest unit met rest ≡ None
come-mdat-alone unit (Some m) rest h some is kind none = absurd (cc)
come-mdat-alone unit None rest h some is kind none =
    first-box layout_of_boxes (λ cs. None) rest h some is (λ cs. rw kind refl) ∙ nothing (children (drop h.size rest))

-- at the `mdat` after the `moof`, the layout is known if nothing follows it
at_mdat : (unit : List ℕ) (m : FoundMoof) (rest : List ℕ) (h : BoxHeader) → 0 < length rest → box_at rest ≡ Some h → h.kind ≡ mdat_type
    → layout_of_rest unit (Some m) rest ≡ option_and_then (last_box (slice_range unit m.from m.to) (length unit - length rest - m.begin) (child_of h rest)) (children (drop h.size rest))
at_mdat unit m rest h some is kind =
    first-box (with_mdat (slice_range unit m.from m.to) (length unit - length rest - m.begin)) (last_box (slice_range unit m.from m.to) (length unit - length rest - m.begin) (child_of h rest)) rest h some is (λ cs. rw kind refl)

-- an `mdat` that other bytes follow gives no layout
pub come-mdat-more : (unit : List ℕ) (met : Option FoundMoof) (m : FoundMoof) (rest : List ℕ) (h : BoxHeader) → 0 < length rest → box_at rest ≡ Some h → h.kind ≡ mdat_type → met ≡ Some m → h.size < length rest → layout_of_rest unit met rest ≡ None
come-mdat-more unit met m rest h some is kind met_is more =
    ap (λ (met : Option FoundMoof). layout_of_rest unit met rest) met_is ∙ at_mdat unit m rest h some is kind
    ∙ some_boxes (last_box (slice_range unit m.from m.to) (length unit - length rest - m.begin) (child_of h rest)) (drop h.size rest) (omega (arith, length-drop h.size rest)) (λ c cs. refl)

-- a complete box is as long as its header says
box-len : (h : BoxHeader) (rest : List ℕ) → IsWithin (length rest) h → size_of_box (child_of h rest) ≡ h.size
box-len h rest within = omega (arith, slice-length rest h.head h.size within.0 within.1, within.0)

-- an `mdat` that fills the rest after the `moof` gives the layout with both their positions
pub come-mdat : (unit : List ℕ) (met : Option FoundMoof) (m : FoundMoof) (rest : List ℕ) (h : BoxHeader) → 0 < length rest → box_at rest ≡ Some h → IsWithin (length rest) h → h.kind ≡ mdat_type → met ≡ Some m → length rest ≤ h.size → length rest ≤ length unit → m.begin ≤ length unit - length rest
    → layout_of_rest unit met rest ≡ Some (record { moof = slice_range unit m.from m.to; low = length unit - length rest + h.head - m.begin; high = length unit - length rest + h.size - m.begin })
come-mdat unit met m rest h some is within kind met_is last in_unit begun =
    let at : ℕ = length unit - length rest - m.begin in
    let low : at + h.head ≡ length unit - length rest + h.head - m.begin = omega arith in
    let high : at + size_of_box (child_of h rest) ≡ length unit - length rest + h.size - m.begin = omega (arith, box-len h rest within) in
    ap (λ (met : Option FoundMoof). layout_of_rest unit met rest) met_is ∙ at_mdat unit m rest h some is kind
    ∙ end-box (last_box (slice_range unit m.from m.to) at (child_of h rest)) (drop h.size rest) (omega (arith, length-drop h.size rest))
    ∙ rw (low, high) refl

-- a box that isn't `moov`, `moof` or `mdat` doesn't change the layout
pub come-other : (unit : List ℕ) (met : Option FoundMoof) (rest : List ℕ) (h : BoxHeader) → 0 < length rest → box_at rest ≡ Some h → IsWithin (length rest) h → (h.kind == moov_type) ≡ false → (h.kind == moof_type) ≡ false → (h.kind == mdat_type) ≡ false
    → length rest ≤ length unit → IfSome met (λ m. m.begin ≤ length unit - length rest) → layout_of_rest unit met rest ≡ layout_of_rest unit met (drop h.size rest)
come-other unit None rest h some is within moov moof mdat in_unit begun =
    first-box layout_of_boxes layout_of_boxes rest h some is (λ cs. rw (moof, mdat, moov) refl)
come-other unit (Some m) rest h some is within moov moof mdat in_unit begun =
    let moof_box : List ℕ = slice_range unit m.from m.to in
    let at : ℕ = length unit - length rest - m.begin in
    let next : at + size_of_box (child_of h rest) ≡ length unit - length (drop h.size rest) - m.begin = omega (arith, box-len h rest within, within.1, length-drop h.size rest, begun) in
    first-box (with_mdat moof_box at) (with_mdat moof_box (at + size_of_box (child_of h rest))) rest h some is (λ cs. rw (mdat, moof, moov) refl)
    ∙ ap (λ (n : ℕ). option_and_then (with_mdat moof_box n) (children (drop h.size rest))) next

-- a range of the rest of bytes is a range of the bytes
pub slice-of-drop : (unit rest : List ℕ) (at from to : ℕ) → rest ≡ drop at unit → slice_range rest from to ≡ slice_range unit (at + from) (at + to)
slice-of-drop unit rest at from to is =
    let len : (at + to) - (at + from) ≡ to - from = omega arith in
    ap (λ (r : List ℕ). slice_range r from to) is ∙ ap (take (to - from)) (drop-drop from at unit) ∙ ap (λ (n : ℕ). take n (drop (at + from) unit)) (sym len)

-- after the first `moof`, the layout is that by the boxes after it
pub come-moof : (unit : List ℕ) (met : Option FoundMoof) (rest : List ℕ) (h : BoxHeader) → 0 < length rest → box_at rest ≡ Some h → IsWithin (length rest) h → h.kind ≡ moof_type → is_some met ≡ false → length rest ≤ length unit → rest ≡ drop (length unit - length rest) unit
    → layout_of_rest unit met rest ≡ layout_of_rest unit (Some (record { begin = length unit - length rest; from = length unit - length rest + h.head; to = length unit - length rest + h.size })) (drop h.size rest)
come-moof unit (Some m) rest h some is within kind none in_unit rest_is = absurd (cc)
come-moof unit None rest h some is within kind none in_unit rest_is =
    let at : ℕ = length unit - length rest in
    let next : size_of_box (child_of h rest) ≡ length unit - length (drop h.size rest) - at = omega (arith, box-len h rest within, within.1, length-drop h.size rest) in
    first-box layout_of_boxes (with_mdat (slice_range rest h.head h.size) (size_of_box (child_of h rest))) rest h some is (λ cs. rw kind refl)
    ∙ ap (λ (n : ℕ). option_and_then (with_mdat (slice_range rest h.head h.size) n) (children (drop h.size rest))) next
    ∙ ap (λ (moof : List ℕ). option_and_then (with_mdat moof (length unit - length (drop h.size rest) - at)) (children (drop h.size rest))) (slice-of-drop unit rest at h.head h.size rest_is)

-- a unit above the limit has no layout
pub layout-long : (unit : List ℕ) → unit_limit < length unit → layout_of unit ≡ None
unfolding layout_of
layout-long unit long = rw (lt-ltb unit_limit (length unit) long) refl

-- within the limit of a unit, the layout is the one that its boxes give
pub layout-short : (unit : List ℕ) → length unit ≤ unit_limit → layout_of unit ≡ option_and_then layout_of_boxes (children unit)
unfolding layout_of
layout-short unit short = rw (le-ltb unit_limit (length unit) short) refl

-- after one more box, the rest is still the end of the unit
pub rest-more : (unit rest : List ℕ) (size : ℕ) → rest ≡ drop (length unit - length rest) unit → length rest ≤ length unit → size ≤ length rest → drop size rest ≡ drop (length unit - length (drop size rest)) unit
rest-more unit rest size is in_unit fits =
    let at : ℕ = length unit - length rest in
    let next : at + size ≡ length unit - length (drop size rest) = omega (arith, length-drop size rest) in
    ap (drop size) is ∙ drop-drop size at unit ∙ ap (λ (n : ℕ). drop n unit) next

-- the `moof` that was found in some bytes of the unit is within more of them
pub met-more : (met : Option FoundMoof) (a b : ℕ) → a ≤ b → IfSome met (λ m. (m.begin ≤ m.from) × (m.from ≤ m.to) × (m.to ≤ a)) → IfSome met (λ m. (m.begin ≤ m.from) × (m.from ≤ m.to) × (m.to ≤ b))
met-more None a b le met = tt
met-more (Some m) a b le met = (met.0, met.1, omega (arith, met.2))

-- a `moof` that ends at or before a position begins at or before it
pub begun : (met : Option FoundMoof) (a : ℕ) → IfSome met (λ m. (m.begin ≤ m.from) × (m.from ≤ m.to) × (m.to ≤ a)) → IfSome met (λ m. m.begin ≤ a)
begun None a met = tt
begun (Some m) a met = omega (arith, met.0, met.1, met.2)

-- The increase of a count of fields for one more box, which doesn't overflow.
use Rattle.std.proofs.Common.{◌≡◌, ℕ, zero, suc, ◌+◌, ◌-◌, ◌*◌, ◌≤◌, List, length, drop, slice_range, subst, sym, arith}
use Rattle.std.proofs.lemmas.List.{length-drop}
use Rattle.hls_boxes.specs.declared.box_header.BoxHeader.{BoxHeader}
use Rattle.hls_boxes.specs.Boxes.{IsWithin}
use Rattle.hls_media.specs.RisesBy.{RisesBy}
use Rattle.hls_media.proofs.Slices.{slice-length}

-- the three fields of a box header are within `suc e` for each of its bytes, since it has at least three
more : (e walked head content : ℕ) → 3 ≤ head → walked * suc e + 3 + content * suc e ≤ (walked + head + content) * suc e
more e walked head content long = omega (arith, long)

-- after one more box, the count increased by at most f for each byte walked, if it did before and f is at least 1
pub counted-more : (f : ℕ) (all rest : List ℕ) (h : BoxHeader) (before now headed after : ℕ) → 1 ≤ f → IsWithin (length rest) h → length rest ≤ length all
    → RisesBy ((length all - length rest) * f) before now → now ≤ headed → headed ≤ now + 3 → RisesBy (length (slice_range rest h.head h.size) * f) headed after
    → RisesBy ((length all - length (drop h.size rest)) * f) before after
counted-more zero all rest h before now headed after some within walked state rises few step = absurd (omega (arith, some))
counted-more (suc e) all rest h before now headed after some within walked state rises few step =
    let content : length (slice_range rest h.head h.size) ≡ h.size - h.head = slice-length rest h.head h.size within.0 within.1 in
    let on : length all - length (drop h.size rest) ≡ (length all - length rest) + h.head + (h.size - h.head) = omega (arith, length-drop h.size rest, walked, within.0, within.1) in
    let top = rw content at step.1 in
    let most = more e (length all - length rest) h.head (h.size - h.head) (omega (arith, within.2)) in
    rw on (omega (arith, state.0, rises, step.0), omega (arith, state.1, few, top, most))

-- a bound on the count for some bytes holds for more bytes
more_bytes : (f part others before now : ℕ) → now ≤ before + part * f → now ≤ before + (part + others) * f
more_bytes f part others before now most = omega (arith, most)

-- a count that increased by at most f for each byte of a part did so for each byte of the whole
pub counted-all : (f part all before now : ℕ) → part ≤ all → RisesBy (part * f) before now → RisesBy (all * f) before now
counted-all f part all before now le counted =
    let parts : all ≡ part + (all - part) = omega (arith, le) in
    (counted.0, subst (λ n. now ≤ before + n * f) (sym parts) (more_bytes f part (all - part) before now counted.1))

-- if the count increased by at most f for each byte walked, it is within the bound for all bytes
below : (f walked left before now top : ℕ) → before + (walked + left) * f ≤ top → now ≤ before + walked * f → now ≤ top
below f walked left before now top room state = omega (arith, room, state)

-- the count is within the bound for all bytes, whichever of them remain
pub counted-below : (f : ℕ) (all rest : List ℕ) (before now top : ℕ) → length rest ≤ length all → before + length all * f ≤ top → RisesBy ((length all - length rest) * f) before now → now ≤ top
counted-below f all rest before now top walked room state =
    let parts : length all ≡ (length all - length rest) + length rest = omega (arith, walked) in
    below f (length all - length rest) (length rest) before now top (subst (λ n. before + n * f ≤ top) parts room) state.1

-- after a header's fields, the bound for all bytes leaves enough for the content of its box
left_for : (e walked head content behind before now headed top : ℕ) → 3 ≤ head → before + (walked + head + content + behind) * suc e ≤ top → now ≤ before + walked * suc e → headed ≤ now + 3
    → headed + content * suc e ≤ top
left_for e walked head content behind before now headed top long room state few = omega (arith, long, room, state, few)

-- after a header's fields were counted, there is room for `f` fields for each byte of its content
pub room-for-content : (f : ℕ) (all rest : List ℕ) (h : BoxHeader) (before now headed top : ℕ) → 1 ≤ f → IsWithin (length rest) h → length rest ≤ length all → before + length all * f ≤ top
    → RisesBy ((length all - length rest) * f) before now → headed ≤ now + 3 → headed + length (slice_range rest h.head h.size) * f ≤ top
room-for-content zero all rest h before now headed top some within walked room state few = absurd (omega (arith, some))
room-for-content (suc e) all rest h before now headed top some within walked room state few =
    let content : length (slice_range rest h.head h.size) ≡ h.size - h.head = slice-length rest h.head h.size within.0 within.1 in
    let parts : length all ≡ (length all - length rest) + h.head + (h.size - h.head) + (length rest - h.size) = omega (arith, walked, within.0, within.1) in
    rw content
    (left_for e (length all - length rest) h.head (h.size - h.head) (length rest - h.size) before now headed top (omega (arith, within.2)) (subst (λ n. before + n * suc e ≤ top) parts room) state.1 few)

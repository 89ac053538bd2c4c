-- A text without a part by the grammar has no part by the cut.
use Rattle.std.proofs.Common.{◌≡◌, ℕ, zero, suc, ◌+◌, ◌<◌, ◌≤◌, ◌==◌, Bool, true, false, ◌||◌, Some, List, [], ◌∷◌, ◌++◌, length, sym, ◌∙◌, ap, inl, inr, arith, refl, subst}
use Rattle.std.proofs.lemmas.List.{length-append, append_assoc, append-nil}
use Rattle.std.proofs.lemmas.Bool.{lt-ltb, or_parts}
use Rattle.hls_boxes.specs.declared.box_header.BoxHeader.{BoxHeader}
use Rattle.hls_boxes.specs.declared.box_effect.BoxEffect.TheVariants.{Incomplete}
use Rattle.hls_boxes.specs.Kinds.{moov_type, moof_type, mdat_type, unit_limit}
use Rattle.hls_boxes.specs.Boxes.{header_at, Child, children, kinds_of}
use Rattle.hls_boxes.specs.Parts.{limit_of, effect_at, Remainder, Nothing, Boxes, CutShort, Refused, rest_of_part, cut_at, stream_cut}
use Rattle.hls_boxes.specs.Grammar.{AreLoose, OpenKinds, IsIncompleteBox, IsTail, HasNoPart}
use Rattle.hls_boxes.specs.Laws.{RestMatchesGrammar}
use Rattle.hls_boxes.proofs.Headers.{header_at-within}
use Rattle.hls_boxes.proofs.Walk.{FirstBox, first_box, children-empty, children-none}
use Rattle.hls_boxes.proofs.KindLaws.{by_kind, good-fault_of}
use Rattle.hls_boxes.proofs.GrammarLaws.{loose-rest}
use Rattle.hls_boxes.proofs.Steps.{shorter, cut_at-step, cut_at-joins, cut_at-fault}
use Rattle.hls_boxes.proofs.WholeLaws.{cut-empty}
use Rattle.hls_boxes.proofs.LeftLaws.{opens, no_moov, left_unended}

-- loose types don't change whether there is a `moof`
loose-opens : (has_moof : Bool) (kinds : List ℕ) → AreLoose kinds → opens has_moof kinds has_moof
loose-opens has_moof [] = λ are. refl
loose-opens false (k ∷ kinds) = by_kind k (λ k. AreLoose (k ∷ kinds) → opens false (k ∷ kinds) false)
    (λ are. absurd (cc)) (λ are. absurd (cc)) (λ are. absurd (cc))
    (λ a b c are. rw (a, b, c) (refl, refl, loose-opens false kinds (loose-rest k kinds are)))
loose-opens true (k ∷ kinds) = by_kind k (λ k. AreLoose (k ∷ kinds) → opens true (k ∷ kinds) true)
    (λ are. absurd (cc)) (λ are. absurd (cc)) (λ are. absurd (cc))
    (λ a b c are. rw (a, b, c) (refl, refl, loose-opens true kinds (loose-rest k kinds are)))

-- loose types, a `moof` and loose types are those of boxes that end no part, with a `moof`
moof-opens : (front between : List ℕ) → AreLoose front → AreLoose between → opens false (front ++ moof_type ∷ between) true
moof-opens [] between = λ are loose. (refl, refl, loose-opens true between loose)
moof-opens (k ∷ front) between = by_kind k (λ k. AreLoose (k ∷ front) → AreLoose between → opens false (k ∷ (front ++ moof_type ∷ between)) true)
    (λ are loose. absurd (cc)) (λ are loose. absurd (cc)) (λ are loose. absurd (cc))
    (λ a b c are loose. rw (a, b, c) (refl, refl, moof-opens front between (loose-rest k front are) loose))

-- the grammar's types of boxes that end no part are those of the cut
kinds-opens : (kinds : List ℕ) (after : Bool) → OpenKinds after kinds → opens false kinds after
kinds-opens kinds false are = loose-opens false kinds are
kinds-opens kinds true are =
    subst (λ (ks : List ℕ). opens false ks true) (sym are.4) (moof-opens are.0 are.1 are.2 are.3)

-- boxes that end no part are consumed, whatever follows them
abbrev Passed : List ℕ → List ℕ → Bool → Bool → Type 0
Passed before front has_moof after =
    (more : List ℕ) → cut_at before (front ++ more) has_moof ≡ cut_at (before ++ front) more after

-- boxes that end no part are consumed, if those after the first one are consumed after it
passed_box : (before front : List ℕ) (has_moof after : Bool) (b : Child) (boxes : List Child) → opens has_moof (kinds_of (b ∷ boxes)) after
    → length before + length front ≤ unit_limit → FirstBox front b boxes
    → ((h : BoxHeader) (box behind : List ℕ) → length behind < length front → children behind ≡ Some boxes → opens (has_moof || h.kind == moof_type) (kinds_of boxes) after
    → length (before ++ box) + length behind ≤ unit_limit → Passed (before ++ box) behind (has_moof || h.kind == moof_type) after)
    → Passed before front has_moof after
passed_box before front has_moof after b boxes are within f ih more =
    let h = f.header in
    let box = f.box in
    let behind = f.behind in
    let wide = header_at-within box h f.one.header in
    let are' : opens has_moof (h.kind ∷ kinds_of boxes) after = subst (λ (k : ℕ). opens has_moof (k ∷ kinds_of boxes) after) f.kind are in
    let no_mdat : (h.kind == mdat_type) ≡ false = (or_parts (h.kind == moov_type) (h.kind == mdat_type) are'.0).1 in
    let long : length front ≡ length box + length behind = ap length f.split ∙ length-append box behind in
    let limit : length before + h.size ≤ limit_of h.kind = omega (arith, long, f.one.whole, no_moov h.kind are'.0) in
    let good = good-fault_of h (length before) has_moof wide.0 (record { fits = f.fits; mdat = rw no_mdat refl; moof = are'.1; limit = limit }) in
    let split : front ++ more ≡ box ++ (behind ++ more) = ap (λ (xs : List ℕ). xs ++ more) f.split ∙ append_assoc box behind more in
    let whole : (before ++ box) ++ behind ≡ before ++ front = append_assoc before box behind ∙ ap (λ (xs : List ℕ). before ++ xs) (sym f.split) in
    ap (λ (xs : List ℕ). cut_at before xs has_moof) split ∙ cut_at-joins h before box (behind ++ more) has_moof f.one good are'.0
    ∙ ih h box behind (shorter h front box behind f.split f.one f.fits) f.filled are'.2 (omega (arith, long, length-append before box)) more
    ∙ ap (λ (xs : List ℕ). cut_at xs more after) whole

-- boxes that fill a text within the limit and end no part are consumed, given a bound on the number of bytes
passed : (bound : ℕ) (before front : List ℕ) (has_moof after : Bool) (boxes : List Child) → length front < bound → children front ≡ Some boxes
    → opens has_moof (kinds_of boxes) after → length before + length front ≤ unit_limit → Passed before front has_moof after
passed zero before front has_moof after boxes less filled are within more = absurd (omega arith)
passed (suc bound) before front has_moof after [] less filled are within more =
    let none : front ≡ [] = children-none front filled in
    let before_is : before ++ [] ≡ before = append-nil before in
    rw (none, before_is, are) refl
passed (suc bound) before front has_moof after (b ∷ boxes) less filled are within more =
    passed_box before front has_moof after b boxes are within (first_box front b boxes filled)
    (λ h box behind less' filled' are' within'. passed bound (before ++ box) behind (has_moof || h.kind == moof_type) after boxes (omega arith) filled' are' within') more

-- a box whose header is incomplete, or that has no fault and lacks bytes, is incomplete
waits : (tail : List ℕ) (before : ℕ) (has_moof : Bool) → IsIncompleteBox tail before has_moof → effect_at tail before has_moof ≡ Incomplete
unfolding effect_at
waits tail before has_moof (inl none) = rw none refl
waits tail before has_moof (inr s) = let header = s.1 in let good = s.2 in rw (header, good, lt-ltb (length tail) s.0.size s.3) refl

-- the cut stops at an incomplete box
stops : (before tail : List ℕ) (has_moof : Bool) → effect_at tail (length before) has_moof ≡ Incomplete → cut_at before tail has_moof ≡ record { parts = []; left = rest_of_part (length before) (length tail) has_moof }
stops before tail has_moof now = cut_at-step before tail has_moof ∙ rw now refl

-- a list of length 0 is empty
no_bytes : (xs : List ℕ) → length xs ≡ 0 → xs ≡ []
no_bytes [] is = refl
no_bytes (x ∷ xs) is = absurd (omega arith)

-- without boxes there is no `moof`
no_moof : (has_moof : Bool) → OpenKinds has_moof [] → has_moof ≡ false
no_moof has_moof are = sym (kinds-opens [] has_moof are)

-- after the last byte the next box is incomplete
waits-none : (before : ℕ) (has_moof : Bool) → effect_at [] before has_moof ≡ Incomplete
unfolding effect_at header_at
waits-none before has_moof = refl

-- boxes that end no part, with no bytes after them, are the remainder
left_of-boxes : (before : ℕ) (held : Bool) → 0 < before → rest_of_part before 0 held ≡ Boxes held
left_of-boxes before true some = refl
left_of-boxes before false some = rw (lt-ltb 0 before some) refl

-- after boxes that end no part, the remainder by the cut is that of the grammar
stopped : (before tail : List ℕ) (has_moof : Bool) (left : Remainder) → (length before ≡ 0 → has_moof ≡ false) → IsTail (length before) has_moof tail left → cut_at before tail has_moof ≡ record { parts = []; left = left }
stopped before tail has_moof Nothing free b =
    let front : before ≡ [] = no_bytes before b.0 in
    let rest : tail ≡ [] = b.1 in
    let held : has_moof ≡ false = free b.0 in
    rw (front, rest, held) cut-empty
stopped before tail has_moof (Boxes held) free b =
    let rest : tail ≡ [] = b.1 in
    let is_held : has_moof ≡ held = b.2 in
    rw (rest, is_held) (stops before [] held (waits-none (length before) held) ∙ rw (left_of-boxes (length before) held b.0) refl)
stopped before tail has_moof CutShort free b =
    stops before tail has_moof (waits tail (length before) has_moof b.1) ∙ rw (lt-ltb 0 (length tail) b.0) refl
stopped before tail has_moof (Refused fault) free b =
    rw append-nil at (cut_at-fault b.0 before tail [] has_moof fault b.1 b.2)

-- a text that has no part by the grammar has none by the cut, and the same remainder
unended_left : (bytes : List ℕ) (left : Remainder) → HasNoPart bytes left → stream_cut bytes ≡ record { parts = []; left = left }
unended_left bytes left u =
    let alone : length u.front ≡ 0 → u.has_moof ≡ false = λ z.
    let none : Some [] ≡ Some u.boxes = sym children-empty ∙ ap children (sym (no_bytes u.front z)) ∙ u.filled in
    let empty : [] ≡ u.boxes = cc in
    no_moof u.has_moof (subst (λ (bs : List Child). OpenKinds u.has_moof (kinds_of bs)) (sym empty) u.kinds) in
    ap stream_cut u.split ∙ passed (suc (length u.front)) [] u.front false u.has_moof u.boxes (omega arith) u.filled (kinds-opens (kinds_of u.boxes) u.has_moof u.kinds) (omega (arith, u.limit)) u.tail
    ∙ stopped u.front u.tail u.has_moof left alone u.behind

-- a text has no part and this remainder by the cut if and only if it has them by the grammar
pub lefts : RestMatchesGrammar
lefts bytes left = (left_unended bytes left, unended_left bytes left)

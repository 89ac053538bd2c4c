-- The front is found at the first `moof`, with the boxes before it except each `sidx`. A `moov`, an `mdat` or a bad box before it means that there
-- is none (FrontLaws of hls_mend_laws).
use Rattle.std.proofs.Common.{rules, ◌≡◌, ◌≢◌, ◌∙◌, ℕ, ◌==◌, ◌||◌, true, false, Some, None, List, [], ◌++◌, length, take, drop, refl, sym, ap}
use Rattle.std.proofs.lemmas.List.{take_rest, append-nil}
use Rattle.std.proofs.lemmas.Bool.{ne_eqb, eqb-true}
use Rattle.hls_boxes.specs.Boxes.{box_at}
use Rattle.hls_boxes.specs.Kinds.{moov_type, moof_type, mdat_type}
use Rattle.hls_mend_laws.specs.FragmentsRead.{sidx_type, front_of}
use Rattle.hls_mend_laws.proofs.Callers.{front-empty, front-bad, front-moof, front-refused, front-sidx, front-kept}
use Rattle.hls_mend.proofs.FrontSteps.{joined, joined-more, no-bytes}
use Rattle.hls_mend.proofs.front.read_front.Goals as goal

pub returns-in_default : goal.returns-in_default
returns-in_default c =
    let none : box_at c.boxes.rest.now ≡ None = sym c.read_whole_header.ensures.value ∙ c.in_default.is in
    sym (c.boxes.invariant ∙ ap (joined c.boxes.kept.items) (front-bad c.boxes.rest.now none))

pub returns-in-1836019558 : goal.returns-in-1836019558
returns-in-1836019558 c =
    let is : box_at c.boxes.rest.now ≡ Some c.in-Some.header = sym c.read_whole_header.ensures.value ∙ c.in-Some.is in
    let moof : (c.in-Some.header.kind == moof_type) ≡ true = ap (λ (k : ℕ). k == moof_type) c.in-1836019558.is in
    sym (c.boxes.invariant
    ∙ ap (joined c.boxes.kept.items) (front-moof c.boxes.rest.now c.in-Some.header is moof)
    ∙ ap (λ (xs : List ℕ). Some (record { kept = xs; rest = c.boxes.rest.now })) (append-nil c.boxes.kept.items))

pub returns-in-1836019574 : goal.returns-in-1836019574
returns-in-1836019574 c =
    let is : box_at c.boxes.rest.now ≡ Some c.in-Some.header = sym c.read_whole_header.ensures.value ∙ c.in-Some.is in
    let other : (c.in-Some.header.kind == moof_type) ≡ false = ap (λ (k : ℕ). k == moof_type) c.in-1836019574.is in
    let refused : (c.in-Some.header.kind == moov_type || c.in-Some.header.kind == mdat_type) ≡ true = ap (λ (k : ℕ). k == moov_type || k == mdat_type) c.in-1836019574.is in
    sym (c.boxes.invariant ∙ ap (joined c.boxes.kept.items) (front-refused c.boxes.rest.now c.in-Some.header is other refused))

pub returns-in-1835295092 : goal.returns-in-1835295092
returns-in-1835295092 c =
    let is : box_at c.boxes.rest.now ≡ Some c.in-Some.header = sym c.read_whole_header.ensures.value ∙ c.in-Some.is in
    let other : (c.in-Some.header.kind == moof_type) ≡ false = ap (λ (k : ℕ). k == moof_type) c.in-1835295092.is in
    let refused : (c.in-Some.header.kind == moov_type || c.in-Some.header.kind == mdat_type) ≡ true = ap (λ (k : ℕ). k == moov_type || k == mdat_type) c.in-1835295092.is in
    sym (c.boxes.invariant ∙ ap (joined c.boxes.kept.items) (front-refused c.boxes.rest.now c.in-Some.header is other refused))

pub boxes-preserved-in-1936286840 : goal.boxes-preserved-in-1936286840
boxes-preserved-in-1936286840 c =
    let is : box_at c.boxes.rest.now ≡ Some c.in-Some.header = sym c.read_whole_header.ensures.value ∙ c.in-Some.is in
    let kind = c.in-1936286840.is in
    let other : (c.in-Some.header.kind == moof_type) ≡ false = ap (λ (k : ℕ). k == moof_type) kind in
    let loose : (c.in-Some.header.kind == moov_type || c.in-Some.header.kind == mdat_type) ≡ false = ap (λ (k : ℕ). k == moov_type || k == mdat_type) kind in
    let index : (c.in-Some.header.kind == sidx_type) ≡ true = ap (λ (k : ℕ). k == sidx_type) kind in
    rw (take_rest c.boxes.rest.now c.in-Some.header.size)
    (c.boxes.invariant ∙ ap (joined c.boxes.kept.items) (front-sidx c.boxes.rest.now c.in-Some.header is other loose index))

pub boxes-preserved : goal.boxes-preserved
boxes-preserved c =
    let h = c.in-Some.header in
    let is : box_at c.boxes.rest.now ≡ Some h = sym c.read_whole_header.ensures.value ∙ c.in-Some.is in
    let not-moof : h.kind ≢ moof_type = search rules in
    let not-moov : h.kind ≢ moov_type = search rules in
    let not-mdat : h.kind ≢ mdat_type = search rules in
    let not-sidx : h.kind ≢ sidx_type = search rules in
    let loose : (h.kind == moov_type || h.kind == mdat_type) ≡ false = rw (ne_eqb h.kind moov_type not-moov, ne_eqb h.kind mdat_type not-mdat) refl in
    let box : c.extend_from_slice.new.self.items ≡ c.boxes.kept.items ++ take h.size c.boxes.rest.now = c.in_ok-extend_from_slice-in_default-kind.ensures.items in
    rw (take_rest c.boxes.rest.now h.size)
    (c.boxes.invariant
    ∙ ap (joined c.boxes.kept.items) (front-kept c.boxes.rest.now h is (ne_eqb h.kind moof_type not-moof) loose (ne_eqb h.kind sidx_type not-sidx))
    ∙ joined-more c.boxes.kept.items (take h.size c.boxes.rest.now) (front_of (drop h.size c.boxes.rest.now))
    ∙ ap (λ (xs : List ℕ). joined xs (front_of (drop h.size c.boxes.rest.now))) (sym box))

pub returns : goal.returns
returns c =
    let empty : c.is_empty.result ≡ true = search rules in
    let none : c.boxes.rest.now ≡ [] = no-bytes c.boxes.rest.now (eqb-true (length c.boxes.rest.now) 0 (sym c.is_empty.ensures ∙ empty)) in
    sym (c.boxes.invariant ∙ ap (λ (xs : List ℕ). joined c.boxes.kept.items (front_of xs)) none ∙ ap (joined c.boxes.kept.items) front-empty)

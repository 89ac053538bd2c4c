-- How a cut continues, by the effect of the next box.
use Rattle.std.proofs.Common.{◌≡◌, ℕ, ◌+◌, ◌<◌, ◌≤◌, ◌==◌, Bool, true, false, ◌||◌, List, [], ◌∷◌, ◌++◌, length, take, drop, sym, ◌∙◌, ap, inl, inr, arith, subst}
use Rattle.std.proofs.lemmas.List.{length-append, append_assoc, take-append-le, drop_at}
use Rattle.std.proofs.Math.Seq.{take-length}
use Rattle.std.proofs.lemmas.Bool.{cases_Bool}
use Rattle.hls_boxes.specs.declared.box_header.BoxHeader.{BoxHeader}
use Rattle.hls_boxes.specs.declared.fault.BoxFault.{BoxFault}
use Rattle.hls_boxes.specs.declared.box_effect.BoxEffect.{BoxEffect}
use Rattle.hls_boxes.specs.declared.box_effect.BoxEffect.TheVariants.{Incomplete, Fault, Continues, Ends}
use Rattle.hls_boxes.specs.Kinds.{moof_type}
use Rattle.hls_boxes.specs.Parts.{effect_of_box, effect_at, part_of, StreamCut, Refused, after_parts, rest_of_part, cut_by_effect, cut_at, stream_cut}
use Rattle.hls_boxes.proofs.Headers.{IsBox}
use Rattle.hls_boxes.proofs.Steps.{is_end, Came, Waits, Fails, Passes, came, fault_of-fits, shorter, cut_at-step, cut_at-joins, cut_at-ends}

-- a box of `size` bytes is consumed, and the cut continues as `next` says, whatever follows
pub record Passing (before rest : List ℕ) (has_moof : Bool) (size : ℕ) (next : List ℕ → StreamCut) : Type 0 where
  pub some : 0 < size
  pub within : size ≤ length rest
  pub goes : (more : List ℕ) → cut_at before (rest ++ more) has_moof ≡ next (drop size rest ++ more)

-- the cut of what follows a box of `size` bytes that joined the part in progress
abbrev pub joined : List ℕ → List ℕ → Bool → ℕ → List ℕ → StreamCut
joined before rest moof size following = cut_at (before ++ take size rest) following moof

-- the cut of what follows a box of `size` bytes that ended the part in progress, and this part before it
abbrev pub ended : List ℕ → List ℕ → ℕ → ℕ → List ℕ → StreamCut
ended before rest kind size following = after_parts (part_of kind (before ++ take size rest) ∷ []) (stream_cut following)

-- a box is consumed if the cut continues after it, whatever follows
passing : (before rest : List ℕ) (has_moof : Bool) (h : BoxHeader) (box behind : List ℕ) (next : List ℕ → List ℕ → StreamCut) → rest ≡ box ++ behind → IsBox h box → h.head ≤ h.size
    → ((more : List ℕ) → cut_at before (box ++ more) has_moof ≡ next box more)
    → Passing before rest has_moof h.size (next (take h.size rest))
passing before rest has_moof h box behind next split one fits goes =
    let front : take h.size rest ≡ box = ap (take h.size) split ∙ ap (λ (n : ℕ). take n (box ++ behind)) (sym one.whole) ∙ take-append-le (length box) box behind (omega arith) ∙ take-length box in
    let rest_is : drop h.size rest ≡ behind = ap (drop h.size) split ∙ drop_at box behind h.size one.whole in
    let long : length rest ≡ length box + length behind = ap length split ∙ length-append box behind in
    record {
      some = omega (arith, shorter h rest box behind split one fits, long, one.whole);
      within = omega (arith, long, one.whole);
      goes = λ more. ap (λ (xs : List ℕ). cut_at before (xs ++ more) has_moof) split ∙ ap (λ (xs : List ℕ). cut_at before xs has_moof) (append_assoc box behind more)
          ∙ goes (behind ++ more) ∙ ap (λ (xs : List ℕ). next xs (behind ++ more)) (sym front) ∙ ap (λ (xs : List ℕ). next (take h.size rest) (xs ++ more)) (sym rest_is);
    }

-- a box whose effect is to join a part is of a type that ends none, and has this size
joins_as : (h : BoxHeader) (has_moof moof : Bool) (size : ℕ) → effect_of_box h has_moof ≡ Continues moof size → (is_end h.kind ≡ false) × ((has_moof || h.kind == moof_type) ≡ moof) × (h.size ≡ size)
joins_as h has_moof moof size is = elim (cases_Bool (is_end h.kind)) [
  | inl ends ↦ let no : Ends h.kind h.size ≡ Continues moof size = rw ends at is in absurd (cc)
  | inr joins ↦
      let so : Continues (has_moof || h.kind == moof_type) h.size ≡ Continues moof size = rw joins at is in
      let a : (has_moof || h.kind == moof_type) ≡ moof = cc in
      let b : h.size ≡ size = cc in
      (joins, a, b)
]

-- a box whose effect is to end a part is of a type that ends one, and has this type and size
ends_as : (h : BoxHeader) (has_moof : Bool) (kind size : ℕ) → effect_of_box h has_moof ≡ Ends kind size → (is_end h.kind ≡ true) × (h.kind ≡ kind) × (h.size ≡ size)
ends_as h has_moof kind size is = elim (cases_Bool (is_end h.kind)) [
  | inl ends ↦
      let so : Ends h.kind h.size ≡ Ends kind size = rw ends at is in
      let a : h.kind ≡ kind = cc in
      let b : h.size ≡ size = cc in
      (ends, a, b)
  | inr joins ↦ let no : Continues (has_moof || h.kind == moof_type) h.size ≡ Ends kind size = rw joins at is in absurd (cc)
]

-- if the next box joins the part in progress, it is consumed, and the cut continues with that part, by cases of the box
joins_by : (before rest : List ℕ) (has_moof moof : Bool) (size : ℕ) (next : BoxEffect) → Came rest (length before) has_moof next → next ≡ Continues moof size
    → Passing before rest has_moof size (joined before rest moof size)
joins_by before rest has_moof moof size next (Waits w) is = let no : Incomplete ≡ Continues moof size = w ∙ is in absurd (cc)
joins_by before rest has_moof moof size next (Fails h fault header bad w) is = let no : Fault fault ≡ Continues moof size = w ∙ is in absurd (cc)
joins_by before rest has_moof moof size next (Passes h box behind split one good w) is =
    let so = joins_as h has_moof moof size (w ∙ is) in
    let fits = fault_of-fits h (length before) has_moof good in
    let p = passing before rest has_moof h box behind (λ box more. cut_at (before ++ box) more (has_moof || h.kind == moof_type)) split one fits
    (λ more. cut_at-joins h before box more has_moof one good so.0) in
    subst (λ (n : ℕ). Passing before rest has_moof n (joined before rest moof n)) so.2
    (subst (λ (m : Bool). Passing before rest has_moof h.size (joined before rest m h.size)) so.1 p)

-- if the next box ends the part in progress, it is consumed, and the cut has that part first, by cases of the box
ends_by : (before rest : List ℕ) (has_moof : Bool) (kind size : ℕ) (next : BoxEffect) → Came rest (length before) has_moof next → next ≡ Ends kind size
    → Passing before rest has_moof size (ended before rest kind size)
ends_by before rest has_moof kind size next (Waits w) is = let no : Incomplete ≡ Ends kind size = w ∙ is in absurd (cc)
ends_by before rest has_moof kind size next (Fails h fault header bad w) is = let no : Fault fault ≡ Ends kind size = w ∙ is in absurd (cc)
ends_by before rest has_moof kind size next (Passes h box behind split one good w) is =
    let so = ends_as h has_moof kind size (w ∙ is) in
    let fits = fault_of-fits h (length before) has_moof good in
    let p = passing before rest has_moof h box behind (λ box more. after_parts (part_of h.kind (before ++ box) ∷ []) (stream_cut more)) split one fits
    (λ more. cut_at-ends h before box more has_moof one good so.0) in
    subst (λ (n : ℕ). Passing before rest has_moof n (ended before rest kind n)) so.2
    (subst (λ (k : ℕ). Passing before rest has_moof h.size (ended before rest k h.size)) so.1 p)

-- if the next box joins the part in progress, it is consumed, and the cut continues with that part
pub next-joins : (before rest : List ℕ) (has_moof moof : Bool) (size : ℕ) → effect_at rest (length before) has_moof ≡ Continues moof size
    → Passing before rest has_moof size (joined before rest moof size)
next-joins before rest has_moof moof size is = joins_by before rest has_moof moof size (effect_at rest (length before) has_moof) (came rest (length before) has_moof) is

-- if the next box ends the part in progress, it is consumed, and the cut has that part first
pub next-ends : (before rest : List ℕ) (has_moof : Bool) (kind size : ℕ) → effect_at rest (length before) has_moof ≡ Ends kind size
    → Passing before rest has_moof size (ended before rest kind size)
next-ends before rest has_moof kind size is = ends_by before rest has_moof kind size (effect_at rest (length before) has_moof) (came rest (length before) has_moof) is

-- if the next box is incomplete, the cut stops before it
pub next-wait : (before rest : List ℕ) (has_moof : Bool) → effect_at rest (length before) has_moof ≡ Incomplete
    → cut_at before rest has_moof ≡ record { parts = []; left = rest_of_part (length before) (length rest) has_moof }
next-wait before rest has_moof is = cut_at-step before rest has_moof ∙ ap (cut_by_effect cut_at before rest has_moof) is

-- if the next header is faulty, the cut stops before it, with its fault
pub next-fault : (before rest : List ℕ) (has_moof : Bool) (fault : BoxFault) → effect_at rest (length before) has_moof ≡ Fault fault
    → cut_at before rest has_moof ≡ record { parts = []; left = Refused fault }
next-fault before rest has_moof fault is = cut_at-step before rest has_moof ∙ ap (cut_by_effect cut_at before rest has_moof) is

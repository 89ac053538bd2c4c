-- The laws of the cut, as `specs/Laws.antt` states them.
use Rattle.std.proofs.Common.{◌≡◌, ℕ, zero, suc, ◌+◌, ◌<◌, ◌≤◌, ◌==◌, ◌||◌, inl, inr, Bool, true, false, List, [], ◌∷◌, ◌++◌, length, drop, sym, ◌∙◌, ap, arith, refl, subst}
use Rattle.std.specs.Prelude.{All}
use Rattle.std.specs.List.{flat_map}
use Rattle.std.proofs.lemmas.List.{length-append, append_assoc, append-nil, drop_at}
use Rattle.std.proofs.lemmas.List.Elements.{All-nil, All-cons}
use Rattle.std.proofs.lemmas.Bool.{cases_lt, cases_Bool, lt-ltb, le-ltb}
use Rattle.hls_boxes.specs.Kinds.{moof_type}
use Rattle.hls_boxes.specs.declared.part.Part.{Part}
use Rattle.hls_boxes.specs.declared.part.Part.TheVariants as parts
use Rattle.hls_boxes.specs.Boxes.{kinds_of}
use Rattle.hls_boxes.specs.Parts.{bytes_of, part_of, Remainder, Nothing, Boxes, CutShort, Refused, rest_of_part, StreamCut, after_parts, cut_at, stream_cut, IsInitPart, IsUnitPart}
use Rattle.hls_boxes.specs.Grammar.{FilledBy, InitKinds, UnitKinds, IsInitText, IsUnitText, IsPartText}
use Rattle.hls_boxes.specs.Laws.{PartsAreFirstThenRest, FaultsAreStable, PartsAndRest, PartsAndRestAreInput, PartAloneIsOnePart, OnePartIsItsBytes, EmptyInputLeavesNothing, InitsMatchGrammar, UnitsMatchGrammar, FirstPartMatchesGrammar}
use Rattle.hls_boxes.proofs.GrammarLaws.{ends_init-kinds, kinds-ends_init, has_unit-kinds, kinds-has_unit}
use Rattle.hls_boxes.proofs.KindLaws.{walks, limit_of_part}
use Rattle.hls_boxes.proofs.Steps.{Stops, Refuses, Joining, Ending, turn, shorter, fault_of-fits, cut_at-joins, cut_at-ends}
use Rattle.hls_boxes.proofs.CutLaws.{First, first_of, refused}
use Rattle.hls_boxes.proofs.WholeLaws.{cut-empty, one_part, whole_part}

-- a text without the bytes of its first part is what follows that part
pub first-rest : (bytes : List ℕ) (part : Part) (f : First [] bytes false part) → drop (length (bytes_of part)) bytes ≡ f.behind
first-rest bytes part f = ap (drop (length (bytes_of part))) f.split ∙ drop_at f.front f.behind (length (bytes_of part)) (ap length (sym f.bytes))

-- the cut of a text is its first part, and then the cut of what follows that part
pub first-now : (bytes : List ℕ) (part : Part) (f : First [] bytes false part) → stream_cut bytes ≡ after_parts (part ∷ []) (stream_cut f.behind)
first-now bytes part f = ap stream_cut f.split ∙ f.follows f.behind

-- the cut of a text with more bytes is its first part, and then the cut of what follows that part with those bytes
pub first-more : (bytes : List ℕ) (part : Part) (f : First [] bytes false part) (more : List ℕ) → stream_cut (bytes ++ more) ≡ after_parts (part ∷ []) (stream_cut (f.behind ++ more))
first-more bytes part f more =
    ap (λ (xs : List ℕ). stream_cut (xs ++ more)) f.split ∙ ap stream_cut (append_assoc f.front f.behind more) ∙ f.follows (f.behind ++ more)

-- a text with more bytes is cut into its first part, and then the parts of the rest with those bytes
pub in_order : PartsAreFirstThenRest
in_order bytes part others is more =
    let f = first_of bytes part others is in
    first-more bytes part f more ∙ ap (λ (xs : List ℕ). after_parts (part ∷ []) (stream_cut (xs ++ more))) (sym (first-rest bytes part f))

-- if a text has a fault, its cut doesn't change when bytes follow
pub stay : FaultsAreStable
stay bytes more fault is = (refused bytes fault is).stays more

-- the first part alone is one part
pub first-alone : (bytes : List ℕ) (part : Part) → First [] bytes false part → stream_cut (bytes_of part) ≡ record { parts = part ∷ []; left = Nothing }
first-alone bytes part f =
    ap stream_cut (f.bytes ∙ sym (append-nil f.front)) ∙ f.follows [] ∙ ap (λ (c : StreamCut). after_parts (part ∷ []) c) cut-empty

-- if what follows the first part is the concatenation of its parts and a rest, so is the text
rest_after : (bytes : List ℕ) (part : Part) (f : First [] bytes false part) → PartsAndRest f.behind → PartsAndRest bytes
rest_after bytes part f r =
    let now = first-now bytes part f in
    record {
      rest = r.rest;
      joined = f.split ∙ ap (λ (xs : List ℕ). xs ++ f.behind) (sym f.bytes) ∙ ap (λ (xs : List ℕ). bytes_of part ++ xs) r.joined
          ∙ sym (append_assoc (bytes_of part) (flat_map bytes_of (stream_cut f.behind).parts) r.rest)
          ∙ ap (λ (c : StreamCut). flat_map bytes_of c.parts ++ r.rest) (sym now);
      left = r.left ∙ ap (λ (c : StreamCut). record { parts = []; left = c.left }) (sym now);
    }

-- the bytes of the part, on their own, are exactly this part
abbrev IsAlone : Part → Type 0
IsAlone part = stream_cut (bytes_of part) ≡ record { parts = part ∷ []; left = Nothing }

-- a text is its parts and a rest, each part alone is exactly that part, and there are at most as many parts as bytes
record Told (bytes : List ℕ) : Type 0 where
  lost : PartsAndRest bytes
  alone : All IsAlone (stream_cut bytes).parts
  few : length (stream_cut bytes).parts ≤ length bytes

-- a text has these three properties if all texts with fewer bytes have them
told_by : (bound : ℕ) (bytes : List ℕ) (ps : List Part) → length bytes < suc bound → (stream_cut bytes).parts ≡ ps
    → ((behind : List ℕ) → length behind < bound → Told behind) → Told bytes
told_by bound bytes [] less is ih = record {
  lost = record { rest = bytes; joined = ap (λ (ps : List Part). flat_map bytes_of ps ++ bytes) (sym is); left = ap (λ (ps : List Part). record { parts = ps; left = (stream_cut bytes).left }) is };
  alone = subst (λ (ps : List Part). All IsAlone ps) (sym is) (All-nil IsAlone);
  few = rw is (omega arith);
}
told_by bound bytes (part ∷ others) less is ih =
    let f = first_of bytes part others is in
    let less' : length f.behind < bound = omega (arith, f.some, ap length f.split, length-append f.front f.behind) in
    let told = ih f.behind less' in
    record {
      lost = rest_after bytes part f told.lost;
      alone = subst (λ (ps : List Part). All IsAlone ps) (sym (ap (λ (c : StreamCut). c.parts) (first-now bytes part f)))
          (All-cons IsAlone part (stream_cut f.behind).parts (first-alone bytes part f) told.alone);
      few = omega (arith, told.few, f.some, ap length f.split, length-append f.front f.behind, ap (λ (c : StreamCut). length c.parts) (first-now bytes part f));
    }

-- each text has these three properties, given a bound on the number of bytes
told_within : (bound : ℕ) (bytes : List ℕ) → length bytes < bound → Told bytes
told_within zero bytes less = absurd (omega arith)
told_within (suc bound) bytes less = told_by bound bytes (stream_cut bytes).parts less refl (λ behind less'. told_within bound behind less')

-- each text is the concatenation of its parts and a rest
pub lost : PartsAndRestAreInput
lost bytes = (told_within (suc (length bytes)) bytes (omega arith)).lost

-- each part of a text is, on its own, exactly that part
pub alone : PartAloneIsOnePart
alone bytes = (told_within (suc (length bytes)) bytes (omega arith)).alone

-- there are at most as many parts as bytes
pub few : (bytes : List ℕ) → length (stream_cut bytes).parts ≤ length bytes
few bytes = (told_within (suc (length bytes)) bytes (omega arith)).few

-- if the remainder is Nothing, there are no bytes before it or in it
abbrev IsEmpty : ℕ → ℕ → Remainder → Type 0
IsEmpty before rest Nothing = before + rest ≡ 0
IsEmpty before rest (Boxes has_moof) = Unit {0}
IsEmpty before rest CutShort = Unit {0}
IsEmpty before rest (Refused fault) = Unit {0}

-- if the remainder for a part in progress is Nothing, that part has no bytes
left_of-empty : (before rest : ℕ) (has_moof : Bool) → IsEmpty before rest (rest_of_part before rest has_moof)
left_of-empty before rest has_moof =
    elim (cases_lt 0 rest) [
      | inl some ↦ rw (lt-ltb 0 rest some) tt
      | inr no_rest ↦ rw (le-ltb 0 rest no_rest) (elim (cases_Bool has_moof) [
        | inl moof ↦ rw moof tt
        | inr no_moof ↦ rw no_moof (elim (cases_lt 0 before) [
          | inl some ↦ rw (lt-ltb 0 before some) tt
          | inr none ↦ rw (le-ltb 0 before none) (omega arith)
        ])
      ])
    ]

-- a cut without a part and with no remainder is one of no bytes, given a bound on their number
nothing_within : (bound : ℕ) (before rest : List ℕ) (has_moof : Bool) → length rest < bound
    → cut_at before rest has_moof ≡ record { parts = []; left = Nothing } → length before + length rest ≡ 0
nothing_within zero before rest has_moof less is = absurd (omega arith)
nothing_within (suc bound) before rest has_moof less is = elim (turn before rest has_moof) [
  | Stops waits stops ↦
      let left : rest_of_part (length before) (length rest) has_moof ≡ Nothing = ap (λ (c : StreamCut). c.left) (sym stops ∙ is) in
      subst (λ (l : Remainder). IsEmpty (length before) (length rest) l) left (left_of-empty (length before) (length rest) has_moof)
  | Refuses h fault header bad all ↦
      let left : Refused fault ≡ Nothing = ap (λ (c : StreamCut). c.left) (sym (rw append-nil at (all [])) ∙ is) in
      absurd (cc)
  | Joining h box behind split one good joins ↦
      let less' = shorter h rest box behind split one (fault_of-fits h (length before) has_moof good) in
      let now = sym (ap (λ (xs : List ℕ). cut_at before xs has_moof) split ∙ cut_at-joins h before box behind has_moof one good joins) ∙ is in
      let none = nothing_within bound (before ++ box) behind (has_moof || h.kind == moof_type) (omega arith) now in
      omega (arith, none, length-append before box, length-append box behind, ap length split)
  | Ending h box behind split one good ends ↦
      let now = sym (ap (λ (xs : List ℕ). cut_at before xs has_moof) split ∙ cut_at-ends h before box behind has_moof one good ends) ∙ is in
      let none : part_of h.kind (before ++ box) ∷ (stream_cut behind).parts ≡ [] = ap (λ (c : StreamCut). c.parts) now in
      absurd (cc)
]

-- a list of length 0 is empty
no_bytes : (xs : List ℕ) → length xs ≡ 0 → xs ≡ []
no_bytes [] is = refl
no_bytes (x ∷ xs) is = absurd (omega arith)

-- a text without a part and with no remainder is empty
cut-nothing : (bytes : List ℕ) → stream_cut bytes ≡ record { parts = []; left = Nothing } → bytes ≡ []
cut-nothing bytes is =
    let none = nothing_within (suc (length bytes)) [] bytes false (omega arith) is in
    no_bytes bytes (omega arith)

-- if a cut begins with a part, and is that part alone with no remainder, what follows the part is cut into nothing
same_tail : (part : Part) (c : StreamCut) → after_parts (part ∷ []) c ≡ record { parts = part ∷ []; left = Nothing } → c ≡ record { parts = []; left = Nothing }
same_tail part c is =
    let left : c.left ≡ Nothing = ap (λ (d : StreamCut). d.left) is in
    let all : part ∷ c.parts ≡ part ∷ [] = ap (λ (d : StreamCut). d.parts) is in
    let none : c.parts ≡ [] = cc in
    ap (λ (ps : List Part). record { parts = ps; left = c.left }) none ∙ ap (λ (l : Remainder). record { parts = []; left = l }) left

-- if a text is exactly one part, it is that part's bytes, and what follows it is cut on its own
pub one : OnePartIsItsBytes
one bytes part is =
    let f = first_of bytes part [] (ap (λ (c : StreamCut). c.parts) is) in
    let behind : f.behind ≡ [] = cut-nothing f.behind (same_tail part (stream_cut f.behind) (sym (first-now bytes part f) ∙ is)) in
    let front : bytes ≡ f.front = f.split ∙ ap (λ (xs : List ℕ). f.front ++ xs) behind ∙ append-nil f.front in
    (f.bytes ∙ sym front, λ more. ap (λ (xs : List ℕ). stream_cut (xs ++ more)) front ∙ f.follows more)

-- the empty text has no part and no remainder
pub empty : EmptyInputLeavesNothing
empty = cut-empty

-- the cut and the grammar: a part's boxes fill its text and have the types that the grammar requires, if the walk implies these
filled-text : (p : Part) (bytes : List ℕ) (Kinds : List ℕ → Type 0) → ((kinds : List ℕ) → walks p false kinds ≡ true → Kinds kinds)
    → stream_cut bytes ≡ record { parts = p ∷ []; left = Nothing } → bytes_of p ≡ bytes → FilledBy Kinds bytes × (length bytes ≤ limit_of_part p)
filled-text p bytes Kinds kinds is whole =
    let one = one_part p bytes is whole in
    ((one.0, one.1, kinds (kinds_of one.0) one.2), one.3)

-- a text that is exactly one init section by the cut is an init section by the grammar
init-text : (bytes : List ℕ) → IsInitPart bytes → IsInitText bytes
init-text bytes is = filled-text (parts.Init bytes) bytes InitKinds ends_init-kinds is refl

-- a text that is an init section by the grammar is exactly one by the cut
text-init : (bytes : List ℕ) → IsInitText bytes → IsInitPart bytes
text-init bytes is = whole_part (parts.Init bytes) bytes is.0.0 is.0.1 (kinds-ends_init (kinds_of is.0.0) is.0.2) is.1

-- a text that is exactly one unit by the cut is a unit by the grammar
unit-text : (bytes : List ℕ) → IsUnitPart bytes → IsUnitText bytes
unit-text bytes is = filled-text (parts.Unit bytes) bytes UnitKinds has_unit-kinds is refl

-- a text that is a unit by the grammar is exactly one by the cut
text-unit : (bytes : List ℕ) → IsUnitText bytes → IsUnitPart bytes
text-unit bytes is = whole_part (parts.Unit bytes) bytes is.0.0 is.0.1 (kinds-has_unit (kinds_of is.0.0) is.0.2) is.1

-- a text is exactly one init section by the cut if and only if it is one by the grammar
pub inits : InitsMatchGrammar
inits bytes = (init-text bytes, text-init bytes)

-- a text is exactly one unit by the cut if and only if it is one by the grammar
pub units : UnitsMatchGrammar
units bytes = (unit-text bytes, text-unit bytes)

-- a part that is on its own exactly one part is a part by the grammar
part-text : (part : Part) → stream_cut (bytes_of part) ≡ record { parts = part ∷ []; left = Nothing } → IsPartText part
part-text (parts.Init bytes) is = init-text bytes is
part-text (parts.Unit bytes) is = unit-text bytes is

-- a part by the grammar is on its own exactly one part
text-part : (part : Part) → IsPartText part → stream_cut (bytes_of part) ≡ record { parts = part ∷ []; left = Nothing }
text-part (parts.Init bytes) is = text-init bytes is
text-part (parts.Unit bytes) is = text-unit bytes is

-- the first part of a text by the cut is its prefix that is a part by the grammar
pub firsts : FirstPartMatchesGrammar
firsts bytes part = (
  λ found.
      let f = first_of bytes part found.0 found.1 in
      (f.behind, f.split ∙ ap (λ (xs : List ℕ). xs ++ f.behind) (sym f.bytes), part-text part (first-alone bytes part f)),
  λ known.
      let goes = (one (bytes_of part) part (text-part part known.2)).1 known.0 in
      ((stream_cut known.0).parts, ap (λ (xs : List ℕ). (stream_cut xs).parts) known.1 ∙ ap (λ (c : StreamCut). c.parts) goes),
)

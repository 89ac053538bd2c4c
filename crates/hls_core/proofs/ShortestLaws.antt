-- Both laws, from those of the cut.
use Rattle.std.proofs.Common.{◌≡◌, ℕ, Bool, true, false, List, [], ◌∷◌, ◌++◌, length, take, drop, refl, sym, ap, ◌∙◌, arith, append-nil, None}
use Rattle.std.proofs.lemmas.List.{take-append-drop}
use Rattle.std.proofs.Math.Seq.{take-length}
use Rattle.std.specs.Option.{is_some}
use Rattle.hls_boxes.specs.declared.part.Part.{Part}
use Rattle.hls_boxes.specs.declared.fault.BoxFault.{BoxFault}
use Rattle.hls_boxes.specs.Parts.{Remainder, Nothing, Boxes, CutShort, Refused, StreamCut, bytes_of, stream_cut, text_fault, fault_of_rest}
use Rattle.hls_boxes.proofs.Callers.{in_order, stay}
use Rattle.hls_core.specs.Shortest.{ShortestPartExists, ShortestFaultExists}
use Rattle.hls_core.proofs.Least.{least, shortest}

-- the parts of a text
abbrev parts_of : List ℕ → List Part
parts_of x = (stream_cut x).parts

-- these parts of a text stay the first parts, whatever follows
grows_by : (ps : List Part) (x more : List ℕ) → parts_of x ≡ ps → (later : List Part) × (parts_of (x ++ more) ≡ ps ++ later)
grows_by [] x more is = (parts_of (x ++ more), refl)
grows_by (p ∷ ps) x more is =
    let rest = drop (length (bytes_of p)) x in
    let none : parts_of x ≡ p ∷ parts_of rest =
    ap parts_of (sym (append-nil x)) ∙ ap (λ (c : StreamCut). c.parts) (in_order x p ps is []) ∙ ap (λ (t : List ℕ). p ∷ parts_of t) (append-nil rest) in
    let after_content : parts_of rest ≡ ps = let same : p ∷ parts_of rest ≡ p ∷ ps = sym none ∙ is in cc in
    let later = grows_by ps rest more after_content in
    (later.0, ap (λ (c : StreamCut). c.parts) (in_order x p ps is more) ∙ ap (λ (t : List Part). p ∷ t) later.1)

-- the parts of a text are the first parts of each text that begins with it
pub grows : (x more : List ℕ) → (later : List Part) × (parts_of (x ++ more) ≡ parts_of x ++ later)
grows x more = grows_by (parts_of x) x more refl

-- if a content shows a part after others, there is a shortest prefix of the content that shows it
pub shortest_part : ShortestPartExists
shortest_part content taken others part is =
    let x = shortest parts_of grows content taken others part is in
    (x.size, record { within = x.within; others = x.others; shows = x.shows; none = x.none })

-- the first k bytes of a content show the fault of a box
abbrev has_fault : List ℕ → ℕ → Bool
has_fault content k = is_some (text_fault (take k content))

-- a remainder that shows a fault is one that was refused for it
refused_at : (left : Remainder) → is_some (fault_of_rest left) ≡ true → (fault : BoxFault) × (left ≡ Refused fault)
refused_at Nothing is = absurd (cc)
refused_at (Boxes has_moof) is = absurd (cc)
refused_at CutShort is = absurd (cc)
refused_at (Refused fault) is = (fault, refl)

none_at : (left : Remainder) → is_some (fault_of_rest left) ≡ false → fault_of_rest left ≡ None
none_at Nothing is = refl
none_at (Boxes has_moof) is = refl
none_at CutShort is = refl
none_at (Refused fault) is = absurd (cc)

-- if a content shows the fault of a box, there is a shortest prefix of the content that shows it
pub shortest_fault : ShortestFaultExists
shortest_fault content fault is =
    let whole : take (length content) content ≡ content = take-length content in
    let shown : has_fault content (length content) ≡ true =
    ap (λ (t : List ℕ). is_some (text_fault t)) whole ∙ ap (λ (l : Remainder). is_some (fault_of_rest l)) is in
    let found = least (has_fault content) (length content) shown in
    let at = refused_at (stream_cut (take found.0 content)).left found.2 in
    let same = stay (take found.0 content) (drop found.0 content) at.0 at.1 in (
      found.0,
      record {
        within = omega (arith, found.1);
        shows = sym same ∙ ap stream_cut (take-append-drop found.0 content);
        none = λ j low. none_at (stream_cut (take j content)).left (found.3 j low);
      },
    )

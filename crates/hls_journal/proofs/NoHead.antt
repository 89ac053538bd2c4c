-- The search for a head passes none.
use Rattle.std.proofs.Common.{◌≡◌, ◌∙◌, ℕ, ◌+◌, ◌-◌, ◌≤◌, ◌==◌, true, Option, Some, None, List, [], ◌∷◌, ◌++◌, length, take, drop, refl, sym, ap, subst, arith, append_assoc, length-append, length-drop}
use Rattle.std.proofs.lemmas.List.{drop_at, drop-drop, take_all}
use Rattle.hls_boxes.specs.declared.box_header.BoxHeader.{BoxHeader}
use Rattle.hls_boxes.specs.Kinds.{mdat_type}
use Rattle.hls_boxes.specs.Boxes.{header_at, Child, children}
use Rattle.hls_boxes.proofs.Callers.{header_at-append, header_at-within}
use Rattle.hls_journal_laws.specs.Heads.{IsHead}
use Rattle.hls_journal_laws.proofs.Boxes.{FirstOf, first_of, no_children}
use Rattle.hls_journal.specs.Heads.{HasNoHead}
use Rattle.hls_journal.proofs.HeadSearch.{AreBoxes, no_boxes, one_more_box}

-- a text is whole boxes, the header of an `mdat`, and its content, which ends the text
pub record HeadIn (text : List ℕ) : Type 0 where
  front : List ℕ
  boxes : List Child
  last : List ℕ
  rest : List ℕ
  header : BoxHeader
  split : text ≡ front ++ (last ++ rest)
  filled : children front ≡ Some boxes
  begins : header_at last ≡ Some header
  is_mdat : (header.kind == mdat_type) ≡ true
  fits : header.head ≤ header.size
  ends : length last + length rest ≡ header.size

-- a unit that begins with a head is such a text
head_in : (unit head rest : List ℕ) → unit ≡ head ++ rest → IsHead head (length rest) → HeadIn unit
head_in unit head rest split is =
    record {
      front = is.front;
      boxes = is.boxes;
      last = is.last;
      rest = rest;
      header = is.header;
      split = split ∙ ap (λ t. t ++ rest) is.split ∙ append_assoc is.front is.last rest;
      filled = is.filled;
      begins = is.begins;
      is_mdat = is.is_mdat;
      fits = is.fits;
      ends = is.ends;
    }

-- a text begins with the header of an `mdat` that ends it
record AtLast (text : List ℕ) (header : BoxHeader) : Type 0 where
  read : header_at text ≡ Some header
  is_mdat : (header.kind == mdat_type) ≡ true
  fits : header.head ≤ header.size
  whole : header.size ≡ length text

-- if no box precedes the `mdat`, the text begins with its header, and it ends the text
at_last : (text : List ℕ) (has : HeadIn text) → has.front ≡ [] → AtLast text has.header
at_last text has none =
    let split : text ≡ has.last ++ has.rest = has.split ∙ ap (λ t. t ++ (has.last ++ has.rest)) none in
    record {
      read = ap (λ t. header_at t) split ∙ header_at-append has.last has.rest has.header has.begins;
      is_mdat = has.is_mdat;
      fits = has.fits;
      whole = omega (arith, has.ends, ap length split, length-append has.last has.rest);
    }

-- a text begins with a whole box, after which such a text follows
record AtBox (text : List ℕ) (header : BoxHeader) : Type 0 where
  read : header_at text ≡ Some header
  fits : header.head ≤ header.size
  within : header.size ≤ length text
  more : HeadIn (drop header.size text)

-- if a box precedes the `mdat`, the text begins with it
at_box : (text : List ℕ) (has : HeadIn text) (b : Child) (more : List Child) → (first : FirstOf has.front b more) → AtBox text first.header
at_box text has b more first =
    let split : text ≡ first.box ++ (first.behind ++ (has.last ++ has.rest)) =
    has.split ∙ ap (λ t. t ++ (has.last ++ has.rest)) first.split ∙ append_assoc first.box first.behind (has.last ++ has.rest) in
    let whole : length first.box ≡ (first.header).size = (first.one).whole in
    record {
      read = ap (λ t. header_at t) split ∙ header_at-append first.box (first.behind ++ (has.last ++ has.rest)) first.header (first.one).header;
      fits = first.fits;
      within = omega (arith, whole, ap length split, length-append first.box (first.behind ++ (has.last ++ has.rest)));
      more = record {
        front = first.behind;
        boxes = more;
        last = has.last;
        rest = has.rest;
        header = has.header;
        split = ap (λ t. drop (first.header).size t) split ∙ drop_at first.box (first.behind ++ (has.last ++ has.rest)) (first.header).size whole;
        filled = first.filled;
        begins = has.begins;
        is_mdat = has.is_mdat;
        fits = has.fits;
        ends = has.ends;
      };
    }

-- a text begins with a whole box, and unless that is the last `mdat`, the rest has a head
record FirstHeader (text : List ℕ) : Type 0 where
  header : BoxHeader
  read : header_at text ≡ Some header
  fits : header.head ≤ header.size
  within : header.size ≤ length text
  next : ((header.kind == mdat_type) ≡ true → header.size ≡ length text → ⊥) → HeadIn (drop header.size text)

-- a text with a head begins with a whole box: the first of those before the `mdat`, or the `mdat`
by_boxes : (text : List ℕ) (has : HeadIn text) (boxes : List Child) → children has.front ≡ Some boxes → FirstHeader text
by_boxes text has [] filled =
    let last = at_last text has (no_children has.front filled) in
    record { header = has.header; read = last.read; fits = last.fits; within = omega (arith, last.whole); next = λ other. absurd (other last.is_mdat last.whole) }
by_boxes text has (b ∷ more) filled =
    let first = first_of has.front b more filled in
    let box = at_box text has b more first in
    record { header = first.header; read = box.read; fits = box.fits; within = box.within; next = λ other. box.more }

-- a text with a head begins with a whole box, and unless that is the last `mdat`, the rest has a head
first_header : (text : List ℕ) → HeadIn text → FirstHeader text
first_header text has = by_boxes text has has.boxes has.filled

-- a text has only one header
same_header : (h k : BoxHeader) (o : Option BoxHeader) → o ≡ Some h → o ≡ Some k → h ≡ k
same_header h k o one two = cc

-- the search for a head is at this place: whole boxes precede it, and if the unit has a head, the `mdat` is in the rest
pub record Searches (unit : List ℕ) (at : ℕ) : Type 0 where
  pub boxes : AreBoxes unit at
  pub ahead : HeadIn unit → HeadIn (drop at unit)

-- the search begins at the start of the unit
pub search_begins : (unit : List ℕ) → Searches unit 0
search_begins unit = record { boxes = no_boxes unit; ahead = λ has. has }

-- taking all bytes that are left takes the rest
pub rest_is : (unit : List ℕ) (at : ℕ) → take (length unit - at) (drop at unit) ≡ drop at unit
rest_is unit at = take_all (length unit - at) (drop at unit) (omega (arith, length-drop at unit))

-- after a whole box that isn't an `mdat` up to the unit's end, the search continues at the box's end
pub search_passes : (unit seen : List ℕ) (at : ℕ) (h : BoxHeader) → seen ≡ take (length unit - at) (drop at unit) → Searches unit at → header_at seen ≡ Some h → h.head ≤ h.size → h.size ≤ length seen
    → ((h.kind == mdat_type) ≡ true → h.size ≡ length seen → ⊥) → Searches unit (at + h.size)
search_passes unit seen at h seen_is so_far read fits within other =
    let same : seen ≡ drop at unit = seen_is ∙ rest_is unit at in
    let read_there : header_at (drop at unit) ≡ Some h = ap (λ t. header_at t) (sym same) ∙ read in
    let room : h.size ≤ length (drop at unit) = omega (arith, within, ap length same) in
    record {
      boxes = one_more_box unit at h.size h so_far.boxes read_there refl fits room;
      ahead = λ has.
          let first = first_header (drop at unit) (so_far.ahead has) in
          let is : first.header ≡ h = same_header first.header h (header_at (drop at unit)) first.read read_there in
          let next = first.next (λ kind size. other (ap (λ (k : BoxHeader). k.kind == mdat_type) (sym is) ∙ kind) (ap (λ (k : BoxHeader). k.size) (sym is) ∙ size ∙ ap length (sym same))) in
          subst (λ (t : List ℕ). HeadIn t) (ap (λ (k : BoxHeader). drop k.size (drop at unit)) is ∙ drop-drop h.size at unit) next;
    }

-- if no box header is at the place of the search, the unit has no head
pub no_header : (unit seen : List ℕ) (at : ℕ) → seen ≡ take (length unit - at) (drop at unit) → Searches unit at → header_at seen ≡ None → HasNoHead unit
no_header unit seen at seen_is so_far none head rest split is =
    let same : seen ≡ drop at unit = seen_is ∙ rest_is unit at in
    let first = first_header (drop at unit) (so_far.ahead (head_in unit head rest split is)) in
    let both : None ≡ Some first.header = sym none ∙ ap (λ t. header_at t) same ∙ first.read in
    absurd (cc)

-- if the header at the place of the search is of a box that isn't whole, the unit has no head
pub no_box_there : (unit seen : List ℕ) (at : ℕ) (h : BoxHeader) → seen ≡ take (length unit - at) (drop at unit) → Searches unit at → header_at seen ≡ Some h
    → (h.head ≤ h.size → h.size ≤ length seen → ⊥) → HasNoHead unit
no_box_there unit seen at h seen_is so_far read broken head rest split is =
    let same : seen ≡ drop at unit = seen_is ∙ rest_is unit at in
    let first = first_header (drop at unit) (so_far.ahead (head_in unit head rest split is)) in
    let there : first.header ≡ h = same_header first.header h (header_at (drop at unit)) first.read (ap (λ t. header_at t) (sym same) ∙ read) in
    broken (subst (λ (k : BoxHeader). k.head ≤ k.size) there first.fits) (omega (arith, subst (λ (k : BoxHeader). k.size ≤ length (drop at unit)) there first.within, ap length same))

-- if the search has come to the unit's end, the unit has no head
pub no_more : (unit : List ℕ) (at : ℕ) → Searches unit at → length unit ≤ at → HasNoHead unit
no_more unit at so_far past head rest split is =
    let first = first_header (drop at unit) (so_far.ahead (head_in unit head rest split is)) in
    let long = header_at-within (drop at unit) first.header first.read in
    omega (arith, long.0, long.1, length-drop at unit, past)

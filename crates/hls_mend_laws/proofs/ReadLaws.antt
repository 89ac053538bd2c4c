-- A unit whose fragment is read has the facts of that fragment.
use Rattle.std.proofs.Common.{◌≡◌, ◌∙◌, ℕ, zero, suc, ◌+◌, ◌<◌, ◌≤◌, ◌==◌, nat_lt, nat_le, ◌&&◌, ◌||◌, true, false, Option, Some, None, option_map, option_and_then, List, [], ◌∷◌, ◌++◌, length, take, drop, refl, sym, ap, subst, inl, inr, arith}
use Rattle.std.specs.Prelude.{slice_range}
use Rattle.std.proofs.lemmas.Bool.{cases_Bool, or_parts, and_parts, eqb-true, ltb-false}
use Rattle.std.proofs.lemmas.List.{length-take-le, take-append-drop}
use Rattle.std.proofs.lemmas.List.Elements.{All-cons}
use Rattle.hls_boxes.specs.declared.box_header.BoxHeader.{BoxHeader}
use Rattle.hls_boxes.specs.Boxes.{header_at, box_at, whole_box_header, child_of, children}
use Rattle.hls_boxes.specs.Kinds.{moov_type, moof_type, mdat_type}
use Rattle.hls_boxes.proofs.Callers.{children-step, children-empty, header_at-front, header_at-within}
use Rattle.hls_media_laws.specs.Kinds.{traf_type, tfhd_type, tfdt_type, trun_type}
use Rattle.hls_media_laws.specs.Fields.{tfhd_fits, tfdt_fits, trun_fits}
use Rattle.hls_media_laws.specs.Layout.{Layout, layout_of_boxes}
use Rattle.hls_media_laws.specs.Trafs.{Traf, traf_at, trafs_of}
use Rattle.hls_mend_laws.specs.Fragments.{mfhd_type, IsLooseBox, AreLooseBoxes}
use Rattle.hls_mend_laws.specs.FragmentsRead.{sidx_type, Split, split_at, split_box, last_content, only_box, Front, front_after, front_within, front_of, TrafParts, with_time, with_run, traf_parts, MoofParts, with_number, with_traf, moof_parts, UnitParts, with_payload, with_moof, unit_parts, traf_fits}
use Rattle.hls_mend_laws.proofs.FragmentLaws.{skip-mapped}
use Rattle.hls_mend_laws.proofs.Options.{and-then, mapped, if-so}

-- ---- boxes one after another

-- the bytes begin with a complete box that has this header
pub record Whole (bytes : List ℕ) (h : BoxHeader) : Type 0 where
  pub starts : header_at bytes ≡ Some h
  pub fits : h.head ≤ h.size
  pub within : h.size ≤ length bytes

-- a header that is accepted was read, and its size is at least its own length and at most `len`
whole-by : (len : ℕ) (o : Option BoxHeader) (h : BoxHeader) → whole_box_header len o ≡ Some h → (o ≡ Some h) × (h.head ≤ h.size) × (h.size ≤ len)
whole-by len None h is = absurd (cc)
whole-by len (Some k) h is =
    elim (cases_Bool (nat_lt k.size k.head || nat_lt len k.size)) [
      | inl e ↦ (let none : None ≡ Some h = rw e at is in absurd (cc))
      | inr e ↦
          let some : Some k ≡ Some h = rw e at is in
          let same : k ≡ h = cc in
          let low = ltb-false k.size k.head (or_parts _ _ e).0 in
          let high = ltb-false len k.size (or_parts _ _ e).1 in
          (some, subst (λ (x : BoxHeader). x.head ≤ x.size) same low, subst (λ (x : BoxHeader). x.size ≤ len) same high)
    ]

-- a box that is found at the start of bytes is complete
pub whole-of : (bytes : List ℕ) (h : BoxHeader) → box_at bytes ≡ Some h → Whole bytes h
unfolding box_at
whole-of bytes h is = let w = whole-by (length bytes) (header_at bytes) h is in record { starts = w.0; fits = w.1; within = w.2 }

-- bytes that begin with a complete box aren't empty
pub some-bytes : (bytes : List ℕ) (h : BoxHeader) → Whole bytes h → 0 < length bytes
some-bytes bytes h w = let within = header_at-within bytes h w.starts in omega (arith, within.0, within.1)

-- the boxes of the bytes are one of this type with the split's content, and then the boxes of its rest
record IsSplit (kind : ℕ) (bytes : List ℕ) (s : Split) : Type 0 where
  head : ℕ
  boxes : children bytes ≡ option_map (λ more. record { kind = kind; head = head; content = s.content } ∷ more) (children s.rest)

-- the same by the header that is found: if a box of this type is split off, the bytes are that box and those of its rest
split-by : (kind : ℕ) (bytes : List ℕ) (s : Split) (o : Option BoxHeader) → box_at bytes ≡ o → split_at kind bytes o ≡ Some s → IsSplit kind bytes s
split-by kind bytes s None found is = absurd (cc)
split-by kind bytes s (Some h) found is =
    elim (cases_Bool (h.kind == kind)) [
      | inr e ↦ (let none : None ≡ Some s = rw e at is in absurd (cc))
      | inl e ↦
          let some : Some (record { content = slice_range bytes h.head h.size; rest = drop h.size bytes }) ≡ Some s = rw e at is in
          let same : record { content = slice_range bytes h.head h.size; rest = drop h.size bytes } ≡ s = cc in
          let kind_is : h.kind ≡ kind = eqb-true h.kind kind e in
          let step : children bytes ≡ option_map (λ more. child_of h bytes ∷ more) (children (drop h.size bytes)) =
          children-step bytes (some-bytes bytes h (whole-of bytes h found)) ∙ rw found refl in
          subst (IsSplit kind bytes) same
          (record {
            head = h.head;
            boxes = step ∙ ap (λ k. option_map (λ more. record { kind = k; head = h.head; content = slice_range bytes h.head h.size } ∷ more) (children (drop h.size bytes))) kind_is;
          })
    ]

-- if a box of this type can be split off, the bytes are that box and the boxes of its rest
split : (kind : ℕ) (bytes : List ℕ) (s : Split) → split_box kind bytes ≡ Some s → IsSplit kind bytes s
unfolding split_box
split kind bytes s is = split-by kind bytes s (box_at bytes) refl is

-- the bytes are exactly one box of this type with this content
record IsOnly (kind : ℕ) (bytes content : List ℕ) : Type 0 where
  head : ℕ
  boxes : children bytes ≡ Some (record { kind = kind; head = head; content = content } ∷ [])

empty-of : (bytes : List ℕ) → (length bytes == 0) ≡ true → bytes ≡ []
empty-of [] is = refl
empty-of (b ∷ bytes) is = absurd (omega (arith, eqb-true (length (b ∷ bytes)) 0 is))

-- if a box was split off and nothing follows it, the bytes are exactly that box
only-by : (kind : ℕ) (bytes content : List ℕ) (o : Option Split) → split_box kind bytes ≡ o → last_content o ≡ Some content → IsOnly kind bytes content
only-by kind bytes content None found is = absurd (cc)
only-by kind bytes content (Some s) found is =
    elim (cases_Bool (length s.rest == 0)) [
      | inr e ↦ (let none : None ≡ Some content = rw e at is in absurd (cc))
      | inl e ↦
          let some : Some s.content ≡ Some content = rw e at is in
          let same : s.content ≡ content = cc in
          let one = split kind bytes s found in
          let none : s.rest ≡ [] = empty-of s.rest e in
          let last : children s.rest ≡ Some [] = ap (λ t. children t) none ∙ children-empty in
          subst (IsOnly kind bytes) same (record { head = one.head; boxes = one.boxes ∙ rw last refl })
    ]

-- bytes from which this content is read as that of the only box are exactly one such box
only : (kind : ℕ) (bytes content : List ℕ) → only_box kind bytes ≡ Some content → IsOnly kind bytes content
unfolding only_box
only kind bytes content is = only-by kind bytes content (split_box kind bytes) refl is

-- ---- the traf, the moof and the unit

-- the `traf` that has these parts
abbrev pub traf_of_parts : TrafParts → Traf
traf_of_parts p = record { head = p.head; time = Some p.time; runs = p.run ∷ [] }

-- a `traf` whose parts are read and fit is valid, and has exactly these parts
traf-read : (traf : List ℕ) (p : TrafParts) → traf_parts traf ≡ Some p → traf_fits p ≡ true → traf_at traf ≡ Some (traf_of_parts p)
unfolding traf_parts traf_at
traf-read traf p is fits =
    let h = and-then with_time (split_box tfhd_type traf) p is in
    let t = and-then (with_run h.x.content) (split_box tfdt_type h.x.rest) p h.then in
    let r = mapped (λ (run : List ℕ). record { head = h.x.content; time = t.x.content; run = run }) (only_box trun_type t.x.rest) p t.then in
    let head = split tfhd_type traf h.x h.is in
    let time = split tfdt_type h.x.rest t.x t.is in
    let run = only trun_type t.x.rest r.x r.is in
    let all : children traf ≡ Some (record { kind = tfhd_type; head = head.head; content = h.x.content } ∷ record { kind = tfdt_type; head = time.head; content = t.x.content } ∷ record { kind = trun_type; head = run.head; content = r.x } ∷ []) =
    head.boxes ∙ rw (time.boxes, run.boxes) refl in
    let fits' : traf_fits (record { head = h.x.content; time = t.x.content; run = r.x }) ≡ true = subst (λ (q : TrafParts). traf_fits q ≡ true) (sym r.then) fits in
    let parts = and_parts (tfhd_fits h.x.content) (tfdt_fits t.x.content && trun_fits r.x) fits' in
    let last = and_parts (tfdt_fits t.x.content) (trun_fits r.x) parts.1 in
    rw all (rw (parts.0, last.0, last.1) (ap (λ (q : TrafParts). Some (traf_of_parts q)) r.then))

-- if the fields of its `traf` fit, a `moof` has exactly that one `traf`
record IsMoof (moof : List ℕ) (m : MoofParts) : Type 0 where
  trafs : traf_fits m.traf ≡ true → trafs_of moof ≡ Some (traf_of_parts m.traf ∷ [])

-- reading the sequence number of a `moof` doesn't change the parts of its `traf`
number-kept : (mfhd : List ℕ) (t : TrafParts) (m : MoofParts) → with_number mfhd t ≡ Some m → t ≡ m.traf
number-kept mfhd t m is = ap (λ (x : MoofParts). x.traf) (if-so (nat_le 8 (length mfhd)) _ m is).1

-- a `moof` whose parts are read has exactly their one `traf`, if the fields of that fit
moof-read : (moof : List ℕ) (m : MoofParts) → moof_parts moof ≡ Some m → IsMoof moof m
unfolding moof_parts trafs_of
moof-read moof m is =
    let h = and-then with_traf (split_box mfhd_type moof) m is in
    let n = and-then (with_number h.x.content) (option_and_then traf_parts (only_box traf_type h.x.rest)) m h.then in
    let p = and-then traf_parts (only_box traf_type h.x.rest) n.x n.is in
    let mfhd = split mfhd_type moof h.x h.is in
    let traf = only traf_type h.x.rest p.x p.is in
    let all : children moof ≡ Some (record { kind = mfhd_type; head = mfhd.head; content = h.x.content } ∷ record { kind = traf_type; head = traf.head; content = p.x } ∷ []) =
    mfhd.boxes ∙ rw traf.boxes refl in
    let same : n.x ≡ m.traf = number-kept h.x.content n.x m n.then in
    record {
      trafs = λ fits.
          let read = traf-read p.x n.x p.then (subst (λ (q : TrafParts). traf_fits q ≡ true) (sym same) fits) in
          rw all (rw read (ap (λ (q : TrafParts). Some (traf_of_parts q ∷ [])) same));
    }

-- ---- the boxes before the moof

-- what is kept of the front is loose boxes, and the layout of the bytes is that of the rest
record IsFront (bytes : List ℕ) (f : Front) : Type 0 where
  layout : option_and_then layout_of_boxes (children bytes) ≡ option_and_then layout_of_boxes (children f.rest)
  loose : AreLooseBoxes f.kept

-- an empty front before the same bytes
front-here : (bytes : List ℕ) → IsFront bytes (record { kept = []; rest = bytes })
front-here bytes = record { layout = refl; loose = record { boxes = []; each = λ k d low. absurd (omega (arith, low)); joined = refl } }

-- the header of a box that isn't `moof`, `moov` or `mdat`
record IsLooseHeader (h : BoxHeader) : Type 0 where
  moof : (h.kind == moof_type) ≡ false
  moov : (h.kind == moov_type) ≡ false
  mdat : (h.kind == mdat_type) ≡ false

-- a loose box at the start of bytes doesn't change the layout of those after it
front-skip : (bytes : List ℕ) (h : BoxHeader) → box_at bytes ≡ Some h → IsLooseHeader h
    → option_and_then layout_of_boxes (children bytes) ≡ option_and_then layout_of_boxes (children (drop h.size bytes))
front-skip bytes h found loose =
    ap (option_and_then layout_of_boxes) (children-step bytes (some-bytes bytes h (whole-of bytes h found)))
    ∙ rw found (skip-mapped (child_of h bytes) (children (drop h.size bytes)) loose.moof loose.mdat loose.moov)

-- the bytes of a complete box with such a header are a loose box
loose-box : (bytes : List ℕ) (h : BoxHeader) → box_at bytes ≡ Some h → IsLooseHeader h → IsLooseBox (take h.size bytes)
loose-box bytes h found loose =
    let w = whole-of bytes h found in
    let long : length (take h.size bytes) ≡ h.size = length-take-le h.size bytes w.within in
    let split : take h.size bytes ++ drop h.size bytes ≡ bytes = take-append-drop h.size bytes in
    record {
      header = h;
      starts = header_at-front (take h.size bytes) (drop h.size bytes) h (rw split w.starts) (omega (arith, w.fits, long));
      fits = w.fits;
      whole = long;
      not_moov = loose.moov;
      not_moof = loose.moof;
      not_mdat = loose.mdat;
    }

-- a loose box and the front of the bytes after it are a front of the bytes from that box on
front-more : (bytes : List ℕ) (h : BoxHeader) (f : Front) → box_at bytes ≡ Some h → IsLooseHeader h → IsFront (drop h.size bytes) f
    → IsFront bytes (record { kept = take h.size bytes ++ f.kept; rest = f.rest })
front-more bytes h f found loose is = record {
  layout = front-skip bytes h found loose ∙ is.layout;
  loose = record {
    boxes = take h.size bytes ∷ is.loose.boxes;
    each = All-cons IsLooseBox (take h.size bytes) is.loose.boxes (loose-box bytes h found loose) is.loose.each;
    joined = ap (λ t. take h.size bytes ++ t) is.loose.joined;
  };
}

-- if the reader of the other boxes only finds fronts of loose boxes that keep the layout, so does the reader of one box more
front-by : (others : List ℕ → Option Front) (bytes : List ℕ) (f : Front) (o : Option BoxHeader) → box_at bytes ≡ o
    → ((rest : List ℕ) (g : Front) → others rest ≡ Some g → IsFront rest g) → front_after others bytes o ≡ Some f → IsFront bytes f
front-by others bytes f None found more is = absurd (cc)
front-by others bytes f (Some h) found more is =
    elim (cases_Bool (h.kind == moof_type)) [
      | inl e ↦
          let here : Some (record { kept = []; rest = bytes }) ≡ Some f = rw e at is in
          let same : record { kept = []; rest = bytes } ≡ f = cc in
          subst (IsFront bytes) same (front-here bytes)
      | inr not_moof ↦ elim (cases_Bool (h.kind == moov_type || h.kind == mdat_type)) [
        | inl e ↦ (let none : None ≡ Some f = rw (not_moof, e) at is in absurd (cc))
        | inr other ↦
            let loose : IsLooseHeader h = record { moof = not_moof; moov = (or_parts _ _ other).0; mdat = (or_parts _ _ other).1 } in
            elim (cases_Bool (h.kind == sidx_type)) [
              | inl e ↦
                  let rest : others (drop h.size bytes) ≡ Some f = rw (not_moof, other, e) at is in
                  let it = more (drop h.size bytes) f rest in
                  record { layout = front-skip bytes h found loose ∙ it.layout; loose = it.loose }
              | inr e ↦
                  let rest : option_map (λ (g : Front). record { kept = take h.size bytes ++ g.kept; rest = g.rest }) (others (drop h.size bytes)) ≡ Some f = rw (not_moof, other, e) at is in
                  let m = mapped (λ (g : Front). record { kept = take h.size bytes ++ g.kept; rest = g.rest }) (others (drop h.size bytes)) f rest in
                  subst (IsFront bytes) m.then (front-more bytes h m.x found loose (more (drop h.size bytes) m.x m.is))
            ]
      ]
    ]

-- a front that is found within a bound consists of loose boxes and leaves the layout as it is
front-within : (most : ℕ) (bytes : List ℕ) (f : Front) → front_within most bytes ≡ Some f → IsFront bytes f
unfolding front_within
front-within zero bytes f is = absurd (cc)
front-within (suc most) bytes f is = front-by (front_within most) bytes f (box_at bytes) refl (front-within most) is

-- the front that is found of a unit consists of loose boxes and leaves the layout as it is
front : (unit : List ℕ) (f : Front) → front_of unit ≡ Some f → IsFront unit f
unfolding front_of
front unit f is = front-within (suc (length unit)) unit f is

-- ---- the whole unit

-- a unit whose parts were read has a layout, its `moof` has exactly their one `traf` if that fits, and its front is loose boxes
pub record IsRead (unit : List ℕ) (u : UnitParts) : Type 0 where
  pub layout : Layout
  pub laid : option_and_then layout_of_boxes (children unit) ≡ Some layout
  pub trafs : traf_fits u.moof.traf ≡ true → trafs_of layout.moof ≡ Some (traf_of_parts u.moof.traf ∷ [])
  pub loose : AreLooseBoxes u.front

-- a unit whose parts are read has a layout with their one `traf`, and only loose boxes before its `moof`
pub unit-read : (unit : List ℕ) (u : UnitParts) → unit_parts unit ≡ Some u → IsRead unit u
unfolding unit_parts
unit-read unit u is =
    let f = and-then with_moof (front_of unit) u is in
    let s = and-then (with_payload f.x) (split_box moof_type f.x.rest) u f.then in
    let m = and-then (λ (m : MoofParts). option_map (λ (payload : List ℕ). record { front = f.x.kept; moof = m; payload = payload }) (only_box mdat_type s.x.rest)) (moof_parts s.x.content) u s.then in
    let p = mapped (λ (payload : List ℕ). record { front = f.x.kept; moof = m.x; payload = payload }) (only_box mdat_type s.x.rest) u m.then in
    let before = front unit f.x f.is in
    let moof = split moof_type f.x.rest s.x s.is in
    let mdat = only mdat_type s.x.rest p.x p.is in
    let inside = moof-read s.x.content m.x m.is in
    let low = (moof.head + length s.x.content) + mdat.head in
    let layout : Layout = record { moof = s.x.content; low = low; high = (moof.head + length s.x.content) + (mdat.head + length p.x) } in
    let read : IsRead unit (record { front = f.x.kept; moof = m.x; payload = p.x }) = record {
      layout = layout;
      laid = before.layout ∙ rw (moof.boxes, mdat.boxes) refl;
      trafs = inside.trafs;
      loose = before.loose;
    } in
    subst (IsRead unit) p.then read

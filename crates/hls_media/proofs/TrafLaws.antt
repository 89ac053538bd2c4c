-- A walk over the boxes of a `traf` gives the same as its two lists of boxes that may occur once.
use Rattle.std.proofs.Common.{slice_get, arith, ◌≡◌, ℕ, ◌==◌, nat_le, false, cond, ◌&&◌, inl, inr, List, [], ◌∷◌, length, Option, Some, None, is_some, option_and_then, option_map, refl, sym, ◌∙◌, ap}
use Rattle.std.specs.List.{list_all}
use Rattle.std.proofs.lemmas.Bool.{cases_Bool, eqb-true, lt-leb, ne_eqb}
use Rattle.hls_boxes.specs.Boxes.{Child, children, contents_of_type}
use Rattle.hls_media_laws.specs.Kinds.{tfhd_type, tfdt_type}
use Rattle.hls_media_laws.specs.Fields.{tfhd_fits, tfdt_fits}
use Rattle.hls_media.specs.declared.tfhd.Tfhd.{Tfhd}
use Rattle.hls_media.specs.declared.traf_header.TrafHeader.{TrafHeader}
use Rattle.hls_media.specs.declared.traf_header.PartialTrafHeader.{PartialTrafHeader}
use Rattle.hls_media.specs.Boxes.{tfhd_fields, tfhd_of, tfdt_of}
use Rattle.hls_media.specs.Folds.{fold_boxes, fold_content}
use Rattle.hls_media.specs.TrafHeaders.{header_step, no_header, finished_header, header_with, header_from, header_of_boxes, header_of_traf}

-- the value of the only box of a type, or none if there is no such box; it fails for an invalid box and for a second one,
-- also after one that was seen before
settle : {A : Type 0} → (List ℕ → Option A) → Option A → List (List ℕ) → Option (Option A)
settle keep seen [] = Some seen
settle keep seen (x ∷ xs) = cond (is_some seen) None (option_and_then (λ v. settle keep (Some v) xs) (keep x))

-- the header of a `tfhd` and a `tfdt`, each failed, absent or there
combined : Option (Option Tfhd) → Option (Option ℕ) → Option TrafHeader
combined None times = None
combined (Some h) None = None
combined (Some h) (Some t) = finished_header (record { head = h; time = t })

-- if reading the `tfdt` boxes failed, there is no header
no_times : (heads : Option (Option Tfhd)) → combined heads None ≡ None
unfolding combined
no_times None = refl
no_times (Some h) = refl

-- the kept fields of the only `tfhd` of these boxes, given one that was seen before
heads_in : Option Tfhd → List Child → Option (Option Tfhd)
heads_in seen cs = settle tfhd_of seen (contents_of_type tfhd_type cs)

-- the decode time of the only `tfdt` of these boxes, given one that was seen before
times_in : Option ℕ → List Child → Option (Option ℕ)
times_in seen cs = settle tfdt_of seen (contents_of_type tfdt_type cs)

-- a walk over these boxes gives the header of their only `tfhd` and `tfdt`
abbrev Settles : PartialTrafHeader → List Child → Type 0
Settles s cs = fold_boxes header_step finished_header s cs ≡ combined (heads_in s.head cs) (times_in s.time cs)

-- a walk that continues over these boxes after a step
abbrev goes : List Child → Option PartialTrafHeader → Option TrafHeader
goes cs next = option_and_then (λ (s : PartialTrafHeader). fold_boxes header_step finished_header s cs) next

-- a walk that continues after a `tfhd` gives the header with it, unless one was seen before
a_head : (h : Option Tfhd) (t : Option ℕ) (kept : Option Tfhd) (cs : List Child) → ((s : PartialTrafHeader) → Settles s cs)
    → goes cs (cond (is_some h) None (option_map (λ (v : Tfhd). record { head = Some v; time = t }) kept))
    ≡ combined (cond (is_some h) None (option_and_then (λ (v : Tfhd). settle tfhd_of (Some v) (contents_of_type tfhd_type cs)) kept)) (times_in t cs)
unfolding combined heads_in
a_head (Some h) t kept cs ih = refl
a_head None t None cs ih = refl
a_head None t (Some v) cs ih = ih (record { head = Some v; time = t })

-- a walk that continues after a `tfdt` gives the header with it, unless one was seen before
a_time : (h : Option Tfhd) (t : Option ℕ) (kept : Option ℕ) (cs : List Child) → ((s : PartialTrafHeader) → Settles s cs)
    → goes cs (cond (is_some t) None (option_map (λ (v : ℕ). record { head = h; time = Some v }) kept))
    ≡ combined (heads_in h cs) (cond (is_some t) None (option_and_then (λ (v : ℕ). settle tfdt_of (Some v) (contents_of_type tfdt_type cs)) kept))
unfolding times_in
a_time h (Some t) kept cs ih = sym (no_times (heads_in h cs))
a_time h None None cs ih = sym (no_times (heads_in h cs))
a_time h None (Some v) cs ih = ih (record { head = h; time = Some v })

-- a walk over boxes gives the header of their only `tfhd` and `tfdt`
settles : (s : PartialTrafHeader) (cs : List Child) → Settles s cs
unfolding fold_boxes combined heads_in times_in settle
settles s [] = refl
settles s (c ∷ cs) =
    elim (cases_Bool (c.kind == tfhd_type)) [
      | inl e ↦
          let t : (c.kind == tfdt_type) ≡ false = ap (λ (k : ℕ). k == tfdt_type) (eqb-true c.kind tfhd_type e) in
          rw (e, t) (a_head s.head s.time (tfhd_of c.content) cs (λ s. settles s cs))
      | inr h ↦ elim (cases_Bool (c.kind == tfdt_type)) [
        | inl e ↦ rw (h, e) (a_time s.head s.time (tfdt_of c.content) cs (λ s. settles s cs))
        | inr t ↦ rw (h, t) (settles s cs)
      ]
    ]

-- without a `tfhd` there is no header
no_head : (times : Option (Option ℕ)) → combined (Some None) times ≡ None
unfolding combined
no_head None = refl
no_head (Some t) = refl

-- with one valid `tfhd`, there is a header if there is at most one `tfdt` and it is valid
with_times : (h : List ℕ) (times : List (List ℕ))
    → combined (Some (Some (tfhd_fields h))) (settle tfdt_of None times)
    ≡ cond (nat_le (length times) 1 && list_all tfdt_fits times) (Some (header_with h (slice_get times 0))) None
unfolding settle tfdt_of combined header_with
with_times h [] = refl
with_times h (t ∷ []) =
    elim (cases_Bool (tfdt_fits t)) [
      | inl e ↦ rw e refl
      | inr e ↦ rw e refl
    ]
with_times h (t ∷ u ∷ more) =
    let many : nat_le (length (t ∷ u ∷ more)) 1 ≡ false = lt-leb (length (t ∷ u ∷ more)) 1 (omega arith) in
    elim (cases_Bool (tfdt_fits t)) [
      | inl e ↦ rw (many, e) refl
      | inr e ↦ rw (many, e) refl
    ]

-- with one `tfhd`, the header is the one that both lists of boxes give
one_head : (h : List ℕ) (times : List (List ℕ)) → combined (settle tfhd_of None (h ∷ [])) (settle tfdt_of None times) ≡ header_from (h ∷ []) times
unfolding settle tfhd_of combined
one_head h times =
    elim (cases_Bool (tfhd_fits h)) [
      | inl e ↦ rw e (with_times h times)
      | inr e ↦ rw e refl
    ]

-- two `tfhd` boxes give no header
two_heads : (h g : List ℕ) (others times : List (List ℕ)) → header_from (h ∷ g ∷ others) times ≡ None
two_heads h g others times =
    let many : (length (h ∷ g ∷ others) == 1) ≡ false = ne_eqb (length (h ∷ g ∷ others)) 1 (λ e. omega (arith, e)) in
    rw many refl

-- a second `tfhd` makes the walk fail
no_second : (g : List ℕ) (others : List (List ℕ)) (kept : Option Tfhd) (times : Option (Option ℕ))
    → combined (option_and_then (λ (v : Tfhd). settle tfhd_of (Some v) (g ∷ others)) kept) times ≡ None
unfolding combined settle
no_second g others None times = refl
no_second g others (Some v) times = refl

-- the header by the only `tfhd` and `tfdt` is the one that both lists of boxes give
by_lists : (heads times : List (List ℕ)) → combined (settle tfhd_of None heads) (settle tfdt_of None times) ≡ header_from heads times
unfolding combined settle
by_lists [] times = no_head (settle tfdt_of None times)
by_lists (h ∷ []) times = one_head h times
by_lists (h ∷ g ∷ others) times =
    no_second g others (tfhd_of h) (settle tfdt_of None times) ∙ sym (two_heads h g others times)

-- the same for boxes that may not be readable
by_boxes : (boxes : Option (List Child)) → option_and_then (fold_boxes header_step finished_header no_header) boxes ≡ option_and_then header_of_boxes boxes
unfolding heads_in times_in
by_boxes None = refl
by_boxes (Some cs) = settles no_header cs ∙ by_lists (contents_of_type tfhd_type cs) (contents_of_type tfdt_type cs)

-- a walk over the boxes of a `traf` gives its header
pub over-heading : (content : List ℕ) → fold_content header_step finished_header no_header content ≡ header_of_traf content
unfolding fold_content header_of_traf
over-heading content = by_boxes (children content)

-- The results of a walk over the boxes of a `moov`, and of one over those of an `mvex`.
use Rattle.std.proofs.Common.{◌≡◌, ℕ, ◌==◌, true, false, cond, List, [], ◌∷◌, ◌++◌, map, fold, slice_get, Option, Some, None, is_some, option_map, option_and_then, refl, ◌∙◌, ap, inl, inr, append_assoc}
use Rattle.std.specs.List.{list_any}
use Rattle.std.specs.Option.{option_or}
use Rattle.std.proofs.lemmas.Bool.{cases_Bool, eqb-true}
use Rattle.std.proofs.lemmas.List.{append-nil}
use Rattle.hls_boxes.specs.Boxes.{Child, children, contents_of_type}
use Rattle.hls_media_laws.specs.Kinds.{trak_type, mvex_type}
use Rattle.hls_media_laws.specs.declared.track.Track.{Track}
use Rattle.hls_media_laws.specs.Lists.{all_of, differ_from}
use Rattle.hls_media_laws.specs.Inits.{track_at}
use Rattle.hls_media.specs.Folds.{fold_boxes, fold_content}
use Rattle.hls_media.specs.TrexSteps.{first_eight}
use Rattle.hls_media.specs.MoovSteps.{MoovContents, no_contents, with_track, moov_step}

-- what is collected if these tracks follow, and this is the first `mvex`
unfoldable pub after : MoovContents → Option (List ℕ) → List Track → MoovContents
after s mvex ts = record { ids = s.ids ++ map (λ (t : Track). t.id) ts; tracks = fold first_eight s.tracks ts; mvex = option_or s.mvex mvex }

-- what is collected after these tracks and this first `mvex`, or None if a track's number occurs twice
unfoldable pub gathered : MoovContents → Option (List ℕ) → List Track → Option MoovContents
gathered s mvex ts = cond (differ_from s.ids (map (λ (t : Track). t.id) ts)) (Some (after s mvex ts)) None

-- a walk over these boxes collects the tracks of their `trak` boxes and the content of their first `mvex`
abbrev Gathers : MoovContents → List Child → Type 0
Gathers s cs = fold_boxes moov_step Some s cs ≡ option_and_then (gathered s (slice_get (contents_of_type mvex_type cs) 0)) (all_of track_at (contents_of_type trak_type cs))

or-none : {A : Type 0} (o : Option A) → o ≡ option_or o None
or-none None = refl
or-none (Some x) = refl

-- without further boxes, nothing is added to what was collected
none-yet : (s : MoovContents) → Some s ≡ gathered s None []
unfolding gathered after
none-yet s = rw (append-nil, ← or-none s.mvex) refl

-- collecting one new track and then others is collecting them all
one-more : (s : MoovContents) (mvex : Option (List ℕ)) (t : Track) (ts : List Track) → list_any (λ (m : ℕ). m == t.id) s.ids ≡ false
    → gathered (record { ids = s.ids ++ t.id ∷ []; tracks = first_eight s.tracks t; mvex = s.mvex }) mvex ts ≡ gathered s mvex (t ∷ ts)
unfolding gathered after
one-more s mvex t ts new = rw (new, append_assoc s.ids (t.id ∷ []) (map (λ (t : Track). t.id) ts)) refl

-- a track whose number occurred before can't be collected, whatever follows
again : (s : MoovContents) (mvex : Option (List ℕ)) (t : Track) (others : Option (List Track)) → list_any (λ (m : ℕ). m == t.id) s.ids ≡ true → None ≡ option_and_then (gathered s mvex) (option_map (λ ts. t ∷ ts) others)
unfolding gathered
again s mvex t None old = refl
again s mvex t (Some ts) old = rw old refl

-- the same as `one-more` for others that may not be valid
others_more : (s : MoovContents) (mvex : Option (List ℕ)) (t : Track) (others : Option (List Track)) → list_any (λ (m : ℕ). m == t.id) s.ids ≡ false
    → option_and_then (gathered (record { ids = s.ids ++ t.id ∷ []; tracks = first_eight s.tracks t; mvex = s.mvex }) mvex) others ≡ option_and_then (gathered s mvex) (option_map (λ ts. t ∷ ts) others)
others_more s mvex t None new = refl
others_more s mvex t (Some ts) new = one-more s mvex t ts new

-- a walk that continues over these boxes after a step
abbrev goes : List Child → Option MoovContents → Option MoovContents
goes cs next = option_and_then (λ (s : MoovContents). fold_boxes moov_step Some s cs) next

-- a track whose number occurred before isn't added
found : (s : MoovContents) (t : Track) → list_any (λ (m : ℕ). m == t.id) s.ids ≡ true → with_track s t ≡ None
found s t old = rw old refl

-- a track with a new number is added
not_found : (s : MoovContents) (t : Track) → list_any (λ (m : ℕ). m == t.id) s.ids ≡ false → with_track s t ≡ Some (record { ids = s.ids ++ t.id ∷ []; tracks = first_eight s.tracks t; mvex = s.mvex })
not_found s t new = rw new refl

-- a walk that continues after a `trak` collects its track and what follows, if the track is valid and its number is new
a_track : (s : MoovContents) (o : Option Track) (cs : List Child) → ((s : MoovContents) → Gathers s cs)
    → goes cs (option_and_then (with_track s) o) ≡ option_and_then (gathered s (slice_get (contents_of_type mvex_type cs) 0)) (option_and_then (λ (t : Track). option_map (λ (ts : List Track). t ∷ ts) (all_of track_at (contents_of_type trak_type cs))) o)
a_track s None cs ih = refl
a_track s (Some t) cs ih =
    elim (cases_Bool (list_any (λ (m : ℕ). m == t.id) s.ids)) [
      | inl old ↦ ap (goes cs) (found s t old) ∙ again s (slice_get (contents_of_type mvex_type cs) 0) t (all_of track_at (contents_of_type trak_type cs)) old
      | inr new ↦ ap (goes cs) (not_found s t new) ∙ ih (record { ids = s.ids ++ t.id ∷ []; tracks = first_eight s.tracks t; mvex = s.mvex }) ∙ others_more s (slice_get (contents_of_type mvex_type cs) 0) t (all_of track_at (contents_of_type trak_type cs)) new
    ]

-- once an `mvex` was kept, later ones change nothing
same_mvex : (s : MoovContents) (x : List ℕ) (first others : Option (List ℕ)) (tracks : Option (List Track)) → s.mvex ≡ Some x → option_and_then (gathered s first) tracks ≡ option_and_then (gathered s others) tracks
unfolding gathered after
same_mvex s x first others None is = refl
same_mvex s x first others (Some ts) is = rw is refl

-- an `mvex` that is kept first counts, whatever follows
new_mvex : (ids : List ℕ) (tracks : List Track) (content : List ℕ) (others : Option (List ℕ)) (ts : Option (List Track))
    → option_and_then (gathered (record { ids = ids; tracks = tracks; mvex = Some content }) others) ts ≡ option_and_then (gathered (record { ids = ids; tracks = tracks; mvex = None }) (Some content)) ts
unfolding gathered after
new_mvex ids tracks content others None = refl
new_mvex ids tracks content others (Some ts) = refl

-- a walk that continues after an `mvex` collects it as the first one, unless one was kept before, and what follows
an_mvex : (ids : List ℕ) (tracks : List Track) (mvex : Option (List ℕ)) (content : List ℕ) (cs : List Child) → ((s : MoovContents) → Gathers s cs)
    → goes cs (cond (is_some mvex) (Some (record { ids = ids; tracks = tracks; mvex = mvex })) (Some (record { ids = ids; tracks = tracks; mvex = Some content })))
    ≡ option_and_then (gathered (record { ids = ids; tracks = tracks; mvex = mvex }) (Some content)) (all_of track_at (contents_of_type trak_type cs))
an_mvex ids tracks (Some x) content cs ih =
    ih (record { ids = ids; tracks = tracks; mvex = Some x })
    ∙ same_mvex (record { ids = ids; tracks = tracks; mvex = Some x }) x (slice_get (contents_of_type mvex_type cs) 0) (Some content) (all_of track_at (contents_of_type trak_type cs)) refl
an_mvex ids tracks None content cs ih =
    ih (record { ids = ids; tracks = tracks; mvex = Some content })
    ∙ new_mvex ids tracks content (slice_get (contents_of_type mvex_type cs) 0) (all_of track_at (contents_of_type trak_type cs))

-- a walk over boxes collects the tracks of their `trak` boxes and the content of their first `mvex`
gathers : (s : MoovContents) (cs : List Child) → Gathers s cs
unfolding fold_boxes
gathers s [] = none-yet s
gathers s (c ∷ cs) =
    elim (cases_Bool (c.kind == trak_type)) [
      | inl e ↦
          let m : (c.kind == mvex_type) ≡ false = ap (λ (k : ℕ). k == mvex_type) (eqb-true c.kind trak_type e) in
          rw (e, m) (a_track s (track_at c.content) cs (λ s. gathers s cs))
      | inr t ↦ elim (cases_Bool (c.kind == mvex_type)) [
        | inl e ↦ rw (t, e) (an_mvex s.ids s.tracks s.mvex c.content cs (λ s. gathers s cs))
        | inr m ↦ rw (t, m) (gathers s cs)
      ]
    ]

-- the same for boxes that may not be readable
by_boxes : (boxes : Option (List Child)) → option_and_then (fold_boxes moov_step Some no_contents) boxes ≡ option_and_then (λ (cs : List Child). option_and_then (gathered no_contents (slice_get (contents_of_type mvex_type cs) 0)) (all_of track_at (contents_of_type trak_type cs))) boxes
by_boxes None = refl
by_boxes (Some cs) = gathers no_contents cs

-- a walk over a `moov` collects its tracks, if all are valid and their numbers differ, and the content of its first `mvex`
pub over-visitor : (moov : List ℕ) → fold_content moov_step Some no_contents moov ≡ option_and_then (λ (cs : List Child). option_and_then (gathered no_contents (slice_get (contents_of_type mvex_type cs) 0)) (all_of track_at (contents_of_type trak_type cs))) (children moov)
unfolding fold_content
over-visitor moov = by_boxes (children moov)

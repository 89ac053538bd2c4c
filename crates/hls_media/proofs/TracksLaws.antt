-- The tracks of a `moov`, from what walks over its boxes collected.
use Rattle.std.proofs.Common.{◌≡◌, ℕ, ◌+◌, ◌≤◌, ◌==◌, nat_lt, Bool, true, false, cond, List, [], ◌∷◌, ◌++◌, length, map, fold, slice_get, Option, Some, None, is_none, option_map, option_and_then, refl, sym, ◌∙◌, ap, subst, inl, inr, append_assoc, arith}
use Rattle.std.proofs.lemmas.Bool.{cases_Bool, lt-ltb}
use Rattle.std.proofs.lemmas.List.{append-nil, length-append, length-map}
use Rattle.hls_boxes.specs.Boxes.{Child, children, contents_of_type}
use Rattle.hls_media_laws.specs.Kinds.{trak_type, mvex_type, trex_type, tkhd_type, mdia_type}
use Rattle.hls_media_laws.specs.declared.track.Track.{Track}
use Rattle.hls_media_laws.specs.declared.track.Trex.{Trex}
use Rattle.hls_media_laws.specs.declared.track.Mdia.{Mdia}
use Rattle.hls_media_laws.specs.Lists.{all_of, all_differ}
use Rattle.hls_media_laws.specs.Inits.{track_at, track_of_boxes, track_from, first_with, versioned_field, media_of, trex_at, trexes_of, trexes_of_first, with_defaults, tracks_with, tracks_of_boxes, tracks_of}
use Rattle.hls_media.specs.Folds.{fold_boxes, fold_content}
use Rattle.hls_media.specs.TrexSteps.{track_with_defaults, trex_step, first_eight}
use Rattle.hls_media.specs.MoovSteps.{MoovContents, no_contents, moov_step, AreTracks}
use Rattle.hls_media.proofs.MoovLaws.{gathered, after, over-visitor}

-- a track after these `trex` boxes in order
gave : List Trex → Track → Track
gave xs t = fold (λ (t : Track) (x : Trex). track_with_defaults x t) t xs

-- tracks still without defaults
abbrev Fresh : List Track → Type 0
Fresh [] = Unit {0}
Fresh (t ∷ ts) = (t.defaults ≡ None) × Fresh ts

-- a track that is made of a number and media has no defaults yet
fresh_from : (id : Option ℕ) (media : Option Mdia) (t : Track) → track_from id media ≡ Some t → t.defaults ≡ None
fresh_from None media t is = absurd (cc)
fresh_from (Some i) None t is = absurd (cc)
fresh_from (Some i) (Some m) t is =
    let same : (record { id = i; scale = m.scale; handler = m.handler; defaults = None }) ≡ t = cc in
    sym (ap (λ (t : Track). t.defaults) same)

-- the same for the track of boxes that may not be readable
fresh_by : (boxes : Option (List Child)) (t : Track) → option_and_then track_of_boxes boxes ≡ Some t → t.defaults ≡ None
fresh_by None t is = absurd (cc)
fresh_by (Some cs) t is = fresh_from (first_with versioned_field tkhd_type cs) (first_with media_of mdia_type cs) t is

-- the track that a `trak` gives has no defaults yet
fresh_at : (content : List ℕ) (t : Track) → track_at content ≡ Some t → t.defaults ≡ None
unfolding track_at
fresh_at content t is = fresh_by (children content) t is

-- a track without defaults and others without defaults, in one list, are tracks without defaults
fresh_more : (o : Option Track) (others : Option (List Track)) (ts : List Track) → ((t : Track) → o ≡ Some t → t.defaults ≡ None) → ((us : List Track) → others ≡ Some us → Fresh us)
    → option_and_then (λ (y : Track). option_map (λ (ys : List Track). y ∷ ys) others) o ≡ Some ts → Fresh ts
fresh_more None others ts one more is = absurd (cc)
fresh_more (Some t) None ts one more is = absurd (cc)
fresh_more (Some t) (Some us) ts one more is =
    let same : t ∷ us ≡ ts = cc in
    subst Fresh same (one t refl, more us refl)

-- the tracks that several `trak` boxes give have no defaults yet
fresh : (contents : List (List ℕ)) (ts : List Track) → all_of track_at contents ≡ Some ts → Fresh ts
fresh [] ts is = let same : [] ≡ ts = cc in subst Fresh same tt
fresh (x ∷ xs) ts is = fresh_more (track_at x) (all_of track_at xs) ts (λ t e. fresh_at x t e) (λ us e. fresh xs us e) is

-- a `trex` doesn't change a track that has defaults
no_gift : (x : Trex) (t : Track) → is_none t.defaults ≡ false → track_with_defaults x t ≡ t
no_gift x t some = elim (cases_Bool (x.id == t.id)) [ inl e ↦ rw (e, some) refl | inr e ↦ rw e refl ]

-- further `trex` boxes don't change a track that has defaults
gave-stays : (xs : List Trex) (t : Track) → is_none t.defaults ≡ false → gave xs t ≡ t
unfolding gave
gave-stays [] t some = refl
gave-stays (x ∷ xs) t some =
    ap (λ (t : Track). gave xs t) (no_gift x t some) ∙ gave-stays xs t some

-- a track without defaults gets those of the first `trex` for it
gave-with : (xs : List Trex) (t : Track) → t.defaults ≡ None → gave xs t ≡ with_defaults xs t
unfolding gave
gave-with [] t none = ap (λ d. record t { defaults = d }) none
gave-with (x ∷ xs) t none =
    elim (cases_Bool (x.id == t.id)) [
      | inl e ↦
          let gift : track_with_defaults x t ≡ record t { defaults = Some x.defaults } = rw (e, none) refl in
          ap (λ (t : Track). gave xs t) gift ∙ gave-stays xs (record t { defaults = Some x.defaults }) refl ∙ rw e refl
      | inr e ↦
          let same : track_with_defaults x t ≡ t = rw e refl in
          ap (λ (t : Track). gave xs t) same ∙ gave-with xs t none ∙ rw e refl
    ]

-- tracks without defaults each get those of the first `trex` for them
all-gave : (xs : List Trex) (ts : List Track) → Fresh ts → map (gave xs) ts ≡ map (with_defaults xs) ts
all-gave xs [] none = refl
all-gave xs (t ∷ ts) none = rw (gave-with xs t none.0, all-gave xs ts none.1) refl

-- without `trex` boxes, tracks stay as they are
no-gifts : (ts : List Track) → ts ≡ map (gave []) ts
unfolding gave
no-gifts [] = refl
no-gifts (t ∷ ts) = ap (λ (ts : List Track). t ∷ ts) (no-gifts ts)

-- setting the defaults of tracks by one `trex` and then by others is setting them by all
one-gift : (x : Trex) (xs : List Trex) (ts : List Track) → map (gave xs) (map (track_with_defaults x) ts) ≡ map (gave (x ∷ xs)) ts
unfolding gave
one-gift x xs [] = refl
one-gift x xs (t ∷ ts) = ap (λ (ts : List Track). gave xs (track_with_defaults x t) ∷ ts) (one-gift x xs ts)

-- the same if the others may not be valid
one_trex : (ts : List Track) (x : Trex) (others : Option (List Trex)) → option_map (λ (xs : List Trex). map (gave xs) (map (track_with_defaults x) ts)) others ≡ option_map (λ (xs : List Trex). map (gave xs) ts) (option_map (λ (xs : List Trex). x ∷ xs) others)
one_trex ts x None = refl
one_trex ts x (Some xs) = ap Some (one-gift x xs ts)

-- a walk that continues after a `trex` sets the defaults by it and by the others, if all are valid
a_trex : (ts : List Track) (o : Option Trex) (cs : List Child) → ((ts : List Track) → fold_boxes trex_step Some ts cs ≡ option_map (λ (xs : List Trex). map (gave xs) ts) (all_of trex_at (contents_of_type trex_type cs)))
    → option_and_then (λ (ts : List Track). fold_boxes trex_step Some ts cs) (option_map (λ (x : Trex). map (track_with_defaults x) ts) o)
    ≡ option_map (λ (xs : List Trex). map (gave xs) ts) (option_and_then (λ (x : Trex). option_map (λ (xs : List Trex). x ∷ xs) (all_of trex_at (contents_of_type trex_type cs))) o)
a_trex ts None cs ih = refl
a_trex ts (Some x) cs ih = ih (map (track_with_defaults x) ts) ∙ one_trex ts x (all_of trex_at (contents_of_type trex_type cs))

-- a walk over the boxes of an `mvex` sets the defaults by all its `trex` boxes, if all are valid
along-given : (cs : List Child) (ts : List Track) → fold_boxes trex_step Some ts cs ≡ option_map (λ (xs : List Trex). map (gave xs) ts) (all_of trex_at (contents_of_type trex_type cs))
unfolding fold_boxes
along-given [] ts = ap Some (no-gifts ts)
along-given (c ∷ cs) ts =
    elim (cases_Bool (c.kind == trex_type)) [
      | inl e ↦ rw e (a_trex ts (trex_at c.content) cs (along-given cs))
      | inr e ↦ rw e (along-given cs ts)
    ]

-- the same for boxes that may not be readable
given_boxes : (boxes : Option (List Child)) (ts : List Track) → option_and_then (fold_boxes trex_step Some ts) boxes ≡ option_map (λ (xs : List Trex). map (gave xs) ts) (option_and_then (λ (cs : List Child). all_of trex_at (contents_of_type trex_type cs)) boxes)
given_boxes None ts = refl
given_boxes (Some cs) ts = along-given cs ts

-- a walk over an `mvex` sets the defaults by its `trex` boxes, if all are valid
over-given : (mvex : List ℕ) (ts : List Track) → fold_content trex_step Some ts mvex ≡ option_map (λ (xs : List Trex). map (gave xs) ts) (trexes_of mvex)
unfolding fold_content trexes_of
over-given mvex ts = given_boxes (children mvex) ts

-- tracks that are at most eight, with those kept before, are all kept
kept-fold : (ts acc : List Track) → length acc + length ts ≤ 8 → fold first_eight acc ts ≡ acc ++ ts
kept-fold [] acc few = sym (append-nil acc)
kept-fold (t ∷ ts) acc few =
    let room : nat_lt (length acc) 8 ≡ true = lt-ltb (length acc) 8 (omega arith) in
    let step : first_eight acc t ≡ acc ++ t ∷ [] = rw room refl in
    ap (λ (ts' : List Track). fold first_eight ts' ts) step
    ∙ kept-fold ts (acc ++ t ∷ []) (omega (arith, length-append acc (t ∷ [])))
    ∙ append_assoc acc (t ∷ []) ts

-- what a walk over a `moov` collected: its boxes are readable and its tracks valid, and their numbers differ
pub record Gathering (moov : List ℕ) (s : MoovContents) : Type 0 where
  pub boxes : List Child
  pub tracks : List Track
  pub filled : children moov ≡ Some boxes
  pub read : all_of track_at (contents_of_type trak_type boxes) ≡ Some tracks
  pub differ : all_differ (map (λ (t : Track). t.id) tracks) ≡ true
  pub ids_are : s.ids ≡ map (λ (t : Track). t.id) tracks
  pub tracks_are : s.tracks ≡ fold first_eight [] tracks
  pub mvex_is : s.mvex ≡ slice_get (contents_of_type mvex_type boxes) 0

-- the tracks and the first `mvex` of readable boxes are what was collected, if the tracks' numbers differ
gathering_so : (moov : List ℕ) (cs : List Child) (ts : List Track) → children moov ≡ Some cs → all_of track_at (contents_of_type trak_type cs) ≡ Some ts → all_differ (map (λ (t : Track). t.id) ts) ≡ true → Gathering moov (after no_contents (slice_get (contents_of_type mvex_type cs) 0) ts)
unfolding after
gathering_so moov cs ts filled read differ = record {
  boxes = cs;
  tracks = ts;
  filled = filled;
  read = read;
  differ = differ;
  ids_are = refl;
  tracks_are = refl;
  mvex_is = refl;
}

-- the same if it isn't known that the numbers differ, but something was collected
gathering_from : (moov : List ℕ) (cs : List Child) (ts : List Track) (s : MoovContents) (differs : Bool) → children moov ≡ Some cs → all_of track_at (contents_of_type trak_type cs) ≡ Some ts → all_differ (map (λ (t : Track). t.id) ts) ≡ differs
    → cond differs (Some (after no_contents (slice_get (contents_of_type mvex_type cs) 0) ts)) None ≡ Some s → Gathering moov s
gathering_from moov cs ts s false filled read differ is = absurd (cc)
gathering_from moov cs ts s true filled read differ is =
    let same : after no_contents (slice_get (contents_of_type mvex_type cs) 0) ts ≡ s = cc in
    subst (Gathering moov) same (gathering_so moov cs ts filled read differ)

-- the same if it isn't known that the tracks are valid, but something was collected
gathering_tracks : (moov : List ℕ) (cs : List Child) (ts : Option (List Track)) (s : MoovContents) → children moov ≡ Some cs → all_of track_at (contents_of_type trak_type cs) ≡ ts → option_and_then (gathered no_contents (slice_get (contents_of_type mvex_type cs) 0)) ts ≡ Some s → Gathering moov s
unfolding gathered
gathering_tracks moov cs None s filled read is = absurd (cc)
gathering_tracks moov cs (Some ts) s filled read is = gathering_from moov cs ts s (all_differ (map (λ (t : Track). t.id) ts)) filled read refl is

-- the same if it isn't known that the boxes are readable, but something was collected
gathering_boxes : (moov : List ℕ) (boxes : Option (List Child)) (s : MoovContents) → children moov ≡ boxes → option_and_then (λ (cs : List Child). option_and_then (gathered no_contents (slice_get (contents_of_type mvex_type cs) 0)) (all_of track_at (contents_of_type trak_type cs))) boxes ≡ Some s → Gathering moov s
gathering_boxes moov None s filled is = absurd (cc)
gathering_boxes moov (Some cs) s filled is = gathering_tracks moov cs (all_of track_at (contents_of_type trak_type cs)) s filled refl is

-- what a walk over a `moov` returned was collected from its boxes
pub gathering : (moov : List ℕ) (s : MoovContents) → fold_content moov_step Some no_contents moov ≡ Some s → Gathering moov s
gathering moov s is = gathering_boxes moov (children moov) s refl (sym (over-visitor moov) ∙ is)

-- if two tracks have the same number, the tracks are refused, whatever the `trex` boxes are
no_differ : (ts : List Track) (s : MoovContents) (differs : Bool) → all_differ (map (λ (t : Track). t.id) ts) ≡ differs → cond differs (Some s) None ≡ None → (trexes : Option (List Trex)) → option_and_then (tracks_with ts) trexes ≡ None
no_differ ts s true e is trexes = absurd (cc)
no_differ ts s false e is None = refl
no_differ ts s false e is (Some xs) = rw e refl

-- if nothing was collected from readable boxes, their tracks are refused
no_tracks : (cs : List Child) (ts : Option (List Track)) → option_and_then (gathered no_contents (slice_get (contents_of_type mvex_type cs) 0)) ts ≡ None → option_and_then (λ (tracks : List Track). option_and_then (tracks_with tracks) (trexes_of_first (contents_of_type mvex_type cs))) ts ≡ None
unfolding gathered
no_tracks cs None is = refl
no_tracks cs (Some ts) is = no_differ ts (after no_contents (slice_get (contents_of_type mvex_type cs) 0) ts) (all_differ (map (λ (t : Track). t.id) ts)) refl is (trexes_of_first (contents_of_type mvex_type cs))

-- if nothing was collected from boxes that may not be readable, the `moov` has no valid tracks
no_boxes : (boxes : Option (List Child)) → option_and_then (λ (cs : List Child). option_and_then (gathered no_contents (slice_get (contents_of_type mvex_type cs) 0)) (all_of track_at (contents_of_type trak_type cs))) boxes ≡ None → option_and_then tracks_of_boxes boxes ≡ None
no_boxes None is = refl
no_boxes (Some cs) is = no_tracks cs (all_of track_at (contents_of_type trak_type cs)) is

-- a `moov` from which nothing was collected has no valid tracks
nothing-gathered : (moov : List ℕ) → fold_content moov_step Some no_contents moov ≡ None → tracks_of moov ≡ None
unfolding tracks_of
nothing-gathered moov is = no_boxes (children moov) (sym (over-visitor moov) ∙ is)

-- if nothing was collected from a `moov`, the code rightly returns no tracks
pub read-nothing : (moov ids : List ℕ) → fold_content moov_step Some no_contents moov ≡ None → AreTracks None (tracks_of moov) ids
read-nothing moov ids is = subst (λ (o : Option (List Track)). AreTracks None o ids) (sym (nothing-gathered moov is)) tt

-- the `trex` boxes of an `mvex` that may be missing; without it there are none
trexes_in : Option (List ℕ) → Option (List Trex)
trexes_in None = Some []
trexes_in (Some mvex) = trexes_of mvex

-- the `trex` boxes of the first `mvex` are those of the one at index 0, or none if there is no such box
trexes-first : (mvexes : List (List ℕ)) → trexes_of_first mvexes ≡ trexes_in (slice_get mvexes 0)
unfolding trexes_in
trexes-first [] = refl
trexes-first (x ∷ xs) = refl

-- tracks whose numbers differ get the defaults of the `trex` boxes, if these are valid
with_trexes : (ts : List Track) (trexes : Option (List Trex)) → all_differ (map (λ (t : Track). t.id) ts) ≡ true → option_and_then (tracks_with ts) trexes ≡ option_map (λ (xs : List Trex). map (with_defaults xs) ts) trexes
with_trexes ts None differ = refl
with_trexes ts (Some xs) differ = rw differ refl

-- the tracks of a `moov` are those that were collected from it with the defaults of its first `mvex`
tracks-gathered : (moov : List ℕ) (s : MoovContents) (g : Gathering moov s) → tracks_of moov ≡ option_map (λ (xs : List Trex). map (with_defaults xs) g.tracks) (trexes_in s.mvex)
unfolding tracks_of
tracks-gathered moov s g =
    ap (option_and_then tracks_of_boxes) g.filled
    ∙ ap (option_and_then (λ (tracks : List Track). option_and_then (tracks_with tracks) (trexes_of_first (contents_of_type mvex_type g.boxes)))) g.read
    ∙ ap (option_and_then (tracks_with g.tracks)) (trexes-first (contents_of_type mvex_type g.boxes) ∙ ap trexes_in (sym g.mvex_is))
    ∙ with_trexes g.tracks (trexes_in s.mvex) g.differ

-- the tracks that were collected, with these defaults, are those of the `moov`, if they are at most eight
are-tracks : (moov : List ℕ) (s : MoovContents) (g : Gathering moov s) (xs : List Trex) (tracks : List Track) → tracks ≡ map (gave xs) s.tracks → AreTracks (Some tracks) (Some (map (with_defaults xs) g.tracks)) s.ids
are-tracks moov s g xs tracks is = (
  ap length g.ids_are ∙ length-map g.tracks (λ (t : Track). t.id) ∙ sym (length-map g.tracks (with_defaults xs)),
  λ few.
      let count : length (map (with_defaults xs) g.tracks) ≡ length g.tracks = length-map g.tracks (with_defaults xs) in
      is ∙ ap (map (gave xs)) (g.tracks_are ∙ kept-fold g.tracks [] (omega (arith, few, count)))
      ∙ all-gave xs g.tracks (fresh (contents_of_type trak_type g.boxes) g.tracks g.read),
)

-- without an `mvex`, the tracks that were collected are those of the `moov`, if they are at most eight
pub read-alone : (moov : List ℕ) (s : MoovContents) → fold_content moov_step Some no_contents moov ≡ Some s → s.mvex ≡ None → AreTracks (Some s.tracks) (tracks_of moov) s.ids
unfolding trexes_in
read-alone moov s is none =
    let g : Gathering moov s = gathering moov s is in
    let e : tracks_of moov ≡ Some (map (with_defaults []) g.tracks) = tracks-gathered moov s g ∙ ap (λ (m : Option (List ℕ)). option_map (λ (xs : List Trex). map (with_defaults xs) g.tracks) (trexes_in m)) none in
    subst (λ (o : Option (List Track)). AreTracks (Some s.tracks) o s.ids) (sym e) (are-tracks moov s g [] s.tracks (no-gifts s.tracks))

-- the same as `are-tracks` for `trex` boxes that may not be valid
by_trexes : (moov : List ℕ) (s : MoovContents) (g : Gathering moov s) (trexes : Option (List Trex))
    → AreTracks (option_map (λ (xs : List Trex). map (gave xs) s.tracks) trexes) (option_map (λ (xs : List Trex). map (with_defaults xs) g.tracks) trexes) s.ids
by_trexes moov s g None = tt
by_trexes moov s g (Some xs) = are-tracks moov s g xs (map (gave xs) s.tracks) refl

-- with an `mvex`, the tracks that were collected, after a walk over it, are those of the `moov`, if they are at most eight
pub read-given : (moov : List ℕ) (s : MoovContents) (content : List ℕ) → fold_content moov_step Some no_contents moov ≡ Some s → s.mvex ≡ Some content → AreTracks (fold_content trex_step Some s.tracks content) (tracks_of moov) s.ids
unfolding trexes_in
read-given moov s content is some =
    let g : Gathering moov s = gathering moov s is in
    let e : tracks_of moov ≡ option_map (λ (xs : List Trex). map (with_defaults xs) g.tracks) (trexes_of content) = tracks-gathered moov s g ∙ ap (λ (m : Option (List ℕ)). option_map (λ (xs : List Trex). map (with_defaults xs) g.tracks) (trexes_in m)) some in
    rw (e, over-given content s.tracks) (by_trexes moov s g (trexes_of content))

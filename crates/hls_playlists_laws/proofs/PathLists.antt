-- Playlists whose segments have paths.
use Rattle.std.proofs.Common.{◌≡◌, ◌≢◌, ℕ, zero, suc, List, [], ◌∷◌, map, cond, Option, Some, None, arith, refl, sym, ap, ◌∙◌}
use Rattle.std.specs.Prelude.{slice_get, option_map}
use Rattle.std.specs.List.{sum_by, count_by}
use Rattle.std.proofs.lemmas.List.{length-map, map-append}
use Rattle.std.proofs.lemmas.List.Sums.{sum_by-cons}
use Rattle.hls_m3u8.specs.declared.playlist.MediaSegment.{MediaSegment}
use Rattle.hls_m3u8.specs.Playlist.{Playlist}
use Rattle.hls_core_laws.specs.Base.{run_text}
use Rattle.hls_core_laws.specs.State.{State}
use Rattle.hls_playlists_laws.specs.LaterList.{IsLater, is_marked, length_us}
use Rattle.hls_core_laws.proofs.Callers.{mapped_at}
use Rattle.hls_playlists_laws.specs.Origins.{AgreeOnOverlap}
use Rattle.hls_playlists_laws.specs.BasedLists.{based_list_of}
use Rattle.hls_playlists_laws.specs.PathLists.{segment_by_path, list_by_paths, path_list_of, AreByPaths, IsByPath}

-- segments under paths have as many marks as under ranges, and the same sum of lengths
pub marks-named : (run : List ℕ) (r : ℕ) (xs : List MediaSegment) → count_by is_marked (map (segment_by_path run r) xs) ≡ count_by is_marked xs
marks-named run r [] = refl
marks-named run r (x ∷ xs) =
    let one = sum_by-cons (λ (y : MediaSegment). cond (is_marked y) 1 0) (segment_by_path run r x) (map (segment_by_path run r) xs) in
    let two = sum_by-cons (λ (y : MediaSegment). cond (is_marked y) 1 0) x xs in
    omega (arith, one, two, marks-named run r xs)

pub lengths-named : (run : List ℕ) (r : ℕ) (xs : List MediaSegment) → sum_by length_us (map (segment_by_path run r) xs) ≡ sum_by length_us xs
lengths-named run r [] = refl
lengths-named run r (x ∷ xs) =
    let one = sum_by-cons length_us (segment_by_path run r x) (map (segment_by_path run r) xs) in
    let two = sum_by-cons length_us x xs in
    omega (arith, one, two, lengths-named run r xs)

some-named : (run : List ℕ) (r : ℕ) (xs : List MediaSegment) → map (segment_by_path run r) xs ≢ [] → xs ≢ []
some-named run r xs some none = some (ap (map (segment_by_path run r)) none)

-- a playlist that is valid as a later one is so if both have paths instead of ranges
pub later-named : (run : List ℕ) (r : ℕ) (p q : Playlist) → IsLater p q → IsLater (list_by_paths run r p) (list_by_paths run r q)
later-named run r p q later = record {
  version = later.version;
  target = later.target;
  map = refl;
  evicted = map (segment_by_path run r) later.evicted;
  appended = map (segment_by_path run r) later.appended;
  segments = sym (map-append (segment_by_path run r) p.segments later.appended)
      ∙ (ap (map (segment_by_path run r)) later.segments ∙ map-append (segment_by_path run r) later.evicted q.segments);
  media_sequence = omega (arith, later.media_sequence, length-map later.evicted (segment_by_path run r));
  discontinuity_sequence = omega (arith, later.discontinuity_sequence, marks-named run r later.evicted);
  ended = λ over. ((later.ended over).0, ap (map (segment_by_path run r)) (later.ended over).1);
  long = λ some goes_on. omega (arith, later.long (some-named run r later.evicted some) goes_on, lengths-named run r q.segments);
}

-- segment k of the list under paths is segment k of the list under ranges, under its path
named-at : (run : List ℕ) (r : ℕ) (xs : List MediaSegment) (k : ℕ) (x y : MediaSegment) → slice_get xs k ≡ Some x →
    slice_get (map (segment_by_path run r) xs) k ≡ Some y → segment_by_path run r x ≡ y
named-at run r [] k x y at there = absurd (cc)
named-at run r (z ∷ xs) zero x y at there =
    let same : z ≡ x = cc in
    let same_too : segment_by_path run r z ≡ y = cc in
    ap (segment_by_path run r) (sym same) ∙ same_too
named-at run r (z ∷ xs) (suc k) x y at there = named-at run r xs k x y at there

-- `segment_by_path` makes, of a segment by its range, the segment by its path
is-named : (run : List ℕ) (r : ℕ) (x y : MediaSegment) → segment_by_path run r x ≡ y → IsByPath run r x y
is-named run r x y is = record {
  mark = ap (λ (z : MediaSegment). z.mark) (sym is);
  date = ap (λ (z : MediaSegment). z.date) (sym is);
  us = ap (λ (z : MediaSegment). z.us) (sym is);
  range = ap (λ (z : MediaSegment). z.range) (sym is);
  uri = ap (λ (z : MediaSegment). z.uri) (sym is);
}

-- a state with a playlist by ranges has a path list with the same numbers and the same segments
pub path-lists-match : (s : State) (r : ℕ) (p : Playlist) → based_list_of s r ≡ Some p →
    (q : Playlist) × (path_list_of s r ≡ Some q) × AreByPaths (run_text s.config.base.run) r p q
path-lists-match s r p is =
    let run : List ℕ = run_text s.config.base.run in (
      list_by_paths run r p,
      ap (option_map (list_by_paths run r)) is,
      record {
        version = refl;
        target = refl;
        media_sequence = refl;
        discontinuity_sequence = refl;
        kind = refl;
        ended = refl;
        count = length-map p.segments (segment_by_path run r);
        each = λ k x y at there. is-named run r x y (named-at run r p.segments k x y at there);
      },
    )

-- if a mapped option is a playlist, the option has a playlist, which is mapped to it
pub mapped-some : (f : Playlist → Playlist) (o : Option Playlist) (q : Playlist) → option_map f o ≡ Some q → (p : Playlist) × (o ≡ Some p) × (f p ≡ q)
mapped-some f None q is = absurd (cc)
mapped-some f (Some p) q is = (p, refl, let same : f p ≡ q = cc in same)

-- segments that agree under their ranges agree under their paths
pub named-agree : (run : List ℕ) (r : ℕ) (p q : Playlist) → AgreeOnOverlap p q → AgreeOnOverlap (list_by_paths run r p) (list_by_paths run r q)
named-agree run r p q agree = record {
  target = agree.target;
  map = refl;
  segments = λ j k x y x-at y-at number.
      let u = mapped_at (segment_by_path run r) p.segments j x x-at in
      let v = mapped_at (segment_by_path run r) q.segments k y y-at in
      sym u.2 ∙ (ap (segment_by_path run r) (agree.segments j k u.0 v.0 u.1 v.1 number) ∙ v.2);
  marks = agree.marks;
}

-- Segments as a rendition's playlist has them: new units don't change a segment, and the counts leave nothing out.
use Rattle.std.proofs.Common.{◌≡◌, ℕ, ◌+◌, ◌-◌, ◌≤◌, cond, List, [], ◌∷◌, ◌++◌, length, map, take, drop, arith, refl, sym, ap, ◌∙◌, All, length-drop}
use Rattle.std.specs.List.{sum_by, count_by}
use Rattle.std.proofs.lemmas.List.{take-append-le, drop-append-le}
use Rattle.std.proofs.lemmas.List.Elements.{All-head, All-tail}
use Rattle.std.proofs.lemmas.List.Sums.{sum_by-cons}
use Rattle.hls_media_laws.specs.declared.facts.Facts.{Facts}
use Rattle.hls_media_laws.specs.FactLists.{total_bytes}
use Rattle.hls_check_tables.specs.Tables.{spot_in}
use Rattle.hls_places_laws.specs.declared.line.live_segment.LiveSegment as live_line
use Rattle.hls_places_laws.specs.Line.Lengths.{length_in, is_marked as is_break}
use Rattle.hls_m3u8.specs.declared.playlist.MediaSegment.{MediaSegment}
use Rattle.hls_playlists_laws.specs.JobResource.{bytes_between}
use Rattle.hls_playlists_laws.specs.Segments.{ResourceLayout}
use Rattle.hls_playlists_laws.specs.Live.{live_media_segment}
use Rattle.hls_playlists_laws.specs.LaterList.{is_marked, length_us}

-- new units don't change the bytes of earlier ones
pub bytes-stay : (facts more : List Facts) (from to : ℕ) → from ≤ length facts → to ≤ length facts →
    bytes_between (facts ++ more) from to ≡ bytes_between facts from to
bytes-stay facts more from to begun ended =
    let count : length (drop from facts) ≡ length facts - from = length-drop from facts in
    let few : to - from ≤ length (drop from facts) = omega arith in
    ap (λ (fs : List Facts). total_bytes (take (to - from) fs)) (drop-append-le from facts more begun)
    ∙ ap total_bytes (take-append-le (to - from) (drop from facts) more few)

-- a segment whose ends are among these units
pub record StandsAmong (rendition : ℕ) (facts : List Facts) (x : live_line.LiveSegment) : Type 0 where
  pub from : (spot_in x.from.spots rendition).fragment ≤ length facts
  pub to : (spot_in x.to.spots rendition).fragment ≤ length facts

-- the same rendition with more units
pub record IsCutOn (early late : ResourceLayout) : Type 0 where
  pub rendition : late.rendition ≡ early.rendition
  pub uri : late.uri ≡ early.uri
  pub init_length : late.init_length ≡ early.init_length
  pub begun : early.first ≡ 0
  pub first : late.first ≡ 0
  pub more : List Facts
  pub facts : late.facts ≡ early.facts ++ more
  pub epoch : late.epoch ≡ early.epoch

-- more units don't change the playlist entry of a segment whose ends are among the earlier ones
pub listed-stays : (early late : ResourceLayout) (x : live_line.LiveSegment) → IsCutOn early late → StandsAmong early.rendition early.facts x →
    live_media_segment late x ≡ live_media_segment early x
listed-stays early late x on stands =
    let from : ℕ = (spot_in x.from.spots early.rendition).fragment in
    let to : ℕ = (spot_in x.to.spots early.rendition).fragment in
    let lengths : bytes_between (early.facts ++ on.more) from to ≡ bytes_between early.facts from to =
    bytes-stay early.facts on.more from to stands.from stands.to in
    let offsets : bytes_between (early.facts ++ on.more) 0 from ≡ bytes_between early.facts 0 from =
    bytes-stay early.facts on.more 0 from (omega arith) stands.from in
    let now : ResourceLayout = record { rendition = early.rendition; uri = early.uri; init_length = early.init_length; first = 0; facts = early.facts ++ on.more; epoch = early.epoch } in
    let was : ResourceLayout = record { rendition = early.rendition; uri = early.uri; init_length = early.init_length; first = 0; facts = early.facts; epoch = early.epoch } in
    let late_is : late ≡ now = λ k. record { rendition = on.rendition k; uri = on.uri k; init_length = on.init_length k; first = on.first k; facts = on.facts k; epoch = on.epoch k } in
    let early_is : was ≡ early = λ k. record { rendition = early.rendition; uri = early.uri; init_length = early.init_length; first = sym on.begun k; facts = early.facts; epoch = early.epoch } in
    let same : live_media_segment now x ≡ live_media_segment was x = rw (lengths, offsets) refl in
    ap (λ (c : ResourceLayout). live_media_segment c x) late_is ∙ (same ∙ ap (λ (c : ResourceLayout). live_media_segment c x) early_is)

-- the same for a list of segments
pub all-stay : (early late : ResourceLayout) (xs : List live_line.LiveSegment) → IsCutOn early late → All (StandsAmong early.rendition early.facts) xs →
    map (live_media_segment late) xs ≡ map (live_media_segment early) xs
all-stay early late [] on all = refl
all-stay early late (x ∷ xs) on all =
    ap (λ (y : MediaSegment). y ∷ map (live_media_segment late) xs) (listed-stays early late x on (All-head (StandsAmong early.rendition early.facts) x xs all))
    ∙ ap (λ (ys : List MediaSegment). live_media_segment early x ∷ ys) (all-stay early late xs on (All-tail (StandsAmong early.rendition early.facts) x xs all))

-- the playlist's segments have as many marks as the line's
pub marks-listed : (cut : ResourceLayout) (xs : List live_line.LiveSegment) → count_by is_marked (map (live_media_segment cut) xs) ≡ count_by is_break xs
marks-listed cut [] = refl
marks-listed cut (x ∷ xs) =
    sum_by-cons (λ (y : MediaSegment). cond (is_marked y) 1 0) (live_media_segment cut x) (map (live_media_segment cut) xs)
    ∙ (ap (λ (n : ℕ). cond x.mark 1 0 + n) (marks-listed cut xs)
    ∙ sym (sum_by-cons (λ (y : live_line.LiveSegment). cond (is_break y) 1 0) x xs))

-- the playlist's segments last, added up, as long as the line's in the rendition
pub lengths-listed : (cut : ResourceLayout) (xs : List live_line.LiveSegment) → sum_by length_us (map (live_media_segment cut) xs) ≡ sum_by (length_in cut.rendition) xs
lengths-listed cut [] = refl
lengths-listed cut (x ∷ xs) =
    sum_by-cons length_us (live_media_segment cut x) (map (live_media_segment cut) xs)
    ∙ (ap (λ (n : ℕ). length_in cut.rendition x + n) (lengths-listed cut xs) ∙ sym (sum_by-cons (length_in cut.rendition) x xs))

-- Segments and heads of playlists as they are served.
use Rattle.std.proofs.Common.{◌≡◌, ◌∙◌, ℕ, zero, suc, ◌+◌, ◌<◌, Bool, true, false, List, [], cond, Option, refl, sym, ap, arith}
use Rattle.hls_m3u8.specs.declared.playlist.InitSection.{InitSection}
use Rattle.hls_m3u8.specs.declared.playlist.MediaSegment.{MediaSegment}
use Rattle.hls_m3u8.specs.Playlist.{Playlist}
use Rattle.hls_core_laws.specs.Base.{BaseData, run_text}
use Rattle.hls_playlists_laws.specs.JoinedLists.{Offsets, joined_list, joined_segment, joined_segments, marks_uncounted, shifted_segment, with_mark}
use Rattle.hls_playlists_laws.specs.BasedLists.{offsets_from}
use Rattle.hls_playlists_laws.specs.PathLists.{list_by_paths}
use Rattle.hls_playlists.specs.declared.media_uris.MediaUris.{MediaUris}
use Rattle.hls_playlists.specs.declared.media_uris.MediaUris.TheVariants.{Paths, PathsAbove, Ranges}
use Rattle.hls_playlists.specs.MediaUris.{run_above, served_list, served_map}

-- the channel's very first segment is joined by a shift and gets the mark of the offsets
pub joined_first : (o : Offsets) (number : ℕ) (x : MediaSegment) → number ≡ 0 → with_mark o.marked (shifted_segment o.bytes x) ≡ joined_segment o number x
joined_first o zero x is = refl
joined_first o (suc number) x is = absurd (omega (arith, is))

-- a segment other than the very first one is joined by a shift alone
pub joined_other : (o : Offsets) (number : ℕ) (x : MediaSegment) → 0 < number → shifted_segment o.bytes x ≡ joined_segment o number x
joined_other o zero x some = absurd (omega (arith, some))
joined_other o (suc number) x some = refl

-- before the very first segment is removed, only the base's marks precede
pub none_uncounted : (base : BaseData) (r number : ℕ) → number ≡ 0 → base.marks ≡ base.marks + marks_uncounted (offsets_from base r) number
none_uncounted base r zero is = omega arith
none_uncounted base r (suc number) is = absurd (omega (arith, is))

-- once the very first segment was removed and the base gives it a mark, one more mark precedes than the base's
pub one_uncounted : (base : BaseData) (r number : ℕ) → 0 < number → base.marked ≡ true → base.marks + 1 ≡ base.marks + marks_uncounted (offsets_from base r) number
one_uncounted base r zero some marked = absurd (omega (arith, some))
one_uncounted base r (suc number) some marked = ap (λ (b : Bool). base.marks + cond {A = ℕ} b 1 0) (sym marked)

-- if the base gives the very first segment no mark, only the base's marks precede
pub unmarked_uncounted : (base : BaseData) (r number : ℕ) → base.marked ≡ false → base.marks ≡ base.marks + marks_uncounted (offsets_from base r) number
unmarked_uncounted base r zero unmarked = omega arith
unmarked_uncounted base r (suc number) unmarked =
    let none : cond {A = ℕ} base.marked 1 0 ≡ 0 = ap (λ (b : Bool). cond {A = ℕ} b 1 0) unmarked in
    omega (arith, none)

-- a playlist without segments that has the numbers and the init section of the served one is the served one
pub head_served : (uris : MediaUris) (base : BaseData) (r : ℕ) (list : Playlist) (sequence marks before : ℕ) (map : Option InitSection) → list.segments ≡ [] →
    sequence ≡ base.segments + list.media_sequence → marks ≡ before + list.discontinuity_sequence →
    before ≡ base.marks + marks_uncounted (offsets_from base r) list.media_sequence → map ≡ served_map uris base r list.map →
    record { version = list.version; target = list.target; media_sequence = sequence; discontinuity_sequence = marks; kind = list.kind; map = map; segments = list.segments; ended = list.ended }
    ≡ served_list uris base r list
head_served Ranges base r list sequence marks before map empty sequence_is marks_is before_is map_is =
    let counted : marks ≡ base.marks + list.discontinuity_sequence + marks_uncounted (offsets_from base r) list.media_sequence = omega (arith, marks_is, before_is) in
    let none : list.segments ≡ joined_segments (offsets_from base r) list.media_sequence list.segments =
    empty ∙ ap (joined_segments (offsets_from base r) list.media_sequence) (sym empty) in
    λ k. record {
      version = list.version;
      target = list.target;
      media_sequence = sequence_is k;
      discontinuity_sequence = counted k;
      kind = list.kind;
      map = map_is k;
      segments = none k;
      ended = list.ended;
    }
head_served Paths base r list sequence marks before map empty sequence_is marks_is before_is map_is =
    let counted : marks ≡ base.marks + list.discontinuity_sequence + marks_uncounted (offsets_from base r) list.media_sequence = omega (arith, marks_is, before_is) in
    let none : list.segments ≡ (list_by_paths (run_text base.run) r (joined_list (offsets_from base r) list)).segments =
    empty ∙ ap (λ (xs : List MediaSegment). (list_by_paths (run_text base.run) r (joined_list (offsets_from base r) (record list { segments = xs }))).segments) (sym empty) in
    λ k. record {
      version = list.version;
      target = list.target;
      media_sequence = sequence_is k;
      discontinuity_sequence = counted k;
      kind = list.kind;
      map = map_is k;
      segments = none k;
      ended = list.ended;
    }
head_served PathsAbove base r list sequence marks before map empty sequence_is marks_is before_is map_is =
    let counted : marks ≡ base.marks + list.discontinuity_sequence + marks_uncounted (offsets_from base r) list.media_sequence = omega (arith, marks_is, before_is) in
    let none : list.segments ≡ (list_by_paths (run_above base) r (joined_list (offsets_from base r) list)).segments =
    empty ∙ ap (λ (xs : List MediaSegment). (list_by_paths (run_above base) r (joined_list (offsets_from base r) (record list { segments = xs }))).segments) (sym empty) in
    λ k. record {
      version = list.version;
      target = list.target;
      media_sequence = sequence_is k;
      discontinuity_sequence = counted k;
      kind = list.kind;
      map = map_is k;
      segments = none k;
      ended = list.ended;
    }

-- The live playlists of a channel that continue those of earlier processes: they count from the base of its configuration.
use Rattle.std.specs.Prelude.{◌≡◌, ℕ, zero, suc, ◌+◌, Bool, length, Option, option_map}
use Rattle.hls_m3u8.specs.Playlist.{Playlist}
use Rattle.hls_core_laws.specs.Base.{BaseData, bytes_before_base}
use Rattle.hls_core_laws.specs.State.{State}
use Rattle.hls_playlists_laws.specs.Live.{live_list_of}
use Rattle.hls_playlists_laws.specs.JoinedLists.{Offsets, joined_list, marks_uncounted}

-- what precedes a base, in one rendition
abbrev pub offsets_from : BaseData → ℕ → Offsets
offsets_from base r = record { segments = base.segments; marks = base.marks; marked = base.marked; bytes = bytes_before_base base r }

-- a rendition's live playlist, counted from a base
abbrev pub list_from : BaseData → State → ℕ → Option Playlist
list_from base s r = option_map (joined_list (offsets_from base r)) (live_list_of s r)

-- a rendition's live playlist, counted from the state's own base
abbrev pub based_list_of : State → ℕ → Option Playlist
based_list_of s r = list_from s.config.base s r

-- whether a segment has a mark that n segments precede: if none does, it is the first one's
abbrev pub marked_after : Bool → ℕ → Bool → Bool
marked_after first zero marked = first
marked_after first (suc n) marked = marked

-- what precedes a cut, if these offsets lead from a base to the cut: the base of a process that continues at the cut
abbrev pub offsets_after : Offsets → Offsets → Offsets
offsets_after base cut = record {
  segments = base.segments + cut.segments;
  marks = base.marks + cut.marks + marks_uncounted base cut.segments;
  marked = marked_after base.marked cut.segments cut.marked;
  bytes = base.bytes + cut.bytes;
}

-- two playlists; the second one begins n segments later. Both have removed as many segments, list as many, and have or haven't
-- ended
pub record AreAsFar (n : ℕ) (p q : Playlist) : Type 0 where
  pub begins : p.media_sequence ≡ n + q.media_sequence
  pub count : length p.segments ≡ length q.segments
  pub ended : p.ended ≡ q.ended

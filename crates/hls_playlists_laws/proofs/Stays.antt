-- States of one log with equally many events have the same configuration and the same log, so their live playlists are the same.
use Rattle.std.proofs.Common.{◌≡◌, ◌∙◌, ℕ, List, [], Option, length, take, ap, ap₂, refl, sym, subst, inl, inr}
use Rattle.std.proofs.Math.Seq.{take-append_seam, take-length}
use Rattle.hls_core_laws.specs.declared.event.Entry.{Entry}
use Rattle.hls_core_laws.specs.Config.{ConfigData}
use Rattle.hls_core_laws.specs.State.{State}
use Rattle.hls_core_laws.specs.Follows.{Follows}
use Rattle.hls_m3u8.specs.Playlist.{Playlist}
use Rattle.hls_playlists_laws.specs.Live.{live_list_of}
use Rattle.hls_playlists_laws.specs.LiveLaws.{LiveListsStay}

-- a state that another one follows has the other's configuration and a prefix of its log
record Begins (a c : State) : Type 0 where
  config : c.config ≡ a.config
  log : take (length a.log) c.log ≡ a.log

-- a state that follows another one has that one's configuration, and a log that begins with that one's
begins : (a c : State) → Follows a c → Begins a c
begins a c (inl same) = subst (λ (s : State). Begins a s) same (record { config = refl; log = take-length a.log })
begins a c (inr follows) = record {
  config = follows.continues.config;
  log = ap (take (length a.log)) follows.continues.log ∙ take-append_seam a.log follows.continues.rest;
}

-- the live playlist of a configuration and a log
abbrev list_of : ℕ → ConfigData → List Entry → Option Playlist
list_of rendition config log = live_list_of (record { config = config; log = log; bytes = [] }) rendition

-- two states of one log with equally many events have the same live playlists
pub live-lists-stay : LiveListsStay
live-lists-stay a b c a_first b_first as_many rendition =
    let of_a : Begins a c = begins a c a_first in
    let of_b : Begins b c = begins b c b_first in
    ap₂ (list_of rendition) (sym of_b.config ∙ of_a.config) (sym of_b.log ∙ ap (λ (n : ℕ). take n c.log) as_many ∙ of_a.log)

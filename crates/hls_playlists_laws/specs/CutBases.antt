-- The base of a cut: what a process that continues the channel there counts from.
use Rattle.std.specs.Prelude.{ℕ, suc, ◌+◌, ◌-◌, List, [], ◌∷◌, ◌++◌, length, replicate}
use Rattle.hls_places_laws.specs.declared.place.Place.{Place}
use Rattle.hls_core_laws.specs.Base.{BaseData, bytes_before_base, run_limit}
use Rattle.hls_core_laws.specs.Channel.{Lane, lane}
use Rattle.hls_core_laws.specs.State.{State, channel}
use Rattle.hls_playlists_laws.specs.Handovers.{bytes_before}
use Rattle.hls_playlists_laws.specs.JoinedLists.{Offsets, offsets_of}
use Rattle.hls_playlists_laws.specs.BasedLists.{offsets_after, offsets_from}

-- the bytes before a cut, in the renditions from number r on
abbrev pub bytes_to : Place → BaseData → ℕ → List Lane → List ℕ
bytes_to cut base r [] = []
bytes_to cut base r (l ∷ lanes) = (bytes_before_base base r + bytes_before cut r l) ∷ bytes_to cut base (suc r) lanes

-- what precedes the cut in one rendition; only the bytes differ between renditions
abbrev pub offsets_to : State → ℕ → Place → ℕ → Offsets
offsets_to s n cut r = offsets_after (offsets_from s.config.base r) (offsets_of s n cut r (lane (channel s) r))

-- the base of the cut after n segments of a state's line: of its run, and with its version
abbrev pub base_of_cut : State → ℕ → Place → BaseData
base_of_cut s n cut = record {
  run = s.config.base.run;
  segments = (offsets_to s n cut 0).segments;
  marks = (offsets_to s n cut 0).marks;
  marked = (offsets_to s n cut 0).marked;
  bytes = bytes_to cut s.config.base 0 (channel s).lanes ++ replicate (run_limit - length (channel s).lanes) 0;
  version = s.config.base.version + length s.log;
}

-- The init sections with given tracks, and the units with given facts; and properties of all of them.
use Rattle.std.specs.Prelude.{◌≡◌, ℕ, ◌+◌, ◌<◌, ◌≤◌, ◌^◌, List, length, Result, Ok, Err, is_ok, true}
use Rattle.hls_time.specs.Times.{floor_us}
use Rattle.hls_media_laws.specs.declared.facts.Facts.{Facts}
use Rattle.hls_media_laws.specs.declared.fault.MediaFault.{MediaFault}
use Rattle.hls_media_laws.specs.declared.fault.MediaFault.TheVariants as faults
use Rattle.hls_media_laws.specs.InitData.{InitData, timing_track}
use Rattle.hls_media_laws.specs.Inits.{init_of}
use Rattle.hls_media_laws.specs.UnitFacts.{facts}

-- the bytes are exactly one init section, with this content
abbrev pub IsInit : List ℕ → InitData → Type 0
IsInit bytes init = init_of bytes ≡ Ok init

-- the bytes are exactly one unit, with these facts under the init section
abbrev pub IsUnit : InitData → List ℕ → Facts → Type 0
IsUnit init bytes f = facts init bytes ≡ Ok f

-- the facts of every unit are within these bounds
pub record AreBounded (f : Facts) (bytes : List ℕ) : Type 0 where
  pub some_time : f.start_us < f.end_us
  pub end_fits : f.start + f.duration < 2 ^ 64
  pub end_us_fits : f.end_us < 2 ^ 53
  pub len_is : f.len ≡ length bytes
  pub len_limit : f.len ≤ 67108864
  pub some_bytes : 0 < f.len
  pub start_us_is : f.start_us ≡ floor_us f.start f.scale
  pub end_us_is : f.end_us ≡ floor_us (f.start + f.duration) f.scale
  pub some_scale : 0 < f.scale

-- every init section is within these bounds
pub record IsBounded (init : InitData) (bytes : List ℕ) : Type 0 where
  pub some_bytes : 0 < length bytes
  pub len_limit : length bytes ≤ 1048576
  pub some_track : 0 < length init.tracks
  pub max_tracks : length init.tracks ≤ 8
  pub in_range : init.timing < length init.tracks
  pub some_scale : 0 < (timing_track init).scale

-- the facts of every unit are within their bounds
abbrev pub UnitsAreBounded : Type 0
UnitsAreBounded = (init : InitData) (bytes : List ℕ) (f : Facts) → IsUnit init bytes f → AreBounded f bytes

-- every init section is within its bounds
abbrev pub InitsAreBounded : Type 0
InitsAreBounded = (bytes : List ℕ) (init : InitData) → IsInit bytes init → IsBounded init bytes

-- the result of reading the bytes as an init section; `Memory` is possible instead of a value
abbrev pub ReadsAs : Result InitData MediaFault → Result InitData MediaFault → Type 0
ReadsAs (Ok init) defined = defined ≡ Ok init
ReadsAs (Err faults.Memory) defined = is_ok defined ≡ true
ReadsAs (Err fault) defined = defined ≡ Err fault

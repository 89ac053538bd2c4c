-- A fragment that is written is read again as it was.
use Rattle.std.specs.Prelude.{◌≡◌, ℕ, ◌^◌, ◌<◌, ◌≤◌, ◌==◌, true, false, Some, List, length, All}
use Rattle.std.specs.List.{concat}
use Rattle.hls_boxes.specs.Kinds.{unit_limit}
use Rattle.hls_media_laws.specs.Fields.{tfhd_fits}
use Rattle.hls_media_laws.specs.InitData.{InitData}
use Rattle.hls_mend_laws.specs.Fragments.{Fragment, IsLooseBox, HasFields, total_size, fragment_bytes}
use Rattle.hls_mend_laws.specs.FragmentsRead.{sidx_type, most_samples, fragment_of}

-- a loose box that isn't left out when it is read
pub record IsKeptBox (box : List ℕ) : Type 0 where
  pub loose : IsLooseBox box
  pub not_sidx : (loose.header.kind == sidx_type) ≡ false

-- each field has its width, and the samples fill the payload, have at least a byte each on average, and aren't too many
pub record IsComplete (f : Fragment) : Type 0 where
  pub boxes : List (List ℕ)
  pub each : All IsKeptBox boxes
  pub joined : f.front ≡ concat boxes
  pub number : f.number < 2 ^ 32
  pub head : tfhd_fits f.head ≡ true
  pub start : f.start < 2 ^ 64
  pub fields : All HasFields f.samples
  pub few : length f.samples ≤ length f.payload
  pub taken_apart : length f.samples ≤ most_samples
  pub filled : total_size f.samples ≡ length f.payload
  pub short : length (fragment_bytes f) ≤ unit_limit

-- a complete fragment that is written is read again as it was
abbrev pub FragmentsAreReadBack : Type 0
FragmentsAreReadBack = (init : InitData) (f : Fragment) → IsComplete f → fragment_of init (fragment_bytes f) ≡ Some f

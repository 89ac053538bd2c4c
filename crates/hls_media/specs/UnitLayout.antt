-- A walk over the top-level boxes of a unit.
-- For the proofs of this crate; no public clause cites it.
use Rattle.std.specs.Prelude.{◌≡◌, ℕ, ◌-◌, ◌≤◌, Option, Some, None, IfSome, option_and_then, List, length, drop, slice_range}
use Rattle.hls_boxes.specs.Boxes.{children}
use Rattle.hls_media_laws.specs.Layout.{Layout, layout_of_boxes, with_mdat, moov_of_boxes}
use Rattle.hls_media.specs.RisesBy.{RisesBy}
use Rattle.hls_media.specs.declared.unit.UnitLayout.{UnitLayout}
use Rattle.hls_media.specs.declared.unit.FoundMoof.{FoundMoof}

-- the layout of a unit with these positions
abbrev pub layout_of_spans : List ℕ → UnitLayout → Layout
layout_of_spans unit s = record { moof = slice_range unit s.from s.to; low = s.low; high = s.high }

-- the layout, by the boxes that remain after a `moof` or before it
abbrev pub layout_of_rest : List ℕ → Option FoundMoof → List ℕ → Option Layout
layout_of_rest unit None rest = option_and_then layout_of_boxes (children rest)
layout_of_rest unit (Some m) rest = option_and_then (with_mdat (slice_range unit m.from m.to) (length unit - length rest - m.begin)) (children rest)

-- the boxes before the rest were read: the `moof` that was found, if any, and the rest give the layout of the whole unit,
-- and at most one field was counted for each byte read
pub record HasScannedUnit (unit : List ℕ) (met : Option FoundMoof) (rest : List ℕ) (before now : ℕ) : Type 0 where
  pub value : option_and_then layout_of_boxes (children unit) ≡ layout_of_rest unit met rest
  pub within : length rest ≤ length unit
  pub rest_is : rest ≡ drop (length unit - length rest) unit
  pub met_is : IfSome met (λ m. (m.begin ≤ m.from) × (m.from ≤ m.to) × (m.to ≤ length unit - length rest))
  pub counted : RisesBy (length unit - length rest) before now

-- the boxes before the rest of an init section were read, and its `moov` is the one of the rest
pub record HasScannedInit (bytes rest : List ℕ) : Type 0 where
  pub value : option_and_then moov_of_boxes (children bytes) ≡ option_and_then moov_of_boxes (children rest)
  pub within : length rest ≤ length bytes
  pub rest_is : rest ≡ drop (length bytes - length rest) bytes

-- The bodies that are made.
use Rattle.std.specs.Prelude.{◌≡◌, ℕ, ◌<◌, ◌^◌, List, [], ◌∷◌, ◌++◌, length}
use Rattle.byteorder.specs.Endian.{little_bytes}
use Rattle.hls_core_laws.specs.declared.event.Event.{Event}
use Rattle.hls_core_laws.specs.declared.event.Event.TheVariants.{Begin, Accept, Finish, Slide, Trim}
use Rattle.hls_journal_laws.specs.Bodies.{kind_in, worker_in, rendition_in, init_section_in, number_in, IsAside}
use Rattle.hls_journal_laws.specs.Heads.{IsHead}
use Rattle.hls_journal_laws.specs.Restored.{unit_checksum}
use Rattle.hls_journal_laws.specs.Written.{IsUnitRecord}

-- the record of an event, whose unit is at this offset
abbrev pub IsRecordAt : ℕ → Event → List ℕ → Type 0
IsRecordAt at (Begin r init bytes) body = (kind_in body ≡ 1) × (rendition_in body ≡ r) × (init_section_in body ≡ bytes)
IsRecordAt at (Accept r f bytes) body = (kind_in body ≡ 2) × (rendition_in body ≡ r) × IsUnitRecord at bytes body
IsRecordAt at (Finish r) body = (kind_in body ≡ 3) × (rendition_in body ≡ r)
IsRecordAt at (Slide count) body = (kind_in body ≡ 4) × (number_in body ≡ count) × (length body ≡ 12)
IsRecordAt at (Trim r floor) body = (kind_in body ≡ 5) × (rendition_in body ≡ r) × (number_in body ≡ floor) × (length body ≡ 12)

-- the body of the record of a worker's event, whose unit, if it has one, is at offset `at` of its rendition's resource
abbrev pub IsBodyOf : ℕ → ℕ → Event → List ℕ → Type 0
IsBodyOf by at event body = (worker_in body ≡ by) × IsRecordAt at event body

-- the body of a record that is of no event
abbrev pub IsAsideBody : List ℕ → Type 0
IsAsideBody body = IsAside body

-- the first four bytes of a body: the kind, the worker, the rendition
abbrev pub body_start : ℕ → ℕ → ℕ → List ℕ
body_start kind by r = (kind ∷ []) ++ little_bytes 2 by ++ (r ∷ [])

-- the body of a unit's record
pub record IsUnitBody (by r at : ℕ) (unit body : List ℕ) : Type 0 where
  pub head : List ℕ
  pub rest : List ℕ
  pub split : unit ≡ head ++ rest
  pub is_head : IsHead head (length rest)
  pub short : length unit < 2 ^ 32
  pub is : body ≡ body_start 2 by r ++ little_bytes 4 (length unit) ++ unit_checksum at unit ++ head

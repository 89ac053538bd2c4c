-- The sample channels.
use Rattle.std.specs.Prelude.{◌≡◌, ℕ, ℤ, Bool, true, List, Option, map}
use Rattle.hls_core_laws.specs.Base.{no_base}
use Rattle.hls_core_laws.specs.declared.event.Event.{Event}
use Rattle.hls_core_laws.specs.declared.event.Event.TheVariants.{Begin, Accept, Finish, Slide, Trim}
use Rattle.hls_core_laws.specs.declared.rendition.Rendition.{Rendition}
use Rattle.hls_core_laws.specs.Config.{ConfigData}
use Rattle.hls_core_laws.specs.State.{State}
use Rattle.hls_core_laws.specs.Moves.{state_with_entry}

abbrev pub rendition_of : List ℕ → Bool → ℕ → Rendition
rendition_of name video tolerance = record { name = name; video = video; bandwidth = 3000000; tolerance = tolerance }

abbrev pub config_of : List Rendition → Option ℤ → ConfigData
config_of renditions epoch = record { target = 6; preferred = 4000000; renditions = renditions; epoch = epoch; base = no_base }

-- an init section of a rendition with these bytes
abbrev pub IsBeginEvent : ℕ → List ℕ → Event → Type 0
IsBeginEvent r bytes (Begin at init b) = (at ≡ r) × (b ≡ bytes)
IsBeginEvent r bytes other = ⊥

-- a unit of a rendition with these bytes
abbrev pub IsAcceptEvent : ℕ → List ℕ → Event → Type 0
IsAcceptEvent r bytes (Accept at f b) = (at ≡ r) × (b ≡ bytes)
IsAcceptEvent r bytes other = ⊥

-- the second state is the first after one more event, which has this property
abbrev pub FollowsByEvent : State → (Event → Type 0) → State → Type 0
FollowsByEvent before Is after = (event : Event) × Is event × (after ≡ state_with_entry before 0 event)

-- The log of a renewed channel.
use Rattle.std.specs.Prelude.{◌≡◌, ℕ, zero, suc, ◌+◌, ◌-◌, Bool, true, false, Option, Some, None, List, [], ◌∷◌, ◌++◌, length, slice_get}
use Rattle.hls_media_laws.specs.declared.facts.Facts.{Facts}
use Rattle.hls_record.specs.RecordingData.{RecordingData, offset_at, unit_at}
use Rattle.hls_check_tables.specs.declared.spot.Spot.{Spot}
use Rattle.hls_check_tables.specs.Tables.{spot_in}
use Rattle.hls_places_laws.specs.declared.place.Place.{Place}
use Rattle.hls_core_laws.specs.declared.event.Event.{Event}
use Rattle.hls_core_laws.specs.declared.event.Event.TheVariants.{Begin, Accept, Finish, Slide}
use Rattle.hls_core_laws.specs.Base.{IsBase, bytes_before_base}
use Rattle.hls_core_laws.specs.State.{State}
use Rattle.hls_core_laws.specs.Line.{line}
use Rattle.hls_core_laws.specs.Outcome.{New, outcome_of}
use Rattle.hls_core_laws.specs.Runs.{first_state, next_state, replayed_state}
use Rattle.hls_core.specs.Bases.{IsNoBase, config_after}
use Rattle.hls_core.specs.Getters.{recording_of, finished_at}
use Rattle.hls_playlists_laws.specs.CutBases.{base_of_cut}
use Rattle.hls_renewal.specs.declared.line_cut.LineCut.{LineCut}
use Rattle.hls_renewal.specs.declared.renewal.RenewFault.{RenewFault}
use Rattle.hls_renewal.specs.declared.renewal.RenewFault.TheVariants.{Memory, NoCut, NoBase}
use Rattle.hls_renewal.specs.Cuts.{first_cut}

-- the accept event of a unit, and more events after it; no event at all if the unit's facts or its bytes are missing
abbrev pub with_unit : ℕ → Option Facts → Option (List ℕ) → List (ℕ × Event) → List (ℕ × Event)
with_unit r None unit more = []
with_unit r (Some f) None more = []
with_unit r (Some f) (Some unit) more = (0, Accept r f unit) ∷ more

-- at most this many units of a recording from number n on, as far as they are kept
abbrev pub units_from : ℕ → RecordingData → ℕ → ℕ → List (ℕ × Event)
units_from r rec n zero = []
units_from r rec n (suc count) = with_unit r (slice_get rec.facts n) (unit_at rec n) (units_from r rec (suc n) count)

-- the init section of a rendition, and its units from a number on
abbrev pub media_from : ℕ → Option RecordingData → ℕ → List (ℕ × Event)
media_from r None n = []
media_from r (Some rec) n = (0, Begin r rec.init rec.head) ∷ units_from r rec n (length rec.facts - n)

-- the finish event of a rendition that is finished, else no event
abbrev pub end_of : ℕ → Option Bool → List (ℕ × Event)
end_of r None = []
end_of r (Some true) = (0, Finish r) ∷ []
end_of r (Some false) = []

-- the events of a rendition: its init section, its units from number n on, and its end
abbrev pub rendition_from : State → ℕ → ℕ → List (ℕ × Event)
rendition_from s r n = media_from r (recording_of s r) n ++ end_of r (finished_at s r)

-- the renditions from number r on, each from its spot
abbrev pub renditions_from : State → ℕ → List Spot → List (ℕ × Event)
renditions_from s r [] = []
renditions_from s r (spot ∷ spots) = rendition_from s r spot.fragment ++ renditions_from s (suc r) spots

-- a slide by n segments; no event if n is 0
abbrev pub slide_by : ℕ → List (ℕ × Event)
slide_by zero = []
slide_by (suc n) = (0, Slide (suc n)) ∷ []

-- the renditions from a cut on, and the slide from there to the front of the line
abbrev pub renewal_events : State → LineCut → List (ℕ × Event)
renewal_events s cut = renditions_from s 0 cut.place.spots ++ slide_by ((line s).removed - cut.segments)

-- the state before the events of a renewal: the old configuration with the base of the cut, and an empty log
abbrev pub renewal_start : State → LineCut → State
renewal_start s cut = first_state (config_after s.config (base_of_cut s cut.segments cut.place))

-- each event is new in the state that it meets
abbrev pub AreNew : State → List (ℕ × Event) → Type 0
AreNew s [] = Unit {0}
AreNew s (e ∷ es) = (outcome_of s e.1 ≡ New) × AreNew (next_state s e.0 e.1) es

-- `next` is the renewal of `s`: its log begins at the first cut at which one may begin
pub record Renews (s next : State) : Type 0 where
  pub cut : LineCut
  pub first : first_cut s ≡ Some cut
  pub base : IsBase (base_of_cut s cut.segments cut.place)
  pub new : AreNew (renewal_start s cut) (renewal_events s cut)
  pub is : next ≡ replayed_state (renewal_start s cut) (renewal_events s cut)

-- why a state can't be renewed: an allocation failed, there is no cut, or the base of the cut exceeds a limit
abbrev pub IsRenewFault : State → RenewFault → Type 0
IsRenewFault s Memory = Unit {0}
IsRenewFault s NoCut = first_cut s ≡ None
IsRenewFault s NoBase = (cut : LineCut) × (first_cut s ≡ Some cut) × IsNoBase (base_of_cut s cut.segments cut.place)

-- the bytes of a recording's units before number n
abbrev pub units_before : RecordingData → ℕ → ℕ
units_before rec n = offset_at rec n - offset_at rec 0

-- `before`, and the bytes of a recording's units before number n if the rendition has begun
abbrev pub units_before_in : ℕ → Option RecordingData → ℕ → ℕ
units_before_in before None n = before
units_before_in before (Some rec) n = before + units_before rec n

-- the bytes of units of a rendition before a place, with those of earlier logs
abbrev pub bytes_before_cut : State → Place → ℕ → ℕ
bytes_before_cut s p r = units_before_in (bytes_before_base s.config.base r) (recording_of s r) (spot_in p.spots r).fragment

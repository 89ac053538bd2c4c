-- A stream that has ended had an init section.
use Rattle.std.proofs.Common.{◌≡◌, ◌∙◌, ℕ, Option, Some, None, Result, Ok, Bool, IsSome, length, slice_get, refl, ap, subst, rules}
use Rattle.hls_media_laws.specs.InitData.{InitData}
use Rattle.hls_record.specs.RecordingData.{RecordingData}
use Rattle.hls_core_laws.specs.declared.event.Event.TheVariants.{Finish}
use Rattle.hls_core_laws.specs.declared.event.LoggedEvent.TheVariants.{Finished}
use Rattle.hls_core_laws.specs.Channel.{Channel, Lane}
use Rattle.hls_core_laws.specs.State.{HeldBytes, State, channel}
use Rattle.hls_core_laws.specs.Outcome.{Outcome, New, Repeated, Refused, finish, finish_with_init, held_bytes, outcome_of}
use Rattle.hls_core_laws.specs.Moves.{state_with_entry}
use Rattle.hls_core_laws.proofs.Callers.{may_add, channel_advanced, Finishes, finishes, lane_after}
use Rattle.hls_core.specs.Getters.{recorded_at, recorded_from, recording_of}
use Rattle.hls_commands.specs.declared.listing_fault.ListingFault.{ListingFault}
use Rattle.hls_commands.specs.declared.listing_mode.ListingOutput.{ListingOutput}
use Rattle.hls_commands.specs.Listings.{IsSingle, Lists}
use Rattle.hls_commands.specs.Channel.{listing_mode_of}
use Rattle.hls_settings.specs.Options.{CutOptionsData}
use Rattle.hls_commands.specs.RecordedState.{state_at_end, state_by_outcome}
use Rattle.hls_commands.specs.CutRun.{IsListing}

-- the rendition of a state has begun: it has a recording
pub record IsBegun (s : State) : Type 0 where
  pub recorded : RecordingData
  pub is : recording_of s 0 ≡ Some recorded

-- a lane with an init section has a recording
recorded_init : (i : Option InitData) (l : Lane) (h : HeldBytes) (init : InitData) → i ≡ Some init → (r : RecordingData) × (recorded_from i l h ≡ Some r)
recorded_init None l h init is = cc
recorded_init (Some j) l h init is = (record { init = j; head = h.head; facts = l.facts; floor = l.floor; units = h.units }, refl)

-- .. if the lane is there
begun_lane : (o : Option Lane) (h : HeldBytes) (l : Lane) (init : InitData) → o ≡ Some l → l.init ≡ Some init → (r : RecordingData) × (recorded_at o h ≡ Some r)
begun_lane None h l init is begun = cc
begun_lane (Some k) h l init is begun =
    let same : k ≡ l = cc in
    recorded_init k.init k h init (ap (λ (x : Lane). x.init) same ∙ begun)

-- the rendition of a state whose lane has an init section has begun
begun_at : (s : State) (l : Lane) (init : InitData) → slice_get (channel s).lanes 0 ≡ Some l → l.init ≡ Some init → IsBegun s
begun_at s l init is begun =
    let found = begun_lane (slice_get (channel s).lanes 0) (held_bytes s 0) l init is begun in
    record { recorded = found.0; is = found.1 }

-- if finishing the rendition is new, it has begun in the state after that
begun_new : (s : State) → outcome_of s (Finish 0) ≡ New → IsBegun (state_with_entry s 0 (Finish 0))
begun_new s is =
    let cause : Finishes (slice_get (channel s).lanes 0) (length s.log) = finishes (slice_get (channel s).lanes 0) (length s.log) is in
    let grown = lane_after s.config (channel s) (Finished 0) (may_add s (Finish 0) tt is) 0 cause.lane cause.at in
    begun_at (state_with_entry s 0 (Finish 0)) grown.lane cause.init
    (ap (λ (ch : Channel). slice_get ch.lanes 0) (channel_advanced s 0 (Finish 0)) ∙ grown.at) (grown.grows.init cause.init cause.begun).0

-- if finishing the rendition is repeated, its lane has an init section
again_init : (i : Option InitData) (finished : Bool) (entries : ℕ) → finish_with_init i finished entries ≡ Repeated → (init : InitData) × (i ≡ Some init)
again_init None finished entries is = cc
again_init (Some j) finished entries is = (j, refl)

-- if finishing the rendition is repeated, its lane is there and has an init section
again_lane : (o : Option Lane) (entries : ℕ) → finish o entries ≡ Repeated → (l : Lane) × (init : InitData) × (o ≡ Some l) × (l.init ≡ Some init)
again_lane None entries is = cc
again_lane (Some l) entries is = let found = again_init l.init l.finished entries is in (l, found.0, refl, found.1)

-- if finishing the rendition is repeated, it has begun
begun_again : (s : State) → outcome_of s (Finish 0) ≡ Repeated → IsBegun s
begun_again s is =
    let found = again_lane (slice_get (channel s).lanes 0) (length s.log) is in
    begun_at s found.0 found.1 found.2 found.3

-- if finishing the rendition is accepted, it has begun in the state after that
begun_by : (s new : State) (outcome : Outcome) → outcome_of s (Finish 0) ≡ outcome → state_by_outcome outcome (state_with_entry s 0 (Finish 0)) s ≡ Ok new → IsBegun new
begun_by s new New is then =
    let same : state_with_entry s 0 (Finish 0) ≡ new = cc in
    subst IsBegun same (begun_new s is)
begun_by s new Repeated is then =
    let same : s ≡ new = cc in
    subst IsBegun same (begun_again s is)
begun_by s new (Refused r) is then = cc

-- the rendition of a stream that ended has begun
pub ended_is_begun : (s new : State) → state_at_end s ≡ Ok new → IsBegun new
unfolding state_at_end
ended_is_begun s new is = begun_by s new (outcome_of s (Finish 0)) refl is

-- an option that is some value is there
some_is : {A : Type 0} (o : Option A) (a : A) → o ≡ Some a → IsSome o
some_is None a is = cc
some_is (Some b) a is = search rules

-- the state at the end of a stream into one rendition has one rendition, and it has begun
pub ended_is_single : (s new : State) → length new.config.renditions ≡ 1 → state_at_end s ≡ Ok new → IsSingle new
ended_is_single s new one is = let begun = ended_is_begun s new is in record { one = one; begun = some_is (recording_of new 0) begun.recorded begun.is }

-- a listing of the state at the end of a stream is the listing by the options
pub ended_is_listed : (choice : CutOptionsData) (s new : State) (result : Result ListingOutput ListingFault) → state_at_end s ≡ Ok new → Lists new choice.uri (listing_mode_of choice) result → IsListing choice new result
ended_is_listed choice s new result is lists = let begun = ended_is_begun s new is in record { recording = begun.recorded; begun = begun.is; lists = lists begun.recorded begun.is }

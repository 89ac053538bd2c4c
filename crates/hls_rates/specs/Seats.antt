-- The places of a rendition: which bodies have one, which may take one, and which are woken.
use Rattle.std.specs.Prelude.{◌≡◌, ◌⊎◌, ℕ, ◌+◌, ◌^◌, ◌%◌, ◌<◌, Bool, true, false, not, cond, ◌&&◌, ◌||◌, ◌==◌, max, List, length, map, slice_set, slice_get, All, Some}
use Rattle.std.specs.List.{list_any}
use Rattle.hls_rates.specs.declared.place.Place.{Place}
use Rattle.hls_rates.specs.declared.place.UnitSize.{UnitSize}
use Rattle.hls_rates.specs.declared.place.UnitSize.TheVariants as sizes
use Rattle.hls_rates.specs.declared.places.Places.{Places}
use Rattle.hls_rates.specs.declared.share.BodyShare.{BodyShare}
use Rattle.hls_rates.specs.Places.{may_take_place, place_left_by, size_of_unit}

-- a place is that of this ticket
abbrev pub is_holder : ℕ → Place → Bool
is_holder ticket p = p.holder == ticket

-- the body with this ticket has a place
abbrev pub has_place : ℕ → Places → Bool
has_place ticket p = p.large.holder == ticket || list_any (is_holder ticket) p.small

-- a place is free, and a body may take it
abbrev pub is_free_for : Bool → ℕ → ℕ → Place → Bool
is_free_for was_slow patience now p = p.holder == 0 && may_take_place was_slow patience now p

-- at this index is a place that may be taken
pub record IsTakenAt (was_slow : Bool) (patience now : ℕ) (places : List Place) (at : ℕ) : Type 0 where
  pub place : Place
  pub within : at < length places
  pub there : slice_get places at ≡ Some place
  pub may : may_take_place was_slow patience now place ≡ true

-- at this index is a place that is free and may be taken
pub record IsFreeAt (was_slow : Bool) (patience now : ℕ) (places : List Place) (at : ℕ) : Type 0 where
  pub place : Place
  pub within : at < length places
  pub there : slice_get places at ≡ Some place
  pub may : is_free_for was_slow patience now place ≡ true

-- at this index is a place that may be taken, and a free one if there is any
pub record IsFoundAt (was_slow : Bool) (patience now : ℕ) (places : List Place) (at : ℕ) : Type 0 where
  pub may : IsTakenAt was_slow patience now places at
  pub free_first : All (λ p. is_free_for was_slow patience now p ≡ false) places ⊎ IsFreeAt was_slow patience now places at

-- the ticket after this one; 0 is none
abbrev pub next_ticket : ℕ → ℕ
next_ticket ticket = max ((ticket + 1) % 2 ^ 64) 1

-- a place that a body with this ticket has from now on
abbrev pub place_of : ℕ → ℕ → Place
place_of ticket now = record { holder = ticket; since_ms = now }

-- the share with this ticket
abbrev pub share_with : ℕ → BodyShare → BodyShare
share_with ticket s = record {
  rendition = s.rendition;
  received = s.received;
  incomplete = s.incomplete;
  ticket = ticket;
  was_slow = s.was_slow;
  needs_place = s.needs_place;
  number = s.number;
}

-- the places once the body with this ticket left them: its own are free, and those that wait are woken
abbrev pub places_left : ℕ → ℕ → Places → Places
places_left ticket now p = cond (ticket == 0) p (record {
  small = map (place_left_by ticket now) p.small;
  large = place_left_by ticket now p.large;
  last_ticket = p.last_ticket;
  is_wanted = false;
})

-- a body is woken once that with this ticket leaves its places: one waits
abbrev pub wakes : ℕ → Places → Bool
wakes ticket p = cond (ticket == 0) false p.is_wanted

-- a body without a place takes a small one: one that may be taken, and a free one if there is any
pub record TakesSmall (patience now : ℕ) (before : Places) (share : BodyShare) (after : Places) (new : BodyShare) : Type 0 where
  pub at : ℕ
  pub found : IsFoundAt share.was_slow patience now before.small at
  pub small : after.small ≡ slice_set before.small at (place_of (next_ticket before.last_ticket) now)
  pub large : after.large ≡ before.large
  pub issued : after.last_ticket ≡ next_ticket before.last_ticket
  pub wanted : after.is_wanted ≡ before.is_wanted
  pub share_is : new ≡ share_with (next_ticket before.last_ticket) share

-- a body has the large place
abbrev pub has_large : BodyShare → Places → Bool
has_large s p = not (s.ticket == 0) && p.large.holder == s.ticket

-- a body may take the large place
abbrev pub may_take_large : ℕ → ℕ → BodyShare → Places → Bool
may_take_large patience now s p = may_take_place s.was_slow patience now p.large

-- the places once a body took the large one, and left its own
abbrev pub large_taken : ℕ → BodyShare → Places → Places
large_taken now s p = record {
  small = (places_left s.ticket now p).small;
  large = place_of (next_ticket p.last_ticket) now;
  last_ticket = next_ticket p.last_ticket;
  is_wanted = (places_left s.ticket now p).is_wanted;
}

-- a body that lost its place to another one has none, and was slow
abbrev pub checked_share : Places → BodyShare → BodyShare
checked_share p s = cond (not (s.ticket == 0) && not (has_place s.ticket p)) (record {
  rendition = s.rendition;
  received = s.received;
  incomplete = s.incomplete;
  ticket = 0;
  was_slow = true;
  needs_place = s.needs_place;
  number = s.number;
}) s

-- a tiny unit needs no place: what the body has is free, and one that waits is woken
abbrev pub SeatsTiny : ℕ → Places → BodyShare → Places → BodyShare → Bool → Bool → Type 0
SeatsTiny now before share after new seated woken =
    (after ≡ places_left share.ticket now before) × (new ≡ share_with 0 share) × (seated ≡ true) × (woken ≡ wakes share.ticket before)

-- what a body had before and has after is the same
abbrev pub IsSameSeat : Places → BodyShare → Places → BodyShare → Type 0
IsSameSeat before share after new = (after ≡ before) × (new ≡ share)

-- a small unit keeps the place that its body has; otherwise it takes one, or waits if none may be taken
abbrev pub SeatsSmall : ℕ → ℕ → Places → BodyShare → Places → BodyShare → Bool → Bool → Type 0
SeatsSmall patience now before share after new seated woken =
    ((share.ticket ≡ 0 → ⊥) → (seated ≡ true) × IsSameSeat before share after new)
    × (seated ≡ false → All (λ p. may_take_place share.was_slow patience now p ≡ false) before.small × IsSameSeat before share after new)
    × (share.ticket ≡ 0 → seated ≡ true → TakesSmall patience now before share after new)
    × (woken ≡ false)

-- a large unit keeps the large place; otherwise it takes it and leaves its own, for which one that waits is woken; or it waits
abbrev pub SeatsLarge : ℕ → ℕ → Places → BodyShare → Places → BodyShare → Bool → Bool → Type 0
SeatsLarge patience now before share after new seated woken =
    (has_large share before ≡ true → (seated ≡ true) × (woken ≡ false) × IsSameSeat before share after new)
    × (has_large share before ≡ false → may_take_large patience now share before ≡ false → (seated ≡ false) × (woken ≡ false) × IsSameSeat before share after new)
    × (has_large share before ≡ false → may_take_large patience now share before ≡ true
    → (seated ≡ true) × (woken ≡ wakes share.ticket before) × (after ≡ large_taken now share before) × (new ≡ share_with after.last_ticket share))

-- a body whose place was checked gets what its incomplete unit needs, by its size
abbrev pub SeatsBody : UnitSize → ℕ → ℕ → Places → BodyShare → Places → BodyShare → Bool → Bool → Type 0
SeatsBody sizes.Tiny patience now before share after new seated woken = SeatsTiny now before share after new seated woken
SeatsBody sizes.Small patience now before share after new seated woken = SeatsSmall patience now before share after new seated woken
SeatsBody sizes.Large patience now before share after new seated woken = SeatsLarge patience now before share after new seated woken

-- A body gets what its incomplete unit needs once it is known whether it lost its place. If it has to wait, a body that leaves a place wakes
-- those that wait.
pub record SeatsChecked (patience now : ℕ) (before : Places) (share : BodyShare) (after : Places) (new : BodyShare) (woken : Bool) : Type 0 where
  pub between : Places
  pub got : BodyShare
  pub seated : Bool
  pub body : SeatsBody (size_of_unit (checked_share before share).incomplete) patience now before (checked_share before share) between got seated woken
  pub places : after ≡ record { small = between.small; large = between.large; last_ticket = between.last_ticket; is_wanted = between.is_wanted || not seated }
  pub share_is : new ≡ record {
    rendition = got.rendition;
    received = got.received;
    incomplete = got.incomplete;
    ticket = got.ticket;
    was_slow = got.was_slow;
    needs_place = not seated;
    number = got.number;
  }

-- One wrong clock, or all renditions jumping: a unit that is far ahead of the whole channel.
use Rattle.std.specs.Prelude.{◌≡◌, ℕ, ◌+◌, nat_lt, true, false, Bool, ◌||◌, not, List, ◌∷◌, ◌++◌, All}
use Rattle.std.specs.List.{list_all}
use Rattle.hls_mend_laws.specs.declared.presence.Presence.{Presence}

-- a unit that starts more than `fill_us` after the channel's end is ahead of the channel
abbrev pub is_ahead_of : ℕ → ℕ → ℕ → Bool
is_ahead_of fill_us newest_end_us start_us = nat_lt (newest_end_us + fill_us) start_us

-- a rendition is away if its encoder wasn't heard for more than `wait_us`
abbrev pub is_away : ℕ → ℕ → Presence → Bool
is_away wait_us now_us p = nat_lt (p.heard_us + wait_us) now_us

-- a rendition allows a jump if it isn't open, if it is ahead itself, or if it is away
abbrev pub allows_jump : ℕ → ℕ → Presence → Bool
allows_jump wait_us now_us p = not p.is_open || (p.is_ahead || is_away wait_us now_us p)

-- a unit that is ahead is accepted, with a discontinuity, if all other renditions allow it
unfoldable pub is_accepted_jump : ℕ → ℕ → List Presence → Bool
is_accepted_jump wait_us now_us others = list_all (allows_jump wait_us now_us) others

-- the encoder's state after a unit that was refused as ahead of the channel
abbrev pub after_refusal : Presence → Presence
after_refusal p = record p { is_ahead = true }

-- the encoder's state after any other unit, which arrived at `now_us`
abbrev pub after_unit : ℕ → Presence → Presence
after_unit now_us p = record p { heard_us = now_us; is_ahead = false }

-- the rendition is open, and its encoder was heard within `wait_us` and isn't ahead: the channel continues without a jump
pub record Continues (wait_us now_us : ℕ) (p : Presence) : Type 0 where
  pub begun : p.is_open ≡ true
  pub in_place : p.is_ahead ≡ false
  pub heard : is_away wait_us now_us p ≡ false

-- one wrong clock can't stop the others: while another rendition continues, the jump is refused
abbrev pub OneClockIsRefused : Type 0
OneClockIsRefused =
    (wait_us now_us : ℕ) (before after : List Presence) (p : Presence) → Continues wait_us now_us p
    → is_accepted_jump wait_us now_us (before ++ p ∷ after) ≡ false

-- a rendition allows a jump: it isn't open, was refused as ahead, or is away
abbrev pub HasJumped : ℕ → ℕ → Presence → Type 0
HasJumped wait_us now_us p = (allows_jump wait_us now_us p ≡ true)

-- when all have jumped nobody waits for another: once every other rendition was refused or is away, the jump is accepted
abbrev pub AllJumpIsAccepted : Type 0
AllJumpIsAccepted =
    (wait_us now_us : ℕ) (others : List Presence) → All (HasJumped wait_us now_us) others → is_accepted_jump wait_us now_us others ≡ true

-- a refusal counts as a jump at once
abbrev pub RefusalIsJump : Type 0
RefusalIsJump = (wait_us now_us : ℕ) (p : Presence) → allows_jump wait_us now_us (after_refusal p) ≡ true

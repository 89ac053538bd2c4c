-- A jump of one rendition is refused while another continues, and accepted once all others have jumped or are away.
use Rattle.std.proofs.Common.{◌≡◌, ◌∙◌, Bool, true, false, ◌&&◌, ◌||◌, not, [], ◌∷◌, refl, ap}
use Rattle.std.proofs.lemmas.List.Elements.{All-head, All-tail}
use Rattle.hls_mend_laws.specs.Jumps.{allows_jump, is_accepted_jump, OneClockIsRefused, HasJumped, AllJumpIsAccepted, RefusalIsJump}

and-false : (b : Bool) → (b && false) ≡ false
and-false true = refl
and-false false = refl

or-true : (b : Bool) → (b || true) ≡ true
or-true true = refl
or-true false = refl

-- while another rendition continues, a jump is refused
pub one-clock-is-refused : OneClockIsRefused
unfolding is_accepted_jump
one-clock-is-refused wait_us now_us [] after p goes =
    let stays : allows_jump wait_us now_us p ≡ false = rw (goes.begun, goes.in_place, goes.heard) refl in
    rw stays refl
one-clock-is-refused wait_us now_us (q ∷ before) after p goes =
    let more = one-clock-is-refused wait_us now_us before after p goes in
    ap (λ b. allows_jump wait_us now_us q && b) more ∙ and-false (allows_jump wait_us now_us q)

-- once all other renditions have jumped, are away or aren't open, a jump is accepted
pub all-jump-is-accepted : AllJumpIsAccepted
unfolding is_accepted_jump
all-jump-is-accepted wait_us now_us [] each = refl
all-jump-is-accepted wait_us now_us (p ∷ others) each =
    let here : allows_jump wait_us now_us p ≡ true = All-head (HasJumped wait_us now_us) p others each in
    let more = all-jump-is-accepted wait_us now_us others (All-tail (HasJumped wait_us now_us) p others each) in
    rw here more

-- a rendition that was refused as ahead allows a jump at once
pub refusal-is-jump : RefusalIsJump
refusal-is-jump wait_us now_us p = or-true (not p.is_open)

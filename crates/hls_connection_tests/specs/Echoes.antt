-- What a connection sends that echoes what it receives.
use Rattle.std.proofs.Common.{◌≡◌, ◌∙◌, ℕ, Bool, false, cond, List, [], ◌++◌, ◌||◌, sym, ap, append_assoc, append-nil}
use Rattle.std.proofs.Math.Bool.{or-false, or_assoc}
use Rattle.hls_event_loop.specs.Traffic.{Traffic, followed_by, no_traffic}

-- the bytes to send: none while they are held
abbrev pub to_send : Bool → List ℕ → List ℕ
to_send held unsent = cond held [] unsent

-- unsent and received bytes were sent or are unsent, and the end of input was read before or is now
abbrev pub Echoes : List ℕ → Bool → Traffic → List ℕ → Bool → Type 0
Echoes unsent_before ended t unsent ends = (unsent_before ++ t.received ≡ t.sent ++ unsent) × (ends ≡ (ended || t.ended))

pub echo_unchanged : (unsent : List ℕ) (ended : Bool) → Echoes unsent ended no_traffic unsent ended
echo_unchanged unsent ended = (append-nil unsent, sym (or-false ended))

pub echo_composed : (u v w : List ℕ) (x y z : Bool) (s t : Traffic) → Echoes u x s v y → Echoes v y t w z → Echoes u x (followed_by s t) w z
echo_composed u v w x y z s t first second = (
  sym (append_assoc u s.received t.received) ∙ ap (λ (l : List ℕ). l ++ t.received) first.0 ∙ append_assoc s.sent v t.received
      ∙ ap (λ (l : List ℕ). s.sent ++ l) second.0 ∙ sym (append_assoc s.sent t.sent w),
  second.1 ∙ ap (λ (e : Bool). e || t.ended) first.1 ∙ or_assoc x s.ended t.ended,
)

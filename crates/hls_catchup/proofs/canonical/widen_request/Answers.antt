-- The places' times are those of the programme's first and last place.
use Rattle.std.proofs.Common.{◌≡◌, ◌∙◌, ◌+◌, ◌-◌, ℕ, ap, subst, sym}
use Rattle.hls_blocks.specs.Numbered.{Numbered}
use Rattle.hls_places_laws.specs.declared.place.Place.{Place}
use Rattle.hls_places_laws.specs.Programmes.{time_at}
use Rattle.hls_core_laws.specs.Places.{places}
use Rattle.hls_core_laws.specs.State.{State}
use Rattle.hls_catchup.specs.Canonical.{IsCanonical, with_times}
use Rattle.hls_catchup.specs.declared.programme.Programme.{Programme}
use Rattle.hls_catchup.proofs.CanonicalTimes.{are-canonical}
use Rattle.hls_catchup.proofs.canonical.widen_request.Goals as goal

pub returns : goal.returns
returns c =
    let s : State = c.args.snapshot.now in
    let p : Programme = c.args.programme.now in
    let value = c.places-places.ensures.value in
    let first : c.time_of_place.result ≡ time_at (places s) p.from = c.time_of_place.ensures ∙ ap (λ (k : Numbered Place). time_at k.items p.from) value in
    let last : c.time_of_place-2.result ≡ time_at (places s) (p.from + p.count - 1) =
    c.time_of_place-2.ensures ∙ ap (λ (k : Numbered Place). time_at k.items (p.from + p.count - 1)) value in
    subst (IsCanonical s c.args.request)
    (ap (λ (n : ℕ). with_times c.args.request n (time_at (places s) (p.from + p.count - 1))) (sym first) ∙ ap (λ (n : ℕ). with_times c.args.request c.time_of_place.result n) (sym last))
    (are-canonical s c.places-places.ensures.valid c.args.request p c.requires)

-- The one rendition of a stream fits a channel.
use Rattle.std.proofs.Common.{◌≡◌, ◌<◌, ℕ, zero, suc, [], ◌∷◌, Some, slice_get, inl, inr, refl, sym, subst, arith, rules}
use Rattle.hls_core_laws.specs.declared.rendition.Rendition.{Rendition}
use Rattle.hls_core_laws.specs.Config.{IsName, IsRendition, IsRenditionAt}
use Rattle.hls_core.specs.FirstBad.{IsBadAt, IsFirstBadRendition}
use Rattle.hls_commands.specs.Channel.{stream_rendition}

-- the name of a stream's rendition is valid
its_name : IsName stream_rendition.name
its_name = record { some = omega arith; short = omega arith; spelled = search rules }

-- the rendition is valid as the only one of a channel
fits : IsRenditionAt (stream_rendition ∷ []) 0 stream_rendition
fits = record {
  own = record { name = its_name; some = omega arith; bandwidth = omega arith; tolerance = omega arith };
  first = λ _. refl;
  name = λ k other before at. absurd (omega (arith, before));
}

-- no rendition of this channel is invalid
not_bad : (n : ℕ) → IsBadAt (stream_rendition ∷ []) n → ⊥
not_bad zero bad =
    let same : stream_rendition ≡ bad.rendition = cc (bad.at) in
    bad.bad (subst (λ (r : Rendition). IsRenditionAt (stream_rendition ∷ []) 0 r) same fits)
not_bad (suc n) bad = cc (bad.at)

-- the channel of this one rendition has no first invalid rendition
pub is_no_bad : (n : ℕ) → IsFirstBadRendition (stream_rendition ∷ []) n → ⊥
is_no_bad n (inl none) = cc (none.0)
is_no_bad n (inr (inl bad)) = not_bad n bad
is_no_bad n (inr (inr more)) = absurd (omega (arith, more.there))

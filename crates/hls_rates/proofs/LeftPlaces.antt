-- Places after a body left them, one after the other.
use Rattle.std.proofs.Common.{◌≡◌, ◌∙◌, ◌<◌, ◌+◌, ℕ, List, [], ◌∷◌, ◌++◌, length, map, take, set, get_or, ap, sym, arith}
use Rattle.std.proofs.lemmas.List.{length-set, map-append, take_all, take_more, take_more_set}
use Rattle.hls_rates.specs.declared.place.Place.{Place}
use Rattle.hls_rates.specs.Places.{place_left_by}

-- no place
abbrev pub none : Place
none = record { holder = 0; since_ms = 0 }

-- if the first n of 16 places are left, and the next one is set to what is left of it, the first n + 1 are
pub left_next : (ticket now : ℕ) (ls ps : List Place) (p : Place) (n : ℕ) → p ≡ place_left_by ticket now (get_or ps n none) → n < 16
    → (length ls ≡ 16) × (length ps ≡ 16) × (take n ls ≡ map (place_left_by ticket now) (take n ps))
    → (length (set ls n p) ≡ 16) × (length ps ≡ 16) × (take (n + 1) (set ls n p) ≡ map (place_left_by ticket now) (take (n + 1) ps))
left_next ticket now ls ps p n is small (long, many, same) =
    let f = place_left_by ticket now in (
      length-set ls n p ∙ long,
      many,
      take_more_set ls n p (omega (arith, small, long)) ∙ ap (λ (qs : List Place). qs ++ p ∷ []) same
          ∙ ap (λ (q : Place). map f (take n ps) ++ q ∷ []) is
          ∙ sym (map-append f (take n ps) (get_or ps n none ∷ []))
          ∙ ap (map f) (sym (take_more ps n none (omega (arith, small, many)))),
    )

-- 16 places that are left are all
pub left_done : (ticket now : ℕ) (ls ps : List Place) → length ls ≡ 16 → length ps ≡ 16 → take 16 ls ≡ map (place_left_by ticket now) (take 16 ps) → ls ≡ map (place_left_by ticket now) ps
left_done ticket now ls ps long many same =
    sym (take_all 16 ls (omega (arith, long))) ∙ same ∙ ap (map (place_left_by ticket now)) (take_all 16 ps (omega (arith, many)))

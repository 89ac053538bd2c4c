-- Building a table's options one after the other.
use Rattle.std.proofs.Common.{◌≡◌, ℕ, zero, suc, ◌+◌, ◌<◌, List, [], ◌∷◌, Bool, Bor, length, get_or, map, drop, ap, arith, add-one}
use Rattle.clap.specs.Words.{App, Text, with_rule}
use Rattle.hls_settings.specs.ClapCommand.{option_rule, with_options}

-- building option n leaves the options from n + 1 on to be built
next : (old new : App) (options : List (Bor Text × Bool)) (n : ℕ) (d : Bor Text × Bool) → n < length options → new ≡ with_rule old (option_rule (get_or options n d).0.now (get_or options n d).1)
    → with_options new (map (λ o. (o.0.now, o.1)) (drop (suc n) options)) ≡ with_options old (map (λ o. (o.0.now, o.1)) (drop n options))
next old new [] n d below is = absurd (omega arith)
next old new (o ∷ os) zero d below is = ap (λ (a : App). with_options a (map (λ o. (o.0.now, o.1)) os)) is
next old new (o ∷ os) (suc n) d below is = next old new os n d (omega arith) is

-- after one more option is built, the options after it remain to be built
pub one_more : (old new : App) (options : List (Bor Text × Bool)) (n : ℕ) (d : Bor Text × Bool) → n < length options → new ≡ with_rule old (option_rule (get_or options n d).0.now (get_or options n d).1)
    → with_options new (map (λ o. (o.0.now, o.1)) (drop (n + 1) options)) ≡ with_options old (map (λ o. (o.0.now, o.1)) (drop n options))
one_more old new options n d below is = rw add-one (next old new options n d below is)

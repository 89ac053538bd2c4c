-- The arguments of renditions, one after the other.
use Rattle.std.proofs.Common.{◌≡◌, ℕ, zero, suc, ◌+◌, ◌<◌, List, [], ◌∷◌, ◌++◌, Bor, Option, Some, None, length, get_or, map, take, drop, slice_get, option_map, Err, ap, ap₂, sym, subst, ◌∙◌, arith, add-one}
use Rattle.std.proofs.lemmas.Option.{slice_get-map, slice_get-get_or}
use Rattle.clap.specs.Words.{Text}
use Rattle.hls_core_laws.specs.declared.rendition.Rendition.{Rendition}
use Rattle.hls_settings.specs.declared.fault.SettingsFault.{SettingsFault}
use Rattle.hls_settings.specs.declared.fault.SettingsFault.TheVariants as faults
use Rattle.hls_settings.specs.Renditions.{rendition_of}
use Rattle.hls_settings.specs.ReadSettings.{ReadsRendition, ReadsRenditions, ParsesTo}

-- if the first n arguments specify some renditions and argument n one more, the first n + 1 specify them all
more : (arguments : List (Bor Text)) (renditions : List Rendition) (n : ℕ) (d : Bor Text) (r : Rendition) → n < length arguments → rendition_of (get_or arguments n d).now ≡ Some r
    → ParsesTo (take n (map (λ w. w.now) arguments)) renditions → ParsesTo (take (suc n) (map (λ w. w.now) arguments)) (renditions ++ r ∷ [])
more [] renditions n d r below is said = absurd (omega arith)
more (w ∷ ws) [] zero d r below is said = ap (λ (o : Option Rendition). o ∷ []) is
more (w ∷ ws) (x ∷ xs) zero d r below is said = absurd (cc)
more (w ∷ ws) [] (suc n) d r below is said = absurd (cc)
more (w ∷ ws) (x ∷ xs) (suc n) d r below is said =
    ap₂ (λ (o : Option Rendition) (os : List (Option Rendition)). o ∷ os) (ap (λ (os : List (Option Rendition)). get_or os 0 None) said)
    (more ws xs n d r (omega arith) is (ap (drop 1) said))

-- if the first n arguments specify some renditions and argument n one more, the first n + 1 specify them all
pub say_more : (arguments : List (Bor Text)) (renditions : List Rendition) (n : ℕ) (d : Bor Text) (r : Rendition) → n < length arguments → rendition_of (get_or arguments n d).now ≡ Some r
    → ParsesTo (take n (map (λ w. w.now) arguments)) renditions → ParsesTo (take (n + 1) (map (λ w. w.now) arguments)) (renditions ++ r ∷ [])
say_more arguments renditions n d r below is said = rw add-one (more arguments renditions n d r below is said)

-- after arguments that specify renditions, one that specifies none, or an allocation failure, gives the result of all
pub unread_at : (arguments : List (Bor Text)) (renditions : List Rendition) (n m : ℕ) (d : Bor Text) (fault : SettingsFault) → n < length arguments → m ≡ n → ParsesTo (take n (map (λ w. w.now) arguments)) renditions
    → ReadsRendition m (get_or arguments n d).now (Err fault) → ReadsRenditions (map (λ w. w.now) arguments) (Err fault)
unread_at arguments renditions n m d (faults.Rendition k) below same said unread =
    let k_is_n : k ≡ n = unread.0 ∙ same in
    record {
      renditions = renditions;
      front = subst (λ (i : ℕ). ParsesTo (take i (map (λ w. w.now) arguments)) renditions) (sym k_is_n) said;
      argument = (get_or arguments n d).now;
      is = ap (slice_get (map (λ w. w.now) arguments)) k_is_n ∙ slice_get-map (λ (w : Bor Text). w.now) arguments n ∙ ap (option_map (λ (w : Bor Text). w.now)) (slice_get-get_or arguments n d below);
      unread = unread.1;
    }
unread_at arguments renditions n m d faults.Memory below same said unread = tt
unread_at arguments renditions n m d _ below same said unread = absurd unread

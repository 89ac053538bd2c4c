-- A path never names other bytes.
use Rattle.std.proofs.Common.{◌≡◌, ℕ, ◌+◌, ◌-◌, ◌<◌, ◌≤◌, List, ◌++◌, length, drop, get_or, Option, Some, None, arith, refl, sym, ap, subst, ◌∙◌, length-drop, length-append}
use Rattle.std.specs.Prelude.{slice_get, nat_lt, nat_le, ◌&&◌}
use Rattle.std.specs.List.{concat}
use Rattle.std.proofs.lemmas.Bool.{and_parts, cond-true, cond-false, le-ltb, lt-ltb, ltb-true}
use Rattle.std.proofs.lemmas.List.{length-take-le, same_lists, get_or-take, get_or-drop, get_or_append_left}
use Rattle.hls_time.specs.Times.{longest_length_us}
use Rattle.std.proofs.lemmas.Option.{slice_get-get_or, get_or_from_slice_get, same_Some}
use Rattle.hls_media_laws.specs.InitData.{InitData}
use Rattle.hls_media_laws.specs.declared.facts.Facts.{Facts}
use Rattle.hls_media_laws.specs.FactLists.{fact_at, no_facts}
use Rattle.hls_core_laws.specs.Channel.{Lane, no_lane}
use Rattle.hls_core_laws.specs.State.{State, HeldBytes, channel}
use Rattle.hls_core_laws.specs.IsState.{IsState, MatchesBytes}
use Rattle.hls_core_laws.specs.Follows.{Follows, SameUnits}
use Rattle.hls_core_laws.proofs.Callers.{continues_of, lane_grown, state_of}
use Rattle.hls_playlists_laws.specs.JobResource.{units_between}
use Rattle.hls_playlists_laws.specs.NamedUnits.{KeptUnits, TrimmedUnits, may_be_segment, named_in, unit_bytes}
use Rattle.hls_playlists_laws.specs.PathLaws.{NamesOrTrimmed}
use Rattle.hls_playlists_laws.proofs.UnitSearch.{found-in_more, is-found}
use Rattle.hls_playlists_laws.proofs.NamedUnits.{Below, IsNamed, IsTrimmed, Precedes, is-named, is-trimmed, named-either, trimmed-named}

-- unit i of the run of kept units from number m on is unit m + i
pub unit-at : (floor m n i : ℕ) (units : List (List ℕ)) (d : List ℕ) → floor ≤ m → i < n - m → n ≤ floor + length units →
    slice_get units (m + i - floor) ≡ Some (get_or (units_between floor units m n) i d)
unit-at floor m n i units d low within few =
    let at : m + i - floor ≡ (m - floor) + i = omega (arith, low) in
    let inside : m + i - floor < length units = omega (arith, low, within, few) in
    let here : get_or (units_between floor units m n) i d ≡ get_or units (m + i - floor) d =
    get_or-take (n - m) (drop (m - floor) units) i d within
    ∙ (get_or-drop (m - floor) units i d ∙ ap (λ (k : ℕ). get_or units k d) (sym at)) in
    slice_get-get_or units (m + i - floor) d inside ∙ ap (λ (x : List ℕ). Some x) (sym here)

-- kept units from number m to the one before n are n - m units
pub run-length : (floor m n : ℕ) (units : List (List ℕ)) → floor ≤ m → m ≤ n → n ≤ floor + length units → length (units_between floor units m n) ≡ n - m
run-length floor m n units low rises few =
    length-take-le (n - m) (drop (m - floor) units) (omega (arith, length-drop (m - floor) units, low, rises, few))

-- recordings whose common kept units have the same bytes have the same units from number m to the one before n, if both keep them
same-run : (floor_a floor_b m n : ℕ) (xs ys : List (List ℕ)) → floor_a ≤ m → floor_b ≤ m → m ≤ n → n ≤ floor_a + length xs → n ≤ floor_b + length ys →
    SameUnits floor_a floor_b xs ys → units_between floor_a xs m n ≡ units_between floor_b ys m n
same-run floor_a floor_b m n xs ys low_a low_b rises few_a few_b same =
    let long_a = run-length floor_a m n xs low_a rises few_a in
    let long_b = run-length floor_b m n ys low_b rises few_b in
    same_lists (units_between floor_a xs m n) (units_between floor_b ys m n) (long_a ∙ sym long_b) (λ i d within.
    let inside : i < n - m = omega (arith, within, long_a) in
    same (m + i) (get_or (units_between floor_a xs m n) i d) (get_or (units_between floor_b ys m n) i d) (omega (arith, low_a)) (omega (arith, low_b))
    (unit-at floor_a m n i xs d low_a inside few_a) (unit-at floor_b m n i ys d low_b inside few_b))

-- a rendition with units has its init section
init-some : (l : Lane) (h : HeldBytes) → MatchesBytes l h → 0 < length l.facts → (o : Option InitData) → l.init ≡ o → (init : InitData) × (l.init ≡ Some init)
init-some l h fits some None is = absurd (omega (arith, some, ap length (fits.none is).0))
init-some l h fits some (Some init) is = (init, is)

-- facts that are there stay the same when units follow
pub fact-stays : (facts more : List Facts) (k : ℕ) → k < length facts → fact_at (facts ++ more) k ≡ fact_at facts k
fact-stays facts more k few = get_or_append_left facts more no_facts k few

-- more units don't change whether earlier ones may be a segment
pub may-stays : (target : ℕ) (facts more : List Facts) (m n : ℕ) → m < length facts → n ≤ length facts → 0 < n →
    may_be_segment target (facts ++ more) m n ≡ may_be_segment target facts m n
may-stays target facts more m n few few_too some =
    ap (λ (f : Facts). nat_lt m n && nat_le (f.end_us - (fact_at (facts ++ more) m).start_us) (longest_length_us target))
    (fact-stays facts more (n - 1) (omega (arith, few_too, some)))
    ∙ ap (λ (f : Facts). nat_lt m n && nat_le ((fact_at facts (n - 1)).end_us - f.start_us) (longest_length_us target)) (fact-stays facts more m few)

-- the tests of a path pass in each later lane
pub named-on : (before target : ℕ) (l k : Lane) (more : List Facts) (first last m n : ℕ) → k.size ≡ l.size → k.facts ≡ l.facts ++ more →
    IsNamed before target l.size l.facts first last m n → IsNamed before target k.size k.facts first last m n
named-on before target l k more first last m n size facts named =
    let begin = is-found 0 l.facts (first - (l.size + before)) m named.begins in
    let end = is-found 0 l.facts (last + 1 - (l.size + before)) n named.ends in
    let parts = and_parts (nat_lt m n) _ named.may in
    let rises : m < n = ltb-true m n parts.0 in
    let here : IsNamed before target l.size (l.facts ++ more) first last m n = record {
      low = named.low;
      begins = found-in_more 0 l.facts more (first - (l.size + before)) m named.begins;
      ends = found-in_more 0 l.facts more (last + 1 - (l.size + before)) n named.ends;
      may = may-stays target l.facts more m n (omega (arith, begin.is, end.is, end.within, rises)) (omega (arith, end.is, end.within)) (omega (arith, rises)) ∙ named.may;
    } in
    subst (λ (x : ℕ). IsNamed before target x k.facts first last m n) (sym size)
    (subst (λ (x : List Facts). IsNamed before target l.size x first last m n) (sym facts) here)

-- a lane in a later state: its init section has the same size, units may follow, and its floor is not lower
record IsLater (l k : Lane) : Type 0 where
  size : k.size ≡ l.size
  more : List Facts
  facts : k.facts ≡ l.facts ++ more
  floor : l.floor ≤ k.floor

-- in a state that follows, a lane with an init section has the same size of it, perhaps more units, and no lower floor
lane-later : (a b : State) (r : ℕ) (l k : Lane) → IsState a → Follows a b → slice_get (channel a).lanes r ≡ Some l →
    slice_get (channel b).lanes r ≡ Some k → (init : InitData) → l.init ≡ Some init → IsLater l k
lane-later a b r l k state follows at_l at_k init is =
    let grown = lane_grown a b (state_of a b follows state) (continues_of a b follows) r l at_l in
    let is_k : grown.lane ≡ k = same_Some grown.lane k (sym grown.at ∙ at_k) in
    record {
      size = ap (λ (x : Lane). x.size) (sym is_k) ∙ (grown.grows.init init is).1;
      more = grown.grows.more;
      facts = ap (λ (x : Lane). x.facts) (sym is_k) ∙ grown.grows.facts;
      floor = omega (arith, grown.grows.floor, ap (λ (x : Lane). x.floor) is_k);
    }

-- a path that passes the tests names at least one unit, and all of them are there
named-some : (before target : ℕ) (l : Lane) (first last m n : ℕ) → IsNamed before target l.size l.facts first last m n →
    (m < n) × (n ≤ length l.facts)
named-some before target l first last m n named =
    let end = is-found 0 l.facts (last + 1 - (l.size + before)) n named.ends in
    let parts = and_parts (nat_lt m n) _ named.may in
    (ltb-true m n parts.0, omega (arith, end.is, end.within))

-- a path that names kept units names the same units with the same bytes in each later state, or they are trimmed
pub paths-never-change : (before : ℕ) (a b : State) (r : ℕ) (l k : Lane) (h g : HeldBytes) (first last m n : ℕ) → IsState a → Follows a b →
    slice_get (channel a).lanes r ≡ Some l → slice_get a.bytes r ≡ Some h → slice_get (channel b).lanes r ≡ Some k → slice_get b.bytes r ≡ Some g →
    named_in before a.config.target l first last ≡ KeptUnits m n →
    NamesOrTrimmed before a.config.target k first last m n × (named_in before a.config.target k first last ≡ KeptUnits m n → unit_bytes k g m n ≡ unit_bytes l h m n)
paths-never-change before a b r l k h g first last m n state follows at_l at_h at_k at_g is =
    let target : ℕ = a.config.target in
    let named = is-named before target l.size l.facts l.floor first last m n is in
    let some = named-some before target l first last m n named.0 in
    let state_b : IsState b = state_of a b follows state in
    let fits_a = state.fits r l h at_l at_h in
    let fits_b = state_b.fits r k g at_k at_g in
    let begun = init-some l h fits_a (omega (arith, some.0, some.1)) l.init refl in
    let later = lane-later a b r l k state follows at_l at_k begun.0 begun.1 in
    let on = named-on before target l k later.more first last m n later.size later.facts named.0 in
    let same_held = (continues_of a b follows).same r h g at_h at_g in
    let is_l = get_or_from_slice_get (channel a).lanes r l no_lane at_l in
    let is_k_too = get_or_from_slice_get (channel b).lanes r k no_lane at_k in
    let units : SameUnits l.floor k.floor h.units g.units =
    subst (λ (x : Lane). SameUnits x.floor k.floor h.units g.units) is_l
    (subst (λ (x : Lane). SameUnits (get_or (channel a).lanes r no_lane).floor x.floor h.units g.units) is_k_too same_held.units) in
    let more : length l.facts ≤ length k.facts = omega (arith, ap length later.facts, length-append l.facts later.more) in (
      named-either before target k.size k.facts k.floor first last m n on,
      λ kept.
          let now = is-named before target k.size k.facts k.floor first last m n kept in
          sym (ap concat (same-run l.floor k.floor m n h.units g.units named.1 now.1 (omega (arith, some.0))
          (omega (arith, fits_a.kept, some.1)) (omega (arith, fits_b.kept, more, some.1)) units)),
    )

-- what is trimmed for one of the two causes is trimmed in each later state
trimmed-by : (before : ℕ) (a b : State) (r : ℕ) (l k : Lane) (init : InitData) (first last : ℕ) → IsState a → Follows a b →
    slice_get (channel a).lanes r ≡ Some l → slice_get (channel b).lanes r ≡ Some k → l.init ≡ Some init →
    IsTrimmed before a.config.target l.size l.facts l.floor first last → named_in before a.config.target k first last ≡ TrimmedUnits
trimmed-by before a b r l k init first last state follows at_l at_k begun (Precedes low few) =
    let later = lane-later a b r l k state follows at_l at_k init begun in
    cond-false (nat_lt first k.size) _ _ (le-ltb first k.size (omega (arith, later.size, low)))
    ∙ cond-true (nat_lt first (k.size + before)) _ _ (lt-ltb first (k.size + before) (omega (arith, later.size, few)))
trimmed-by before a b r l k init first last state follows at_l at_k begun (Below m n named gone) =
    let later = lane-later a b r l k state follows at_l at_k init begun in
    trimmed-named before a.config.target k.size k.facts k.floor first last m n
    (named-on before a.config.target l k later.more first last m n later.size later.facts named) (omega (arith, gone, later.floor))

-- a path that names trimmed units of a rendition with an init section names trimmed ones in each later state
pub trimmed-stay : (before : ℕ) (a b : State) (r : ℕ) (l k : Lane) (init : InitData) (first last : ℕ) → IsState a → Follows a b →
    slice_get (channel a).lanes r ≡ Some l → slice_get (channel b).lanes r ≡ Some k → l.init ≡ Some init →
    named_in before a.config.target l first last ≡ TrimmedUnits → named_in before a.config.target k first last ≡ TrimmedUnits
trimmed-stay before a b r l k init first last state follows at_l at_k begun is =
    trimmed-by before a b r l k init first last state follows at_l at_k begun (is-trimmed before a.config.target l.size l.facts l.floor first last is)

-- Over a handover a path names the same units in both channels.
use Rattle.std.proofs.Common.{◌≡◌, ◌⊎◌, ℕ, zero, suc, ◌+◌, ◌-◌, ◌<◌, ◌≤◌, List, [], ◌∷◌, length, take, drop, get_or, Option, Some, None, arith, refl, sym, ap, subst, inl, inr, ◌∙◌, All, length-drop}
use Rattle.std.specs.Prelude.{slice_get, nat_lt, nat_le, ◌&&◌}
use Rattle.std.specs.List.{concat}
use Rattle.std.proofs.Math.Seq.{take-add}
use Rattle.std.proofs.lemmas.Bool.{and_parts, ltb-true}
use Rattle.std.proofs.lemmas.List.{get_or-drop, get_or-take, same_lists, take-append-le}
use Rattle.std.proofs.lemmas.List.Elements.{All-drop, All-head}
use Rattle.std.proofs.lemmas.List.Sums.{sum_by-append, sum_by-cons}
use Rattle.std.proofs.lemmas.Option.{slice_get-get_or}
use Rattle.hls_time.specs.Times.{longest_length_us}
use Rattle.hls_media_laws.specs.InitData.{InitData}
use Rattle.hls_media_laws.specs.declared.facts.Facts.{Facts}
use Rattle.hls_media_laws.specs.FactLists.{fact_at, len_of, no_facts, total_bytes}
use Rattle.hls_media_laws.proofs.Callers.{units_are_bounded}
use Rattle.hls_places_laws.specs.declared.place.Place.{Place}
use Rattle.hls_core_laws.specs.Config.{ConfigData}
use Rattle.hls_core_laws.specs.Channel.{Lane}
use Rattle.hls_core_laws.specs.State.{State, HeldBytes, channel}
use Rattle.hls_core_laws.specs.IsState.{IsState, MatchesBytes}
use Rattle.hls_core_laws.proofs.Callers.{lanes_timed}
use Rattle.hls_playlists_laws.specs.JobResource.{units_between}
use Rattle.hls_playlists_laws.specs.Origins.{LaneBegins}
use Rattle.hls_playlists_laws.specs.Handovers.{IsHandedOver, bytes_before, lane_from, unit_at}
use Rattle.hls_playlists_laws.specs.NamedUnits.{KeptUnits, may_be_segment, named_in, unit_after, unit_bytes}
use Rattle.hls_playlists_laws.specs.PathLaws.{NamesOrTrimmed, SameUnitsFrom}
use Rattle.hls_playlists_laws.proofs.UnitSearch.{finds-first, is-found}
use Rattle.hls_playlists_laws.proofs.KeptPaths.{run-length, unit-at}
use Rattle.hls_playlists_laws.proofs.NamedUnits.{IsNamed, is-named, named-either}

-- each unit has bytes
some-by : (s : State) → IsState s → (r : ℕ) (l : Lane) → slice_get (channel s).lanes r ≡ Some l → (o : Option InitData) → l.init ≡ o → All (λ f. 0 < f.len) l.facts
some-by s state r l at None is = λ k d h.
    let none : length l.facts ≡ 0 = ap length ((lanes_timed s state.legal r l at).bare is) in
    absurd (omega (arith, h, none))
some-by s state r l at (Some init) is = λ k d h.
    let f : Facts = get_or l.facts k d in
    let was = (lanes_timed s state.legal r l at).were init is k f (slice_get-get_or l.facts k d h) in
    (units_are_bounded init was.bytes f was.is).some_bytes

-- each unit of a rendition of a state has bytes
each-some : (s : State) → IsState s → (r : ℕ) (l : Lane) → slice_get (channel s).lanes r ≡ Some l → All (λ f. 0 < f.len) l.facts
each-some s state r l at = some-by s state r l at l.init refl

-- lists that are the same up to unit n
abbrev AreSameTo : ℕ → List Facts → List Facts → Type 0
AreSameTo n xs ys = take n xs ≡ take n ys

-- lists that are the same up to unit n are the same up to each earlier unit
fewer-same : (n k : ℕ) (xs ys : List Facts) → k ≤ n → AreSameTo n xs ys → AreSameTo k xs ys
fewer-same n zero xs ys few same = refl
fewer-same zero (suc k) xs ys few same = absurd (omega (arith, few))
fewer-same (suc n) (suc k) [] [] few same = refl
fewer-same (suc n) (suc k) [] (y ∷ ys) few same = absurd (cc)
fewer-same (suc n) (suc k) (x ∷ xs) [] few same = absurd (cc)
fewer-same (suc n) (suc k) (x ∷ xs) (y ∷ ys) few same =
    let here : x ≡ y = ap (λ (l : List Facts). get_or l 0 no_facts) same in
    let rest : take n xs ≡ take n ys = ap (drop 1) same in
    ap (λ (z : Facts). z ∷ take k xs) here ∙ ap (λ (zs : List Facts). y ∷ zs) (fewer-same n k xs ys (omega (arith, few)) rest)

-- lists that are the same up to unit n have the same facts for each unit before it
same-fact : (n k : ℕ) (xs ys : List Facts) → k < n → AreSameTo n xs ys → fact_at xs k ≡ fact_at ys k
same-fact n k xs ys few same =
    sym (get_or-take n xs k no_facts few) ∙ (ap (λ (l : List Facts). get_or l k no_facts) same ∙ get_or-take n ys k no_facts few)

-- a path that names units before n in one of two lists that are the same up to unit n names them in the other
named-alike : (before target size : ℕ) (xs ys : List Facts) (first last m n : ℕ) → All (λ f. 0 < f.len) ys → n ≤ length ys → AreSameTo n xs ys →
    IsNamed before target size xs first last m n → IsNamed before target size ys first last m n
named-alike before target size xs ys first last m n each few same named =
    let begin = is-found 0 xs (first - (size + before)) m named.begins in
    let end = is-found 0 xs (last + 1 - (size + before)) n named.ends in
    let rises : m < n = ltb-true m n (and_parts (nat_lt m n) _ named.may).0 in
    let first_is : total_bytes (take m ys) ≡ first - (size + before) =
    ap total_bytes (sym (fewer-same n m xs ys (omega (arith, rises)) same))
    ∙ (ap (λ (k : ℕ). total_bytes (take k xs)) (omega (arith, begin.is)) ∙ begin.bytes) in
    let last_is : total_bytes (take n ys) ≡ last + 1 - (size + before) =
    ap total_bytes (sym same) ∙ (ap (λ (k : ℕ). total_bytes (take k xs)) (omega (arith, end.is)) ∙ end.bytes) in
    record {
      low = named.low;
      begins = ap (unit_after 0 ys) (sym first_is) ∙ finds-first ys m each (omega (arith, rises, few));
      ends = ap (unit_after 0 ys) (sym last_is) ∙ finds-first ys n each few;
      may = ap (λ (f : Facts). nat_lt m n && nat_le (f.end_us - (fact_at ys m).start_us) (longest_length_us target))
          (sym (same-fact n (n - 1) xs ys (omega (arith, rises)) same))
          ∙ (ap (λ (f : Facts). nat_lt m n && nat_le ((fact_at xs (n - 1)).end_us - f.start_us) (longest_length_us target))
          (sym (same-fact n m xs ys rises same)) ∙ named.may);
    }

-- the bytes of the first u + k units are those of the first u and those of the next k
bytes-from : (facts : List Facts) (u k : ℕ) → total_bytes (take (u + k) facts) ≡ total_bytes (take u facts) + total_bytes (take k (drop u facts))
bytes-from facts u k = ap total_bytes (take-add u k facts) ∙ sum_by-append len_of (take u facts) (take k (drop u facts))

-- units of a recording that begins with unit u may be a segment exactly if the same units may, counted from the first one
may-from : (target : ℕ) (facts : List Facts) (u m n : ℕ) → m < n → may_be_segment target (drop u facts) m n ≡ may_be_segment target facts (u + m) (u + n)
may-from target facts u m n rises =
    let tests : nat_lt m n ≡ nat_lt (u + m) (u + n) = grind (arith) in
    let before : u + (n - 1) ≡ u + n - 1 = omega (arith, rises) in
    let end : fact_at (drop u facts) (n - 1) ≡ fact_at facts (u + n - 1) =
    get_or-drop u facts (n - 1) no_facts ∙ ap (fact_at facts) before in
    ap (λ (f : Facts). nat_lt m n && nat_le (f.end_us - (fact_at (drop u facts) m).start_us) (longest_length_us target)) end
    ∙ (ap (λ (f : Facts). nat_lt m n && nat_le ((fact_at facts (u + n - 1)).end_us - f.start_us) (longest_length_us target))
    (get_or-drop u facts m no_facts)
    ∙ ap (λ (b : _). b && nat_le ((fact_at facts (u + n - 1)).end_us - (fact_at facts (u + m)).start_us) (longest_length_us target)) tests)

-- if each unit has bytes and there is a unit, the first n of them have bytes, where n is above 0
some-taken : (n : ℕ) (facts : List Facts) → 0 < n → 0 < length facts → All (λ f. 0 < f.len) facts → 0 < total_bytes (take n facts)
some-taken zero facts some long each = absurd (omega (arith, some))
some-taken (suc n) [] some long each = absurd (omega (arith, long))
some-taken (suc n) (f ∷ facts) some long each =
    let one : 0 < f.len = All-head (λ (g : Facts). 0 < g.len) f facts each in
    omega (arith, one, sum_by-cons len_of f (take n facts))

-- a path that names units u + m to u + n names units m to n of a recording that begins with unit u, if the bytes of earlier units precede it
named-from : (before target size : ℕ) (facts : List Facts) (u first last m n : ℕ) → All (λ f. 0 < f.len) facts → u + n ≤ length facts →
    IsNamed before target size facts first last (u + m) (u + n) →
    IsNamed (before + total_bytes (take u facts)) target size (drop u facts) first last m n
named-from before target size facts u first last m n each few named =
    let begin = is-found 0 facts (first - (size + before)) (u + m) named.begins in
    let end = is-found 0 facts (last + 1 - (size + before)) (u + n) named.ends in
    let rises : u + m < u + n = ltb-true (u + m) (u + n) (and_parts (nat_lt (u + m) (u + n)) _ named.may).0 in
    let begin_is : total_bytes (take (u + m) facts) ≡ first - (size + before) =
    ap (λ (k : ℕ). total_bytes (take k facts)) (omega (arith, begin.is)) ∙ begin.bytes in
    let end_is : total_bytes (take (u + n) facts) ≡ last + 1 - (size + before) =
    ap (λ (k : ℕ). total_bytes (take k facts)) (omega (arith, end.is)) ∙ end.bytes in
    let before_u : ℕ = total_bytes (take u facts) in
    let first_is : first - (size + (before + before_u)) ≡ total_bytes (take m (drop u facts)) = omega (arith, begin_is, bytes-from facts u m) in
    let last_is : last + 1 - (size + (before + before_u)) ≡ total_bytes (take n (drop u facts)) = omega (arith, end_is, bytes-from facts u n) in
    let each_on : All (λ f. 0 < f.len) (drop u facts) = All-drop (λ f. 0 < f.len) u facts each in
    let long : length (drop u facts) ≡ length facts - u = length-drop u facts in
    record {
      low = omega (arith, named.low, begin_is, bytes-from facts u m);
      begins = ap (unit_after 0 (drop u facts)) first_is ∙ finds-first (drop u facts) m each_on (omega (arith, rises, few, long));
      ends = ap (unit_after 0 (drop u facts)) last_is ∙ finds-first (drop u facts) n each_on (omega (arith, few, long));
      may = may-from target facts u m n (omega (arith, rises)) ∙ named.may;
    }

-- a path that names units m to n of a recording that begins with unit u names units u + m to u + n, counted from the first one
named-to : (before target size : ℕ) (facts : List Facts) (u first last m n : ℕ) → All (λ f. 0 < f.len) facts → u + n ≤ length facts →
    IsNamed (before + total_bytes (take u facts)) target size (drop u facts) first last m n →
    IsNamed before target size facts first last (u + m) (u + n)
named-to before target size facts u first last m n each few named =
    let before_u : ℕ = total_bytes (take u facts) in
    let begin = is-found 0 (drop u facts) (first - (size + (before + before_u))) m named.begins in
    let end = is-found 0 (drop u facts) (last + 1 - (size + (before + before_u))) n named.ends in
    let rises : m < n = ltb-true m n (and_parts (nat_lt m n) _ named.may).0 in
    let begin_is : total_bytes (take m (drop u facts)) ≡ first - (size + (before + before_u)) =
    ap (λ (k : ℕ). total_bytes (take k (drop u facts))) (omega (arith, begin.is)) ∙ begin.bytes in
    let end_is : total_bytes (take n (drop u facts)) ≡ last + 1 - (size + (before + before_u)) =
    ap (λ (k : ℕ). total_bytes (take k (drop u facts))) (omega (arith, end.is)) ∙ end.bytes in
    let one : 0 < total_bytes (take n (drop u facts)) = some-taken n (drop u facts) (omega (arith, rises))
    (omega (arith, few, rises, length-drop u facts)) (All-drop (λ f. 0 < f.len) u facts each) in
    let first_is : first - (size + before) ≡ total_bytes (take (u + m) facts) = omega (arith, begin_is, bytes-from facts u m, named.low) in
    let last_is : last + 1 - (size + before) ≡ total_bytes (take (u + n) facts) = omega (arith, end_is, bytes-from facts u n, one) in
    record {
      low = omega (arith, named.low);
      begins = ap (unit_after 0 facts) first_is ∙ finds-first facts (u + m) each (omega (arith, rises, few));
      ends = ap (unit_after 0 facts) last_is ∙ finds-first facts (u + n) each few;
      may = sym (may-from target facts u m n rises) ∙ named.may;
    }

-- as far as both have come, the second's units are the first's from the cut on
same-to : (u : ℕ) (l m : Lane) → LaneBegins (lane_from u l) m ⊎ LaneBegins m (lane_from u l) → (n : ℕ) → u + n ≤ length l.facts → n ≤ length m.facts →
    AreSameTo n m.facts (drop u l.facts)
same-to u l m (inl left) n few also =
    ap (take n) left.facts ∙ take-append-le n (drop u l.facts) left.more (omega (arith, few, length-drop u l.facts))
same-to u l m (inr right) n few also =
    sym (ap (take n) right.facts ∙ take-append-le n m.facts right.more also)

-- init sections of both channels have the same size in a rendition
size-same : (u : ℕ) (l m : Lane) → LaneBegins (lane_from u l) m ⊎ LaneBegins m (lane_from u l) → m.size ≡ l.size
size-same u l m (inl left) = left.size
size-same u l m (inr right) = sym right.size

-- a path that names units in the second names them in the first, as far as that one has come, or they are trimmed
pub named-there : (before : ℕ) (a b : State) (n : ℕ) (cut : Place) (r : ℕ) (l m : Lane) (first last i j : ℕ) → IsState a → IsState b → IsHandedOver a b n cut →
    slice_get (channel a).lanes r ≡ Some l → slice_get (channel b).lanes r ≡ Some m → unit_at cut r + j ≤ length l.facts →
    named_in (before + bytes_before cut r l) b.config.target m first last ≡ KeptUnits i j →
    NamesOrTrimmed before a.config.target l first last (unit_at cut r + i) (unit_at cut r + j)
named-there before a b n cut r l m first last i j state_a state_b over at also few is =
    let u : ℕ = unit_at cut r in
    let either = over.each r l m at also in
    let named = (is-named (before + bytes_before cut r l) b.config.target m.size m.facts m.floor first last i j is).0 in
    let end = is-found 0 m.facts (last + 1 - (m.size + (before + bytes_before cut r l))) j named.ends in
    let target : b.config.target ≡ a.config.target = ap (λ (c : ConfigData). c.target) over.config in
    let own : IsNamed (before + bytes_before cut r l) a.config.target l.size m.facts first last i j =
    subst (λ (t : ℕ). IsNamed (before + bytes_before cut r l) t l.size m.facts first last i j) target
    (subst (λ (k : ℕ). IsNamed (before + bytes_before cut r l) b.config.target k m.facts first last i j) (size-same u l m either) named) in
    let each = each-some a state_a r l at in
    let there = named-alike (before + bytes_before cut r l) a.config.target l.size m.facts (drop u l.facts) first last i j
    (All-drop (λ f. 0 < f.len) u l.facts each) (omega (arith, few, length-drop u l.facts))
    (same-to u l m either j few (omega (arith, end.is, end.within))) own in
    named-either before a.config.target l.size l.facts l.floor first last (u + i) (u + j)
    (named-to before a.config.target l.size l.facts u first last i j each few there)

-- a path that names units from the cut on in the first names them in the second, as far as that one has come, or they are trimmed
pub named-here : (before : ℕ) (a b : State) (n : ℕ) (cut : Place) (r : ℕ) (l m : Lane) (first last i j : ℕ) → IsState a → IsState b → IsHandedOver a b n cut →
    slice_get (channel a).lanes r ≡ Some l → slice_get (channel b).lanes r ≡ Some m → j ≤ length m.facts →
    named_in before a.config.target l first last ≡ KeptUnits (unit_at cut r + i) (unit_at cut r + j) →
    NamesOrTrimmed (before + bytes_before cut r l) b.config.target m first last i j
named-here before a b n cut r l m first last i j state_a state_b over at also few is =
    let u : ℕ = unit_at cut r in
    let either = over.each r l m at also in
    let named = (is-named before a.config.target l.size l.facts l.floor first last (u + i) (u + j) is).0 in
    let end = is-found 0 l.facts (last + 1 - (l.size + before)) (u + j) named.ends in
    let within : u + j ≤ length l.facts = omega (arith, end.is, end.within) in
    let from = named-from before a.config.target l.size l.facts u first last i j (each-some a state_a r l at) within named in
    let there = named-alike (before + bytes_before cut r l) a.config.target l.size (drop u l.facts) m.facts first last i j
    (each-some b state_b r m also) few (sym (same-to u l m either j within few)) from in
    let target : a.config.target ≡ b.config.target = ap (λ (c : ConfigData). c.target) (sym over.config) in
    let own : IsNamed (before + bytes_before cut r l) b.config.target m.size m.facts first last i j =
    subst (λ (t : ℕ). IsNamed (before + bytes_before cut r l) t m.size m.facts first last i j) target
    (subst (λ (k : ℕ). IsNamed (before + bytes_before cut r l) a.config.target k m.facts first last i j) (sym (size-same u l m either)) there) in
    named-either (before + bytes_before cut r l) b.config.target m.size m.facts m.floor first last i j own

-- units that both keep have the same bytes, if both have the same bytes under the number of each unit
pub same-bytes-there : (u i j : ℕ) (l m : Lane) (h g : HeldBytes) → MatchesBytes l h → MatchesBytes m g → SameUnitsFrom u l m h g → i ≤ j →
    l.floor ≤ u + i → m.floor ≤ i → u + j ≤ length l.facts → j ≤ length m.facts → unit_bytes l h (u + i) (u + j) ≡ unit_bytes m g i j
same-bytes-there u i j l m h g fits_l fits_m same rises low_l low_m few_l few_m =
    let held_l : u + j ≤ l.floor + length h.units = omega (arith, few_l, fits_l.kept) in
    let held_m : j ≤ m.floor + length g.units = omega (arith, few_m, fits_m.kept) in
    let long_l : length (units_between l.floor h.units (u + i) (u + j)) ≡ u + j - (u + i) = run-length l.floor (u + i) (u + j) h.units low_l (omega (arith, rises)) held_l in
    let long_m : length (units_between m.floor g.units i j) ≡ j - i = run-length m.floor i j g.units low_m rises held_m in
    let long : length (units_between l.floor h.units (u + i) (u + j)) ≡ length (units_between m.floor g.units i j) = omega (arith, long_l, long_m) in
    ap concat (same_lists (units_between l.floor h.units (u + i) (u + j)) (units_between m.floor g.units i j) long (λ k d within.
    let inside_l : k < u + j - (u + i) = omega (arith, within, long_l) in
    let inside_m : k < j - i = omega (arith, inside_l) in
    let number : u + i + k - l.floor ≡ u + (i + k) - l.floor = omega arith in
    same (i + k) (get_or (units_between l.floor h.units (u + i) (u + j)) k d) (get_or (units_between m.floor g.units i j) k d)
    (omega (arith, low_l)) (omega (arith, low_m))
    (ap (slice_get h.units) (sym number) ∙ unit-at l.floor (u + i) (u + j) k h.units d low_l inside_l held_l)
    (unit-at m.floor i j k g.units d low_m inside_m held_m)))

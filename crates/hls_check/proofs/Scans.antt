-- The progress of a scan, which keeps no values.
use Rattle.std.proofs.Common.{◌≡◌, refl, sym, ◌∙◌, ap, subst, ℕ, ◌+◌, ◌-◌, ◌^◌, ◌<◌, ◌≤◌, Bool, false, List, [], ◌∷◌, ◌++◌, codes, length, take, replicate, All, arith, Option, Some, None, MatchOption, Bor}
use Rattle.std.proofs.lemmas.List.{length-append, length-replicate}
use Rattle.hls_check_tables.specs.declared.spot.Spot.{Spot}
use Rattle.hls_check_tables.specs.Tables.{Table, IsPlaceOf}
use Rattle.hls_check_tables.specs.Certificates.{CutClaim, NoneClaim}
use Rattle.hls_text.specs.Lines.{cut_text, IsFirstLine}
use Rattle.hls_text.specs.Numbers.{AreNumbersBelow}
use Rattle.hls_check.specs.declared.certificate_head.CertificateHead.{CertificateHead}
use Rattle.hls_check.specs.WrongLines.{IsFirstWrongLine}
use Rattle.hls_check.specs.SpotTexts.{IsFirstSpot, IsNextSpot, SkipsPlace}
use Rattle.hls_check.specs.Text.{place_line, price_line, closed_line, priced_place, end_line}
use Rattle.hls_check.specs.Stages.{IsReadUpTo, AtPlace, AtPlan, AtPrice, AtClosed, AtEnd, IsPlanLine, IsPriceLine, IsClosedLine, SkipsPlaces, certificate_with}
use Rattle.hls_check.proofs.PlaceTexts.{SpotsRead, one_read, one_more_read, no_first_spot, no_next_spot, no_end_of_line, place_taken, place_first, place_shorter, place_refused}
use Rattle.hls_check.proofs.Wrongs.{stops, PlacesRead, no_place_read, place_more, at_place, at_claim}
use Rattle.hls_check.proofs.LineKinds.{line_refused}
use Rattle.hls_check.proofs.Claims.{with_price, with_member, PricesRead, no_price_read, price_more, price_end, price_missing, price_bad, ClosedRead, no_member_read, member_more, member_end, member_missing, member_bad, at_prices}

-- r spots of a place line were skipped, and `rest` remains of the text
pub record SpotsPassed (renditions : ℕ) (text rest : List ℕ) (r : ℕ) : Type 0 where
  pub spots : List Spot
  pub read : SpotsRead renditions text spots rest r

-- after the first spot of a text one spot of a place was skipped
pub one_passed : (renditions : ℕ) (text : List ℕ) (s : Spot) (rest : List ℕ) → (1 ≤ renditions) × (renditions ≤ 16) →
    IsFirstSpot text s rest → SpotsPassed renditions text rest 1
one_passed renditions text s rest some at = record { spots = s ∷ []; read = one_read renditions text s rest some.0 at }

-- after a further spot one more spot of the place was skipped
pub one_more_passed : (renditions : ℕ) (text rest : List ℕ) (r : ℕ) (s : Spot) (next : List ℕ) → SpotsPassed renditions text rest r →
    IsNextSpot rest s next → SpotsPassed renditions text next (r + 1)
one_more_passed renditions text rest r s next lines_read at =
    record { spots = lines_read.spots ++ (s ∷ []); read = one_more_read renditions text lines_read.spots rest r s next lines_read.read at }

-- a text without a first spot begins with no place line
pub none_first : (renditions : ℕ) (text : List ℕ) → (1 ≤ renditions) × (renditions ≤ 16) →
    ((s : Spot) (rest : List ℕ) → IsFirstSpot text s rest → ⊥) → (after : List ℕ) → SkipsPlace renditions text after → ⊥
none_first renditions text some none after place = no_first_spot renditions text some.0 none place.place after place.good place.is

-- if the text doesn't continue with a spot while renditions remain, it begins with no place line
pub none_next : (renditions : ℕ) (text rest : List ℕ) (r : ℕ) → SpotsPassed renditions text rest r → r < renditions →
    ((s : Spot) (more : List ℕ) → IsNextSpot rest s more → ⊥) → (after : List ℕ) → SkipsPlace renditions text after → ⊥
none_next renditions text rest r lines_read below none after place =
    no_next_spot renditions text lines_read.spots rest r lines_read.read below none place.place after place.good place.is

-- if no line feed follows the spots of all renditions, the text begins with no place line
pub none_end : (renditions : ℕ) (text rest : List ℕ) → SpotsPassed renditions text rest renditions →
    ((after : List ℕ) → rest ≡ 10 ∷ after → ⊥) → (after : List ℕ) → SkipsPlace renditions text after → ⊥
none_end renditions text rest lines_read none after place =
    no_end_of_line renditions text lines_read.spots rest lines_read.read none place.place after place.good place.is

-- if a line feed follows the spots of all renditions, a place line was skipped
pub place_passed : (renditions : ℕ) (text rest after : List ℕ) → SpotsPassed renditions text rest renditions → rest ≡ 10 ∷ after →
    SkipsPlace renditions text after
place_passed renditions text rest after lines_read is =
    let taken : IsPlaceOf renditions lines_read.spots × (text ≡ place_line lines_read.spots ++ (10 ∷ after)) =
    place_taken renditions text lines_read.spots rest after lines_read.read is in
    record { place = lines_read.spots; good = taken.0; is = taken.1 }

-- looking for a line feed after the spots of all renditions decides whether the text begins with a place line
pub passed_or_not : (renditions : ℕ) (text rest : List ℕ) (found : Option (Bor (List ℕ))) → SpotsPassed renditions text rest renditions →
    MatchOption found ((after : List ℕ) → rest ≡ 10 ∷ after → ⊥) (λ after. rest ≡ 10 ∷ after.now) →
    MatchOption found ((after : List ℕ) → SkipsPlace renditions text after → ⊥) (λ after. SkipsPlace renditions text after.now)
passed_or_not renditions text rest None lines_read none = none_end renditions text rest lines_read none
passed_or_not renditions text rest (Some after) lines_read is = place_passed renditions text rest after.now lines_read is

-- p places were skipped, and `rest` remains of the text
pub record PlacesPassed (h : CertificateHead) (text rest : List ℕ) (p : ℕ) : Type 0 where
  pub places : List (List Spot)
  pub read : PlacesRead h text places rest p

-- before the first place line no place was skipped
pub no_place_passed : (h : CertificateHead) (text : List ℕ) → PlacesPassed h text text 0
no_place_passed h text = record { places = []; read = no_place_read h text }

-- after a place line one more place was skipped
pub one_place_more : (h : CertificateHead) (text rest : List ℕ) (p : ℕ) (after : List ℕ) → PlacesPassed h text rest p →
    SkipsPlace h.renditions rest after → PlacesPassed h text after (p + 1)
one_place_more h text rest p after lines_read next = record {
  places = lines_read.places ++ (next.place ∷ []);
  read = place_more h text lines_read.places rest p next.place after lines_read.read next.good
      (place_first h.renditions rest next.place after next.good next.is) (place_shorter rest next.place after next.is);
}

-- while places remain, a text that begins with no place line has its first wrong line there
pub wrong_place : (h : CertificateHead) (bytes text : List ℕ) (first : ℕ) (rest : List ℕ) (p : ℕ) → IsReadUpTo (AtPlace h []) bytes text first → PlacesPassed h text rest p → p < h.count →
    ((after : List ℕ) → SkipsPlace h.renditions rest after → ⊥) → IsFirstWrongLine bytes (first + p + 1)
wrong_place h bytes text first rest p at lines_read more none =
    stops (AtPlace h lines_read.places) tt bytes rest (first + p) (at_place h bytes text first lines_read.places rest p at lines_read.read more) (first + p + 1)
    (place_refused h.renditions (first + p) rest (λ place after good is. none after (record { place = place; good = good; is = is })))

-- when as many places were skipped as the header announces, the claim comes next
pub all_passed : (h : CertificateHead) (bytes text : List ℕ) (first : ℕ) (rest : List ℕ) → IsReadUpTo (AtPlace h []) bytes text first →
    PlacesPassed h text rest h.count → SkipsPlaces h bytes rest (first + h.count)
all_passed h bytes text first rest at lines_read =
    record { places = lines_read.places; count = lines_read.read.count; at = at_claim h bytes text first lines_read.places rest at lines_read.read }

-- a line whose word `plan` is followed by numbers below `count` is a plan line
pub plan_is : (line numbers : List ℕ) (count : ℕ) → line ≡ codes "plan " ++ numbers → AreNumbersBelow numbers count → IsPlanLine count line
plan_is line numbers count is below = record {
  plan = below.numbers;
  not_empty = below.are.some;
  in_range = below.below;
  is = is ∙ ap (λ (xs : List ℕ). codes "plan " ++ xs) below.are.is;
}

-- a line after a cut's cost that isn't a plan line is the first wrong line
pub wrong_plan : (bytes text line after : List ℕ) (t : Table) (total lines_read count : ℕ) → length t.places ≡ count →
    IsReadUpTo (AtPlan t total) bytes text lines_read → IsFirstLine text line after → (IsPlanLine count line → ⊥) → IsFirstWrongLine bytes (lines_read + 1)
wrong_plan bytes text line after t total lines_read count count_is at first none =
    let P : ℕ → Type 0 = λ n. IsPlanLine n line in
    stops (AtPlan t total) tt bytes text lines_read at (lines_read + 1)
    (line_refused (IsPlanLine (length t.places)) text line after lines_read first (λ good. none (subst P count_is good)))

-- if the text ends after a cut's cost, the line after it is the first wrong one
pub missing_plan : (bytes text : List ℕ) (t : Table) (total lines_read : ℕ) → IsReadUpTo (AtPlan t total) bytes text lines_read →
    (cut_text text).lines ≡ [] → IsFirstWrongLine bytes (lines_read + 1)
missing_plan bytes text t total lines_read at none =
    stops (AtPlan t total) tt bytes text lines_read at (lines_read + 1)
    (refl, λ line after here good. let e : [] ≡ line ∷ after = sym none ∙ here in absurd cc)

-- some plan line was read, and the prices come next
pub record AfterPlan (bytes after : List ℕ) (t : Table) (total lines_read : ℕ) : Type 0 where
  pub plan : List ℕ
  pub at : IsReadUpTo (AtPrice t total plan []) bytes after (lines_read + 1)

-- after a plan line the prices come next
pub behind_plan : (bytes text line after : List ℕ) (t : Table) (total lines_read count : ℕ) → length t.places ≡ count →
    IsReadUpTo (AtPlan t total) bytes text lines_read → IsFirstLine text line after → IsPlanLine count line → AfterPlan bytes after t total lines_read
behind_plan bytes text line after t total lines_read count count_is at first good =
    let P : ℕ → Type 0 = λ n. All (λ p. p < n) good.plan in
    record {
      plan = good.plan;
      at = at_prices bytes text after t total lines_read good.plan at
          (good.not_empty, subst P (sym count_is) good.in_range, subst (λ (l : List ℕ). IsFirstLine text l after) good.is first);
    }

-- prices that were skipped; the last one's place is less than `low`
pub record PricesPassed (count : ℕ) (whole : List ℕ) (first low : ℕ) (rest : List ℕ) (lines_read : ℕ) : Type 0 where
  pub prices : List (Option ℕ)
  pub low_is : low ≡ length prices
  pub read : PricesRead count whole first prices rest lines_read

-- right after the plan line no price was skipped
pub no_price_passed : (count : ℕ) (whole : List ℕ) (first : ℕ) → PricesPassed count whole first 0 whole first
no_price_passed count whole first = record { prices = []; low_is = refl; read = no_price_read count whole first }

-- after a valid price line one more price was skipped
pub one_price_more : (count : ℕ) (whole : List ℕ) (first low : ℕ) (rest line after : List ℕ) (lines_read place price : ℕ) →
    PricesPassed count whole first low rest lines_read → IsFirstLine rest line after → length after < length rest →
    (low ≤ place) × (place < count) × (price < 2 ^ 53) × (line ≡ price_line (priced_place place price)) →
    PricesPassed count whole first (place + 1) after (lines_read + 1)
one_price_more count whole first low rest line after lines_read place price before first_line shorter told =
    let above : length before.prices ≤ place = omega (arith, before.low_is, told.0) in
    record {
      prices = with_price before.prices place price;
      low_is = simp (length-append, length-replicate) (omega arith);
      read = price_more count whole first before.prices (with_price before.prices place price) rest line after lines_read place price
          before.read first_line shorter (above, told.1, told.2, told.3) refl;
    }

-- a line after some prices that is neither `end` nor the price line of a later place is the first wrong line
pub wrong_price : (count : ℕ) (whole : List ℕ) (first low : ℕ) (rest line after : List ℕ) (lines_read : ℕ) →
    PricesPassed count whole first low rest lines_read → IsFirstLine rest line after → (line ≡ end_line → ⊥) → (IsPriceLine low count line → ⊥) →
    (bytes plan : List ℕ) (t : Table) (total : ℕ) → length t.places ≡ count → IsReadUpTo (AtPrice t total plan []) bytes whole first →
    IsFirstWrongLine bytes (lines_read + 1)
wrong_price count whole first low rest line after lines_read before first_line no_end no_price =
    let P : ℕ → Type 0 = λ n. IsPriceLine n count line → ⊥ in
    price_bad count whole first before.prices rest line after lines_read before.read first_line no_end (subst P before.low_is no_price)

-- if the text ends after some prices, the line after them is the first wrong one
pub missing_price : (count : ℕ) (whole : List ℕ) (first low : ℕ) (rest : List ℕ) (lines_read : ℕ) →
    PricesPassed count whole first low rest lines_read → (cut_text rest).lines ≡ [] →
    (bytes plan : List ℕ) (t : Table) (total : ℕ) → length t.places ≡ count → IsReadUpTo (AtPrice t total plan []) bytes whole first →
    IsFirstWrongLine bytes (lines_read + 1)
missing_price count whole first low rest lines_read before none = price_missing count whole first before.prices rest lines_read before.read none

-- the prices that were read, padded to `count`: places after the last have none
abbrev pub all_prices : ℕ → List (Option ℕ) → List (Option ℕ)
all_prices count prices = take count prices ++ replicate (count - length prices) None

-- the line `end` after the prices completes a certificate of a cut
pub prices_passed : (count : ℕ) (whole : List ℕ) (first low : ℕ) (rest line after : List ℕ) (lines_read : ℕ)
    (before : PricesPassed count whole first low rest lines_read) → IsFirstLine rest line after → line ≡ end_line →
    (bytes plan : List ℕ) (t : Table) (total : ℕ) → length t.places ≡ count → IsReadUpTo (AtPrice t total plan []) bytes whole first →
    IsReadUpTo (AtEnd (certificate_with t (CutClaim total plan (all_prices count before.prices)))) bytes after (lines_read + 1)
prices_passed count whole first low rest line after lines_read before first_line is_end =
    price_end count whole first before.prices (all_prices count before.prices) rest line after lines_read before.read first_line is_end refl

-- places of the closed set that were skipped; the last is less than `low`
pub record ClosedPassed (count : ℕ) (whole : List ℕ) (first low : ℕ) (rest : List ℕ) (lines_read : ℕ) : Type 0 where
  pub closed : List Bool
  pub low_is : low ≡ length closed
  pub read : ClosedRead count whole first closed rest lines_read

-- right after the line `none` no place of the closed set was skipped
pub no_member_passed : (count : ℕ) (whole : List ℕ) (first : ℕ) → ClosedPassed count whole first 0 whole first
no_member_passed count whole first = record { closed = []; low_is = refl; read = no_member_read count whole first }

-- after a valid line of the closed set one more of its places was skipped
pub one_member_more : (count : ℕ) (whole : List ℕ) (first low : ℕ) (rest line after : List ℕ) (lines_read place : ℕ) →
    ClosedPassed count whole first low rest lines_read → IsFirstLine rest line after → length after < length rest →
    (low ≤ place) × (place < count) × (line ≡ closed_line place) → ClosedPassed count whole first (place + 1) after (lines_read + 1)
one_member_more count whole first low rest line after lines_read place before first_line shorter told =
    let above : length before.closed ≤ place = omega (arith, before.low_is, told.0) in
    record {
      closed = with_member before.closed place;
      low_is = simp (length-append, length-replicate) (omega arith);
      read = member_more count whole first before.closed (with_member before.closed place) rest line after lines_read place
          before.read first_line shorter (above, told.1, told.2) refl;
    }

-- a line after some places of the closed set that is neither `end` nor the line of a later place is the first wrong line
pub wrong_member : (count : ℕ) (whole : List ℕ) (first low : ℕ) (rest line after : List ℕ) (lines_read : ℕ) →
    ClosedPassed count whole first low rest lines_read → IsFirstLine rest line after → (line ≡ end_line → ⊥) → (IsClosedLine low count line → ⊥) →
    (bytes : List ℕ) (t : Table) → length t.places ≡ count → IsReadUpTo (AtClosed t []) bytes whole first → IsFirstWrongLine bytes (lines_read + 1)
wrong_member count whole first low rest line after lines_read before first_line no_end no_member =
    let P : ℕ → Type 0 = λ n. IsClosedLine n count line → ⊥ in
    member_bad count whole first before.closed rest line after lines_read before.read first_line no_end (subst P before.low_is no_member)

-- if the text ends after some places of the closed set, the line after them is the first wrong one
pub missing_member : (count : ℕ) (whole : List ℕ) (first low : ℕ) (rest : List ℕ) (lines_read : ℕ) →
    ClosedPassed count whole first low rest lines_read → (cut_text rest).lines ≡ [] →
    (bytes : List ℕ) (t : Table) → length t.places ≡ count → IsReadUpTo (AtClosed t []) bytes whole first → IsFirstWrongLine bytes (lines_read + 1)
missing_member count whole first low rest lines_read before none = member_missing count whole first before.closed rest lines_read before.read none

-- the flags that were read, padded to `count`: places after the last are outside the set
abbrev pub all_closed : ℕ → List Bool → List Bool
all_closed count closed = take count closed ++ replicate (count - length closed) false

-- the line `end` after the closed set completes a certificate of no cut
pub closed_passed : (count : ℕ) (whole : List ℕ) (first low : ℕ) (rest line after : List ℕ) (lines_read : ℕ)
    (before : ClosedPassed count whole first low rest lines_read) → IsFirstLine rest line after → line ≡ end_line →
    (bytes : List ℕ) (t : Table) → length t.places ≡ count → IsReadUpTo (AtClosed t []) bytes whole first →
    IsReadUpTo (AtEnd (certificate_with t (NoneClaim (all_closed count before.closed)))) bytes after (lines_read + 1)
closed_passed count whole first low rest line after lines_read before first_line is_end =
    member_end count whole first before.closed (all_closed count before.closed) rest line after lines_read before.read first_line is_end refl

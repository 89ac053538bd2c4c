-- The progress of a reader after the places: prices or a closed set, line by line.
use Rattle.std.proofs.Common.{◌≡◌, refl, sym, ◌∙◌, ap, ap₂, subst, ℕ, ◌+◌, ◌-◌, ◌^◌, ◌<◌, ◌≤◌, Bool, true, false, List, [], ◌∷◌, ◌++◌, length, map, take, replicate, All, arith, append_assoc, codes, Option, Some, None, inl, inr, ◌⊎◌, Err}
use Rattle.std.proofs.lemmas.List.Elements.{All-cons, All-nil, All-append, All-replicate}
use Rattle.std.proofs.lemmas.List.{length-append, length-replicate, map-append, take_all}
use Rattle.hls_check_tables.specs.Tables.{Table, IsTable}
use Rattle.hls_check_tables.specs.Certificates.{CertificateData, CutClaim, NoneClaim, IsCertificate, IsPriceInRange}
use Rattle.hls_text.specs.Lines.{cut_text, IsFirstLine}
use Rattle.hls_check.specs.Text.{cut_line, none_line, end_line, plan_line, price_line, closed_line, table_lines, claim_lines, lines, text, PricedPlace, priced_place, priced_places_from, closed_places_from}
use Rattle.hls_check.specs.Stages.{ReadingStage, IsWrongLineOrMemory, Builds, IsNext, IsNumberLine, IsPlanLine, IsPriceLine, IsClosedLine, IsReadUpTo, AtClaim, AtPlan, AtPrice, AtClosed, AtEnd, IsPlanForm, AreFirstPrices, AreFirstClosed, place_after_priced, place_after_closed, certificate_with, WhenAtPrice}
use Rattle.hls_check.proofs.Stagings.{IsOpen}
use Rattle.hls_check.proofs.Starts.{unpriced, left_out}
use Rattle.hls_text.specs.Numbers.{numbers_text}
use Rattle.hls_check.specs.WrongLines.{IsFirstWrongLine}
use Rattle.hls_check_tables.specs.declared.cert_fault.CertFault.{CertFault}
use Rattle.hls_check.proofs.Cited.{first_cut}
use Rattle.hls_check.proofs.Wrongs.{at_next, first_wrong, stops_building, is_whole}

-- the places that have a price in one list of prices after another are those of the first, then those of the second
priced_place-append : (k : ℕ) (xs ys : List (Option ℕ)) → priced_places_from k (xs ++ ys) ≡ priced_places_from k xs ++ priced_places_from (k + length xs) ys
unfolding priced_places_from
priced_place-append k [] ys = ap (λ (j : ℕ). priced_places_from j ys) (omega arith)
priced_place-append k (None ∷ xs) ys =
    priced_place-append (k + 1) xs ys ∙ ap (λ (j : ℕ). priced_places_from (k + 1) xs ++ priced_places_from j ys) (omega arith)
priced_place-append k (Some v ∷ xs) ys =
    ap (λ (ps : List PricedPlace). record { place = k; price = v } ∷ ps)
    (priced_place-append (k + 1) xs ys ∙ ap (λ (j : ℕ). priced_places_from (k + 1) xs ++ priced_places_from j ys) (omega arith))

-- the same for the places of a closed set
members-append : (k : ℕ) (xs ys : List Bool) → closed_places_from k (xs ++ ys) ≡ closed_places_from k xs ++ closed_places_from (k + length xs) ys
unfolding closed_places_from
members-append k [] ys = ap (λ (j : ℕ). closed_places_from j ys) (omega arith)
members-append k (false ∷ xs) ys =
    members-append (k + 1) xs ys ∙ ap (λ (j : ℕ). closed_places_from (k + 1) xs ++ closed_places_from j ys) (omega arith)
members-append k (true ∷ xs) ys =
    ap (λ (ps : List ℕ). k ∷ ps)
    (members-append (k + 1) xs ys ∙ ap (λ (j : ℕ). closed_places_from (k + 1) xs ++ closed_places_from j ys) (omega arith))

-- one more than the last place that has a price is the number after the place that was added last
past_priced_last : (k : ℕ) (ps : List PricedPlace) (p : PricedPlace) → place_after_priced k (ps ++ (p ∷ [])) ≡ p.place + 1
past_priced_last k [] p = refl
past_priced_last k (q ∷ ps) p = past_priced_last (q.place + 1) ps p

-- one more than the last place of a closed set is the number after the place that was added last
past_members_last : (k : ℕ) (ps : List ℕ) (p : ℕ) → place_after_closed k (ps ++ (p ∷ [])) ≡ p + 1
past_members_last k [] p = refl
past_members_last k (q ∷ ps) p = past_members_last (q + 1) ps p

-- a `resize` that makes a list longer keeps its elements and appends copies of x
pub padded : (X : Type 0) (xs ys : List X) (n : ℕ) (x : X) → length xs ≤ n → ys ≡ take n xs ++ replicate (n - length xs) x →
    ys ≡ xs ++ replicate (n - length xs) x
padded X xs ys n x h is = is ∙ ap (λ (zs : List X). zs ++ replicate (n - length xs) x) (take_all n xs h)

-- the prices with one more at a later place; the places between have none
abbrev pub with_price : List (Option ℕ) → ℕ → ℕ → List (Option ℕ)
with_price prices place price = (prices ++ replicate (place - length prices) None) ++ (Some price ∷ [])

-- `with_price` appends exactly this place and its price to the places that have a price
price_added : (prices : List (Option ℕ)) (place price : ℕ) → length prices ≤ place →
    priced_places_from 0 (with_price prices place price) ≡ priced_places_from 0 prices ++ (priced_place place price ∷ [])
unfolding priced_places_from
price_added prices place price h =
    let pad : ℕ = place - length prices in
    let len : 0 + length (prices ++ replicate (place - length prices) None) ≡ place =
    simp (length-append, length-replicate) (omega arith) in
    priced_place-append 0 (prices ++ replicate (place - length prices) None) (Some price ∷ [])
    ∙ ap₂ (λ (ps : List PricedPlace) (j : ℕ). ps ++ (priced_place j price ∷ [])) (unpriced 0 prices (place - length prices)) len

-- the flags of a closed set with one more place, later than all others
abbrev pub with_member : List Bool → ℕ → List Bool
with_member closed place = (closed ++ replicate (place - length closed) false) ++ (true ∷ [])

-- `with_member` appends exactly this place to the places of the set
member_added : (closed : List Bool) (place : ℕ) → length closed ≤ place →
    closed_places_from 0 (with_member closed place) ≡ closed_places_from 0 closed ++ (place ∷ [])
unfolding closed_places_from
member_added closed place h =
    let len : 0 + length (closed ++ replicate (place - length closed) false) ≡ place =
    simp (length-append, length-replicate) (omega arith) in
    members-append 0 (closed ++ replicate (place - length closed) false) (true ∷ [])
    ∙ ap₂ (λ (ps : List ℕ) (j : ℕ). ps ++ (j ∷ [])) (left_out 0 closed (place - length closed)) len

-- the prices that were read stay well formed when a price in range is added at a later place of the table
price_kept : (count : ℕ) (prices : List (Option ℕ)) (place price : ℕ) → AreFirstPrices count prices → length prices ≤ place →
    place < count → price < 2 ^ 53 → AreFirstPrices count (with_price prices place price)
price_kept count prices place price good above below small =
    let len : length (with_price prices place price) ≡ place + 1 =
    simp (length-append, length-replicate) (omega arith) in
    record {
      within = omega arith;
      ends_after_last = len ∙ sym (past_priced_last 0 (priced_places_from 0 prices) (priced_place place price))
          ∙ ap (place_after_priced 0) (sym (price_added prices place price above));
      small = All-append IsPriceInRange (prices ++ replicate (place - length prices) None) (Some price ∷ [])
          (All-append IsPriceInRange prices (replicate (place - length prices) None) good.small
          (All-replicate IsPriceInRange (place - length prices) None tt))
          (All-cons IsPriceInRange (Some price) [] small (All-nil IsPriceInRange));
    }

-- the flags that were read stay well formed when a later place of the table is added
member_kept : (count : ℕ) (closed : List Bool) (place : ℕ) → AreFirstClosed count closed → length closed ≤ place → place < count →
    AreFirstClosed count (with_member closed place)
member_kept count closed place good above below =
    let len : length (with_member closed place) ≡ place + 1 = simp (length-append, length-replicate) (omega arith) in
    record {
      within = omega arith;
      ends_after_last = len ∙ sym (past_members_last 0 (closed_places_from 0 closed) place)
          ∙ ap (place_after_closed 0) (sym (member_added closed place above));
    }

-- prices in range stay in range if places without a price follow
small_padded : (prices : List (Option ℕ)) (n : ℕ) → All IsPriceInRange prices → All IsPriceInRange (prices ++ replicate n None)
small_padded prices n small =
    All-append IsPriceInRange prices (replicate n None) small (All-replicate IsPriceInRange n None tt)

-- prices that were read one by one: `first` lines come before `whole`, which begins after the plan line, and `rest` remains of it
pub record PricesRead (count : ℕ) (whole : List ℕ) (first : ℕ) (prices : List (Option ℕ)) (rest : List ℕ) (lines_read : ℕ) : Type 0 where
  pub shorter : lines_read + length rest ≤ first + length whole
  pub within : length prices ≤ count
  pub small : All IsPriceInRange prices
  pub at : (bytes plan : List ℕ) (t : Table) (total : ℕ) → length t.places ≡ count → IsReadUpTo (AtPrice t total plan []) bytes whole first →
      IsReadUpTo (AtPrice t total plan prices) bytes rest lines_read

-- right after the plan line no price has been read
pub no_price_read : (count : ℕ) (whole : List ℕ) (first : ℕ) → PricesRead count whole first [] whole first
no_price_read count whole first =
    record { shorter = omega arith; within = omega arith; small = All-nil IsPriceInRange; at = λ bytes plan t total count_is at. at }

-- the lines up to a price that was just read are the lines before it, then its price line
price_front : (t : Table) (total : ℕ) (plan : List ℕ) (prices more : List (Option ℕ)) (p : PricedPlace) →
    priced_places_from 0 more ≡ priced_places_from 0 prices ++ (p ∷ []) →
    table_lines t ++ (cut_line total ∷ plan_line plan ∷ map price_line (priced_places_from 0 more))
    ≡ (table_lines t ++ (cut_line total ∷ plan_line plan ∷ map price_line (priced_places_from 0 prices))) ++ (price_line p ∷ [])
price_front t total plan prices more p added =
    ap (λ (ls : List (List ℕ)). table_lines t ++ (cut_line total ∷ plan_line plan ∷ ls))
    (ap (map price_line) added ∙ map-append price_line (priced_places_from 0 prices) (p ∷ []))
    ∙ sym (append_assoc (table_lines t) (cut_line total ∷ plan_line plan ∷ map price_line (priced_places_from 0 prices)) (price_line p ∷ []))

-- after a valid price line one more price has been read
pub price_more : (count : ℕ) (whole : List ℕ) (first : ℕ) (prices more : List (Option ℕ)) (rest line after : List ℕ) (lines_read place price : ℕ) →
    PricesRead count whole first prices rest lines_read → IsFirstLine rest line after → length after < length rest →
    (length prices ≤ place) × (place < count) × (price < 2 ^ 53) × (line ≡ price_line (priced_place place price)) →
    more ≡ with_price prices place price → PricesRead count whole first more after (lines_read + 1)
price_more count whole first prices more rest line after lines_read place price read first_line shorter told is =
    let before : lines_read + length rest ≤ first + length whole = read.shorter in
    let above : length prices ≤ place = told.0 in
    let below : place < count = told.1 in
    let len : length (with_price prices place price) ≡ place + 1 =
    simp (length-append, length-replicate) (omega arith) in
    let more_len : length more ≡ place + 1 = ap length is ∙ len in
    record {
      shorter = omega arith;
      within = omega arith;
      small = subst (All IsPriceInRange) (sym is)
          (All-append IsPriceInRange (prices ++ replicate (place - length prices) None) (Some price ∷ [])
          (small_padded prices (place - length prices) read.small)
          (All-cons IsPriceInRange (Some price) [] told.2 (All-nil IsPriceInRange)));
      at = λ bytes plan t total count_is at.
          let here : IsReadUpTo (AtPrice t total plan prices) bytes rest lines_read = read.at bytes plan t total count_is at in
          let P : ℕ → Type 0 = λ n. AreFirstPrices n prices in
          let kept : AreFirstPrices count (with_price prices place price) =
          price_kept count prices place price (subst P count_is here.is_stage.2) above below told.2 in
          let Q : ℕ → Type 0 = λ n. AreFirstPrices n more in
          let good : AreFirstPrices (length t.places) more =
          subst Q (sym count_is) (subst (AreFirstPrices count) (sym is) kept) in
          let added : priced_places_from 0 more ≡ priced_places_from 0 prices ++ (priced_place place price ∷ []) =
          ap (priced_places_from 0) is ∙ price_added prices place price above in
          at_next (AtPrice t total plan prices) (AtPrice t total plan more) bytes rest (price_line (priced_place place price)) after lines_read here
          (subst (λ (l : List ℕ). IsFirstLine rest l after) told.3 first_line)
          (here.is_stage.0, here.is_stage.1, good)
          (price_front t total plan prices more (priced_place place price) added);
    }

-- the prices that were read, padded to one for each place, make a certificate of a cut
cut_form : (t : Table) (total : ℕ) (plan : List ℕ) (prices more : List (Option ℕ)) → IsTable t → IsPlanForm (length t.places) total plan →
    AreFirstPrices (length t.places) prices → more ≡ prices ++ replicate (length t.places - length prices) None →
    IsCertificate (certificate_with t (CutClaim total plan more))
cut_form t total plan prices more table planned good is =
    let within : length prices ≤ length t.places = good.within in
    record {
      table = table;
      form = record {
        total_small = planned.total_small;
        not_empty = planned.not_empty;
        in_range = planned.in_range;
        one_each = ap length is ∙ simp (length-append, length-replicate) (omega arith);
        prices_small = subst (All IsPriceInRange) (sym is)
            (All-append IsPriceInRange prices (replicate (length t.places - length prices) None) good.small
            (All-replicate IsPriceInRange (length t.places - length prices) None tt));
      };
    }

-- the line `end` after the prices completes the certificate of the cut; places after the last price have none
pub price_end : (count : ℕ) (whole : List ℕ) (first : ℕ) (prices more : List (Option ℕ)) (rest line after : List ℕ) (lines_read : ℕ) →
    PricesRead count whole first prices rest lines_read → IsFirstLine rest line after → line ≡ end_line →
    more ≡ take count prices ++ replicate (count - length prices) None →
    (bytes plan : List ℕ) (t : Table) (total : ℕ) → length t.places ≡ count → IsReadUpTo (AtPrice t total plan []) bytes whole first →
    IsReadUpTo (AtEnd (certificate_with t (CutClaim total plan more))) bytes after (lines_read + 1)
unfolding lines claim_lines
price_end count whole first prices more rest line after lines_read read first_line is_end is bytes plan t total count_is at =
    let here : IsReadUpTo (AtPrice t total plan prices) bytes rest lines_read = read.at bytes plan t total count_is at in
    let padded_is : more ≡ prices ++ replicate (length t.places - length prices) None =
    padded (Option ℕ) prices more count None read.within is
    ∙ ap (λ (n : ℕ). prices ++ replicate (n - length prices) None) (sym count_is) in
    let same : priced_places_from 0 more ≡ priced_places_from 0 prices =
    ap (priced_places_from 0) padded_is ∙ unpriced 0 prices (length t.places - length prices) in
    at_next (AtPrice t total plan prices) (AtEnd (certificate_with t (CutClaim total plan more))) bytes rest end_line after lines_read here
    (subst (λ (l : List ℕ). IsFirstLine rest l after) is_end first_line)
    (cut_form t total plan prices more here.is_stage.0 here.is_stage.1 here.is_stage.2 padded_is)
    (ap (λ (ps : List PricedPlace). table_lines t ++ (cut_line total ∷ plan_line plan ∷ (map price_line ps ++ (end_line ∷ [])))) same
    ∙ sym (append_assoc (table_lines t) (cut_line total ∷ plan_line plan ∷ map price_line (priced_places_from 0 prices)) (end_line ∷ [])))

-- places of the closed set that were read one by one; `whole` begins after the line `none`, and `rest` remains of it
pub record ClosedRead (count : ℕ) (whole : List ℕ) (first : ℕ) (closed : List Bool) (rest : List ℕ) (lines_read : ℕ) : Type 0 where
  pub shorter : lines_read + length rest ≤ first + length whole
  pub within : length closed ≤ count
  pub at : (bytes : List ℕ) (t : Table) → length t.places ≡ count → IsReadUpTo (AtClosed t []) bytes whole first →
      IsReadUpTo (AtClosed t closed) bytes rest lines_read

-- right after the line `none` no place of the closed set has been read
pub no_member_read : (count : ℕ) (whole : List ℕ) (first : ℕ) → ClosedRead count whole first [] whole first
no_member_read count whole first = record { shorter = omega arith; within = omega arith; at = λ bytes t count_is at. at }

-- after a valid line of the closed set one more of its places has been read
pub member_more : (count : ℕ) (whole : List ℕ) (first : ℕ) (closed more : List Bool) (rest line after : List ℕ) (lines_read place : ℕ) →
    ClosedRead count whole first closed rest lines_read → IsFirstLine rest line after → length after < length rest →
    (length closed ≤ place) × (place < count) × (line ≡ closed_line place) →
    more ≡ with_member closed place → ClosedRead count whole first more after (lines_read + 1)
member_more count whole first closed more rest line after lines_read place read first_line shorter member is =
    let before : lines_read + length rest ≤ first + length whole = read.shorter in
    let above : length closed ≤ place = member.0 in
    let below : place < count = member.1 in
    let len : length (with_member closed place) ≡ place + 1 = simp (length-append, length-replicate) (omega arith) in
    let more_len : length more ≡ place + 1 = ap length is ∙ len in
    record {
      shorter = omega arith;
      within = omega arith;
      at = λ bytes t count_is at.
          let here : IsReadUpTo (AtClosed t closed) bytes rest lines_read = read.at bytes t count_is at in
          let P : ℕ → Type 0 = λ n. AreFirstClosed n closed in
          let kept : AreFirstClosed count (with_member closed place) =
          member_kept count closed place (subst P count_is here.is_stage.1) above below in
          let Q : ℕ → Type 0 = λ n. AreFirstClosed n more in
          let good : AreFirstClosed (length t.places) more = subst Q (sym count_is) (subst (AreFirstClosed count) (sym is) kept) in
          let added : closed_places_from 0 more ≡ closed_places_from 0 closed ++ (place ∷ []) =
          ap (closed_places_from 0) is ∙ member_added closed place above in
          at_next (AtClosed t closed) (AtClosed t more) bytes rest (closed_line place) after lines_read here
          (subst (λ (l : List ℕ). IsFirstLine rest l after) member.2 first_line)
          (here.is_stage.0, good)
          (ap (λ (ls : List (List ℕ)). table_lines t ++ (none_line ∷ ls))
          (ap (map closed_line) added ∙ map-append closed_line (closed_places_from 0 closed) (place ∷ []))
          ∙ sym (append_assoc (table_lines t) (none_line ∷ map closed_line (closed_places_from 0 closed)) (closed_line place ∷ [])));
    }

-- the line `end` after the closed set completes the certificate of no cut; places after its last are outside the set
pub member_end : (count : ℕ) (whole : List ℕ) (first : ℕ) (closed more : List Bool) (rest line after : List ℕ) (lines_read : ℕ) →
    ClosedRead count whole first closed rest lines_read → IsFirstLine rest line after → line ≡ end_line →
    more ≡ take count closed ++ replicate (count - length closed) false →
    (bytes : List ℕ) (t : Table) → length t.places ≡ count → IsReadUpTo (AtClosed t []) bytes whole first →
    IsReadUpTo (AtEnd (certificate_with t (NoneClaim more))) bytes after (lines_read + 1)
unfolding lines claim_lines
member_end count whole first closed more rest line after lines_read read first_line is_end is bytes t count_is at =
    let here : IsReadUpTo (AtClosed t closed) bytes rest lines_read = read.at bytes t count_is at in
    let within : length closed ≤ count = read.within in
    let padded_is : more ≡ closed ++ replicate (length t.places - length closed) false =
    padded Bool closed more count false read.within is
    ∙ ap (λ (n : ℕ). closed ++ replicate (n - length closed) false) (sym count_is) in
    let same : closed_places_from 0 more ≡ closed_places_from 0 closed =
    ap (closed_places_from 0) padded_is ∙ left_out 0 closed (length t.places - length closed) in
    let len : length (closed ++ replicate (length t.places - length closed) false) ≡ length t.places =
    simp (length-append, length-replicate) (omega arith) in
    at_next (AtClosed t closed) (AtEnd (certificate_with t (NoneClaim more))) bytes rest end_line after lines_read here
    (subst (λ (l : List ℕ). IsFirstLine rest l after) is_end first_line)
    (record { table = here.is_stage.0; form = ap length padded_is ∙ len })
    (ap (λ (ps : List ℕ). table_lines t ++ (none_line ∷ (map closed_line ps ++ (end_line ∷ [])))) same
    ∙ sym (append_assoc (table_lines t) (none_line ∷ map closed_line (closed_places_from 0 closed)) (end_line ∷ [])))

-- if the text ends where a further line must follow, that line is the first wrong one
line_missing : (s : ReadingStage) → IsOpen s → (bytes rest : List ℕ) (lines_read : ℕ) → IsReadUpTo s bytes rest lines_read → (cut_text rest).lines ≡ [] →
    IsFirstWrongLine bytes (lines_read + 1)
line_missing s open_ bytes rest lines_read at none =
    first_wrong s open_ bytes rest lines_read at (λ line after here good. let e : [] ≡ line ∷ after = sym none ∙ here in absurd cc)

-- if the next line may not come next, it is the first wrong line
line_bad : (s : ReadingStage) → IsOpen s → (bytes rest line after : List ℕ) (lines_read : ℕ) → IsReadUpTo s bytes rest lines_read →
    IsFirstLine rest line after → (IsNext s line → ⊥) → IsFirstWrongLine bytes (lines_read + 1)
line_bad s open_ bytes rest line after lines_read at first_line bad =
    first_wrong s open_ bytes rest lines_read at
    (λ other others here good.
    let heads : line ∷ (cut_text after).lines ≡ other ∷ others = sym (first_cut rest line after first_line).0 ∙ here in
    let same : line ≡ other = cc in
    bad (subst (IsNext s) (sym same) good))

-- if the text ends after some prices, the line after them is the first wrong one
pub price_missing : (count : ℕ) (whole : List ℕ) (first : ℕ) (prices : List (Option ℕ)) (rest : List ℕ) (lines_read : ℕ) →
    PricesRead count whole first prices rest lines_read → (cut_text rest).lines ≡ [] →
    (bytes plan : List ℕ) (t : Table) (total : ℕ) → length t.places ≡ count → IsReadUpTo (AtPrice t total plan []) bytes whole first →
    IsFirstWrongLine bytes (lines_read + 1)
price_missing count whole first prices rest lines_read read none bytes plan t total count_is at =
    line_missing (AtPrice t total plan prices) tt bytes rest lines_read (read.at bytes plan t total count_is at) none

-- a line after some prices that is neither `end` nor the price line of a later place is the first wrong line
pub price_bad : (count : ℕ) (whole : List ℕ) (first : ℕ) (prices : List (Option ℕ)) (rest line after : List ℕ) (lines_read : ℕ) →
    PricesRead count whole first prices rest lines_read → IsFirstLine rest line after → (line ≡ end_line → ⊥) →
    (IsPriceLine (length prices) count line → ⊥) →
    (bytes plan : List ℕ) (t : Table) (total : ℕ) → length t.places ≡ count → IsReadUpTo (AtPrice t total plan []) bytes whole first →
    IsFirstWrongLine bytes (lines_read + 1)
price_bad count whole first prices rest line after lines_read read first_line no_end no_price bytes plan t total count_is at =
    line_bad (AtPrice t total plan prices) tt bytes rest line after lines_read (read.at bytes plan t total count_is at) first_line
    (λ good.
    let P : ℕ → Type 0 = λ n. IsPriceLine (length prices) n line in
    elim good [ inl ended ↦ no_end ended | inr priced_place ↦ no_price (subst P count_is priced_place) ])

-- if the text ends after some places of the closed set, the line after them is the first wrong one
pub member_missing : (count : ℕ) (whole : List ℕ) (first : ℕ) (closed : List Bool) (rest : List ℕ) (lines_read : ℕ) →
    ClosedRead count whole first closed rest lines_read → (cut_text rest).lines ≡ [] →
    (bytes : List ℕ) (t : Table) → length t.places ≡ count → IsReadUpTo (AtClosed t []) bytes whole first → IsFirstWrongLine bytes (lines_read + 1)
member_missing count whole first closed rest lines_read read none bytes t count_is at =
    line_missing (AtClosed t closed) tt bytes rest lines_read (read.at bytes t count_is at) none

-- a line after some places of the closed set that is neither `end` nor the line of a later place is the first wrong line
pub member_bad : (count : ℕ) (whole : List ℕ) (first : ℕ) (closed : List Bool) (rest line after : List ℕ) (lines_read : ℕ) →
    ClosedRead count whole first closed rest lines_read → IsFirstLine rest line after → (line ≡ end_line → ⊥) →
    (IsClosedLine (length closed) count line → ⊥) →
    (bytes : List ℕ) (t : Table) → length t.places ≡ count → IsReadUpTo (AtClosed t []) bytes whole first → IsFirstWrongLine bytes (lines_read + 1)
member_bad count whole first closed rest line after lines_read read first_line no_end no_member bytes t count_is at =
    line_bad (AtClosed t closed) tt bytes rest line after lines_read (read.at bytes t count_is at) first_line
    (λ good.
    let P : ℕ → Type 0 = λ n. IsClosedLine (length closed) n line in
    elim good [ inl ended ↦ no_end ended | inr member ↦ no_member (subst P count_is member) ])

-- after a line of a cut's cost the plan line comes next
pub at_plan : (bytes rest after : List ℕ) (t : Table) (total lines_read : ℕ) → IsReadUpTo (AtClaim t) bytes rest lines_read →
    total < 2 ^ 53 → IsFirstLine rest (cut_line total) after → IsReadUpTo (AtPlan t total) bytes after (lines_read + 1)
at_plan bytes rest after t total lines_read at small first =
    at_next (AtClaim t) (AtPlan t total) bytes rest (cut_line total) after lines_read at first (at.is_stage, small) refl

-- after a valid plan line the prices come next
pub at_prices : (bytes rest after : List ℕ) (t : Table) (total lines_read : ℕ) (plan : List ℕ) → IsReadUpTo (AtPlan t total) bytes rest lines_read →
    (0 < length plan) × All (λ p. p < length t.places) plan × IsFirstLine rest (plan_line plan) after →
    IsReadUpTo (AtPrice t total plan []) bytes after (lines_read + 1)
unfolding priced_places_from
at_prices bytes rest after t total lines_read plan at read =
    at_next (AtPlan t total) (AtPrice t total plan []) bytes rest (plan_line plan) after lines_read at read.2 (
      at.is_stage.0,
      record { total_small = at.is_stage.1; not_empty = read.0; in_range = read.1 },
      record { within = omega arith; ends_after_last = refl; small = All-nil IsPriceInRange },
    )
    (sym (append_assoc (table_lines t) (cut_line total ∷ []) (plan_line plan ∷ [])))

-- after the line `none` the closed set comes next
pub at_members : (bytes rest after : List ℕ) (t : Table) (lines_read : ℕ) → IsReadUpTo (AtClaim t) bytes rest lines_read →
    IsFirstLine rest none_line after → IsReadUpTo (AtClosed t []) bytes after (lines_read + 1)
unfolding closed_places_from
at_members bytes rest after t lines_read at first =
    at_next (AtClaim t) (AtClosed t []) bytes rest none_line after lines_read at first
    (at.is_stage, record { within = omega arith; ends_after_last = refl }) refl

-- if the text ends after the table, the line after it is the first wrong one
pub claim_missing : (bytes rest : List ℕ) (t : Table) (lines_read : ℕ) → IsReadUpTo (AtClaim t) bytes rest lines_read → (cut_text rest).lines ≡ [] →
    IsFirstWrongLine bytes (lines_read + 1)
claim_missing bytes rest t lines_read at none =
    first_wrong (AtClaim t) tt bytes rest lines_read at
    (λ line after here good. let e : [] ≡ line ∷ after = sym none ∙ here in absurd cc)

-- a line after the table that is neither `none` nor a cut's cost is the first wrong line
pub claim_bad : (bytes rest line after : List ℕ) (t : Table) (lines_read : ℕ) → IsReadUpTo (AtClaim t) bytes rest lines_read →
    IsFirstLine rest line after → (line ≡ none_line → ⊥) →
    ((n : ℕ) → n < 2 ^ 53 → line ≡ codes "cut " ++ numbers_text (n ∷ []) → ⊥) → IsFirstWrongLine bytes (lines_read + 1)
claim_bad bytes rest line after t lines_read at first_line not_none no_cost =
    first_wrong (AtClaim t) tt bytes rest lines_read at
    (λ other others here good.
    let heads : line ∷ (cut_text after).lines ≡ other ∷ others = sym (first_cut rest line after first_line).0 ∙ here in
    let same : line ≡ other = cc in
    elim (subst (λ (l : List ℕ). (l ≡ none_line) ⊎ IsNumberLine cut_line (λ n. n < 2 ^ 53) l) (sym same) good) [
      | inl none ↦ not_none none
      | inr cost ↦ no_cost cost.number cost.good cost.is
    ])

-- the prices that were read, padded with none, are one for each place and in range
pub prices_form : (count : ℕ) (prices more : List (Option ℕ)) → length prices ≤ count → All IsPriceInRange prices →
    more ≡ take count prices ++ replicate (count - length prices) None → (length more ≡ count) × All IsPriceInRange more
prices_form count prices more within small is =
    let padded_is : more ≡ prices ++ replicate (count - length prices) None = padded (Option ℕ) prices more count None within is in (
      ap length padded_is ∙ simp (length-append, length-replicate) (omega arith),
      subst (All IsPriceInRange) (sym padded_is) (small_padded prices (count - length prices) small),
    )

-- the flags of a closed set that were read, padded with false, are one for each place
pub closed_form : (count : ℕ) (closed more : List Bool) → length closed ≤ count →
    more ≡ take count closed ++ replicate (count - length closed) false → length more ≡ count
closed_form count closed more within is =
    ap length (padded Bool closed more count false within is) ∙ simp (length-append, length-replicate) (omega arith)

-- a fault of the plan line, for as many places as the table has, is the result of reading the text
pub plan_stops : (bytes rest : List ℕ) (t : Table) (cost lines_read n : ℕ) (fault : CertFault) → n ≡ length t.places →
    IsWrongLineOrMemory (IsPlanLine n) rest lines_read fault → IsReadUpTo (AtPlan t cost) bytes rest lines_read → Builds bytes (Err fault)
plan_stops bytes rest t cost lines_read n fault count refused at =
    let P : ℕ → Type 0 = λ m. IsWrongLineOrMemory (IsPlanLine m) rest lines_read fault in
    stops_building (AtPlan t cost) tt bytes rest lines_read at fault (subst P count refused)

-- after a plan line whose places are below the table's number of places the prices come next
pub plan_passed : (bytes rest after : List ℕ) (t : Table) (cost lines_read n : ℕ) (plan : List ℕ) → n ≡ length t.places →
    (0 < length plan) × All (λ p. p < n) plan × IsFirstLine rest (plan_line plan) after → IsReadUpTo (AtPlan t cost) bytes rest lines_read →
    IsReadUpTo (AtPrice t cost plan []) bytes after (lines_read + 1)
plan_passed bytes rest after t cost lines_read n plan count read at =
    let P : ℕ → Type 0 = λ m. All (λ p. p < m) plan in
    at_prices bytes rest after t cost lines_read plan at (read.0, subst P count read.1, read.2)

-- a valid plan line and then prices that were read to the line `end` complete the certificate of the cut
pub prices_passed : (bytes text after rest : List ℕ) (t : Table) (cost lines_read n m read : ℕ) (plan : List ℕ) (prices : List (Option ℕ)) →
    n ≡ length t.places → (0 < length plan) × All (λ p. p < n) plan × IsFirstLine text (plan_line plan) after → m ≡ length t.places →
    WhenAtPrice m after (lines_read + 1) (λ bs Ends. Ends prices rest read) → IsReadUpTo (AtPlan t cost) bytes text lines_read →
    IsReadUpTo (AtEnd (certificate_with t (CutClaim cost plan prices))) bytes rest read
prices_passed bytes text after rest t cost lines_read n m read plan prices count is_plan places ends at =
    ends bytes plan t cost (sym places) (plan_passed bytes text after t cost lines_read n plan count is_plan at)

-- if nothing follows the last line, the certificate that was read is well formed, and the text is its text
pub read_whole : (bytes rest : List ℕ) (c d : CertificateData) (lines_read : ℕ) → d ≡ c → IsReadUpTo (AtEnd c) bytes rest lines_read → length rest ≡ 0 →
    IsCertificate d × (bytes ≡ text d)
read_whole bytes rest c d lines_read same at ended =
    subst (λ (e : CertificateData). IsCertificate e × (bytes ≡ text e)) (sym same) (at.is_stage, is_whole c bytes rest lines_read at ended)

-- A reader that stops has reached the first wrong line; a certificate's text has none.
use Rattle.std.proofs.Common.{◌≡◌, refl, sym, ◌∙◌, ap, ap₂, subst, ℕ, ◌+◌, ◌^◌, ◌<◌, ◌≤◌, List, [], ◌∷◌, ◌++◌, length, map, drop, All, arith, append_assoc, append-nil, codes, Result, Ok, Err, inl, inr, ◌⊎◌}
use Rattle.std.proofs.lemmas.Bool.{cases_order}
use Rattle.std.proofs.lemmas.List.Elements.{All-head, All-tail, All-cons, All-nil, All-append}
use Rattle.std.proofs.lemmas.List.{length-append, length-map, map-append}
use Rattle.hls_check_tables.specs.declared.cost_rule.CostRule.{CostRule}
use Rattle.hls_check_tables.specs.declared.cost_rule.CostRule.TheVariants.{Deviation, Charged}
use Rattle.hls_check_tables.specs.declared.goal.Goal.{Goal}
use Rattle.hls_check_tables.specs.declared.spot.Spot.{Spot}
use Rattle.hls_check_tables.specs.declared.cert_fault.CertFault.{CertFault}
use Rattle.hls_check_tables.specs.declared.cert_fault.CertFault.TheVariants.{Form, TableNotSorted, PlanEnds, PlanStep, PlanCost, PriceStart, PriceStep, EndReached, Memory}
use Rattle.hls_check_tables.specs.Tables.{IsPlaceOf, charge_of, goal_of, table_of}
use Rattle.hls_check_tables.specs.Certificates.{CertificateData, ClaimData, CutClaim, NoneClaim, IsForm, IsCertificate}
use Rattle.hls_text.specs.Lines.{cut_text, text_of_lines, IsFirstLine}
use Rattle.hls_text.specs.Numbers.{numbers_text}
use Rattle.hls_check.proofs.Cited.{IsSmall, IsClean, clean-append, clean_words, lines_of_joined, tail_of_joined, joined_lines, first_cut}
use Rattle.hls_check.specs.Text.{header_line, ruled_header_line, charge_line, rule_lines, target_line, preferred_line, renditions_line, places_line, cut_line, none_line, end_line, plan_line, price_line, closed_line, place_line, place_numbers, head_lines, table_lines, claim_lines, lines, text, PricedPlace, priced_places_from, closed_places_from}
use Rattle.hls_check.specs.WrongLines.{IsFirstWrongLine, IsCertificateText, IsReadFault, IsReadResult, IsCertificateOrMemory}
use Rattle.hls_check.specs.declared.certificate_head.CertificateHead.{CertificateHead}
use Rattle.hls_check.specs.Stages.{ReadingStage, AtHeader, AtRule, AtTarget, AtPreferred, AtRenditions, AtCount, AtPlace, AtClaim, AtEnd, lines_before, IsStage, IsNext, IsReadUpTo, IsWrongLineAfter, IsWrongLineOrMemory, Builds, IsHead, lines_of_head}
use Rattle.hls_check.proofs.Spellings.{one_small, numbers_printable, RisesFrom, ClimbsFrom, priced_rises, members_climb}
use Rattle.hls_check.proofs.Nexts.{Next}
use Rattle.hls_check.proofs.Stagings.{IsOpen, stage_next}
use Rattle.hls_check.proofs.Starts.{stage_begins}
use Rattle.hls_check.proofs.Sames.{lines_same, below_small}

-- a clean word and a number below 2^53 make a clean line: one without a line feed
clean_number : (word : List ℕ) (n : ℕ) → IsClean word → n < 2 ^ 53 → IsClean (word ++ numbers_text (n ∷ []))
clean_number word n clean small = clean-append word (numbers_text (n ∷ [])) clean (clean_words (n ∷ []) (one_small n small))

-- the lines of places are clean
clean_places : (renditions : ℕ) (places : List (List Spot)) → All (IsPlaceOf renditions) places → All IsClean (map place_line places)
clean_places renditions [] good = All-nil IsClean
clean_places renditions (p ∷ places) good =
    let first : IsPlaceOf renditions p = All-head (IsPlaceOf renditions) p places good in
    All-cons IsClean (place_line p) (map place_line places)
    (clean_words (place_numbers p) (numbers_printable p first.spots))
    (clean_places renditions places (All-tail (IsPlaceOf renditions) p places good))

-- the price lines of places below a count of at most 16384 are clean
clean_prices : (k count : ℕ) (ps : List PricedPlace) → count ≤ 16384 → RisesFrom k count ps → All IsClean (map price_line ps)
clean_prices k count [] few rises = All-nil IsClean
clean_prices k count (p ∷ ps) few rises =
    let place : p.place < count = rises.1 in
    All-cons IsClean (price_line p) (map price_line ps)
    (clean-append (codes "price ") (numbers_text (p.place ∷ p.price ∷ [])) refl
    (clean_words (p.place ∷ p.price ∷ [])
    (All-cons IsSmall p.place (p.price ∷ []) (omega arith) (one_small p.price rises.2))))
    (clean_prices (p.place + 1) count ps few rises.3)

-- the lines of a closed set over at most 16384 places are clean
clean_closed : (k count : ℕ) (ps : List ℕ) → count ≤ 16384 → ClimbsFrom k count ps → All IsClean (map closed_line ps)
clean_closed k count [] few climbs = All-nil IsClean
clean_closed k count (p ∷ ps) few climbs =
    let place : p < count = climbs.1 in
    All-cons IsClean (closed_line p) (map closed_line ps)
    (clean_number (codes "closed ") p refl (omega arith))
    (clean_closed (p + 1) count ps few climbs.2)

-- the line `end` is clean
clean_end : All IsClean (end_line ∷ [])
clean_end = All-cons IsClean end_line [] refl (All-nil IsClean)

-- the lines of a claim over at most 16384 places are clean
clean_shown : (count : ℕ) (shown : ClaimData) → count ≤ 16384 → IsForm count shown → All IsClean (claim_lines shown)
unfolding claim_lines
clean_shown count (CutClaim total plan prices) few form =
    let whole : length prices ≡ count = form.one_each in
    let priced_lines : List (List ℕ) = map price_line (priced_places_from 0 prices) in
    All-cons IsClean (cut_line total) (plan_line plan ∷ (priced_lines ++ (end_line ∷ [])))
    (clean_number (codes "cut ") total refl form.total_small)
    (All-cons IsClean (plan_line plan) (priced_lines ++ (end_line ∷ []))
    (clean-append (codes "plan ") (numbers_text plan) refl (clean_words plan (below_small count plan few form.in_range)))
    (All-append IsClean priced_lines (end_line ∷ [])
    (clean_prices 0 count (priced_places_from 0 prices) few (priced_rises 0 count prices (omega arith) form.prices_small))
    clean_end))
clean_shown count (NoneClaim closed) few form =
    let whole : length closed ≡ count = form in
    let members : List (List ℕ) = map closed_line (closed_places_from 0 closed) in
    All-cons IsClean none_line (members ++ (end_line ∷ [])) refl
    (All-append IsClean members (end_line ∷ [])
    (clean_closed 0 count (closed_places_from 0 closed) few (members_climb 0 count closed (omega arith)))
    clean_end)

-- the lines of a rule in range are clean
clean_rules : (rule : CostRule) → charge_of rule ≤ 3600000000 → All IsClean (rule_lines rule)
clean_rules Deviation small = All-cons IsClean header_line [] refl (All-nil IsClean)
clean_rules (Charged charge) small =
    All-cons IsClean ruled_header_line (charge_line charge ∷ []) refl
    (All-cons IsClean (charge_line charge) [] (clean_number (codes "rule 2 ") charge refl (omega arith)) (All-nil IsClean))

-- the header lines after the rule are clean, if their numbers are in range
clean_four : (t p r n : ℕ) → t ≤ 3600 → p ≤ 3600000000 → r ≤ 16 → n ≤ 16384 →
    All IsClean (target_line t ∷ preferred_line p ∷ renditions_line r ∷ places_line n ∷ [])
clean_four t p r n t_small p_small r_small n_small =
    All-cons IsClean (target_line t) (preferred_line p ∷ renditions_line r ∷ places_line n ∷ []) (clean_number (codes "target ") t refl (omega arith))
    (All-cons IsClean (preferred_line p) (renditions_line r ∷ places_line n ∷ []) (clean_number (codes "preferred ") p refl (omega arith))
    (All-cons IsClean (renditions_line r) (places_line n ∷ []) (clean_number (codes "renditions ") r refl (omega arith))
    (All-cons IsClean (places_line n) [] (clean_number (codes "places ") n refl (omega arith)) (All-nil IsClean))))

-- each line of a certificate is clean
pub clean_lines : (c : CertificateData) → IsCertificate c → All IsClean (lines c)
unfolding lines table_lines
clean_lines c good =
    All-append IsClean
    (head_lines c.table.goal c.table.renditions (length c.table.places) ++ map place_line c.table.places)
    (claim_lines c.shown)
    (All-append IsClean (head_lines c.table.goal c.table.renditions (length c.table.places)) (map place_line c.table.places)
    (All-append IsClean (rule_lines c.table.goal.rule)
    (target_line c.table.goal.target ∷ preferred_line c.table.goal.preferred ∷ renditions_line c.table.renditions
    ∷ places_line (length c.table.places) ∷ [])
    (clean_rules c.table.goal.rule good.table.goal.charge)
    (clean_four c.table.goal.target c.table.goal.preferred c.table.renditions (length c.table.places)
    good.table.goal.target.1 good.table.goal.preferred.1 good.table.renditions.1 good.table.count.1))
    (clean_places c.table.renditions c.table.places good.table.places))
    (clean_shown (length c.table.places) c.shown good.table.count.1 good.form)

-- a certificate's text is cut into the certificate's lines, and nothing follows them
pub cut_of_text : (c : CertificateData) (bytes : List ℕ) → IsCertificate c → bytes ≡ text c →
    ((cut_text bytes).lines ≡ lines c) × ((cut_text bytes).tail ≡ [])
unfolding text
cut_of_text c bytes good e =
    rw e (lines_of_joined (lines c) (clean_lines c good), tail_of_joined (lines c) (clean_lines c good))

-- conversely, a text that is cut into a certificate's lines, with nothing after them, is its text
pub text_of_cut : (c : CertificateData) (bytes : List ℕ) → (cut_text bytes).lines ≡ lines c → (cut_text bytes).tail ≡ [] → bytes ≡ text c
unfolding text
text_of_cut c bytes lines_is tail_is =
    joined_lines bytes ∙ ap₂ (λ (ls : List (List ℕ)) (xs : List ℕ). text_of_lines ls ++ xs) lines_is tail_is ∙ append-nil (text_of_lines (lines c))

-- lines that don't begin with a valid line have no valid next line
no_next : (IsGood : List ℕ → Type 0) (ls : List (List ℕ)) →
    ((line : List ℕ) (after : List (List ℕ)) → ls ≡ line ∷ after → IsGood line → ⊥) → Next IsGood ls → ⊥
no_next IsGood [] none next = next
no_next IsGood (line ∷ after) none next = none line after refl next

-- the line that a reader rejects is the first wrong one
pub first_wrong : (s : ReadingStage) → IsOpen s → (bytes rest : List ℕ) (lines_read : ℕ) → IsReadUpTo s bytes rest lines_read →
    ((line : List ℕ) (after : List (List ℕ)) → (cut_text rest).lines ≡ line ∷ after → IsNext s line → ⊥) →
    IsFirstWrongLine bytes (lines_read + 1)
first_wrong s open_ bytes rest lines_read at none = record {
  before = lines_before s;
  rest = (cut_text rest).lines;
  is = at.lines;
  number = ap (λ (n : ℕ). n + 1) at.count;
  begins = stage_begins s open_ at.is_stage;
  wrong = λ line after here begun.
      none line after here
      (stage_next s open_ at.is_stage begun.certificate begun.is_certificate (line ∷ begun.more)
      (begun.is ∙ append_assoc (lines_before s) (line ∷ []) begun.more));
  no_text = λ c good e.
      no_next (IsNext s) (cut_text rest).lines none
      (stage_next s open_ at.is_stage c good (cut_text rest).lines (sym (cut_of_text c bytes good e).0 ∙ at.lines));
}

-- a wrong line after the lines that a reader has read is the first wrong line of the text
pub stops : (s : ReadingStage) → IsOpen s → (bytes rest : List ℕ) (lines_read : ℕ) → IsReadUpTo s bytes rest lines_read → (n : ℕ) →
    IsWrongLineAfter (IsNext s) rest lines_read n → IsFirstWrongLine bytes n
stops s open_ bytes rest lines_read at n refused =
    subst (IsFirstWrongLine bytes) (sym refused.0) (first_wrong s open_ bytes rest lines_read at refused.1)

-- a property of a fault of reading implies another, if it does for each kind of fault
reading_fault : (OfLine ToLine : ℕ → Type 0) (OfMemory ToWant : Type 0) → ((n : ℕ) → OfLine n → ToLine n) → (OfMemory → ToWant) →
    (fault : CertFault) → IsReadFault OfLine OfMemory fault → IsReadFault ToLine ToWant fault
reading_fault OfLine ToLine OfMemory ToWant line want (Form n) is = line n is
reading_fault OfLine ToLine OfMemory ToWant line want Memory is = want is
reading_fault OfLine ToLine OfMemory ToWant line want (TableNotSorted place) is = absurd is
reading_fault OfLine ToLine OfMemory ToWant line want PlanEnds is = absurd is
reading_fault OfLine ToLine OfMemory ToWant line want (PlanStep p q) is = absurd is
reading_fault OfLine ToLine OfMemory ToWant line want PlanCost is = absurd is
reading_fault OfLine ToLine OfMemory ToWant line want PriceStart is = absurd is
reading_fault OfLine ToLine OfMemory ToWant line want (PriceStep p q) is = absurd is
reading_fault OfLine ToLine OfMemory ToWant line want EndReached is = absurd is

-- a fault at the line after those that a reader has read is the result of reading the text
pub stops_building : (s : ReadingStage) → IsOpen s → (bytes rest : List ℕ) (lines_read : ℕ) → IsReadUpTo s bytes rest lines_read → (fault : CertFault) →
    IsWrongLineOrMemory (IsNext s) rest lines_read fault → Builds bytes (Err fault)
stops_building s open_ bytes rest lines_read at fault refused =
    reading_fault (IsWrongLineAfter (IsNext s) rest lines_read) (IsFirstWrongLine bytes) (Unit {0}) (Unit {0})
    (λ n line. stops s open_ bytes rest lines_read at n line) (λ want. want) fault refused

-- an allocation failure is possible only for a certificate's text
pub reads : (bytes : List ℕ) (result : Result CertificateData CertFault) → IsCertificateText bytes → Builds bytes result → IsReadResult bytes result
reads bytes (Ok c) good built = built
reads bytes (Err fault) good built =
    reading_fault (IsFirstWrongLine bytes) (IsFirstWrongLine bytes) (Unit {0}) (IsCertificateText bytes) (λ n wrong. wrong) (λ want. good) fault built

-- if nothing follows a certificate's last line, the text is the certificate's
pub is_whole : (c : CertificateData) (bytes rest : List ℕ) (lines_read : ℕ) → IsReadUpTo (AtEnd c) bytes rest lines_read → length rest ≡ 0 → bytes ≡ text c
unfolding cut_text
is_whole c bytes [] lines_read at ended = text_of_cut c bytes (at.lines ∙ append-nil (lines c)) at.tail
is_whole c bytes (b ∷ rest) lines_read at ended = absurd (omega arith)

-- a text that is cut into no lines and an empty tail is empty
empty_text : (rest : List ℕ) → (cut_text rest).lines ≡ [] → (cut_text rest).tail ≡ [] → rest ≡ []
unfolding text_of_lines
empty_text rest lines_is tail_is =
    joined_lines rest ∙ ap₂ (λ (ls : List (List ℕ)) (xs : List ℕ). text_of_lines ls ++ xs) lines_is tail_is

-- if text follows a certificate's last line, the line after that is the first wrong one
pub wrong_behind : (c : CertificateData) (bytes rest : List ℕ) (lines_read : ℕ) → IsReadUpTo (AtEnd c) bytes rest lines_read → 0 < length rest →
    IsFirstWrongLine bytes (lines_read + 1)
wrong_behind c bytes rest lines_read at some = record {
  before = lines c;
  rest = (cut_text rest).lines;
  is = at.lines;
  number = ap (λ (n : ℕ). n + 1) at.count;
  begins = record { certificate = c; is_certificate = at.is_stage; more = []; is = sym (append-nil (lines c)) };
  wrong = λ line after here begun.
      let same : (begun.certificate ≡ c) × (line ∷ begun.more ≡ []) =
      lines_same begun.certificate c (line ∷ begun.more) begun.is_certificate at.is_stage
      (begun.is ∙ append_assoc (lines c) (line ∷ []) begun.more) in
      let none : line ∷ begun.more ≡ [] = same.1 in
      absurd cc;
  no_text = λ d good e.
      let cut : ((cut_text bytes).lines ≡ lines d) × ((cut_text bytes).tail ≡ []) = cut_of_text d bytes good e in
      let same : (d ≡ c) × ((cut_text rest).lines ≡ []) =
      lines_same d c (cut_text rest).lines good at.is_stage (sym cut.0 ∙ at.lines) in
      let nothing : rest ≡ [] = empty_text rest same.1 (sym at.tail ∙ cut.1) in
      let len : length rest ≡ 0 = ap length nothing in
      absurd (omega arith);
}

-- after a valid line a reader is at the next stage
pub at_next : (s r : ReadingStage) (bytes rest line after : List ℕ) (lines_read : ℕ) → IsReadUpTo s bytes rest lines_read → IsFirstLine rest line after →
    IsStage r → lines_before r ≡ lines_before s ++ (line ∷ []) → IsReadUpTo r bytes after (lines_read + 1)
at_next s r bytes rest line after lines_read at first good longer = record {
  is_stage = good;
  lines = at.lines ∙ ap (λ (ls : List (List ℕ)). lines_before s ++ ls) (first_cut rest line after first).0
      ∙ sym (append_assoc (lines_before s) (line ∷ []) (cut_text after).lines)
      ∙ ap (λ (ls : List (List ℕ)). ls ++ (cut_text after).lines) (sym longer);
  tail = at.tail ∙ (first_cut rest line after first).1;
  count = ap (λ (n : ℕ). n + 1) at.count ∙ sym (length-append (lines_before s) (line ∷ [])) ∙ ap length (sym longer);
}

-- at the start of a text a reader is at the header, and no line was read
pub at_start : (bytes : List ℕ) → IsReadUpTo AtHeader bytes bytes 0
at_start bytes = record { is_stage = tt; lines = refl; tail = refl; count = refl }

-- certificates with the same text are the same
pub text_is_told : (c d : CertificateData) → IsCertificate c → IsCertificate d → text c ≡ text d → c ≡ d
text_is_told c d c_good d_good e =
    let here : ((cut_text (text c)).lines ≡ lines c) × ((cut_text (text c)).tail ≡ []) = cut_of_text c (text c) c_good refl in
    let there : ((cut_text (text c)).lines ≡ lines d) × ((cut_text (text c)).tail ≡ []) = cut_of_text d (text c) d_good e in
    (lines_same c d [] c_good d_good (sym here.0 ∙ there.0 ∙ sym (append-nil (lines d)))).0

-- the result of reading a certificate's text is the certificate, or an allocation failure
pub gives : (bytes : List ℕ) (c : CertificateData) (result : Result CertificateData CertFault) → IsReadResult bytes result → IsCertificate c →
    bytes ≡ text c → IsCertificateOrMemory c result
gives bytes c (Ok d) reading good e = text_is_told d c reading.0 good (sym reading.1 ∙ e)
gives bytes c (Err fault) reading good e =
    reading_fault (IsFirstWrongLine bytes) (λ n. ⊥) (IsCertificateText bytes) (Unit {0}) (λ n wrong. wrong.no_text c good e) (λ text. tt) fault reading

-- of two cuts of one list the longer front continues the shorter one with the next element
record Longer (before rest longer : List (List ℕ)) : Type 0 where
  line : List ℕ
  after : List (List ℕ)
  more : List (List ℕ)
  rest_is : rest ≡ line ∷ after
  longer_is : longer ≡ before ++ (line ∷ more)

-- if a list of lines is cut in two ways, the longer front continues the shorter one with the next line
longer_cut : (before rest longer others : List (List ℕ)) → length before < length longer →
    before ++ rest ≡ longer ++ others → Longer before rest longer
longer_cut [] rest [] others h e = absurd (omega arith)
longer_cut [] rest (line ∷ longer) others h e =
    record { line = line; after = longer ++ others; more = longer; rest_is = e; longer_is = refl }
longer_cut (x ∷ before) rest [] others h e = absurd (omega arith)
longer_cut (x ∷ before) rest (y ∷ longer) others h e =
    let tails : before ++ rest ≡ longer ++ others = ap (drop 1) e in
    let first : x ≡ y = cc in
    let next : Longer before rest longer = longer_cut before rest longer others (omega arith) tails in
    record {
      line = next.line;
      after = next.after;
      more = next.more;
      rest_is = next.rest_is;
      longer_is = ap₂ (λ (z : List ℕ) (zs : List (List ℕ)). z ∷ zs) (sym first) next.longer_is;
    }

-- a line in the middle of a list ends the lines before it and precedes the others
split : (xs : List (List ℕ)) (x : List ℕ) (ys zs : List (List ℕ)) → (xs ++ (x ∷ ys)) ++ zs ≡ (xs ++ (x ∷ [])) ++ (ys ++ zs)
split xs x ys zs = simp append_assoc

-- of two first wrong lines of a text the first isn't before the second
none_before : (bytes : List ℕ) (m n : ℕ) (a : IsFirstWrongLine bytes m) (b : IsFirstWrongLine bytes n) →
    length a.before < length b.before → ⊥
none_before bytes m n a b h =
    let next : Longer a.before a.rest b.before = longer_cut a.before a.rest b.before b.rest h (sym a.is ∙ b.is) in
    a.wrong next.line next.after next.rest_is
    (record {
      certificate = b.begins.certificate;
      is_certificate = b.begins.is_certificate;
      more = next.more ++ b.begins.more;
      is = b.begins.is ∙ ap (λ (ls : List (List ℕ)). ls ++ b.begins.more) next.longer_is ∙ split a.before next.line next.more b.begins.more;
    })

-- a text has at most one first wrong line
pub wrong_is_one : (bytes : List ℕ) (m n : ℕ) → IsFirstWrongLine bytes m → IsFirstWrongLine bytes n → m ≡ n
wrong_is_one bytes m n a b =
    elim (cases_order (length a.before) (length b.before)) [
      | inl same ↦ a.number ∙ ap (λ (k : ℕ). k + 1) same ∙ sym b.number
      | inr other ↦
          elim other [
            | inl less ↦ absurd (none_before bytes m n a b less)
            | inr more ↦ absurd (none_before bytes n m b a more)
          ]
    ]

-- p places that were read one by one: `text` begins at the first place line, and `rest` remains of it
pub record PlacesRead (h : CertificateHead) (text : List ℕ) (places : List (List Spot)) (rest : List ℕ) (p : ℕ) : Type 0 where
  pub count : length places ≡ p
  pub good : All (IsPlaceOf h.renditions) places
  pub shorter : p + length rest ≤ length text
  pub lines : (cut_text text).lines ≡ map place_line places ++ (cut_text rest).lines
  pub tail : (cut_text text).tail ≡ (cut_text rest).tail

-- before the first place line no place was read
pub no_place_read : (h : CertificateHead) (text : List ℕ) → PlacesRead h text [] text 0
no_place_read h text = record { count = refl; good = All-nil (IsPlaceOf h.renditions); shorter = omega arith; lines = refl; tail = refl }

-- after a place line one more place was read
pub place_more : (h : CertificateHead) (text : List ℕ) (places : List (List Spot)) (rest : List ℕ) (p : ℕ) (place : List Spot) (after : List ℕ) →
    PlacesRead h text places rest p → IsPlaceOf h.renditions place → IsFirstLine rest (place_line place) after → length after < length rest →
    PlacesRead h text (places ++ (place ∷ [])) after (p + 1)
place_more h text places rest p place after read good first shorter =
    let before : p + length rest ≤ length text = read.shorter in
    record {
      count = length-append places (place ∷ []) ∙ ap (λ (n : ℕ). n + 1) read.count;
      good = All-append (IsPlaceOf h.renditions) places (place ∷ []) read.good
          (All-cons (IsPlaceOf h.renditions) place [] good (All-nil (IsPlaceOf h.renditions)));
      shorter = omega arith;
      lines = read.lines ∙ ap (λ (ls : List (List ℕ)). map place_line places ++ ls) (first_cut rest (place_line place) after first).0
          ∙ sym (append_assoc (map place_line places) (place_line place ∷ []) (cut_text after).lines)
          ∙ ap (λ (ls : List (List ℕ)). ls ++ (cut_text after).lines) (sym (map-append place_line places (place ∷ [])));
      tail = read.tail ∙ (first_cut rest (place_line place) after first).1;
    }

-- if the header of a text was read, its lines are the header's, then those of the rest
head_passed : (h : CertificateHead) (bytes whole : List ℕ) (first : ℕ) → IsReadUpTo (AtPlace h []) bytes whole first →
    (cut_text bytes).lines ≡ lines_of_head h ++ (cut_text whole).lines
head_passed h bytes whole first at =
    at.lines ∙ ap (λ (ls : List (List ℕ)). ls ++ (cut_text whole).lines) (append-nil (lines_of_head h))

-- the number of lines read is that of the header lines and the places
places_counted : (h : CertificateHead) (bytes whole : List ℕ) (first : ℕ) (places : List (List Spot)) (rest : List ℕ) (p : ℕ) →
    IsReadUpTo (AtPlace h []) bytes whole first → PlacesRead h whole places rest p → first + p ≡ length (lines_of_head h ++ map place_line places)
places_counted h bytes whole first places rest p at read =
    let head : first ≡ length (lines_of_head h) = at.count ∙ ap length (append-nil (lines_of_head h)) in
    let count : length (map place_line places) ≡ length places = length-map places place_line in
    let all : length (lines_of_head h ++ map place_line places) ≡ length (lines_of_head h) + length (map place_line places) =
    length-append (lines_of_head h) (map place_line places) in
    omega (arith, head, count, all, read.count)

-- while fewer places were read than the header announces, a place line comes next
pub at_place : (h : CertificateHead) (bytes whole : List ℕ) (first : ℕ) (places : List (List Spot)) (rest : List ℕ) (p : ℕ) →
    IsReadUpTo (AtPlace h []) bytes whole first → PlacesRead h whole places rest p → p < h.count → IsReadUpTo (AtPlace h places) bytes rest (first + p)
at_place h bytes whole first places rest p at read more = record {
  is_stage = record { head = at.is_stage.head; room = subst (λ (n : ℕ). n < h.count) (sym read.count) more; each = read.good };
  lines = head_passed h bytes whole first at ∙ ap (λ (ls : List (List ℕ)). lines_of_head h ++ ls) read.lines
      ∙ sym (append_assoc (lines_of_head h) (map place_line places) (cut_text rest).lines);
  tail = at.tail ∙ read.tail;
  count = places_counted h bytes whole first places rest p at read;
}

-- when as many places were read as the header announces, the claim comes next
pub at_claim : (h : CertificateHead) (bytes whole : List ℕ) (first : ℕ) (places : List (List Spot)) (rest : List ℕ) →
    IsReadUpTo (AtPlace h []) bytes whole first → PlacesRead h whole places rest h.count →
    IsReadUpTo (AtClaim (table_of h.goal h.renditions places)) bytes rest (first + h.count)
unfolding table_lines
at_claim h bytes whole first places rest at read =
    let good : IsHead h = at.is_stage.head in
    let counted : lines_of_head h ≡ head_lines h.goal h.renditions (length places) =
    ap (λ (n : ℕ). head_lines h.goal h.renditions n) (sym read.count) in
    record {
      is_stage = record {
        goal = good.goal;
        renditions = good.renditions;
        count = (subst (λ (n : ℕ). 2 ≤ n) (sym read.count) good.count.0, subst (λ (n : ℕ). n ≤ 16384) (sym read.count) good.count.1);
        places = read.good;
      };
      lines = head_passed h bytes whole first at ∙ ap (λ (ls : List (List ℕ)). lines_of_head h ++ ls) read.lines
          ∙ sym (append_assoc (lines_of_head h) (map place_line places) (cut_text rest).lines)
          ∙ ap (λ (ls : List (List ℕ)). (ls ++ map place_line places) ++ (cut_text rest).lines) counted;
      tail = at.tail ∙ read.tail;
      count = places_counted h bytes whole first places rest h.count at read
          ∙ ap (λ (ls : List (List ℕ)). length (ls ++ map place_line places)) counted;
    }

-- after the first line of version 1 the target comes next
pub at_target : (bytes after : List ℕ) → IsFirstLine bytes header_line after → IsReadUpTo (AtTarget Deviation) bytes after 1
at_target bytes after first = at_next AtHeader (AtTarget Deviation) bytes bytes header_line after 0 (at_start bytes) first (omega arith) refl

-- after the first line of version 2 the charge comes next
pub at_rule : (bytes after : List ℕ) → IsFirstLine bytes ruled_header_line after → IsReadUpTo AtRule bytes after 1
at_rule bytes after first = at_next AtHeader AtRule bytes bytes ruled_header_line after 0 (at_start bytes) first tt refl

-- after a charge in range the target comes next
pub at_charged : (bytes rest after : List ℕ) (charge : ℕ) → IsReadUpTo AtRule bytes rest 1 →
    (0 ≤ charge) × (charge ≤ 3600000000) × IsFirstLine rest (charge_line charge) after → IsReadUpTo (AtTarget (Charged charge)) bytes after 2
at_charged bytes rest after charge at read =
    at_next AtRule (AtTarget (Charged charge)) bytes rest (charge_line charge) after 1 at read.2 read.1 refl

-- after a target in range the preferred length comes next
pub at_preferred : (bytes rest after : List ℕ) (rule : CostRule) (t lines_read : ℕ) → IsReadUpTo (AtTarget rule) bytes rest lines_read →
    (1 ≤ t) × (t ≤ 3600) × IsFirstLine rest (target_line t) after → IsReadUpTo (AtPreferred rule t) bytes after (lines_read + 1)
at_preferred bytes rest after rule t lines_read at read =
    at_next (AtTarget rule) (AtPreferred rule t) bytes rest (target_line t) after lines_read at read.2 (at.is_stage, (read.0, read.1)) refl

-- the number of lines read may be replaced by an equal one
counted_as : (s : ReadingStage) (bytes rest : List ℕ) (m n : ℕ) → m ≡ n → IsReadUpTo s bytes rest m → IsReadUpTo s bytes rest n
counted_as s bytes rest m n same at = subst (IsReadUpTo s bytes rest) same at

-- after a preferred length in range the number of renditions comes next
pub at_renditions : (bytes rest after : List ℕ) (rule : CostRule) (t p lines_read : ℕ) → IsReadUpTo (AtPreferred rule t) bytes rest (lines_read + 1) →
    (1 ≤ p) × (p ≤ 3600000000) × IsFirstLine rest (preferred_line p) after → IsReadUpTo (AtRenditions (goal_of t p rule)) bytes after (lines_read + 2)
at_renditions bytes rest after rule t p lines_read at read =
    counted_as (AtRenditions (goal_of t p rule)) bytes after (lines_read + 1 + 1) (lines_read + 2) (omega arith)
    (at_next (AtPreferred rule t) (AtRenditions (goal_of t p rule)) bytes rest (preferred_line p) after (lines_read + 1) at read.2
    (record { target = at.is_stage.1; preferred = (read.0, read.1); charge = at.is_stage.0 })
    (sym (append_assoc (rule_lines rule) (target_line t ∷ []) (preferred_line p ∷ []))))

-- after a number of renditions in range the number of places comes next
pub at_count : (bytes rest after : List ℕ) (g : Goal) (r lines_read : ℕ) → IsReadUpTo (AtRenditions g) bytes rest lines_read →
    (1 ≤ r) × (r ≤ 16) × IsFirstLine rest (renditions_line r) after → IsReadUpTo (AtCount g r) bytes after (lines_read + 1)
at_count bytes rest after g r lines_read at read =
    at_next (AtRenditions g) (AtCount g r) bytes rest (renditions_line r) after lines_read at read.2 (at.is_stage, (read.0, read.1))
    (sym (append_assoc (rule_lines g.rule) (target_line g.target ∷ preferred_line g.preferred ∷ []) (renditions_line r ∷ [])))

-- after a number of places in range the first place comes next
pub at_places : (bytes rest after : List ℕ) (h : CertificateHead) (lines_read : ℕ) → IsReadUpTo (AtCount h.goal h.renditions) bytes rest (lines_read + 1) →
    (2 ≤ h.count) × (h.count ≤ 16384) × IsFirstLine rest (places_line h.count) after → IsReadUpTo (AtPlace h []) bytes after (lines_read + 2)
at_places bytes rest after h lines_read at read =
    counted_as (AtPlace h []) bytes after (lines_read + 1 + 1) (lines_read + 2) (omega arith)
    (at_next (AtCount h.goal h.renditions) (AtPlace h []) bytes rest (places_line h.count) after (lines_read + 1) at read.2
    (record {
      head = record { goal = at.is_stage.0; renditions = at.is_stage.1; count = (read.0, read.1) };
      room = omega (arith, read.0);
      each = All-nil (IsPlaceOf h.renditions);
    })
    (append-nil (lines_of_head h)
    ∙ sym (append_assoc (rule_lines h.goal.rule) (target_line h.goal.target ∷ preferred_line h.goal.preferred ∷ renditions_line h.renditions ∷ [])
    (places_line h.count ∷ []))))

-- if a text has no line, line 1 is the first wrong one
pub header_missing : (bytes : List ℕ) → (cut_text bytes).lines ≡ [] → IsFirstWrongLine bytes 1
header_missing bytes none =
    first_wrong AtHeader tt bytes bytes 0 (at_start bytes) (λ line after here good. let e : [] ≡ line ∷ after = sym none ∙ here in absurd cc)

-- if the first line is that of neither version, it is the first wrong line
pub header_bad : (bytes line after : List ℕ) → IsFirstLine bytes line after → (line ≡ header_line → ⊥) → (line ≡ ruled_header_line → ⊥) →
    IsFirstWrongLine bytes 1
header_bad bytes line after first not_one not_two =
    first_wrong AtHeader tt bytes bytes 0 (at_start bytes)
    (λ other others here good.
    let heads : line ∷ (cut_text after).lines ≡ other ∷ others = sym (first_cut bytes line after first).0 ∙ here in
    let same : line ≡ other = cc in
    elim (subst (λ (l : List ℕ). (l ≡ header_line) ⊎ (l ≡ ruled_header_line)) (sym same) good) [
      | inl one ↦ not_one one
      | inr two ↦ not_two two
    ])

-- A stream has one list of requests.
use Rattle.std.proofs.Common.{◌≡◌, ◌∙◌, ℕ, inl, inr, List, [], ◌∷◌, ◌++◌, length, Ok, refl, sym, ap, subst, append-nil, arith, length-append}
use Rattle.httparse.{specs.Grammar.{RequestHead, print_request, ReadsRequest}, proofs.GrammarLemmas.request_unique}
use Rattle.hls_http.specs.{declared.framing.BodyFraming.BodyFraming, declared.end.InputEnd.InputEnd, Heads.ReadsLimitedHead, Grammar.IsBody}
use Rattle.hls_http.specs.Requests.{HttpRequest, framing_of_head, ReadsWholeRequest, AreRequestsThenRest, StopsInBody, HasBadFields, IsInputEnd}
use Rattle.hls_http.specs.{declared.end.InputEnd.TheVariants.{Closed, CutShort, BadHead, HeadTooLarge, BadRequest}, Laws.StreamsAreUnique}
use Rattle.hls_http.{specs.Bodies.{IsBroken, IsOpen}, proofs.BodyLaws.{body_one, broken_body, open_body, run_left}}

-- equal heads have equal framings
same_begin : (x y : RequestHead) (b d : BodyFraming) → x ≡ y → framing_of_head x ≡ Ok b → framing_of_head y ≡ Ok d → d ≡ b
same_begin x y b d same p q = cc (ap framing_of_head same)

-- two requests that a text begins with are equal, and so is what follows them
pub one_left : (text middle after : List ℕ) (r q : HttpRequest) → ReadsWholeRequest text r middle → ReadsWholeRequest text q after → (r ≡ q) × (middle ≡ after)
one_left text middle after r q x y =
    let heads = request_unique text r.head q.head x.middle y.middle x.head.reads y.head.reads in
    let bodies = same_begin r.head q.head x.body y.body heads.0 x.framing_is y.framing_is in
    let other = subst (λ (b : BodyFraming). IsBody b y.middle q.content after) bodies y.content in
    let here = subst (λ (m : List ℕ). IsBody x.body m r.content middle) heads.1 x.content in
    let same = body_one x.body y.middle r.content middle q.content after here other in
    ((λ i. record { head = heads.0 i; content = same.0 i }), same.1)

-- ---- where a stream ends there is no request

-- an empty text doesn't begin with a request head
no_empty_request : (h : RequestHead) (rest : List ℕ) → [] ≡ print_request h ++ rest → ⊥
unfolding print_request
no_empty_request h rest e = absurd (omega (arith, ap length e, length-append {A = ℕ}))

-- a broken body is no body
broken_here : (b : BodyFraming) (later content rest : List ℕ) → IsBroken b later → IsBody b later content rest → ⊥
broken_here b later content rest s h =
    broken_body b later [] content rest s (subst (λ (xs : List ℕ). IsBody b xs content rest) (sym (append-nil later)) h)

-- a text that stops inside a body begins with no request
stopped : (text : List ℕ) (Stops : BodyFraming → List ℕ → Type 0) (r : HttpRequest) (rest : List ℕ)
    → ((b : BodyFraming) (later content end : List ℕ) → Stops b later → IsBody b later content end → ⊥) → StopsInBody text Stops → ReadsWholeRequest text r rest → ⊥
stopped text Stops r rest never s x =
    let heads = request_unique text s.head r.head s.middle x.middle s.reads.reads x.head.reads in
    let bodies = same_begin s.head r.head s.body x.body heads.0 s.framing_is x.framing_is in
    let other = subst (λ (b : BodyFraming). IsBody b x.middle r.content rest) bodies x.content in
    let here = subst (λ (m : List ℕ). IsBody s.body m r.content rest) (sym heads.1) other in
    let w = run_left s.body s.last s.middle s.content s.later r.content rest s.runs here in
    never s.last s.later w.more rest s.stops w.body

-- a text whose head has a bad Host or framing begins with no request
bad_fields : (text : List ℕ) (r : HttpRequest) (rest : List ℕ) → HasBadFields text → ReadsWholeRequest text r rest → ⊥
bad_fields text r rest s x =
    let heads = request_unique text s.head r.head s.rest x.middle s.reads.reads x.head.reads in
    let one : framing_of_head s.head ≡ Ok x.body = ap framing_of_head heads.0 ∙ x.framing_is in
    absurd (cc (one, s.framing_is))

-- where a stream ends in one of the five ways, no request begins
ended : (text : List ℕ) (e : InputEnd) (r : HttpRequest) (rest : List ℕ) → IsInputEnd text e → ReadsWholeRequest text r rest → ⊥
ended text Closed r rest s x = no_empty_request r.head x.middle (sym s ∙ x.head.reads.1)
ended text CutShort r rest (inl s) x = s.0.none r.head x.middle x.head.reads
ended text CutShort r rest (inr s) x = stopped text IsOpen r rest open_body s x
ended text BadHead r rest s x = s [] r.head x.middle (subst (λ (xs : List ℕ). ReadsRequest xs r.head x.middle) (sym (append-nil text)) x.head.reads)
ended text HeadTooLarge r rest s x = s.none [] r.head x.middle (subst (λ (xs : List ℕ). ReadsLimitedHead xs r.head x.middle) (sym (append-nil text)) x.head)
ended text BadRequest r rest (inl s) x = bad_fields text r rest s x
ended text BadRequest r rest (inr s) x = stopped text IsBroken r rest broken_here s x

-- two lists of requests that lead to an end of the stream are equal
cuts_one : (rs qs : List HttpRequest) (text rest after : List ℕ) (e f : InputEnd) → AreRequestsThenRest text rs rest → IsInputEnd rest e → AreRequestsThenRest text qs after → IsInputEnd after f → rs ≡ qs
cuts_one [] [] text rest after e f x ends y other = refl
cuts_one [] (q ∷ qs) text rest after e f x ends y other = absurd (ended text e q y.0 (subst (λ (xs : List ℕ). IsInputEnd xs e) x ends) y.1)
cuts_one (r ∷ rs) [] text rest after e f x ends y other = absurd (ended text f r x.0 (subst (λ (xs : List ℕ). IsInputEnd xs f) y other) x.1)
cuts_one (r ∷ rs) (q ∷ qs) text rest after e f x ends y other =
    let one = one_left text x.0 y.0 r q x.1 y.1 in
    let more = cuts_one rs qs x.0 rest after e f x.2 ends (subst (λ (m : List ℕ). AreRequestsThenRest m qs after) (sym one.1) y.2) other in
    cc (one.0, more)

-- a stream has one list of requests
pub streams_one : StreamsAreUnique
streams_one text rs qs e f x y = cuts_one rs qs text x.rest y.rest e f x.cuts x.ends y.cuts y.ends

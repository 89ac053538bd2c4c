-- Laws of bodies and of streams of requests: what a text begins with is unique, stays the same whatever follows, and composes with
-- what follows.
use Rattle.std.specs.Prelude.{◌≡◌, ◌↔◌, ℕ, ◌+◌, ◌≤◌, List, ◌++◌, length}
use Rattle.httparse.specs.Grammar.{RequestHead, NeverHasRequest}
use Rattle.hls_http.specs.{declared.framing.BodyFraming.BodyFraming, declared.end.InputEnd.InputEnd, Grammar.IsBody}
use Rattle.hls_http.specs.{declared.framing.BodyFraming.TheVariants.{Length, Size}, Bodies.{ReadsLine, StepsThrough, IsBroken, IsOpen}}
use Rattle.hls_http.specs.Heads.{ReadsLimitedHead, IsTooLarge}
use Rattle.hls_http.specs.Requests.{HttpRequest, ReadsWholeRequest, AreRequestsThenRest, HasBadFields, AreRequests}

-- the bodies that the machine takes to their end are exactly those of the grammar
abbrev pub BodiesMatchGrammar : Type 0
BodiesMatchGrammar = (b : BodyFraming) (input content rest : List ℕ) → StepsThrough b input content (Length 0) rest ↔ IsBody b input content rest

-- ---- what was read

-- a head that a text begins with is still its first head if more follows
abbrev pub HeadsStay : Type 0
HeadsStay = (text : List ℕ) (h : RequestHead) (rest more : List ℕ) → ReadsLimitedHead text h rest → ReadsLimitedHead (text ++ more) h (rest ++ more)

-- a part of a body that a text begins with stays the same if more follows
abbrev pub RunsStay : Type 0
RunsStay =
    (b : BodyFraming) (input content : List ℕ) (last : BodyFraming) (rest more : List ℕ)
    → StepsThrough b input content last rest → StepsThrough b (input ++ more) content last (rest ++ more)

-- a body that a text begins with stays the same if more follows
abbrev pub BodiesStay : Type 0
BodiesStay =
    (b : BodyFraming) (input content rest more : List ℕ) → IsBody b input content rest → IsBody b (input ++ more) content (rest ++ more)

-- a request that a text begins with stays the same if more follows
abbrev pub RequestsStay : Type 0
RequestsStay = (text : List ℕ) (r : HttpRequest) (rest more : List ℕ) → ReadsWholeRequest text r rest → ReadsWholeRequest (text ++ more) r (rest ++ more)

-- the requests that a text begins with stay the same if more follows
abbrev pub StreamsStay : Type 0
StreamsStay = (text : List ℕ) (rs : List HttpRequest) (rest more : List ℕ) → AreRequestsThenRest text rs rest → AreRequestsThenRest (text ++ more) rs (rest ++ more)

-- ---- what is refused

-- bytes that can't become a head still can't if more follows
abbrev pub BadHeadsStay : Type 0
BadHeadsStay = (text more : List ℕ) → NeverHasRequest text → NeverHasRequest (text ++ more)

-- a head that exceeds the limits still does if more follows
abbrev pub LargeHeadsStay : Type 0
LargeHeadsStay = (text more : List ℕ) → IsTooLarge text → IsTooLarge (text ++ more)

-- a head whose Host or framing is bad still is if more follows
abbrev pub BadFieldsStay : Type 0
BadFieldsStay = (text more : List ℕ) → HasBadFields text → HasBadFields (text ++ more)

-- a body that breaks the grammar still does if more follows
abbrev pub BrokenBodiesStay : Type 0
BrokenBodiesStay = (b : BodyFraming) (held more : List ℕ) → IsBroken b held → IsBroken b (held ++ more)

-- ---- what follows

-- two consecutive parts of a body are one part, whose content is both contents joined
abbrev pub RunsJoin : Type 0
RunsJoin =
    (a b c : BodyFraming) (input first middle second rest : List ℕ)
    → StepsThrough a input first b middle → StepsThrough b middle second c rest → StepsThrough a input (first ++ second) c rest

-- the steps of a part of a body are those of a first text, then those of a second
pub record SplitsAt (b last : BodyFraming) (input first second rest : List ℕ) : Type 0 where
  pub middle : BodyFraming
  pub later : List ℕ
  pub front : StepsThrough b input first middle later
  pub following : StepsThrough middle later second last rest

-- a part of a body whose content is in two texts is a part with the first text, then a part with the second
abbrev pub RunsSplit : Type 0
RunsSplit = (b last : BodyFraming) (input first second rest : List ℕ) → StepsThrough b input (first ++ second) last rest → SplitsAt b last input first second rest

-- requests followed by further requests are one list of requests
abbrev pub StreamsJoin : Type 0
StreamsJoin =
    (text middle rest : List ℕ) (rs qs : List HttpRequest) → AreRequestsThenRest text rs middle → AreRequestsThenRest middle qs rest → AreRequestsThenRest text (rs ++ qs) rest

-- ---- what can't be there

-- a text begins with at most one body
abbrev pub BodiesAreUnique : Type 0
BodiesAreUnique =
    (b : BodyFraming) (input content rest other after : List ℕ)
    → IsBody b input content rest → IsBody b input other after → (content ≡ other) × (rest ≡ after)

-- a text begins with at most one head
abbrev pub HeadsAreUnique : Type 0
HeadsAreUnique =
    (text : List ℕ) (h k : RequestHead) (rest after : List ℕ) → ReadsLimitedHead text h rest → ReadsLimitedHead text k after → (h ≡ k) × (rest ≡ after)

-- a text begins with at most one request
abbrev pub RequestsAreUnique : Type 0
RequestsAreUnique =
    (text : List ℕ) (r q : HttpRequest) (rest after : List ℕ) → ReadsWholeRequest text r rest → ReadsWholeRequest text q after → (r ≡ q) × (rest ≡ after)

-- a stream has one list of requests
abbrev pub StreamsAreUnique : Type 0
StreamsAreUnique =
    (text : List ℕ) (rs qs : List HttpRequest) (e f : InputEnd) → AreRequests text rs e → AreRequests text qs f → rs ≡ qs

-- if a part of a body is followed by a break of the grammar, the body never ends, whatever follows
abbrev pub BrokenBodiesNeverEnd : Type 0
BrokenBodiesNeverEnd =
    (b last : BodyFraming) (input got held more content rest : List ℕ)
    → StepsThrough b input got last held → IsBroken last held → IsBody b (input ++ more) content rest → ⊥

-- a text that ends within a body begins with no body
abbrev pub OpenBodiesNeverEnd : Type 0
OpenBodiesNeverEnd =
    (b last : BodyFraming) (input got held content rest : List ℕ)
    → StepsThrough b input got last held → IsOpen last held → IsBody b input content rest → ⊥

-- a body has at least as many bytes as were taken of it and its next chunk announces
abbrev pub ContentCoversSize : Type 0
ContentCoversSize =
    (b : BodyFraming) (input got held following more content rest : List ℕ) (size : ℕ)
    → StepsThrough b input got Size held → ReadsLine held size following → IsBody b (input ++ more) content rest → length got + size ≤ length content

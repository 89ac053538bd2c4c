-- A stream as a list of requests and an end.
use Rattle.std.specs.Prelude.{◌≡◌, ℕ, ◌<◌, ◌⊎◌, List, [], ◌∷◌, length, map, Result, Ok, Err}
use Rattle.httparse.specs.{Grammar.{RequestHead, NeverHasRequest}, Spans.name_and_value}
use Rattle.hls_http.specs.{declared.framing.BodyFraming.BodyFraming, declared.fault.HttpFault.HttpFault, declared.end.InputEnd.InputEnd, Fields.Fields}
use Rattle.hls_http.specs.{declared.end.InputEnd.TheVariants.{Closed, CutShort, BadHead, HeadTooLarge, BadRequest}, Framing.checked_framing}
use Rattle.hls_http.specs.{Heads.{ReadsLimitedHead, IsUnfinished, IsTooLarge}, Grammar.IsBody, Bodies.{StepsThrough, IsBroken, IsOpen}}

-- a request: its head, and the content of its body
pub record HttpRequest : Type 0 where
  pub head : RequestHead
  pub content : List ℕ

-- the names and the values of a head's fields
abbrev pub fields_of : RequestHead → Fields
fields_of h = map name_and_value h.fields

-- the framing of the body after a head, or why its fields are refused
abbrev pub framing_of_head : RequestHead → Result BodyFraming HttpFault
framing_of_head h = checked_framing h.minor (fields_of h)

-- the text is this request, and then the rest
pub record ReadsWholeRequest (text : List ℕ) (r : HttpRequest) (rest : List ℕ) : Type 0 where
  pub body : BodyFraming
  pub middle : List ℕ
  pub head : ReadsLimitedHead text r.head middle
  pub framing_is : framing_of_head r.head ≡ Ok body
  pub content : IsBody body middle r.content rest

-- the text is these requests, and then the rest
abbrev pub AreRequestsThenRest : List ℕ → List HttpRequest → List ℕ → Type 0
AreRequestsThenRest text [] rest = rest ≡ text
AreRequestsThenRest text (r ∷ rs) rest = (middle : List ℕ) × ReadsWholeRequest text r middle × AreRequestsThenRest middle rs rest

-- the text is a head and a part of its body, and stops there in this way
pub record StopsInBody (text : List ℕ) (Stops : BodyFraming → List ℕ → Type 0) : Type 0 where
  pub head : RequestHead
  pub body : BodyFraming
  pub middle : List ℕ
  pub reads : ReadsLimitedHead text head middle
  pub framing_is : framing_of_head head ≡ Ok body
  pub content : List ℕ
  pub last : BodyFraming
  pub later : List ℕ
  pub runs : StepsThrough body middle content last later
  pub stops : Stops last later

-- the text begins with a head whose Host or framing is bad
pub record HasBadFields (text : List ℕ) : Type 0 where
  pub head : RequestHead
  pub fault : HttpFault
  pub rest : List ℕ
  pub reads : ReadsLimitedHead text head rest
  pub framing_is : framing_of_head head ≡ Err fault

-- how a stream ends where no request follows
abbrev pub IsInputEnd : List ℕ → InputEnd → Type 0
IsInputEnd text Closed = text ≡ []
IsInputEnd text CutShort = (IsUnfinished text × (0 < length text)) ⊎ StopsInBody text IsOpen
IsInputEnd text BadHead = NeverHasRequest text
IsInputEnd text HeadTooLarge = IsTooLarge text
IsInputEnd text BadRequest = HasBadFields text ⊎ StopsInBody text IsBroken

-- the stream is these requests, and then ends in this way
pub record AreRequests (text : List ℕ) (rs : List HttpRequest) (end : InputEnd) : Type 0 where
  pub rest : List ℕ
  pub cuts : AreRequestsThenRest text rs rest
  pub ends : IsInputEnd rest end

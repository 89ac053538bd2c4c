-- Request heads (RFC 9112, sections 2 to 5), as `httparse` reads them, within the limits.
use Rattle.std.specs.Prelude.{ℕ, ◌<◌, ◌≤◌, ◌⊎◌, List, ◌++◌, length}
use Rattle.httparse.specs.{Grammar.{RequestHead, print_request, ReadsRequest, HasNoRequest, MayBecomeRequest}, Spans.RequestExceeds}
use Rattle.hls_http.specs.Limits.{head_limit, field_limit}

-- a head within the limits; the empty lines before it count among its bytes
pub record IsSmall (h : RequestHead) : Type 0 where
  pub bytes : length (print_request h) ≤ head_limit
  pub fields : length h.fields ≤ field_limit

-- the text is a head within the limits, and then the rest
pub record ReadsLimitedHead (text : List ℕ) (h : RequestHead) (rest : List ℕ) : Type 0 where
  pub reads : ReadsRequest text h rest
  pub small : IsSmall h

-- the text is below the limit and may become a head, but isn't one yet
pub record IsUnfinished (text : List ℕ) : Type 0 where
  pub short : length text < head_limit
  pub none : HasNoRequest text
  pub may_continue : MayBecomeRequest text

-- whatever follows, no head within the limits begins here: too many bytes without a head, or too many fields
pub record IsTooLarge (text : List ℕ) : Type 0 where
  pub none : (more : List ℕ) (h : RequestHead) (rest : List ℕ) → ReadsLimitedHead (text ++ more) h rest → ⊥
  pub past : (head_limit ≤ length text) ⊎ RequestExceeds field_limit text

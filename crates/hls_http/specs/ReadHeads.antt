-- Heads found in a text, and heads read from an input.
use Rattle.std.specs.Prelude.{◌≡◌, ℕ, ◌<◌, ◌≤◌, List, [], length, take, drop, codes, Option, Some, Result, Ok, Err}
use Rattle.std.specs.Io.KnownBytes.{prepend_known}
use Rattle.httparse.specs.{Grammar.{RequestHead, NeverHasRequest}, Spans.span_bytes}
use Rattle.hls_io.specs.Failures.{FailuresRose}
use Rattle.hls_http.specs.{declared.head.ParsedHead.ParsedHead, declared.head.HeadFault.HeadFault, declared.head.HeadEnd.HeadEnd}
use Rattle.hls_http.specs.{Heads.{ReadsLimitedHead, IsUnfinished, IsTooLarge}, Methods.method_of, Range.range_of_values}
use Rattle.hls_http.specs.{Fields.{client_of_values, closes_connection, expects, values, wait_of_values}, Requests.{framing_of_head, fields_of}}
use Rattle.hls_http.specs.declared.head.HeadFault.TheVariants.{Partial, Invalid, TooLarge}
use Rattle.hls_http.specs.declared.head.HeadEnd.TheVariants.{Closed, CutShort, BadHead, HeadTooLarge, ReadFailed}

-- the parsed head describes the head h, whose text this is
pub record IsHead (h : RequestHead) (head : ParsedHead) (text : List ℕ) : Type 0 where
  pub method : head.method ≡ method_of h.method
  pub target_ordered : head.target.start ≤ head.target.end
  pub target_within : head.target.end ≤ length text
  pub target : span_bytes text head.target ≡ h.target
  pub body : head.body ≡ framing_of_head h
  pub expects : head.expects ≡ expects h.minor (fields_of h)
  pub closes : head.closes ≡ closes_connection h.minor (fields_of h)
  pub range : head.range ≡ range_of_values (values (codes "range") (fields_of h))
  pub wait : head.wait ≡ wait_of_values (values (codes "prefer") (fields_of h))
  pub client : head.client ≡ client_of_values (values (codes "x-client") (fields_of h))

-- the text begins with a head within the limits, which the parsed head describes by the bytes kept of it
pub record FoundHead (text : List ℕ) (head : ParsedHead) (taken rest : List ℕ) : Type 0 where
  pub tree : RequestHead
  pub reads : ReadsLimitedHead text tree rest
  pub is : IsHead tree head taken

-- the head at the front of a text, or why there is none
abbrev pub FindsHead : List ℕ → Result (ParsedHead × ℕ) HeadFault → Type 0
FindsHead text (Ok found) = (found.1 ≤ length text) × FoundHead text found.0 (take found.1 text) (drop found.1 text)
FindsHead text (Err Partial) = IsUnfinished text
FindsHead text (Err Invalid) = NeverHasRequest text
FindsHead text (Err TooLarge) = IsTooLarge text

-- the head at the front of the input, with the rest still to come
pub record HasReadHead (input : List ℕ) (head : ParsedHead) (taken held : List ℕ) (left : Option (List ℕ)) : Type 0 where
  pub later : List ℕ
  pub found : FoundHead input head taken later
  pub known : prepend_known held left ≡ Some later

-- a head was read; on any error nothing was taken
abbrev pub ReadsHead : List ℕ → List ℕ → List ℕ → Option (List ℕ) → Result ParsedHead HeadEnd → Type 0
ReadsHead input taken held left (Ok head) = HasReadHead input head taken held left
ReadsHead input taken held left (Err Closed) = (input ≡ []) × (prepend_known held left ≡ Some [])
ReadsHead input taken held left (Err CutShort) = (prepend_known held left ≡ Some input) × (held ≡ input) × (0 < length input) × IsUnfinished input
ReadsHead input taken held left (Err BadHead) = (prepend_known held left ≡ Some input) × NeverHasRequest held
ReadsHead input taken held left (Err HeadTooLarge) = (prepend_known held left ≡ Some input) × IsTooLarge held
ReadsHead input taken held left (Err ReadFailed) = (prepend_known held left ≡ Some input) × IsUnfinished held

-- a head that ends with ReadFailed raises the number of failures; any other outcome leaves it
abbrev pub CountsHead : Result ParsedHead HeadEnd → ℕ → ℕ → Type 0
CountsHead (Err ReadFailed) old new = FailuresRose old new
CountsHead _ old new = new ≡ old

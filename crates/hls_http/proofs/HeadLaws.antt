-- Heads within the limits, in the held bytes and in the input.
use Rattle.std.proofs.Common.{◌≡◌, ◌∙◌, ℕ, ◌≤◌, ◌<◌, List, [], ◌++◌, inl, Option, Some, None, length, take, drop, sym, ap, subst, arith, append_assoc, append-nil, length-take}
use Rattle.std.{specs.Io.KnownBytes.prepend_known, proofs.lemmas.List.length-map}
use Rattle.httparse.specs.{Grammar.{RequestHead, print_request, ReadsRequest, HasNoRequest}, declared.spans.HeaderSpan.HeaderSpan}
use Rattle.httparse.specs.{Spans.{IsRequestAt, IsRequestWithin, header_bytes, name_and_value}, declared.spans.RequestSpans.RequestSpans}
use Rattle.httparse.proofs.GrammarLemmas.{ReadsRequest-append, request_prefix_free}
use Rattle.hls_http.specs.{declared.head.ParsedHead.ParsedHead, declared.input_buffer.ReadOutcome.ReadOutcome, declared.input_buffer.ReadOutcome.TheVariants.Eof, Input.ReadsMore}
use Rattle.hls_http.{specs.{Heads.IsTooLarge, ReadHeads.{IsHead, FoundHead, HasReadHead}}, proofs.Callers.cut}

-- a text whose head has more bytes than the limit begins with no head within the limits
pub head_past : (text : List ℕ) (headers : List HeaderSpan) (spans : RequestSpans) (h : RequestHead) → IsRequestWithin text headers spans → IsRequestAt text headers spans h → 16384 < spans.len → IsTooLarge text
head_past text headers spans h within at past = record {
  none = λ more k rest r.
      let same = request_prefix_free text more h k (drop spans.len text) rest at.reads r.reads in
      absurd (omega (arith, at.len, ap (λ x. length (print_request x)) same.0, r.small.bytes));
  past = inl (omega (arith, within.section.len_fits));
}

-- a head of at most 16384 bytes and 64 fields at the front of a text is a head within the limits
pub found_head : (text : List ℕ) (headers : List HeaderSpan) (spans : RequestSpans) (h : RequestHead) (head : ParsedHead) → IsRequestAt text headers spans h → IsHead h head (take spans.len text)
    → length headers ≤ 64 → spans.len ≤ 16384 → FoundHead text head (take spans.len text) (drop spans.len text)
found_head text headers spans h head at is few small =
    let kept = length-map (take spans.headers headers) (header_bytes text) in
    let told : length h.fields ≤ 64 = omega (arith, few, ap length at.fields, kept, length-map h.fields name_and_value, length-take spans.headers headers) in
    record { tree = h; reads = record { reads = at.reads; small = record { bytes = omega (arith, at.len); fields = told } }; is = is }

-- a text that reaches the limit without a complete head begins with no head within the limits
pub partial_past : (text : List ℕ) → HasNoRequest text → 16384 ≤ length text → IsTooLarge text
partial_past text never past = record {
  none = λ more h rest r.
      let w = cut (print_request h) rest text more (sym r.reads.1) (omega (arith, r.small.bytes)) in never h w.0 (r.reads.0, w.1);
  past = inl past;
}

-- ---- the bytes still to come

-- a head at the front of the held bytes is the head at the front of the input, and the rest is still to come
pub heard_ok : (input held now taken : List ℕ) (old left : Option (List ℕ)) (head : ParsedHead) (len : ℕ) → prepend_known held old ≡ Some input
    → FoundHead held head (take len held) (drop len held) → now ≡ drop len held → taken ≡ take len held → left ≡ old → HasReadHead input head taken now left
heard_ok input held now taken None left head len known found now_is taken_is left_is = absurd (cc known)
heard_ok input held now taken (Some rest) left head len known found now_is taken_is left_is =
    let whole : held ++ rest ≡ input = cc in
    let reads = subst (λ (text : List ℕ). ReadsRequest text found.tree (drop len held ++ rest)) whole (ReadsRequest-append held found.tree (drop len held) rest found.reads.reads) in
    record {
      later = drop len held ++ rest;
      found = record {
        tree = found.tree;
        reads = record { reads = reads; small = found.reads.small };
        is = subst (λ (text : List ℕ). IsHead found.tree head text) (sym taken_is) found.is;
      };
      known = ap (λ o. prepend_known now o) left_is ∙ ap (λ xs. Some (xs ++ rest)) now_is;
    }

-- a read that appends bytes to the held ones doesn't change the bytes still to come
pub reads_known : (input held now : List ℕ) (old left : Option (List ℕ)) (brought : ReadOutcome) → prepend_known held old ≡ Some input → ReadsMore held now old left brought → prepend_known now left ≡ Some input
reads_known input held now None left brought known r = absurd (cc known)
reads_known input held now (Some xs) None brought known r = absurd r.consumes
reads_known input held now (Some xs) (Some ys) brought known r =
    ap (λ zs. Some (zs ++ ys)) r.following ∙ ap Some (append_assoc held r.bytes ys ∙ ap (λ zs. held ++ zs) (sym r.consumes)) ∙ known

-- if a read meets the end of the input, the held bytes are all that is still to come
pub at_end : (input held now : List ℕ) (old left : Option (List ℕ)) → prepend_known held old ≡ Some input → ReadsMore held now old left Eof
    → (held ≡ input) × (now ≡ input) × (prepend_known now left ≡ Some input) × (left ≡ Some [])
at_end input held now old None known r = absurd (cc (reads_known input held now old None Eof known r))
at_end input held now old (Some rest) known r =
    let there = reads_known input held now old (Some rest) Eof known r in
    let same : now ≡ held = r.following ∙ ap (λ xs. held ++ xs) r.outcome_is.0 ∙ append-nil held in
    let all : now ≡ input = sym (ap (λ xs. now ++ xs) r.outcome_is.1 ∙ append-nil now) ∙ cc there in
    (sym same ∙ all, all, there, ap Some r.outcome_is.1)

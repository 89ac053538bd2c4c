-- A connection's moves, one after the other.
use Rattle.std.proofs.Common.{◌≡◌, ℕ, Bool, true, false, List, [], ◌++◌, ◌||◌, length, Option, None, Some, IsTrue, IfSome, refl, sym, ap, ◌∙◌, append-nil, ◌∷◌}
use Rattle.std.{proofs.lemmas.{Bool.eqb-true, List.append_cancel_left}, specs.Io.KnownBytes.{Appends, Consumes, IsAtEnd, Keeps}}
use Rattle.std.proofs.KnownBytes.{Appends-kept, Appends-nil, Appends-trans, Consumes-kept, Consumes-nil, Consumes-trans, Consumes-whole}
use Rattle.hls_event_loop.specs.Traffic.{ServesExactly, MatchesStreams, Traffic, followed_by, no_traffic, received_bytes, sent_bytes}

-- ---- what passes

-- false implies everything
never : {P : Type 0} → IsTrue false → P
never ended = absurd (cc)

-- if an empty text is some bytes and then others, there are no such bytes
no_more : (more left : List ℕ) → [] ≡ more ++ left → more ≡ []
no_more [] left is = refl
no_more (m ∷ ms) left is = absurd (cc)

-- after all input was received, no more is: what follows is empty
whole_first : (a b c : Option (List ℕ)) (joined more : List ℕ) → Consumes a b joined → Consumes b c more
    → IfSome a (λ text. text ≡ joined) → IfSome a (λ text. text ≡ joined ++ more)
whole_first None b c joined more first second all = tt
whole_first (Some xs) None c joined more first second all = absurd first
whole_first (Some xs) (Some ys) None joined more first second all = absurd second
whole_first (Some xs) (Some ys) (Some zs) joined more first second all =
    let none : [] ≡ ys = append_cancel_left joined [] ys (append-nil joined ∙ sym all ∙ first) in
    all ∙ sym (append-nil joined) ∙ ap (λ (l : List ℕ). joined ++ l) (sym (no_more more zs (none ∙ second)))

-- if the rest of the input was received after some bytes, all of it was
whole_then : (a b : Option (List ℕ)) (joined more : List ℕ) → Consumes a b joined → IfSome b (λ text. text ≡ more)
    → IfSome a (λ text. text ≡ joined ++ more)
whole_then None b joined more first all = tt
whole_then (Some xs) None joined more first all = absurd first
whole_then (Some xs) (Some ys) joined more first all = first ∙ ap (λ (l : List ℕ). joined ++ l) all

-- what follows from each of two flags follows from either of them
either : (a b : Bool) {P : Type 0} → (IsTrue a → P) → (IsTrue b → P) → IsTrue (a || b) → P
either true b left right h = left refl
either false b left right h = right h

-- if the streams match the traffic of two turns in a row, they match the traffic of both
passes_on : (s t : Traffic) (i j k o p q : Option (List ℕ)) → MatchesStreams s i j o p → MatchesStreams t j k p q → MatchesStreams (followed_by s t) i k o q
passes_on s t i j k o p q first second = record {
  read = Consumes-trans i j k s.received t.received first.read second.read;
  whole = either s.ended t.ended (λ ended. whole_first i j k s.received t.received first.read second.read (first.whole ended))
      (λ ended. whole_then i j s.received t.received first.read (second.whole ended));
  written = Appends-trans o p q s.sent t.sent first.written second.written;
}

-- ---- moves

module _ {H V : Type 0} {becomes : H → V → Traffic → H → V → Type 0} where
  -- a turn without traffic that keeps the input and the output serves exactly that traffic
  pub moves_quiet : {a b : H} {u v : V} {i j o p : Option (List ℕ)} → becomes a u no_traffic b v → Keeps i j → Keeps o p → ServesExactly becomes a u b v i j o p
  moves_quiet {i = i} {j = j} {o = o} {p = p} becomes_is kept kept_output = record {
    traffic = no_traffic;
    becomes_is = becomes_is;
    matches = record {
      read = Consumes-kept i i j [] (Consumes-nil i) kept;
      whole = λ ended. never ended;
      written = Appends-kept o o p [] (Appends-nil o) kept_output;
    };
  }

  -- a turn that sends bytes and appends them to the output serves exactly that traffic
  pub moves_sent : {a b : H} {u v : V} (i : Option (List ℕ)) {o p : Option (List ℕ)} (bytes : List ℕ) → becomes a u (sent_bytes bytes) b v → Appends o p bytes
      → ServesExactly becomes a u b v i i o p
  moves_sent i bytes becomes_is taken = record {
    traffic = sent_bytes bytes;
    becomes_is = becomes_is;
    matches = record { read = Consumes-nil i; whole = λ ended. never ended; written = taken };
  }

  -- a turn that receives bytes and takes them from the input serves exactly that traffic; if there are none, the input is at its end
  pub moves_read : {a b : H} {u v : V} {i j : Option (List ℕ)} (o : Option (List ℕ)) (bytes : List ℕ) → becomes a u (received_bytes bytes) b v → Consumes i j bytes
      → (length bytes ≡ 0 → IsAtEnd j) → ServesExactly becomes a u b v i j o o
  moves_read {i = i} {j = j} o bytes becomes_is joined end = record {
    traffic = received_bytes bytes;
    becomes_is = becomes_is;
    matches = record {
      read = joined;
      whole = λ ended. Consumes-whole i j bytes (λ text. text ≡ bytes) joined (end (eqb-true (length bytes) 0 ended)) refl;
      written = Appends-nil o;
    };
  }

  -- two turns in a row serve exactly the traffic of both, if the handler's relation composes
  pub moves_on : ((a b c : H) (u v w : V) (s t : Traffic) → becomes a u s b v → becomes b v t c w → becomes a u (followed_by s t) c w)
      → {a b c : H} {u v w : V} {i j k o p q : Option (List ℕ)} → ServesExactly becomes a u b v i j o p → ServesExactly becomes b v c w j k p q → ServesExactly becomes a u c w i k o q
  moves_on composed {a = a} {b = b} {c = c} {u = u} {v = v} {w = w} {i = i} {j = j} {k = k} {o = o} {p = p} {q = q} first second = record {
    traffic = followed_by first.traffic second.traffic;
    becomes_is = composed a b c u v w first.traffic second.traffic first.becomes_is second.becomes_is;
    matches = passes_on first.traffic second.traffic i j k o p q first.matches second.matches;
  }

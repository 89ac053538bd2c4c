-- Several passes that look one after the other, until the state of the last one agrees with all of them.
use Rattle.std.proofs.Common.{◌≡◌, ◌-◌, ℕ, suc, Some, List, [], ◌∷◌, ◌++◌, length, map, take, option_map, slice_get, sym, ap, ◌∙◌, subst, ◌<◌, All, arith}
use Rattle.std.specs.List.{AllZip}
use Rattle.std.proofs.lemmas.Slice.Zip.{AllZip-long}
use Rattle.std.proofs.lemmas.List.Elements.{AllZip-get_or}
use Rattle.atomic_table.specs.Seated.{TableId}
use Rattle.hls_core_laws.specs.State.{State}
use Rattle.hls_core_laws.specs.Follows.{Follows}
use Rattle.hls_core_laws.specs.Workers.{events_by}
use Rattle.hls_core_laws.proofs.Callers.{follows_itself, follows_through, workers_settled}
use Rattle.hls_turn.specs.Passes.{PassData}
use Rattle.hls_turn.specs.Calls.{HasLooked, LooksAt, MeetsAt, SettledAt, last_seen}

-- the state that a pass saw last
abbrev seen_of : PassData → State
seen_of p = p.known.seen

-- a pass that has looked and then looks again has looked
pub looked_through : (a b c : PassData) → HasLooked a b → HasLooked b c → HasLooked a c
looked_through a b c first then = record {
  turn = then.turn ∙ first.turn;
  looked = record {
    number = then.looked.number ∙ first.looked.number;
    follows = follows_through a.known.seen b.known.seen c.known.seen first.looked.follows then.looked.follows;
    mine = then.looked.mine ∙ first.looked.mine;
  };
}

-- passes that have each looked twice have each looked
pub all_looked : (olds mids news : List PassData) → AllZip HasLooked olds mids → AllZip HasLooked mids news → AllZip HasLooked olds news
all_looked [] [] [] first then = tt
all_looked [] [] (c ∷ news) first then = absurd then
all_looked [] (b ∷ mids) news first then = absurd first
all_looked (a ∷ olds) [] news first then = absurd first
all_looked (a ∷ olds) (b ∷ mids) [] first then = absurd then
all_looked (a ∷ olds) (b ∷ mids) (c ∷ news) first then = (looked_through a b c first.0 then.0, all_looked olds mids news first.1 then.1)

-- a pass that has looked meets at s, if s follows what it saw and has exactly its events
meets : (s : State) (a b c : PassData) → HasLooked a b → LooksAt b c → Follows c.known.seen s → events_by c.known.number s.log ≡ events_by c.known.number c.known.seen.log → MeetsAt s a c
meets s a b c looked looks follows entries =
    let through = looked_through a b c looked (record { turn = looks.turn; looked = looks.looks.looked }) in
    let number : c.known.number ≡ b.known.number = looks.looks.looked.number in
    record {
      turn = through.turn;
      looked = through.looked;
      follows = follows;
      entries = ap (λ (n : ℕ). events_by n s.log) (sym through.looked.number) ∙ entries ∙ ap (λ (n : ℕ). events_by n c.known.seen.log) number ∙ looks.looks.entries ∙ looked.looked.mine;
    }

-- equal lists have equal first elements, and equal rests
front : {A : Type 0} (x y : A) (xs ys : List A) → x ∷ xs ≡ y ∷ ys → x ≡ y
front x y xs ys e = cc

behind : {A : Type 0} (x y : A) (xs ys : List A) → x ∷ xs ≡ y ∷ ys → xs ≡ ys
behind x y xs ys e = cc

-- a list with an element at its end is never empty
no_more : {A : Type 0} (xs : List A) (x : A) → [] ≡ xs ++ x ∷ [] → ⊥
no_more [] x e = let never : [] ≡ x ∷ [] = e in absurd (cc)
no_more (y ∷ ys) x e = let never : [] ≡ y ∷ (ys ++ x ∷ []) = e in absurd (cc)

-- if no state was seen there are no passes, so all of them meet at s
none_left : (s : State) (olds mids news : List PassData) → AllZip HasLooked olds mids → AllZip LooksAt mids news → map seen_of news ≡ [] → AllZip (MeetsAt s) olds news
none_left s [] [] [] looked looks none = tt
none_left s [] [] (c ∷ news) looked looks none = absurd looks
none_left s [] (b ∷ mids) news looked looks none = absurd looked
none_left s (a ∷ olds) [] news looked looks none = absurd looked
none_left s (a ∷ olds) (b ∷ mids) [] looked looks none = absurd looks
none_left s (a ∷ olds) (b ∷ mids) (c ∷ news) looked looks none = let never : c.known.seen ∷ map seen_of news ≡ [] = none in absurd (cc)

-- if the last of several passes saw s, and s is settled for each of the others, they all meet at s
pub all_meet : (s : State) (states : List State) (olds mids news : List PassData) → AllZip HasLooked olds mids → AllZip LooksAt mids news → map seen_of news ≡ states ++ s ∷ [] → AllZip (SettledAt s) states (take (length states) news) → AllZip (MeetsAt s) olds news
all_meet s states [] [] [] looked looks are settled = tt
all_meet s states [] [] (c ∷ news) looked looks are settled = absurd looks
all_meet s states [] (b ∷ mids) news looked looks are settled = absurd looked
all_meet s states (a ∷ olds) [] news looked looks are settled = absurd looked
all_meet s states (a ∷ olds) (b ∷ mids) [] looked looks are settled = absurd looks
all_meet s [] (a ∷ olds) (b ∷ mids) (c ∷ news) looked looks are settled =
    let is : c.known.seen ≡ s = front c.known.seen s (map seen_of news) [] are in (
      meets s a b c looked.0 looks.0 (subst (λ (t : State). Follows c.known.seen t) is (follows_itself c.known.seen)) (ap (λ (t : State). events_by c.known.number t.log) (sym is)),
      none_left s olds mids news looked.1 looks.1 (behind c.known.seen s (map seen_of news) [] are),
    )
all_meet s (t ∷ states) (a ∷ olds) (b ∷ mids) (c ∷ news) looked looks are settled =
    let is : c.known.seen ≡ t = front c.known.seen t (map seen_of news) (states ++ s ∷ []) are in
    let follows : Follows c.known.seen s = subst (λ (u : State). Follows u s) (sym is) settled.0.follows in
    let entries = subst (λ (u : State). events_by c.known.number s.log ≡ events_by c.known.number u.log) (sym is) (workers_settled t s c.known.number settled.0.follows settled.0.entries) in
    (meets s a b c looked.0 looks.0 follows entries, all_meet s states olds mids news looked.1 looks.1 (behind c.known.seen t (map seen_of news) (states ++ s ∷ []) are) settled.1)

-- if one pass or more saw a list of states that ends with s, the last of them saw s
last_at : (s : State) (states : List State) (c : PassData) (news : List PassData) → map seen_of (c ∷ news) ≡ states ++ s ∷ [] → option_map seen_of (slice_get (c ∷ news) (length news)) ≡ Some s
last_at s [] c [] are = ap Some (front c.known.seen s [] [] are)
last_at s (t ∷ states) c [] are = absurd (no_more states s (behind c.known.seen t [] (states ++ s ∷ []) are))
last_at s [] c (d ∷ news) are = let never : d.known.seen ∷ map seen_of news ≡ [] = behind c.known.seen s (map seen_of (d ∷ news)) [] are in absurd (cc)
last_at s (t ∷ states) c (d ∷ news) are = last_at s states d news (behind c.known.seen t (map seen_of (d ∷ news)) (states ++ s ∷ []) are)

-- if several passes saw a list of states that ends with s, the last of them saw s
pub last_is : (s : State) (states : List State) (news : List PassData) → map seen_of news ≡ states ++ s ∷ [] → last_seen news ≡ Some s
last_is s states [] are = absurd (no_more states s are)
last_is s states (c ∷ news) are = let is : suc (length news) - 1 ≡ length news = omega arith in
    ap (λ (n : ℕ). option_map seen_of (slice_get (c ∷ news) n)) is ∙ last_at s states c news are

-- the number of passes is unchanged, and each keeps its turn
pub as_many : (olds news : List PassData) → AllZip HasLooked olds news → length news ≡ length olds
as_many olds news looked = AllZip-long HasLooked olds news looked

-- passes that have looked belong to the turn to which they belonged
pub all_ours : (turn : TableId) (olds news : List PassData) → AllZip HasLooked olds news → All (λ (p : PassData). p.turn ≡ turn) olds → All (λ (p : PassData). p.turn ≡ turn) news
all_ours turn olds news looked ours k d low =
    let low' : k < length olds = subst (λ (n : ℕ). k < n) (as_many olds news looked) low in
    (AllZip-get_or HasLooked olds news k d d looked low').turn ∙ ours k d low'

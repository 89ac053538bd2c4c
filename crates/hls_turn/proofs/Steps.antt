-- Each step preserves the turn's rule: the first put, a take, a put, and a pass split off pass 0.
use Rattle.std.proofs.Common.{◌≡◌, ◌≢◌, ◌⊎◌, ◌+◌, ◌<◌, ◌≤◌, ℕ, zero, suc, Option, Some, None, List, [], ◌∷◌, ◌++◌, length, length-append, set, sym, refl, ap, ◌∙◌, subst, ⊎_elim, inl, inr, arith}
use mathlib.Core.Option.{some, some-injective, some-ne-none}
use native.Mathlib.Decide.{ℕ_discrete}
use lib.ListN.{get_elem?}
use Rattle.std.specs.declared.sync.Arc.{Arc}
use Rattle.crossbeam_queue.specs.Fifo.{Pushes, Pops, Forks, Learns}
use Rattle.crossbeam_queue.proofs.Lists.{at_set, set_here, set_else, at_longer}
use Rattle.hls_core_laws.specs.State.{State}
use Rattle.hls_core_laws.specs.Outcome.{New}
use Rattle.hls_core_laws.specs.Follows.{Follows}
use Rattle.hls_core_laws.specs.Workers.{events_by}
use Rattle.hls_core_laws.proofs.Callers.{follows_itself, follows_through, moves_follow, workers_apart}
use Rattle.hls_turn.specs.declared.view.View.{View}
use Rattle.hls_turn.specs.Rule.{new_view, after_take, after_put, with_one_more, split_view, log_seen, TakesState, FollowsSeen, Advances, MayPut, EachView, Knows, HasNoPass, IsFree, IsFreeBut, Lies, IsHeld, Runs, Opens, Keeps}

-- if P holds of a new view of one port, and of the other views as they were, it holds of each view after the new one is set
each_set : (P : ℕ → View → Type 0) (views : List View) (port : ℕ) (w : View) → P port w → ((j : ℕ) (u : View) → j ≢ port → get_elem? views j ≡ some u → P j u) → EachView P (set views port w)
each_set P views port w mine others j u e = ⊎_elim
    (λ (x : (j ≡ port) × (w ≡ u)). subst (λ (y : ℕ × View). P y.0 y.1) (λ i. (sym x.0 i, x.1 i)) mine)
    (λ (x : (j ≢ port) × (get_elem? views j ≡ some u)). others j u x.0 x.1)
    (at_set views port j w u e)

-- an element of a list with one more at the end is an element of the list, or the one at the end
at_end : (l : List View) (a b : View) (j : ℕ) → get_elem? (l ++ a ∷ []) j ≡ some b → (get_elem? l j ≡ some b) ⊎ ((j ≡ length l) × (a ≡ b))
at_end [] a b zero e = inr (refl, some-injective a b e)
at_end [] a b (suc j) e = absurd (some-ne-none b (sym e))
at_end (x ∷ xs) a b zero e = inl e
at_end (x ∷ xs) a b (suc j) e = ⊎_elim (λ h. inl h) (λ h. inr (ap suc h.0, h.1)) (at_end xs a b j e)

-- an element's number is below the length of its list
within : (l : List View) (j : ℕ) (b : View) → get_elem? l j ≡ some b → j < length l
within [] j b e = absurd (some-ne-none b (sym e))
within (x ∷ xs) zero b e = omega arith
within (x ∷ xs) (suc j) b e = let h : j < length xs = within xs j b e in omega arith

none_here : {S : Type 0} (x : Option S) (s : S) → x ≡ None → x ≡ Some s → ⊥
none_here x s none some_is = let never : None ≡ Some s = sym none ∙ some_is in absurd (cc)

Some-injective : {S : Type 0} (a b : S) → Some a ≡ Some b → a ≡ b
Some-injective a b e = cc

-- the first element of a list, if there is one
abbrev first_of : {S : Type 0} → List S → Option S
first_of [] = None
first_of (x ∷ xs) = Some x

-- the list without its first element
abbrev rest_of : {S : Type 0} → List S → List S
rest_of [] = []
rest_of (x ∷ xs) = xs

-- each port has one view
same_view : (views : List View) (port : ℕ) (u v : View) → get_elem? views port ≡ some u → get_elem? views port ≡ some v → u ≡ v
same_view views port u v a b = some-injective u v (sym a ∙ b)

-- a list of one view has it at port 0 and none elsewhere
only-one : (w : View) (j : ℕ) (u : View) → get_elem? (w ∷ []) j ≡ some u → (j ≡ 0) × (u ≡ w)
only-one w zero u e = (refl, sym (some-injective w u e))
only-one w (suc j) u e = absurd (some-ne-none u (sym e))

-- a number from the number of views on is the port of no view
beyond : (views : List View) (port : ℕ) (v : View) (number : ℕ) → get_elem? views port ≡ some v → length views ≤ number → number ≡ port → ⊥
beyond views port v number at past same = let h : port < length views = within views port v at in absurd (omega arith)

length_set : (views : List View) (port : ℕ) (w : View) → length (set views port w) ≡ length views
length_set [] port w = refl
length_set (x ∷ xs) zero w = refl
length_set (x ∷ xs) (suc port) w = ap suc (length_set xs port w)

-- an advanced state follows the one before
advances-follow : (t s : State) (number : ℕ) → Advances t number s → Follows t s
advances-follow t s number = ⊎_elim (λ is. subst (λ (x : State). Follows t x) (sym is) (follows_itself t))
    (λ e. (moves_follow t s number e.0 New e.1 e.2 e.3).1)

-- an advanced state has the same entries of every other number
advances-apart : (t s : State) (number other : ℕ) → Advances t number s → other ≢ number → events_by other s.log ≡ events_by other t.log
advances-apart t s number other = ⊎_elim (λ is apart. ap (λ (x : State). events_by other x.log) is)
    (λ e apart. (workers_apart t s number other e.0 e.3).1 apart)

-- if every view knows the state s, they all still do after the view of one port is set to one that knows it
knows-set : (s : State) (views : List View) (port : ℕ) (w : View) → EachView (Knows s) views → Knows s port w → EachView (Knows s) (set views port w)
knows-set s views port w each mine = each_set (Knows s) views port w mine (λ j u _ at. each j u at)

-- pass 0 still counts all passes after a view is set that has the same count as the one before it
pass_count-set : (views : List View) (port : ℕ) (v w : View) → get_elem? views port ≡ some v → w.pass_count ≡ v.pass_count → ((u : View) → get_elem? views 0 ≡ some u → u.pass_count ≡ length views)
    → (u : View) → get_elem? (set views port w) 0 ≡ some u → u.pass_count ≡ length (set views port w)
pass_count-set views port v w at same pass_count u e = ⊎_elim
    (λ (x : (0 ≡ port) × (w ≡ u)). ap (λ (y : View). y.pass_count) (sym x.1) ∙ same ∙ pass_count v (subst (λ (i : ℕ). get_elem? views i ≡ some v) (sym x.0) at) ∙ sym (length_set views port w))
    (λ (x : (0 ≢ port) × (get_elem? views 0 ≡ some u)). pass_count u x.1 ∙ sym (length_set views port w))
    (at_set views port 0 w u e)

-- before the opening the only view is the new one, at port 0
alone-at : (views : List View) (port : ℕ) (v : View) → views ≡ new_view ∷ [] → get_elem? views port ≡ some v → (port ≡ 0) × (v ≡ new_view)
alone-at views zero v is at = (refl, sym (some-injective new_view v (subst (λ (l : List View). get_elem? l 0 ≡ some v) is at)))
alone-at views (suc port) v is at = absurd (some-ne-none v (sym (subst (λ (l : List View). get_elem? l (suc port) ≡ some v) is at)))

-- after a pass is split off, pass 0 counts one more
pass_count-set-more : (views : List View) (port : ℕ) (v l : View) → get_elem? views 0 ≡ some v → (u : View) → get_elem? (set views 0 (with_one_more v)) 0 ≡ some u → u.pass_count ≡ v.pass_count + 1
pass_count-set-more views port v l at u e = ap (λ (y : View). y.pass_count) (sym (some-injective (with_one_more v) u (sym (set_here views 0 (with_one_more v) (within views 0 v at)) ∙ e)))

module _ {A : Type 0} where
  -- while the state is held, a pass that holds a state holds the current one, the queue is empty, and no other pass holds one
  held_at : (s t : State) (items : List (Arc State A)) (views : List View) (port : ℕ) (v : View) → get_elem? views port ≡ some v → v.holds ≡ Some t → (held : IsHeld s items views) → Dec (port ≡ held.holder)
      → (items ≡ []) × (t ≡ s) × EachView (IsFreeBut port) views
  held_at s t items views port v at holds held (yes is) =
      let same : v ≡ held.view = same_view views port v held.view at (subst (λ (i : ℕ). get_elem? views i ≡ some held.view) (sym is) held.at) in
      let states : Some t ≡ Some s = sym holds ∙ ap (λ (y : View). y.holds) same ∙ held.holds in
      (held.empty, Some-injective t s states, subst (λ (i : ℕ). EachView (IsFreeBut i) views) (sym is) held.free)
  held_at s t items views port v at holds held (no other) = absurd (none_here v.holds t ((held.free port v at).holds other) holds)

  -- a pass that holds a state holds the current one, and no other pass holds any
  held_by : (s t : State) (items : List (Arc State A)) (views : List View) (port : ℕ) (v : View) → get_elem? views port ≡ some v → v.holds ≡ Some t → Lies s items views ⊎ IsHeld s items views
      → (items ≡ []) × (t ≡ s) × EachView (IsFreeBut port) views
  held_by s t items views port v at holds place = ⊎_elim
      (λ (lies : Lies s items views). absurd (none_here v.holds t (lies.free port v at).holds holds))
      (λ (held : IsHeld s items views). held_at s t items views port v at holds held (ℕ_discrete port held.holder))
      place

  -- if an item is in the queue, it is the current state, and no pass holds one
  lying : (s : State) (x : Arc State A) (items : List (Arc State A)) (views : List View) → Lies s (x ∷ items) views ⊎ IsHeld s (x ∷ items) views → (items ≡ []) × (x.value ≡ s) × EachView IsFree views
  lying s x items views place = ⊎_elim
      (λ (lies : Lies s (x ∷ items) views).
      let heads : Some x ≡ Some lies.item = ap first_of lies.items_are in
      let tails : items ≡ [] = ap rest_of lies.items_are in
      (tails, ap (λ (y : Arc State A). y.value) (Some-injective x lies.item heads) ∙ lies.item_is, lies.free))
      (λ (held : IsHeld s (x ∷ items) views). let never : x ∷ items ≡ [] = held.empty in absurd (cc))
      place

  -- the first put: its state is the current one, and pass 0 has seen it
  opens : (x : Arc State A) → Runs (x ∷ []) (after_put new_view x.value ∷ [])
  opens x = let s : State = x.value in let w : View = after_put new_view s in
      let only : (j : ℕ) (u : View) → get_elem? (w ∷ []) j ≡ some u → (j ≡ 0) × (u ≡ w) = only-one w in
      record {
        state = s;
        place = inl (record { item = x; items_are = refl; item_is = refl; free = λ j u e. record { holds = ap (λ (y : View). y.holds) (only j u e).1 } });
        each = λ j u e. subst (λ (y : ℕ × View). Knows s y.0 y.1) (λ i. (sym (only j u e).0 i, sym (only j u e).1 i))
            (record { number = refl; last = s; seen = refl; follows = follows_itself s; mine = refl });
        pass_count = λ u e. ap (λ (y : View). y.pass_count) (only 0 u e).1;
        unassigned = λ number _ j u e. record { entries = ap (λ (y : View). events_by number (log_seen y.seen)) (only j u e).1 };
      }

  -- when the pass that holds the state puts it back, unchanged or advanced, the turn still runs
  goes_on : (items : List (Arc State A)) (views : List View) (port : ℕ) (v : View) (t : State) (x : Arc State A) → Runs items views → get_elem? views port ≡ some v → v.holds ≡ Some t → Advances t v.number x.value
      → Runs (items ++ x ∷ []) (set views port (after_put v x.value))
  goes_on items views port v t x runs at holds advances =
      let s : State = x.value in let w : View = after_put v s in
      let held = held_by runs.state t items views port v at holds runs.place in
      let mine = runs.each port v at in
      let follows : Follows runs.state s = subst (λ (y : State). Follows y s) held.1 (advances-follow t s v.number advances) in
      let apart : (other : ℕ) → other ≢ v.number → events_by other s.log ≡ events_by other runs.state.log =
      λ other differs. advances-apart t s v.number other advances differs ∙ ap (λ (y : State). events_by other y.log) held.1 in
      record {
        state = s;
        place = inl (record {
          item = x;
          items_are = ap (λ (l : List (Arc State A)). l ++ x ∷ []) held.0;
          item_is = refl;
          free = each_set IsFree views port w (record { holds = refl }) (λ j u differs e. record { holds = (held.2 j u e).holds differs });
        });
        each = each_set (Knows s) views port w
            (record { number = mine.number; last = s; seen = refl; follows = follows_itself s; mine = refl })
            (λ j u differs e. let known = runs.each j u e in record {
              number = known.number;
              last = known.last;
              seen = known.seen;
              follows = follows_through known.last runs.state s known.follows follows;
              mine = apart u.number (λ same. differs (sym known.number ∙ same ∙ mine.number)) ∙ known.mine;
            });
        pass_count = pass_count-set views port v w at refl runs.pass_count;
        unassigned = λ number high. let past : length views ≤ number = subst (λ (n : ℕ). n ≤ number) (length_set views port w) high in
            each_set (HasNoPass s number) views port w (record { entries = refl })
            (λ j u differs e. record { entries = (runs.unassigned number past j u e).entries ∙ sym (apart number (λ same. beyond views port v number at past (same ∙ mine.number))) });
      }

  -- a put that is allowed keeps the turn's rule, and leaves the pass with the view after a put
  pub puts : (n port : ℕ) (v : View) (x : Arc State A) → MayPut v x.value → Pushes (Keeps {A = A}) n port v x (λ w. w ≡ after_put v x.value)
  puts n port v x may items views _ keeps at = (
    after_put v x.value,
    ⊎_elim
        (λ (is : v ≡ new_view). ⊎_elim
        (λ (opening : Opens items views). let place = (alone-at views port v opening.alone at).0 in
        inr (subst (λ (y : List (Arc State A) × List View × ℕ × View). Runs (y.0 ++ x ∷ []) (set y.1 y.2 (after_put y.3 x.value)))
        (λ i. (sym opening.empty i, sym opening.alone i, sym place i, sym is i)) (opens x)))
        (λ (runs : Runs items views). absurd (none_here v.seen (runs.each port v at).last (ap (λ (y : View). y.seen) is) (runs.each port v at).seen))
        keeps)
        (λ (holds : (t : State) × (v.holds ≡ Some t) × Advances t v.number x.value). ⊎_elim
        (λ (opening : Opens items views). absurd (none_here v.holds holds.0 (ap (λ (y : View). y.holds) (alone-at views port v opening.alone at).1) holds.1))
        (λ (runs : Runs items views). inr (goes_on items views port v holds.0 x runs at holds.1 holds.2))
        keeps)
        may,
    refl,
  )

  -- at a put the queue is empty
  pub empty_at_put : (port : ℕ) (v : View) (x : Arc State A) → MayPut v x.value → Learns (Keeps {A = A}) port v (λ items. items ≡ [])
  empty_at_put port v x may items views keeps at = ⊎_elim
      (λ (opening : Opens items views). opening.empty)
      (λ (runs : Runs items views). ⊎_elim
      (λ (is : v ≡ new_view). absurd (none_here v.seen (runs.each port v at).last (ap (λ (y : View). y.seen) is) (runs.each port v at).seen))
      (λ (holds : (t : State) × (v.holds ≡ Some t) × Advances t v.number x.value). (held_by runs.state holds.0 items views port v at holds.1 runs.place).0)
      may)
      keeps

  -- when the state is taken out, the turn still runs, and the taken state follows what the pass saw and has exactly its events
  take_runs : (items : List (Arc State A)) (views : List View) (port : ℕ) (v : View) (x : Arc State A) → Runs (x ∷ items) views → get_elem? views port ≡ some v
      → Runs items (set views port (after_take v x.value)) × TakesState v x.value (after_take v x.value)
  take_runs items views port v x runs at =
      let s : State = x.value in let w : View = after_take v s in
      let lies = lying runs.state x items views runs.place in
      let mine = runs.each port v at in
      let current : runs.state ≡ s = sym lies.1 in
      let entries : events_by v.number s.log ≡ v.mine = ap (λ (y : State). events_by v.number y.log) lies.1 ∙ mine.mine in (
        record {
          state = s;
          place = inr (record {
            holder = port;
            view = w;
            empty = lies.0;
            at = set_here views port w (within views port v at);
            holds = refl;
            free = each_set (IsFreeBut port) views port w (record { holds = λ differs. absurd (differs refl) }) (λ j u differs e. record { holds = λ _. (lies.2 j u e).holds });
          });
          each = each_set (Knows s) views port w
              (record { number = mine.number; last = s; seen = refl; follows = follows_itself s; mine = entries })
              (λ j u _ e. subst (λ (y : State). Knows y j u) current (runs.each j u e));
          pass_count = pass_count-set views port v w at refl runs.pass_count;
          unassigned = λ number high. let past : length views ≤ number = subst (λ (n : ℕ). n ≤ number) (length_set views port w) high in
              each_set (HasNoPass s number) views port w (record { entries = refl })
              (λ j u _ e. subst (λ (y : State). HasNoPass y number j u) current (runs.unassigned number past j u e));
        },
        record {
          follows = subst (λ (y : Option State). FollowsSeen y s) (sym mine.seen) (subst (λ (y : State). Follows mine.last y) current mine.follows);
          entries = entries;
          view_is = refl;
        },
      )

  -- a take keeps the turn's rule, and gives the pass a state that follows what it saw and has exactly its events
  pub takes : (port : ℕ) (v : View) → Pops (Keeps {A = A}) port v (λ x w. TakesState v x.value w)
  takes port v x items views keeps at = ⊎_elim
      (λ (opening : Opens (x ∷ items) views). let never : x ∷ items ≡ [] = opening.empty in absurd (cc))
      (λ (runs : Runs (x ∷ items) views). let taken = take_runs items views port v x runs at in (after_take v x.value, inr taken.0, taken.1))
      keeps

  -- an empty queue and pass 0 alone satisfy the turn's rule
  pub begins : Keeps {A = A} [] (new_view ∷ [])
  begins = inl (record { empty = refl; alone = refl })

-- pass 0 after `pass_count` passes were made, itself included, all of the opening state s
abbrev pub made_to : ℕ → State → View
made_to pass_count s = record { number = 0; pass_count = pass_count; seen = Some s; mine = events_by 0 s.log; holds = None }

module _ {A : Type 0} where
  -- splitting a free pass off a free one leaves the state in the queue, or held by the pass that holds it
  fork_place : (s : State) (items : List (Arc State A)) (views : List View) (port : ℕ) (v l r : View) → get_elem? views port ≡ some v → l.holds ≡ v.holds → v.holds ≡ None → r.holds ≡ None
      → Lies s items views ⊎ IsHeld s items views → Lies s items (set views port l ++ r ∷ []) ⊎ IsHeld s items (set views port l ++ r ∷ [])
  fork_place s items views port v l r at same none free place = ⊎_elim
      (λ (lies : Lies s items views). inl (record {
        item = lies.item;
        items_are = lies.items_are;
        item_is = lies.item_is;
        free = λ j u e. ⊎_elim
            (λ x. each_set IsFree views port l (record { holds = same ∙ none }) (λ i w _ y. lies.free i w y) j u x)
            (λ (x : (j ≡ length (set views port l)) × (r ≡ u)). record { holds = ap (λ (y : View). y.holds) (sym x.1) ∙ free })
            (at_end (set views port l) r u j e);
      }))
      (λ (held : IsHeld s items views). let apart : held.holder ≢ port = λ is.
      none_here v.holds s none (ap (λ (y : View). y.holds) (same_view views port v held.view at (subst (λ (i : ℕ). get_elem? views i ≡ some held.view) is held.at)) ∙ held.holds) in
      inr (record {
        holder = held.holder;
        view = held.view;
        empty = held.empty;
        holds = held.holds;
        at = at_longer (set views port l) (r ∷ []) held.holder held.view (set_else views port held.holder l apart ∙ held.at);
        free = λ j u e. ⊎_elim
            (λ x. each_set (IsFreeBut held.holder) views port l (record { holds = λ _. same ∙ none }) (λ i w _ y. held.free i w y) j u x)
            (λ (x : (j ≡ length (set views port l)) × (r ≡ u)). record { holds = λ _. ap (λ (y : View). y.holds) (sym x.1) ∙ free })
            (at_end (set views port l) r u j e);
      }))
      place

  -- when a pass is split off pass 0, which holds no state, the turn still runs
  fork_runs : (items : List (Arc State A)) (views : List View) (v : View) → Runs items views → get_elem? views 0 ≡ some v → v.holds ≡ None → Runs items (set views 0 (with_one_more v) ++ split_view v ∷ [])
  fork_runs items views v runs at none =
      let l : View = with_one_more v in let r : View = split_view v in let s : State = runs.state in
      let mine = runs.each 0 v at in
      let count : v.pass_count ≡ length views = runs.pass_count v at in
      let longer : length (set views 0 l ++ r ∷ []) ≡ length views + 1 = length-append (set views 0 l) (r ∷ []) ∙ ap (λ n. n + 1) (length_set views 0 l) in
      let high : length views ≤ v.pass_count = omega (arith, count) in
      record {
        state = s;
        place = fork_place s items views 0 v l r at refl none refl runs.place;
        each = λ j u e. ⊎_elim
            (λ x. each_set (Knows s) views 0 l (record { number = mine.number; last = mine.last; seen = mine.seen; follows = mine.follows; mine = mine.mine }) (λ i w _ y. runs.each i w y) j u x)
            (λ (x : (j ≡ length (set views 0 l)) × (r ≡ u)). subst (λ (y : ℕ × View). Knows s y.0 y.1) (λ i. (sym x.0 i, x.1 i))
            (record { number = count ∙ sym (length_set views 0 l); last = mine.last; seen = mine.seen; follows = mine.follows; mine = sym (runs.unassigned v.pass_count high 0 v at).entries }))
            (at_end (set views 0 l) r u j e);
        pass_count = λ u e. ⊎_elim
            (λ x. pass_count-set-more views 0 v l at u x ∙ ap (λ n. n + 1) count ∙ sym longer)
            (λ (x : (0 ≡ length (set views 0 l)) × (r ≡ u)). let low : 0 < length views = within views 0 v at in let same : 0 ≡ length views = x.0 ∙ length_set views 0 l in absurd (omega arith))
            (at_end (set views 0 l) r u 0 e);
        unassigned = λ number past j u e. let past' : length views + 1 ≤ number = subst (λ (n : ℕ). n ≤ number) longer past in let low : length views ≤ number = omega arith in ⊎_elim
            (λ x. each_set (HasNoPass s number) views 0 l (record { entries = (runs.unassigned number low 0 v at).entries }) (λ i w _ y. runs.unassigned number low i w y) j u x)
            (λ (x : (j ≡ length (set views 0 l)) × (r ≡ u)). subst (λ (y : View). HasNoPass s number j y) x.1 (record { entries = (runs.unassigned number low 0 v at).entries }))
            (at_end (set views 0 l) r u j e);
      }

  -- splitting a pass off pass 0, which has seen the opening state and holds none, keeps the turn's rule
  pub forks : (s : State) (pass_count port : ℕ) (v : View) → port ≡ 0 → v ≡ made_to pass_count s → Forks (Keeps {A = A}) port v (with_one_more v) (split_view v)
  forks s pass_count port v zeroth is items views keeps at = ⊎_elim
      (λ (opening : Opens items views). absurd (none_here new_view.seen s refl (ap (λ (y : View). y.seen) (sym (alone-at views port v opening.alone at).1 ∙ is))))
      (λ (runs : Runs items views). inr (subst (λ (p : ℕ). Runs items (set views p (with_one_more v) ++ split_view v ∷ [])) (sym zeroth)
      (fork_runs items views v runs (subst (λ (p : ℕ). get_elem? views p ≡ some v) zeroth at) (ap (λ (y : View). y.holds) is))))
      keeps

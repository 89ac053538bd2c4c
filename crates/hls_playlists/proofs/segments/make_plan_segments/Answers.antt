-- At the start no segment is made, and all places of the plan are in the table, so the invariant holds.
use Rattle.std.proofs.Common.{◌≡◌, ℕ, ◌<◌, ◌∷◌, length, All, refl, subst}
use Rattle.std.proofs.lemmas.List.Elements.{All-head, All-tail}
use Rattle.hls_playlists.proofs.segments.make_plan_segments.Goals as goal

pub loop-to-init : goal.loop-to-init
loop-to-init c =
    let InTable : ℕ → Type 0 = λ p. p < length c.args.table.now.places in
    let whole : c.args.plan.now ≡ c.in-Some.start.now ∷ c.in-Some.rest.now = c.in-Some.ensures.cases.0 in
    let all : All InTable (c.in-Some.start.now ∷ c.in-Some.rest.now) = subst (All InTable) whole c.requires.plan in
    record {
      valid = c.len.ensures.valid;
      from_in = All-head InTable c.in-Some.start.now c.in-Some.rest.now all;
      rest_in = All-tail InTable c.in-Some.start.now c.in-Some.rest.now all;
      done = rw c.new-segments.ensures.items refl;
    }

-- A rendition that differs shows that not all are the same; after the last one, each was compared.
use Rattle.std.proofs.Common.{refl, sym, ◌∙◌, arith}
use Rattle.std.proofs.lemmas.Option.{slice_get_within}
use Rattle.hls_core.proofs.Compared.{same_at, same_more}
use Rattle.hls_core.proofs.follows.all_have_same_bytes.Goals as goal

pub returns-then-not-have_same_bytes : goal.returns-then-not-have_same_bytes
returns-then-not-have_same_bytes c = (
  λ isnt. cc,
  λ same.
      sym c.if-not-have_same_bytes.true ∙ c.have_same_bytes.ensures.1 (same_at c.args.a.now c.args.b.now c.loop-rendition.rendition c.in-Some.x.now c.in-Some-rendition.y.now
      c.in-Some.ensures.some c.in-Some-rendition.ensures.some same),
)

pub loop-rendition-preserved : goal.loop-rendition-preserved
loop-rendition-preserved c =
    same_more c.args.a.now c.args.b.now c.loop-rendition.rendition c.in-Some.x.now c.in-Some-rendition.y.now c.in-Some.ensures.some
    c.in-Some-rendition.ensures.some (c.have_same_bytes.ensures.0 c.if-not-have_same_bytes.false) c.loop-rendition.invariant

pub returns : goal.returns
returns c = (
  λ yes r ha hb at_a at_b. c.loop-rendition.invariant r ha hb
      (omega (arith, slice_get_within c.args.a.now.bytes r ha at_a, slice_get_within c.args.b.now.bytes r hb at_b)) at_a at_b,
  λ same. refl,
)

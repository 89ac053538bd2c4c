-- The renditions before n are valid, so the first one that isn't is found at n; after sixteen valid ones, a seventeenth is.
use Rattle.std.proofs.Common.{◌∙◌, sym, inl, inr, arith}
use Rattle.std.proofs.lemmas.Bool.{eqb-false}
use Rattle.hls_core.proofs.Cited.{at_read}
use Rattle.std.proofs.lemmas.Option.{slice_get_within}
use Rattle.hls_core.proofs.Names.{good_more}
use Rattle.hls_core.proofs.config.first_bad_rendition.Goals as goal

pub loop-n-preserved : goal.loop-n-preserved
loop-n-preserved c = record {
  few = omega arith;
  good = good_more _ _ _ c.loop-n.invariant.good (at_read _ _ _ c.loop-n-test.true c.index-renditions-n.is)
      (c.is_rendition_at.ensures.0 c.if-not-is_rendition_at.false);
}

pub returns-then-n-eq-RENDITION_LIMIT : goal.returns-then-n-eq-RENDITION_LIMIT
returns-then-n-eq-RENDITION_LIMIT c =
    inr (inr (record {
      before = λ k r below at. c.loop-n.invariant.good k r (omega (arith, c.if-n-eq-RENDITION_LIMIT.true)) at;
      number = c.if-n-eq-RENDITION_LIMIT.true;
      there = omega (arith, c.loop-n-test.true, c.if-n-eq-RENDITION_LIMIT.true);
    }))

pub returns-then-not-is_rendition_at : goal.returns-then-not-is_rendition_at
returns-then-not-is_rendition_at c =
    inr (inl (record {
      before = c.loop-n.invariant.good;
      few = omega (arith, c.loop-n.invariant.few, c.if-n-eq-RENDITION_LIMIT.false);
      rendition = _;
      at = at_read _ _ _ c.loop-n-test.true c.index-renditions-n.is;
      bad = λ good. let yes = c.is_rendition_at.ensures.1 good in cc;
    }))

pub returns : goal.returns
returns c = record {
  some = omega (arith, eqb-false _ 0 (sym c.is_empty.ensures ∙ c.if-is_empty.false));
  few = omega (arith, c.loop-n.invariant.few);
  each = λ n r at. c.loop-n.invariant.good n r (omega (arith, slice_get_within c.args.renditions.now n r at)) at;
}

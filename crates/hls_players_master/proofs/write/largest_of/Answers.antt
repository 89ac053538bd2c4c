-- After one more rendition, the highest rates so far and the remaining renditions still give the highest rates of the audio group; at the end
-- none remain.
use Rattle.std.proofs.Common.{ap, sym, ◌∙◌, drop, ◌∷◌, ◌+◌, arith}
use Rattle.std.proofs.lemmas.List.{drop_more, drop_all}
use Rattle.std.specs.List.{fold}
use Rattle.hls_players_master.specs.declared.summary.RenditionSummary.{RenditionSummary}
use Rattle.hls_players_master.specs.Text.{larger_in, largest_of}
use Rattle.hls_players_master.proofs.write.largest_of.Goals as goal

pub renditions-preserved : goal.renditions-preserved
renditions-preserved c = record {
  most = rw c.larger_in-most.ensures (sym (ap (fold (larger_in c.args.group.now) c.renditions.most) (drop_more c.args.summaries.now c.renditions.n c.index-summaries-n.result c.renditions-test.true
      ∙ ap (λ (x : RenditionSummary). x ∷ drop (c.renditions.n + 1) c.args.summaries.now) (sym c.index-summaries-n.is))) ∙ c.renditions.invariant.most);
  within = omega arith;
}

pub returns : goal.returns
unfolding largest_of
returns c = sym (ap (fold (larger_in c.args.group.now) c.renditions.most) (drop_all c.renditions.n c.args.summaries.now c.renditions-test.false)) ∙ c.renditions.invariant.most

-- Each step adds the text of the next playlist, up to the number of playlists.
use Rattle.std.proofs.Common.{◌∙◌, ◌∷◌, [], Some, arith, ap, sym, length-append}
use Rattle.std.specs.Prelude.{option_map}
use Rattle.hls_jobs.specs.Programmes.{programme_list_file}
use Rattle.hls_jobs.proofs.ListTexts.{items_of, one_more, some_below}
use Rattle.hls_jobs.proofs.programme_texts.list_texts.Goals as goal

pub unreachable-requires : goal.unreachable-requires
unreachable-requires c =
    some_below c.args.reply.now c.loop-rendition.rendition (omega (arith, c.list_count-rendition-end.ensures)) (sym c.in_ok-text.ensures ∙ ap (option_map items_of) c.in_default.is)

pub loop-rendition-preserved : goal.loop-rendition-preserved
loop-rendition-preserved c =
    let shared = c.in_ok-shared.shared in
    let long = length-append c.loop-rendition.texts.items (shared ∷ []) in
    rw c.in_ok-push.ensures.items (record {
      count = omega (arith, c.loop-rendition.invariant.count, long);
      each = one_more c.args.reply.now c.loop-rendition.texts.items shared c.loop-rendition.invariant.each
          (ap (programme_list_file c.args.reply.now) c.loop-rendition.invariant.count ∙ sym c.in_ok-text.ensures ∙ ap (option_map items_of) c.in-Some.is ∙ ap Some (sym c.in_ok-shared.ensures.ok));
    })

pub returns : goal.returns
returns c = record {
  count = omega (arith, c.loop-rendition.invariant.count, c.loop-rendition.auto.rendition-end, c.list_count-rendition-end.ensures);
  each = c.loop-rendition.invariant.each;
}

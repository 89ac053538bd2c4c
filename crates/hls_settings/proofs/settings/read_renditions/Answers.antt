-- After one more argument is read, the renditions are those of the arguments so far. If it is no rendition, it is the first one that isn't, and
-- the fault has its number.
use Rattle.std.proofs.Common.{◌≡◌, Err, rules, length, ap, arith, length-append}
use Rattle.hls_core_laws.specs.declared.rendition.Rendition.{Rendition}
use Rattle.hls_settings.proofs.Says.{say_more, unread_at}
use Rattle.hls_settings.proofs.settings.read_renditions.Goals as goal

pub loop-argument-preserved : goal.loop-argument-preserved
loop-argument-preserved c = record {
  all = omega (arith, ap length c.in-Ok.ensures.items, length-append {A = Rendition});
  said = rw c.in-Ok.ensures.items (say_more c.args.arguments.now c.loop-argument.renditions.items c.loop-argument.argument-index _ c.in_ok-rendition.rendition (omega arith)
      c.in_ok-rendition.ensures c.loop-argument.invariant.said);
}

pub returns-in_err-rendition : goal.returns-in_err-rendition
returns-in_err-rendition c =
    let is : c.from_residual.result ≡ Err c.in_err-rendition.field-0.0 = search rules in
    rw is (unread_at c.args.arguments.now c.loop-argument.renditions.items c.loop-argument.argument-index c.len.result _ c.in_err-rendition.field-0.0
    (omega arith) (omega arith) c.loop-argument.invariant.said c.in_err-rendition.ensures)

-- A body has the header that is parsed from it if it begins with that header's bytes. Otherwise, or if nothing can have its base,
-- it has no header.
use Rattle.std.proofs.Common.{◌≡◌, ◌∙◌, true, false, refl, sym, arith}
use Rattle.hls_journal.proofs.ReadBack.{no_header, same_header}
use Rattle.hls_journal.proofs.channel.read_header.Goals as goal

pub returns-in_default : goal.returns-in_default
returns-in_default c = no_header c.args.body.now c.in_default.ensures

pub returns-then-begins_with : goal.returns-then-begins_with
returns-then-begins_with c = (
  c.in-Some.ensures.0,
  c.if-begins_with.ensures.0 refl ∙ c.deref.ensures.value ∙ c.in_ok-again.ensures,
  omega (arith, c.if-body.false),
)

pub returns : goal.returns
returns c = λ has.
    let same = same_header c.args.body.now c.in-Some.header c.in-Some.ensures.1 c.in-Some.ensures.2 has in
    let no : false ≡ true = c.if-begins_with.ensures.1 (same ∙ sym (c.deref.ensures.value ∙ c.in_ok-again.ensures)) in
    absurd cc

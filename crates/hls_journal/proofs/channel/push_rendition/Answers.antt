-- The parts are appended one after another: the name, the flag, the bandwidth, and the tolerance.
use Rattle.std.proofs.Common.{◌≡◌, ◌∙◌, [], ◌∷◌, ◌++◌, ap}
use Rattle.byteorder.specs.Endian.{little_bytes}
use Rattle.std.specs.Int.{from_bool}
use Rattle.hls_journal.specs.Channels.{name_bytes}
use Rattle.hls_journal.proofs.Pushed.{then_pushed}
use Rattle.hls_journal.proofs.channel.push_rendition.Goals as goal

pub returns : goal.returns
returns c =
    let old = c.args.out.now.items in
    let r = c.args.rendition.now in
    let name : c.push_name.new.out.items ≡ c.args.out.now.items ++ name_bytes c.args.rendition.now.name =
    c.in_ok-push_name.ensures ∙ ap (λ b. c.args.out.now.items ++ name_bytes b) c.deref.ensures in
    let flag : c.push.new.self.items ≡ c.push_name.new.out.items ++ from_bool c.args.rendition.now.video ∷ [] =
    c.in_ok-push.ensures.items ∙ ap (λ k. c.push_name.new.out.items ++ k ∷ []) c.from.ensures in
    then_pushed old (name_bytes r.name ++ from_bool r.video ∷ [] ++ little_bytes 8 r.bandwidth) c.push_number.new.out.items (little_bytes 8 r.tolerance) c.push_number-2.new.out.items
    (then_pushed old (name_bytes r.name ++ from_bool r.video ∷ []) c.push.new.self.items (little_bytes 8 r.bandwidth) c.push_number.new.out.items
    (then_pushed old (name_bytes r.name) c.push_name.new.out.items (from_bool r.video ∷ []) c.push.new.self.items name flag)
    c.in_ok-push_number.ensures)
    c.in_ok-push_number-2.ensures

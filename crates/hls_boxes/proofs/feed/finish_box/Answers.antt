-- A complete box without a fault joins the part in progress, or ends it, and then the part is complete. A fault is returned, and
-- an incomplete box changes nothing.
use Rattle.std.proofs.Common.{◌∙◌, [], ◌∷◌, ◌++◌, Some, None, refl, sym, ap}
use Rattle.std.proofs.lemmas.List.{take_rest}
use Rattle.hls_boxes.proofs.IntakeLaws.{ends, joins, passes-none, passes-one, refuses, waits-start}
use Rattle.hls_boxes.proofs.feed.finish_box.Goals as goal

pub returns-in-Fault-clause-ok : goal.returns-in-Fault-clause-ok
returns-in-Fault-clause-ok c =
    passes-none c.args.pending.now _ c.args.whole.now.items _ (Some c.in-Fault.fault) refl refl
    (refuses c.args.pending.now c.in-Fault.fault c.requires.is_pending (sym (rw (take_rest, c.deref.ensures.value) at c.in-Fault.ensures)))

pub returns-in-Incomplete-clause-ok : goal.returns-in-Incomplete-clause-ok
returns-in-Incomplete-clause-ok c =
    passes-none c.args.pending.now _ c.args.whole.now.items _ None refl refl
    (record { is_pending = c.requires.is_pending; last = sym (rw (take_rest, c.deref.ensures.value) at c.in-Incomplete.ensures) })

pub returns-in-Continues-clause-ok : goal.returns-in-Continues-clause-ok
returns-in-Continues-clause-ok c =
    passes-none c.args.pending.now _ c.args.whole.now.items _ None refl refl
    (joins c.args.pending.now _ c.in-Continues.size c.requires.is_pending c.requires.at_box_end (sym (rw (take_rest, c.deref.ensures.value) at c.in-Continues.ensures)) refl refl)

pub returns-in_ok-reserve-in-Ends-clause-ok : goal.returns-in_ok-reserve-in-Ends-clause-ok
returns-in_ok-reserve-in-Ends-clause-ok c =
    let fresh = c.replace-bytes.ensures.after in
    let whole = ends c.args.pending.now (record { kind = c.in-Ends.kind; bytes = c.replace-bytes.result.bytes }) c.in-Ends.size c.requires.is_pending c.requires.at_box_end
    (sym (rw (take_rest, c.deref.ensures.value) at c.in-Ends.ensures)) (ap (λ b. b.bytes.items) c.replace-bytes.ensures.value) in
    passes-one c.args.pending.now c.replace-bytes.new.dest c.args.whole.now.items c.push_back_reserved.new.self.items _
    (ap (λ b. b.bytes.items) c.replace-bytes.ensures.value) whole
    (ap (λ b. b.bytes.items) fresh ∙ c.empty.ensures.bytes)
    (c.push_back_reserved.ensures.items ∙ ap (λ ws. ws ++ record { kind = c.in-Ends.kind; bytes = c.replace-bytes.result.bytes } ∷ []) c.in_ok-reserve-in-Ends.ensures.items)
    (waits-start c.replace-bytes.new.dest (ap (λ b. b.bytes.items) fresh ∙ c.empty.ensures.bytes) (ap (λ b. b.at) fresh ∙ c.empty.ensures.at) (ap (λ b. b.has_moof) fresh ∙ c.empty.ensures.has_moof))

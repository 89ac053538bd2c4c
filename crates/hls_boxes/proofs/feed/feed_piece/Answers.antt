-- Each round appends bytes up to the end of the next box at most, and then examines that box; after a fault the rest is appended.
use Rattle.std.proofs.Common.{ℕ, ◌<◌, Option, Some, None, List, [], ◌++◌, length, ◌∙◌, append-nil, arith, refl, subst, sym}
use Rattle.std.proofs.lemmas.List.{take_rest}
use Rattle.hls_boxes.specs.declared.fault.BoxFault.{BoxFault}
use Rattle.hls_boxes.specs.declared.pending_part.PendingPart.{PendingPart}
use Rattle.hls_boxes.specs.Feed.{AppendsPiece}
use Rattle.hls_boxes.proofs.IntakeLaws.{adds, any_error, at_box_end-grown, not_empty, piece-is, takes-more, takes-nothing, takes-rest, wants-some}
use Rattle.hls_boxes.proofs.feed.feed_piece.Goals as goal

pub loop-rest-init : goal.loop-rest-init
loop-rest-init c = ([], refl, takes-nothing c.args.pending.now c.args.whole.now.items c.requires)

pub finish_box-requires-clause-at_box_end : goal.finish_box-requires-clause-at_box_end
finish_box-requires-clause-at_box_end c =
    let missing = rw (take_rest, c.deref.ensures.value) at c.count_missing_bytes-missing.ensures in
    at_box_end-grown c.loop-rest.pending (record { bytes = c.append_bytes.new.bytes; at = c.loop-rest.pending.at; has_moof = c.loop-rest.pending.has_moof }) c.split_at.result.0.now c.in_ok-append_bytes.ensures.ok refl refl c.loop-rest.invariant.2.pending_is
    (omega (arith, c.split_at.ensures.front_len, c.min.ensures, missing))

pub returns-in_err-extend_from_slice-clause-err : goal.returns-in_err-extend_from_slice-clause-err
returns-in_err-extend_from_slice-clause-err c =
    let grown : PendingPart = record { bytes = c.append_bytes.new.bytes; at = c.loop-rest.pending.at; has_moof = c.loop-rest.pending.has_moof } in
    let kept : PendingPart = record { bytes = c.extend_from_slice.new.self; at = c.finish_box.new.pending.at; has_moof = c.finish_box.new.pending.has_moof } in
    let t = takes-more c.args.pending.now c.loop-rest.pending grown c.finish_box.new.pending c.args.whole.now.items c.loop-rest.whole.items c.finish_box.new.whole.items c.loop-rest.invariant.0 c.split_at.result.0.now
    (Some c.in-Some.fault) c.loop-rest.invariant.2 c.in_ok-append_bytes.ensures.ok (subst (λ (o : Option BoxFault). AppendsPiece grown c.loop-rest.whole.items [] o c.finish_box.new.pending c.finish_box.new.whole.items) c.in-Some.is c.in_ok-fault.ensures.ok) in
    any_error c.from_residual-in_err-extend_from_slice.result
    (adds c.args.pending.now kept c.args.whole.now.items c.finish_box.new.whole.items _ (Some c.in-Some.fault)
    (takes-rest c.args.pending.now c.finish_box.new.pending kept c.args.whole.now.items c.finish_box.new.whole.items (c.loop-rest.invariant.0 ++ c.split_at.result.0.now) [] c.in-Some.fault t
    (c.in_err-extend_from_slice.ensures.items ∙ sym (append-nil c.finish_box.new.pending.bytes.items))))

pub returns-in-Some-clause-ok : goal.returns-in-Some-clause-ok
returns-in-Some-clause-ok c =
    let grown : PendingPart = record { bytes = c.append_bytes.new.bytes; at = c.loop-rest.pending.at; has_moof = c.loop-rest.pending.has_moof } in
    let kept : PendingPart = record { bytes = c.extend_from_slice.new.self; at = c.finish_box.new.pending.at; has_moof = c.finish_box.new.pending.has_moof } in
    let t = takes-more c.args.pending.now c.loop-rest.pending grown c.finish_box.new.pending c.args.whole.now.items c.loop-rest.whole.items c.finish_box.new.whole.items c.loop-rest.invariant.0 c.split_at.result.0.now
    (Some c.in-Some.fault) c.loop-rest.invariant.2 c.in_ok-append_bytes.ensures.ok (subst (λ (o : Option BoxFault). AppendsPiece grown c.loop-rest.whole.items [] o c.finish_box.new.pending c.finish_box.new.whole.items) c.in-Some.is c.in_ok-fault.ensures.ok) in
    let is = piece-is c.args.piece.now c.loop-rest.invariant.0 c.loop-rest.rest.now c.split_at.result.0.now c.split_at.result.1.now c.min.result c.loop-rest.invariant.1 c.split_at.ensures.front c.split_at.ensures.back in
    subst (λ (xs : List ℕ). AppendsPiece c.args.pending.now c.args.whole.now.items xs (Some c.in-Some.fault) kept c.finish_box.new.whole.items) (sym is)
    (takes-rest c.args.pending.now c.finish_box.new.pending kept c.args.whole.now.items c.finish_box.new.whole.items (c.loop-rest.invariant.0 ++ c.split_at.result.0.now) c.split_at.result.1.now c.in-Some.fault t
    c.in_ok-extend_from_slice.ensures.items)

pub loop-rest-smaller : goal.loop-rest-smaller
loop-rest-smaller c =
    let missing = rw (take_rest, c.deref.ensures.value) at c.count_missing_bytes-missing.ensures in
    let some = wants-some c.loop-rest.pending c.loop-rest.invariant.2.pending_is in
    let smaller : length c.split_at.result.1.now < length c.loop-rest.rest.now = omega (arith, c.split_at.ensures.back_len, c.min.ensures, missing, some, not_empty c.loop-rest.rest.now c.loop-rest-test.ensures) in
    smaller

pub loop-rest-preserved : goal.loop-rest-preserved
loop-rest-preserved c =
    let grown : PendingPart = record { bytes = c.append_bytes.new.bytes; at = c.loop-rest.pending.at; has_moof = c.loop-rest.pending.has_moof } in (
      c.loop-rest.invariant.0 ++ c.split_at.result.0.now,
      piece-is c.args.piece.now c.loop-rest.invariant.0 c.loop-rest.rest.now c.split_at.result.0.now c.split_at.result.1.now c.min.result c.loop-rest.invariant.1 c.split_at.ensures.front c.split_at.ensures.back,
      takes-more c.args.pending.now c.loop-rest.pending grown c.finish_box.new.pending c.args.whole.now.items c.loop-rest.whole.items c.finish_box.new.whole.items c.loop-rest.invariant.0 c.split_at.result.0.now
          None c.loop-rest.invariant.2 c.in_ok-append_bytes.ensures.ok (subst (λ (o : Option BoxFault). AppendsPiece grown c.loop-rest.whole.items [] o c.finish_box.new.pending c.finish_box.new.whole.items) c.in_default.is c.in_ok-fault.ensures.ok),
    )

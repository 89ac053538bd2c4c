-- The head of a unit ends with the header of an `mdat` that reaches the unit's end; whole boxes before it are passed over.
-- If a header can't be read, a box doesn't fit, or no bytes are left, the unit has no head.
use Rattle.std.proofs.Common.{◌∙◌, ◌-◌, length, take, drop, refl, sym, ap, arith}
use Rattle.std.proofs.lemmas.Bool.{eqb-true, eq-eqb}
use Rattle.hls_boxes.specs.Boxes.{header_at}
use Rattle.hls_boxes.specs.Kinds.{mdat_type}
use Rattle.hls_journal.proofs.NoHead.{search_begins, search_passes, no_header, no_box_there, no_more, rest_is}
use Rattle.hls_journal.proofs.HeadSearch.{head_found}
use Rattle.hls_journal.proofs.unit_head.find_head_len.Goals as goal
use Rattle.hls_journal.proofs.unit_head.find_head_len.Goals.{then-header-via-then-header, then-header-via-else-header+then-rest-header, else-header-eq-MDAT-via-then-header-eq-MDAT+else-header-rest, else-header-eq-MDAT-via-else-header-eq-MDAT}

pub boxes-init : goal.boxes-init
boxes-init c = search_begins c.args.unit.now

pub returns-in_default : goal.returns-in_default
returns-in_default c =
    no_header c.args.unit.now (take (length c.args.unit.now - c.boxes.at) (drop c.boxes.at c.args.unit.now)) c.boxes.at refl c.boxes.invariant (sym c.read.ensures.value ∙ c.in_default.is)

pub returns-then-header : goal.returns-then-header
returns-then-header c =
    no_box_there c.args.unit.now (take (length c.args.unit.now - c.boxes.at) (drop c.boxes.at c.args.unit.now)) c.boxes.at c.in-Some.header refl c.boxes.invariant (sym c.read.ensures.value ∙ c.in-Some.is)
    (λ fits within. elim c.then-header.branch [
      | then-header-via-then-header w ↦ omega (arith, fits, w.if-header.true)
      | then-header-via-else-header+then-rest-header w ↦ omega (arith, within, w.if-rest-header.true)
    ])

pub returns-then-header-rest : goal.returns-then-header-rest
returns-then-header-rest c =
    let unit = c.args.unit.now in
    let same = rest_is c.args.unit.now c.boxes.at in
    head_found unit c.boxes.at c.in-Some.header.head c.in-Some.header c.boxes.invariant.boxes
    (ap (λ t. header_at t) (sym same) ∙ sym c.read.ensures.value ∙ c.in-Some.is)
    refl (eq-eqb c.in-Some.header.kind mdat_type c.if-header-eq-MDAT.true) (omega (arith, c.if-header.false)) (c.if-header-rest.true ∙ ap length same)

pub boxes-preserved : goal.boxes-preserved
boxes-preserved c =
    search_passes c.args.unit.now (take (length c.args.unit.now - c.boxes.at) (drop c.boxes.at c.args.unit.now)) c.boxes.at c.in-Some.header refl c.boxes.invariant (sym c.read.ensures.value ∙ c.in-Some.is)
    (omega (arith, c.if-header.false)) (omega (arith, c.if-rest-header.false))
    (λ kind whole. elim c.else-header-eq-MDAT.branch [
      | else-header-eq-MDAT-via-then-header-eq-MDAT+else-header-rest w ↦ w.if-header-rest.false whole
      | else-header-eq-MDAT-via-else-header-eq-MDAT w ↦ w.if-header-eq-MDAT.false (eqb-true c.in-Some.header.kind mdat_type kind)
    ])

pub returns : goal.returns
returns c = no_more c.args.unit.now c.boxes.at c.boxes.invariant (omega (arith, c.boxes-test.false))

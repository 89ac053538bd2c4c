-- One box is one step of the walk (`over-next`), and takes at most the given number of fields for each of its bytes (`counted-more`).
use Rattle.std.proofs.Common.{slice_range, ◌≡◌, ℕ, ◌+◌, ◌-◌, ◌^◌, ◌<◌, ◌≤◌, length, drop, Some, None, sym, ◌∙◌, arith}
use Rattle.std.proofs.lemmas.Bool.Decides.{nat_tests}
use Rattle.std.proofs.lemmas.List.{take_rest, length-drop}
use Rattle.hls_media.proofs.Counts.{counted-all, counted-more, counted-below, room-for-content}
use Rattle.hls_media.proofs.Overs.{over-bad, over-next, over-end}
use Rattle.hls_media.proofs.Slices.{slice-length}
use Rattle.hls_media.proofs.box_visitor.visit_boxes.Goals as goal

pub read_box_header-requires : goal.read_box_header-requires
read_box_header-requires g c =
    let few = counted-below g.G.BoxVisitor.fields c.args.content.now c.boxes.rest.now c.args.ticks.now c.boxes.ticks (2 ^ 62 + 2 ^ 60) c.boxes.invariant.within c.requires.room c.boxes.invariant.counted in
    omega (arith, few)

pub returns-in_default-clause-value : goal.returns-in_default-clause-value
returns-in_default-clause-value g c =
    let some : 0 < length c.boxes.rest.now = grind (arith, nat_tests) in
    sym (c.boxes.invariant.value ∙ over-bad (g.G.BoxVisitor.step c.args.visitor.now) Some c.boxes.state c.boxes.rest.now some (sym c.read_box_header.ensures.value ∙ c.in_default.is))

pub visit_box-requires-clause-known : goal.visit_box-requires-clause-known
visit_box-requires-clause-known g c =
    g.met.G.BoxVisitor.stays_known c.args.visitor.now (length c.args.content.now - length c.boxes.rest.now) (2 ^ 26) c.boxes.state (omega (arith, c.requires.len)) c.boxes.invariant.known

pub visit_box-requires-clause-room : goal.visit_box-requires-clause-room
visit_box-requires-clause-room g c =
    room-for-content g.G.BoxVisitor.fields c.args.content.now c.boxes.rest.now c.in-Some.header c.args.ticks.now c.boxes.ticks c.read_box_header.new.ticks (2 ^ 62 + 2 ^ 60) g.met.G.BoxVisitor.some c.in-Some.ensures.within c.boxes.invariant.within c.requires.room c.boxes.invariant.counted c.read_box_header.ensures.few

pub returns-in_default-visit_box-clause-value : goal.returns-in_default-visit_box-clause-value
returns-in_default-visit_box-clause-value g c =
    let some : 0 < length c.boxes.rest.now = grind (arith, nat_tests) in
    let value : c.visit_box.result ≡ g.G.BoxVisitor.step c.args.visitor.now c.boxes.state c.in-Some.header.kind (slice_range c.boxes.rest.now c.in-Some.header.head c.in-Some.header.size) = c.visit_box.ensures.value in
    let stepped : g.G.BoxVisitor.step c.args.visitor.now c.boxes.state c.in-Some.header.kind (slice_range c.boxes.rest.now c.in-Some.header.head c.in-Some.header.size) ≡ None = sym value ∙ c.in_default-visit_box.is in
    sym (c.boxes.invariant.value ∙ over-next (g.G.BoxVisitor.step c.args.visitor.now) Some c.boxes.state c.boxes.rest.now c.in-Some.header None some (sym c.read_box_header.ensures.value ∙ c.in-Some.is) stepped)

pub returns-in_default-visit_box-clause-counted : goal.returns-in_default-visit_box-clause-counted
returns-in_default-visit_box-clause-counted g c =
    let on : length c.args.content.now - length (drop c.in-Some.header.size c.boxes.rest.now) ≤ length c.args.content.now = omega arith in
    counted-all g.G.BoxVisitor.fields (length c.args.content.now - length (drop c.in-Some.header.size c.boxes.rest.now)) (length c.args.content.now) c.args.ticks.now c.visit_box.new.ticks on
    (counted-more g.G.BoxVisitor.fields c.args.content.now c.boxes.rest.now c.in-Some.header c.args.ticks.now c.boxes.ticks c.read_box_header.new.ticks c.visit_box.new.ticks g.met.G.BoxVisitor.some c.in-Some.ensures.within c.boxes.invariant.within c.boxes.invariant.counted c.read_box_header.ensures.rises c.read_box_header.ensures.few c.visit_box.ensures.counted)

pub boxes-preserved : goal.boxes-preserved
boxes-preserved g c =
    let some : 0 < length c.boxes.rest.now = grind (arith, nat_tests) in
    let walked : ℕ = length c.args.content.now - length c.boxes.rest.now in
    let value : c.visit_box.result ≡ g.G.BoxVisitor.step c.args.visitor.now c.boxes.state c.in-Some.header.kind (slice_range c.boxes.rest.now c.in-Some.header.head c.in-Some.header.size) = c.visit_box.ensures.value in
    let stepped : g.G.BoxVisitor.step c.args.visitor.now c.boxes.state c.in-Some.header.kind (slice_range c.boxes.rest.now c.in-Some.header.head c.in-Some.header.size) ≡ Some c.in-Some-visit_box.next = sym value ∙ c.in-Some-visit_box.is in
    let inside = slice-length c.boxes.rest.now c.in-Some.header.head c.in-Some.header.size c.in-Some.ensures.within.0 c.in-Some.ensures.within.1 in
    rw (take_rest c.boxes.rest.now c.in-Some.header.size)
    (record {
      value = c.boxes.invariant.value ∙ over-next (g.G.BoxVisitor.step c.args.visitor.now) Some c.boxes.state c.boxes.rest.now c.in-Some.header (Some c.in-Some-visit_box.next) some (sym c.read_box_header.ensures.value ∙ c.in-Some.is) stepped;
      known = g.met.G.BoxVisitor.stays_known c.args.visitor.now (walked + 8 + length (slice_range c.boxes.rest.now c.in-Some.header.head c.in-Some.header.size)) (length c.args.content.now - length (drop c.in-Some.header.size c.boxes.rest.now)) c.in-Some-visit_box.next
          (omega (arith, c.boxes.invariant.within, c.in-Some.ensures.within.0, c.in-Some.ensures.within.1, c.in-Some.ensures.within.2, length-drop c.in-Some.header.size c.boxes.rest.now, inside))
          (c.in-Some-visit_box.ensures.known walked c.boxes.invariant.known);
      within = omega (arith, c.boxes.invariant.within, length-drop c.in-Some.header.size c.boxes.rest.now);
      counted = counted-more g.G.BoxVisitor.fields c.args.content.now c.boxes.rest.now c.in-Some.header c.args.ticks.now c.boxes.ticks c.read_box_header.new.ticks c.visit_box.new.ticks g.met.G.BoxVisitor.some c.in-Some.ensures.within c.boxes.invariant.within c.boxes.invariant.counted c.read_box_header.ensures.rises c.read_box_header.ensures.few c.visit_box.ensures.counted;
    })

pub returns-clause-value : goal.returns-clause-value
returns-clause-value g c =
    let none : length c.boxes.rest.now ≡ 0 = grind (arith, nat_tests) in
    sym (c.boxes.invariant.value ∙ over-end (g.G.BoxVisitor.step c.args.visitor.now) Some c.boxes.state c.boxes.rest.now none)

pub returns-clause-known : goal.returns-clause-known
returns-clause-known g c =
    let all : length c.args.content.now - length c.boxes.rest.now ≡ length c.args.content.now = grind (arith, nat_tests) in
    rw all at c.boxes.invariant.known

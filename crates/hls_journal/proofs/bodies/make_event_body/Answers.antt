-- The body that is made is that of the event. The cases are the kinds of events: begin, accept, finish, slide and trim.
use Rattle.std.proofs.Common.{◌∙◌, ◌++◌, ℕ, List, ap, subst, arith, Vec, Global}
use Rattle.std.proofs.lemmas.Result.{IfOk-weaker}
use Rattle.hls_journal.specs.Bodies.{IsUnitBody}
use Rattle.hls_journal.proofs.Started.{begin_body_of, accept_body_of, finish_body_of, slide_body_of, trim_body_of}
use Rattle.hls_journal.proofs.bodies.make_event_body.Goals as goal

pub returns-in_ok-extend_from_slice-in-Begin : goal.returns-in_ok-extend_from_slice-in-Begin
returns-in_ok-extend_from_slice-in-Begin c =
    begin_body_of c.args.at c.args.by c.args.event.now c.in-Begin.rendition c.in_ok-body-in-Begin.body.items c.in-Begin.bytes c.extend_from_slice.new.self.items c.in-Begin.init c.in-Begin.is
    c.in_ok-body-in-Begin.ensures
    (c.in_ok-extend_from_slice-in-Begin.ensures.items ∙ ap (λ xs. c.in_ok-body-in-Begin.body.items ++ xs) c.deref.ensures)
    (omega (arith, c.ranges.by.fits))

pub returns-in-Accept : goal.returns-in-Accept
returns-in-Accept c =
    IfOk-weaker _ _ _
    (λ (body : Vec ℕ Global) u. accept_body_of c.args.at c.args.by c.args.event.now c.in-Accept.rendition c.in-Accept.bytes body.items c.in-Accept.facts c.in-Accept.is
    (subst (λ (xs : List ℕ). IsUnitBody c.args.by c.in-Accept.rendition c.args.at xs body.items) c.deref-in-Accept.ensures u) (omega (arith, c.ranges.by.fits)))
    c.make_unit_body.ensures

pub returns-in-Finish : goal.returns-in-Finish
returns-in-Finish c =
    IfOk-weaker _ _ _
    (λ (body : Vec ℕ Global) is. finish_body_of c.args.at c.args.by c.args.event.now c.in-Finish.rendition body.items c.in-Finish.is is (omega (arith, c.ranges.by.fits)))
    c.begin_body-in-Finish.ensures

pub returns-in-Slide : goal.returns-in-Slide
returns-in-Slide c =
    IfOk-weaker _ _ _
    (λ (body : Vec ℕ Global) is. slide_body_of c.args.at c.args.by c.args.event.now c.in-Slide.count body.items c.in-Slide.is is (omega (arith, c.ranges.by.fits)) c.make_number_body.ensures.fits)
    c.make_number_body.ensures.body

pub returns-in-Trim : goal.returns-in-Trim
returns-in-Trim c =
    IfOk-weaker _ _ _
    (λ (body : Vec ℕ Global) is. trim_body_of c.args.at c.args.by c.args.event.now c.in-Trim.rendition c.in-Trim.floor body.items c.in-Trim.is is (omega (arith, c.ranges.by.fits)) c.make_number_body-in-Trim.ensures.fits)
    c.make_number_body-in-Trim.ensures.body

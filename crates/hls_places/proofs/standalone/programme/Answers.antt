-- The programme begins at the last place at or before the start, and ends at the first one at or after the stop. Without one of these places,
-- or with too many between, there is none.
use Rattle.std.proofs.Common.{◌≡◌, ◌-◌, List, map, Ok, Err, arith, refl, sym, ap, subst, Result, Bor}
use Rattle.std.specs.Result.{IsErrAnd}
use Rattle.std.proofs.lemmas.List.{length-map}
use Rattle.hls_check_tables.specs.Tables.{Table}
use Rattle.hls_places_laws.specs.declared.place.Place.{Place}
use Rattle.hls_places_laws.specs.declared.fault.ProgrammeFault.{ProgrammeFault}
use Rattle.hls_places_laws.specs.declared.fault.ProgrammeFault.TheVariants.{Memory}
use Rattle.hls_places_laws.specs.Firsts.{first_after, first_from}
use Rattle.hls_places_laws.specs.Programmes.{StopsLate, table_between, IsProgramme}
use Rattle.hls_places.proofs.Cited.{start-before_stop, none-by, stops-late, programme-fits, programme-too_long}
use Rattle.hls_places.proofs.standalone.programme.Goals as goal
use Rattle.hls_places.proofs.standalone.programme.Goals.{then-finished, else-finished}

pub overflow_sub-to : goal.overflow_sub-to
overflow_sub-to c =
    let count = length-map c.args.places.now (λ p. p.now) in
    let order = start-before_stop c.args.start_us c.args.stop_us (map (λ p. p.now) c.args.places.now) c.requires.order
    (omega (arith, count, c.first_from-to.ensures)) in
    omega (arith, order, c.first_after-after.ensures, c.first_from-to.ensures)

pub build_table-requires-clause-order : goal.build_table-requires-clause-order
build_table-requires-clause-order c =
    let count = length-map c.args.places.now (λ p. p.now) in
    let order = start-before_stop c.args.start_us c.args.stop_us (map (λ p. p.now) c.args.places.now) c.requires.order
    (omega (arith, count, c.first_from-to.ensures)) in
    omega (arith, order, c.first_after-after.ensures, c.first_from-to.ensures)

pub returns-then-after-eq0 : goal.returns-then-after-eq0
returns-then-after-eq0 c =
    none-by (map (λ p. p.now) c.args.places.now) c.requires.places c.args.start_us (omega (arith, c.first_after-after.ensures, c.if-after-eq0.true))

pub returns-then-places-to : goal.returns-then-places-to
returns-then-places-to c =
    let places : List Place = map (λ (p : Bor Place). p.now) c.args.places.now in
    let count = length-map c.args.places.now (λ (p : Bor Place). p.now) in
    let late : StopsLate places c.args.start_us c.args.stop_us =
    stops-late places c.requires.places c.args.start_us c.args.stop_us (omega (arith, c.first_after-after.ensures, c.if-after-eq0.false))
    (omega (arith, count, c.first_from-to.ensures, c.if-places-to.true)) in
    let P : ProgrammeFault → Type 0 = λ fault. IsProgramme c.args.goal places c.args.finished c.args.start_us c.args.stop_us (Err fault) in
    elim c.if-finished.branch [
      | then-finished w ↦ subst P (sym w.result-is) (late, w.if-finished.true)
      | else-finished w ↦ subst P (sym w.result-is) (late, w.if-finished.false)
    ]

pub returns-then-to-from-gt-PLACE_LIMIT : goal.returns-then-to-from-gt-PLACE_LIMIT
returns-then-to-from-gt-PLACE_LIMIT c =
    let count = length-map c.args.places.now (λ p. p.now) in
    programme-too_long c.args.goal (map (λ p. p.now) c.args.places.now) c.requires.places c.args.start_us c.args.stop_us c.requires.order
    (omega (arith, c.first_after-after.ensures, c.if-after-eq0.false)) (omega (arith, count, c.first_from-to.ensures, c.if-places-to.false))
    (omega (arith, c.first_after-after.ensures, c.first_from-to.ensures, c.if-to-from-gt-PLACE_LIMIT.true))

-- a result that is an error, and no other error than an allocation failure, is that failure
only_memory : (r : Result Table ProgrammeFault) → IsErrAnd r (λ e. e ≡ Memory) → r ≡ Err Memory
only_memory (Ok t) is = absurd is
only_memory (Err e) is = ap (λ (x : ProgrammeFault). Err x) is

pub returns-in_err-build_table : goal.returns-in_err-build_table
returns-in_err-build_table c =
    let places : List Place = map (λ (p : Bor Place). p.now) c.args.places.now in
    let count = length-map c.args.places.now (λ (p : Bor Place). p.now) in
    let t : Table = table_between c.args.goal places (first_after c.args.start_us places - 1) (first_from c.args.stop_us places) in
    let fits = programme-fits c.args.goal places c.requires.places c.args.start_us c.args.stop_us c.requires.order
    (omega (arith, c.first_after-after.ensures, c.if-after-eq0.false)) (omega (arith, count, c.first_from-to.ensures, c.if-places-to.false))
    (omega (arith, c.first_after-after.ensures, c.first_from-to.ensures, c.if-to-from-gt-PLACE_LIMIT.false)) t refl in
    let e : c.from_residual.result ≡ Err Memory = only_memory c.from_residual.result c.from_residual.ensures.1 in
    subst (λ (r : Result Table ProgrammeFault). IsProgramme c.args.goal places c.args.finished c.args.start_us c.args.stop_us r) (sym e)
    (t, fits.0, fits.1)

pub returns : goal.returns
returns c =
    let places : List Place = map (λ (p : Bor Place). p.now) c.args.places.now in
    let count = length-map c.args.places.now (λ (p : Bor Place). p.now) in
    let is : c.in_ok-build_table.field-0 ≡ table_between c.args.goal places (first_after c.args.start_us places - 1) (first_from c.args.stop_us places) =
    rw (← c.first_after-after.ensures, ← c.first_from-to.ensures) c.in_ok-build_table.ensures in
    programme-fits c.args.goal places c.requires.places c.args.start_us c.args.stop_us c.requires.order
    (omega (arith, c.first_after-after.ensures, c.if-after-eq0.false)) (omega (arith, count, c.first_from-to.ensures, c.if-places-to.false))
    (omega (arith, c.first_after-after.ensures, c.first_from-to.ensures, c.if-to-from-gt-PLACE_LIMIT.false)) c.in_ok-build_table.field-0 is

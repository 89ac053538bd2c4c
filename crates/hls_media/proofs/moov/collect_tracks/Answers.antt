-- Each box is one step of the walk by its type: `trak` by `visitor-trak`, `mvex` by `visitor-mvex`, others by `visitor-other`.
use Rattle.std.proofs.Common.{rules, tests, slice_range, ◌≡◌, ◌+◌, ◌-◌, ◌<◌, length, Some, None, refl, sym, ◌∙◌, arith}
use Rattle.std.proofs.lemmas.Bool.Decides.{nat_tests}
use Rattle.std.proofs.lemmas.List.{take_rest, length-drop}
use Rattle.std.specs.Option.{option_or}
use Rattle.hls_media_laws.specs.Inits.{track_at}
use Rattle.hls_media.specs.MoovSteps.{moov_step, contents_with}
use Rattle.hls_media.proofs.Overs.{over-bad, over-next, over-end}
use Rattle.hls_media.proofs.Slices.{slice-length}
use Rattle.hls_media.proofs.UnitLaws.{rest-more}
use Rattle.hls_media.proofs.GatherLaws.{added-len, visitor-trak, visitor-trak-bad, visitor-mvex, visitor-other, span-within}
use Rattle.hls_media.proofs.moov.collect_tracks.Goals as goal

pub returns-in_default-clause-value : goal.returns-in_default-clause-value
returns-in_default-clause-value c =
    let some : 0 < length c.boxes.rest.now = grind (arith, nat_tests) in
    c.boxes.invariant.value ∙ over-bad moov_step Some (contents_with c.args.moov.now c.boxes.ids c.boxes.tracks c.boxes.mvex) c.boxes.rest.now some (sym c.read_uncounted_box_header.ensures.value ∙ c.in_default.is)

pub returns-then-not-add_track-clause-value : goal.returns-then-not-add_track-clause-value
returns-then-not-add_track-clause-value c =
    let some : 0 < length c.boxes.rest.now = grind (arith, nat_tests) in
    c.boxes.invariant.value ∙ over-next moov_step Some (contents_with c.args.moov.now c.boxes.ids c.boxes.tracks c.boxes.mvex) c.boxes.rest.now c.in-Some.header None some (sym c.read_uncounted_box_header.ensures.value ∙ c.in-Some.is)
    (visitor-trak-bad c.args.moov.now c.boxes.ids c.boxes.tracks c.boxes.mvex c.boxes.rest.now c.in-Some.header c.add_track.new.ids c.add_track.new.tracks c.in-1953653099.is c.if-not-add_track.ensures.value)

pub boxes-preserved-in-1953653099 : goal.boxes-preserved-in-1953653099
boxes-preserved-in-1953653099 c =
    let some : 0 < length c.boxes.rest.now = grind (arith, nat_tests) in
    rw (take_rest c.boxes.rest.now c.in-Some.header.size)
    (record {
      value = c.boxes.invariant.value ∙ over-next moov_step Some (contents_with c.args.moov.now c.boxes.ids c.boxes.tracks c.boxes.mvex) c.boxes.rest.now c.in-Some.header (Some (contents_with c.args.moov.now c.add_track.new.ids c.add_track.new.tracks c.boxes.mvex)) some (sym c.read_uncounted_box_header.ensures.value ∙ c.in-Some.is)
          (visitor-trak c.args.moov.now c.boxes.ids c.boxes.tracks c.boxes.mvex c.boxes.rest.now c.in-Some.header c.add_track.new.ids c.add_track.new.tracks c.in-1953653099.is c.if-not-add_track.ensures.value);
      room = omega (
        arith,
        c.boxes.invariant.room,
        c.boxes.invariant.within,
        c.in-Some.ensures.within.0,
        c.in-Some.ensures.within.1,
        c.in-Some.ensures.within.2,
        c.if-not-add_track.ensures.least refl,
        length-drop c.in-Some.header.size c.boxes.rest.now,
        slice-length c.boxes.rest.now c.in-Some.header.head c.in-Some.header.size c.in-Some.ensures.within.0 c.in-Some.ensures.within.1,
        added-len (track_at (slice_range c.boxes.rest.now c.in-Some.header.head c.in-Some.header.size)) c.boxes.ids c.boxes.tracks c.add_track.new.ids c.add_track.new.tracks c.if-not-add_track.ensures.value,
      );
      within = omega (arith, c.boxes.invariant.within, length-drop c.in-Some.header.size c.boxes.rest.now);
      rest_is = rest-more c.args.moov.now c.boxes.rest.now c.in-Some.header.size c.boxes.invariant.rest_is c.boxes.invariant.within c.in-Some.ensures.within.1;
      mvex_is = c.boxes.invariant.mvex_is;
    })

pub boxes-preserved-in-1836475768 : goal.boxes-preserved-in-1836475768
boxes-preserved-in-1836475768 c =
    let some : 0 < length c.boxes.rest.now = grind (arith, nat_tests) in
    rw (take_rest c.boxes.rest.now c.in-Some.header.size, c.or-mvex.ensures)
    (record {
      value = c.boxes.invariant.value ∙ over-next moov_step Some (contents_with c.args.moov.now c.boxes.ids c.boxes.tracks c.boxes.mvex) c.boxes.rest.now c.in-Some.header
          (Some (contents_with c.args.moov.now c.boxes.ids c.boxes.tracks (option_or c.boxes.mvex (Some (record { from = length c.args.moov.now - length c.boxes.rest.now + c.in-Some.header.head; to = length c.args.moov.now - length c.boxes.rest.now + c.in-Some.header.size })))))
          some (sym c.read_uncounted_box_header.ensures.value ∙ c.in-Some.is)
          (visitor-mvex c.args.moov.now c.boxes.ids c.boxes.tracks c.boxes.mvex c.boxes.rest.now c.in-Some.header c.in-1836475768.is c.boxes.invariant.rest_is);
      room = omega (arith, c.boxes.invariant.room, length-drop c.in-Some.header.size c.boxes.rest.now);
      within = omega (arith, c.boxes.invariant.within, length-drop c.in-Some.header.size c.boxes.rest.now);
      rest_is = rest-more c.args.moov.now c.boxes.rest.now c.in-Some.header.size c.boxes.invariant.rest_is c.boxes.invariant.within c.in-Some.ensures.within.1;
      mvex_is = span-within c.boxes.mvex (record { from = length c.args.moov.now - length c.boxes.rest.now + c.in-Some.header.head; to = length c.args.moov.now - length c.boxes.rest.now + c.in-Some.header.size }) (length c.args.moov.now) c.boxes.invariant.mvex_is (omega (arith, c.in-Some.ensures.within.0)) (omega (arith, c.boxes.invariant.within, c.in-Some.ensures.within.1));
    })

pub boxes-preserved : goal.boxes-preserved
boxes-preserved c =
    let some : 0 < length c.boxes.rest.now = grind (arith, nat_tests) in
    rw (take_rest c.boxes.rest.now c.in-Some.header.size)
    (record {
      value = c.boxes.invariant.value ∙ over-next moov_step Some (contents_with c.args.moov.now c.boxes.ids c.boxes.tracks c.boxes.mvex) c.boxes.rest.now c.in-Some.header (Some (contents_with c.args.moov.now c.boxes.ids c.boxes.tracks c.boxes.mvex)) some (sym c.read_uncounted_box_header.ensures.value ∙ c.in-Some.is)
          (visitor-other c.args.moov.now c.boxes.ids c.boxes.tracks c.boxes.mvex c.boxes.rest.now c.in-Some.header (search (rules, tests)) (search (rules, tests)));
      room = omega (arith, c.boxes.invariant.room, length-drop c.in-Some.header.size c.boxes.rest.now);
      within = omega (arith, c.boxes.invariant.within, length-drop c.in-Some.header.size c.boxes.rest.now);
      rest_is = rest-more c.args.moov.now c.boxes.rest.now c.in-Some.header.size c.boxes.invariant.rest_is c.boxes.invariant.within c.in-Some.ensures.within.1;
      mvex_is = c.boxes.invariant.mvex_is;
    })

pub returns-clause-value : goal.returns-clause-value
returns-clause-value c =
    let none : length c.boxes.rest.now ≡ 0 = grind (arith, nat_tests) in
    c.boxes.invariant.value ∙ over-end moov_step Some (contents_with c.args.moov.now c.boxes.ids c.boxes.tracks c.boxes.mvex) c.boxes.rest.now none

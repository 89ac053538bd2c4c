-- The parts of a unit as contracts see them: lists in the place of slices and vectors.
use Rattle.hls_mend_laws.specs.Fragments.{Fragment}
use Rattle.hls_mend_laws.specs.FragmentsRead.{Split, Front, TrafParts, MoofParts, UnitParts}
use Rattle.hls_mend.specs.declared.box_splits.Split as splits
use Rattle.hls_mend.specs.declared.front.Front as fronts
use Rattle.hls_mend.specs.declared.unit_parts.TrafParts as trafs
use Rattle.hls_mend.specs.declared.unit_parts.MoofParts as moofs
use Rattle.hls_mend.specs.declared.unit_parts.UnitParts as units
use Rattle.hls_mend.specs.declared.fragment.Fragment as fragments
use Rattle.hls_mend.specs.declared.write.FragmentParts as writes

-- the view of a box that was split off; below are those of a front, of the parts of a `traf`, a `moof` and a unit, and of a fragment
-- that was read and one that is to be written
abbrev pub split_view : splits.Split → Split
split_view s = record { content = s.content.now; rest = s.rest.now }

abbrev pub front_view : fronts.Front → Front
front_view f = record { kept = f.kept.items; rest = f.rest.now }

abbrev pub traf_view : trafs.TrafParts → TrafParts
traf_view t = record { head = t.head.now; time = t.time.now; run = t.run.now }

abbrev pub moof_view : moofs.MoofParts → MoofParts
moof_view m = record { number = m.number; traf = traf_view m.traf }

abbrev pub unit_view : units.UnitParts → UnitParts
unit_view u = record { front = u.front.items; moof = moof_view u.moof; payload = u.payload.now }

abbrev pub fragment_view : fragments.Fragment → Fragment
fragment_view f = record { front = f.front.items; number = f.number; head = f.head.now; start = f.start; samples = f.samples.items; payload = f.payload.now }

abbrev pub parts_view : writes.FragmentParts → Fragment
parts_view f = record { front = f.front.now; number = f.number; head = f.head.now; start = f.start; samples = f.samples.now; payload = f.payload.now }

-- After one more playlist is made, the lists so far and those of the remaining renditions are still all, and the recordings used so far are
-- valid. So at the end all recordings are.
use Rattle.std.proofs.Common.{◌≤◌, All, Bor, length, arith, subst}
use Rattle.std.proofs.lemmas.List.{take_all}
use Rattle.std.proofs.lemmas.List.Elements.{All-more}
use Rattle.hls_record.specs.RecordingData.{RecordingData}
use Rattle.hls_record.specs.IsRecorded.{IsRecorded}
use Rattle.hls_playlists.proofs.ListLoop.{one_list_more}
use Rattle.hls_playlists.proofs.job_playlists.make_job_lists.Goals as goal

-- a borrowed recording satisfies the invariant of recordings
abbrev pub Good : Bor RecordingData → Type 0
Good r = IsRecorded r.now

pub loop-rendition-preserved : goal.loop-rendition-preserved
loop-rendition-preserved c = record {
  done = rw c.in_ok-push.ensures.items (one_list_more c.args.epoch c.args.recordings.now c.args.table.now c.args.plan.now c.loop-rendition.lists.items c.in_ok-make_job_list.field-0
      c.loop-rendition.rendition c.index-recordings-rendition.result _ (omega arith) c.index-recordings-rendition.is
      c.in_ok-make_job_list.ensures.list c.loop-rendition.invariant.done);
  valid = All-more Good c.args.recordings.now c.loop-rendition.rendition c.index-recordings-rendition.result (omega arith) c.loop-rendition.invariant.valid
      (subst Good c.index-recordings-rendition.is c.in_ok-make_job_list.ensures.valid);
}

pub returns-clause-valid : goal.returns-clause-valid
returns-clause-valid c =
    let past : length c.args.recordings.now ≤ c.loop-rendition.rendition = omega arith in
    subst (All Good) (take_all c.loop-rendition.rendition c.args.recordings.now past) c.loop-rendition.invariant.valid

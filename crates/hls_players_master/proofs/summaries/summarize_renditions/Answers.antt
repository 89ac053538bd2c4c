-- Each rendition with a recording adds its summary; one without a recording leaves no result.
use Rattle.std.proofs.Common.{◌≡◌, ◌<◌, ◌≤◌, length, get_or, arith}
use Rattle.hls_players_master.specs.Summaries.{summaries_of}
use Rattle.hls_players_master.proofs.SummaryLaws.{summaries-missing, summaries-next, summaries-end}
use Rattle.hls_players_master.proofs.summaries.summarize_renditions.Goals as goal

pub renditions-preserved : goal.renditions-preserved
renditions-preserved c =
    let same : c.renditions-renditions.result.now ≡ c.args.snapshot.now.config.renditions = cc in
    let small : c.renditions.number < length c.args.snapshot.now.config.renditions = rw same at c.renditions-test.true in
    let is : c.index-renditions-number.result ≡ get_or c.args.snapshot.now.config.renditions c.renditions.number c.index-renditions-number.result =
    rw same at c.index-renditions-number.is in
    record {
      value = summaries-next c.args.snapshot.now c.renditions.number c.args.snapshot.now.config.renditions c.index-renditions-number.result c.in-Some.recording.now c.renditions.summaries.items
          c.push.new.self.items c.in_ok-summarize.field-0 (summaries_of c.args.snapshot.now) small is c.in-Some.ensures.value c.in_ok-summarize.ensures c.in_ok-push.ensures.items
          c.renditions.invariant.value;
      within = omega arith;
    }

pub returns-in_default : goal.returns-in_default
returns-in_default c =
    let same : c.renditions-renditions.result.now ≡ c.args.snapshot.now.config.renditions = cc in
    let small : c.renditions.number < length c.args.snapshot.now.config.renditions = rw same at c.renditions-test.true in
    summaries-missing c.args.snapshot.now c.renditions.number c.args.snapshot.now.config.renditions c.renditions.summaries.items (summaries_of c.args.snapshot.now) small
    c.in_default.ensures.value c.renditions.invariant.value

pub returns : goal.returns
returns c =
    let same : c.renditions-renditions.result.now ≡ c.args.snapshot.now.config.renditions = cc in
    let done : length c.args.snapshot.now.config.renditions ≤ c.renditions.number = rw same at c.renditions-test.false in
    summaries-end c.args.snapshot.now c.renditions.number c.args.snapshot.now.config.renditions c.renditions.summaries.items (summaries_of c.args.snapshot.now) done c.renditions.invariant.value

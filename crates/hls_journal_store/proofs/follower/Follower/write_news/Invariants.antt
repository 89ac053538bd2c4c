-- Before each round, the log has grown by the records that lead to the follower's position, and the batch is of the next entries.
-- In the mode `Each` what was written survives any crash. Each round comes nearer to the channel's version.
use Rattle.std.proofs.Common.{◌-◌, ◌<◌, ◌≤◌, ◌≡◌}
use Rattle.std.specs.Prelude.{max}
use Rattle.hls_journal_store.specs.declared.sync_mode.SyncMode.TheVariants.{Each}
use Rattle.hls_journal_store.specs.Batches.{IsNext}
use Rattle.hls_journal_store.specs.Followed.{Grows, IsDurable}
use Rattle.hls_journal_store.proofs.follower.Follower.write_news.Given as goal

abbrev pub invariant-batches : goal.invariant-batches
invariant-batches g l =
    (l.self.position.version ≤ max l.fn.self.position.version l.version)
    × (l.self.mode ≡ l.fn.self.mode)
    × Grows l.snapshot l.fn.self.position l.self.position l.fn.self.log.next l.self.log.next l.fn.self.log.end l.self.log.end (g.D.Disk.seen l.fn.self.log.disk) (g.D.Disk.seen l.self.log.disk)
    × (l.fn.self.mode ≡ Each → l.fn.self.position.version < l.self.position.version
    → IsDurable l.snapshot l.fn.self.position l.self.position l.fn.self.log.next l.fn.self.log.end (g.D.Disk.seen l.fn.self.log.disk) (g.D.Disk.may_leave l.self.log.disk))
    × IsNext l.snapshot l.self.position l.batch

abbrev pub decreases-batches : goal.decreases-batches
decreases-batches g l = l.version - l.self.position.version

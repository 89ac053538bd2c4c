-- The bytes that were appended to the buffer are the next ones of the history.
use Rattle.std.proofs.Common.{◌∙◌, ◌++◌, ℕ, List, length, sym, ap, subst}
use Rattle.hls_connection.{specs.Traces.{IsConsistentTrace, IsSuitedTo, history_of}, proofs.HoldLaws.holds_more}
use Rattle.hls_connection.proofs.machine.ConnectionMachine.read_from.Goals as goal

pub returns-clause-ok : goal.returns-clause-ok
returns-clause-ok g c =
    let appends = c.in_ok-count.ensures.appends in
    let is = appends.2 ∙ ap (λ (x : List ℕ). x ++ appends.0) c.reserve.ensures.unread in
    let exchange = c.note_read.ensures c.args.input.now.unread appends.0 (ap (λ (x : List ℕ). length x) c.unread-before.ensures.unread) is in
    (appends.0, appends.1, appends.3, rw appends.1 (ap history_of exchange), appends.4)

pub returns-clause-holds : goal.returns-clause-holds
returns-clause-holds g c = λ h.
    let appends = c.in_ok-count.ensures.appends in
    let is = appends.2 ∙ ap (λ (x : List ℕ). x ++ appends.0) c.reserve.ensures.unread in
    let exchange = c.note_read.ensures c.args.input.now.unread appends.0 (ap (λ (x : List ℕ). length x) c.unread-before.ensures.unread) is in
    subst IsConsistentTrace (sym exchange) (holds_more appends.0 _ c.requires.wants.2 h)

pub returns-clause-suits : goal.returns-clause-suits
returns-clause-suits g c = λ known suits.
    let appends = c.in_ok-count.ensures.appends in
    let is = appends.2 ∙ ap (λ (x : List ℕ). x ++ appends.0) c.reserve.ensures.unread in
    let exchange = c.note_read.ensures c.args.input.now.unread appends.0 (ap (λ (x : List ℕ). length x) c.unread-before.ensures.unread) is in
    subst (IsSuitedTo known) (sym exchange) suits

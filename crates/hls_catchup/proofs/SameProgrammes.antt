-- Requests with the same first and last place have the same table or fault.
use Rattle.std.proofs.Common.{◌≡◌, ◌∙◌, ℕ, Bool, List, Result, Ok, Err, refl, sym, ap, subst, arith, inl, inr}
use Rattle.std.proofs.lemmas.Bool.{cases_lt}
use Rattle.hls_check_tables.specs.declared.goal.Goal.{Goal}
use Rattle.hls_check_tables.specs.Tables.{Table}
use Rattle.hls_places_laws.specs.declared.place.Place.{Place}
use Rattle.hls_places_laws.specs.declared.fault.ProgrammeFault.{ProgrammeFault}
use Rattle.hls_places_laws.specs.declared.fault.ProgrammeFault.TheVariants as programme
use Rattle.hls_places_laws.specs.Programmes.{IsFirstPlaceFrom, IsLastPlaceBy, IsProgramme, IsProgrammeTable, table_between, time_at}
use Rattle.hls_core_laws.specs.State.{State}
use Rattle.hls_core_laws.specs.Places.{kept_places}
use Rattle.hls_catchup.specs.declared.cut_result.CutResult.{CutResult}
use Rattle.hls_catchup.specs.declared.fault.CatchFault.{CatchFault}
use Rattle.hls_catchup.specs.declared.fault.CatchFault.TheVariants.{BadRange, BadPreferred, BadCharge, BeforeRecording, NotYet, AfterRecording, ProgrammeTooLong, Memory}
use Rattle.hls_catchup.specs.declared.request.Request.{Request}
use Rattle.hls_catchup.specs.Canonical.{CanonicalProgrammesAreSame, IsCanonical, IsSameProgramme, with_times}
use Rattle.hls_catchup.specs.Requests.{IsInRange, IsRightAnswer, IsTableFor, all_finished, goal_for}

-- two last places at or before a time are one
one-last : (ks : List Place) (time n m : ℕ) → IsLastPlaceBy ks time n → IsLastPlaceBy ks time m → n ≡ m
one-last ks time n m a b = elim (cases_lt n m) [
  | inl less ↦ absurd (omega (arith, a.last m less b.there, b.by))
  | inr more ↦ elim (cases_lt m n) [
    | inl less ↦ absurd (omega (arith, b.last n less a.there, a.by))
    | inr up ↦ omega (arith, more, up)
  ]
]

-- two first places at or after a time are one
one-first : (ks : List Place) (time n m : ℕ) → IsFirstPlaceFrom ks time n → IsFirstPlaceFrom ks time m → n ≡ m
one-first ks time n m a b = elim (cases_lt n m) [
  | inl less ↦ absurd (omega (arith, b.first n less, a.from))
  | inr more ↦ elim (cases_lt m n) [
    | inl less ↦ absurd (omega (arith, a.first m less, b.from))
    | inr up ↦ omega (arith, more, up)
  ]
]

-- the first place s and the last place e of a programme, for a start and a stop
record Spans (ks : List Place) (start stop s e : ℕ) : Type 0 where
  begins : IsLastPlaceBy ks start s
  ends : IsFirstPlaceFrom ks stop e

module _ (goal : Goal) (ks : List Place) (over : Bool) (start stop begin end s e : ℕ) (one : Spans ks start stop s e) (other : Spans ks begin end s e) where
  -- the table is the same
  table-same : (t : Table) → IsProgrammeTable goal ks start stop t → IsProgrammeTable goal ks begin end t
  table-same t is =
      let first : is.s ≡ s = one-last ks start is.s s is.begins one.begins in
      let last : is.e ≡ e = one-first ks stop is.e e is.ends one.ends in
      record {
        s = s;
        e = e;
        begins = other.begins;
        ends = other.ends;
        is = is.is ∙ ap (λ n. table_between goal ks n is.e) first ∙ ap (λ n. table_between goal ks s n) last;
      }

  -- the table or the fault is the same
  programme-same : (found : Result Table ProgrammeFault) → IsProgramme goal ks over start stop found → IsProgramme goal ks over begin end found
  programme-same (Err programme.BeforeRecording) none = absurd (omega (arith, none s one.begins.there, one.begins.by))
  programme-same (Err programme.NotYet) late = absurd (omega (arith, late.0.late e one.ends.there, one.ends.from))
  programme-same (Err programme.AfterRecording) late = absurd (omega (arith, late.0.late e one.ends.there, one.ends.from))
  programme-same (Err programme.ProgrammeTooLong) long = (long.0, table-same long.0 long.1, long.2)
  programme-same (Ok t) is = (table-same t is.0, is.1)
  programme-same (Err programme.Memory) is = (is.0, table-same is.0 is.1, is.2)

module _ (s : State) (request other : Request) (first last : ℕ) (range : IsInRange s request) (other_range : IsInRange s other)
    (one : Spans (kept_places s) request.start_us request.stop_us first last) (two : Spans (kept_places s) other.start_us other.stop_us first last)
    (same : goal_for s request ≡ goal_for s other) where
  -- .. for the other request
  moved : (found : Result Table ProgrammeFault) → IsProgramme (goal_for s request) (kept_places s) (all_finished s) request.start_us request.stop_us found
      → IsProgramme (goal_for s other) (kept_places s) (all_finished s) other.start_us other.stop_us found
  moved found is =
      subst (λ (g : Goal). IsProgramme g (kept_places s) (all_finished s) other.start_us other.stop_us found) same
      (programme-same (goal_for s request) (kept_places s) (all_finished s) request.start_us request.stop_us other.start_us other.stop_us first last one two found is)

  -- what is found for a request is found for the other one
  found-same : (found : Result Table CatchFault) → IsTableFor s request found → IsTableFor s other found
  found-same (Err BadRange) bad = absurd (omega (arith, bad, range.order))
  found-same (Err BadPreferred) bad = absurd (bad.1 range.preferred)
  found-same (Err BadCharge) bad = absurd (bad.2 range.charge)
  found-same (Err BeforeRecording) is = record { in_range = other_range; programme = moved (Err programme.BeforeRecording) is.programme }
  found-same (Err NotYet) is = record { in_range = other_range; programme = moved (Err programme.NotYet) is.programme }
  found-same (Err AfterRecording) is = record { in_range = other_range; programme = moved (Err programme.AfterRecording) is.programme }
  found-same (Err ProgrammeTooLong) is = record { in_range = other_range; programme = moved (Err programme.ProgrammeTooLong) is.programme }
  found-same (Ok t) is = record { in_range = other_range; programme = moved (Ok t) is.programme }
  found-same (Err Memory) is = record { in_range = other_range; programme = moved (Err programme.Memory) is.programme }

  -- a right answer to a request is one to the other
  answer-same : (cut_result : CutResult) → IsRightAnswer s request cut_result → IsRightAnswer s other cut_result
  answer-same cut_result is = record {
    table = is.table;
    defined = found-same (Ok is.table) is.defined;
    recordings = is.recordings;
    are = is.are;
    covered = is.covered;
    right = is.right;
  }

module _ (s : State) (request : Request) (first last : ℕ) (range : IsInRange s request) (one : Spans (kept_places s) request.start_us request.stop_us first last) where
  abbrev from : ℕ
  from = time_at (kept_places s) first

  abbrev to : ℕ
  to = time_at (kept_places s) last

  -- the request with the times of these places
  abbrev wide : Request
  wide = with_times request from to

  wide_range : IsInRange s wide
  wide_range = record { order = omega (arith, one.begins.by, range.order, one.ends.from); preferred = range.preferred; charge = range.charge }

  -- its first and last place are the same
  wide_spans : Spans (kept_places s) from to first last
  wide_spans = record {
    begins = record {
      there = one.begins.there;
      by = omega arith;
      last = λ later after within. omega (arith, one.begins.last later after within, one.begins.by);
    };
    ends = record {
      there = one.ends.there;
      from = omega arith;
      first = λ earlier before. omega (arith, one.ends.first earlier before, one.ends.from);
    };
  }

  -- it is the only canonical request
  only-one : (other : Request) → IsCanonical s request other → other ≡ wide
  only-one other is =
      is.is ∙ ap (λ n. with_times request (time_at (kept_places s) n) (time_at (kept_places s) is.last)) (one-last (kept_places s) request.start_us is.first first is.begins one.begins)
      ∙ ap (λ n. with_times request from (time_at (kept_places s) n)) (one-first (kept_places s) request.stop_us is.last last is.ends one.ends)

  same-programme : IsSameProgramme s request wide
  same-programme = record {
    table = λ found. (found-same s wide request first last wide_range range wide_spans one refl found, found-same s request wide first last range wide_range one wide_spans refl found);
    answer = λ cut. (answer-same s wide request first last wide_range range wide_spans one refl cut, answer-same s request wide first last range wide_range one wide_spans refl cut);
    only = only-one;
    own = record { in_range = wide_range; first = first; last = last; begins = wide_spans.begins; ends = wide_spans.ends; is = refl };
  }

pub canonical-same : CanonicalProgrammesAreSame
canonical-same = λ s request canonical is.
    subst (IsSameProgramme s request) (sym is.is) (same-programme s request is.first is.last is.in_range (record { begins = is.begins; ends = is.ends }))

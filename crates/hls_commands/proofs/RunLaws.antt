-- From the recording of a stream to the end of a run of `cut`.
use Rattle.std.proofs.Common.{◌≡◌, ◌≢◌, ◌∙◌, ℕ, List, [], ◌++◌, Option, Some, None, Result, Ok, Err, Bool, refl, sym, ap, subst, inl, inr, true, false, append-nil}
use Rattle.hls_core_laws.specs.State.{State}
use Rattle.hls_io.specs.Writing.{CountsWrite, Writes}
use Rattle.hls_commands.specs.declared.listing_fault.ListingFault.{ListingFault}
use Rattle.hls_commands.specs.declared.listing_fault.ListingFault.TheVariants as list
use Rattle.hls_commands.specs.declared.listing_mode.ListingOutput.{ListingOutput}
use Rattle.hls_commands.specs.declared.cut.fault.CutFault.{CutFault}
use Rattle.hls_commands.specs.declared.cut.fault.CutFault.TheVariants as fault
use Rattle.hls_commands.specs.declared.cut.run.CutEnd.{CutEnd}
use Rattle.hls_commands.specs.declared.cut.run.CutEnd.TheVariants as end
use Rattle.hls_core.specs.declared.feed_fault.StreamFault.{StreamFault}
use Rattle.hls_core.specs.declared.feed_fault.FeedFault.{FeedFault}
use Rattle.hls_core.specs.declared.feed_fault.FeedFault.TheVariants as feed_fault
use Rattle.hls_commands.specs.MemoryCases.{IsDefinedOrMemory}
use Rattle.hls_commands.specs.Channel.{opening_of}
use Rattle.hls_commands.specs.CutFaultName.{fault_of}
use Rattle.hls_commands.specs.RecordStream.{CountsReads, EndsReading, RecordsStream, RecordsRead}
use Rattle.clap.specs.Words.{Text}
use Rattle.hls_settings.specs.declared.cut_options_fault.CutOptionsFault.{CutOptionsFault}
use Rattle.hls_settings.specs.declared.cut_options_fault.CutOptionsFault.TheVariants as wrong
use Rattle.hls_settings.specs.Options.{CutOptionsData, ReadsOptions, options_of}
use Rattle.hls_commands.specs.RecordedState.{state_at_end, state_of_stream}
use Rattle.hls_commands.specs.CutRun.{AnswersCut, IsListingOrFault, CountsFailures, EndsCut, IsListing, IsStreamListing, RunsCut, bytes_of, is_cut, is_usage}
use Rattle.hls_commands.specs.CutParts.{CountsPrint, ListsAtEnd, Prints, ListsStream, ListsRead, end_after_write}

-- ---- refusals of the stream

-- a stream's refusal is the fault of its listing
refused_comes : (choice : CutOptionsData) (x : Result State StreamFault) (f : StreamFault) → x ≡ Err f → IsListingOrFault choice x (Err (fault.Stream f))
refused_comes choice (Ok s) f is = cc
refused_comes choice (Err g) f is = cc

-- the refusal that ends a reading ends the run
ends_at : (choice : CutOptionsData) (f : StreamFault) (taken rest : List ℕ) → EndsReading (opening_of choice) f taken rest → EndsCut choice (fault.Stream f) taken rest
ends_at choice f taken rest (inl h) = inl (h.0, refused_comes choice (state_of_stream (opening_of choice) taken) f h.1)
ends_at choice f taken rest (inr h) = inr (λ more. refused_comes choice (state_of_stream (opening_of choice) (taken ++ more)) f (h more))

-- the fault that ends a recording is the result of what was read, whatever it is
takes_of_err : (choice : CutOptionsData) (taken rest : List ℕ) (s : State) (f : CutFault) → RecordsRead (opening_of choice) taken rest s (Err f) → ListsRead choice taken rest (Err f)
takes_of_err choice taken rest s fault.Memory h = tt
takes_of_err choice taken rest s fault.ReadFailed h = h
takes_of_err choice taken rest s fault.WriteFailed h = absurd h
takes_of_err choice taken rest s (fault.Listing f) h = absurd h
takes_of_err choice taken rest s (fault.Stream f) h = ends_at choice f taken rest h

-- if a stream's recording ended with a fault, so does its listing
pub takes_err : (choice : CutOptionsData) (stream : List ℕ) (left : Option (List ℕ)) (o s : State) (f : CutFault) → o ≡ opening_of choice → RecordsStream o stream left s (Err f) → ListsStream choice stream left (Err f)
takes_err choice stream left o s f is h =
    let P : State → Type 0 = λ x. RecordsRead x h.taken h.rest s (Err f) in
    record { taken = h.taken; rest = h.rest; left_is = h.left_is; split = h.split; yields = takes_of_err choice h.taken h.rest s f (subst P is h.yields) }

-- an allocation failure before anything is read
pub takes_none : (choice : CutOptionsData) (stream : List ℕ) (left : Option (List ℕ)) → left ≡ Some stream → ListsStream choice stream left (Err fault.Memory)
takes_none choice stream left is = record { taken = []; rest = stream; left_is = is; split = refl; yields = tt }

-- ---- the listing

-- no listing and no refusal of a stream is a failed read
no_read_failed : (choice : CutOptionsData) (x : Result State StreamFault) → IsListingOrFault choice x (Err fault.ReadFailed) → ⊥
no_read_failed choice (Ok s) is = is
no_read_failed choice (Err f) is = cc

-- no listing and no refusal of a stream is a failed write
no_write_failed : (choice : CutOptionsData) (x : Result State StreamFault) → IsListingOrFault choice x (Err fault.WriteFailed) → ⊥
no_write_failed choice (Ok s) is = is
no_write_failed choice (Err f) is = cc

-- the listing of a result is that of an equal result
comes_as : (choice : CutOptionsData) (x y : Result State StreamFault) (result : Result ListingOutput CutFault) → x ≡ y → IsListingOrFault choice y result → IsListingOrFault choice x result
comes_as choice x y result is h = let P : Result State StreamFault → Type 0 = λ z. IsListingOrFault choice z result in subst P (sym is) h

-- if a stream was recorded completely, its listing at the end is the result of what was read
takes_of_ok : (choice : CutOptionsData) (taken rest : List ℕ) (s : State) (result : Result ListingOutput CutFault) → RecordsRead (opening_of choice) taken rest s (Ok tt) → ListsAtEnd choice (state_at_end s) result → ListsRead choice taken rest result
takes_of_ok choice taken rest s (Ok listed) h is = (h.0, comes_as choice _ (state_at_end s) (Ok listed) h.1 is)
takes_of_ok choice taken rest s (Err fault.Memory) h is = tt
takes_of_ok choice taken rest s (Err fault.ReadFailed) h is = absurd (no_read_failed choice (state_at_end s) is)
takes_of_ok choice taken rest s (Err fault.WriteFailed) h is = absurd (no_write_failed choice (state_at_end s) is)
takes_of_ok choice taken rest s (Err f) h is = inl (h.0, comes_as choice _ (state_at_end s) (Err f) h.1 is)

-- if a stream was recorded completely, its listing at the end is the stream's listing
pub takes_ok : (choice : CutOptionsData) (stream : List ℕ) (left : Option (List ℕ)) (o s : State) (result : Result ListingOutput CutFault) → o ≡ opening_of choice → RecordsStream o stream left s (Ok tt)
    → ListsAtEnd choice (state_at_end s) result → ListsStream choice stream left result
takes_ok choice stream left o s result is h lists =
    let P : State → Type 0 = λ x. RecordsRead x h.taken h.rest s (Ok tt) in
    record { taken = h.taken; rest = h.rest; left_is = h.left_is; split = h.split; yields = takes_of_ok choice h.taken h.rest s result (subst P is h.yields) lists }

-- a listing at the end of a stream counts no failed read
pub counts_listed : (choice : CutOptionsData) (s : State) (old new : ℕ) (result : Result ListingOutput CutFault) → ListsAtEnd choice (state_at_end s) result → new ≡ old → CountsReads {A = ListingOutput} result old new
counts_listed choice s old new (Ok listed) is quiet = quiet
counts_listed choice s old new (Err fault.Memory) is quiet = quiet
counts_listed choice s old new (Err fault.ReadFailed) is quiet = absurd (no_read_failed choice (state_at_end s) is)
counts_listed choice s old new (Err fault.WriteFailed) is quiet = absurd (no_write_failed choice (state_at_end s) is)
counts_listed choice s old new (Err f) is quiet = quiet

-- ---- the end of a recorded stream

-- the fault of a refused end of a stream is its listing's
pub ends_refused : (choice : CutOptionsData) (defined : Result State StreamFault) (new : State) (f : FeedFault) → IsDefinedOrMemory defined new (Err f) → ListsAtEnd choice defined (Err (fault_of f))
ends_refused choice defined new feed_fault.Memory is = tt
ends_refused choice defined new (feed_fault.Refused f) is = refused_comes choice defined f is

-- the listing of the state at the end of a stream is the stream's
pub ends_listed : (choice : CutOptionsData) (defined : Result State StreamFault) (new : State) (listed : ListingOutput) → defined ≡ Ok new → IsListing choice new (Ok listed) → ListsAtEnd choice defined (Ok listed)
ends_listed choice defined new listed is lists = comes_as choice defined (Ok new) (Ok listed) is lists

-- the fault of a listing, unless it is out of memory, is the fault of the run
listing_fault : (choice : CutOptionsData) (s : State) (f : ListingFault) → (f ≡ list.Memory → ⊥) → IsListing choice s (Err f) → IsListingOrFault choice (Ok s) (Err (fault.Listing f))
listing_fault choice s list.Memory other is = absurd (other refl)
listing_fault choice s f other is = is

-- the fault of the listing at the end of a stream, unless it is out of memory, is the stream's
pub ends_unlisted : (choice : CutOptionsData) (defined : Result State StreamFault) (new : State) (f : ListingFault) → (f ≡ list.Memory → ⊥) → defined ≡ Ok new → IsListing choice new (Err f) → ListsAtEnd choice defined (Err (fault.Listing f))
ends_unlisted choice defined new f other is lists = comes_as choice defined (Ok new) (Err (fault.Listing f)) is (listing_fault choice new f other lists)

-- ---- the run

-- a run whose listing ended with a fault writes nothing
answers_err : (choice : CutOptionsData) (stream taken rest : List ℕ) (f : CutFault) → ListsRead choice taken rest (Err f) → AnswersCut choice stream taken rest [] (end.Refused f)
answers_err choice stream taken rest fault.Memory h = refl
answers_err choice stream taken rest fault.ReadFailed h = (refl, h)
answers_err choice stream taken rest fault.WriteFailed h = absurd h
answers_err choice stream taken rest f h = (refl, h)

-- if the listing of a stream ended with a fault and nothing was written, that is a run of `cut` with this fault
pub runs_err : (choice : CutOptionsData) (stream held : List ℕ) (left contents : Option (List ℕ)) (f : CutFault) → ListsStream choice stream left (Err f) → contents ≡ Some held → RunsCut (Ok choice) stream held left contents (end.Refused f)
runs_err choice stream held left contents f h is = record {
  taken = h.taken;
  rest = h.rest;
  text = [];
  left_is = h.left_is;
  split = h.split;
  contents_are = is ∙ ap Some (sym (append-nil held));
  answers = answers_err choice stream h.taken h.rest f h.yields;
}

-- a stream with nothing left to read is what was read
whole_stream : (stream taken rest : List ℕ) → stream ≡ taken ++ rest → rest ≡ [] → stream ≡ taken
whole_stream stream taken rest split none = split ∙ ap (λ xs. taken ++ xs) none ∙ append-nil taken

-- the end of a run whose listing, with a plan or without, was written completely
abbrev pub cut_end : Bool → CutEnd
cut_end true = end.Done
cut_end false = end.NoCut

-- a listing that was written completely is what a run of `cut` writes
answers_done : (choice : CutOptionsData) (stream taken rest text : List ℕ) (listed : ListingOutput) (cut : Bool) → rest ≡ [] → IsStreamListing choice stream (Ok listed) → bytes_of listed ≡ text → is_cut listed ≡ cut
    → AnswersCut choice stream taken rest text (cut_end cut)
answers_done choice stream taken rest text listed true none outcome is cut = record { whole = none; listed = listed; outcome = outcome; text_is = is; cut_is = cut }
answers_done choice stream taken rest text listed false none outcome is cut = record { whole = none; listed = listed; outcome = outcome; text_is = is; cut_is = cut }

-- a listing that was written, completely or in part, is what a run of `cut` writes
answers_printed : (choice : CutOptionsData) (stream taken rest written left : List ℕ) (listed : ListingOutput) (cut done : Bool) → rest ≡ [] → IsStreamListing choice stream (Ok listed) → bytes_of listed ≡ written ++ left → is_cut listed ≡ cut
    → (done ≡ true → left ≡ []) → AnswersCut choice stream taken rest written (end_after_write done (cut_end cut))
answers_printed choice stream taken rest written left listed cut true none outcome is of whole =
    answers_done choice stream taken rest written listed cut none outcome (is ∙ ap (λ xs. written ++ xs) (whole refl) ∙ append-nil written) of
answers_printed choice stream taken rest written left listed cut false none outcome is of whole =
    record { whole = none; listed = listed; outcome = outcome; beginning = record { missing = left; is = is } }

-- if a stream was listed and the listing then printed, whole or in part, that is a run of `cut`
pub runs_printed : (choice : CutOptionsData) (stream held text : List ℕ) (left contents : Option (List ℕ)) (listed : ListingOutput) (cut : Bool) (answer : CutEnd) → ListsStream choice stream left (Ok listed) → bytes_of listed ≡ text → is_cut listed ≡ cut
    → Prints held text contents (cut_end cut) answer → RunsCut (Ok choice) stream held left contents answer
runs_printed choice stream held text left contents listed cut answer h is of w =
    let outcome : IsStreamListing choice stream (Ok listed) =
    subst (λ (xs : List ℕ). IsStreamListing choice xs (Ok listed)) (sym (whole_stream stream h.taken h.rest h.split h.yields.0)) h.yields.1 in
    record {
      taken = h.taken;
      rest = h.rest;
      text = w.writes.written;
      left_is = h.left_is;
      split = h.split;
      contents_are = w.writes.contents_are;
      answers = let P : CutEnd → Type 0 = AnswersCut choice stream h.taken h.rest w.writes.written in
          subst P (sym w.answer_is) (answers_printed choice stream h.taken h.rest w.writes.written w.writes.left listed cut w.done h.yields.0 outcome (is ∙ w.writes.split) of w.writes.whole);
    }

-- a run that ended with a fault counts a failed read exactly if that is the fault
pub counts_err : (f : CutFault) (read_old read_new write_old write_new : ℕ) → CountsReads {A = ListingOutput} (Err f) read_old read_new → write_new ≡ write_old → CountsFailures (end.Refused f) read_old read_new write_old write_new
counts_err fault.ReadFailed read_old read_new write_old write_new h quiet = (h, quiet)
counts_err fault.WriteFailed read_old read_new write_old write_new h quiet = absurd h
counts_err f read_old read_new write_old write_new h quiet = (h, quiet)

-- without a failed read, a run counts a failed write exactly if its listing wasn't written completely
counts_done : (cut : Bool) (done : Bool) (read_old read_new write_old write_new : ℕ) → read_new ≡ read_old → CountsWrite done write_old write_new → CountsFailures (end_after_write done (cut_end cut)) read_old read_new write_old write_new
counts_done true true read_old read_new write_old write_new quiet h = (quiet, h)
counts_done false true read_old read_new write_old write_new quiet h = (quiet, h)
counts_done cut false read_old read_new write_old write_new quiet h = (quiet, h)

-- without a failed read, a run counts the failed writes of its printing
pub counts_printed : (cut : Bool) (answer : CutEnd) (read_old read_new write_old write_new : ℕ) → read_new ≡ read_old → CountsPrint (cut_end cut) answer write_old write_new → CountsFailures answer read_old read_new write_old write_new
counts_printed cut answer read_old read_new write_old write_new quiet h =
    let P : CutEnd → Type 0 = λ e. CountsFailures e read_old read_new write_old write_new in
    subst P (sym h.answer_is) (counts_done cut h.done read_old read_new write_old write_new quiet h.counts)

-- a run that prints a listing doesn't end for invalid arguments
not_usage : (cut done : Bool) → is_usage (end_after_write done (cut_end cut)) ≡ false
not_usage true true = refl
not_usage false true = refl
not_usage cut false = refl

-- a run that printed a listing didn't end for invalid arguments
pub printed_is_used : (cut : Bool) (answer : CutEnd) (old new : ℕ) → CountsPrint (cut_end cut) answer old new → is_usage answer ≡ false
printed_is_used cut answer old new h = ap is_usage h.answer_is ∙ not_usage cut h.done

-- ---- a run that reads and writes nothing

-- an allocation failure before anything is read is a run of `cut` that ends with it, whatever the arguments are
pub runs_without_memory : (choice : Result CutOptionsData CutOptionsFault) (stream held : List ℕ) (left contents : Option (List ℕ)) → left ≡ Some stream → contents ≡ Some held →
    RunsCut choice stream held left contents (end.Refused fault.Memory)
runs_without_memory (Err f) stream held left contents left_is is = record {
  taken = [];
  rest = stream;
  text = [];
  left_is = left_is;
  split = refl;
  contents_are = is ∙ ap Some (sym (append-nil held));
  answers = (refl, refl);
}
runs_without_memory (Ok choice) stream held left contents left_is is = record {
  taken = [];
  rest = stream;
  text = [];
  left_is = left_is;
  split = refl;
  contents_are = is ∙ ap Some (sym (append-nil held));
  answers = refl;
}

-- invalid arguments end a run of `cut` that reads and writes nothing
pub runs_unused : (choice : Result CutOptionsData CutOptionsFault) (f : CutOptionsFault) (stream held : List ℕ) (left contents : Option (List ℕ)) → choice ≡ Err f → left ≡ Some stream → contents ≡ Some held →
    RunsCut choice stream held left contents (end.Usage f)
runs_unused (Err g) f stream held left contents wrong left_is is = record {
  taken = [];
  rest = stream;
  text = [];
  left_is = left_is;
  split = refl;
  contents_are = is ∙ ap Some (sym (append-nil held));
  answers = (let same : g ≡ f = cc in same, refl, refl);
}
runs_unused (Ok choice) f stream held left contents wrong left_is is = cc

-- the fault that reading the arguments returned, unless it is out of memory, is that of the arguments
pub told_wrong : (arguments : List Text) (f : CutOptionsFault) → (f ≡ wrong.Memory → ⊥) → ReadsOptions arguments (Err f) → options_of arguments ≡ Err f
told_wrong arguments wrong.Memory other is = absurd (other refl)
told_wrong arguments f other is = is

-- ---- the writing

-- a text that was written, completely or in part, is printed, and the end says which
pub prints : (held text : List ℕ) (contents : Option (List ℕ)) (ending : CutEnd) (done : Bool) → Writes held text contents done → Prints held text contents ending (end_after_write done ending)
prints held text contents ending done w = record { done = done; writes = w; answer_is = refl }

-- a failed write is reported by the end exactly if one was counted
pub counts_print : (ending : CutEnd) (done : Bool) (old new : ℕ) → CountsWrite done old new → CountsPrint ending (end_after_write done ending) old new
counts_print ending done old new h = record { done = done; counts = h; answer_is = refl }

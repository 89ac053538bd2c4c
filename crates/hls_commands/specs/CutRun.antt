-- The contract of a run of `cut`: what it reads, writes and returns. (CutParts has what its parts pass to each other.)
use Rattle.std.specs.Prelude.{◌≡◌, ℕ, List, [], ◌++◌, Option, Some, Result, Ok, Err, ◌⊎◌, is_ok, Bool, true, false}
use Rattle.hls_record.specs.RecordingData.{RecordingData}
use Rattle.hls_core_laws.specs.State.{State}
use Rattle.hls_core.specs.Getters.{recording_of}
use Rattle.hls_core.specs.declared.feed_fault.StreamFault.{StreamFault}
use Rattle.hls_io.specs.Failures.{FailuresRose}
use Rattle.hls_commands.specs.declared.listing_fault.ListingFault.{ListingFault}
use Rattle.hls_commands.specs.declared.listing_fault.ListingFault.TheVariants as listing_fault
use Rattle.hls_commands.specs.declared.listing_mode.ListingOutput.{ListingOutput}
use Rattle.hls_commands.specs.declared.listing_mode.ListingOutput.TheVariants.{Text, NoCut}
use Rattle.hls_commands.specs.Listings.{ListsOf}
use Rattle.hls_commands.specs.declared.cut.fault.CutFault.{CutFault}
use Rattle.hls_commands.specs.declared.cut.fault.CutFault.TheVariants as fault
use Rattle.hls_commands.specs.declared.cut.run.CutEnd.{CutEnd}
use Rattle.hls_commands.specs.declared.cut.run.CutEnd.TheVariants as end
use Rattle.hls_commands.specs.Prefix.{IsPrefix}
use Rattle.hls_commands.specs.Channel.{listing_mode_of, opening_of}
use Rattle.hls_commands.specs.RecordStream.{IsOpen}
use Rattle.hls_settings.specs.declared.cut_options_fault.CutOptionsFault.{CutOptionsFault}
use Rattle.hls_settings.specs.Options.{CutOptionsData}
use Rattle.hls_commands.specs.RecordedState.{state_of_stream}

-- the listing of the state's only recording, by the options
pub record IsListing (choice : CutOptionsData) (s : State) (result : Result ListingOutput ListingFault) : Type 0 where
  pub recording : RecordingData
  pub begun : recording_of s 0 ≡ Some recording
  pub lists : ListsOf s recording choice.uri (listing_mode_of choice) result

-- the listing of a recorded state, or the refusal of the stream
abbrev pub IsListingOrFault : CutOptionsData → Result State StreamFault → Result ListingOutput CutFault → Type 0
IsListingOrFault choice (Ok s) (Ok listed) = IsListing choice s (Ok listed)
IsListingOrFault choice (Ok s) (Err (fault.Listing listing_fault.Memory)) = ⊥
IsListingOrFault choice (Ok s) (Err (fault.Listing f)) = IsListing choice s (Err f)
IsListingOrFault choice (Ok s) (Err f) = ⊥
IsListingOrFault choice (Err f) (Ok listed) = ⊥
IsListingOrFault choice (Err f) (Err g) = g ≡ fault.Stream f

-- the result for a whole stream: the listing, or the first refusal in the stream's order
abbrev pub IsStreamListing : CutOptionsData → List ℕ → Result ListingOutput CutFault → Type 0
IsStreamListing choice stream result = IsListingOrFault choice (state_of_stream (opening_of choice) stream) result

-- the refusal is that of the whole stream, or of the bytes that were read, whatever follows them
abbrev pub EndsCut : CutOptionsData → CutFault → List ℕ → List ℕ → Type 0
EndsCut choice f taken rest = ((rest ≡ []) × IsStreamListing choice taken (Err f)) ⊎ ((more : List ℕ) → IsStreamListing choice (taken ++ more) (Err f))

-- the bytes of a listing
abbrev pub bytes_of : ListingOutput → List ℕ
bytes_of (Text text) = text.items
bytes_of (NoCut text) = text.items

-- whether a listing has a plan
abbrev pub is_cut : ListingOutput → Bool
is_cut (Text text) = true
is_cut (NoCut text) = false

-- a prefix of the whole stream's listing is written, up to a failed write
pub record WritesSome (choice : CutOptionsData) (stream rest text : List ℕ) : Type 0 where
  pub whole : rest ≡ []
  pub listed : ListingOutput
  pub outcome : IsStreamListing choice stream (Ok listed)
  pub beginning : IsPrefix text (bytes_of listed)

-- the whole stream's listing is written completely
pub record WritesAll (choice : CutOptionsData) (stream rest text : List ℕ) (cut : Bool) : Type 0 where
  pub whole : rest ≡ []
  pub listed : ListingOutput
  pub outcome : IsStreamListing choice stream (Ok listed)
  pub text_is : bytes_of listed ≡ text
  pub cut_is : is_cut listed ≡ cut

-- what was read and written by how the run ended: `taken` was read from the stream, `rest` is left, and `text` is written
abbrev pub AnswersCut : CutOptionsData → List ℕ → List ℕ → List ℕ → List ℕ → CutEnd → Type 0
AnswersCut choice stream taken rest text end.Done = WritesAll choice stream rest text true
AnswersCut choice stream taken rest text end.NoCut = WritesAll choice stream rest text false
AnswersCut choice stream taken rest text (end.Usage f) = ⊥
AnswersCut choice stream taken rest text (end.Refused fault.Memory) = text ≡ []
AnswersCut choice stream taken rest text (end.Refused fault.ReadFailed) = (text ≡ []) × IsOpen (opening_of choice) taken
AnswersCut choice stream taken rest text (end.Refused fault.WriteFailed) = WritesSome choice stream rest text
AnswersCut choice stream taken rest text (end.Refused f) = (text ≡ []) × EndsCut choice f taken rest

-- what is read and written by the arguments: invalid ones are reported, and nothing is read or written; else it is by the options
abbrev pub AnswersWords : Result CutOptionsData CutOptionsFault → List ℕ → List ℕ → List ℕ → List ℕ → CutEnd → Type 0
AnswersWords (Err f) stream taken rest text (end.Usage g) = (f ≡ g) × (taken ≡ []) × (text ≡ [])
AnswersWords (Err f) stream taken rest text (end.Refused fault.Memory) = (taken ≡ []) × (text ≡ [])
AnswersWords (Err f) stream taken rest text e = ⊥
AnswersWords (Ok choice) stream taken rest text e = AnswersCut choice stream taken rest text e

-- a run of `cut`: the bytes read from the stream and those left, and the text that was written after what was held
pub record RunsCut (choice : Result CutOptionsData CutOptionsFault) (stream held : List ℕ) (left contents : Option (List ℕ)) (ending : CutEnd) : Type 0 where
  pub taken : List ℕ
  pub rest : List ℕ
  pub text : List ℕ
  pub left_is : left ≡ Some rest
  pub split : stream ≡ taken ++ rest
  pub contents_are : contents ≡ Some (held ++ text)
  pub answers : AnswersWords choice stream taken rest text ending

-- a failed read or write is reported, and only if one was counted; none is ignored
abbrev pub CountsFailures : CutEnd → ℕ → ℕ → ℕ → ℕ → Type 0
CountsFailures (end.Refused fault.ReadFailed) read_old read_new write_old write_new = FailuresRose read_old read_new × (write_new ≡ write_old)
CountsFailures (end.Refused fault.WriteFailed) read_old read_new write_old write_new = (read_new ≡ read_old) × FailuresRose write_old write_new
CountsFailures e read_old read_new write_old write_new = (read_new ≡ read_old) × (write_new ≡ write_old)

-- invalid arguments end in a usage fault, unless memory runs out, and no others do
abbrev pub IsUsageFault : CutEnd → Result CutOptionsData CutOptionsFault → Type 0
IsUsageFault (end.Usage f) choice = choice ≡ Err f
IsUsageFault (end.Refused fault.Memory) choice = Unit {0}
IsUsageFault e choice = is_ok choice ≡ true

-- whether the run ended for invalid arguments
abbrev pub is_usage : CutEnd → Bool
is_usage (end.Usage f) = true
is_usage e = false

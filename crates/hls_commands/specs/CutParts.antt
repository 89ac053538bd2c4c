-- For the proofs of this crate; no public clause cites it.
-- What the parts of a run of `cut` pass to each other.
use Rattle.std.specs.Prelude.{◌≡◌, ℕ, List, [], ◌++◌, Option, Some, Result, Ok, Err, Bool, true, false}
use Rattle.hls_core_laws.specs.State.{State}
use Rattle.hls_core.specs.declared.feed_fault.StreamFault.{StreamFault}
use Rattle.hls_io.specs.Writing.{CountsWrite, Writes}
use Rattle.hls_commands.specs.declared.listing_mode.ListingOutput.{ListingOutput}
use Rattle.hls_commands.specs.declared.cut.fault.CutFault.{CutFault}
use Rattle.hls_commands.specs.declared.cut.fault.CutFault.TheVariants as fault
use Rattle.hls_commands.specs.declared.cut.run.CutEnd.{CutEnd}
use Rattle.hls_commands.specs.declared.cut.run.CutEnd.TheVariants as end
use Rattle.hls_commands.specs.Channel.{opening_of}
use Rattle.hls_commands.specs.RecordStream.{IsOpen}
use Rattle.hls_settings.specs.Options.{CutOptionsData}
use Rattle.hls_commands.specs.CutRun.{IsListingOrFault, EndsCut, IsStreamListing}

-- the listing, or the fault, at the end of a recorded stream; an allocation failure may take its place
abbrev pub ListsAtEnd : CutOptionsData → Result State StreamFault → Result ListingOutput CutFault → Type 0
ListsAtEnd choice defined (Ok listed) = IsListingOrFault choice defined (Ok listed)
ListsAtEnd choice defined (Err fault.Memory) = Unit {0}
ListsAtEnd choice defined (Err f) = IsListingOrFault choice defined (Err f)

-- the listing, or the fault, after `taken` was read and `rest` left
abbrev pub ListsRead : CutOptionsData → List ℕ → List ℕ → Result ListingOutput CutFault → Type 0
ListsRead choice taken rest (Ok listed) = (rest ≡ []) × IsStreamListing choice taken (Ok listed)
ListsRead choice taken rest (Err fault.Memory) = Unit {0}
ListsRead choice taken rest (Err fault.ReadFailed) = IsOpen (opening_of choice) taken
ListsRead choice taken rest (Err fault.WriteFailed) = ⊥
ListsRead choice taken rest (Err f) = EndsCut choice f taken rest

-- some of the stream was read, and this is the listing, or the fault, after it
pub record ListsStream (choice : CutOptionsData) (stream : List ℕ) (left : Option (List ℕ)) (result : Result ListingOutput CutFault) : Type 0 where
  pub taken : List ℕ
  pub rest : List ℕ
  pub left_is : left ≡ Some rest
  pub split : stream ≡ taken ++ rest
  pub yields : ListsRead choice taken rest result

-- the end of a run whose listing was to be written: a failed write if it wasn't written completely
abbrev pub end_after_write : Bool → CutEnd → CutEnd
end_after_write true e = e
end_after_write false e = end.Refused fault.WriteFailed

-- the text, or a prefix of it, was written after what was held, and the answer says whether it was written completely
pub record Prints (held text : List ℕ) (contents : Option (List ℕ)) (ending answer : CutEnd) : Type 0 where
  pub done : Bool
  pub writes : Writes held text contents done
  pub answer_is : answer ≡ end_after_write done ending

-- a failed write was counted exactly if the answer reports one
pub record CountsPrint (ending answer : CutEnd) (old new : ℕ) : Type 0 where
  pub done : Bool
  pub counts : CountsWrite done old new
  pub answer_is : answer ≡ end_after_write done ending

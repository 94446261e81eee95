-- "A refusal carries its number from document 01": the table "Numbers a caller may get", a line for each case, and document 02's: "New
-- refusals from here on join document 01's."
use Rattle.std.specs.Prelude.{ℕ, zero, suc}
use Rattle.refusal.specs.declared.Reason.{Reason}
use Rattle.refusal.specs.declared.Reason.TheVariants.{InvalidState, XfMemoryLength, VertexBufferShort, ReadDisabled}
use Rattle.refusal.specs.declared.Reason.TheVariants.{LinkedMode, UnknownOpcode, UnknownCpAddress, XfLoadPastEnd}
use Rattle.refusal.specs.declared.Reason.TheVariants.{PositionAbsent, UnknownFormat, FeedTooLong, PatchLength}
use Rattle.refusal.specs.declared.Reason.TheVariants.{PatchOfMaskRegister, PatchMaskTooWide, PatchNumberOutsideMask, OutputShort}
use Rattle.refusal.specs.declared.Reason.TheVariants.{UnknownOffset, UnwritableCommand, NotOfLayout}
use Rattle.refusal.specs.declared.Reason.TheVariants.{WrongCount, NumberTooWide, FileShort, FileLong}

-- the number of a refusal
abbrev pub number : Reason → ℕ
number InvalidState = 1
number XfMemoryLength = 2
number VertexBufferShort = 3
number ReadDisabled = 4
number LinkedMode = 5
number UnknownOpcode = 6
number UnknownCpAddress = 7
number XfLoadPastEnd = 8
number PositionAbsent = 9
number UnknownFormat = 10
number FeedTooLong = 11
number PatchLength = 12
number PatchOfMaskRegister = 13
number PatchMaskTooWide = 14
number PatchNumberOutsideMask = 15
number OutputShort = 16
number UnknownOffset = 17
number UnwritableCommand = 18
number NotOfLayout = 19
number WrongCount = 20
number NumberTooWide = 21
number FileShort = 22
number FileLong = 23

-- the first of two refusals by their numbers, 0 where there is neither
abbrev pub or_else : ℕ → ℕ → ℕ
or_else zero other = other
or_else (suc first) other = suc first

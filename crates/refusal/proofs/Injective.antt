-- Two reasons with the same number are the same reason: each is found again from its number.
use mathlib.Core.Path.{◌≡◌, refl, sym, ap, ◌∙◌}
use mathlib.Core.Bool.{cond}
use mathlib.Core.List.{List, [], ◌∷◌}
use Prim.Native.Nat.{ℕ}
use lib.Dec.{eqb}
use Rattle.refusal.specs.Number.{number}
use Rattle.refusal.specs.declared.Reason.{Reason}
use Rattle.refusal.specs.declared.Reason.TheVariants.{InvalidState, XfMemoryLength, VertexBufferShort, ReadDisabled}
use Rattle.refusal.specs.declared.Reason.TheVariants.{LinkedMode, UnknownOpcode, UnknownCpAddress, XfLoadPastEnd}
use Rattle.refusal.specs.declared.Reason.TheVariants.{PositionAbsent, UnknownFormat, FeedTooLong, PatchLength}
use Rattle.refusal.specs.declared.Reason.TheVariants.{PatchOfMaskRegister, PatchMaskTooWide, PatchNumberOutsideMask, OutputShort}
use Rattle.refusal.specs.declared.Reason.TheVariants.{UnknownOffset, UnwritableCommand, NotOfLayout}
use Rattle.refusal.specs.declared.Reason.TheVariants.{WrongCount, NumberTooWide, FileShort, FileLong}

-- every reason, in any order
reasons : List Reason
reasons =
    InvalidState
    ∷ XfMemoryLength
    ∷ VertexBufferShort
    ∷ ReadDisabled
    ∷ LinkedMode
    ∷ UnknownOpcode
    ∷ UnknownCpAddress
    ∷ XfLoadPastEnd
    ∷ PositionAbsent
    ∷ UnknownFormat
    ∷ FeedTooLong
    ∷ PatchLength
    ∷ PatchOfMaskRegister
    ∷ PatchMaskTooWide
    ∷ PatchNumberOutsideMask
    ∷ OutputShort
    ∷ UnknownOffset
    ∷ UnwritableCommand
    ∷ NotOfLayout
    ∷ WrongCount
    ∷ NumberTooWide
    ∷ FileShort
    ∷ FileLong
    ∷ []

-- the first reason of a list with a number, and the table's first where none has it
first_with : ℕ → List Reason → Reason
first_with n [] = InvalidState
first_with n (r ∷ rs) = cond (eqb (number r) n) r (first_with n rs)

-- the reason with a number
reason_of : ℕ → Reason
reason_of n = first_with n reasons

found : (r : Reason) → reason_of (number r) ≡ r
unfolding reason_of first_with reasons
found InvalidState = refl
found XfMemoryLength = refl
found VertexBufferShort = refl
found ReadDisabled = refl
found LinkedMode = refl
found UnknownOpcode = refl
found UnknownCpAddress = refl
found XfLoadPastEnd = refl
found PositionAbsent = refl
found UnknownFormat = refl
found FeedTooLong = refl
found PatchLength = refl
found PatchOfMaskRegister = refl
found PatchMaskTooWide = refl
found PatchNumberOutsideMask = refl
found OutputShort = refl
found UnknownOffset = refl
found UnwritableCommand = refl
found NotOfLayout = refl
found WrongCount = refl
found NumberTooWide = refl
found FileShort = refl
found FileLong = refl

pub number_injective : (a b : Reason) → number a ≡ number b → a ≡ b
number_injective a b e = sym (found a) ∙ ap reason_of e ∙ found b

-- No reason has the number 0, which stands for an accepted call.
use mathlib.Core.Path.{◌≡◌}
use mathlib.Core.Bool.{false}
use Prim.Native.Nat.{ℕ, ◌≤◌}
use native.Mathlib.Omega.{arith}
use lib.Dec.{eqb, lit≤}
use borrow.Author.Tests.{ne_eqb}
use Rattle.refusal.specs.Number.{number}
use Rattle.refusal.specs.declared.Reason.{Reason}
use Rattle.refusal.specs.declared.Reason.TheVariants.{InvalidState, XfMemoryLength, VertexBufferShort, ReadDisabled, LinkedMode}
use Rattle.refusal.specs.declared.Reason.TheVariants.{UnknownOpcode, UnknownCpAddress, XfLoadPastEnd, PositionAbsent}
use Rattle.refusal.specs.declared.Reason.TheVariants.{UnknownFormat, FeedTooLong, PatchLength, PatchOfMaskRegister}
use Rattle.refusal.specs.declared.Reason.TheVariants.{PatchMaskTooWide, PatchNumberOutsideMask, OutputShort, UnknownOffset}
use Rattle.refusal.specs.declared.Reason.TheVariants.{UnwritableCommand, NotOfLayout}
use Rattle.refusal.specs.declared.Reason.TheVariants.{WrongCount, NumberTooWide, FileShort, FileLong}

pub number_some : (r : Reason) → 1 ≤ number r
number_some InvalidState = lit≤ tt
number_some XfMemoryLength = lit≤ tt
number_some VertexBufferShort = lit≤ tt
number_some ReadDisabled = lit≤ tt
number_some LinkedMode = lit≤ tt
number_some UnknownOpcode = lit≤ tt
number_some UnknownCpAddress = lit≤ tt
number_some XfLoadPastEnd = lit≤ tt
number_some PositionAbsent = lit≤ tt
number_some UnknownFormat = lit≤ tt
number_some FeedTooLong = lit≤ tt
number_some PatchLength = lit≤ tt
number_some PatchOfMaskRegister = lit≤ tt
number_some PatchMaskTooWide = lit≤ tt
number_some PatchNumberOutsideMask = lit≤ tt
number_some OutputShort = lit≤ tt
number_some UnknownOffset = lit≤ tt
number_some UnwritableCommand = lit≤ tt
number_some NotOfLayout = lit≤ tt
number_some WrongCount = lit≤ tt
number_some NumberTooWide = lit≤ tt
number_some FileShort = lit≤ tt
number_some FileLong = lit≤ tt

-- as a test
pub not_zero : (reason : Reason) {n : ℕ} → n ≡ number reason → eqb n 0 ≡ false
not_zero reason {n} e = ne_eqb n 0 (λ z. omega (arith, e, z, number_some reason))

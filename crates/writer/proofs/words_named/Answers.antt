-- `writer::words_named` meets its contract: only an XF load names words.
use Rattle.std.proofs.Common.{rules}
use Rattle.command.specs.Command.{numbers_of}
use Rattle.command.specs.declared.Command.{Command}
use Rattle.command.specs.declared.Command.TheVariants.{NoOperation, InvalidateCache, Metrics, LoadCp, LoadXf, LoadIndexed}
use Rattle.command.specs.declared.Command.TheVariants.{CallList, LoadBp, DrawHead, Vertex}
use Rattle.writer.specs.Write.{words_of}
use mathlib.Core.Path.{◌≡◌, refl}
use Prim.Native.Nat.{ℕ}
use lib.Dec.{lit≤}
use Rattle.writer.proofs.words_named.Goals as goal

others-name-none : (c : Command) → ((w a : ℕ) → c ≡ LoadXf w a → ⊥) → 0 ≡ words_of (numbers_of c)
unfolding words_of
others-name-none NoOperation h = refl
others-name-none InvalidateCache h = refl
others-name-none Metrics h = refl
others-name-none (LoadCp a n) h = refl
others-name-none (LoadXf w a) h = absurd (h w a refl)
others-name-none (LoadIndexed a i w x) h = refl
others-name-none (CallList a n) h = refl
others-name-none (LoadBp r n) h = refl
others-name-none (DrawHead p f n) h = refl
others-name-none Vertex h = refl

pub returns-in-LoadXf : goal.returns-in-LoadXf
unfolding words_of
returns-in-LoadXf c = (rw c.in-LoadXf.is, search rules)

pub returns-in_default : goal.returns-in_default
returns-in_default c = (others-name-none _ c.in_default.not-LoadXf, lit≤ tt)

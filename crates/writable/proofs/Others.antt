-- A command that is not of one variant has not that variant's kind.
use mathlib.Core.Path.{◌≡◌, refl}
use mathlib.Core.Bool.{false}
use mathlib.Core.List.{[], ◌∷◌}
use lib.Dec.{eqb}
use types.Run.{OneOf, miss}
use denote.Enum.Declared.{tag_of}
use Rattle.command.specs.contracts.Command as Commands
use Rattle.command.specs.declared.Command.{Command}
use Rattle.command.specs.declared.Command.TheVariants.{NoOperation, InvalidateCache, Metrics, LoadCp, LoadXf, LoadIndexed}
use Rattle.command.specs.declared.Command.TheVariants.{CallList, LoadBp, DrawHead, Vertex}
use Rattle.command.specs.Command.{kind_of, numbers_of}

pub no_cp : (c : Command) → OneOf (0 ∷ 1 ∷ 2 ∷ 4 ∷ 5 ∷ 6 ∷ 7 ∷ 8 ∷ 9 ∷ []) (tag_of Commands.the_type c)
    → eqb (kind_of (numbers_of c)) 0x08 ≡ false
no_cp NoOperation h = refl
no_cp InvalidateCache h = refl
no_cp Metrics h = refl
no_cp (LoadCp a n) h = absurd (miss (0 ∷ 1 ∷ 2 ∷ 4 ∷ 5 ∷ 6 ∷ 7 ∷ 8 ∷ 9 ∷ []) 3 tt h)
no_cp (LoadXf w a) h = refl
no_cp (LoadIndexed a i w x) h = refl
no_cp (CallList a n) h = refl
no_cp (LoadBp r n) h = refl
no_cp (DrawHead p f n) h = refl
no_cp Vertex h = refl

pub no_xf : (c : Command) → OneOf (0 ∷ 1 ∷ 2 ∷ 3 ∷ 5 ∷ 6 ∷ 7 ∷ 8 ∷ 9 ∷ []) (tag_of Commands.the_type c)
    → eqb (kind_of (numbers_of c)) 0x10 ≡ false
no_xf NoOperation h = refl
no_xf InvalidateCache h = refl
no_xf Metrics h = refl
no_xf (LoadCp a n) h = refl
no_xf (LoadXf w a) h = absurd (miss (0 ∷ 1 ∷ 2 ∷ 3 ∷ 5 ∷ 6 ∷ 7 ∷ 8 ∷ 9 ∷ []) 4 tt h)
no_xf (LoadIndexed a i w x) h = refl
no_xf (CallList a n) h = refl
no_xf (LoadBp r n) h = refl
no_xf (DrawHead p f n) h = refl
no_xf Vertex h = refl

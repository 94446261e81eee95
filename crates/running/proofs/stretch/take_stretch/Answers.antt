-- `running::take_stretch` meets its contract: the stretch is the first bytes of the cursor, and what is taken off it is taken off them.
use Rattle.running.proofs.Stretched.{stretch_none, stretch_some}
use mathlib.Core.Path.{refl}
use mathlib.Core.Logic.{inl, inr}
use Rattle.running.proofs.stretch.take_stretch.Goals as goal

pub returns-then-ring-end : goal.returns-then-ring-end
returns-then-ring-end c = (stretch_none _ _ _ _ _ _ _ _ c.skip.ensures, inl refl)

pub returns : goal.returns
returns c =
    let e = c.take_straight-many.ensures in (
      stretch_some _ _ _ c.reach-n.ensures
          c.if-ring-end.false e.0 c.skip-2.ensures,
      inr e.1,
    )

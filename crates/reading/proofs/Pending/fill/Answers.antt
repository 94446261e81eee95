-- `Pending::fill` meets its contract: a straight stretch is copied whole.
use mathlib.Core.Path.{sym, ◌∙◌}
use Rattle.reading.proofs.Copies.{straight_part, round_true}
use Rattle.reading.proofs.Pending.fill.Goals as goal

pub returns-then-straight-end : goal.returns-then-straight-end
returns-then-straight-end c =
    c.copy_from_slice.ensures.after ∙ straight_part _ _ _ c.straight.ensures c.if-straight-end.true

pub fill_round-requires : goal.fill_round-requires
fill_round-requires c = round_true _ _ _ (sym c.round.ensures ∙ c.if-round.true)

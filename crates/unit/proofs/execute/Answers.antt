-- `unit::execute` meets its contract: a part of the ring, or a copy, is the cursor's first bytes.
use borrow.Author.Rules.{rules}
use mathlib.Core.Path.{◌≡◌, sym, ap, ◌∙◌}
use lib.ListN.{take, replicate}
use borrow.Author.Tests.{leb-true}
use Rattle.std.proofs.lemmas.Bool.{and_parts}
use Rattle.unit.proofs.Bytes.{lent_is, copied_is}
use Rattle.unit.specs.Cursor.{bytes_at}
use Rattle.unit.proofs.execute.Goals as goal

pub returns-then-straight-end : goal.returns-then-straight-end
returns-then-straight-end c =
    let a = c.args in
    let straight = sym c.straight.ensures ∙ (and_parts c.straight.result _ c.if-straight-end.true).0 in
    let within = leb-true _ _ (and_parts c.straight.result _ c.if-straight-end.true).1 in
    rw (← lent_is a.cursor a.ring.now a.n straight within) c.apply.ensures

pub returns : goal.returns
returns c =
    let a = c.args in
    let e : take a.n c.copy.new.out ≡ bytes_at a.cursor a.ring.now a.n =
    ap (take a.n) c.copy.ensures ∙ copied_is a.cursor a.ring.now (replicate 129 0) a.n (search rules) in
    rw (← e) c.apply-2.ensures

-- `record::start::Start::write_head` meets its contract: the head fills the output, and a refusal leaves it.
use Rattle.std.proofs.Common.{◌≡◌, rules}
use Rattle.std.specs.Prelude.{Err}
use Rattle.record.proofs.Heads.{written, not_written}
use Rattle.record.proofs.start.Start.write_head.Goals as goal

pub returns-in_err-write_head : goal.returns-in_err-write_head
returns-in_err-write_head c =
    let reason = c.in_err-write_head.field-0.0 in
    let e : c.from_residual.result ≡ Err reason = search rules in
    rw e (not_written c.args.self.now _ _ _ (search rules) (search rules) reason c.in_err-write_head.ensures)

pub returns : goal.returns
returns c =
    written c.args.self.now _ _ _ (search rules) (search rules) _ c.in_ok-write_head.ensures

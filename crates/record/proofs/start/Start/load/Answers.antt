-- `record::start::Start::load` meets its contract: what the reader gives is kept, and a refusal changes nothing.
use Rattle.std.proofs.Common.{◌≡◌, rules}
use Rattle.std.specs.Prelude.{Err}
use Rattle.record.proofs.Heads.{loaded, not_loaded}
use Rattle.record.proofs.start.Start.load.Goals as goal

pub returns-in_err-registers : goal.returns-in_err-registers
returns-in_err-registers c =
    let reason = c.in_err-registers.field-0.0 in
    let e : c.from_residual.result ≡ Err reason = search rules in
    rw e (not_loaded c.args.self.now _ _ (search rules) reason c.in_err-registers.ensures)

pub returns : goal.returns
returns c = loaded c.args.self.now _ _ (search rules) _ c.in_ok-registers.ensures

-- `registers::read_register` meets its contract: an offset past the tests is that of a word, and the count's only in a valid window.
use mathlib.Core.Path.{sym, ◌∙◌}
use Rattle.fifo.proofs.WindowLaws.{valid_true}
use Rattle.registers.proofs.RegisterLaws.{readable_word, checked, WordOffset}
use Rattle.registers.proofs.read_register.Goals as goal

pub word-requires : goal.word-requires
word-requires c =
    let rules_hold = rw (c.is_computed.ensures, c.valid.ensures) at c.if-is_computed-valid.false in
    let at : WordOffset c.args.offset = readable_word _ (sym c.is_readable.ensures ∙ c.if-not-is_readable.false) c.if-offset-lt32.false in
    (at.place, λ e. valid_true _ (checked _ _ rules_hold (at.counted e)))

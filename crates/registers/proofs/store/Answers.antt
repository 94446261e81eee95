-- `registers::store` meets its contract: an offset past the tests is that of a word other than the count.
use Rattle.registers.proofs.RegisterLaws.{writable_place}
use Rattle.registers.proofs.store.Goals as goal

pub word-requires : goal.word-requires
word-requires c =
    let at = writable_place _ c.requires c.if-offset-lt32.false in
    (at.0, λ e. absurd (at.1 e))

pub with_word-fifo-requires : goal.with_word-fifo-requires
with_word-fifo-requires c = writable_place _ c.requires c.if-offset-lt32.false

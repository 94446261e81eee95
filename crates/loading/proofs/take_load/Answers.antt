-- `loading::take_load` meets its contract: where the head is there the look finds the load, if all of it is there.
use mathlib.Core.Path.{ap}
use Prim.Native.Nat.{ℕ, ◌+◌, ◌%◌}
use Rattle.loading.proofs.Stored.{head_of}
use Rattle.loading.proofs.take_load.Goals as goal

pub take_words-requires : goal.take_words-requires
take_words-requires c =
    head_of _ _ c.if-bytes-at.false c.if-bytes-at-ne-XF.false _ _ (ap (λ (x : ℕ). x % 16 + 1) c.half.ensures)
    c.half-address.ensures
    c.if-address-words-gt-XF_COUNT.false

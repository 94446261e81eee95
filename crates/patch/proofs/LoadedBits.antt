-- The BP registers after one load, bit by bit.
use mathlib.Core.Path.{◌≡◌, ap, ◌∙◌}
use mathlib.Core.Logic.{⊎_elim}
use mathlib.Core.List.{List}
use Prim.Native.Nat.{ℕ, ◌<◌}
use lib.Dec.{eqb, lit<}
use lib.ListN.{length, get_or, set, length-set}
use lib.Seq.{get_or-set_same, get_or-set_other}
use borrow.Author.Tests.{eqb-false, ne_eqb}
use Rattle.std.proofs.lemmas.Bool.{cases_Bool}
use Rattle.laws.specs.Bits.{bit}
use Rattle.effect.specs.Effect.{masked, mask_place, stored_bp, loaded_bp}
use Rattle.patch.specs.Patch.{bp_count}
use Rattle.patch.specs.Registers.{LoadedBits}
use Rattle.patch.proofs.Masked.{masked_bit}

module _ (bp : List ℕ) (r n : ℕ) (size : length bp ≡ bp_count) (l : r < bp_count) where
  abbrev new : ℕ
  new = masked (get_or bp r 0) (get_or bp mask_place 0) n

  own_at : get_or (set bp r new) r 0 ≡ new
  own_at = get_or-set_same bp r new 0 (rw size l)

  mask_there : mask_place < length (set bp r new)
  mask_there = rw (length-set, size) (lit< tt)

  at_own : get_or (loaded_bp bp r n) r 0 ≡ new
  unfolding loaded_bp stored_bp
  at_own =
      ⊎_elim
      (λ t. rw t own_at)
      (λ t. rw t (get_or-set_other (set bp r new) mask_place r 0xFFFFFF 0 (eqb-false r mask_place t) ∙ own_at))
      (cases_Bool (eqb r mask_place))

  at_mask : (r ≡ mask_place → ⊥) → get_or (loaded_bp bp r n) mask_place 0 ≡ 0xFFFFFF
  unfolding loaded_bp stored_bp
  at_mask f = rw (ne_eqb r mask_place f) (get_or-set_same (set bp r new) mask_place 0xFFFFFF 0 mask_there)

  at_others : (i : ℕ) → (i ≡ r → ⊥) → (i ≡ mask_place → ⊥) → get_or (loaded_bp bp r n) i 0 ≡ get_or bp i 0
  unfolding loaded_bp stored_bp
  at_others i f g =
      let old : get_or (set bp r new) i 0 ≡ get_or bp i 0 = get_or-set_other bp r i new 0 f in
      ⊎_elim
      (λ t. rw t old)
      (λ t. rw t (get_or-set_other (set bp r new) mask_place i 0xFFFFFF 0 g ∙ old))
      (cases_Bool (eqb r mask_place))

  pub loaded_bits : LoadedBits bp r n
  loaded_bits =
      record {
        own = λ k h. ap (bit k) at_own ∙ masked_bit k (get_or bp r 0) (get_or bp mask_place 0) n h;
        mask = at_mask;
        others = at_others;
      }

-- Which offsets the words from 020 on have.
use Prim.Native.Nat.{ℕ, ◌%◌, ◌≤◌, ◌<◌}
use mathlib.Core.Path.{◌≡◌, sym, ◌∙◌}
use mathlib.Core.Logic.{⊎_elim}
use mathlib.Core.Bool.{Bool, true, false, ◌&&◌, ◌||◌, not, false≢true}
use native.Mathlib.Omega.{arith}
use lib.Dec.{leb, eqb}
use borrow.Author.Tests.{leb-true, eqb-true, not-true, not-false}
use Rattle.std.proofs.lemmas.Bool.{and_parts, cases_lt, or_cases}
use Rattle.registers.specs.Registers.{word_at, listed, computed, readable, writable}

-- an offset of a word: its place is one of the seven, and the count's place only where the offset is the count's
pub record WordOffset (o : ℕ) : Type 0 where
  pub even : o % 2 ≡ 0
  pub place : word_at o < 7
  pub counted : word_at o ≡ 4 → computed o ≡ true

counted_at : (o : ℕ) → o % 2 ≡ 0 → 0x20 ≤ o → word_at o ≡ 4 → computed o ≡ true
unfolding computed
counted_at o e l p =
    ⊎_elim
    (λ h. let q : o ≡ 0x30 = omega (arith, h) in rw q)
    (λ h. let q : o ≡ 0x32 = omega (arith, h) in rw q)
    (cases_lt o 0x31)

word_offset : (o : ℕ) → listed o ≡ true → 0x20 ≤ o → WordOffset o
unfolding listed
word_offset o e l =
    let rest = leb o 4 || leb 0x20 o && leb o 0x3A in
    let even : o % 2 ≡ 0 = eqb-true _ _ (and_parts (eqb (o % 2) 0) rest e).0 in
    let top : o ≤ 0x3A =
    ⊎_elim
    (λ h. omega (arith, leb-true o 4 h))
    (λ h. leb-true o 0x3A (and_parts (leb 0x20 o) (leb o 0x3A) h).1)
    (or_cases (leb o 4) (leb 0x20 o && leb o 0x3A) (and_parts (eqb (o % 2) 0) rest e).1) in
    record { even = even; place = omega arith; counted = counted_at o even l }

pub readable_word : (o : ℕ) → readable o ≡ true → 0x20 ≤ o → WordOffset o
unfolding readable
readable_word o e = word_offset o (and_parts (listed o) (not (eqb o 4)) e).0

pub writable_word : (o : ℕ) → writable o ≡ true → 0x20 ≤ o → WordOffset o
unfolding writable
writable_word o e = word_offset o (and_parts (listed o) (not (computed o)) e).0

-- a register that is written is not computed
pub writable_stored : (o : ℕ) → writable o ≡ true → computed o ≡ false
unfolding writable
writable_stored o e = not-true (computed o) (and_parts (listed o) (not (computed o)) e).1

-- a word that is written is not the count
pub writable_place : (o : ℕ) → writable o ≡ true → 0x20 ≤ o → (word_at o < 7) × (word_at o ≡ 4 → ⊥)
writable_place o e l =
    let w : WordOffset o = writable_word o e l in
    (w.place, λ p. false≢true (sym (writable_stored o e) ∙ w.counted p))

-- a rule that is tested where it counts holds where it counts
pub checked : (t u : Bool) → (t && not u) ≡ false → t ≡ true → u ≡ true
checked true u e h = not-false u e
checked false u e h = absurd (false≢true h)

-- "Each half takes effect at once": a half that is written is read back, and every other half of every stored word is as it was.
use Prim.Native.Nat.{ℕ, zero, suc, ◌+◌, ◌*◌, ◌/◌, ◌%◌, ◌≤◌, ◌<◌}
use mathlib.Core.Path.{◌≡◌, refl, sym, ap, ◌∙◌}
use mathlib.Core.Logic.{⊎_elim}
use mathlib.Core.Bool.{Bool, true, false, cond, not, false≢true}
use mathlib.Core.List.{List}
use native.Mathlib.Omega.{arith}
use lib.Dec.{eqb}
use lib.ListN.{get_or, set}
use lib.Seq.{get_or-set_same, get_or-set_other}
use borrow.Author.Tests.{eq-eqb, ne_eqb, eqb-true, eqb-false, le-ltb}
use Rattle.std.proofs.lemmas.Bool.{cases_Bool}
use Rattle.fifo.specs.declared.Window.{Window}
use Rattle.registers.specs.Registers.{words, from_words, word_at, is_high, half_of, with_half, value_of, with_register, stored}
use Rattle.registers.specs.Promises.{StoredHalf, ReadsBack}
use Rattle.registers.proofs.RegisterLaws.{WordOffset, writable_word, writable_stored}

-- the stored words of a window that is made of words
words_from : (l : List ℕ) (k : ℕ) → k < 7 → (k ≡ 4 → ⊥) → get_or (words (from_words l)) k 0 ≡ get_or l k 0
words_from l zero h n = refl
words_from l (suc zero) h n = refl
words_from l (suc (suc zero)) h n = refl
words_from l (suc (suc (suc zero))) h n = refl
words_from l (suc (suc (suc (suc zero)))) h n = absurd (n refl)
words_from l (suc (suc (suc (suc (suc zero))))) h n = refl
words_from l (suc (suc (suc (suc (suc (suc zero)))))) h n = refl
words_from l (suc (suc (suc (suc (suc (suc (suc k))))))) h n = absurd (past k h)
  where
    past : (k : ℕ) → suc (suc (suc (suc (suc (suc (suc k)))))) < 7 → ⊥
    past k h = omega arith

-- whether two tests agree
abbrev agree : Bool → Bool → Bool
agree true u = u
agree false u = not u

-- a half that is replaced is read back, and the other is as it was
half_back : (g h : Bool) (x v : ℕ) → v < 0x10000 → half_of g (with_half h x v) ≡ cond (agree g h) v (half_of g x)
unfolding half_of with_half
half_back true true x v l = omega arith
half_back true false x v l = omega arith
half_back false true x v l = omega arith
half_back false false x v l = omega arith

-- an even offset from 020 on, by its word and its half
offset_is : (o : ℕ) → o % 2 ≡ 0 → 0x20 ≤ o → o ≡ 0x20 + 4 * word_at o + 2 * (o / 2 % 2)
offset_is o e l = omega arith

low_is : (o : ℕ) → is_high o ≡ false → o / 2 % 2 ≡ 0
low_is o h = omega (arith, eqb-false (o / 2 % 2) 1 h)

-- even offsets of one word are the same exactly if both are of the same half
same_by : (p o x y : ℕ) (g h : Bool) → is_high p ≡ g → is_high o ≡ h
    → p ≡ 0x20 + 4 * x + 2 * (p / 2 % 2) → o ≡ 0x20 + 4 * y + 2 * (o / 2 % 2) → x ≡ y → eqb p o ≡ agree g h
same_by p o x y true true a b e f w = eq-eqb p o (omega (arith, eqb-true (p / 2 % 2) 1 a, eqb-true (o / 2 % 2) 1 b))
same_by p o x y true false a b e f w = ne_eqb p o (λ q. omega (arith, eqb-true (p / 2 % 2) 1 a, low_is o b))
same_by p o x y false true a b e f w = ne_eqb p o (λ q. omega (arith, low_is p a, eqb-true (o / 2 % 2) 1 b))
same_by p o x y false false a b e f w = eq-eqb p o (omega (arith, low_is p a, low_is o b))

module _ (w : Window) (o p v : ℕ) (a : StoredHalf o) (b : StoredHalf p) (l : v < 0x10000) where
  at_o : WordOffset o
  at_o = writable_word o a.written a.from

  at_p : WordOffset p
  at_p = writable_word p b.written b.from

  not_count : word_at p ≡ 4 → ⊥
  not_count e = false≢true (sym (writable_stored p b.written) ∙ at_p.counted e)

  new : ℕ
  new = with_half (is_high o) (get_or (words w) (word_at o) 0) v

  read_word : get_or (words (with_register w o v)) (word_at p) 0 ≡ get_or (set (words w) (word_at o) new) (word_at p) 0
  unfolding with_register new
  read_word = words_from (set (words w) (word_at o) new) (word_at p) at_p.place not_count

  pub half_read : half_of (is_high p) (get_or (words (with_register w o v)) (word_at p) 0)
      ≡ cond (eqb p o) v (half_of (is_high p) (get_or (words w) (word_at p) 0))
  unfolding new
  half_read =
      ap (half_of (is_high p)) read_word ∙
      ⊎_elim
      (λ t.
      let e : word_at p ≡ word_at o = eqb-true (word_at p) (word_at o) t in
      let q : eqb p o ≡ agree (is_high p) (is_high o) =
      same_by p o (word_at p) (word_at o) (is_high p) (is_high o) refl refl (offset_is p at_p.even b.from)
      (offset_is o at_o.even a.from) e in
      rw (e, q, get_or-set_same (words w) (word_at o) new 0 at_o.place)
      (half_back (is_high p) (is_high o) (get_or (words w) (word_at o) 0) v l))
      (λ t.
      let n : word_at p ≡ word_at o → ⊥ = eqb-false (word_at p) (word_at o) t in
      let q : eqb p o ≡ false = ne_eqb p o (λ s. n (ap (λ (x : ℕ). word_at x) s)) in
      rw (q, get_or-set_other (words w) (word_at o) (word_at p) new 0 n))
      (cases_Bool (eqb (word_at p) (word_at o)))

pub read_back : ReadsBack
unfolding value_of stored
read_back f drawing o p v a b l =
    rw (
      ne_eqb o 4 (λ e. omega (arith, a.from)),
      le-ltb o 0x20 a.from,
      ne_eqb p 0 (λ e. omega (arith, b.from)),
      le-ltb p 0x20 b.from,
    )
    (half_read f.window o p v a b l)

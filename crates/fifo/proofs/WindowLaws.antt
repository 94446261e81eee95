-- Laws of the window's rules and of the count.
use Prim.Native.Nat.{ℕ, ◌+◌, ◌-◌, ◌<◌}
use mathlib.Core.Path.{◌≡◌}
use mathlib.Core.Logic.{◌⊎◌, inl, inr, ⊎_elim}
use mathlib.Core.Bool.{true}
use native.Mathlib.Nat.{mod-lt}
use native.Mathlib.Omega.{arith}
use lib.Dec.{eqb}
use lib.ListN.{get_or}
use borrow.Author.Tests.{ltb-true, leb-true, eqb-true, lt-ltb, le-leb, lt-leb, eq-eqb}
use Rattle.std.proofs.lemmas.Bool.{and_parts, cases_lt}
use Rattle.laws.proofs.Tests.{all_hold}
use Rattle.laws.proofs.Remainder.{mod_two}
use Rattle.fifo.specs.declared.Window.{Window}
use Rattle.fifo.specs.declared.Fifo.{Fifo}
use Rattle.fifo.specs.Window.{size_of, Valid, rules, valid_by, Ready, ready_by, count_of, gap_of}

-- a passed test gives the rules
pub valid_true : (w : Window) → valid_by w ≡ true → Valid w
unfolding valid_by
valid_true w e =
    let t : (k : ℕ) → get_or (rules w) k true ≡ true = all_hold (rules w) e in
    record {
      least = leb-true _ _ (t 0);
      most = leb-true _ _ (t 1);
      start_32 = eqb-true _ _ (t 2);
      size_32 = eqb-true _ _ (t 3);
      write_from = leb-true _ _ (t 4);
      write_below = ltb-true _ _ (t 5);
      read_from = leb-true _ _ (t 6);
      read_below = ltb-true _ _ (t 7);
    }

-- the rules pass the test
pub true_valid : (w : Window) → Valid w → valid_by w ≡ true
unfolding valid_by
true_valid w v =
    rw (
      le-leb _ _ v.least,
      le-leb _ _ v.most,
      eq-eqb _ _ v.start_32,
      eq-eqb _ _ v.size_32,
      le-leb _ _ v.write_from,
      lt-ltb _ _ v.write_below,
      le-leb _ _ v.read_from,
      lt-ltb _ _ v.read_below,
    )

pub ready_true : (f : Fifo) (n : ℕ) → ready_by f n ≡ true → Ready f n
unfolding ready_by
ready_true f n e =
    record {
      valid = valid_true f.window (and_parts (valid_by f.window) (eqb n (size_of f.window)) e).0;
      whole = eqb-true _ _ (and_parts (valid_by f.window) (eqb n (size_of f.window)) e).1;
    }

pub true_ready : (f : Fifo) (n : ℕ) → Ready f n → ready_by f n ≡ true
unfolding ready_by
true_ready f n r = rw (true_valid f.window r.valid, eq-eqb _ _ r.whole)

-- the count, without a remainder
pub count_cases : (w : Window) → Valid w → (count_of w + w.read ≡ w.write) ⊎ (count_of w + w.read ≡ w.write + size_of w)
unfolding count_of
count_cases w v =
    ⊎_elim
    (λ l. inr (omega (arith, l)))
    (λ l. inl (omega (arith, l)))
    (mod_two (w.write + size_of w - w.read) (size_of w) (omega arith))

pub count_below : (w : Window) → Valid w → count_of w < size_of w
unfolding count_of
count_below w v = mod-lt _ (omega arith)

-- what the code computes is the count
pub gap_count : (w : Window) → Valid w → gap_of w ≡ count_of w
unfolding gap_of
gap_count w v =
    let b : count_of w < size_of w = count_below w v in
    ⊎_elim
    (λ l. rw (lt-leb w.read w.write l) (⊎_elim (λ k. omega (arith, k)) (λ k. omega (arith, k)) (count_cases w v)))
    (λ l. rw (le-leb w.read w.write l) (⊎_elim (λ k. omega (arith, k)) (λ k. omega (arith, k)) (count_cases w v)))
    (cases_lt w.write w.read)

pub gap_valid : (w : Window) → valid_by w ≡ true → gap_of w ≡ count_of w
gap_valid w e = gap_count w (valid_true w e)

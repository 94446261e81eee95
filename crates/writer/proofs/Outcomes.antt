-- What `write` promises, answer by answer.
use mathlib.Core.Path.{◌≡◌, refl, sym, ap, ◌∙◌}
use mathlib.Core.Bool.{Bool, true, false, cond, not, ◌&&◌}
use mathlib.Core.List.{List, [], ◌∷◌, ◌++◌}
use Prim.Native.Nat.{ℕ, ◌+◌, ◌*◌, ◌<◌, ◌≤◌}
use native.Mathlib.Omega.{arith}
use lib.Dec.{leb, eqb}
use lib.ListN.{length, take, length-append}
use lib.Seq.{length-take-le}
use borrow.Author.Tests.{not-false, eqb-true, lt-ltb, le-ltb}
use Rattle.std.proofs.lemmas.Bool.{and_parts}
use Rattle.refusal.specs.Number.{number}
use Rattle.refusal.specs.declared.Reason.{Reason}
use Rattle.refusal.specs.declared.Reason.TheVariants.{OutputShort}
use Rattle.refusal.proofs.Positive.{not_zero}
use Rattle.command.specs.Command.{kind_of, field_of}
use Rattle.std.specs.Prelude.{Ok, Err}
use Rattle.writer.specs.Write.{head_of, words_of, word_bytes, command_bytes}
use Rattle.writable.specs.Writable.{unwritable, unaddressed}
use Rattle.writable.specs.Writable.{past_end}
use Rattle.writer.specs.Write.{refusal_of, placed, Writes}
use Rattle.octets.proofs.Words.{length_words}

-- a writable command is lent the words that it names
words_by_lem : (k f lent : ℕ) (t : Bool) → eqb k 0x10 ≡ t → (b : Bool)
    → cond (eqb k 0x01) true (cond t (not (leb 1 f && (leb f 16 && eqb f lent))) b) ≡ false → cond t f 0 ≤ lent
words_by_lem k f lent false e b h = omega arith
words_by_lem k f lent true e b h =
    let is : k ≡ 0x10 = eqb-true k 0x10 e in
    let g : not (leb 1 f && (leb f 16 && eqb f lent)) ≡ false = rw is at h in
    let all : (leb 1 f && (leb f 16 && eqb f lent)) ≡ true = not-false (leb 1 f && (leb f 16 && eqb f lent)) g in
    let same : f ≡ lent = eqb-true f lent (and_parts (leb f 16) (eqb f lent) (and_parts (leb 1 f) (leb f 16 && eqb f lent) all).1).1 in
    omega arith

pub words_lent : (c : List ℕ) (lent : ℕ) → unwritable c lent ≡ false → words_of c ≤ lent
unfolding unwritable words_of
words_lent c lent h = words_by_lem (kind_of c) (field_of c 1) lent (eqb (kind_of c) 0x10) refl _ h

module _ (c words out : List ℕ) where
  -- a refusal leaves the output as it was
  refuses : (r : Reason) → refusal_of c words (length out) ≡ number r → Writes c words out (Err r) out
  refuses r e =
      let f : eqb (refusal_of c words (length out)) 0 ≡ false = not_zero r e in
      record { answer_is = rw f (ap (λ (n : ℕ). n ∷ []) (sym e)); out_is = rw f }

  module _ (w : unwritable c (length words) ≡ false) (a : unaddressed c ≡ false) (p : past_end c ≡ false) where
    size : length (command_bytes c words) ≡ length (head_of c) + 4 * words_of c
    unfolding command_bytes
    size =
        let l : length (take (words_of c) words) ≡ words_of c = length-take-le (words_of c) words (words_lent c (length words) w) in
        rw (length-append, length_words) (omega arith)

    pub by_room : length out < length (head_of c) + 4 * words_of c → Writes c words out (Err OutputShort) out
    unfolding refusal_of
    by_room h = refuses OutputShort (rw (w, a, p, lt-ltb (length out) (length (command_bytes c words)) (omega (arith, size))))

    accepted : length (head_of c) + 4 * words_of c ≤ length out → refusal_of c words (length out) ≡ 0
    unfolding refusal_of
    accepted h = rw (w, a, p, le-ltb (length out) (length (command_bytes c words)) (omega (arith, size)))

    pub by_writing : (at n : ℕ) (head out' : List ℕ) → at ≡ length (head_of c) → head ≡ head_of c → n ≡ words_of c → at + 4 * n ≤ length out
        → out' ≡ placed (head ++ word_bytes (take n words)) out
        → Writes c words out (Ok (at + 4 * n)) out'
    unfolding command_bytes
    by_writing at n head out' d e f h o =
        let z : refusal_of c words (length out) ≡ 0 = accepted (rw (← d, ← f) h) in
        let k : at + 4 * n ≡ length (command_bytes c words) = rw (d, f) (sym size) in
        record { answer_is = rw (z, k); out_is = rw z (o ∙ rw (e, f)) }

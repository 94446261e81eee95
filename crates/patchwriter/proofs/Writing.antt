-- The bytes of a patch, register by register, and what `write` promises, answer by answer.
use mathlib.Core.Path.{◌≡◌, refl, sym, ap, ◌∙◌, subst}
use mathlib.Core.Bool.{Bool, false, cond, not}
use mathlib.Core.List.{List, [], ◌∷◌, ◌++◌, append_assoc, append-nil}
use Prim.Native.Nat.{ℕ, zero, suc, ◌+◌, ◌-◌, ◌*◌, ◌^◌, ◌≤◌, ◌<◌}
use native.Mathlib.Numerals.{add-one}
use native.Mathlib.Omega.{arith}
use lib.Dec.{eqb}
use lib.ListN.{length, take, drop, length-append, length-take, length-drop, drop_of_length-le}
use lib.Seq.{drop-cons}
use borrow.Author.Tests.{ne_eqb, lt-ltb, le-ltb}
use borrow.Rule.Slice.PartMut.{put_mid}
use Rattle.laws.proofs.Pieces.{Pieces, pieces_none, pieces_next, pieces_fit, pieces_all, lent_rest}
use Rattle.refusal.specs.Number.{number}
use Rattle.refusal.specs.declared.Reason.{Reason}
use Rattle.refusal.specs.declared.Reason.TheVariants.{OutputShort}
use Rattle.refusal.proofs.Positive.{not_zero}
use Rattle.command.specs.Command.{load_bp}
use Rattle.effect.specs.Effect.{mask_place}
use Rattle.std.specs.Prelude.{Result, Ok, Err, IsOk}
use Rattle.std.specs.List.{count_by}
use Rattle.std.proofs.lemmas.List.Sums.{sum_by-cons}
use Rattle.writer.specs.Write.{command_bytes, placed, Writes}
use Rattle.patch.proofs.Faults.{sound}
use Rattle.patch.specs.Patch.{bp_count, Patch, mask_at, number_at, IsAccepted}
use Rattle.patchwriter.specs.Commands.{commands_at, commands_from, commands_of, bytes_of_commands, patch_bytes}
use Rattle.patchwriter.specs.Answers.{write_refusal, WritesPatch}
use Rattle.patchwriter.specs.Writing.{size_of, Puts}
use Rattle.patchwriter.proofs.Loads.{load_length, load_written, load_answered}

-- the bytes of commands are those of the first, then those of the others
pub bytes_append : (cs ds : List (List ℕ)) → bytes_of_commands (cs ++ ds) ≡ bytes_of_commands cs ++ bytes_of_commands ds
unfolding bytes_of_commands
bytes_append [] ds = refl
bytes_append (c ∷ cs) ds =
    ap (λ (x : List ℕ). command_bytes c [] ++ x) (bytes_append cs ds)
    ∙ sym (append_assoc (command_bytes c []) (bytes_of_commands cs) (bytes_of_commands ds))

-- ---- one register

abbrev bytes_at : ℕ → ℕ → ℕ → List ℕ
bytes_at r m n = bytes_of_commands (commands_at r m n)

at_none : (r m n : ℕ) → m ≡ 0 → bytes_at r m n ≡ []
unfolding commands_at bytes_of_commands
at_none r m n e = ap (λ (x : ℕ). bytes_at r x n) e

at_named : (r m n : ℕ) → (m ≡ 0 → ⊥) → bytes_at r m n ≡ command_bytes (load_bp mask_place m) [] ++ command_bytes (load_bp r n) []
unfolding commands_at bytes_of_commands
at_named r zero n h = absurd (h refl)
at_named r (suc m) n h =
    ap (λ (x : List ℕ). command_bytes (load_bp mask_place (suc m)) [] ++ x) (append-nil (command_bytes (load_bp r n) []))

some : (m : ℕ) → (suc m ≡ 0 → ⊥)
some m e = omega arith

at_size : (r m n : ℕ) → length (bytes_at r m n) ≡ 10 * cond (not (eqb m 0)) 1 0
at_size r zero n = ap (λ (x : List ℕ). length x) (at_none r 0 n refl)
at_size r (suc m) n =
    rw (
      ne_eqb (suc m) 0 (some m),
      at_named r (suc m) n (some m),
      length-append (command_bytes (load_bp mask_place (suc m)) []) (command_bytes (load_bp r n) []),
      load_length mask_place (suc m),
      load_length r n,
    )

-- ---- the registers from r on

pub bytes_from : ℕ → Patch → List ℕ
bytes_from r p = bytes_of_commands (commands_from (bp_count - r) r p)

left : (r : ℕ) → r < bp_count → bp_count - r ≡ suc (bp_count - (r + 1))
left r h = omega arith

from_next : (p : Patch) (r : ℕ) → r < bp_count → bytes_from r p ≡ bytes_at r (mask_at p r) (number_at p r) ++ bytes_from (r + 1) p
unfolding bytes_from commands_from
from_next p r h =
    ap (λ (x : ℕ). bytes_of_commands (commands_from x r p)) (left r h)
    ∙ bytes_append (commands_at r (mask_at p r) (number_at p r)) (commands_from (bp_count - (r + 1)) (suc r) p)
    ∙ ap (λ (x : ℕ). bytes_at r (mask_at p r) (number_at p r) ++ bytes_of_commands (commands_from (bp_count - (r + 1)) x p))
    (sym (add-one r))

-- a register more
size_more : (m : ℕ) (ms : List ℕ) → size_of (m ∷ ms) ≡ 10 * cond (not (eqb m 0)) 1 0 + size_of ms
size_more m ms =
    let named : ℕ → Bool = λ mask. not (eqb mask 0) in
    let e : count_by named (m ∷ ms) ≡ cond (named m) 1 0 + count_by named ms = sum_by-cons (λ mask. cond (named mask) 1 0) m ms in
    omega arith

from_size : (n r : ℕ) (p : Patch) → r + n ≡ length p.masks
    → length (bytes_of_commands (commands_from n r p)) ≡ size_of (drop r p.masks)
unfolding commands_from bytes_of_commands
from_size zero r p e = ap size_of (sym (drop_of_length-le p.masks (omega arith)))
from_size (suc n) r p e =
    let here : length (bytes_at r (mask_at p r) (number_at p r)) ≡ 10 * cond (not (eqb (mask_at p r) 0)) 1 0 =
    at_size r (mask_at p r) (number_at p r) in
    let next : length (bytes_of_commands (commands_from n (suc r) p)) ≡ size_of (drop (suc r) p.masks) =
    from_size n (suc r) p (omega arith) in
    ap (λ (x : List ℕ). length x) (bytes_append (commands_at r (mask_at p r) (number_at p r)) (commands_from n (suc r) p))
    ∙ length-append (bytes_at r (mask_at p r) (number_at p r)) (bytes_of_commands (commands_from n (suc r) p))
    ∙ (omega (arith, here, next, size_more (mask_at p r) (drop (suc r) p.masks)))
    ∙ ap size_of (sym (drop-cons p.masks r 0 (omega arith)))

pub patch_size : (p : Patch) → length p.masks ≡ bp_count → length (patch_bytes p) ≡ size_of p.masks
unfolding patch_bytes commands_of
patch_size p e = from_size bp_count 0 p (sym e)

-- ---- the loop that writes them

-- the registers before r are written
pub record Writing (p : Patch) (out₀ out : List ℕ) (at r : ℕ) : Type 0 where
  pub pieces : Pieces (patch_bytes p) out₀ out at (bytes_from r p)

pub writing_none : (p : Patch) (out : List ℕ) → length p.masks ≡ bp_count → size_of p.masks ≤ length out → Writing p out out 0 0
unfolding bytes_from patch_bytes commands_of
writing_none p out e h = record { pieces = pieces_none (patch_bytes p) out (subst (λ (x : ℕ). x ≤ length out) (sym (patch_size p e)) h) }

module _ {p : Patch} {r : ℕ} {out₀ out : List ℕ} {at : ℕ} where
  pub writing_skip : Writing p out₀ out at r → r < bp_count → mask_at p r ≡ 0 → Writing p out₀ out at (r + 1)
  writing_skip h l e =
      record {
        pieces =
            subst (λ (x : List ℕ). Pieces (patch_bytes p) out₀ out at x)
            (from_next p r l ∙ ap (λ (x : List ℕ). x ++ bytes_from (r + 1) p) (at_none r (mask_at p r) (number_at p r) e)) h.pieces;
      }

  -- the two loads of a register that is named
  pub writing_named : Writing p out₀ out at r → r < bp_count → (mask_at p r ≡ 0 → ⊥)
      → Pieces (patch_bytes p) out₀ out at
      (command_bytes (load_bp mask_place (mask_at p r)) [] ++ (command_bytes (load_bp r (number_at p r)) [] ++ bytes_from (r + 1) p))
  writing_named h l f =
      subst (λ (x : List ℕ). Pieces (patch_bytes p) out₀ out at x)
      (from_next p r l ∙ ap (λ (x : List ℕ). x ++ bytes_from (r + 1) p) (at_named r (mask_at p r) (number_at p r) f)
      ∙ append_assoc (command_bytes (load_bp mask_place (mask_at p r)) []) (command_bytes (load_bp r (number_at p r)) [])
      (bytes_from (r + 1) p))
      h.pieces

  pub writing_all : Writing p out₀ out at r → r ≡ bp_count → out ≡ placed (patch_bytes p) out₀
  unfolding bytes_from commands_from bytes_of_commands
  writing_all h e = pieces_all (subst (λ (x : ℕ). Pieces (patch_bytes p) out₀ out at (bytes_from x p)) e h.pieces)

-- a load, written into what is left from a place on
module _ (out v : List ℕ) (at register n : ℕ) {w : Result ℕ Reason} (h : at + 5 ≤ length out) (k : n < 2 ^ 24)
    (e : Writes (load_bp register n) [] (take (length out - at) (drop at out)) w v) where
  room : 5 ≤ length (take (length out - at) (drop at out))
  room = simp (length-take, length-drop) (omega arith)

  answered : w ≡ Ok 5
  answered = load_answered register n k room e

  pub put_answered : IsOk w
  put_answered = rw answered

  pub put_done : (size : ℕ) → w ≡ Ok size → Puts out at register n (at + size) (put_mid at (length out - at) out v)
  put_done size f =
      let b : List ℕ = command_bytes (load_bp register n) [] in
      let g : ◌≡◌ {A = Result ℕ Reason} (Ok size) (Ok 5) = sym f ∙ answered in
      record {
        next_is = let five : size ≡ 5 = cc in omega arith;
        out_is =
            lent_rest out b v at (load_written register n k room e)
            ∙ ap (λ (x : ℕ). take at out ++ (b ++ drop x (drop at out))) (load_length register n);
      }

-- there is room for the next load
pub load_fits : {w out₀ out : List ℕ} {at : ℕ} (register n : ℕ) (q : List ℕ)
    → Pieces w out₀ out at (command_bytes (load_bp register n) [] ++ q) → at + 5 ≤ length out
load_fits register n q h =
    omega (arith, pieces_fit h, length-append (command_bytes (load_bp register n) []) q, load_length register n)

-- one load more
pub writing_put : {w out₀ out out' q : List ℕ} {at next register n : ℕ} → Pieces w out₀ out at (command_bytes (load_bp register n) [] ++ q)
    → Puts out at register n next out' → Pieces w out₀ out' next q
writing_put {w} {out₀} {out} {out'} {q} {at} {next} {register} {n} h e =
    rw (e.out_is, e.next_is, ← load_length register n) (pieces_next (command_bytes (load_bp register n) []) q h)

-- ---- the answers

module _ (p : Patch) (out : List ℕ) where
  refuses : (r : Reason) → write_refusal p (length out) ≡ number r → WritesPatch p out (Err r) out
  refuses r e =
      let f : eqb (write_refusal p (length out)) 0 ≡ false = not_zero r e in
      record { answer_is = rw f (ap (λ (n : ℕ). n ∷ []) (sym e)); out_is = rw f }

  module _ (ok : IsAccepted p) (n : ℕ) (size : n ≡ size_of p.masks) where
    same : n ≡ length (patch_bytes p)
    same = size ∙ sym (patch_size p (sound p ok).masks_size)

    pub by_room : length out < n → WritesPatch p out (Err OutputShort) out
    unfolding write_refusal
    by_room h = refuses OutputShort (rw (ok, lt-ltb (length out) (length (patch_bytes p)) (omega (arith, same))))

    pub by_writing : (out' : List ℕ) → n ≤ length out → out' ≡ placed (patch_bytes p) out → WritesPatch p out (Ok n) out'
    unfolding write_refusal
    by_writing out' h e =
        let z : write_refusal p (length out) ≡ 0 = rw (ok, le-ltb (length out) (length (patch_bytes p)) (omega (arith, same))) in
        record { answer_is = rw (z, same); out_is = rw z e }

-- Executing the commands of patches gives what the rules give for the merged patch.
use mathlib.Core.Path.{◌≡◌, refl, sym, ap, ◌∙◌, subst}
use mathlib.Core.Logic.{◌↔◌, ◌≢◌, inl, inr}
use mathlib.Core.List.{List, [], ◌∷◌, ◌++◌}
use Prim.Native.Nat.{ℕ, zero, suc, ◌+◌, ◌^◌, ◌≤◌, ◌<◌, zero-le}
use native.Mathlib.Nat.{zero-add, eq-or-lt_of_le}
use native.Mathlib.Decide.{ℕ_discrete}
use native.Mathlib.Omega.{arith}
use lib.Dec.{lit<, lit≤}
use lib.ListN.{length, get_or, set, length-set}
use lib.Seq.{ext_get_or, get_or-set_same, get_or-set_other, set-set, set_comm, set-get_or}
use borrow.Author.Tests.{ne_eqb}
use Rattle.effect.specs.Effect.{masked, mask_place, stored_bp, loaded_bp, bp_after}
use Rattle.patch.specs.Patch.{bp_count, Patch, mask_at, number_at, IsAccepted, AllAccepted}
use Rattle.patch.specs.Patch.{applied_to, merged_of, blank, merged_from, merged_all}
use Rattle.patch.specs.Registers.{Open, Agree}
use Rattle.patchwriter.specs.Commands.{commands_at, commands_from, commands_of, commands_of_all, bp_after_all}
use Rattle.patch.proofs.Faults.{Sound, sound}
use Rattle.patch.proofs.Masked.{masked_lt, masked_none, masked_full}
use Rattle.patch.proofs.Algebra.{applied_at, applied_size, applied_open, applied_blank, applied_merged, applied_swap}
use Rattle.patch.proofs.Algebra.{merged_accepted, blank_accepted}

pub after_append : (cs ds : List (List ℕ)) (bp : List ℕ) → bp_after_all (cs ++ ds) bp ≡ bp_after_all ds (bp_after_all cs bp)
unfolding bp_after_all
after_append [] ds bp = refl
after_append (c ∷ cs) ds bp = after_append cs ds (bp_after c bp)

-- ---- a load of FE and a load of a register

-- a load of FE from FFFFFF
load_mask : (bp : List ℕ) (m : ℕ) → get_or bp mask_place 0 ≡ 0xFFFFFF → m < 2 ^ 24 → loaded_bp bp mask_place m ≡ set bp mask_place m
unfolding loaded_bp stored_bp
load_mask bp m e h = ap (λ (x : ℕ). set bp mask_place x) (rw e (masked_full 0xFFFFFF m h))

load_other : (bp : List ℕ) (r n : ℕ) → r ≢ mask_place
    → loaded_bp bp r n ≡ set (set bp r (masked (get_or bp r 0) (get_or bp mask_place 0) n)) mask_place 0xFFFFFF
unfolding loaded_bp stored_bp
load_other bp r n f = rw (ne_eqb r mask_place f)

-- FE set and opened again, with r stored between
set_between : (bp : List ℕ) (r m v : ℕ) → get_or bp mask_place 0 ≡ 0xFFFFFF → r ≢ mask_place
    → set (set (set bp mask_place m) r v) mask_place 0xFFFFFF ≡ set bp r v
set_between bp r m v e f =
    ap (λ (x : List ℕ). set x mask_place 0xFFFFFF) (set_comm bp mask_place r m v (λ q. f (sym q)))
    ∙ set-set (set bp r v) mask_place m 0xFFFFFF
    ∙ ap (λ (x : ℕ). set (set bp r v) mask_place x) (sym e ∙ sym (get_or-set_other bp r mask_place v 0 (λ q. f (sym q))))
    ∙ set-get_or (set bp r v) mask_place 0

-- after the two FE is open again, and the register is masked
pub load_pair : (bp : List ℕ) (r m n : ℕ) → length bp ≡ bp_count → get_or bp mask_place 0 ≡ 0xFFFFFF → r ≢ mask_place → m < 2 ^ 24
    → loaded_bp (loaded_bp bp mask_place m) r n ≡ set bp r (masked (get_or bp r 0) m n)
load_pair bp r m n z e f h =
    rw (
      load_mask bp m e h,
      load_other (set bp mask_place m) r n f,
      get_or-set_other bp mask_place r m 0 f,
      get_or-set_same bp mask_place m 0 (omega arith),
    )
    (set_between bp r m (masked (get_or bp r 0) m n) e f)

-- ---- the commands of one patch

-- the registers with the patch's bits of register r
abbrev patched : Patch → ℕ → List ℕ → List ℕ
patched p r bp = set bp r (masked (get_or bp r 0) (mask_at p r) (number_at p r))

module _ (p : Patch) (ok : Sound p) where
  not_mask : (r m : ℕ) → mask_at p r ≡ suc m → r ≢ mask_place
  not_mask r m e q = let z : suc m ≡ 0 = sym e ∙ ap (mask_at p) q ∙ ok.mask_mask in omega arith

  pair_patched : (r : ℕ) (bp : List ℕ) → Open bp → r < bp_count
      → bp_after_all (commands_at r (mask_at p r) (number_at p r)) bp ≡ patched p r bp
  unfolding bp_after_all commands_at bp_after
  pair_patched r bp g l = go (mask_at p r) refl
    where
      go : (m : ℕ) → mask_at p r ≡ m
          → bp_after_all (commands_at r m (number_at p r)) bp ≡ set bp r (masked (get_or bp r 0) m (number_at p r))
      go zero e = sym (ap (λ (x : ℕ). set bp r x) (masked_none (get_or bp r 0) (number_at p r) (g.wide r l)) ∙ set-get_or bp r 0)
      go (suc m) e = load_pair bp r (suc m) (number_at p r) g.size g.unmasked (not_mask r m e) (rw e at (ok.small r l))

  at_same : (r : ℕ) (bp : List ℕ) → Open bp → r < bp_count
      → get_or (patched p r bp) r 0 ≡ masked (get_or bp r 0) (mask_at p r) (number_at p r)
  at_same r bp g l = get_or-set_same bp r _ 0 (rw g.size l)

  at_other : (r i : ℕ) (bp : List ℕ) → i ≢ r → get_or (patched p r bp) i 0 ≡ get_or bp i 0
  at_other r i bp f = get_or-set_other bp r i _ 0 f

  patched_open : (r : ℕ) (bp : List ℕ) → Open bp → r < bp_count → Open (patched p r bp)
  patched_open r bp g l =
      record {
        size = length-set bp r _ ∙ g.size;
        wide = λ i h. wide_at i h (ℕ_discrete i r);
        unmasked = mask_at_lem (ℕ_discrete mask_place r);
      }
    where
      wide_at : (i : ℕ) → i < bp_count → Dec (i ≡ r) → get_or (patched p r bp) i 0 < 2 ^ 24
      wide_at i h (yes q) = rw (q, at_same r bp g l) (masked_lt _ _ _ (ok.small r l))
      wide_at i h (no f) = rw (at_other r i bp f) (g.wide i h)

      mask_at_lem : Dec (mask_place ≡ r) → get_or (patched p r bp) mask_place 0 ≡ 0xFFFFFF
      mask_at_lem (yes q) =
          subst (λ (x : ℕ). get_or (patched p x bp) mask_place 0 ≡ 0xFFFFFF) q
          (at_same mask_place bp g (lit< tt) ∙ rw ok.mask_mask (masked_none _ _ (g.wide mask_place (lit< tt)) ∙ g.unmasked))
      mask_at_lem (no f) = at_other r mask_place bp f ∙ g.unmasked

  one_more : (n r : ℕ) (bp : List ℕ) → Open bp → r < bp_count
      → bp_after_all (commands_from (suc n) r p) bp ≡ bp_after_all (commands_from n (suc r) p) (patched p r bp)
  unfolding commands_from
  one_more n r bp g l =
      after_append (commands_at r (mask_at p r) (number_at p r)) (commands_from n (suc r) p) bp
      ∙ ap (bp_after_all (commands_from n (suc r) p)) (pair_patched r bp g l)

  -- the registers below r stay
  keeps : (n r i : ℕ) (bp : List ℕ) → Open bp → r + n ≤ bp_count → i < r
      → get_or (bp_after_all (commands_from n r p) bp) i 0 ≡ get_or bp i 0
  unfolding bp_after_all commands_from
  keeps zero r i bp g l h = refl
  keeps (suc n) r i bp g l h =
      ap (λ (x : List ℕ). get_or x i 0) (one_more n r bp g (omega arith))
      ∙ keeps n (suc r) i (patched p r bp) (patched_open r bp g (omega arith)) (omega arith) (omega arith)
      ∙ at_other r i bp (omega arith)

  -- those from r on are masked
  does : (n r i : ℕ) (bp : List ℕ) → Open bp → r + n ≤ bp_count → r ≤ i → i < r + n
      → get_or (bp_after_all (commands_from n r p) bp) i 0 ≡ masked (get_or bp i 0) (mask_at p i) (number_at p i)
  does zero r i bp g l h k = absurd (omega arith)
  does (suc n) r i bp g l h k =
      let g' : Open (patched p r bp) = patched_open r bp g (omega arith) in
      let rest : List ℕ = bp_after_all (commands_from n (suc r) p) (patched p r bp) in
      ap (λ (x : List ℕ). get_or x i 0) (one_more n r bp g (omega arith))
      ∙ elim (eq-or-lt_of_le h) [
        | inl q ↦
            subst (λ (x : ℕ). get_or rest x 0 ≡ masked (get_or bp x 0) (mask_at p x) (number_at p x)) q
            (keeps n (suc r) r (patched p r bp) g' (omega arith) (omega arith) ∙ at_same r bp g (omega arith))
        | inr q ↦
            does n (suc r) i (patched p r bp) g' (omega arith) q (omega arith)
            ∙ ap (λ (x : ℕ). masked x (mask_at p i) (number_at p i)) (at_other r i bp (omega arith))
      ]

  after_size : (n r : ℕ) (bp : List ℕ) → Open bp → r + n ≤ bp_count → length (bp_after_all (commands_from n r p) bp) ≡ bp_count
  unfolding bp_after_all commands_from
  after_size zero r bp g l = g.size
  after_size (suc n) r bp g l =
      ap (λ (x : List ℕ). length x) (one_more n r bp g (omega arith))
      ∙ after_size n (suc r) (patched p r bp) (patched_open r bp g (omega arith)) (omega arith)

-- executing the commands of an accepted patch gives what the rules give for it
pub executed : (p : Patch) (bp : List ℕ) → IsAccepted p → Open bp → bp_after_all (commands_of p) bp ≡ applied_to bp p
unfolding commands_of
executed p bp a g =
    let ok = sound p a in
    let size = after_size p ok bp_count 0 bp g (lit≤ tt) in
    ext_get_or 0 (bp_after_all (commands_from bp_count 0 p) bp) (applied_to bp p) (size ∙ sym (applied_size bp p))
    (λ i h. let l : i < bp_count = rw size at h in
    does p ok bp_count 0 i bp g (lit≤ tt) zero-le (rw zero-add l) ∙ sym (applied_at i l bp p))

-- ---- a list of patches

executed_from : (ps : List Patch) (a : Patch) (bp : List ℕ) → AllAccepted ps → IsAccepted a → Open bp
    → bp_after_all (commands_of_all ps) (applied_to bp a) ≡ applied_to bp (merged_from a ps)
unfolding bp_after_all commands_of_all merged_from
executed_from [] a bp oks ok g = refl
executed_from (p ∷ ps) a bp oks ok g =
    after_append (commands_of p) (commands_of_all ps) (applied_to bp a)
    ∙ ap (bp_after_all (commands_of_all ps))
    (executed p (applied_to bp a) oks.0 (applied_open bp a ok g) ∙ sym (applied_merged bp a p ok oks.0))
    ∙ executed_from ps (merged_of a p) bp oks.1 (merged_accepted a p ok oks.0) g

-- executing the commands of accepted patches in order gives what the rules give for them merged from all zeros
pub executed_all : (ps : List Patch) (bp : List ℕ) → AllAccepted ps → Open bp
    → bp_after_all (commands_of_all ps) bp ≡ applied_to bp (merged_all ps)
unfolding merged_all
executed_all ps bp oks g =
    ap (bp_after_all (commands_of_all ps)) (sym (applied_blank bp g)) ∙ executed_from ps blank bp oks blank_accepted g

-- a list of accepted patches merges to an accepted one
merged_from_lem : (ps : List Patch) (a : Patch) → AllAccepted ps → IsAccepted a → IsAccepted (merged_from a ps)
unfolding merged_from
merged_from_lem [] a oks ok = ok
merged_from_lem (p ∷ ps) a oks ok = merged_from_lem ps (merged_of a p) oks.1 (merged_accepted a p ok oks.0)

pub merged_all_accepted : (ps : List Patch) → AllAccepted ps → IsAccepted (merged_all ps)
unfolding merged_all
merged_all_accepted ps oks = merged_from_lem ps blank oks blank_accepted

-- ---- two patches, in either order

pub applied_two : (a b : Patch) (bp : List ℕ) → IsAccepted a → IsAccepted b → Open bp
    → applied_to bp (merged_all (a ∷ b ∷ [])) ≡ applied_to (applied_to bp a) b
unfolding merged_all merged_from
applied_two a b bp pa pb g =
    applied_merged bp (merged_of blank a) b (merged_accepted blank a blank_accepted pa) pb
    ∙ ap (λ (x : List ℕ). applied_to x b)
    (applied_merged bp blank a blank_accepted pa ∙ ap (λ (x : List ℕ). applied_to x a) (applied_blank bp g))

-- executed or applied, A then B leaves the same registers as B then A exactly when they agree
pub merged_swap : (a b : Patch) (bp : List ℕ) → IsAccepted a → IsAccepted b → Open bp
    → (applied_to bp (merged_all (a ∷ b ∷ [])) ≡ applied_to bp (merged_all (b ∷ a ∷ []))) ↔ Agree a b
merged_swap a b bp pa pb g = rw (applied_two a b bp pa pb g, applied_two b a bp pb pa g) (applied_swap bp a b pa pb)

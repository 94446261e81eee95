-- No effect changes the length of what is lent.
use mathlib.Core.Path.{◌≡◌, refl, ◌∙◌}
use mathlib.Core.Bool.{◌&&◌}
use mathlib.Core.List.{List}
use Prim.Native.Nat.{ℕ, zero, suc, ◌+◌, ◌*◌, ◌≤◌}
use native.Mathlib.Omega.{arith}
use lib.Dec.{leb, ltb, eqb}
use lib.ListN.{length, set, length-set, length-append, length-drop}
use borrow.Author.Tests.{leb-true}
use Rattle.std.proofs.lemmas.Bool.{cond_both}
use Rattle.command.specs.Command.{kind_of, field_of}
use Rattle.places.specs.Places.{cp_count, cp_place}
use Rattle.effect.specs.Effect.{mask_place, loaded_cp, cp_after, stored_bp, loaded_bp, bp_after}
use Rattle.effect.specs.Effect.{stored_xf, loaded_xf, xf_after, copied, vertex_after}

-- a list as long as another
abbrev AsLong : List ℕ → List ℕ → Type 0
AsLong l m = length m ≡ length l

pub length_cp : (c cp : List ℕ) → length (cp_after c cp) ≡ length cp
unfolding cp_after loaded_cp
length_cp c cp =
    cond_both (eqb (kind_of c) 0x08) _ _ (AsLong cp)
    (λ _. cond_both (ltb (cp_place (field_of c 1)) cp_count) _ _ (AsLong cp) (λ _. length-set cp _ _) (λ _. refl)) (λ _. refl)

pub length_bp : (c bp : List ℕ) → length (bp_after c bp) ≡ length bp
unfolding bp_after loaded_bp stored_bp
length_bp c bp =
    cond_both (eqb (kind_of c) 0x61) _ _ (AsLong bp)
    (λ _. cond_both (eqb (field_of c 1) mask_place) _ _ (AsLong bp) (λ _. length-set bp _ _)
    (λ _. length-set (set bp _ _) _ _ ∙ length-set bp _ _))
    (λ _. refl)

pub length_stored : (xf u : List ℕ) (a n : ℕ) → length (stored_xf xf u a n) ≡ length xf
unfolding stored_xf
length_stored xf u a zero = refl
length_stored xf u a (suc n) = simp length-set (length_stored xf u a n)

pub length_loaded : (xf u : List ℕ) (w a : ℕ) → length (loaded_xf xf u w a) ≡ length xf
unfolding loaded_xf
length_loaded xf u w a =
    cond_both (leb (5 + 4 * w) (length u) && leb (a + w) (length xf)) _ _ (AsLong xf) (λ _. length_stored xf u a w) (λ _. refl)

pub length_xf : (c bytes xf : List ℕ) → length (xf_after c bytes xf) ≡ length xf
unfolding xf_after
length_xf c bytes xf = cond_both (eqb (kind_of c) 0x10) _ _ (AsLong xf) (λ _. length_loaded xf bytes (field_of c 1) (field_of c 2)) (λ _. refl)

pub length_copied : (bytes buffer : List ℕ) → length (copied bytes buffer) ≡ length buffer
unfolding copied
length_copied bytes buffer =
    cond_both (leb (length bytes) (length buffer)) _ _ (AsLong buffer)
    (λ e.
    let h : length bytes ≤ length buffer = leb-true (length bytes) (length buffer) e in
    rw (length-append bytes, length-drop) (omega arith))
    (λ _. refl)

pub length_buffer : (c bytes buffer : List ℕ) → length (vertex_after c bytes buffer) ≡ length buffer
unfolding vertex_after
length_buffer c bytes buffer = cond_both (eqb (kind_of c) 0x01) _ _ (AsLong buffer) (λ _. length_copied bytes buffer) (λ _. refl)

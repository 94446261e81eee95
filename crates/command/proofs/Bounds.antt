-- The bounds of an answer: a unit has 1 to 129 bytes and all of them are there; what waits lacks a byte or more, and 129 always do; a
-- refusal is one of 6 to 10.
use mathlib.Core.Path.{◌≡◌, refl, subst}
use mathlib.Core.List.{List}
use Prim.Native.Nat.{ℕ, zero, suc, ◌+◌, ◌*◌, ◌%◌, ◌<◌, ◌≤◌}
use native.Mathlib.Omega.{arith}
use lib.Dec.{ltb, eqb, lit≤}
use lib.ListN.{get_or}
use borrow.Author.Tests.{ltb-true, ltb-false, eqb-true, eqb-false}
use Rattle.std.proofs.lemmas.Bool.{cond_both}
use Rattle.fields.specs.declared.Descriptor.{Descriptor}
use Rattle.fields.specs.Fields.{mode_of}
use Rattle.layout.specs.Sizes.{any_unknown}
use Rattle.layout.specs.Answers.{refusal_of, length_of}
use Rattle.layout.proofs.Bounds.{length_bounds}
use Rattle.command.specs.declared.Draw.{Draw}
use Rattle.command.specs.declared.Draw.TheVariants.{Closed, Open}
use Rattle.command.specs.Command.{Found, waiting, vertex}
use Rattle.places.specs.Places.{cp_accepted}
use Rattle.command.specs.Look.{whole, look_cp, xf_count, xf_words, xf_address, look_xf, look_indexed, look_call, look_bp, descriptor_of}
use Rattle.command.specs.Look.{unless_refused, look_head, look_vertex, is_indexed, is_draw, by_opcode, look_of}
pub use Rattle.command.specs.Bounds.{Fair}

fair_whole : (n length : ℕ) (c : List ℕ) (m : ℕ) → 1 ≤ length → length ≤ 129 → Fair n (whole n length c m)
unfolding whole
fair_whole n length c m some most =
    cond_both (ltb n length) _ _ (Fair n)
    (λ t. let h : n < length = ltb-true n length t in (omega arith, omega arith))
    (λ f. (some, (ltb-false n length f, most)))

-- a number that is a look's refusal, where it is not 0
abbrev Named : ℕ → Type 0
Named r = 1 ≤ r → (6 ≤ r) × (r ≤ 10)

-- a layout's refusals are 9 and 10
layout_refuses : (d : Descriptor) → Named (refusal_of d)
unfolding refusal_of
layout_refuses d =
    cond_both (eqb (mode_of d 9) 0) _ _ Named (λ _ _. (lit≤ tt, lit≤ tt))
    (λ _. cond_both (any_unknown d 21) _ _ Named (λ _ _. (lit≤ tt, lit≤ tt)) (λ _ h. absurd (omega (arith, h))))

fair_unless : (n r : ℕ) (x : Found) → Named r → (r ≡ 0 → Fair n x) → Fair n (unless_refused r x)
fair_unless n zero x h f = f refl
fair_unless n (suc r) x h f = h (omega arith)

pub words_bounds : (b : List ℕ) → (1 ≤ xf_words b) × (xf_words b ≤ 16)
unfolding xf_words
words_bounds b = (omega arith, omega arith)

module _ (b : List ℕ) (n : ℕ) where
  fair_cp : 1 ≤ n → Fair n (look_cp b n)
  unfolding look_cp
  fair_cp h =
      cond_both (ltb n 2) _ _ (Fair n) (λ t. let l : n < 2 = ltb-true n 2 t in (omega arith, omega arith))
      (λ _. cond_both (cp_accepted (get_or b 1 0)) _ _ (Fair n) (λ _. fair_whole n 6 _ 0 (lit≤ tt) (lit≤ tt)) (λ _. (lit≤ tt, lit≤ tt)))

  fair_xf : Fair n (look_xf b n)
  unfolding look_xf
  fair_xf =
      cond_both (ltb n 5) _ _ (Fair n) (λ t. let l : n < 5 = ltb-true n 5 t in (omega arith, omega arith))
      (λ _. cond_both (ltb xf_count (xf_address b + xf_words b)) _ _ (Fair n) (λ _. (lit≤ tt, lit≤ tt))
      (λ _. fair_whole n (5 + 4 * xf_words b) _ 0 (omega arith) (omega (arith, (words_bounds b).1))))

  fair_bp : Fair n (look_bp b n)
  unfolding look_bp
  fair_bp = fair_whole n 5 _ 0 (lit≤ tt) (lit≤ tt)

  fair_head : (op : ℕ) (cp : List ℕ) → Fair n (look_head op b n cp)
  unfolding look_head
  fair_head op cp =
      fair_unless n (refusal_of (descriptor_of cp (op % 8))) _ (layout_refuses (descriptor_of cp (op % 8)))
      (λ _. fair_whole n 3 _ 0 (lit≤ tt) (lit≤ tt))

  -- an answer in an open draw, by the layout's length
  fair_vertex : (d : Descriptor) → Fair n (unless_refused (refusal_of d) (whole n (length_of d) vertex 0))
  fair_vertex d =
      fair_unless n (refusal_of d) _ (layout_refuses d)
      (λ e. fair_whole n (length_of d) vertex 0 (length_bounds d e).0 (length_bounds d e).1)

  fair_opcode : (op : ℕ) (cp : List ℕ) → 1 ≤ n → Fair n (by_opcode op b n cp)
  unfolding by_opcode look_call look_indexed
  fair_opcode op cp h =
      cond_both (eqb op 0x00) _ _ (Fair n) (λ _. fair_whole n 1 _ 0 (lit≤ tt) (lit≤ tt))
      (λ _. cond_both (eqb op 0x48) _ _ (Fair n) (λ _. fair_whole n 1 _ 0 (lit≤ tt) (lit≤ tt))
      (λ _. cond_both (eqb op 0x44) _ _ (Fair n) (λ _. fair_whole n 1 _ 0 (lit≤ tt) (lit≤ tt))
      (λ _. cond_both (eqb op 0x08) _ _ (Fair n) (λ _. fair_cp h)
      (λ _. cond_both (eqb op 0x10) _ _ (Fair n) (λ _. fair_xf)
      (λ _. cond_both (is_indexed op) _ _ (Fair n) (λ _. fair_whole n 5 _ _ (lit≤ tt) (lit≤ tt))
      (λ _. cond_both (eqb op 0x40) _ _ (Fair n) (λ _. fair_whole n 9 _ 0 (lit≤ tt) (lit≤ tt))
      (λ _. cond_both (eqb op 0x61) _ _ (Fair n) (λ _. fair_bp)
      (λ _. cond_both (is_draw op) _ _ (Fair n) (λ _. fair_head op cp) (λ _. (lit≤ tt, lit≤ tt))))))))))

  pub look_fair : (cp : List ℕ) (draw : Draw) → Fair n (look_of b n cp draw)
  unfolding look_of look_vertex
  look_fair cp Closed =
      cond_both (eqb n 0) _ _ (Fair n) (λ e. let z : n ≡ 0 = eqb-true n 0 e in (lit≤ tt, omega arith))
      (λ f. let some : n ≡ 0 → ⊥ = eqb-false n 0 f in fair_opcode (get_or b 0 0) cp (omega arith))
  look_fair cp (Open primitive format left) = fair_vertex (descriptor_of cp format)

-- "A full ring is never answered with waiting": with 129 bytes or more no answer is
pub progress : (b : List ℕ) (n : ℕ) → 129 ≤ n → (cp : List ℕ) (draw : Draw) (k : ℕ) → look_of b n cp draw ≡ waiting k → ⊥
progress b n h cp draw k e =
    let f : Fair n (waiting k) = subst (Fair n) e (look_fair b n cp draw) in
    omega (arith, f.0, f.1)

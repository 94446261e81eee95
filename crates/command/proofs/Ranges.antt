-- The fields of a command that was read from bytes fit their registers.
use mathlib.Core.Path.{◌≡◌, refl}
use mathlib.Core.Bool.{false}
use mathlib.Core.List.{List, ◌∷◌}
use Prim.Native.Nat.{ℕ, zero, suc, ◌+◌, ◌/◌, ◌%◌}
use native.Mathlib.Omega.{arith}
use lib.Dec.{ltb, eqb}
use lib.ListN.{get_or}
use borrow.Author.Tests.{eqb-false}
use Rattle.std.proofs.lemmas.Bool.{cond_both}
use Rattle.octets.specs.BigEndian.{big_endian}
use Rattle.octets.proofs.Number.{Octets, big_lt}
use Rattle.layout.specs.Answers.{refusal_of, length_of}
use Rattle.command.specs.declared.Draw.{Draw}
use Rattle.command.specs.declared.Draw.TheVariants.{Closed, Open}
use Rattle.command.specs.Command.{Found, load_bp, draw_head}
use Rattle.places.specs.Places.{cp_accepted}
use Rattle.command.specs.Look.{whole, look_cp, xf_count, xf_words, xf_address, look_xf, look_indexed, look_call, look_bp, descriptor_of}
use Rattle.command.specs.Look.{unless_refused, look_head, look_vertex, is_indexed, is_draw, by_opcode, look_of}
pub use Rattle.command.specs.Bounds.{Ranged, Ranges}

-- by a literal kind
differ : {A : Type 0} (a b : ℕ) → eqb a b ≡ false → a ≡ b → A
differ a b f e = absurd (eqb-false a b f e)

-- a command of another kind
ranged : (kind : ℕ) (fields : List ℕ) → eqb kind 0x61 ≡ false → eqb kind 0x80 ≡ false → Ranged (kind ∷ fields)
ranged kind fields p q = record { bp = differ kind 0x61 p; head = differ kind 0x80 q; count = differ kind 0x80 q }

of_whole : (n length : ℕ) (c : List ℕ) (m : ℕ) → Ranged c → Ranges (whole n length c m)
unfolding whole
of_whole n length c m r = cond_both (ltb n length) _ _ Ranges (λ _. tt) (λ _. r)

-- a unit of another kind
of_other : (n length kind : ℕ) (fields : List ℕ) (m : ℕ) → eqb kind 0x61 ≡ false → eqb kind 0x80 ≡ false
    → Ranges (whole n length (kind ∷ fields) m)
of_other n length kind fields m p q = of_whole n length (kind ∷ fields) m (ranged kind fields p q)

pub of_unless : (r : ℕ) (x : Found) → Ranges x → Ranges (unless_refused r x)
of_unless zero x h = h
of_unless (suc r) x h = tt

module _ (b : List ℕ) (o : Octets b) (n : ℕ) (cp : List ℕ) where
  of_bp : Ranges (look_bp b n)
  unfolding look_bp
  of_bp =
      of_whole n 5 (load_bp (get_or b 1 0) (big_endian b 2 3)) 0
      (record { bp = λ _. big_lt b 2 o 3; head = differ 0x61 0x80 refl; count = differ 0x61 0x80 refl })

  of_head_lem : (op : ℕ) → Ranges (look_head op b n cp)
  unfolding look_head
  of_head_lem op =
      of_unless (refusal_of (descriptor_of cp (op % 8))) _
      (of_whole n 3 (draw_head (op / 8 % 8) (op % 8) (big_endian b 1 2)) 0
      (record { bp = differ 0x80 0x61 refl; head = λ _. (omega arith, omega arith); count = λ _. big_lt b 1 o 2 }))

  of_opcode : (op : ℕ) → Ranges (by_opcode op b n cp)
  unfolding by_opcode look_cp look_xf look_call look_indexed
  of_opcode op =
      cond_both (eqb op 0x00) _ _ Ranges (λ _. of_other n 1 _ _ 0 refl refl)
      (λ _. cond_both (eqb op 0x48) _ _ Ranges (λ _. of_other n 1 _ _ 0 refl refl)
      (λ _. cond_both (eqb op 0x44) _ _ Ranges (λ _. of_other n 1 _ _ 0 refl refl)
      (λ _. cond_both (eqb op 0x08) _ _ Ranges
      (λ _. cond_both (ltb n 2) _ _ Ranges (λ _. tt)
      (λ _. cond_both (cp_accepted (get_or b 1 0)) _ _ Ranges (λ _. of_other n 6 _ _ 0 refl refl) (λ _. tt)))
      (λ _. cond_both (eqb op 0x10) _ _ Ranges
      (λ _. cond_both (ltb n 5) _ _ Ranges (λ _. tt)
      (λ _. cond_both (ltb xf_count (xf_address b + xf_words b)) _ _ Ranges (λ _. tt) (λ _. of_other n _ _ _ 0 refl refl)))
      (λ _. cond_both (is_indexed op) _ _ Ranges (λ _. of_other n 5 _ _ _ refl refl)
      (λ _. cond_both (eqb op 0x40) _ _ Ranges (λ _. of_other n 9 _ _ 0 refl refl)
      (λ _. cond_both (eqb op 0x61) _ _ Ranges (λ _. of_bp)
      (λ _. cond_both (is_draw op) _ _ Ranges (λ _. of_head_lem op) (λ _. tt)))))))))

  pub look_ranges : (draw : Draw) → Ranges (look_of b n cp draw)
  unfolding look_of look_vertex
  look_ranges Closed = cond_both (eqb n 0) _ _ Ranges (λ _. tt) (λ _. of_opcode (get_or b 0 0))
  look_ranges (Open primitive format left) =
      of_unless (refusal_of (descriptor_of cp format)) _ (of_other n (length_of (descriptor_of cp format)) _ _ 0 refl refl)

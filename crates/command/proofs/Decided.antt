-- What is found where all its bytes are there: a vertex of an open draw, a load, a draw's head; and where a vertex lacks some.
use mathlib.Core.Path.{◌≡◌, refl, sym, ◌∙◌}
use mathlib.Core.Bool.{Bool, true, false, cond}
use mathlib.Core.Logic.{⊎_elim}
use mathlib.Core.List.{List}
use Prim.Native.Nat.{ℕ, ◌+◌, ◌-◌, ◌*◌, ◌/◌, ◌%◌, ◌<◌, ◌≤◌}
use native.Mathlib.Omega.{arith}
use lib.Dec.{eqb}
use lib.ListN.{get_or}
use borrow.Author.Tests.{eqb-true, ne_eqb, le-ltb, lt-ltb}
use Rattle.octets.specs.BigEndian.{big_endian}
use Rattle.fields.specs.declared.Descriptor.{Descriptor}
use Rattle.layout.specs.Sizes.{offset_of}
use Rattle.layout.specs.Answers.{refusal_of, length_of}
use Rattle.layout.proofs.Bounds.{length_le}
use Rattle.command.specs.declared.Draw.TheVariants.{Closed, Open}
use Rattle.command.specs.Command.{unit, waiting, vertex, load_cp, load_bp, load_xf, draw_head}
use Rattle.places.specs.Places.{cp_accepted}
use Rattle.command.specs.Look.{descriptor_of, vertex_bytes, whole, look_cp, look_bp, look_head, look_vertex, by_opcode, look_of}
use Rattle.command.specs.Look.{xf_count, xf_words, xf_address, look_xf}
use Rattle.command.proofs.Opcodes.{Other, at_opcode, at_head}

-- a length is that of an accepted layout
accepted : (d : Descriptor) → 1 ≤ length_of d → refusal_of d ≡ 0
unfolding length_of
accepted d h = go (eqb (refusal_of d) 0) refl (offset_of d 21) h
  where
    go : (b : Bool) → eqb (refusal_of d) 0 ≡ b → (n : ℕ) → 1 ≤ cond b n 0 → refusal_of d ≡ 0
    go true e n h = eqb-true (refusal_of d) 0 e
    go false e n h = absurd (omega (arith, h))

pub bytes_most : (cp : List ℕ) (format : ℕ) → vertex_bytes cp format ≤ 129
bytes_most cp format = length_le (descriptor_of cp format)

pub looks_vertex : (b : List ℕ) (n : ℕ) (cp : List ℕ) (p f left : ℕ) → 1 ≤ vertex_bytes cp f → vertex_bytes cp f ≤ n
    → look_of b n cp (Open p f left) ≡ unit vertex 0 (vertex_bytes cp f)
unfolding look_of look_vertex whole
looks_vertex b n cp p f left h l = rw (accepted (descriptor_of cp f) h, le-ltb n (vertex_bytes cp f) l)

pub waits_vertex : (b : List ℕ) (n : ℕ) (cp : List ℕ) (p f left : ℕ) → n < vertex_bytes cp f
    → look_of b n cp (Open p f left) ≡ waiting (vertex_bytes cp f - n)
unfolding look_of look_vertex whole
waits_vertex b n cp p f left h =
    let some : 1 ≤ vertex_bytes cp f = omega arith in
    rw (accepted (descriptor_of cp f) some, lt-ltb n (vertex_bytes cp f) h)

pub looks_bp : (b : List ℕ) (n : ℕ) (cp : List ℕ) → get_or b 0 0 ≡ 0x61 → 5 ≤ n
    → look_of b n cp Closed ≡ unit (load_bp (get_or b 1 0) (big_endian b 2 3)) 0 5
unfolding look_of by_opcode look_bp whole
looks_bp b n cp e h = rw (ne_eqb n 0 (λ z. omega arith), e, le-ltb n 5 h)

pub looks_xf : (b : List ℕ) (n : ℕ) (cp : List ℕ) → get_or b 0 0 ≡ 0x10 → xf_address b + xf_words b ≤ xf_count → 5 + 4 * xf_words b ≤ n
    → look_of b n cp Closed ≡ unit (load_xf (xf_words b) (xf_address b)) 0 (5 + 4 * xf_words b)
unfolding look_of by_opcode look_xf whole
looks_xf b n cp e l h =
    let five : 5 ≤ n = omega arith in
    rw (ne_eqb n 0 (λ z. omega arith), e, le-ltb n 5 five, le-ltb xf_count (xf_address b + xf_words b) l, le-ltb n (5 + 4 * xf_words b) h)

pub looks_cp : (b : List ℕ) (n : ℕ) (cp : List ℕ) → get_or b 0 0 ≡ 0x08 → cp_accepted (get_or b 1 0) ≡ true → 6 ≤ n
    → look_of b n cp Closed ≡ unit (load_cp (get_or b 1 0) (big_endian b 2 4)) 0 6
unfolding look_of by_opcode look_cp whole
looks_cp b n cp e a h =
    let two : 2 ≤ n = omega arith in
    rw (ne_eqb n 0 (λ z. omega arith), e, le-ltb n 2 two, a, le-ltb n 6 h)

-- an opcode of a draw is none of the single ones
pub head_other : (op : ℕ) → 0x80 ≤ op → Other op
head_other op h =
    record {
      no_operation_lem = λ e. omega arith;
      invalidate = λ e. omega arith;
      metrics = λ e. omega arith;
      cp = λ e. omega arith;
      xf = λ e. omega arith;
      indexed = ⊎_elim (λ a. omega (arith, a)) (⊎_elim (λ a. omega (arith, a)) (⊎_elim (λ a. omega (arith, a)) (λ a. omega (arith, a))));
      call = λ e. omega arith;
      bp = λ e. omega arith;
    }

pub looks_head : (b : List ℕ) (n : ℕ) (cp : List ℕ) (op : ℕ) → get_or b 0 0 ≡ op → 0x80 ≤ op → op < 0xC0
    → 1 ≤ vertex_bytes cp (op % 8) → 3 ≤ n
    → look_of b n cp Closed ≡ unit (draw_head (op / 8 % 8) (op % 8) (big_endian b 1 2)) 0 3
unfolding look_head whole
looks_head b n cp op e l h s t =
    sym (at_opcode b n cp e (λ z. omega arith)) ∙ sym (at_head b n cp (head_other op l) l h)
    ∙ rw (accepted (descriptor_of cp (op % 8)) s, le-ltb n 3 t)

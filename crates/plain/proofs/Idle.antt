-- Units that change nothing: no-operations and what is reported only.
use mathlib.Core.Path.{◌≡◌, refl, sym, ◌∙◌}
use mathlib.Core.Logic.{◌⊎◌, inl, inr, ⊎_elim}
use mathlib.Core.Bool.{Bool, true, false, cond}
use mathlib.Core.List.{List}
use Prim.Native.Nat.{ℕ, zero, suc, ◌+◌, ◌-◌, ◌/◌, ◌%◌, ◌<◌, ◌≤◌}
use native.Mathlib.Nat.{add-zero}
use native.Mathlib.Numerals.{add-one}
use native.Mathlib.Omega.{arith}
use lib.Bits.{bit_or, bit_and, or_add_and, and_le_l, and_comm}
use lib.Dec.{leb}
use lib.ListN.{length, get_or, take, drop, length-drop}
use lib.Seq.{get_or-take, get_or-drop, length-take-le}
use borrow.Author.Tests.{ne_eqb, le-ltb, leb-true}
use Rattle.std.proofs.lemmas.Bool.{and_parts, cases_lt}
use Rattle.command.specs.Command.{unit, no_operation, invalidate_cache, metrics, load_indexed, call_list}
use Rattle.command.specs.Look.{whole, by_opcode, look_of, look_indexed, look_call, indexed_array, memory_of}
use Rattle.command.proofs.Opcodes.{at_opcode, at_indexed}
use Rattle.effect.specs.Effect.{cp_after, bp_after, xf_after, vertex_after, draw_after}
use Rattle.octets.specs.BigEndian.{big_endian}
use Rattle.walk.specs.Flat.{Core, flat_found, core_after}
use Rattle.walk.specs.Moves.{Moves, MovesOn, shut}
use Rattle.walk.proofs.Walks.{first_at, there, One, moves_none, moves_next, moved_one}
use Rattle.plain.specs.Fixed.{there_at, Fixed}
use Rattle.plain.specs.Inner.{Quiet, Zeros}

-- ---- bits of bytes that are all zero
pub or_zero : (a b : ℕ) → bit_or a b ≡ 0 → (a ≡ 0) × (b ≡ 0)
or_zero a b e =
    let s : bit_or a b + bit_and a b ≡ a + b = or_add_and a b in
    let l : bit_and a b ≤ a = and_le_l a b in
    let r : bit_and b a ≤ b = and_le_l b a in
    let c : bit_and a b ≡ bit_and b a = and_comm a b in
    (omega arith, omega arith)

-- zeros so far, and so many more
module _ {bytes : List ℕ} {from end : ℕ} where
  -- a block of zeros, lent for its bits
  pub zeros_more : {at bits : ℕ} (n m : ℕ) → Zeros bytes from end at → at + n ≤ end → end ≤ length bytes → m ≡ n
      → Quiet (take m (drop at bytes)) bits → bits ≡ 0 → Zeros bytes from end (at + n)
  zeros_more {at} n m z h l e q b =
      record {
        onward = omega (arith, z.onward);
        inside = h;
        zero = λ k o u. ⊎_elim (λ (i : k < at). z.zero k o i) (λ (i : at ≤ k). here k i u) (cases_lt k at);
      }
    where
      long : length (take m (drop at bytes)) ≡ n
      long = length-take-le m (drop at bytes) (rw length-drop (omega arith)) ∙ e

      here : (k : ℕ) → at ≤ k → k < at + n → get_or bytes k 0 ≡ 0
      here k i u =
          let s : at + (k - at) ≡ k = omega arith in
          let there : k - at < m = omega arith in
          let same = get_or-take m (drop at bytes) (k - at) 0 there ∙ get_or-drop at bytes (k - at) 0 in
          rw s at (sym same ∙ q.zero b (k - at) (omega (arith, long)))

  pub zeros_then : {mid to : ℕ} → Zeros bytes from end mid → Zeros bytes mid end to → Zeros bytes from end to
  zeros_then {mid} y z =
      record {
        onward = omega (arith, y.onward, z.onward);
        inside = z.inside;
        zero = λ k p q. ⊎_elim (λ (l : k < mid). y.zero k p l) (λ (l : mid ≤ k). z.zero k l q) (cases_lt k mid);
      }

-- ---- a unit of a command that has no effect
module _ (bytes : List ℕ) (at : ℕ) (cp bp xf buffer : List ℕ) where
  one_idle : (c : List ℕ) (m n : ℕ) → flat_found (drop at bytes) (shut cp bp xf buffer) ≡ unit c m n
      → shut cp bp xf buffer ≡ core_after c (take n (drop at bytes)) (shut cp bp xf buffer)
      → One bytes at (shut cp bp xf buffer) n (shut cp bp xf buffer)
  one_idle c m n f a = record { command = c; memory = m; found = f; after = a }

  some : {n : ℕ} → n ≤ length bytes - at → 1 ≤ n → length (drop at bytes) ≡ 0 → ⊥
  some {n} h l z = let t : n ≤ length (drop at bytes) = there bytes at n h in omega arith

  pub one_zero : 1 ≤ length bytes - at → get_or bytes at 0 ≡ 0x00 → One bytes at (shut cp bp xf buffer) 1 (shut cp bp xf buffer)
  unfolding look_of by_opcode whole cp_after bp_after xf_after vertex_after draw_after
  one_zero h op =
      one_idle no_operation 0 1
      (rw (
        ne_eqb (length (drop at bytes)) 0 (some h (omega arith)),
        first_at bytes at,
        op,
        le-ltb (length (drop at bytes)) 1
            (there bytes at 1 h),
      )) refl

  -- by the opcode, where all bytes are there
  looks : {op n : ℕ} → n ≤ length bytes - at → 1 ≤ n → get_or bytes at 0 ≡ op → by_opcode op (drop at bytes) (length (drop at bytes)) cp
      ≡ flat_found (drop at bytes) (shut cp bp xf buffer)
  looks {op} {n} h l e = at_opcode (drop at bytes) (length (drop at bytes)) cp (first_at bytes at ∙ e) (some h l)

  one_byte : 1 ≤ length bytes - at → (get_or bytes at 0 ≡ 0x44) ⊎ (get_or bytes at 0 ≡ 0x48)
      → One bytes at (shut cp bp xf buffer) 1 (shut cp bp xf buffer)
  unfolding by_opcode whole cp_after bp_after xf_after vertex_after draw_after
  one_byte h (inl e) =
      one_idle metrics 0 1 (sym (looks h (omega arith) e) ∙ rw (le-ltb (length (drop at bytes)) 1 (there bytes at 1 h))) refl
  one_byte h (inr e) =
      one_idle invalidate_cache 0 1 (sym (looks h (omega arith) e) ∙ rw (le-ltb (length (drop at bytes)) 1 (there bytes at 1 h))) refl

  one_call : 9 ≤ length bytes - at → get_or bytes at 0 ≡ 0x40 → One bytes at (shut cp bp xf buffer) 9 (shut cp bp xf buffer)
  unfolding by_opcode look_call whole cp_after bp_after xf_after vertex_after draw_after
  one_call h e =
      one_idle (call_list (big_endian (drop at bytes) 1 4) (big_endian (drop at bytes) 5 4)) 0 9
      (sym (looks h (omega arith) e) ∙ rw (le-ltb (length (drop at bytes)) 9 (there bytes at 9 h))) refl

  one_indexed : 5 ≤ length bytes - at → (op : ℕ) → get_or bytes at 0 ≡ op → (op ≡ 0x20) ⊎ ((op ≡ 0x28) ⊎ ((op ≡ 0x30) ⊎ (op ≡ 0x38)))
      → One bytes at (shut cp bp xf buffer) 5 (shut cp bp xf buffer)
  unfolding look_indexed whole cp_after bp_after xf_after vertex_after draw_after
  one_indexed h op e k =
      let b : List ℕ = drop at bytes in
      let index : ℕ = big_endian b 1 2 in
      one_idle (load_indexed (indexed_array op) index (big_endian b 3 2 / 4096 + 1) (big_endian b 3 2 % 4096))
      (memory_of cp (indexed_array op) index) 5
      (sym (looks h (omega arith) e) ∙ sym (at_indexed b (length b) cp op k) ∙ rw (le-ltb (length b) 5 (there bytes at 5 h))) refl

-- a unit of so many bytes, or none
there_within : (bytes : List ℕ) (at n : ℕ) → there_at bytes at n ≡ true → (at ≤ length bytes) × (n ≤ length bytes - at)
unfolding there_at
there_within bytes at n e =
    let a : Bool = leb at (length bytes) in
    let b : Bool = leb n (length bytes - at) in
    (leb-true at (length bytes) (and_parts a b e).0, leb-true n (length bytes - at) (and_parts a b e).1)

by_there : (bytes : List ℕ) (at n : ℕ) (s : Core) (t : Bool) → there_at bytes at n ≡ t → (n ≤ length bytes - at → One bytes at s n s)
    → Moves bytes at s 1 (cond t 1 0) (cond t (at + n) at) s
by_there bytes at n s true e g = let w = there_within bytes at n e in moved_one (omega (arith, w.0, w.1)) (g w.1)
by_there bytes at n s false e g = moves_none

fixed_moves : {bytes : List ℕ} {at n units to : ℕ} {s : Core} → Fixed bytes at n units to → (n ≤ length bytes - at → One bytes at s n s)
    → Moves bytes at s 1 units to s
fixed_moves {bytes} {at} {n} {s = s} f g = rw (f.units_are, f.to_is) (by_there bytes at n s (there_at bytes at n) refl g)

module _ {bytes : List ℕ} {at units to : ℕ} where
  pub moves_byte : Fixed bytes at 1 units to → (get_or bytes at 0 ≡ 0x44) ⊎ (get_or bytes at 0 ≡ 0x48) → MovesOn bytes at 1 units to
  moves_byte f e = record { any = λ cp bp xf buffer. fixed_moves f (λ h. one_byte bytes at cp bp xf buffer h e) }

  pub moves_call : Fixed bytes at 9 units to → get_or bytes at 0 ≡ 0x40 → MovesOn bytes at 1 units to
  moves_call f e = record { any = λ cp bp xf buffer. fixed_moves f (λ h. one_call bytes at cp bp xf buffer h e) }

  pub moves_indexed : Fixed bytes at 5 units to
      → (get_or bytes at 0 ≡ 0x20) ⊎ ((get_or bytes at 0 ≡ 0x28) ⊎ ((get_or bytes at 0 ≡ 0x30) ⊎ (get_or bytes at 0 ≡ 0x38)))
      → MovesOn bytes at 1 units to
  moves_indexed f e =
      record { any = λ cp bp xf buffer. fixed_moves f (λ h. one_indexed bytes at cp bp xf buffer h (get_or bytes at 0) refl e) }

-- so many zeros are so many units
module _ (bytes : List ℕ) (from most : ℕ) (cp bp xf buffer : List ℕ) where
  -- one zero more
  zeros_step : (n : ℕ) → suc n ≤ most → from + suc n ≤ length bytes → get_or bytes (from + n) 0 ≡ 0
      → Moves bytes from (shut cp bp xf buffer) most n (from + n) (shut cp bp xf buffer)
      → Moves bytes from (shut cp bp xf buffer) most (suc n) (from + suc n) (shut cp bp xf buffer)
  zeros_step n h l z w =
      let e : from + suc n ≡ from + n + 1 = omega arith in
      rw (e, ← add-one n) (moves_next w (omega arith) (omega arith) (one_zero bytes (from + n) cp bp xf buffer (omega arith) z))

  zeros_walk : (n : ℕ) → n ≤ most → from + n ≤ length bytes → ((k : ℕ) → k < n → get_or bytes (from + k) 0 ≡ 0)
      → Moves bytes from (shut cp bp xf buffer) most n (from + n) (shut cp bp xf buffer)
  zeros_walk zero h l z = rw (add-zero from) moves_none
  zeros_walk (suc n) h l z =
      zeros_step n h l (z n (omega arith)) (zeros_walk n (omega arith) (omega arith) (λ k q. z k (omega (arith, q))))

pub zeros_on : {bytes : List ℕ} {from end to most : ℕ} → Zeros bytes from end to → end ≤ length bytes → end ≤ from + most
    → MovesOn bytes from most (to - from) to
zeros_on {bytes} {from} {end} {to} {most} z h l =
    let e : from + (to - from) ≡ to = omega (arith, z.onward) in
    record {
      any = λ cp bp xf buffer.
          rw e at
          (zeros_walk bytes from most cp bp xf buffer (to - from) (omega (arith, z.inside)) (omega (arith, z.inside))
          (λ k q. z.zero (from + k) (omega arith) (omega (arith, q))));
    }

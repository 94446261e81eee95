-- What an answer depends on, and how it goes on: theorems over the definition that `look` cites.
use mathlib.Core.Path.{◌≡◌, refl, sym, ◌∙◌, subst}
use mathlib.Core.List.{List, ◌++◌}
use Prim.Native.Nat.{ℕ, ◌+◌, ◌<◌, ◌≤◌}
use native.Mathlib.Omega.{arith}
use lib.Dec.{lit<}
use lib.ListN.{length, get_or, take, length-append, get_or-append}
use lib.Seq.{get_or-take}
use Rattle.octets.specs.BigEndian.{big_endian}
use Rattle.octets.proofs.Number.{agree}
use Rattle.command.specs.declared.Draw.{Draw}
use Rattle.command.specs.declared.Draw.TheVariants.{Closed, Open}
use Rattle.command.specs.Command.{Found, unit, waiting}
use Rattle.command.specs.Look.{look_cp, xf_words, xf_address, look_xf, look_indexed, look_call, look_bp, look_head, by_opcode, look_of}
use Rattle.command.specs.Bounds.{Fair}
use Rattle.command.specs.Prefix.{Settled, NoUnit}
use Rattle.command.proofs.Extends.{Heads, Extends, look_extends}
use Rattle.command.proofs.Bounds.{look_fair}

-- ---- a look reads only the CP registers, the draw, nine bytes and the count
module _ (a b : List ℕ) (same : (k : ℕ) → k < 9 → get_or a k 0 ≡ get_or b k 0) where
  number_same : (at n : ℕ) → at + n ≤ 9 → big_endian a at n ≡ big_endian b at n
  number_same at n h = agree a b at n (λ k l. same k (omega arith))

  pub look_nine : (n : ℕ) (cp : List ℕ) (draw : Draw) → look_of a n cp draw ≡ look_of b n cp draw
  unfolding look_of by_opcode look_cp look_xf xf_words xf_address look_indexed look_call look_bp look_head
  look_nine n cp Closed =
      rw (
        same 0 (lit< tt),
        same 1 (lit< tt),
        number_same 1 2 (omega arith),
        number_same 1 4 (omega arith),
        number_same 2 3 (omega arith),
        number_same 2 4 (omega arith),
        number_same 3 2 (omega arith),
        number_same 5 4 (omega arith),
      )
  look_nine n cp (Open primitive format left) = refl

module _ (p q : List ℕ) (cp : List ℕ) (draw : Draw) where
  abbrev now : Found
  now = look_of p (length p) cp draw

  abbrev later : Found
  later = look_of (p ++ q) (length (p ++ q)) cp draw

  goes_on : Extends (Heads p (length p) draw) (length p) (length (p ++ q)) now later
  goes_on =
      look_extends p (p ++ q) (length p) (length (p ++ q)) (omega (arith, length-append p q)) (λ k h. sym (get_or-append p q 0 k h)) cp
      draw

  -- "Answers other than waiting don't change when more bytes are fed."
  pub look_prefix : Settled now → now ≡ later
  look_prefix = goes_on.keeps

  -- with fewer bytes more than are lacking the answer is never a unit
  pub look_fewer : (k : ℕ) → now ≡ waiting k → length q < k → NoUnit later
  look_fewer k e h = goes_on.fewer k e (omega (arith, length-append p q))

  -- with just that many it is a unit or a refusal, unless there was no byte of a command at all or a part of an XF load's head
  pub look_just : (k : ℕ) → now ≡ waiting k → length q ≡ k → (Heads p (length p) draw → ⊥) → Settled later
  look_just k e h = goes_on.just k e (omega (arith, length-append p q))

-- what is lacking is at least 1, and with what is there at most 129
pub look_lacking : (p : List ℕ) (cp : List ℕ) (draw : Draw) (k : ℕ) → look_of p (length p) cp draw ≡ waiting k
    → (1 ≤ k) × (length p + k ≤ 129)
look_lacking p cp draw k e = subst (Fair (length p)) e (look_fair p (length p) cp draw)

-- a unit is recognised from its own bytes alone
pub look_alone : (p : List ℕ) (cp : List ℕ) (draw : Draw) (c : List ℕ) (m l : ℕ) → look_of p (length p) cp draw ≡ unit c m l
    → look_of (take l p) l cp draw ≡ unit c m l
look_alone p cp draw c m l e =
    let f : Fair (length p) (unit c m l) = subst (Fair (length p)) e (look_fair p (length p) cp draw) in
    (look_extends (take l p) p l (length p) f.1.0 (λ k h. get_or-take l p k 0 h) cp draw).alone c m l e (omega arith) ∙ e

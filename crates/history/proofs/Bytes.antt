-- A feed of bytes leaves a ring of bytes.
use mathlib.Core.List.{List, [], ◌∷◌, ◌++◌}
use Prim.Native.Nat.{ℕ, zero, suc, ◌+◌}
use lib.ListN.{length, take, drop}
use Rattle.std.proofs.lemmas.Bool.{cond_both}
use Rattle.octets.proofs.Number.{Octets, octets_take, octets_drop}
use Rattle.fifo.specs.declared.Fifo.{Fifo}
use Rattle.queue.specs.Feeding.{put, put_round, fed, accepted, ring_after}

append_octets : (a b : List ℕ) → Octets a → Octets b → Octets (a ++ b)
append_octets [] b ha hb k = hb k
append_octets (x ∷ a) b ha hb zero = ha 0
append_octets (x ∷ a) b ha hb (suc k) = append_octets a b (λ i. ha (suc i)) hb k

put_octets : (ring : List ℕ) (at : ℕ) (bytes : List ℕ) → Octets ring → Octets bytes → Octets (put ring at bytes)
put_octets ring at bytes o h =
    append_octets (take at ring ++ bytes) (drop (at + length bytes) ring) (append_octets (take at ring) bytes (octets_take ring at o) h)
    (octets_drop ring (at + length bytes) o)

round_octets : (ring : List ℕ) (at straight : ℕ) (bytes : List ℕ) → Octets ring → Octets bytes → Octets (put_round ring at straight bytes)
unfolding put_round
round_octets ring at straight bytes o h =
    put_octets (put ring at (take straight bytes)) 0 (drop straight bytes)
    (put_octets ring at (take straight bytes) o (octets_take bytes straight h)) (octets_drop bytes straight h)

pub fed_octets : (f : Fifo) (ring bytes : List ℕ) → Octets ring → Octets bytes → Octets (ring_after f ring bytes)
unfolding ring_after fed
fed_octets f ring bytes o h =
    cond_both (accepted f ring bytes) _ _ Octets (λ _. round_octets ring _ _ bytes o h) (λ _. o)

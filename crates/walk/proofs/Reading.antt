-- A walk is the first units of a reading, which goes on from where it ended.
use mathlib.Core.Path.{◌≡◌, refl, sym, ap, subst, ◌∙◌}
use mathlib.Core.List.{List, [], ◌∷◌, ◌++◌, append_assoc}
use Prim.Native.Nat.{ℕ, zero, suc, ◌+◌, ◌-◌, ◌≤◌, ◌<◌}
use native.Mathlib.Nat.{add-zero}
use native.Mathlib.Omega.{arith}
use lib.ListN.{length, drop, length-append, length-drop}
use lib.Seq.{drop-drop}
use Rattle.command.specs.Bounds.{Fair}
use Rattle.command.specs.Command.{Found, unit, waiting, refused}
use Rattle.command.specs.Prefix.{NoUnit}
use Rattle.command.proofs.Bounds.{look_fair}
use Rattle.walk.specs.Flat.{Core, flat_found, Taken}
use Rattle.walk.specs.Walk.{Walk}
use Rattle.walk.specs.Reads.{rest_by, core_by, StreamRead, before, stopped, on_found, reads, read_all}
use Rattle.walk.specs.Promises.{bytes_taken, ReadsOn}

-- a unit has a byte at least, and its bytes are there
pub fair : (b : List ℕ) (s : Core) (c : List ℕ) (m l : ℕ) → flat_found b s ≡ unit c m l → (1 ≤ l) × (l ≤ length b)
fair b s c m l e =
    let f : Fair (length b) (unit c m l) = subst (Fair (length b)) e (look_fair b (length b) s.cp s.draw) in
    (f.0, f.1.0)

-- the one unit that was found
abbrev alone : List ℕ → ℕ → ℕ → List Taken
alone c m l = record { command = c; memory = m; length = l } ∷ []

-- ---- looks do not matter where they are enough
by_found : (found : Found) (bytes : List ℕ) (s : Core) → flat_found bytes s ≡ found → (n m : ℕ) → length bytes < suc n → length bytes < suc m
    → ((b : List ℕ) (t : Core) → length b < n → length b < m → reads n b t ≡ reads m b t)
    → on_found found s (reads n (rest_by found bytes) (core_by found bytes s))
    ≡ on_found found s (reads m (rest_by found bytes) (core_by found bytes s))
by_found (unit c k l) bytes s e n m p q f =
    let h = fair bytes s c k l e in
    let d : length (drop l bytes) ≡ length bytes - l = length-drop l bytes in
    ap (before (alone c k l)) (f (drop l bytes) (core_by (unit c k l) bytes s) (omega (arith, h.0, h.1)) (omega (arith, h.0, h.1)))
by_found (waiting k) bytes s e n m p q f = refl
by_found (refused r) bytes s e n m p q f = refl

enough : (n m : ℕ) (bytes : List ℕ) (s : Core) → length bytes < n → length bytes < m → reads n bytes s ≡ reads m bytes s
unfolding reads
enough zero m bytes s p q = absurd (omega (arith, p))
enough (suc n) zero bytes s p q = absurd (omega (arith, q))
enough (suc n) (suc m) bytes s p q = by_found (flat_found bytes s) bytes s refl n m p q (λ b t h k. enough n m b t h k)

-- ---- a reading opens with the unit that is found
pub opens : (bytes : List ℕ) (s : Core) (c : List ℕ) (m l : ℕ) → flat_found bytes s ≡ unit c m l
    → read_all bytes s ≡ before (alone c m l) (read_all (drop l bytes) (core_by (unit c m l) bytes s))
unfolding read_all reads
opens bytes s c m l e =
    let h = fair bytes s c m l e in
    let d : length (drop l bytes) ≡ length bytes - l = length-drop l bytes in
    rw e
    (ap (before (alone c m l))
    (enough (length bytes) (suc (length (drop l bytes))) (drop l bytes) (core_by (unit c m l) bytes s) (omega (arith, h.0, h.1))
    (omega arith)))

-- ---- and ends where none is
by_none : (found : Found) → NoUnit found → (s : Core) (r : StreamRead) → on_found found s r ≡ stopped s found
by_none (unit c m l) h s r = absurd (h c m l refl)
by_none (waiting k) h s r = refl
by_none (refused k) h s r = refl

pub stops : (bytes : List ℕ) (s : Core) → NoUnit (flat_found bytes s) → read_all bytes s ≡ stopped s (flat_found bytes s)
unfolding read_all reads
stops bytes s h = by_none (flat_found bytes s) h s _

before_before : (us vs : List Taken) (r : StreamRead) → before us (before vs r) ≡ before (us ++ vs) r
before_before us vs r = ap (λ (x : List Taken). record { units = x; core = r.core; end = r.end }) (sym (append_assoc us vs r.units))

-- units, and one more
more_bytes : (us : List Taken) (c : List ℕ) (m l : ℕ) → bytes_taken (us ++ alone c m l) ≡ bytes_taken us + l
unfolding bytes_taken
more_bytes [] c m l = omega arith
more_bytes (u ∷ us) c m l = omega (arith, more_bytes us c m l)

-- ---- the units of a walk, one after the other
pub walk_reads : (bytes : List ℕ) (from : ℕ) (s : Core) (n to : ℕ) (s' : Core) → Walk bytes from s n to s' → ReadsOn bytes from s n to s'
unfolding Walk bytes_taken
walk_reads bytes from s zero to s' w = record { units = []; number = refl; place = w.0 ∙ sym (add-zero from); reads_on = rw (w.0, w.1) }
walk_reads bytes from s (suc n) to s' w =
    let r = walk_reads bytes from s n w.place w.core w.came in
    let c : List ℕ = w.command in
    let m : ℕ = w.memory in
    let l : ℕ = w.size in
    let b : List ℕ = drop w.place bytes in
    record {
      units = r.units ++ alone c m l;
      number = length-append r.units (alone c m l) ∙ omega (arith, r.number);
      place = omega (arith, w.moved, r.place, more_bytes r.units c m l);
      reads_on = r.reads_on
          ∙ ap (before r.units) (opens b w.core c m l w.found ∙ rw (drop-drop l w.place bytes, w.moved, w.after))
          ∙ before_before r.units (alone c m l) (read_all (drop to bytes) s');
    }

-- Walks one after the other, and one unit more.
use mathlib.Core.Path.{◌≡◌, refl, sym, ap, ap₂, ◌∙◌}
use mathlib.Core.List.{List}
use Prim.Native.Nat.{ℕ, zero, suc, ◌+◌, ◌-◌, ◌<◌, ◌≤◌}
use native.Mathlib.Nat.{add-zero}
use native.Mathlib.Numerals.{add-one}
use native.Mathlib.Omega.{arith}
use lib.ListN.{length, get_or, take, drop, length-drop}
use lib.Seq.{get_or-drop}
use Rattle.command.specs.Command.{unit}
use Rattle.walk.specs.Flat.{Core, flat_found, core_after}
use Rattle.walk.specs.Walk.{Walk, TakesMany}
use Rattle.walk.specs.Moves.{Moves}

-- ---- the bytes from a place on

pub first_at : (bytes : List ℕ) (at : ℕ) → get_or (drop at bytes) 0 0 ≡ get_or bytes at 0
first_at bytes at = get_or-drop at bytes 0 0 ∙ ap (λ (x : ℕ). get_or bytes x 0) (add-zero at)

pub there : (bytes : List ℕ) (at n : ℕ) → n ≤ length bytes - at → n ≤ length (drop at bytes)
there bytes at n h = rw (length-drop at bytes) h

-- ---- one unit
pub record One (bytes : List ℕ) (from : ℕ) (s : Core) (size : ℕ) (s' : Core) : Type 0 where
  pub command : List ℕ
  pub memory : ℕ
  pub found : flat_found (drop from bytes) s ≡ unit command memory size
  pub after : s' ≡ core_after command (take size (drop from bytes)) s

walk_then : (bytes : List ℕ) (from : ℕ) (s : Core) (n m place to : ℕ) (t u : Core) → Walk bytes from s n place t → Walk bytes place t m to u
    → Walk bytes from s (n + m) to u
unfolding Walk
walk_then bytes from s n zero place to t u w v = rw (v.0, v.1, add-zero n) w
walk_then bytes from s n (suc m) place to t u w v =
    let e : n + suc m ≡ suc (n + m) = omega arith in
    rw e
    (record {
      place = v.place;
      core = v.core;
      command = v.command;
      memory = v.memory;
      size = v.size;
      came = walk_then bytes from s n m place v.place t v.core w v.came;
      found = v.found;
      moved = v.moved;
      after = v.after;
    })

module _ {bytes : List ℕ} {from : ℕ} {s : Core} {most : ℕ} where
  -- no unit yet
  pub moves_none : Moves bytes from s most 0 from s
  unfolding Walk
  moves_none = record { within = omega arith; inside = λ h. h; walk = (refl, refl) }

  -- one unit more
  pub moves_next : {n place size : ℕ} {t u : Core} → Moves bytes from s most n place t → n < most → place + size ≤ length bytes
      → One bytes place t size u → Moves bytes from s most (n + 1) (place + size) u
  unfolding Walk
  moves_next {n} {place} {size} {t} w h l o =
      rw add-one
      (record {
        within = omega arith;
        inside = λ _. l;
        walk = record {
          place = place;
          core = t;
          command = o.command;
          memory = o.memory;
          size = size;
          came = w.walk;
          found = o.found;
          moved = refl;
          after = o.after;
        };
      })

  -- units, and then others
  pub moves_then : {n m rest place to : ℕ} {t u : Core} → Moves bytes from s most n place t → Moves bytes place t rest m to u
      → n + rest ≤ most
      → Moves bytes from s most (n + m) to u
  moves_then {n} {m} {rest} {place} {to} {t} {u} w v h =
      record {
        within = omega (arith, v.within);
        inside = λ g. v.inside (w.inside g);
        walk = walk_then bytes from s n m place to t u w.walk v.walk;
      }

-- one unit, as a move
pub moved_one : {bytes : List ℕ} {at size : ℕ} {s t : Core} → at + size ≤ length bytes → One bytes at s size t
    → Moves bytes at s 1 1 (at + size) t
moved_one {bytes} {at} {size} h o = moves_next moves_none (omega arith) h o

-- no fewer are allowed
pub moves_most : {bytes : List ℕ} {from : ℕ} {s : Core} {n to : ℕ} {t : Core} (few most : ℕ) → few ≤ most → Moves bytes from s few n to t
    → Moves bytes from s most n to t
moves_most few most h w = record { within = omega (arith, w.within); inside = w.inside; walk = w.walk }

-- all that is taken off the front
pub moves_many : {bytes : List ℕ} {s : Core} {limit n to : ℕ} {t : Core} → Moves bytes 0 s limit n to t → TakesMany bytes s limit n to t
moves_many w = record { within = w.within; inside = w.inside (omega arith); walk = w.walk }

-- ---- so many units leave one place and one state: the promise determines all but how many they are

same_unit : {c d : List ℕ} {m k l n : ℕ} → unit c m l ≡ unit d k n → (c ≡ d) × (l ≡ n)
same_unit e = (cc, cc)

module _ (bytes : List ℕ) where
  left : List ℕ → ℕ → ℕ → Core → Core
  left c l p x = core_after c (take l (drop p bytes)) x

  next_one : {p q : ℕ} {x y : Core} {c d : List ℕ} {m k l n : ℕ} {to to' : ℕ} {t t' : Core} → p ≡ q → x ≡ y → unit c m l ≡ unit d k n
      → to ≡ p + l → to' ≡ q + n → t ≡ left c l p x → t' ≡ left d n q y → (to ≡ to') × (t ≡ t')
  next_one {p} {q} {x} {y} {c} {d} {m} {k} {l} {n} e f u a b g h =
      let s = same_unit u in (
        a ∙ ap₂ (λ (i j : ℕ). i + j) e s.1 ∙ sym b,
        g ∙ ap (λ (z : List ℕ). left z l p x) s.0 ∙ ap (λ (z : ℕ). left d z p x) s.1 ∙ ap (λ (z : ℕ). left d n z x) e
            ∙ ap (λ (z : Core). left d n q z) f ∙ sym h,
      )

  same_found : {p q : ℕ} {x y : Core} {c d : List ℕ} {m k l n : ℕ} → p ≡ q → x ≡ y → flat_found (drop p bytes) x ≡ unit c m l
      → flat_found (drop q bytes) y ≡ unit d k n → unit c m l ≡ unit d k n
  same_found {p} {q} {x} {y} e f a b =
      sym a ∙ ap (λ (z : ℕ). flat_found (drop z bytes) x) e ∙ ap (λ (z : Core). flat_found (drop q bytes) z) f ∙ b

  pub walk_one : (from : ℕ) (s : Core) (n to to' : ℕ) (t t' : Core) → Walk bytes from s n to t → Walk bytes from s n to' t'
      → (to ≡ to') × (t ≡ t')
  unfolding Walk left
  walk_one from s zero to to' t t' w v = (w.0 ∙ sym v.0, w.1 ∙ sym v.1)
  walk_one from s (suc n) to to' t t' w v =
      let h = walk_one from s n w.place v.place w.core v.core w.came v.came in
      next_one h.0 h.1 (same_found h.0 h.1 w.found v.found) w.moved v.moved w.after v.after

-- Valid states stay valid: a state that passes 1 to 5 passes them after any unit.
use mathlib.Core.Path.{◌≡◌, refl, ap, ◌∙◌}
use mathlib.Core.Bool.{true, ◌&&◌}
use mathlib.Core.Logic.{⊎_elim}
use mathlib.Core.List.{List}
use Prim.Native.Nat.{ℕ, zero, suc, ◌+◌, ◌-◌, ◌/◌, ◌%◌, ◌^◌, ◌<◌, ◌≤◌}
use native.Mathlib.Omega.{arith}
use native.Mathlib.Nat.{lt_of_le_of_lt}
use lib.Bits.{bit_and, bit_xor, and_le_l, or_lt}
use lib.Dec.{ltb, leb, eqb, lit<}
use lib.ListN.{get_or, set, take, drop}
use lib.Seq.{drop-set-lt, drop-set-add, take-set-lt, take-set-le}
use borrow.Author.Tests.{lt-ltb, le-ltb, le-leb, ltb-true, ltb-false, eqb-true}
use Rattle.std.proofs.lemmas.Bool.{and_parts, cases_lt, cond_both}
use Rattle.command.specs.declared.Draw.{Draw}
use Rattle.command.specs.declared.Draw.TheVariants.{Closed, Open}
use Rattle.command.specs.Command.{kind_of, field_of}
use Rattle.places.specs.Places.{cp_count, vat_place, cp_place}
use Rattle.command.proofs.Ranges.{Ranged}
use Rattle.effect.specs.Effect.{kept_of, loaded_cp, cp_after, masked, mask_place, stored_bp, loaded_bp, bp_after}
use Rattle.effect.specs.Effect.{opened_by, counted_down, draw_after}
use Rattle.machine.specs.Gate.{all_below, bp_fits, bases_of, strides_of, cp_fits, draw_fits}
use Rattle.machine.proofs.Below.{below_at, below_set}

-- ---- BP registers stay within 24 bits
pub masked_lt : (old m n : ℕ) → old < 2 ^ 24 → n < 2 ^ 24 → masked old m n < 2 ^ 24
unfolding masked
masked_lt old m n h k =
    or_lt 24 (bit_and old (bit_xor 0xFFFFFF m)) (bit_and n m)
    (lt_of_le_of_lt (and_le_l old (bit_xor 0xFFFFFF m)) h) (lt_of_le_of_lt (and_le_l n m) k)

pub bp_stays : (c bp : List ℕ) → Ranged c → bp_fits bp ≡ true → bp_fits (bp_after c bp) ≡ true
unfolding bp_fits bp_after loaded_bp stored_bp
bp_stays c bp r h =
    cond_both (eqb (kind_of c) 0x61) _ _ (λ (b : List ℕ). all_below (2 ^ 24) b ≡ true)
    (λ e.
    let n : field_of c 2 < 2 ^ 24 = r.bp (eqb-true (kind_of c) 0x61 e) in
    let old : get_or bp (field_of c 1) 0 < 2 ^ 24 = below_at (2 ^ 24) bp (lit< tt) h (field_of c 1) in
    let v : ℕ = masked (get_or bp (field_of c 1) 0) (get_or bp mask_place 0) (field_of c 2) in
    let s : all_below (2 ^ 24) (set bp (field_of c 1) v) ≡ true =
    below_set (2 ^ 24) bp (field_of c 1) v h (masked_lt _ (get_or bp mask_place 0) _ old n) in
    cond_both (eqb (field_of c 1) mask_place) _ _ (λ (b : List ℕ). all_below (2 ^ 24) b ≡ true) (λ _. s)
    (λ _. below_set (2 ^ 24) (set bp (field_of c 1) v) mask_place 0xFFFFFF s (lit< tt)))
    (λ _. h)

-- ---- bases stay within 26 bits, and strides within 8

-- what is kept at a place, by the place
Keeps : ℕ → ℕ → ℕ → Type 0
Keeps a n p = ((28 ≤ p) → (p < 44) → kept_of a n < 2 ^ 26) × ((44 ≤ p) → (p < 60) → kept_of a n < 256)

-- a place before the bases
early : (a n p : ℕ) → p < 28 → Keeps a n p
unfolding Keeps
early a n p h = (λ x y. absurd (omega (arith, x, h)), λ x y. absurd (omega (arith, x, h)))

keeps : (a n : ℕ) → Keeps a n (cp_place a)
unfolding Keeps cp_place kept_of
keeps a n =
    cond_both (ltb a 0x30) _ _ (Keeps a n) (λ _. none)
    (λ l1. cond_both (ltb a 0x70) _ _ (Keeps a n) (λ t. let h : a < 0x70 = ltb-true a 0x70 t in early a n (a / 16 - 3) (omega arith))
    (λ l2. cond_both (ltb a 0xA0) _ _ (Keeps a n)
    (λ t.
    let h : a < 0xA0 = ltb-true a 0xA0 t in
    cond_both (ltb (a % 16) 8) _ _ (Keeps a n)
    (λ u. let k : a % 16 < 8 = ltb-true (a % 16) 8 u in early a n (vat_place (a % 16) (a / 16 - 7)) (omega arith)) (λ _. none))
    (λ l3.
    let g : 0xA0 ≤ a = ltb-false a 0xA0 l3 in
    cond_both (ltb a 0xB0) _ _ (Keeps a n)
    (λ t.
    let h : a < 0xB0 = ltb-true a 0xB0 t in
    (λ x y. rw (le-ltb a 0xA0 g, lt-ltb a 0xB0 h) (omega arith), λ x y. absurd (omega (arith, x, h))))
    (λ l4.
    let k : 0xB0 ≤ a = ltb-false a 0xB0 l4 in
    cond_both (ltb a 0xC0) _ _ (Keeps a n)
    (λ t. (λ x y. absurd (omega (arith, y, k)), λ x y. rw (le-ltb a 0xA0 g, le-ltb a 0xB0 k) (omega arith))) (λ _. none)))))
  where
    none : Keeps a n cp_count
    none = (λ x y. absurd (omega (arith, y)), λ x y. absurd (omega (arith, y)))

-- the first sixteen of a list, after a store anywhere
front_set : (limit : ℕ) (l : List ℕ) (i v : ℕ) → all_below limit (take 16 l) ≡ true → (i < 16 → v < limit)
    → all_below limit (take 16 (set l i v)) ≡ true
front_set limit l i v h f =
    ⊎_elim
    (λ lo. rw (take-set-lt 16 l i v lo) (below_set limit (take 16 l) i v h (f lo)))
    (λ hi. rw (take-set-le 16 l i v hi) h)
    (cases_lt i 16)

-- sixteen registers from a place on, after a store anywhere
part_set : (limit from : ℕ) (l : List ℕ) (p v : ℕ) → all_below limit (take 16 (drop from l)) ≡ true → (from ≤ p → p < from + 16 → v < limit)
    → all_below limit (take 16 (drop from (set l p v))) ≡ true
part_set limit from l p v h f =
    ⊎_elim
    (λ lo. rw (drop-set-lt from l p v lo) h)
    (λ hi. later hi)
    (cases_lt p from)
  where
    later : from ≤ p → all_below limit (take 16 (drop from (set l p v))) ≡ true
    later hi =
        let e : p ≡ from + (p - from) = omega arith in
        let near : p - from < 16 → v < limit = λ k. f hi (omega (arith, k)) in
        let d : drop from (set l p v) ≡ set (drop from l) (p - from) v =
        ap (λ (k : ℕ). drop from (set l k v)) e ∙ drop-set-add from l (p - from) v in
        rw d (front_set limit (drop from l) (p - from) v h near)

pub cp_stays : (c cp : List ℕ) → cp_fits cp ≡ true → cp_fits (cp_after c cp) ≡ true
unfolding cp_fits cp_after loaded_cp Keeps
cp_stays c cp h =
    let a : ℕ = field_of c 1 in
    let n : ℕ = field_of c 2 in
    let k = keeps a n in
    let bases =
    part_set (2 ^ 26) 28 cp (cp_place a) (kept_of a n)
    (and_parts (all_below (2 ^ 26) (bases_of cp)) (all_below 256 (strides_of cp)) h).0 k.0 in
    let strides =
    part_set 256 44 cp (cp_place a) (kept_of a n) (and_parts (all_below (2 ^ 26) (bases_of cp)) (all_below 256 (strides_of cp)) h).1 k.1 in
    cond_both (eqb (kind_of c) 0x08) _ _ (λ (l : List ℕ). (all_below (2 ^ 26) (bases_of l) && all_below 256 (strides_of l)) ≡ true)
    (λ _. cond_both (ltb (cp_place a) cp_count) _ _ (λ (l : List ℕ). (all_below (2 ^ 26) (bases_of l) && all_below 256 (strides_of l)) ≡ true)
    (λ _. rw (bases, strides)) (λ _. h))
    (λ _. h)

-- ---- an open draw keeps a vertex left, and its primitive and format
opened_fits : (p f n : ℕ) → p < 8 → f < 8 → draw_fits (opened_by p f n) ≡ true
unfolding draw_fits
opened_fits p f zero h k = refl
opened_fits p f (suc n) h k = rw (le-leb 1 (suc n) (omega arith), lt-ltb p 8 h, lt-ltb f 8 k)

counted_fits : (d : Draw) → draw_fits d ≡ true → draw_fits (counted_down d) ≡ true
unfolding draw_fits
counted_fits Closed h = refl
counted_fits (Open p f n) h =
    let k = (and_parts (leb 1 n) (ltb p 8 && ltb f 8) h).1 in
    opened_fits p f (n - 1) (ltb-true p 8 (and_parts (ltb p 8) (ltb f 8) k).0) (ltb-true f 8 (and_parts (ltb p 8) (ltb f 8) k).1)

pub draw_stays : (c : List ℕ) (d : Draw) → Ranged c → draw_fits d ≡ true → draw_fits (draw_after c d) ≡ true
unfolding draw_after
draw_stays c d r h =
    cond_both (eqb (kind_of c) 0x80) _ _ (λ (x : Draw). draw_fits x ≡ true)
    (λ e. let f = r.head (eqb-true (kind_of c) 0x80 e) in opened_fits (field_of c 1) (field_of c 2) (field_of c 3) f.0 f.1)
    (λ _. cond_both (eqb (kind_of c) 0x01) _ _ (λ (x : Draw). draw_fits x ≡ true) (λ _. counted_fits d h) (λ _. h))

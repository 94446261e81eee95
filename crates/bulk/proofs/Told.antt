-- The bytes of a vertex that are told beside the units.
use mathlib.Core.Path.{◌≡◌, refl, sym, ap, subst, ◌∙◌}
use mathlib.Core.Bool.{Bool, true, false, cond}
use mathlib.Core.List.{List}
use Prim.Native.Nat.{ℕ, zero, suc}
use native.Mathlib.Omega.{arith}
use lib.Dec.{eqb}
use borrow.Author.Tests.{ne_eqb}
use Rattle.command.specs.declared.Draw.{Draw}
use Rattle.command.specs.declared.Draw.TheVariants.{Closed, Open}
use Rattle.command.specs.Look.{vertex_bytes}
use Rattle.effect.specs.Effect.{opened_by}
use Rattle.bulk.specs.Size.{size_told}
use Rattle.bulk.specs.Inner.{Leaves, VertexSize}

-- ---- an open draw by its parts

is_open : Draw → Type 0
is_open Closed = ⊥
is_open (Open p f l) = Unit {0}

format_in : Draw → ℕ
format_in Closed = 0
format_in (Open p f l) = f

left_in : Draw → ℕ
left_in Closed = 0
left_in (Open p f l) = l

-- ---- what is told of it

-- of a closed draw anything
pub told_closed : {cp : List ℕ} {draw : Draw} {size : ℕ} → draw ≡ Closed → VertexSize cp draw size
unfolding is_open
told_closed e = record { told = λ q g l h. absurd (subst is_open (sym (sym e ∙ h)) tt) }

both_none : (t : Bool) {n : ℕ} → n ≡ 0 → 0 ≡ cond t 0 n
both_none true e = refl
both_none false e = sym e

-- 0 where no vertex is left, and where its layout is refused
pub told_spent : {cp : List ℕ} {p f left : ℕ} → left ≡ 0 → VertexSize cp (Open p f left) 0
unfolding left_in
told_spent {cp} {p} {f} {left} z =
    record { told = λ q g l h. rw (sym (ap left_in h) ∙ z) }

pub told_refused : {cp : List ℕ} {p f left : ℕ} → vertex_bytes cp f ≡ 0 → VertexSize cp (Open p f left) 0
unfolding format_in
told_refused {cp} e =
    record { told = λ q g l h. both_none (eqb l 0) (ap (vertex_bytes cp) (sym (ap format_in h)) ∙ e) }

opened_size : (cp : List ℕ) (p f n q g l : ℕ) → opened_by p f n ≡ Open q g l → vertex_bytes cp f ≡ size_told cp (Open q g l)
unfolding is_open format_in left_in
opened_size cp p f zero q g l e = absurd (subst is_open (sym e) tt)
opened_size cp p f (suc n) q g l e =
    let k : suc n ≡ l = ap left_in e in
    rw (ne_eqb l 0 (λ z. omega (arith, k, z))) (ap (vertex_bytes cp) (ap format_in e))

-- and the size of the draw that vertices left
pub told_left : {cp : List ℕ} {p f size size' : ℕ} {draw : Draw} → Leaves p f size draw size' → size ≡ vertex_bytes cp f
    → VertexSize cp draw size'
told_left {cp} {p} {f} v e =
    record { told = λ q g l h. v.size_is ∙ e ∙ opened_size cp p f v.left q g l (sym v.draw_is ∙ h) }

-- where the draw is known to be open, that is all
pub told_open : {cp : List ℕ} {draw : Draw} {size p f left : ℕ} → VertexSize cp draw size → draw ≡ Open p f left
    → size ≡ size_told cp draw
told_open {cp} v e = v.told _ _ _ e ∙ ap (size_told cp) (sym e)

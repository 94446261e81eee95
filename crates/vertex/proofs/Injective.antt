-- The numbers of an answer determine it: each attribute is found again from its kind and values, as floats of single precision are from
-- their bits.
use mathlib.Core.Path.{◌≡◌, refl, sym, ap, ◌∙◌}
use mathlib.Core.List.{List}
use Prim.Native.Nat.{ℕ, zero, suc}
use native.Mathlib.Omega.{arith}
use lib.Dec.{T}
use lib.ListN.{get_or, drop}
use lib.Ieee.{Float, binary32, fits, of_bits, to_bits}
use lib.Ieee.Bits.{of_bits-to_bits}
use Rattle.std.specs.Prelude.{Result, Ok, Err}
use Rattle.refusal.specs.declared.Reason.{Reason}
use Rattle.refusal.proofs.Injective.{number_injective}
use Rattle.refusal.proofs.Positive.{number_some}
use Rattle.vertex.specs.declared.Triple.{Triple}
use Rattle.vertex.specs.declared.Attribute.{Attribute}
use Rattle.vertex.specs.declared.Attribute.TheVariants.{Absent, Matrix, Index, Indices, Colour, Position, Texture, Normal, Frame}
use Rattle.vertex.specs.declared.RawWords.{RawWords}
use Rattle.vertex.specs.Answers.{told, meaning, raw_meaning, SingleTriple, SingleAttribute, SingleAnswer}

single : ℕ → Float
single b = of_bits binary32 b

triple : ℕ → ℕ → ℕ → Triple
triple a b c = record { x = single a; y = single b; z = single c }

-- the attribute of a kind and values
attribute_of : ℕ → List ℕ → Attribute
attribute_of zero l = Absent
attribute_of (suc zero) l = Matrix (get_or l 0 0)
attribute_of (suc (suc zero)) l = Index (get_or l 0 0)
attribute_of (suc (suc (suc zero))) l = Indices (get_or l 0 0) (get_or l 1 0) (get_or l 2 0)
attribute_of (suc (suc (suc (suc zero)))) l = Colour (get_or l 0 0)
attribute_of (suc (suc (suc (suc (suc zero))))) l = Position (triple (get_or l 0 0) (get_or l 1 0) (get_or l 2 0))
attribute_of (suc (suc (suc (suc (suc (suc zero)))))) l = Texture (single (get_or l 0 0)) (single (get_or l 1 0))
attribute_of (suc (suc (suc (suc (suc (suc (suc zero))))))) l = Normal (triple (get_or l 0 0) (get_or l 1 0) (get_or l 2 0))
attribute_of (suc (suc (suc (suc (suc (suc (suc (suc n)))))))) l =
    Frame (triple (get_or l 0 0) (get_or l 1 0) (get_or l 2 0)) (triple (get_or l 3 0) (get_or l 4 0) (get_or l 5 0))
    (triple (get_or l 6 0) (get_or l 7 0) (get_or l 8 0))

-- and of what is told
again : List ℕ → Attribute
again l = attribute_of (get_or l 0 0) (drop 1 l)

single_again : (x : Float) → T (fits binary32 x) → single (to_bits binary32 x) ≡ x
unfolding single
single_again x h = of_bits-to_bits binary32 x h

triple_again : (t : Triple) → SingleTriple t → triple (to_bits binary32 t.x) (to_bits binary32 t.y) (to_bits binary32 t.z) ≡ t
unfolding triple
triple_again t h = λ i.
    record { x = single_again t.x h.of_x i; y = single_again t.y h.of_y i; z = single_again t.z h.of_z i }

found : (a : Attribute) → SingleAttribute a → again (told a) ≡ a
unfolding again attribute_of
found Absent h = refl
found (Matrix n) h = refl
found (Index n) h = refl
found (Indices a b c) h = refl
found (Colour n) h = refl
found (Position t) h = ap Position (triple_again t h)
found (Texture a b) h = ap (λ (x : Float). Texture x (single (to_bits binary32 b))) (single_again a h.0)
    ∙ ap (λ (x : Float). Texture a x) (single_again b h.1)
found (Normal t) h = ap Normal (triple_again t h)
found (Frame u v w) h =
    let p = triple_again u h.0 in
    let q = triple_again v h.1 in
    let r = triple_again w h.2 in
    cc

pub told_injective : (a b : Attribute) → SingleAttribute a → SingleAttribute b → told a ≡ told b → a ≡ b
told_injective a b h k e = sym (found a h) ∙ ap again e ∙ found b k

pub meaning_injective : (a b : Result Attribute Reason) → SingleAnswer a → SingleAnswer b → meaning a ≡ meaning b → a ≡ b
meaning_injective (Ok a) (Ok b) h k e = ap Ok (told_injective a b h k (ap (λ (l : List ℕ). drop 1 l) e))
meaning_injective (Ok a) (Err s) h k e = absurd (omega (arith, number_some s, ap (λ (l : List ℕ). get_or l 0 0) e))
meaning_injective (Err r) (Ok b) h k e = absurd (omega (arith, number_some r, ap (λ (l : List ℕ). get_or l 0 0) e))
meaning_injective (Err r) (Err s) h k e = ap Err (number_injective r s (ap (λ (l : List ℕ). get_or l 0 0) e))

-- and so do those of raw words
pub raw_injective : (a b : Result RawWords Reason) → raw_meaning a ≡ raw_meaning b → a ≡ b
raw_injective (Ok a) (Ok b) e =
    let c : a.count ≡ b.count = cc in
    let w : a.words ≡ b.words = cc in
    ap Ok (λ i. record { count = c i; words = w i })
raw_injective (Ok a) (Err s) e = absurd (omega (arith, number_some s, ap (λ (l : List ℕ). get_or l 0 0) e))
raw_injective (Err r) (Ok b) e = absurd (omega (arith, number_some r, ap (λ (l : List ℕ). get_or l 0 0) e))
raw_injective (Err r) (Err s) e = ap Err (number_injective r s (ap (λ (l : List ℕ). get_or l 0 0) e))

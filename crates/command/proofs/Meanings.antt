-- A command's numbers determine the command, and an answer's meaning the answer.
use mathlib.Core.Path.{◌≡◌, refl, sym, ap, ◌∙◌}
use mathlib.Core.Bool.{cond}
use mathlib.Core.List.{List}
use Prim.Native.Nat.{ℕ}
use native.Mathlib.Omega.{arith}
use lib.Dec.{eqb}
use Rattle.refusal.specs.Number.{number}
use Rattle.refusal.proofs.Injective.{number_injective}
use Rattle.command.specs.declared.Command.{Command}
use Rattle.command.specs.declared.Command.TheVariants.{NoOperation, InvalidateCache, Metrics, LoadCp, LoadXf, LoadIndexed}
use Rattle.command.specs.declared.Command.TheVariants.{CallList, LoadBp, DrawHead, Vertex}
use Rattle.command.specs.declared.StepAnswer.{StepAnswer}
use Rattle.command.specs.declared.StepAnswer.TheVariants.{Done, Waiting, Refused}
use Rattle.command.specs.Command.{kind_of, field_of, numbers_of, meaning}

-- the command of a list of numbers
command_of : List ℕ → Command
command_of c =
    cond (eqb (kind_of c) 0x00) NoOperation
    (cond (eqb (kind_of c) 0x48) InvalidateCache
    (cond (eqb (kind_of c) 0x44) Metrics
    (cond (eqb (kind_of c) 0x08) (LoadCp (field_of c 1) (field_of c 2))
    (cond (eqb (kind_of c) 0x10) (LoadXf (field_of c 1) (field_of c 2))
    (cond (eqb (kind_of c) 0x20) (LoadIndexed (field_of c 1) (field_of c 2) (field_of c 3) (field_of c 4))
    (cond (eqb (kind_of c) 0x40) (CallList (field_of c 1) (field_of c 2))
    (cond (eqb (kind_of c) 0x61) (LoadBp (field_of c 1) (field_of c 2))
    (cond (eqb (kind_of c) 0x80) (DrawHead (field_of c 1) (field_of c 2) (field_of c 3))
    Vertex))))))))

found : (c : Command) → command_of (numbers_of c) ≡ c
unfolding command_of
found NoOperation = refl
found InvalidateCache = refl
found Metrics = refl
found (LoadCp address n) = refl
found (LoadXf words address) = refl
found (LoadIndexed array index words address) = refl
found (CallList address size) = refl
found (LoadBp register n) = refl
found (DrawHead primitive format count) = refl
found Vertex = refl

pub numbers_injective : (a b : Command) → numbers_of a ≡ numbers_of b → a ≡ b
numbers_injective a b e = sym (found a) ∙ ap command_of e ∙ found b

-- a reason's number from a meaning, two meanings of different kinds
never : {A : Type 0} → ◌≡◌ {A = ℕ} 0 1 → A
never e = absurd (omega (arith, e))

pub meaning_injective : (a b : StepAnswer) → meaning a ≡ meaning b → a ≡ b
meaning_injective (Done c m l) (Done d k j) e =
    let p : numbers_of c ≡ numbers_of d = cc in
    let q : c ≡ d = numbers_injective c d p in
    let r : m ≡ k = cc in
    let s : l ≡ j = cc in
    cc
meaning_injective (Done c m l) (Waiting k) e = never (cc)
meaning_injective (Done c m l) (Refused r) e = never (cc)
meaning_injective (Waiting k) (Done c m l) e = never (cc)
meaning_injective (Waiting k) (Waiting j) e = let p : k ≡ j = cc in cc
meaning_injective (Waiting k) (Refused r) e = never (cc)
meaning_injective (Refused r) (Done c m l) e = never (cc)
meaning_injective (Refused r) (Waiting k) e = never (cc)
meaning_injective (Refused r) (Refused s) e =
    let p : number r ≡ number s = cc in
    ap Refused (number_injective r s p)

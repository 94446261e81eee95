-- The gate as facts: what holds of a state that none of 1 to 5 refuses, and back.
use mathlib.Core.Path.{◌≡◌, refl}
use mathlib.Core.Bool.{Bool, true, false, cond, ◌&&◌}
use mathlib.Core.List.{[], ◌∷◌}
use Prim.Native.Nat.{ℕ, suc, ◌≤◌}
use native.Mathlib.Omega.{arith}
use lib.Dec.{leb, eqb, lit≤}
use lib.ListN.{length}
use borrow.Author.Tests.{eqb-true, eqb-false, leb-true, eq-eqb, ne_eqb, le-leb}
use Rattle.std.proofs.lemmas.Bool.{and_parts, cond_both}
use Rattle.command.specs.Look.{xf_count}
use Rattle.fifo.specs.declared.Fifo.{Fifo}
use Rattle.fifo.specs.Window.{Ready, ready_by}
use Rattle.fifo.proofs.WindowLaws.{ready_true, true_ready}
use Rattle.machine.specs.State.{State}
use Rattle.machine.specs.Gate.{bp_fits, cp_fits, control_fits, draw_fits, registers_fit, state_fits, read_bit, link_bit, gate_by, gate_of}

-- none of 1 to 5 applies
pub record Passes (s : State) (ring : ℕ) : Type 0 where
  pub ready : Ready s.fifo ring
  pub control : control_fits s.fifo.control ≡ true
  pub bp : bp_fits s.bp ≡ true
  pub cp : cp_fits s.cp ≡ true
  pub draw : draw_fits s.draw ≡ true
  pub xf : length s.xf ≡ xf_count
  pub buffer : 129 ≤ length s.buffer
  pub enabled : read_bit s.fifo.control ≡ 0 → ⊥
  pub unlinked : link_bit s.fifo.control ≡ 0

-- a test whose failure gives a number
held : (t : Bool) (a r : ℕ) → cond t a (suc r) ≡ 0 → (t ≡ true) × (a ≡ 0)
held true a r e = (refl, e)
held false a r e = absurd (omega (arith, e))

-- a test that gives a number
missed : (t : Bool) (a r : ℕ) → cond t (suc r) a ≡ 0 → (t ≡ false) × (a ≡ 0)
missed true a r e = absurd (omega (arith, e))
missed false a r e = (refl, e)

module _ (s : State) (ring : ℕ) where
  pub gate_passes : gate_of s ring ≡ 0 → Passes s ring
  unfolding gate_by state_fits registers_fit
  gate_passes e =
      let f : Fifo = s.fifo in
      let one = held (state_fits f s.cp s.bp s.draw ring) _ 0 e in
      let two = held (eqb (length s.xf) xf_count) _ 1 one.1 in
      let three = held (leb 129 (length s.buffer)) _ 2 two.1 in
      let four = missed (eqb (read_bit f.control) 0) _ 3 three.1 in
      let five = held (eqb (link_bit f.control) 0) 0 4 four.1 in
      let rest = (and_parts (ready_by f ring) (control_fits f.control && registers_fit s.cp s.bp s.draw) one.0).1 in
      let fit = (and_parts (control_fits f.control) (registers_fit s.cp s.bp s.draw) rest).1 in
      let more = (and_parts (bp_fits s.bp) (cp_fits s.cp && draw_fits s.draw) fit).1 in
      record {
        ready = ready_true f ring (and_parts (ready_by f ring) (control_fits f.control && registers_fit s.cp s.bp s.draw) one.0).0;
        control = (and_parts (control_fits f.control) (registers_fit s.cp s.bp s.draw) rest).0;
        bp = (and_parts (bp_fits s.bp) (cp_fits s.cp && draw_fits s.draw) fit).0;
        cp = (and_parts (cp_fits s.cp) (draw_fits s.draw) more).0;
        draw = (and_parts (cp_fits s.cp) (draw_fits s.draw) more).1;
        xf = eqb-true (length s.xf) xf_count two.0;
        buffer = leb-true 129 (length s.buffer) three.0;
        enabled = eqb-false (read_bit f.control) 0 four.0;
        unlinked = eqb-true (link_bit f.control) 0 five.0;
      }

  pub passes_gate : Passes s ring → gate_of s ring ≡ 0
  unfolding gate_by state_fits registers_fit
  passes_gate p =
      rw (
        true_ready s.fifo ring p.ready,
        p.control,
        p.bp,
        p.cp,
        p.draw,
        eq-eqb (length s.xf) xf_count p.xf,
        le-leb 129 (length s.buffer) p.buffer,
        ne_eqb (read_bit s.fifo.control) 0 p.enabled,
        eq-eqb (link_bit s.fifo.control) 0 p.unlinked,
      )

  -- "Step and run test 1 to 5 whole": its numbers are these
  pub gate_most : gate_of s ring ≤ 5
  unfolding gate_by
  gate_most =
      let f : Fifo = s.fifo in
      cond_both (state_fits f s.cp s.bp s.draw ring) _ _ (λ x. x ≤ 5)
      (λ _. cond_both (eqb (length s.xf) xf_count) _ _ (λ x. x ≤ 5)
      (λ _. cond_both (leb 129 (length s.buffer)) _ _ (λ x. x ≤ 5)
      (λ _. cond_both (eqb (read_bit f.control) 0) _ _ (λ x. x ≤ 5) (λ _. lit≤ tt)
      (λ _. cond_both (eqb (link_bit f.control) 0) _ _ (λ x. x ≤ 5) (λ _. lit≤ tt) (λ _. lit≤ tt)))
      (λ _. lit≤ tt))
      (λ _. lit≤ tt))
      (λ _. lit≤ tt)

-- a gate that was passed
pub passed : (n : ℕ) → 0 ∷ [] ≡ n ∷ [] → n ≡ 0
passed n e = cc

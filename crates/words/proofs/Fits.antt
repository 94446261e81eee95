-- The fifo and the draw from words that fit their types; words that do not are refused by 1.
use mathlib.Core.Path.{◌≡◌, refl, sym, ap, ◌∙◌}
use mathlib.Core.Bool.{Bool, true, false, cond, ◌&&◌, ◌||◌, false≢true}
use mathlib.Core.Logic.{⊎_elim}
use mathlib.Core.List.{List}
use Prim.Native.Nat.{ℕ, ◌^◌, ◌<◌}
use native.Mathlib.Omega.{arith}
use lib.Dec.{leb, eqb, ltb}
use lib.ListN.{get_or}
use borrow.Author.Tests.{ltb-true, lt-ltb}
use Rattle.std.proofs.lemmas.Bool.{and_parts, cases_Bool}
use Rattle.command.specs.declared.Draw.TheVariants.{Closed, Open}
use Rattle.fifo.specs.Window.{ready_by}
use Rattle.machine.specs.Gate.{bp_fits, cp_fits, control_fits, draw_fits, registers_fit, state_fits, gate_by, gate_of}
use Rattle.std.specs.Prelude.{Some, None}
use Rattle.words.specs.declared.Front.{Front}
use Rattle.words.specs.State.{left_of, draw_of, fifo_of, cp_of, bp_of, state_at}
use Rattle.words.specs.Front.{fits, front_of}

-- the front's two answers told apart
held_by : (t : Bool) (f g : Front) → Some g ≡ cond t (Some f) None → g ≡ f
held_by true f g h = cc
held_by false f g h = cc

wide_by : (t : Bool) (f : Front) → None ≡ cond t (Some f) None → t ≡ false
wide_by true f h = cc
wide_by false f h = refl

-- a front that is held is the fifo and the draw that the words say
pub held_is : (l : List ℕ) {f : Front} → Some f ≡ front_of l → (f.fifo ≡ fifo_of l) × (f.draw ≡ draw_of l)
unfolding front_of
held_is l {f} h =
    let e = held_by (fits l) (record { fifo = fifo_of l; draw = draw_of l }) f h in
    (ap (λ (x : Front). x.fifo) e, ap (λ (x : Front). x.draw) e)

-- a control word that 1 does not refuse is narrow, and so are an open draw's primitive and format
open_fits : (p f n : ℕ) → draw_fits (Open p f n) ≡ true → (p < 2 ^ 8) × (f < 2 ^ 8)
unfolding draw_fits
open_fits p f n e =
    let r = (and_parts (leb 1 n) (ltb p 8 && ltb f 8) e).1 in
    let a = ltb-true p 8 (and_parts (ltb p 8) (ltb f 8) r).0 in
    let b = ltb-true f 8 (and_parts (ltb p 8) (ltb f 8) r).1 in
    (omega arith, omega arith)

draw_fits_lem : (p f n : ℕ) (t : Bool) → draw_fits (cond t Closed (Open p f n)) ≡ true → (t || (ltb p (2 ^ 8) && ltb f (2 ^ 8))) ≡ true
draw_fits_lem p f n true e = refl
draw_fits_lem p f n false e =
    let q = open_fits p f n e in
    rw (lt-ltb p (2 ^ 8) q.0, lt-ltb f (2 ^ 8) q.1)

state_fits_lem : (l cp bp : List ℕ) (n : ℕ) → state_fits (fifo_of l) cp bp (draw_of l) n ≡ true → fits l ≡ true
unfolding fits state_fits registers_fit control_fits fifo_of draw_of
state_fits_lem l cp bp n e =
    let r = (and_parts (ready_by (fifo_of l) n) (ltb (get_or l 6 0) 64 && registers_fit cp bp (draw_of l)) e).1 in
    let c = ltb-true (get_or l 6 0) 64 (and_parts (ltb (get_or l 6 0) 64) (registers_fit cp bp (draw_of l)) r).0 in
    let q = (and_parts (ltb (get_or l 6 0) 64) (registers_fit cp bp (draw_of l)) r).1 in
    let d = (and_parts (cp_fits cp) (draw_fits (draw_of l)) (and_parts (bp_fits bp) (cp_fits cp && draw_fits (draw_of l)) q).1).1 in
    rw (lt-ltb (get_or l 6 0) (2 ^ 16) (omega arith))
    (draw_fits_lem (get_or l 8 0) (get_or l 9 0) (left_of (get_or l 7 0) (get_or l 10 0)) (eqb (get_or l 7 0) 0) d)

-- words too wide for the types are refused by 1
pub wide_refused : (l xf vertex : List ℕ) (n : ℕ) → None ≡ front_of l → gate_of (state_at l xf vertex) n ≡ 1
unfolding front_of gate_by
wide_refused l xf vertex n h =
    let w = wide_by (fits l) _ h in
    ⊎_elim
    (λ e. absurd (false≢true (sym w ∙ state_fits_lem l (cp_of l) (bp_of l) n e)))
    (λ e. rw e)
    (cases_Bool (state_fits (fifo_of l) (cp_of l) (bp_of l) (draw_of l) n))

-- "Step and run test 1 to 5 whole", and so does a look: the order of the table, each part of 1 under its own name.
use Rattle.std.specs.Prelude.{Bool, true, cond, ◌&&◌, List, [], ◌∷◌, ℕ, ◌/◌, ◌%◌, ◌^◌, leb, ltb, eqb, length, take, drop, Result}
use Rattle.refusal.specs.Outcome.{answer_of}
use Rattle.refusal.specs.declared.Reason.{Reason}
use Rattle.command.specs.declared.Draw.{Draw}
use Rattle.command.specs.declared.Draw.TheVariants.{Closed, Open}
use Rattle.places.specs.Places.{base_place, stride_place}
use Rattle.command.specs.Look.{xf_count, largest_vertex}
use Rattle.fifo.specs.declared.Fifo.{Fifo}
use Rattle.fifo.specs.Window.{ready_by}
use Rattle.machine.specs.State.{State}

-- every number of a list is below a limit
unfoldable pub all_below : ℕ → List ℕ → Bool
all_below limit [] = true
all_below limit (x ∷ l) = ltb x limit && all_below limit l

-- "a BP register above 24 bits"
unfoldable pub bp_fits : List ℕ → Bool
bp_fits bp = all_below (2 ^ 24) bp

-- the sixteen array bases, and the sixteen strides
abbrev pub bases_of : List ℕ → List ℕ
bases_of cp = take 16 (drop (base_place 0) cp)

abbrev pub strides_of : List ℕ → List ℕ
strides_of cp = take 16 (drop (stride_place 0) cp)

-- "base above 26, stride above 8"
unfoldable pub cp_fits : List ℕ → Bool
cp_fits cp = all_below (2 ^ 26) (bases_of cp) && all_below 256 (strides_of cp)

-- "control above 6"
unfoldable pub control_fits : ℕ → Bool
control_fits control = ltb control 64

-- "an open draw with 0 vertices left, or primitive or format above 7"
unfoldable pub draw_fits : Draw → Bool
draw_fits Closed = true
draw_fits (Open primitive format left) = leb 1 left && (ltb primitive 8 && ltb format 8)

-- the registers' parts of 1
unfoldable pub registers_fit : List ℕ → List ℕ → Draw → Bool
registers_fit cp bp draw = bp_fits bp && (cp_fits cp && draw_fits draw)

-- the whole of 1: "window rules broken; ring slice length is not size", and the registers
unfoldable pub state_fits : Fifo → List ℕ → List ℕ → Draw → ℕ → Bool
state_fits f cp bp draw ring = ready_by f ring && (control_fits f.control && registers_fit cp bp draw)

-- control bit 0, "FIFO Read Enable", and bit 4, linked mode
abbrev pub read_bit : ℕ → ℕ
read_bit control = control % 2

abbrev pub link_bit : ℕ → ℕ
link_bit control = control / 2 ^ 4 % 2

-- the first of 1 to 5 that applies, 0 where none does, of a fifo, the registers, and a ring, XF words and a vertex buffer of such lengths
unfoldable pub gate_by : Fifo → List ℕ → List ℕ → Draw → ℕ → ℕ → ℕ → ℕ
gate_by f cp bp draw ring xf buffer =
    cond (state_fits f cp bp draw ring)
    (cond (eqb xf xf_count)
    (cond (leb largest_vertex buffer)
    (cond (eqb (read_bit f.control) 0) 4
    (cond (eqb (link_bit f.control) 0) 0 5))
    3)
    2)
    1

-- the same of a state with a ring of that many bytes
abbrev pub gate_of : State → ℕ → ℕ
gate_of s ring = gate_by s.fifo s.cp s.bp s.draw ring (length s.xf) (length s.buffer)

-- the numbers of the gate's answer
abbrev pub meaning_of_gate : Result (Unit {0}) Reason → List ℕ
meaning_of_gate = answer_of (λ _. [])

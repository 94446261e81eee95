-- A start exists.
use mathlib.Core.Path.{refl}
use Rattle.laws.specs.Values.{up_to}
use Rattle.fifo.specs.Window.{size_limit, valid_by, ready_by, count_of}
use Rattle.queue.specs.Pending.{pending}
use Rattle.machine.specs.State.{fresh_machine}
use Rattle.machine.specs.Gate.{all_below, bp_fits, cp_fits, control_fits, draw_fits, registers_fit, state_fits, gate_by}
use Rattle.sequence.specs.Promise.{Start}
use Rattle.sequence.specs.Start.{first_world}

pub first_start : Start first_world
unfolding first_world fresh_machine gate_by state_fits registers_fit control_fits cp_fits bp_fits draw_fits all_below
    ready_by valid_by size_limit count_of pending up_to
first_start = record { passes = refl; empty = refl; closed = refl; size = refl; unmasked = refl }

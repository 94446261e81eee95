-- The fault of a number, by where it stands among the numbers of a file.
use mathlib.Core.Path.{◌≡◌}
use mathlib.Core.Bool.{cond}
use Prim.Native.Nat.{ℕ, ◌^◌, ◌<◌, ◌≤◌}
use native.Mathlib.Omega.{arith}
use lib.Dec.{ltb, eqb}
use borrow.Author.Tests.{ne_eqb, lt-ltb, le-ltb}
use Rattle.places.specs.Places.{cp_count, bp_count}
use Rattle.command.specs.Look.{xf_count}
use Rattle.recording.specs.Format.{bp_from, cp_count_at, cp_from, xf_count_at, xf_from, stream_count_at}
use Rattle.recording.specs.Faults.{unless_equal, unless_below, unless_within, bases_from, strides_from, number_fault}

module _ (limit k v : ℕ) where
  pub of_bp_count : k ≡ 0 → number_fault limit k v ≡ unless_equal v bp_count
  unfolding number_fault
  of_bp_count e = rw e

  pub of_bp : bp_from ≤ k → k < cp_count_at → number_fault limit k v ≡ unless_below v (2 ^ 24)
  unfolding number_fault
  of_bp a h = rw (ne_eqb k 0 (λ z. omega (arith, a, z)), lt-ltb k cp_count_at h)

  pub of_cp_count : k ≡ cp_count_at → number_fault limit k v ≡ unless_equal v cp_count
  unfolding number_fault
  of_cp_count e = rw e

  -- the tests for BP and for the count of CP, passed by
  past_bp : cp_from ≤ k → number_fault limit k v
      ≡ cond (ltb k bases_from) 0
      (cond (ltb k strides_from) (unless_below v (2 ^ 26))
      (cond (ltb k xf_count_at) (unless_below v (2 ^ 8))
      (cond (eqb k xf_count_at) (unless_equal v xf_count)
      (cond (ltb k stream_count_at) 0
      (unless_within v limit)))))
  unfolding number_fault
  past_bp a =
      rw (ne_eqb k 0 (λ z. omega (arith, a, z)), le-ltb k cp_count_at (omega (arith, a)), ne_eqb k cp_count_at (λ z. omega (arith, a, z)))

  pub of_plain_cp : cp_from ≤ k → k < bases_from → number_fault limit k v ≡ 0
  of_plain_cp a h = rw (past_bp a, lt-ltb k bases_from h)

  pub of_base : bases_from ≤ k → k < strides_from → number_fault limit k v ≡ unless_below v (2 ^ 26)
  of_base a h = rw (past_bp (omega (arith, a)), le-ltb k bases_from a, lt-ltb k strides_from h)

  pub of_stride : strides_from ≤ k → k < xf_count_at → number_fault limit k v ≡ unless_below v (2 ^ 8)
  of_stride a h = rw (past_bp (omega (arith, a)), le-ltb k bases_from (omega (arith, a)), le-ltb k strides_from a, lt-ltb k xf_count_at h)

  pub of_xf_count : k ≡ xf_count_at → number_fault limit k v ≡ unless_equal v xf_count
  unfolding number_fault
  of_xf_count e = rw e

  -- all tests before those of XF words, passed by
  past_cp : xf_from ≤ k → number_fault limit k v ≡ cond (ltb k stream_count_at) 0 (unless_within v limit)
  past_cp a =
      rw (
        past_bp (omega (arith, a)),
        le-ltb k bases_from (omega (arith, a)),
        le-ltb k strides_from (omega (arith, a)),
        le-ltb k xf_count_at (omega (arith, a)),
        ne_eqb k xf_count_at (λ z. omega (arith, a, z)),
      )

  pub of_xf : xf_from ≤ k → k < stream_count_at → number_fault limit k v ≡ 0
  of_xf a h = rw (past_cp a, lt-ltb k stream_count_at h)

  pub of_stream_count : stream_count_at ≤ k → number_fault limit k v ≡ unless_within v limit
  of_stream_count a = rw (past_cp (omega (arith, a)), le-ltb k stream_count_at a)

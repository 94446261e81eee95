-- `Pending::fill_round` meets its contract: each of the two parts is one stretch, and the list is the two.
use mathlib.Core.Path.{◌≡◌, ap, ap₂, ◌∙◌}
use mathlib.Core.List.{List, ◌++◌}
use Prim.Native.Nat.{ℕ, ◌-◌}
use native.Mathlib.Omega.{arith}
use lib.ListN.{length, take}
use Rattle.std.proofs.lemmas.Grind.{common_steps}
use Rattle.reading.proofs.Copies.{round_both}
use Rattle.reading.proofs.Pending.fill_round.Goals as goal

-- by the list in between
via : {l r : List ℕ} (m : List ℕ) → l ≡ m → m ≡ r → l ≡ r
via m e h = e ∙ h

pub returns : goal.returns
returns c =
    let k = c.args.self.cursor in
    let ring : List ℕ = c.args.self.ring.now in
    let e : length c.split_at_mut-front.result.1.now ≡ length c.args.out.now - (k.size - k.at) =
    omega (arith, c.split_at_mut-front.ensures.back_len) in
    let x = c.copy_from_slice.new.self in
    let y = c.copy_from_slice-2.new.self in
    let fx : length x ≡ k.size - k.at = omega (arith, c.copy_from_slice.ensures.len, c.split_at_mut-front.ensures.front_len) in
    via (x ++ y) (grind (arith, common_steps))
    (ap₂ (λ (x y : List ℕ). x ++ y) c.copy_from_slice.ensures.after
    (c.copy_from_slice-2.ensures.after ∙ ap (λ (m : ℕ). take m ring) e)
    ∙ round_both k ring (length c.args.out.now) c.requires)

-- Up to four bytes are read as many as they are.
use Rattle.std.proofs.Common.{◌≡◌, ℕ, ◌≤◌, arith}
use Rattle.std.proofs.lemmas.Grind.{common_steps}
use Rattle.octets.specs.BigEndian.{at_most_four}

pub at_most_four_lem : (n : ℕ) → n ≤ 4 → at_most_four n ≡ n
at_most_four_lem n h = grind (arith, common_steps)

-- `octets::write_words` meets its contract: after i turns the first i words stand at the front.
use mathlib.Core.Path.{◌≡◌}
use Rattle.octets.proofs.Words.{state}
use Rattle.octets.proofs.write_words.Given as goal

abbrev pub invariant-loop-i : goal.invariant-loop-i
invariant-loop-i l = l.out ≡ state l.initial.out l.words l.i

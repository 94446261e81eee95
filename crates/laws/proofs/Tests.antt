-- What tests that hold together say one by one.
use mathlib.Core.Path.{◌≡◌, refl}
use mathlib.Core.Bool.{Bool, true, ◌&&◌}
use mathlib.Core.List.{List, [], ◌∷◌}
use Prim.Native.Nat.{ℕ, zero, suc}
use lib.ListN.{get_or}
use Rattle.laws.specs.Tests.{all_from, all_of}
use Rattle.std.proofs.lemmas.Bool.{and_parts}

from_first : (t : Bool) (us : List Bool) → all_from t us ≡ true → t ≡ true
from_first t [] e = e
from_first t (u ∷ us) e = (and_parts t u (from_first (t && u) us e)).0

from_rest : (t : Bool) (us : List Bool) → all_from t us ≡ true → (k : ℕ) → get_or us k true ≡ true
from_rest t [] e zero = refl
from_rest t [] e (suc k) = refl
from_rest t (u ∷ us) e zero = (and_parts t u (from_first (t && u) us e)).1
from_rest t (u ∷ us) e (suc k) = from_rest (t && u) us e k

-- each test of a list of which all hold
pub all_hold : (ts : List Bool) → all_of ts ≡ true → (k : ℕ) → get_or ts k true ≡ true
all_hold [] e zero = refl
all_hold [] e (suc k) = refl
all_hold (t ∷ ts) e zero = from_first t ts e
all_hold (t ∷ ts) e (suc k) = from_rest t ts e k

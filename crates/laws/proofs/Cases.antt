-- Taking a test apart.
use mathlib.Core.Path.{◌≡◌, refl}
use mathlib.Core.Bool.{Bool, true, false}
use lib.Dec.{T}

-- a test that holds is true
pub is_true : (t : Bool) → T t → t ≡ true
is_true true h = refl
is_true false h = absurd h

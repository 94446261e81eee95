-- Lists of tests.
use Rattle.std.specs.Prelude.{Bool, true, ◌&&◌, List, [], ◌∷◌}

-- whether a test and all of a list hold
abbrev pub all_from : Bool → List Bool → Bool
all_from t [] = t
all_from t (u ∷ us) = all_from (t && u) us

-- whether all tests of a list hold
abbrev pub all_of : List Bool → Bool
all_of [] = true
all_of (t ∷ ts) = all_from t ts

-- For the code's own functions: the BP registers are lent where they stand, behind words 0 to 70.
use Rattle.std.specs.Prelude.{◌≡◌, List, ℕ, length, take}

-- 327 words whose BP registers alone may have changed
pub record AheadKept (words words' : List ℕ) : Type 0 where
  pub long : length words ≡ 327
  pub still : length words' ≡ 327
  pub ahead : take 71 words' ≡ take 71 words

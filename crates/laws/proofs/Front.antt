-- A list whose front a loop fills with a function's values, while the rest stays.
use mathlib.Core.Path.{◌≡◌, refl, sym, ◌∙◌}
use mathlib.Core.List.{List, ◌++◌}
use Prim.Native.Nat.{ℕ, suc, ◌+◌, ◌<◌}
use native.Mathlib.Numerals.{add-one}
use lib.ListN.{length, get_or, set, drop}
use lib.Seq.{drop-cons, set_at, append_snoc, ext_get_or}
use Rattle.laws.specs.Values.{up_to}
use Rattle.laws.proofs.Filled.{length_up_to, get_d_up_to}

-- equal values make equal lists
pub up_to_ext : (f g : ℕ → ℕ) (n : ℕ) → ((i : ℕ) → i < n → f i ≡ g i) → up_to f n ≡ up_to g n
up_to_ext f g n e =
    ext_get_or 0 (up_to f n) (up_to g n) (length_up_to f n ∙ sym (length_up_to g n))
    (λ i h. let l : i < n = rw (length_up_to f n) at h in get_d_up_to f n i l ∙ e i l ∙ sym (get_d_up_to g n i l))

-- nothing is filled yet
pub front_none : (f : ℕ → ℕ) (d : List ℕ) → d ≡ up_to f 0 ++ drop 0 d
unfolding up_to
front_none f d = refl

-- one more element
pub front_next : (f : ℕ → ℕ) (n : ℕ) (d : List ℕ) {l : List ℕ} {v : ℕ} → n < length d → l ≡ up_to f n ++ drop n d → v ≡ f n
    → set l n v ≡ up_to f (n + 1) ++ drop (n + 1) d
unfolding up_to
front_next f n d h e q =
    rw (e, q, add-one n, drop-cons d n 0 h)
    (set_at (up_to f n) (get_or d n 0) (drop (suc n) d) (f n) n (length_up_to f n) ∙ sym (append_snoc (up_to f n) (f n) (drop (suc n) d)))

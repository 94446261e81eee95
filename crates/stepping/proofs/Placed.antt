-- The BP registers lent where they stand among the words: what comes back is theirs, and the words before them stay.
use mathlib.Core.Path.{◌≡◌, sym, ap, subst, ◌∙◌}
use mathlib.Core.List.{List, ◌++◌}
use Prim.Native.Nat.{ℕ, ◌-◌}
use native.Mathlib.Omega.{arith}
use lib.ListN.{length, take, drop, length-drop, take-append-drop}
use lib.Seq.{length-take-le, take_at, drop_at, take_all, take-add}
use borrow.Rule.Slice.PartMut.{mid_of, post_of, put_mid, same_len_mid, take_put}
use Rattle.words.specs.State.{cp_of, bp_of}
use Rattle.stepping.specs.InPlace.{AheadKept}

-- the last 256 of 327 words
pub last_words : (l : List ℕ) → length l ≡ 327 → mid_of 71 (length l - 71) l ≡ bp_of l
unfolding bp_of
last_words l long =
    let n : length l - 71 ≡ 256 = omega arith in
    ap (λ (n : ℕ). take n (drop 71 l)) n

module _ (l ys : List ℕ) (long : length l ≡ 327) (many : length ys ≡ length (mid_of 71 (length l - 71) l)) where
  -- as many as were lent
  as_lent : length ys ≡ 256
  as_lent = many ∙ length-take-le (length l - 71) (drop 71 l) (omega (arith, length-drop 71 l)) ∙ omega arith

  back_bp : ys ≡ bp_of (put_mid 71 (length l - 71) l ys)
  unfolding bp_of
  back_bp =
      let post : List ℕ = post_of 71 (length l - 71) l in
      let ahead = drop_at (take 71 l) (ys ++ post) 71 (length-take-le 71 l (omega arith)) in
      sym (ap (λ (x : List ℕ). take 256 x) ahead ∙ take_at ys post 256 as_lent)

  -- what a call promises of the words that it was lent, it promises of the BP registers
  pub in_place : (P : List ℕ → List ℕ → Type 0) → P (mid_of 71 (length l - 71) l) ys
      → P (bp_of l) (bp_of (put_mid 71 (length l - 71) l ys)) × AheadKept l (put_mid 71 (length l - 71) l ys)
  in_place P h = (
    subst (λ (x : List ℕ). P x (bp_of (put_mid 71 (length l - 71) l ys))) (last_words l long)
        (subst (λ (x : List ℕ). P (mid_of 71 (length l - 71) l) x) back_bp h),
    record {
      long = long;
      still = same_len_mid 71 (length l - 71) l ys many ∙ long;
      ahead = take_put 71 (length l - 71) l ys (omega arith);
    },
  )

module _ {l l' : List ℕ} (h : AheadKept l l') where
  -- words 11 to 70 of the first 71
  ahead_cp : (x : List ℕ) → length x ≡ 327 → drop 11 (take 71 x) ≡ cp_of x
  unfolding cp_of
  ahead_cp x e =
      ap (λ (y : List ℕ). drop 11 y) (take-add 11 60 x)
      ∙ drop_at (take 11 x) (take 60 (drop 11 x)) 11 (length-take-le 11 x (omega arith))

  pub kept_cp : cp_of l' ≡ cp_of l
  kept_cp = sym (ahead_cp l' h.still) ∙ ap (λ (x : List ℕ). drop 11 x) h.ahead ∙ ahead_cp l h.long

  -- all words, by the first 71 and the BP registers
  by_parts : (x : List ℕ) → length x ≡ 327 → take 71 x ++ bp_of x ≡ x
  unfolding bp_of
  by_parts x e =
      ap (λ (y : List ℕ). take 71 x ++ y) (take_all 256 (drop 71 x) (omega (arith, length-drop 71 x))) ∙ take-append-drop 71 x

  pub kept_whole : bp_of l' ≡ bp_of l → l' ≡ l
  kept_whole e = sym (by_parts l' h.still) ∙ (λ i. h.ahead i ++ e i) ∙ by_parts l h.long

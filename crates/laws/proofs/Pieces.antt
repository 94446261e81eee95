-- A list written piece by piece over the front of an output, each piece into what is left of it.
use mathlib.Core.Path.{◌≡◌, refl, sym, ap, ap₂, ◌∙◌}
use mathlib.Core.List.{List, [], ◌++◌, append_assoc, append-nil}
use Prim.Native.Nat.{ℕ, ◌+◌, ◌-◌, ◌≤◌, zero-le}
use native.Mathlib.Nat.{add-zero, le_of_eq}
use native.Mathlib.Omega.{arith}
use lib.ListN.{length, take, drop, length-append, length-drop, drop_of_length-le}
use lib.Seq.{take-add, drop-drop, take-append_seam, drop-append_seam, take_at, drop_at, take-length, length-take-le, take_all}
use borrow.Rule.Slice.PartMut.{put_mid}

-- of the list w, what comes before place k stands at the front of out, which is out₀ from there on; q is left
pub record Pieces (w out₀ out : List ℕ) (k : ℕ) (q : List ℕ) : Type 0 where
  pub so_far : out ≡ take k w ++ drop k out₀
  pub to_come : drop k w ≡ q
  pub inside : k ≤ length w
  pub room : length w ≤ length out₀

pub pieces_none : (w out : List ℕ) → length w ≤ length out → Pieces w out out 0 w
pieces_none w out h = record { so_far = refl; to_come = refl; inside = zero-le; room = h }

module _ {w out₀ out : List ℕ} {k : ℕ} where
  -- how much is left
  pub pieces_left : {q : List ℕ} → Pieces w out₀ out k q → k + length q ≡ length w
  pieces_left {q} h =
      let e : length w - k ≡ length q = sym (length-drop k w) ∙ ap (λ (x : List ℕ). length x) h.to_come in
      let i = h.inside in omega arith

  pub pieces_length : {q : List ℕ} → Pieces w out₀ out k q → length out ≡ length out₀
  pieces_length h =
      ap (λ (x : List ℕ). length x) h.so_far ∙ length-append (take k w) (drop k out₀)
      ∙ ap₂ (λ (x y : ℕ). x + y) (length-take-le k w h.inside) (length-drop k out₀)
      ∙ (let i = h.inside in let r = h.room in omega arith)

  -- what is left fits
  pub pieces_fit : {q : List ℕ} → Pieces w out₀ out k q → k + length q ≤ length out
  pieces_fit h = let r = h.room in omega (arith, pieces_left h, pieces_length h)

  -- the next piece, written at the front of what is left
  pub pieces_next : (b q : List ℕ) → Pieces w out₀ out k (b ++ q)
      → Pieces w out₀ (take k out ++ (b ++ drop (length b) (drop k out))) (k + length b) q
  pieces_next b q h =
      record {
        so_far =
            ap₂ (λ (x y : List ℕ). x ++ (b ++ drop (length b) y)) front back
            ∙ sym (append_assoc (take k w) b (drop (length b) (drop k out₀)))
            ∙ ap₂ (λ (x y : List ℕ). x ++ y)
            (sym (take-add k (length b) w ∙ ap (λ (x : List ℕ). take k w ++ take (length b) x) h.to_come
            ∙ ap (λ (x : List ℕ). take k w ++ x) (take-append_seam b q)))
            (drop-drop (length b) k out₀);
        to_come = sym (drop-drop (length b) k w) ∙ ap (λ (x : List ℕ). drop (length b) x) h.to_come ∙ drop-append_seam b q;
        inside = omega (arith, simp length-append at (pieces_left h));
        room = h.room;
      }
    where
      taken : length (take k w) ≡ k
      taken = length-take-le k w h.inside

      front : take k out ≡ take k w
      front = ap (λ (x : List ℕ). take k x) h.so_far ∙ take_at (take k w) (drop k out₀) k taken

      back : drop k out ≡ drop k out₀
      back = ap (λ (x : List ℕ). drop k x) h.so_far ∙ drop_at (take k w) (drop k out₀) k taken

  -- nothing is left
  pub pieces_all : Pieces w out₀ out k [] → out ≡ w ++ drop (length w) out₀
  pieces_all h =
      let e : k ≡ length w = sym (add-zero k) ∙ pieces_left h in
      h.so_far ∙ ap (λ (x : ℕ). take x w ++ drop x out₀) e ∙ ap (λ (x : List ℕ). x ++ drop (length w) out₀) (take-length w)

-- what is left of an output, lent from place k on and given back with b over its front
pub lent_rest : (out b v : List ℕ) (k : ℕ) → v ≡ b ++ drop (length b) (take (length out - k) (drop k out))
    → put_mid k (length out - k) out v ≡ take k out ++ (b ++ drop (length b) (drop k out))
lent_rest out b v k e =
    ap₂ (λ (x y : List ℕ). take k out ++ (x ++ y)) (e ∙ ap (λ (x : List ℕ). b ++ drop (length b) x) part) past
    ∙ ap (λ (x : List ℕ). take k out ++ x) (append-nil (b ++ drop (length b) (drop k out)))
  where
    part : take (length out - k) (drop k out) ≡ drop k out
    part = take_all (length out - k) (drop k out) (le_of_eq (length-drop k out))

    past : drop (length out - k) (drop k out) ≡ []
    past = drop_of_length-le (drop k out) {i = length out - k} (le_of_eq (length-drop k out))

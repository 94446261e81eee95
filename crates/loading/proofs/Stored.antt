-- BP and XF loads are units of their bytes.
use mathlib.Core.Path.{◌≡◌, refl, sym, ap, ◌∙◌}
use mathlib.Core.List.{List}
use Prim.Native.Nat.{ℕ, ◌+◌, ◌-◌, ◌*◌, ◌/◌, ◌%◌, ◌<◌, ◌≤◌}
use native.Mathlib.Omega.{arith}
use lib.ListN.{length, get_or, take, drop}
use lib.Seq.{get_or-drop}
use Rattle.octets.specs.BigEndian.{big_endian, Octets}
use Rattle.octets.proofs.Number.{two_bytes, three_bytes}
use Rattle.command.specs.Command.{load_bp, load_xf}
use Rattle.command.specs.Look.{xf_count, xf_words, xf_address}
use Rattle.command.proofs.Decided.{looks_bp, looks_xf}
use Rattle.effect.specs.Effect.{cp_after, bp_after, xf_after, vertex_after, draw_after, loaded_bp, loaded_xf}
use Rattle.walk.specs.Flat.{core_after}
use Rattle.walk.specs.Moves.{MovesBp, MovesXf, shut}
use Rattle.walk.proofs.Walks.{first_at, there, One, moves_none, moves_then, moved_one}
use Rattle.loading.specs.Inner.{HeadOf}

-- ---- no load

pub bp_none : {bytes : List ℕ} {from : ℕ} {bp : List ℕ} {most : ℕ} → MovesBp bytes from bp most 0 from bp
bp_none = record { any = λ _ _ _. moves_none }

pub xf_none : {bytes : List ℕ} {from : ℕ} {xf : List ℕ} {most : ℕ} → MovesXf bytes from xf most 0 from xf
xf_none = record { any = λ _ _ _. moves_none }

-- ---- 61

high : (a b c d : ℕ) → b < 256 → c < 256 → d < 256 → (((a * 256 + b) * 256 + c) * 256 + d) / 16777216 ≡ a
high a b c d p q r = omega arith

low : (a b c d : ℕ) → b < 256 → c < 256 → d < 256 → (((a * 256 + b) * 256 + c) * 256 + d) % 16777216 ≡ (b * 256 + c) * 256 + d
low a b c d p q r = omega arith

module _ (bytes : List ℕ) (o : Octets bytes) (at : ℕ) where
  bp_after_lem : (r n : ℕ) (u bp cp xf buffer : List ℕ)
      → shut cp (loaded_bp bp r n) xf buffer ≡ core_after (load_bp r n) u (shut cp bp xf buffer)
  unfolding cp_after bp_after xf_after vertex_after draw_after
  bp_after_lem r n u bp cp xf buffer = refl

  pub one_bp : 5 ≤ length bytes - at → get_or bytes at 0 ≡ 0x61 → (word : ℕ)
      → word ≡ ((get_or bytes (at + 1) 0 * 256 + get_or bytes (at + 2) 0) * 256 + get_or bytes (at + 3) 0) * 256 + get_or bytes (at + 4) 0
      → {bp bp' : List ℕ} → bp' ≡ loaded_bp bp (word / 16777216) (word % 16777216) → (cp xf buffer : List ℕ)
      → One bytes at (shut cp bp xf buffer) 5 (shut cp bp' xf buffer)
  one_bp h op word w {bp} {bp'} e cp xf buffer =
      let b : List ℕ = drop at bytes in
      let x : ℕ → ℕ = λ k. get_or bytes (at + k) 0 in
      let r : word / 16777216 ≡ x 1 = ap (λ (y : ℕ). y / 16777216) w ∙ high (x 1) (x 2) (x 3) (x 4) (o (at + 2)) (o (at + 3))
      (o (at + 4)) in
      let n : word % 16777216 ≡ big_endian b 2 3 =
      ap (λ (y : ℕ). y % 16777216) w ∙ low (x 1) (x 2) (x 3) (x 4) (o (at + 2)) (o (at + 3)) (o (at + 4))
      ∙ sym (three_bytes b 2 ∙ rw (get_or-drop at bytes 2 0, get_or-drop at bytes 3 0, get_or-drop at bytes 4 0)) in
      record {
        command = load_bp (word / 16777216) (word % 16777216);
        memory = 0;
        found = looks_bp b (length b) cp (first_at bytes at ∙ op) (there bytes at 5 h) ∙ rw (get_or-drop at bytes 1 0, ← r, ← n);
        after = rw e (bp_after_lem (word / 16777216) (word % 16777216) (take 5 b) bp cp xf buffer);
      }

-- ---- 10

pub head_of : (bytes : List ℕ) (at : ℕ) → at ≤ length bytes → get_or bytes at 0 ≡ 0x10 → (words address : ℕ)
    → words ≡ (get_or bytes (at + 1) 0 * 256 + get_or bytes (at + 2) 0) % 16 + 1
    → address ≡ get_or bytes (at + 3) 0 * 256 + get_or bytes (at + 4) 0
    → address + words ≤ xf_count → HeadOf bytes at words address
unfolding xf_words xf_address
head_of bytes at i o words address w a l =
    let p : List ℕ = drop at bytes in
    let ws : xf_words p ≡ words = rw (two_bytes p 1, get_or-drop at bytes 1 0, get_or-drop at bytes 2 0) (sym w) in
    let ad : xf_address p ≡ address = rw (two_bytes p 3, get_or-drop at bytes 3 0, get_or-drop at bytes 4 0) (sym a) in
    record {
      here = i;
      few = omega arith;
      found = λ cp h. rw (← ws, ← ad) (looks_xf p (length p) cp (first_at bytes at ∙ o) (omega arith) (omega arith));
    }

xf_after_lem : (w a : ℕ) (u bp cp xf buffer : List ℕ)
    → shut cp bp (loaded_xf xf u w a) buffer ≡ core_after (load_xf w a) u (shut cp bp xf buffer)
unfolding cp_after bp_after xf_after vertex_after draw_after
xf_after_lem w a u bp cp xf buffer = refl

pub one_xf : (bytes : List ℕ) (at words address : ℕ) → HeadOf bytes at words address → 5 + 4 * words ≤ length bytes - at
    → {xf xf' : List ℕ} → xf' ≡ loaded_xf xf (take (at + (5 + 4 * words) - at) (drop at bytes)) words address
    → MovesXf bytes at xf 1 1 (at + (5 + 4 * words)) xf'
one_xf bytes at words address h l {xf} e =
    let n : ℕ = 5 + 4 * words in
    let z : at + n - at ≡ n = omega arith in
    let i = h.here in
    record {
      any = λ cp bp buffer.
          moved_one (omega arith)
          (record {
            command = load_xf words address;
            memory = 0;
            found = h.found cp (there bytes at n l);
            after = rw (rw z at e) (xf_after_lem words address (take n (drop at bytes)) bp cp xf buffer);
          });
    }

-- loads so far, and then one or none
pub xf_then : {bytes : List ℕ} {from : ℕ} {xf : List ℕ} {most n place : ℕ} {xf' : List ℕ} {one to : ℕ} {xf'' : List ℕ}
    → MovesXf bytes from xf most n place xf' → MovesXf bytes place xf' 1 one to xf'' → n < most
    → MovesXf bytes from xf most (n + one) to xf''
xf_then w v h = record { any = λ cp bp buffer. moves_then (w.any cp bp buffer) (v.any cp bp buffer) (omega arith) }

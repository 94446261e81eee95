-- BP loads as commands: their bytes, that they are written, and that they leave everything but the BP registers.
use mathlib.Core.Path.{◌≡◌, refl, ap, ◌∙◌}
use mathlib.Core.Bool.{cond}
use mathlib.Core.List.{List, [], ◌∷◌, append-nil}
use Prim.Native.Nat.{ℕ, suc, ◌^◌, ◌≤◌, ◌<◌}
use lib.Dec.{eqb}
use lib.ListN.{length}
use borrow.Author.Tests.{lt-leb, le-ltb}
use Rattle.octets.specs.BigEndian.{bytes_of}
use Rattle.octets.proofs.Written.{length_bytes}
use Rattle.command.specs.Command.{load_bp}
use Rattle.command.specs.declared.Draw.{Draw}
use Rattle.effect.specs.Effect.{cp_after, xf_after, vertex_after, draw_after}
use Rattle.std.specs.Prelude.{Result, Ok}
use Rattle.refusal.specs.declared.Reason.{Reason}
use Rattle.writer.specs.Write.{head_of, words_of, word_bytes, command_bytes, refusal_of, placed, Writes}
use Rattle.writer.proofs.Meanings.{meaning_injective}
use Rattle.writable.specs.Writable.{unwritable, unaddressed, past_end}

module _ (register n : ℕ) where
  pub load_bytes : command_bytes (load_bp register n) [] ≡ 0x61 ∷ register ∷ bytes_of 3 n
  unfolding command_bytes head_of words_of word_bytes
  load_bytes = append-nil (0x61 ∷ register ∷ bytes_of 3 n)

  pub load_length : length (command_bytes (load_bp register n) []) ≡ 5
  load_length = ap (λ (x : List ℕ). length x) load_bytes ∙ ap (λ (x : ℕ). suc (suc x)) (length_bytes 3 n)

  writable : (room : ℕ) → n < 2 ^ 24 → 5 ≤ room → refusal_of (load_bp register n) [] room ≡ 0
  unfolding refusal_of unwritable unaddressed past_end
  writable room h k = rw (lt-leb (2 ^ 24) n h, load_length, le-ltb room 5 k)

  -- a load of 24 bits is written wherever there is room for five bytes
  pub load_written : {out out' : List ℕ} {w : Result ℕ Reason} → n < 2 ^ 24 → 5 ≤ length out → Writes (load_bp register n) [] out w out'
      → out' ≡ placed (command_bytes (load_bp register n) []) out
  load_written {out} h k e =
      e.out_is
      ∙ ap (λ (x : ℕ). cond (eqb x 0) (placed (command_bytes (load_bp register n) []) out) out) (writable (length out) h k)

  -- and the answer is these five
  pub load_answered : {out out' : List ℕ} {w : Result ℕ Reason} → n < 2 ^ 24 → 5 ≤ length out → Writes (load_bp register n) [] out w out'
      → w ≡ Ok 5
  load_answered {out} {out'} {w} h k e = meaning_injective w (Ok 5) (e.answer_is ∙ rw (writable (length out) h k, load_length))

  -- CP registers, XF words, the vertex buffer and the open draw stay
  pub load_cp_lem : (cp : List ℕ) → cp_after (load_bp register n) cp ≡ cp
  unfolding cp_after
  load_cp_lem cp = refl

  pub load_xf_lem : (bytes xf : List ℕ) → xf_after (load_bp register n) bytes xf ≡ xf
  unfolding xf_after
  load_xf_lem bytes xf = refl

  pub load_vertex : (bytes buffer : List ℕ) → vertex_after (load_bp register n) bytes buffer ≡ buffer
  unfolding vertex_after
  load_vertex bytes buffer = refl

  pub load_draw : (draw : Draw) → draw_after (load_bp register n) draw ≡ draw
  unfolding draw_after
  load_draw draw = refl

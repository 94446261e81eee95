-- Written and looked at: any command that the writer accepts comes back, a draw head unless 9 or 10.
use mathlib.Core.Path.{◌≡◌, refl, sym, ap, ◌∙◌}
use mathlib.Core.Bool.{false≢true, false, ◌&&◌}
use mathlib.Core.List.{List, ◌∷◌, ◌++◌}
use Prim.Native.Nat.{ℕ, suc, ◌+◌, ◌*◌, ◌^◌, ◌≤◌}
use native.Mathlib.Omega.{arith}
use lib.Dec.{leb, ltb, eqb}
use lib.ListN.{length, take, length-append}
use lib.Seq.{length-take-le}
use borrow.Author.Tests.{not-false, eqb-true, leb-true, leb-false, ltb-true, ltb-false}
use Rattle.std.proofs.lemmas.Bool.{and_parts, or_parts}
use Rattle.octets.specs.BigEndian.{bytes_of}
use Rattle.layout.specs.Answers.{refusal_of}
use Rattle.command.specs.declared.Command.{Command}
use Rattle.command.specs.declared.Command.TheVariants.{NoOperation, InvalidateCache, Metrics, LoadCp, LoadXf, LoadIndexed}
use Rattle.command.specs.declared.Command.TheVariants.{CallList, LoadBp, DrawHead, Vertex}
use Rattle.command.specs.Command.{unit, kind_of, field_of, numbers_of}
use Rattle.places.specs.Places.{cp_accepted}
use Rattle.command.specs.Look.{xf_count, descriptor_of, by_opcode}
use Rattle.writer.specs.Write.{head_of, words_of, word_bytes, command_bytes}
use Rattle.writable.specs.Writable.{unwritable, unaddressed, past_end}
use Rattle.writer.specs.Widths.{Typed, reported}
pub use Rattle.writer.specs.Back.{LooksBack}
use Rattle.octets.proofs.Words.{length_words}
use Rattle.writer.proofs.RoundTrip.{there, opened, cp_back, xf_back, indexed_back, call_back, bp_back, head_back}

module _ (words rest cp : List ℕ) where
  pub looks_back : (command : Command) → Typed command
      → unwritable (numbers_of command) (length words) ≡ false → unaddressed (numbers_of command) ≡ false
      → past_end (numbers_of command) ≡ false
      → (kind_of (numbers_of command) ≡ 0x80 → refusal_of (descriptor_of cp (field_of (numbers_of command) 2)) ≡ 0)
      → LooksBack command words rest cp
  unfolding command_bytes head_of words_of word_bytes unwritable unaddressed past_end reported by_opcode bytes_of
  looks_back NoOperation t w a p d = sym (opened 0x00 rest cp) ∙ there (length (0x00 ∷ rest)) 1 _ 0 (omega arith)
  looks_back InvalidateCache t w a p d = sym (opened 0x48 rest cp) ∙ there (length (0x48 ∷ rest)) 1 _ 0 (omega arith)
  looks_back Metrics t w a p d = sym (opened 0x44 rest cp) ∙ there (length (0x44 ∷ rest)) 1 _ 0 (omega arith)
  looks_back (LoadCp address n) t w a p d = cp_back rest cp address n t.1 (not-false (cp_accepted address) a)
  looks_back (CallList address size) t w a p d = call_back rest cp address size t.0 t.1
  looks_back (LoadBp register n) t w a p d = bp_back rest cp register n (leb-false (2 ^ 24) n w)
  looks_back (DrawHead primitive format count) t w a p d =
      head_back rest cp primitive format count
      (leb-false 8 primitive (or_parts (leb 8 primitive) (leb 8 format) w).0)
      (leb-false 8 format (or_parts (leb 8 primitive) (leb 8 format) w).1) t.1.1 (d refl)
  looks_back (LoadIndexed array index w address) t u a p d =
      let all = not-false ((leb 12 array && leb array 15) && ((leb 1 w && leb w 16) && ltb address 4096)) u in
      let r = (and_parts (leb 12 array && leb array 15) ((leb 1 w && leb w 16) && ltb address 4096) all).0 in
      let s = (and_parts (leb 12 array && leb array 15) ((leb 1 w && leb w 16) && ltb address 4096) all).1 in
      let m = (and_parts (leb 1 w && leb w 16) (ltb address 4096) s).0 in
      indexed_back rest cp array index w address
      (leb-true 12 array (and_parts (leb 12 array) (leb array 15) r).0) (leb-true array 15 (and_parts (leb 12 array) (leb array 15) r).1)
      t.0.1
      (leb-true 1 w (and_parts (leb 1 w) (leb w 16) m).0) (leb-true w 16 (and_parts (leb 1 w) (leb w 16) m).1)
      (ltb-true address 4096 (and_parts (leb 1 w && leb w 16) (ltb address 4096) s).1)
  looks_back (LoadXf w address) t u a p d =
      let all = not-false (leb 1 w && (leb w 16 && eqb w (length words))) u in
      let m = (and_parts (leb 1 w) (leb w 16 && eqb w (length words)) all).1 in
      let same : w ≡ length words = eqb-true w (length words) (and_parts (leb w 16) (eqb w (length words)) m).1 in
      let ws : List ℕ = word_bytes (take w words) in
      let k : length (take w words) ≡ w = length-take-le w words (omega arith) in
      let n : length ws ≡ 4 * w = length_words (take w words) ∙ ap (λ (x : ℕ). 4 * x) k in
      let size : 5 + 4 * w ≡ suc (suc (suc (suc (suc (length ws))))) = omega arith in
      let long : 4 * w ≤ length (ws ++ rest) = omega (arith, length-append ws rest) in
      xf_back (ws ++ rest) cp w address
      (leb-true 1 w (and_parts (leb 1 w) (leb w 16 && eqb w (length words)) all).0)
      (leb-true w 16 (and_parts (leb w 16) (eqb w (length words)) m).0)
      t.1 (ltb-false xf_count (address + w) p) long
      ∙ ap (λ (x : ℕ). unit (numbers_of (LoadXf w address)) 0 x) size
  looks_back Vertex t w a p d = absurd (false≢true (sym w))

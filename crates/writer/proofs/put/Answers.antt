-- `writer::put` meets its contract: the head is copied to the front, and the words go into what is left.
use mathlib.Core.Path.{◌≡◌, ap, ◌∙◌}
use mathlib.Core.List.{List, ◌++◌, append_assoc}
use Prim.Native.Nat.{ℕ, ◌+◌, ◌-◌, ◌*◌, ◌≤◌}
use native.Mathlib.Omega.{arith}
use borrow.Rule.Slice.PartMut.{put_mid}
use lib.ListN.{length, take, drop, length-append, length-drop}
use lib.Seq.{drop-drop}
use Rattle.std.proofs.Math.Seq.{take-append_seam, drop-append_seam}
use Rattle.octets.specs.BigEndian.{word_bytes, with_words}
use Rattle.octets.proofs.Words.{words_lent}
use Rattle.writer.specs.Write.{placed}
use Rattle.writer.proofs.put.Goals as goal

-- words over what is left behind a head at the front
behind : (head ws out o v : List ℕ) → o ≡ head ++ drop (length head) out → length head + 4 * length ws ≤ length out
    → v ≡ with_words ws (take (length o - length head) (drop (length head) o))
    → put_mid (length head) (length o - length head) o v ≡ placed (head ++ word_bytes ws) out
behind head ws out o v e h q =
    let room : length head + 4 * length ws ≤ length o = rw e (simp (length-append, length-drop) (omega arith)) in
    words_lent o ws v (length head) room q
    ∙ rw (
      e,
      take-append_seam head (drop (length head) out),
      drop-append_seam head (drop (length head) out),
      drop-drop (length (word_bytes ws)) (length head) out,
      length-append head (word_bytes ws),
      append_assoc head (word_bytes ws) (drop (length head + length (word_bytes ws)) out),
    )

pub returns : goal.returns
returns c =
    let out = c.args.out.now in
    let head = c.args.head.now in
    behind head c.args.words.now out _ _ (ap (λ (x : List ℕ). x ++ drop (length head) out) c.copy_from_slice.ensures.after) c.requires
    c.write_words.ensures

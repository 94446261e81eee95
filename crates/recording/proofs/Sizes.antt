-- How long the parts of a file are.
use mathlib.Core.Path.{◌≡◌, sym, ap, ◌∙◌}
use mathlib.Core.List.{List, ◌++◌, append_assoc}
use Prim.Native.Nat.{ℕ, ◌+◌, ◌*◌}
use native.Mathlib.Omega.{arith}
use lib.ListN.{length, length-append}
use Rattle.octets.specs.BigEndian.{bytes_of, word_bytes}
use Rattle.octets.proofs.Written.{length_bytes}
use Rattle.octets.proofs.Words.{length_words}
use Rattle.places.specs.Places.{cp_count, bp_count}
use Rattle.command.specs.Look.{xf_count}
use Rattle.recording.specs.Format.{recording_of, section, head_bytes, file_bytes, stream_at}

pub section_length : (numbers : List ℕ) → length (section numbers) ≡ 4 + 4 * length numbers
section_length numbers =
    omega (arith, length-append (bytes_of 4 (length numbers)) (word_bytes numbers), length_bytes 4 (length numbers), length_words numbers)

module _ (cp bp xf : List ℕ) (n : ℕ) (of_cp : length cp ≡ cp_count) (of_bp : length bp ≡ bp_count) (of_xf : length xf ≡ xf_count) where
  -- where the second section, the third and the count of the stream begin
  pub second : length (section bp) ≡ 1028
  second = omega (arith, section_length bp, of_bp)

  pub third : length (section bp ++ section cp) ≡ 1272
  third = omega (arith, length-append (section bp) (section cp), second, section_length cp, of_cp)

  pub fourth : length ((section bp ++ section cp) ++ section xf) ≡ 18012
  fourth = omega (arith, length-append (section bp ++ section cp) (section xf), third, section_length xf, of_xf)

  pub joined : ((section bp ++ section cp) ++ section xf) ++ bytes_of 4 n ≡ head_bytes cp bp xf n
  unfolding head_bytes
  joined = simp append_assoc

  -- a head has 18,016 bytes
  pub head_length : length (head_bytes cp bp xf n) ≡ stream_at
  head_length =
      ap (λ (l : List ℕ). length l) (sym joined)
      ∙ omega (arith, length-append ((section bp ++ section cp) ++ section xf) (bytes_of 4 n), fourth, length_bytes 4 n)

pub file_length : (cp bp xf stream : List ℕ) → length (head_bytes cp bp xf (length stream)) ≡ stream_at
    → stream_at + length stream ≡ length (file_bytes (recording_of cp bp xf stream))
unfolding file_bytes
file_length cp bp xf stream e = sym (length-append (head_bytes cp bp xf (length stream)) stream ∙ ap (λ (n : ℕ). n + length stream) e)

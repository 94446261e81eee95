-- A file without a fault: each of its numbers is whole and sound, and it is exactly what is written for its content.
use mathlib.Core.Path.{◌≡◌, refl, sym, ap, ap₂, ◌∙◌, subst}
use mathlib.Core.Bool.{Bool, true, false, cond}
use mathlib.Core.List.{List, ◌++◌, append_assoc}
use Prim.Native.Nat.{ℕ, zero, suc, ◌+◌, ◌-◌, ◌*◌, ◌<◌, ◌≤◌}
use native.Mathlib.Nat.{add-zero}
use native.Mathlib.Omega.{arith}
use lib.Dec.{leb, ltb, eqb, lit<}
use lib.ListN.{length, take, drop, length-drop, take-append-drop}
use lib.Seq.{drop-drop, take-add}
use borrow.Author.Tests.{leb-true, ltb-false, eqb-true}
use Rattle.laws.proofs.Filled.{length_up_to}
use Rattle.refusal.proofs.First.{or_zero}
use Rattle.octets.specs.BigEndian.{Octets, bytes_of, words_at}
use Rattle.octets.proofs.Written.{write_back}
use Rattle.octets.proofs.WordsBack.{words_back}
use Rattle.places.specs.Places.{cp_count, bp_count}
use Rattle.command.specs.Look.{xf_count}
use Rattle.recording.specs.Format.{section, head_bytes, file_bytes, bp_from, cp_count_at, cp_from, xf_count_at, xf_from, stream_count_at}
use Rattle.recording.specs.Format.{number_count, stream_at, file_number, content_of}
use Rattle.recording.specs.Faults.{unless_within, number_fault, first_fault, head_fault, rest_fault, file_fault}
use Rattle.recording.proofs.Classes.{of_bp_count, of_cp_count, of_xf_count, of_stream_count}

-- number k is whole, and has no fault
pub record SoundAt (limit : ℕ) (file : List ℕ) (k : ℕ) : Type 0 where
  pub whole : 4 * k + 4 ≤ length file
  pub fault : number_fault limit k (file_number file k) ≡ 0

whole_by : (t : Bool) (b : ℕ) → cond t 22 b ≡ 0 → (t ≡ false) × (b ≡ 0)
whole_by true b e = absurd (omega (arith, e))
whole_by false b e = (refl, e)

sound_from : (limit : ℕ) (file : List ℕ) (n k : ℕ) → first_fault limit file n k ≡ 0 → (i : ℕ) → i < n → SoundAt limit file (k + i)
unfolding first_fault
sound_from limit file zero k e i h = absurd (omega (arith, h))
sound_from limit file (suc n) k e zero h =
    let w = whole_by (ltb (length file) (4 * k + 4)) _ e in
    let f = or_zero (number_fault limit k (file_number file k)) _ w.1 in
    rw (add-zero k) (record { whole = ltb-false (length file) (4 * k + 4) w.0; fault = f.0 })
sound_from limit file (suc n) k e (suc i) h =
    let w = whole_by (ltb (length file) (4 * k + 4)) _ e in
    let q : suc k + i ≡ k + suc i = omega arith in
    let f = or_zero (number_fault limit k (file_number file k)) _ w.1 in
    subst (SoundAt limit file) q (sound_from limit file n (suc k) f.1 i (omega arith))

module _ (limit : ℕ) (file : List ℕ) (clear : head_fault limit file ≡ 0) where
  pub sound : (k : ℕ) → k < number_count → SoundAt limit file k
  unfolding head_fault
  sound k h = subst (SoundAt limit file) (omega arith) (sound_from limit file number_count 0 clear k h)

  -- all numbers are there
  pub long : stream_at ≤ length file
  long = let w = (sound stream_count_at (lit< tt)).whole in omega (arith, w)

within_by : (v n : ℕ) → unless_within v n ≡ 0 → v ≤ n
within_by v n e = go (leb v n) refl e
  where
    go : (t : Bool) → leb v n ≡ t → ◌≡◌ {A = ℕ} (cond t 0 20) 0 → v ≤ n
    go true p q = leb-true v n p
    go false p q = absurd (omega (arith, q))

-- the stream's count is within the limit
pub told_within : (limit : ℕ) (file : List ℕ) → head_fault limit file ≡ 0 → file_number file stream_count_at ≤ limit
told_within limit file clear =
    let told = file_number file stream_count_at in
    within_by told limit
    (sym (of_stream_count limit stream_count_at told (omega arith)) ∙ (sound limit file clear stream_count_at (lit< tt)).fault)

equal : (v n : ℕ) → ◌≡◌ {A = ℕ} (cond (eqb v n) 0 20) 0 → v ≡ n
equal v n e = go (eqb v n) refl e
  where
    go : (t : Bool) → eqb v n ≡ t → ◌≡◌ {A = ℕ} (cond t 0 20) 0 → v ≡ n
    go true p q = eqb-true v n p
    go false p q = absurd (omega (arith, q))

-- so many bytes are behind the numbers as the stream's count tells
pub rest_is : (told rest : ℕ) → rest_fault told rest ≡ 0 → rest ≡ told
unfolding rest_fault
rest_is told rest e = go (ltb rest told) (ltb told rest) refl refl e
  where
    go : (t u : Bool) → ltb rest told ≡ t → ltb told rest ≡ u → ◌≡◌ {A = ℕ} (cond t 22 (cond u 23 0)) 0 → rest ≡ told
    go true u p q z = absurd (omega (arith, z))
    go false true p q z = absurd (omega (arith, z))
    go false false p q z = omega (arith, ltb-false rest told p, ltb-false told rest q)

-- a file without a fault has none in its head, and its stream is as long as told
pub record Clean (limit : ℕ) (file : List ℕ) : Type 0 where
  pub head_clear : head_fault limit file ≡ 0
  pub stream_told : length (drop stream_at file) ≡ file_number file stream_count_at

pub clean : (limit : ℕ) (file : List ℕ) → file_fault limit file ≡ 0 → Clean limit file
unfolding file_fault
clean limit file e =
    let n = or_zero (head_fault limit file) _ e in
    record {
      head_clear = n.0;
      stream_told = length-drop stream_at file ∙ rest_is (file_number file stream_count_at) (length file - stream_at) n.1;
    }

-- a piece and what comes after it
glue : (l : List ℕ) (a b : ℕ) {y : List ℕ} → y ≡ drop (a + b) l → take b (drop a l) ++ y ≡ drop a l
glue l a b {y} e =
    let d : drop (a + b) l ≡ drop b (drop a l) = sym (drop-drop b a l) in
    ap (λ (x : List ℕ). take b (drop a l) ++ x) (e ∙ d) ∙ take-append-drop b (drop a l)

module _ (file : List ℕ) (o : Octets file) where
  counted : (k v : ℕ) → 4 * k + 4 ≤ length file → v ≡ file_number file k → bytes_of 4 v ≡ take 4 (drop (4 * k) file)
  counted k v h q = ap (bytes_of 4) q ∙ write_back file (4 * k) 4 o h

  -- n numbers behind their count, number k, are a piece of the file
  section_back : (k n : ℕ) → file_number file k ≡ n → 4 * k + (4 + 4 * n) ≤ length file
      → section (words_at file (4 * k + 4) n) ≡ take (4 + 4 * n) (drop (4 * k) file)
  section_back k n e h =
      ap₂ (λ (x y : List ℕ). x ++ y)
      (counted k (length (words_at file (4 * k + 4) n)) (omega arith) (length_up_to _ n ∙ sym e))
      (words_back file (4 * k + 4) n o (omega arith))
      ∙ ap (λ (x : List ℕ). take 4 (drop (4 * k) file) ++ take (4 * n) x) (sym (drop-drop 4 (4 * k) file))
      ∙ sym (take-add 4 (4 * n) (drop (4 * k) file))

  pieces : (bp cp xf n : List ℕ) → bp ≡ take 1028 (drop 0 file) → cp ≡ take 244 (drop 1028 file) → xf ≡ take 16740 (drop 1272 file)
      → n ≡ take 4 (drop 18012 file) → (bp ++ (cp ++ (xf ++ n))) ++ drop 18016 file ≡ file
  pieces bp cp xf n a b c d =
      rw (a, b, c, d)
      (simp append_assoc (glue file 0 1028 (glue file 1028 244 (glue file 1272 16740 (glue file 18012 4 refl)))))

  pub rewrites : (limit : ℕ) → file_fault limit file ≡ 0 → file_bytes (content_of file) ≡ file
  unfolding file_bytes head_bytes content_of
  rewrites limit e =
      let n = clean limit file e in
      let l : stream_at ≤ length file = long limit file n.head_clear in
      let s = sound limit file n.head_clear in
      let bp : file_number file 0 ≡ bp_count = equal _ _ (sym (of_bp_count limit 0 (file_number file 0) refl) ∙ (s 0 (lit< tt)).fault) in
      let cp : file_number file cp_count_at ≡ cp_count =
      equal _ _ (sym (of_cp_count limit cp_count_at (file_number file cp_count_at) refl) ∙ (s cp_count_at (lit< tt)).fault) in
      let xf : file_number file xf_count_at ≡ xf_count =
      equal _ _ (sym (of_xf_count limit xf_count_at (file_number file xf_count_at) refl) ∙ (s xf_count_at (lit< tt)).fault) in
      pieces (section (words_at file (4 * bp_from) bp_count)) (section (words_at file (4 * cp_from) cp_count))
      (section (words_at file (4 * xf_from) xf_count)) (bytes_of 4 (length (drop stream_at file)))
      (section_back 0 bp_count bp (omega arith)) (section_back cp_count_at cp_count cp (omega arith))
      (section_back xf_count_at xf_count xf (omega arith))
      (counted stream_count_at (length (drop stream_at file)) (omega arith) n.stream_told)

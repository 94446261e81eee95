-- The words of a command name it: by its kind the definitions compute, and each field passes its test. So do those of a unit that a look
-- tells: its fields are read from bytes.
use mathlib.Core.Path.{◌≡◌, refl, ◌∙◌, subst}
use mathlib.Core.Logic.{◌⊎◌, inl, inr}
use mathlib.Core.List.{List}
use Prim.Native.Nat.{ℕ, zero, suc, ◌+◌, ◌/◌, ◌%◌, ◌^◌, ◌<◌, ◌≤◌}
use native.Mathlib.Omega.{arith}
use lib.Dec.{ltb, eqb}
use lib.ListN.{get_or, take}
use borrow.Author.Tests.{lt-ltb}
use Rattle.std.proofs.lemmas.Bool.{cases_lt, cond_both}
use Rattle.octets.specs.BigEndian.{big_endian}
use Rattle.octets.proofs.Number.{Octets, big_lt}
use Rattle.layout.specs.Answers.{refusal_of}
use Rattle.command.specs.declared.Draw.{Draw}
use Rattle.command.specs.declared.Draw.TheVariants.{Closed, Open}
use Rattle.command.specs.declared.Command.{Command}
use Rattle.command.specs.declared.Command.TheVariants.{NoOperation, InvalidateCache, Metrics, LoadCp, LoadXf, LoadIndexed}
use Rattle.command.specs.declared.Command.TheVariants.{CallList, LoadBp, DrawHead, Vertex}
use Rattle.command.specs.Command.{Found, unit, waiting, refused, numbers_of, load_indexed}
use Rattle.places.specs.Places.{cp_accepted}
use Rattle.command.specs.Look.{whole, look_cp, xf_count, xf_words, xf_address, look_xf, indexed_array, look_indexed, look_call, look_bp}
use Rattle.command.specs.Look.{descriptor_of, unless_refused, look_head, vertex_bytes, look_vertex, is_indexed, is_draw, by_opcode, look_of}
use Rattle.encoding.specs.Told.{command_words, unit_words}
use Rattle.encoding.specs.Named.{indexed_named, command_by, command_named}
use Rattle.encoding.specs.Promises.{Tellable, EncodingPromises}

among : (a : ℕ) → 12 ≤ a → a ≤ 15 → (a ≡ 12) ⊎ ((a ≡ 13) ⊎ ((a ≡ 14) ⊎ (a ≡ 15)))
among a l h = by_first (cases_lt a 13) (cases_lt a 14) (cases_lt a 15)
  where
    by_first : (a < 13) ⊎ (13 ≤ a) → (a < 14) ⊎ (14 ≤ a) → (a < 15) ⊎ (15 ≤ a) → (a ≡ 12) ⊎ ((a ≡ 13) ⊎ ((a ≡ 14) ⊎ (a ≡ 15)))
    by_first (inl p) q r = inl (omega arith)
    by_first (inr p) (inl q) r = inr (inl (omega arith))
    by_first (inr p) (inr q) (inl r) = inr (inr (inl (omega arith)))
    by_first (inr p) (inr q) (inr r) = inr (inr (inr (omega arith)))

indexed_again : (a index words address : ℕ) → (index < 2 ^ 16) × ((words < 2 ^ 8) × (address < 2 ^ 16))
    → indexed_named a index words address ≡ load_indexed a index words address
indexed_again a index words address h =
    rw (lt-ltb index (2 ^ 16) h.0, lt-ltb words (2 ^ 8) h.1.0, lt-ltb address (2 ^ 16) h.1.1)

indexed_kind_lem : (a index words address memory : ℕ) → (a ≡ 12) ⊎ ((a ≡ 13) ⊎ ((a ≡ 14) ⊎ (a ≡ 15)))
    → command_named (command_words (load_indexed a index words address) memory) ≡ indexed_named a index words address
unfolding command_by
indexed_kind_lem a index words address memory (inl e) = rw e
indexed_kind_lem a index words address memory (inr (inl e)) = rw e
indexed_kind_lem a index words address memory (inr (inr (inl e))) = rw e
indexed_kind_lem a index words address memory (inr (inr (inr e))) = rw e

named : (x : Command) (memory : ℕ) → Tellable x → command_named (command_words (numbers_of x) memory) ≡ numbers_of x
unfolding command_by
named NoOperation memory h = refl
named InvalidateCache memory h = refl
named Metrics memory h = refl
named (LoadCp address n) memory h = rw (lt-ltb address (2 ^ 8) h)
named (LoadXf words address) memory h = rw (lt-ltb words (2 ^ 8) h.0, lt-ltb address (2 ^ 16) h.1)
named (LoadIndexed array index words address) memory h =
    indexed_kind_lem array index words address memory (among array h.0.0 h.0.1) ∙ indexed_again array index words address h.1
named (CallList address size) memory h = refl
named (LoadBp register n) memory h = rw (lt-ltb register (2 ^ 8) h)
named (DrawHead primitive format count) memory h =
    rw (lt-ltb primitive (2 ^ 8) h.0, lt-ltb format (2 ^ 8) h.1.0, lt-ltb count (2 ^ 16) h.1.1)
named Vertex memory h = refl

five : (x : Command) (memory n : ℕ) → take 5 (unit_words (numbers_of x) memory n) ≡ command_words (numbers_of x) memory
five NoOperation memory n = refl
five InvalidateCache memory n = refl
five Metrics memory n = refl
five (LoadCp address m) memory n = refl
five (LoadXf words address) memory n = refl
five (LoadIndexed array index words address) memory n = refl
five (CallList address size) memory n = refl
five (LoadBp register m) memory n = refl
five (DrawHead primitive format count) memory n = refl
five Vertex memory n = refl

unit_again : (x : Command) (memory n : ℕ) → Tellable x → command_named (take 5 (unit_words (numbers_of x) memory n)) ≡ numbers_of x
unit_again x memory n h = rw (five x memory n) (named x memory h)

-- ---- of what a look tells
abbrev Again : Found → Type 0
Again (unit c m l) = command_named (take 5 (unit_words c m l)) ≡ c
Again (waiting k) = Unit {0}
Again (refused r) = Unit {0}

of_whole : (n length m : ℕ) (x : Command) → Tellable x → Again (whole n length (numbers_of x) m)
unfolding whole
of_whole n length m x h = cond_both (ltb n length) _ _ Again (λ _. tt) (λ _. unit_again x m length h)

of_unless : (r : ℕ) (x : Found) → Again x → Again (unless_refused r x)
of_unless zero x h = h
of_unless (suc r) x h = tt

module _ (b : List ℕ) (o : Octets b) (n : ℕ) (cp : List ℕ) where
  of_xf : Again (look_xf b n)
  unfolding look_xf xf_words xf_address
  of_xf =
      cond_both (ltb n 5) _ _ Again (λ _. tt)
      (λ _. cond_both (ltb xf_count (xf_address b + xf_words b)) _ _ Again (λ _. tt)
      (λ _. of_whole n _ 0 (LoadXf (xf_words b) (xf_address b)) (omega arith, big_lt b 3 o 2)))

  of_indexed : (op : ℕ) → Again (look_indexed op b n cp)
  unfolding look_indexed
  of_indexed op =
      let v : ℕ = big_endian b 3 2 in
      let h : v < 256 ^ 2 = big_lt b 3 o 2 in
      of_whole n 5 _ (LoadIndexed (indexed_array op) (big_endian b 1 2) (v / 4096 + 1) (v % 4096))
      ((omega arith, omega arith), (big_lt b 1 o 2, (omega arith, omega arith)))

  of_head_lem : (op : ℕ) → Again (look_head op b n cp)
  unfolding look_head
  of_head_lem op =
      of_unless (refusal_of (descriptor_of cp (op % 8))) _
      (of_whole n 3 0 (DrawHead (op / 8 % 8) (op % 8) (big_endian b 1 2)) (omega arith, (omega arith, big_lt b 1 o 2)))

  of_opcode : (op : ℕ) → Again (by_opcode op b n cp)
  unfolding by_opcode look_cp look_call look_bp
  of_opcode op =
      cond_both (eqb op 0x00) _ _ Again (λ _. of_whole n 1 0 NoOperation tt)
      (λ _. cond_both (eqb op 0x48) _ _ Again (λ _. of_whole n 1 0 InvalidateCache tt)
      (λ _. cond_both (eqb op 0x44) _ _ Again (λ _. of_whole n 1 0 Metrics tt)
      (λ _. cond_both (eqb op 0x08) _ _ Again
      (λ _. cond_both (ltb n 2) _ _ Again (λ _. tt)
      (λ _. cond_both (cp_accepted (get_or b 1 0)) _ _ Again (λ _. of_whole n 6 0 (LoadCp (get_or b 1 0) (big_endian b 2 4)) (o 1)) (λ _. tt)))
      (λ _. cond_both (eqb op 0x10) _ _ Again (λ _. of_xf)
      (λ _. cond_both (is_indexed op) _ _ Again (λ _. of_indexed op)
      (λ _. cond_both (eqb op 0x40) _ _ Again (λ _. of_whole n 9 0 (CallList (big_endian b 1 4) (big_endian b 5 4)) tt)
      (λ _. cond_both (eqb op 0x61) _ _ Again (λ _. of_whole n 5 0 (LoadBp (get_or b 1 0) (big_endian b 2 3)) (o 1))
      (λ _. cond_both (is_draw op) _ _ Again (λ _. of_head_lem op) (λ _. tt)))))))))

  of_look : (draw : Draw) → Again (look_of b n cp draw)
  unfolding look_of look_vertex
  of_look Closed = cond_both (eqb n 0) _ _ Again (λ _. tt) (λ _. of_opcode (get_or b 0 0))
  of_look (Open primitive format left) =
      of_unless (refusal_of (descriptor_of cp format)) _ (of_whole n (vertex_bytes cp format) 0 Vertex tt)

pub encoding_promises : EncodingPromises
encoding_promises =
    record {
      command_named_lem = named;
      unit_named = unit_again;
      look_named = λ b o n cp draw c memory length e. subst Again e (of_look b o n cp draw);
    }

-- A command that was read is one that the writer takes, and its bytes come back.
use mathlib.Core.Path.{◌≡◌, refl, sym, ◌∙◌, subst}
use mathlib.Core.Bool.{Bool, true, false, ◌||◌}
use mathlib.Core.Logic.{◌⊎◌, inl, inr}
use mathlib.Core.List.{List, [], ◌∷◌}
use Prim.Native.Nat.{ℕ, zero, suc, ◌+◌, ◌*◌, ◌/◌, ◌%◌, ◌^◌, ◌<◌, ◌≤◌}
use native.Mathlib.Omega.{arith}
use lib.Dec.{leb, ltb, eqb}
use lib.ListN.{length, get_or, take, drop, length-drop}
use lib.Seq.{length-take-le}
use borrow.Author.Tests.{le-leb, lt-leb, lt-ltb, eq-eqb, eqb-true, leb-true, ltb-true, ltb-false}
use Rattle.std.proofs.lemmas.Bool.{and_parts, cond_both}
use Rattle.octets.specs.BigEndian.{big_endian}
use Rattle.octets.proofs.Number.{Octets, big_lt, octets_take}
use Rattle.layout.specs.Answers.{refusal_of}
use Rattle.command.specs.declared.Draw.TheVariants.{Closed}
use Rattle.command.specs.Command.{Found, unit, waiting, refused, load_xf}
use Rattle.places.specs.Places.{cp_accepted}
use Rattle.command.specs.Look.{xf_count, whole, look_cp, xf_words, xf_address, look_xf, indexed_array, look_indexed, look_call, look_bp}
use Rattle.command.specs.Look.{descriptor_of, unless_refused, look_head, is_indexed, is_draw, by_opcode, look_of}
use Rattle.command.specs.Bounds.{Fair}
use Rattle.command.proofs.Bounds.{look_fair}
use Rattle.command.proofs.Prefix.{look_alone}
use Rattle.effect.proofs.Lengths.{length_loaded}
use Rattle.effect.specs.Effect.{loaded_xf, xf_after}
use Rattle.writer.specs.Write.{head_of, words_of}
use Rattle.writable.specs.Writable.{unwritable, unaddressed, past_end}
use Rattle.writer.specs.Again.{held_words}
use Rattle.writer.proofs.Again.{indexed_op, plain_again, bp_again, cp_again, call_again, indexed_again}
use Rattle.writer.proofs.Again.{head_again, xf_again}
pub use Rattle.writer.specs.Again.{Rewrites}

-- of an answer, where it is a unit of all the bytes
abbrev Again : List ℕ → List ℕ → Found → Type 0
Again u xf (unit c m l) = l ≡ length u → Rewrites u xf c
Again u xf (waiting k) = Unit {0}
Again u xf (refused r) = Unit {0}

again_whole : (u xf : List ℕ) (n length' : ℕ) (c : List ℕ) (m : ℕ) → (length' ≡ length u → Rewrites u xf c)
    → Again u xf (whole n length' c m)
unfolding whole
again_whole u xf n length' c m f = cond_both (ltb n length') _ _ (Again u xf) (λ _. tt) (λ _. f)

again_unless : (u xf : List ℕ) (r : ℕ) (x : Found) → Again u xf x → Again u xf (unless_refused r x)
again_unless u xf zero x h = h
again_unless u xf (suc r) x h = tt

indexed_keys : (op : ℕ) → is_indexed op ≡ true → (op ≡ 0x20) ⊎ ((op ≡ 0x28) ⊎ ((op ≡ 0x30) ⊎ (op ≡ 0x38)))
indexed_keys op e = by (eqb op 0x20) refl (eqb op 0x28) refl (eqb op 0x30) refl e
  where
    by : (a : Bool) → eqb op 0x20 ≡ a → (b : Bool) → eqb op 0x28 ≡ b → (c : Bool) → eqb op 0x30 ≡ c → ((a || b) || c) || eqb op 0x38 ≡ true
        → (op ≡ 0x20) ⊎ ((op ≡ 0x28) ⊎ ((op ≡ 0x30) ⊎ (op ≡ 0x38)))
    by true p b q c r h = inl (eqb-true op 0x20 p)
    by false p true q c r h = inr (inl (eqb-true op 0x28 q))
    by false p false q true r h = inr (inr (inl (eqb-true op 0x30 r)))
    by false p false q false r h = inr (inr (inr (eqb-true op 0x38 h)))

module _ (u xf : List ℕ) (o : Octets u) (size : length xf ≡ xf_count) (n : ℕ) (cp : List ℕ) where
  plain : (op : ℕ) → get_or u 0 0 ≡ op → eqb op 0x10 ≡ false → head_of (op ∷ []) ≡ op ∷ []
      → unwritable (op ∷ []) (length (held_words (op ∷ []) u xf)) ≡ false → unaddressed (op ∷ []) ≡ false → past_end (op ∷ []) ≡ false
      → Again u xf (whole n 1 (op ∷ []) 0)
  plain op e x h w a p =
      again_whole u xf n 1 (op ∷ []) 0
      (λ l. record { writable = w; addressed = a; within = p; bytes = plain_again u xf o op (sym l) e x h })

  of_cp : get_or u 0 0 ≡ 0x08 → Again u xf (look_cp u n)
  unfolding look_cp unwritable unaddressed past_end
  of_cp e =
      cond_both (ltb n 2) _ _ (Again u xf) (λ _. tt)
      (λ _. cond_both (cp_accepted (get_or u 1 0)) _ _ (Again u xf)
      (λ a. again_whole u xf n 6 _ 0 (λ l. record { writable = refl; addressed = rw a; within = refl; bytes = cp_again u xf o (sym l) e }))
      (λ _. tt))

  of_call : get_or u 0 0 ≡ 0x40 → Again u xf (look_call u n)
  unfolding look_call unwritable unaddressed past_end
  of_call e =
      again_whole u xf n 9 _ 0 (λ l. record { writable = refl; addressed = refl; within = refl; bytes = call_again u xf o (sym l) e })

  of_bp : get_or u 0 0 ≡ 0x61 → Again u xf (look_bp u n)
  unfolding look_bp unwritable unaddressed past_end
  of_bp e =
      again_whole u xf n 5 _ 0
      (λ l. record {
        writable = lt-leb (2 ^ 24) (big_endian u 2 3) (big_lt u 2 o 3);
        addressed = refl;
        within = refl;
        bytes = bp_again u xf o (sym l) e;
      })

  of_head_lem : (op : ℕ) → get_or u 0 0 ≡ op → is_draw op ≡ true → Again u xf (look_head op u n cp)
  unfolding look_head unwritable unaddressed past_end
  of_head_lem op e d =
      let lo : 0x80 ≤ op = leb-true 0x80 op (and_parts (leb 0x80 op) (ltb op 0xC0) d).0 in
      let hi : op < 0xC0 = ltb-true op 0xC0 (and_parts (leb 0x80 op) (ltb op 0xC0) d).1 in
      again_unless u xf (refusal_of (descriptor_of cp (op % 8))) _
      (again_whole u xf n 3 _ 0
      (λ l. record {
        writable = rw (lt-leb 8 (op / 8 % 8) (omega arith), lt-leb 8 (op % 8) (omega arith));
        addressed = refl;
        within = refl;
        bytes = head_again u xf o op (sym l) e lo hi;
      }))

  of_indexed : (op : ℕ) → get_or u 0 0 ≡ op → is_indexed op ≡ true → Again u xf (look_indexed op u n cp)
  unfolding look_indexed unwritable unaddressed past_end
  of_indexed op e d =
      let v : ℕ = big_endian u 3 2 in
      let h : v < 256 ^ 2 = big_lt u 3 o 2 in
      again_whole u xf n 5 _ _
      (λ l. record {
        writable =
            rw (
              le-leb 12 (indexed_array op) (omega arith),
              le-leb (indexed_array op) 15 (omega arith),
              le-leb 1 (v / 4096 + 1) (omega arith),
              le-leb (v / 4096 + 1) 16 (omega arith),
              lt-ltb (v % 4096) 4096 (omega arith),
            );
        addressed = refl;
        within = refl;
        bytes = indexed_again u xf o op (sym l) e (indexed_op u xf o op (indexed_keys op d));
      })

  held_count : (w a : ℕ) → a + w ≤ length xf → length (held_words (load_xf w a) u xf) ≡ w
  unfolding held_words words_of xf_after
  held_count w a h =
      let l : length (loaded_xf xf u w a) ≡ length xf = length_loaded xf u w a in
      length-take-le w (drop a (loaded_xf xf u w a)) (rw length-drop (omega arith))

  words_range : (1 ≤ xf_words u) × (xf_words u ≤ 16)
  unfolding xf_words
  words_range = (omega arith, omega arith)

  of_xf : get_or u 0 0 ≡ 0x10 → Again u xf (look_xf u n)
  unfolding look_xf unwritable unaddressed past_end
  of_xf e =
      cond_both (ltb n 5) _ _ (Again u xf) (λ _. tt)
      (λ _. cond_both (ltb xf_count (xf_address u + xf_words u)) _ _ (Again u xf) (λ _. tt)
      (λ p.
      let w : ℕ = xf_words u in
      let a : ℕ = xf_address u in
      let h : a + w ≤ xf_count = ltb-false xf_count (a + w) p in
      again_whole u xf n (5 + 4 * w) _ 0
      (λ l. record {
        writable = rw (le-leb 1 w words_range.0, le-leb w 16 words_range.1, eq-eqb w _ (sym (held_count w a (omega arith))));
        addressed = refl;
        within = p;
        bytes = xf_again u xf o w a (sym l) e refl refl (omega arith);
      })))

  of_opcode : (op : ℕ) → get_or u 0 0 ≡ op → Again u xf (by_opcode op u n cp)
  unfolding by_opcode head_of unwritable unaddressed past_end
  of_opcode op e =
      cond_both (eqb op 0x00) _ _ (Again u xf) (λ t. plain 0x00 (e ∙ eqb-true op 0x00 t) refl refl refl refl refl)
      (λ _. cond_both (eqb op 0x48) _ _ (Again u xf) (λ t. plain 0x48 (e ∙ eqb-true op 0x48 t) refl refl refl refl refl)
      (λ _. cond_both (eqb op 0x44) _ _ (Again u xf) (λ t. plain 0x44 (e ∙ eqb-true op 0x44 t) refl refl refl refl refl)
      (λ _. cond_both (eqb op 0x08) _ _ (Again u xf) (λ t. of_cp (e ∙ eqb-true op 0x08 t))
      (λ _. cond_both (eqb op 0x10) _ _ (Again u xf) (λ t. of_xf (e ∙ eqb-true op 0x10 t))
      (λ _. cond_both (is_indexed op) _ _ (Again u xf) (λ t. of_indexed op e t)
      (λ _. cond_both (eqb op 0x40) _ _ (Again u xf) (λ t. of_call (e ∙ eqb-true op 0x40 t))
      (λ _. cond_both (eqb op 0x61) _ _ (Again u xf) (λ t. of_bp (e ∙ eqb-true op 0x61 t))
      (λ _. cond_both (is_draw op) _ _ (Again u xf) (λ t. of_head_lem op e t) (λ _. tt)))))))))

  of_look : Again u xf (look_of u n cp Closed)
  unfolding look_of
  of_look = cond_both (eqb n 0) _ _ (Again u xf) (λ _. tt) (λ _. of_opcode (get_or u 0 0) refl)

-- a unit read from a stream with no draw open, written again
pub rewrites : (p xf cp : List ℕ) → Octets p → length xf ≡ xf_count → (c : List ℕ) (m l : ℕ) → look_of p (length p) cp Closed ≡ unit c m l
    → Rewrites (take l p) xf c
rewrites p xf cp o size c m l e =
    let f : Fair (length p) (unit c m l) = subst (Fair (length p)) e (look_fair p (length p) cp Closed) in
    let u : List ℕ = take l p in
    subst (Again u xf) (look_alone p cp Closed c m l e) (of_look u xf (octets_take p l o) size l cp) (sym (length-take-le l p f.1.0))

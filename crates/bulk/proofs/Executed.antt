-- A CP load is a unit of its bytes; where it is neither of the VCD nor of a VAT it leaves every size of a vertex.
use mathlib.Core.Path.{◌≡◌, refl, sym, ◌∙◌}
use mathlib.Core.Bool.{Bool, true, false, cond, false≢true}
use mathlib.Core.Logic.{◌⊎◌, inl, inr, ⊎_elim}
use mathlib.Core.List.{List}
use Rattle.std.specs.Prelude.{Option}
use Prim.Native.Nat.{ℕ, ◌+◌, ◌-◌, ◌*◌, ◌<◌, ◌≤◌}
use native.Mathlib.Omega.{arith}
use lib.Dec.{ltb}
use lib.ListN.{length, get_or, set, take, drop}
use lib.Seq.{get_or-drop}
use borrow.Author.Tests.{lt-ltb, le-ltb}
use Rattle.std.proofs.lemmas.Bool.{cases_lt}
use Rattle.octets.specs.BigEndian.{big_endian}
use Rattle.octets.proofs.Number.{four_bytes}
use Rattle.command.specs.Command.{load_cp}
use Rattle.places.specs.Places.{cp_count, cp_place, cp_accepted}
use Rattle.command.proofs.Decided.{looks_cp}
use Rattle.effect.specs.Effect.{cp_after, bp_after, xf_after, vertex_after, draw_after, kept_of, loaded_cp}
use Rattle.walk.specs.Flat.{core_after}
use Rattle.walk.specs.Moves.{shut}
use Rattle.walk.proofs.Walks.{first_at, there, One}
use Rattle.bulk.specs.Inner.{Known, Executes}
use Rattle.bulk.proofs.Sizes.{Apart, known_apart}

cp_after_lem : (a n : ℕ) (u bp cp xf buffer : List ℕ)
    → shut (loaded_cp cp a n) bp xf buffer ≡ core_after (load_cp a n) u (shut cp bp xf buffer)
unfolding cp_after bp_after xf_after vertex_after draw_after
cp_after_lem a n u bp cp xf buffer = refl

pub one_cp : (bytes : List ℕ) (at : ℕ) → 6 ≤ length bytes - at → get_or bytes at 0 ≡ 0x08 → cp_accepted (get_or bytes (at + 1) 0) ≡ true
    → (word : ℕ)
    → word ≡ ((get_or bytes (at + 2) 0 * 256 + get_or bytes (at + 3) 0) * 256 + get_or bytes (at + 4) 0) * 256 + get_or bytes (at + 5) 0
    → {cp cp' : List ℕ} → cp' ≡ loaded_cp cp (get_or bytes (at + 1) 0) word → (bp xf buffer : List ℕ)
    → One bytes at (shut cp bp xf buffer) 6 (shut cp' bp xf buffer)
one_cp bytes at h op a word w {cp} {cp'} e bp xf buffer =
    let b : List ℕ = drop at bytes in
    let n : word ≡ big_endian b 2 4 =
    w ∙ sym (four_bytes b 2
    ∙ rw (get_or-drop at bytes 2 0, get_or-drop at bytes 3 0, get_or-drop at bytes 4 0, get_or-drop at bytes 5 0)) in
    record {
      command = load_cp (get_or bytes (at + 1) 0) word;
      memory = 0;
      found = looks_cp b (length b) cp (first_at bytes at ∙ op) (rw (get_or-drop at bytes 1 0) a) (there bytes at 6 h)
          ∙ rw (get_or-drop at bytes 1 0, ← n);
      after = rw e (cp_after_lem (get_or bytes (at + 1) 0) word (take 6 b) bp cp xf buffer);
    }

-- ---- loads that leave the sizes

place_low : (a : ℕ) → a < 0x50 → Apart (cp_place a)
unfolding cp_place
place_low a h =
    ⊎_elim (λ (u : a < 0x30). rw (lt-ltb a 0x30 u) (inr (omega arith)))
    (λ (l : 0x30 ≤ a). let u : a < 0x70 = omega arith in rw (le-ltb a 0x30 l, lt-ltb a 0x70 u) (inl (omega arith))) (cases_lt a 0x30)

place_high : (a : ℕ) → 0xA0 ≤ a → Apart (cp_place a)
unfolding cp_place
place_high a h =
    let i : 0x30 ≤ a = omega arith in
    let j : 0x70 ≤ a = omega arith in
    rw (le-ltb a 0x30 i, le-ltb a 0x70 j, le-ltb a 0xA0 h)
    (⊎_elim (λ (u : a < 0xB0). rw (lt-ltb a 0xB0 u) (inr (omega arith)))
    (λ (l : 0xB0 ≤ a). rw (le-ltb a 0xB0 l)
    (⊎_elim (λ (u : a < 0xC0). rw (lt-ltb a 0xC0 u) (inr (omega arith))) (λ (m : 0xC0 ≤ a). rw (le-ltb a 0xC0 m) (inr (omega arith)))
    (cases_lt a 0xC0)))
    (cases_lt a 0xB0))

apart_by : (t : Bool) (cp : List ℕ) (sizes : List (Option ℕ)) (p v : ℕ) → Known cp sizes → Apart p → Known (cond t (set cp p v) cp) sizes
apart_by true cp sizes p v k a = known_apart v k a
apart_by false cp sizes p v k a = k

pub known_loaded : {cp cp' : List ℕ} {sizes : List (Option ℕ)} (a n : ℕ) → cp' ≡ loaded_cp cp a n → (a < 0x50) ⊎ (0xA0 ≤ a)
    → Known cp sizes → Known cp' sizes
unfolding loaded_cp
known_loaded {cp} {cp'} {sizes} a n e o k =
    rw e (apart_by (ltb (cp_place a) cp_count) cp sizes (cp_place a) (kept_of a n) k (⊎_elim (place_low a) (place_high a) o))

-- ---- what a load comes to

pub load_accepted : {cp cp' : List ℕ} {sizes sizes' : List (Option ℕ)} {a n : ℕ} → cp_accepted a ≡ true
    → cp' ≡ loaded_cp cp a n → Known cp' sizes' → Executes a n cp sizes true cp' sizes'
load_accepted e l k = record { accepted_is = sym e; loaded = λ _. (l, k); none = λ z. absurd (false≢true (sym z)) }

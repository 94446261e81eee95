-- How an answer changes when more bytes come: a settled one stays, and a waiting one waits for as many as it says.
use mathlib.Core.Path.{◌≡◌, refl, subst}
use mathlib.Core.Bool.{Bool, true, false, cond}
use mathlib.Core.Logic.{◌⊎◌, inl, inr, ⊎_elim}
use mathlib.Core.List.{List}
use Prim.Native.Nat.{ℕ, zero, suc, ◌+◌, ◌-◌, ◌*◌, ◌%◌, ◌<◌, ◌≤◌}
use native.Mathlib.Omega.{arith}
use lib.Dec.{ltb, eqb}
use lib.ListN.{get_or}
use borrow.Author.Tests.{lt-ltb, le-ltb, eq-eqb, ne_eqb, eqb-true}
use Rattle.std.proofs.lemmas.Bool.{cases_lt, cond_both}
use Rattle.octets.specs.BigEndian.{big_endian}
use Rattle.octets.proofs.Number.{agree}
use Rattle.layout.specs.Answers.{refusal_of}
use Rattle.command.specs.declared.Draw.{Draw}
use Rattle.command.specs.declared.Draw.TheVariants.{Closed, Open}
use Rattle.command.specs.Command.{Found, unit, waiting, refused}
use Rattle.places.specs.Places.{cp_accepted}
use Rattle.command.specs.Look.{whole, look_cp, xf_count, xf_words, xf_address, look_xf, look_indexed, look_call, look_bp, descriptor_of}
use Rattle.command.specs.Look.{unless_refused, look_head, look_vertex, is_indexed, is_draw, by_opcode, look_of}
use Rattle.command.specs.Bounds.{Fair}
use Rattle.command.proofs.Bounds.{look_fair}
use Rattle.command.specs.Prefix.{Settled, NoUnit}

-- a unit of more than n bytes, where it is one
abbrev pub Longer : ℕ → Found → Type 0
Longer n x = (c : List ℕ) (m l : ℕ) → x ≡ unit c m l → n < l

-- no byte at all, or a part of an XF load's head: what comes next decides how many bytes come after it, or a refusal
abbrev pub Heads : List ℕ → ℕ → Draw → Type 0
Heads p n Closed = (n ≡ 0) ⊎ ((get_or p 0 0 ≡ 0x10) × (n < 5))
Heads p n (Open primitive format left) = ⊥

-- x is the answer at n bytes and y at n' of the same: `keeps`, an answer other than waiting stays;
-- `fewer`, with fewer bytes more than are lacking there is no unit;
-- `just`, with just those there is a unit or a refusal, unless E;
-- `alone`, a unit is one without what comes after it
pub record Extends (E : Type 0) (n n' : ℕ) (x y : Found) : Type 0 where
  pub keeps : Settled x → x ≡ y
  pub fewer : (k : ℕ) → x ≡ waiting k → n' < n + k → NoUnit y
  pub just : (k : ℕ) → x ≡ waiting k → n' ≡ n + k → (E → ⊥) → Settled y
  pub alone : (c : List ℕ) (m l : ℕ) → y ≡ unit c m l → l ≤ n → x ≡ y

pub unit_settled : (c : List ℕ) (m l : ℕ) → Settled (unit c m l)
unit_settled c m l k e = let z : ◌≡◌ {A = ℕ} 0 1 = cc in omega arith

pub refused_settled : (r : ℕ) → Settled (refused r)
refused_settled r k e = let z : ◌≡◌ {A = ℕ} 0 1 = cc in omega arith

waiting_no_unit : (k : ℕ) → NoUnit (waiting k)
waiting_no_unit k c m l e = let z : ◌≡◌ {A = ℕ} 0 1 = cc in omega arith

pub refused_no_unit : (r : ℕ) → NoUnit (refused r)
refused_no_unit r c m l e = let z : ◌≡◌ {A = ℕ} 0 1 = cc in omega arith

no_unit_longer : (n : ℕ) {x : Found} → NoUnit x → Longer n x
no_unit_longer n h c m l e = absurd (h c m l e)

unit_longer : (n length : ℕ) (c : List ℕ) (m : ℕ) → n < length → Longer n (unit c m length)
unit_longer n length c m h d k l e = let s : length ≡ l = cc in omega arith

whole_longer : (n n' length : ℕ) (c : List ℕ) (m : ℕ) → n < length → Longer n (whole n' length c m)
unfolding whole
whole_longer n n' length c m h =
    cond_both (ltb n' length) _ _ (Longer n) (λ _. no_unit_longer n (waiting_no_unit (length - n'))) (λ _. unit_longer n length c m h)

module _ (E : Type 0) (n n' : ℕ) (more : n ≤ n') where
  ext_settled : {x y : Found} → Settled x → x ≡ y → Extends E n n' x y
  ext_settled s e = record { keeps = λ _. e; fewer = λ k h. absurd (s k h); just = λ k h. absurd (s k h); alone = λ _ _ _ _ _. e }

  ext_refused : (r : ℕ) → Extends E n n' (refused r) (refused r)
  ext_refused r = ext_settled (refused_settled r) refl

  -- an answer that waits for k bytes
  ext_waiting : (k : ℕ) {y : Found} → (n' < n + k → NoUnit y) → (n' ≡ n + k → (E → ⊥) → Settled y) → Longer n y
      → Extends E n n' (waiting k) y
  ext_waiting k {y} f j long =
      record {
        keeps = λ s. absurd (s k refl);
        fewer = λ i e h. f (rw (← same i e) at h);
        just = λ i e h. j (rw (← same i e) at h);
        alone = λ c m l e h. let g : n < l = long c m l e in absurd (omega (arith, g, h));
      }
    where
      same : (i : ℕ) → waiting k ≡ waiting i → k ≡ i
      same i e = cc

  -- the same test before and after
  ext_cond : (t : Bool) {x y u v : Found} → (t ≡ true → Extends E n n' x y) → (t ≡ false → Extends E n n' u v)
      → Extends E n n' (cond t x u) (cond t y v)
  ext_cond true f g = f refl
  ext_cond false f g = g refl

  ext_unless : (r : ℕ) {x y : Found} → Extends E n n' x y → Extends E n n' (unless_refused r x) (unless_refused r y)
  ext_unless zero h = h
  ext_unless (suc r) h = ext_refused (suc r)

  -- a unit of so many bytes, whose fields stay as soon as they are there
  ext_whole : (length : ℕ) (c c' : List ℕ) (m m' : ℕ) → (length ≤ n → (c ≡ c') × (m ≡ m'))
      → Extends E n n' (whole n length c m) (whole n' length c' m')
  unfolding whole
  ext_whole length c c' m m' f =
      ⊎_elim
      (λ h.
      rw (lt-ltb n length h)
      (ext_waiting (length - n)
      (λ g. let i : n' < length = omega arith in rw (lt-ltb n' length i) (waiting_no_unit (length - n')))
      (λ g _. let i : length ≤ n' = omega arith in rw (le-ltb n' length i) (unit_settled c' m' length))
      (whole_longer n n' length c' m' h)))
      (λ h.
      let i : length ≤ n' = omega arith in
      rw (le-ltb n length h, le-ltb n' length i) (ext_settled (unit_settled c m length) (rw ((f h).0, (f h).1))))
      (cases_lt n length)

-- ---- each class of unit

-- with fewer than six bytes a CP load is no unit, with six it is settled
cp_below : (p : List ℕ) (n : ℕ) → n < 6 → NoUnit (look_cp p n)
unfolding look_cp whole
cp_below p n h =
    cond_both (ltb n 2) _ _ NoUnit (λ _. waiting_no_unit (6 - n))
    (λ _. cond_both (cp_accepted (get_or p 1 0)) _ _ NoUnit (λ _. rw (lt-ltb n 6 h) (waiting_no_unit (6 - n))) (λ _. refused_no_unit 7))

cp_at : (p : List ℕ) (n : ℕ) → n ≡ 6 → Settled (look_cp p n)
unfolding look_cp whole
cp_at p n e = rw e (cond_both (cp_accepted (get_or p 1 0)) _ _ Settled (λ _. unit_settled _ _ _) (λ _. refused_settled 7))

cp_longer : (p : List ℕ) (n n' : ℕ) → n < 2 → Longer n (look_cp p n')
unfolding look_cp
cp_longer p n n' h =
    cond_both (ltb n' 2) _ _ (Longer n) (λ _. no_unit_longer n (waiting_no_unit (6 - n')))
    (λ _. cond_both (cp_accepted (get_or p 1 0)) _ _ (Longer n) (λ _. whole_longer n n' 6 _ 0 (omega arith))
    (λ _. no_unit_longer n (refused_no_unit 7)))

xf_longer : (p : List ℕ) (n n' : ℕ) → n < 5 → Longer n (look_xf p n')
unfolding look_xf
xf_longer p n n' h =
    cond_both (ltb n' 5) _ _ (Longer n) (λ _. no_unit_longer n (waiting_no_unit (5 - n')))
    (λ _. cond_both (ltb xf_count (xf_address p + xf_words p)) _ _ (Longer n) (λ _. no_unit_longer n (refused_no_unit 8))
    (λ _. whole_longer n n' (5 + 4 * xf_words p) _ 0 (omega arith)))

-- a part of its head
pub xf_first : (p : List ℕ) (n : ℕ) → n < 5 → look_xf p n ≡ waiting (5 - n)
unfolding look_xf
xf_first p n h = rw (lt-ltb n 5 h)

xf_below : (p : List ℕ) (n : ℕ) → n < 5 → NoUnit (look_xf p n)
xf_below p n h = rw (xf_first p n h) (waiting_no_unit (5 - n))

module _ (E : Type 0) (p p' : List ℕ) (n n' : ℕ) (more : n ≤ n') (same : (k : ℕ) → k < n → get_or p k 0 ≡ get_or p' k 0) where
  -- a number whose bytes are there stays
  stays : (at k : ℕ) → at + k ≤ n → big_endian p at k ≡ big_endian p' at k
  stays at k h = agree p p' at k (λ i l. same i (omega arith))

  cp_first : n < 2 → look_cp p n ≡ waiting (6 - n)
  unfolding look_cp
  cp_first h = rw (lt-ltb n 2 h)

  cp_later : 2 ≤ n → Extends E n n' (look_cp p n) (look_cp p' n')
  unfolding look_cp
  cp_later h =
      let h' : 2 ≤ n' = omega arith in
      rw (le-ltb n 2 h, le-ltb n' 2 h', ← same 1 (omega arith))
      (ext_cond E n n' more (cp_accepted (get_or p 1 0))
      (λ _. ext_whole E n n' more 6 _ _ 0 0 (λ g. (rw (stays 2 4 g), refl)))
      (λ _. ext_refused E n n' more 7))

  ext_cp : Extends E n n' (look_cp p n) (look_cp p' n')
  ext_cp =
      ⊎_elim
      (λ h.
      rw (cp_first h)
      (ext_waiting E n n' more (6 - n) (λ g. cp_below p' n' (omega arith)) (λ g _. cp_at p' n' (omega arith)) (cp_longer p' n n' h)))
      cp_later
      (cases_lt n 2)

  xf_later : 5 ≤ n → Extends E n n' (look_xf p n) (look_xf p' n')
  unfolding look_xf xf_words xf_address
  xf_later h =
      let h' : 5 ≤ n' = omega arith in
      rw (le-ltb n 5 h, le-ltb n' 5 h', ← stays 1 2 (omega arith), ← stays 3 2 (omega arith))
      (ext_cond E n n' more (ltb xf_count (xf_address p + xf_words p))
      (λ _. ext_refused E n n' more 8)
      (λ _. ext_whole E n n' more _ _ _ 0 0 (λ g. (refl, refl))))

  -- an XF head waits again for its words
  ext_xf : (n < 5 → E) → Extends E n n' (look_xf p n) (look_xf p' n')
  ext_xf exempt =
      ⊎_elim
      (λ h.
      rw (xf_first p n h)
      (ext_waiting E n n' more (5 - n) (λ g. xf_below p' n' (omega arith)) (λ g u. absurd (u (exempt h))) (xf_longer p' n n' h)))
      xf_later
      (cases_lt n 5)

  ext_bp : Extends E n n' (look_bp p n) (look_bp p' n')
  unfolding look_bp
  ext_bp = ext_whole E n n' more 5 _ _ 0 0 (λ g. (rw (same 1 (omega arith), stays 2 3 g), refl))

  ext_call : Extends E n n' (look_call p n) (look_call p' n')
  unfolding look_call
  ext_call = ext_whole E n n' more 9 _ _ 0 0 (λ g. (rw (stays 1 4 (omega arith), stays 5 4 g), refl))

  ext_indexed : (op : ℕ) (cp : List ℕ) → Extends E n n' (look_indexed op p n cp) (look_indexed op p' n' cp)
  unfolding look_indexed
  ext_indexed op cp = ext_whole E n n' more 5 _ _ _ _ (λ g. (rw (stays 1 2 (omega arith), stays 3 2 g), rw (stays 1 2 (omega arith))))

  ext_head : (op : ℕ) (cp : List ℕ) → Extends E n n' (look_head op p n cp) (look_head op p' n' cp)
  unfolding look_head
  ext_head op cp =
      ext_unless E n n' more (refusal_of (descriptor_of cp (op % 8))) (ext_whole E n n' more 3 _ _ 0 0 (λ g. (rw (stays 1 2 g), refl)))

  ext_vertex : (cp : List ℕ) (format : ℕ) → Extends E n n' (look_vertex n cp format) (look_vertex n' cp format)
  unfolding look_vertex
  ext_vertex cp format = ext_unless E n n' more (refusal_of (descriptor_of cp format)) (ext_whole E n n' more _ _ _ 0 0 (λ g. (refl, refl)))

  ext_opcode : (op : ℕ) (cp : List ℕ) → (op ≡ 0x10 → n < 5 → E) → Extends E n n' (by_opcode op p n cp) (by_opcode op p' n' cp)
  unfolding by_opcode
  ext_opcode op cp exempt =
      ext_cond E n n' more (eqb op 0x00) (λ _. plain _)
      (λ _. ext_cond E n n' more (eqb op 0x48) (λ _. plain _)
      (λ _. ext_cond E n n' more (eqb op 0x44) (λ _. plain _)
      (λ _. ext_cond E n n' more (eqb op 0x08) (λ _. ext_cp)
      (λ _. ext_cond E n n' more (eqb op 0x10) (λ e. ext_xf (exempt (eqb-true op 0x10 e)))
      (λ _. ext_cond E n n' more (is_indexed op) (λ _. ext_indexed op cp)
      (λ _. ext_cond E n n' more (eqb op 0x40) (λ _. ext_call)
      (λ _. ext_cond E n n' more (eqb op 0x61) (λ _. ext_bp)
      (λ _. ext_cond E n n' more (is_draw op) (λ _. ext_head op cp) (λ _. ext_refused E n n' more 6)))))))))
    where
      plain : (c : List ℕ) → Extends E n n' (whole n 1 c 0) (whole n' 1 c 0)
      plain c = ext_whole E n n' more 1 c c 0 0 (λ g. (refl, refl))

module _ (p p' : List ℕ) (n n' : ℕ) (more : n ≤ n') (same : (k : ℕ) → k < n → get_or p k 0 ≡ get_or p' k 0) (cp : List ℕ) where
  abbrev E : Type 0
  E = Heads p n Closed

  ext_none : n ≡ 0 → Extends E n n' (look_of p n cp Closed) (look_of p' n' cp Closed)
  unfolding look_of
  ext_none z =
      rw (eq-eqb n 0 z)
      (ext_waiting E n n' more 1
      (λ g. let z' : n' ≡ 0 = omega arith in rw (eq-eqb n' 0 z') (waiting_no_unit 1))
      (λ g u. absurd (u (inl z)))
      (λ c m l e. let f : Fair n' (unit c m l) = subst (Fair n') e (look_fair p' n' cp Closed) in omega (arith, f.0)))

  ext_some : 1 ≤ n → Extends E n n' (look_of p n cp Closed) (look_of p' n' cp Closed)
  unfolding look_of
  ext_some h =
      rw (ne_eqb n 0 (λ e. omega arith), ne_eqb n' 0 (λ e. omega arith), ← same 0 h)
      (ext_opcode E p p' n n' more same (get_or p 0 0) cp (λ e l. inr (e, l)))

  -- the answer at n bytes, and at n' of which these are the first
  pub look_extends : (draw : Draw) → Extends (Heads p n draw) n n' (look_of p n cp draw) (look_of p' n' cp draw)
  unfolding look_of
  look_extends Closed = ⊎_elim (λ h. ext_none (omega arith)) ext_some (cases_lt n 1)
  look_extends (Open primitive format left) = ext_vertex ⊥ p p' n n' more same cp format

-- What a look that waits promises: document 02, L4.
use mathlib.Core.Path.{◌≡◌, refl, sym, subst, ◌∙◌}
use mathlib.Core.Bool.{Bool, true, ◌&&◌}
use mathlib.Core.Logic.{inl, inr, ⊎_elim}
use mathlib.Core.List.{List, [], ◌∷◌, ◌++◌}
use Prim.Native.Nat.{ℕ, ◌+◌, ◌-◌, ◌*◌, ◌<◌, ◌≤◌}
use native.Mathlib.Omega.{arith}
use lib.Dec.{ltb, eqb, lit<}
use lib.ListN.{length, get_or, length-append, get_or-append}
use borrow.Author.Tests.{ltb-true, lt-ltb, le-ltb, eq-eqb, eqb-true}
use Rattle.std.proofs.lemmas.Bool.{and_parts, cases_Bool, cases_lt, cond_both}
use Rattle.layout.specs.Answers.{refusal_of}
use Rattle.command.specs.declared.Draw.{Draw}
use Rattle.command.specs.declared.Draw.TheVariants.{Closed, Open}
use Rattle.command.specs.Command.{Found, unit, waiting, vertex}
use Rattle.command.specs.Look.{whole, xf_count, xf_words, xf_address, look_xf, descriptor_of, vertex_bytes, look_vertex, by_opcode, look_of}
use Rattle.command.specs.Prefix.{Settled, stage_of, HeadRead}
use Rattle.command.specs.Promises.{look_all, WaitingPromises}
use Rattle.command.proofs.Opcodes.{at_opcode}
use Rattle.command.proofs.Refusals.{unless_waiting}
use Rattle.command.proofs.Bounds.{Fair, words_bounds, look_fair}
use Rattle.command.proofs.Extends.{Heads, unit_settled, refused_settled, xf_first, look_extends}
use Rattle.command.proofs.Prefix.{look_fewer, look_just, look_lacking}

same : {j k : ℕ} → waiting j ≡ waiting k → j ≡ k
same e = cc

-- a unit that waits, by its length
whole_waits : (n length : ℕ) (c : List ℕ) (m k : ℕ) → whole n length c m ≡ waiting k → n + k ≡ length
unfolding whole
whole_waits n length c m k =
    cond_both (ltb n length) _ _ (λ (x : Found). x ≡ waiting k → n + k ≡ length)
    (λ t e. let h : n < length = ltb-true n length t in let z : length - n ≡ k = same e in omega arith)
    (λ _ e. absurd (unit_settled c m length k e))

opcode_first : (cp : List ℕ) → look_all [] cp Closed ≡ waiting 1
unfolding look_of
opcode_first cp = refl

vertex_rest : (p cp : List ℕ) (primitive format left k : ℕ) → look_all p cp (Open primitive format left) ≡ waiting k
    → length p + k ≡ vertex_bytes cp format
unfolding look_of look_vertex
vertex_rest p cp primitive format left k e =
    whole_waits (length p) (vertex_bytes cp format) vertex 0 k (unless_waiting (refusal_of (descriptor_of cp format)) _ k e).1

-- ---- an XF load

-- a look at its bytes
at_xf : (p : List ℕ) (n : ℕ) (cp : List ℕ) → get_or p 0 0 ≡ 0x10 → 1 ≤ n → look_xf p n ≡ look_of p n cp Closed
unfolding by_opcode
at_xf p n cp e h = at_opcode p n cp e (λ z. omega arith)

-- at five bytes
at_five : (p : List ℕ) (n : ℕ) → n ≡ 5 → HeadRead p (look_xf p n)
unfolding look_xf whole
at_five p n e =
    let few : 5 < 5 + 4 * xf_words p = omega (arith, (words_bounds p).0) in
    let rest : 5 + 4 * xf_words p - 5 ≡ 4 * xf_words p = omega arith in
    rw e
    (cond_both (ltb xf_count (xf_address p + xf_words p)) _ _ (HeadRead p) (λ _. inl refl)
    (λ _. inr (rw (lt-ltb 5 (5 + 4 * xf_words p) few, rest))))

-- from five bytes on
at_words : (p : List ℕ) (n k : ℕ) → 5 ≤ n → look_xf p n ≡ waiting k → n + k ≡ 5 + 4 * xf_words p
unfolding look_xf
at_words p n k h =
    rw (le-ltb n 5 h)
    (cond_both (ltb xf_count (xf_address p + xf_words p)) _ _ (λ (x : Found). x ≡ waiting k → n + k ≡ 5 + 4 * xf_words p)
    (λ _ e. absurd (refused_settled 8 k e))
    (λ _ e. whole_waits n (5 + 4 * xf_words p) _ 0 k e))

head_read : (p cp : List ℕ) → get_or p 0 0 ≡ 0x10 → length p ≡ 5 → HeadRead p (look_all p cp Closed)
head_read p cp x five = rw (← at_xf p (length p) cp x (omega arith)) (at_five p (length p) five)

words_rest : (p cp : List ℕ) (k : ℕ) → get_or p 0 0 ≡ 0x10 → 5 ≤ length p → look_all p cp Closed ≡ waiting k
    → length p + k ≡ 5 + 4 * xf_words p
words_rest p cp k x h e = at_words p (length p) k h (at_xf p (length p) cp x (omega arith) ∙ e)

-- ---- stages

-- part of an XF load's head, of one byte or more
abbrev in_head : ℕ → List ℕ → Bool
in_head op p = eqb op 0x10 && ltb (length (op ∷ p)) 5

is_head : (op : ℕ) (p : List ℕ) → in_head op p ≡ true → (op ≡ 0x10) × (length (op ∷ p) < 5)
is_head op p t =
    (eqb-true op 0x10 (and_parts (eqb op 0x10) (ltb (length (op ∷ p)) 5) t).0, ltb-true (length (op ∷ p)) 5 (and_parts (eqb op 0x10) _ t).1)

-- the rest of the unit is asked for past the opcode and past an XF load's head
not_heads : (draw : Draw) (p : List ℕ) → stage_of draw p ≡ 3 → Heads p (length p) draw → ⊥
not_heads Closed [] e h = omega (arith, e)
not_heads Closed (op ∷ p) e (inl z) = omega (arith, z)
not_heads Closed (op ∷ p) e (inr (x, l)) =
    let z : ◌≡◌ {A = ℕ} 2 3 = rw (eq-eqb op 0x10 x, lt-ltb (length (op ∷ p)) 5 l) at e in
    omega (arith, z)
not_heads (Open primitive format left) p e h = h

head_first : (p cp : List ℕ) → stage_of Closed p ≡ 2 → look_all p cp Closed ≡ waiting (5 - length p)
head_first [] cp e = absurd (omega (arith, e))
head_first (op ∷ p) cp e =
    ⊎_elim
    (λ t. let h = is_head op p t in sym (at_xf (op ∷ p) _ cp h.0 (omega arith)) ∙ xf_first (op ∷ p) _ h.1)
    (λ f. let z : ◌≡◌ {A = ℕ} 3 2 = rw f at e in absurd (omega (arith, z)))
    (cases_Bool (in_head op p))

-- with just the bytes that are lacking what waits again is at a later stage
waits_later : (p q cp : List ℕ) (draw : Draw) (k j : ℕ) → look_all p cp draw ≡ waiting k → length q ≡ k
    → look_all (p ++ q) cp draw ≡ waiting j → stage_of draw p < stage_of draw (p ++ q)
waits_later p q cp (Open primitive format left) k j e l f = absurd (look_just p q cp (Open primitive format left) k e l (λ h. h) j f)
waits_later [] [] cp Closed k j e l f = let b = look_lacking [] cp Closed k e in absurd (omega (arith, b.0, l))
waits_later [] (op ∷ q) cp Closed k j e l f = cond_both (in_head op q) _ _ (λ (n : ℕ). 1 < n) (λ _. lit< tt) (λ _. lit< tt)
waits_later (op ∷ p) q cp Closed k j e l f =
    ⊎_elim
    (λ t.
    let h = is_head op p t in
    let five : length (op ∷ p ++ q) ≡ 5 =
    omega (arith, same (sym (head_first (op ∷ p) cp (rw t)) ∙ e), length-append (op ∷ p) q, l, h.1) in
    let past : 5 ≤ length (op ∷ p ++ q) = omega arith in
    rw (t, eq-eqb op 0x10 h.0, le-ltb (length (op ∷ p ++ q)) 5 past) (lit< tt))
    (λ t. absurd (look_just (op ∷ p) q cp Closed k e l (not_heads Closed (op ∷ p) (rw t)) j f))
    (cases_Bool (in_head op p))

-- with just the rest of the unit nothing waits
rest_settles : (p q cp : List ℕ) (draw : Draw) (k : ℕ) → look_all p cp draw ≡ waiting k → length q ≡ k → stage_of draw p ≡ 3
    → Settled (look_all (p ++ q) cp draw)
rest_settles p q cp draw k e l s = look_just p q cp draw k e l (not_heads draw p s)

-- ---- the rest of the unit, at n bytes of a longer list
module _ (p b : List ℕ) (n n' : ℕ) (more : n ≤ n') (begins : (i : ℕ) → i < n → get_or p i 0 ≡ get_or b i 0) (cp : List ℕ) (draw : Draw)
    (k : ℕ) (waits : look_of p n cp draw ≡ waiting k) (past : Heads p n draw → ⊥)
    (c : List ℕ) (m l : ℕ) (is : look_of b n' cp draw ≡ unit c m l) where
  there : Fair n' (unit c m l)
  there = subst (Fair n') is (look_fair b n' cp draw)

  -- not fewer than are there
  more_than : n < l
  more_than =
      ⊎_elim (λ h. h)
      (λ h. absurd (unit_settled c m l k (sym ((look_extends p b n n' more begins cp draw).alone c m l is h ∙ is) ∙ waits)))
      (cases_lt n l)

  -- not fewer than are lacking
  not_fewer : l < n + k → ⊥
  not_fewer h =
      let some : n ≤ l = omega (arith, more_than) in
      (look_extends p b n l some begins cp draw).fewer k waits h c m l
      ((look_extends b b l n' there.1.0 (λ _ _. refl) cp draw).alone c m l is (omega arith) ∙ is)

  -- not more
  not_more : n + k < l → ⊥
  not_more h =
      let settled : Settled (look_of b (n + k) cp draw) =
      (look_extends p b n (n + k) (omega arith) begins cp draw).just k waits refl past in
      let all : look_of b (n + k) cp draw ≡ unit c m l =
      (look_extends b b (n + k) n' (omega (arith, there.1.0)) (λ _ _. refl) cp draw).keeps settled ∙ is in
      let few : Fair (n + k) (unit c m l) = subst (Fair (n + k)) all (look_fair b (n + k) cp draw) in
      omega (arith, few.1.0)

  rest_is : l ≡ n + k
  rest_is =
      ⊎_elim (λ h. absurd (not_fewer h)) (λ h. ⊎_elim (λ g. absurd (not_more g)) (λ g. omega (arith, g, h)) (cases_lt (n + k) l))
      (cases_lt l (n + k))

unit_rest : (p q cp : List ℕ) (draw : Draw) (k : ℕ) → look_all p cp draw ≡ waiting k → stage_of draw p ≡ 3
    → (c : List ℕ) (m l : ℕ) → look_all (p ++ q) cp draw ≡ unit c m l → l ≡ length p + k
unit_rest p q cp draw k e s c m l u =
    rest_is p (p ++ q) (length p) (length (p ++ q)) (omega (arith, length-append p q)) (λ i h. sym (get_or-append p q 0 i h)) cp draw k e
    (not_heads draw p s) c m l u

pub waiting_promises : WaitingPromises
waiting_promises =
    record {
      opcode = opcode_first;
      rest = unit_rest;
      head = head_first;
      head_read = head_read;
      words = words_rest;
      vertex = vertex_rest;
      bounds = look_lacking;
      fewer = look_fewer;
      next = waits_later;
      last = rest_settles;
    }

-- A taken command is written back to the bytes that the taking consumed: the writer's round trip, at the front of the queue.
use mathlib.Core.Path.{◌≡◌, refl, sym, ap, ◌∙◌, subst}
use mathlib.Core.Bool.{Bool, true, false}
use mathlib.Core.List.{List}
use Prim.Native.Nat.{ℕ, zero, suc, ◌+◌, ◌-◌, ◌≤◌}
use native.Mathlib.Nat.{add-zero}
use native.Mathlib.Omega.{arith}
use lib.Dec.{ltb, eqb}
use lib.ListN.{length, take, drop, length-drop, take-append-drop}
use lib.Seq.{length-take-le}
use borrow.Author.Tests.{le-ltb, eqb-true}
use Rattle.std.proofs.lemmas.Bool.{cond_both}
use Rattle.layout.specs.Answers.{refusal_of}
use Rattle.command.specs.declared.Draw.{Draw}
use Rattle.command.specs.declared.Draw.TheVariants.{Closed, Open}
use Rattle.command.specs.Command.{Found, unit, waiting, refused, kind_of}
use Rattle.command.specs.Look.{descriptor_of, unless_refused, whole, vertex_bytes, look_vertex, look_of}
use Rattle.octets.specs.BigEndian.{bytes_of}
use Rattle.writer.specs.Write.{head_of, command_bytes}
use Rattle.writer.specs.Write as Write
use Rattle.writer.specs.Back.{Writable}
use Rattle.writer.specs.Again.{lowered, held_words, Rewrites}
use Rattle.writer.proofs.Accepts.{rewrites}
use Rattle.machine.specs.State.{State}
use Rattle.processor.specs.Step.{queue_of, look_at, executed, step_found, step_of}
use Rattle.processor.proofs.Valid.{queue_octets}
use Rattle.history.specs.Calls.{World, queue, consumed_by}
use Rattle.history.specs.Promises.{words_left, StepRewritten}
use Rattle.history.proofs.Flow.{step_unit, flow_found}

-- ---- in an open draw there are vertices alone
abbrev IsVertex : Found → Type 0
IsVertex (unit c m n) = kind_of c ≡ 0x01
IsVertex (waiting k) = Unit {0}
IsVertex (refused r) = Unit {0}

unless_vertex : (r : ℕ) (x : Found) → IsVertex x → IsVertex (unless_refused r x)
unless_vertex zero x h = h
unless_vertex (suc r) x h = tt

open_vertex : (n : ℕ) (cp : List ℕ) (format : ℕ) → IsVertex (look_vertex n cp format)
unfolding look_vertex whole
open_vertex n cp format =
    unless_vertex (refusal_of (descriptor_of cp format)) _ (cond_both (ltb n (vertex_bytes cp format)) _ _ IsVertex (λ _. tt) (λ _. refl))

no_draw : (b : List ℕ) (n : ℕ) (cp : List ℕ) (d : Draw) (c : List ℕ) (m l : ℕ) → look_of b n cp d ≡ unit c m l → (kind_of c ≡ 0x01 → ⊥)
    → d ≡ Closed
unfolding look_of
no_draw b n cp Closed c m l e f = refl
no_draw b n cp (Open primitive format left) c m l e f = absurd (f (subst IsVertex e (open_vertex n cp format)))

-- ---- the writer's answer

-- bytes with an XF length below 16 are as many, and an XF load has more than three
lowered_xf : (c b : List ℕ) → kind_of c ≡ 0x10 → length (lowered c b) ≡ 3 + (length b - 3)
unfolding lowered
lowered_xf c b k = rw (k, length-drop 3 b) (omega arith)

xf_many : (c words : List ℕ) → kind_of c ≡ 0x10 → 5 ≤ length (command_bytes c words)
unfolding command_bytes head_of bytes_of
xf_many c words k = rw k (omega arith)

lowered_other : (c b : List ℕ) → eqb (kind_of c) 0x10 ≡ false → lowered c b ≡ b
unfolding lowered
lowered_other c b f = rw f

lowered_many : (c b words : List ℕ) → command_bytes c words ≡ lowered c b → length (command_bytes c words) ≡ length b
lowered_many c b words e = go (eqb (kind_of c) 0x10) refl
  where
    go : (t : Bool) → eqb (kind_of c) 0x10 ≡ t → length (command_bytes c words) ≡ length b
    go true f =
        let k : kind_of c ≡ 0x10 = eqb-true (kind_of c) 0x10 f in
        let l : length (command_bytes c words) ≡ 3 + (length b - 3) = ap length e ∙ lowered_xf c b k in
        omega (arith, l, xf_many c words k)
    go false f = ap length (e ∙ lowered_other c b f)

-- where there is room for the bytes, nothing is refused
room_enough : (c words : List ℕ) (room : ℕ) → Writable c words → length (command_bytes c words) ≤ room → Write.refusal_of c words room ≡ 0
unfolding Write.refusal_of
room_enough c words room t h = rw (t.writable, t.addressed, t.within, le-ltb room (length (command_bytes c words)) h)

-- ---- the unit of a taking
module _ (w : World) (c : List ℕ) (m n : ℕ) (e : step_found w.ring w.state ≡ unit c m n) where
  abbrev s : State
  s = w.state

  words_held : words_left w c ≡ held_words c (take n (queue w)) s.xf
  unfolding step_of executed held_words
  words_held = rw e

  rest_is : queue_of w.ring (step_of w.ring s) ≡ drop n (queue w)
  unfolding step_of consumed_by
  rest_is = rw (e, (flow_found w.ring s (unit c m n) e).0, add-zero n)

  many_there : n ≤ length (queue w)
  unfolding consumed_by
  many_there = omega (arith, (flow_found w.ring s (unit c m n) e).1)

pub step_rewritten : StepRewritten
unfolding look_at
step_rewritten w o c m n e f =
    let s : State = w.state in
    let q : List ℕ = queue w in
    let u = step_unit w.ring s c m n e in
    let d : s.draw ≡ Closed = no_draw q (length q) s.cp s.draw c m n u.1 f in
    let back : Rewrites (take n q) s.xf c =
    rewrites q s.xf s.cp (queue_octets w.ring s o) u.0.xf c m n (rw d at u.1) in
    let h : words_left w c ≡ held_words c (take n q) s.xf = words_held w c m n e in
    let t : Writable c (words_left w c) =
    rw h (record { writable = back.writable; addressed = back.addressed; within = back.within }) in
    let b : command_bytes c (words_left w c) ≡ lowered c (take n q) = rw h back.bytes in
    let k : length (take n q) ≡ n = length-take-le n q (many_there w c m n e) in
    let l : length (command_bytes c (words_left w c)) ≡ n = lowered_many c (take n q) (words_left w c) b ∙ k in
    record {
      consumed = rw (rest_is w c m n e) (sym (take-append-drop n q));
      many = k;
      taken = t;
      bytes_are = b;
      unrefused = λ room r. room_enough c (words_left w c) room t (omega (arith, l, r));
    }

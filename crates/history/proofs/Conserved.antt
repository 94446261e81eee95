-- "Over any feeds and steps with no window register written between, bytes accepted minus bytes consumed by answered units equals the
-- change in count."
use mathlib.Core.Path.{◌≡◌, refl, sym, ap, ◌∙◌}
use mathlib.Core.Bool.{Bool, true, false, not, ◌&&◌, ◌||◌}
use mathlib.Core.Logic.{◌⊎◌, inl, inr, ⊎_elim}
use mathlib.Core.List.{List, [], ◌∷◌, ◌++◌, append-nil}
use Prim.Native.Nat.{ℕ, ◌+◌, ◌-◌, ◌≤◌}
use native.Mathlib.Nat.{zero-add}
use native.Mathlib.Omega.{arith}
use lib.Dec.{eqb, leb}
use lib.ListN.{length, drop, length-append, length-drop}
use borrow.Author.Tests.{eqb-true, leb-true, ne_eqb, le-ltb}
use Rattle.std.proofs.lemmas.Bool.{and_parts, cases_lt, cond_both, or_cases}
use Rattle.fifo.specs.declared.Fifo.{Fifo}
use Rattle.fifo.specs.declared.Window.{Window}
use Rattle.fifo.specs.Window.{count_of}
use Rattle.queue.specs.Pending.{pending}
use Rattle.registers.specs.Registers.{word_at, with_register, stored, writable, written}
use Rattle.queue.proofs.FeedLaws.{pending_after}
use Rattle.queue.proofs.Pending.{length_pending}
use Rattle.processor.specs.Step.{step_found, step_of}
use Rattle.running.specs.Run.{Taken}
use Rattle.history.specs.Calls.{World, Call, feed, take, look, run, write, read, queue, count_at, after, fed}
use Rattle.history.specs.Calls.{units_of, after_all, fed_all, units_all, consumed_by, harmless, Harmless, Listed}
use Rattle.history.specs.Promises.{Conserved, ListedHarmless}
use Rattle.history.proofs.Flow.{Flows, flow_found, flow_run}

-- ---- a write of control, clear or a mark leaves the queue
-- a mark is one of the words 2 and 3
mark : (o : ℕ) → 0x28 ≤ o → o ≤ 0x2F → (word_at o ≡ 2) ⊎ (word_at o ≡ 3)
mark o lo hi = ⊎_elim (λ h. inl (omega (arith, h))) (λ h. inr (omega (arith, h))) (cases_lt o 0x2C)

mark_kept : (w : Window) (o v : ℕ) (ring : List ℕ) → (word_at o ≡ 2) ⊎ (word_at o ≡ 3) → pending (with_register w o v) ring ≡ pending w ring
unfolding pending count_of with_register
mark_kept w o v ring (inl e) = rw e
mark_kept w o v ring (inr e) = rw e

stored_kept : (f : Fifo) (o v : ℕ) (ring : List ℕ) → harmless o ≡ true → pending (stored f o v).window ring ≡ pending f.window ring
unfolding stored harmless
stored_kept f o v ring h =
    ⊎_elim
    (λ e. ⊎_elim (λ t. rw (eqb-true o 2 t)) (λ t. rw (eqb-true o 4 t)) (or_cases (eqb o 2) (eqb o 4) e))
    (λ e. marks (leb-true 0x28 o (and_parts (leb 0x28 o) (leb o 0x2F) e).0) (leb-true o 0x2F (and_parts (leb 0x28 o) (leb o 0x2F) e).1))
    (or_cases (eqb o 2 || eqb o 4) (leb 0x28 o && leb o 0x2F) h)
  where
    marks : 0x28 ≤ o → o ≤ 0x2F → pending (stored f o v).window ring ≡ pending f.window ring
    marks lo hi =
        rw (ne_eqb o 4 (λ e. omega arith), le-ltb o 0x20 (omega arith)) (mark_kept f.window o v ring (mark o lo hi))

-- a write that is not refused is a harmless one
if_written : (h w : Bool) → (h || not w) ≡ true → w ≡ true → h ≡ true
if_written true w e t = refl
if_written false true e t = e
if_written false false e t = t

pub written_kept : (f : Fifo) (o v : ℕ) (ring : List ℕ) → (harmless o || not (writable o)) ≡ true
    → pending (written f o v).window ring ≡ pending f.window ring
unfolding written
written_kept f o v ring h =
    cond_both (writable o) _ _ (λ (g : Fifo). pending g.window ring ≡ pending f.window ring)
    (λ t. stored_kept f o v ring (if_written (harmless o) (writable o) h t)) (λ _. refl)

-- ---- each call
pub call_flow : (w : World) (c : Call) → Harmless c
    → (queue (after w c) ≡ drop (consumed_by (units_of w c)) (queue w ++ fed w c))
    × (consumed_by (units_of w c) ≤ length (queue w ++ fed w c))
unfolding step_of consumed_by Flows
call_flow w (feed bytes) h = (pending_after w.state.fifo w.ring bytes, omega arith)
call_flow w take h = rw (append-nil (queue w)) (flow_found w.ring w.state (step_found w.ring w.state) refl)
call_flow w look h = rw (append-nil (queue w)) (refl, omega arith)
call_flow w (run limit) h = rw (append-nil (queue w)) (flow_run w.ring limit w.state)
call_flow w (write o v) h = rw (append-nil (queue w)) (written_kept w.state.fifo o v w.ring h, omega arith)
call_flow w (read o) h = rw (append-nil (queue w)) (refl, omega arith)

count_call : (w : World) (c : Call) → Harmless c → count_at (after w c) + consumed_by (units_of w c) ≡ count_at w + length (fed w c)
count_call w c h =
    let f = call_flow w c h in
    let a : length (queue (after w c)) ≡ count_at (after w c) = length_pending (after w c).state.fifo.window (after w c).ring in
    let b : length (queue w) ≡ count_at w = length_pending w.state.fifo.window w.ring in
    let d : length (queue (after w c)) ≡ length (queue w ++ fed w c) - consumed_by (units_of w c) =
    ap length f.0 ∙ length-drop (consumed_by (units_of w c)) (queue w ++ fed w c) in
    let l : length (queue w ++ fed w c) ≡ length (queue w) + length (fed w c) = length-append (queue w) (fed w c) in
    omega (arith, f.1)

consumed_append : (us vs : List Taken) → consumed_by (us ++ vs) ≡ consumed_by us + consumed_by vs
unfolding consumed_by
consumed_append [] vs = sym (zero-add (consumed_by vs))
consumed_append (u ∷ us) vs =
    let e : consumed_by (us ++ vs) ≡ consumed_by us + consumed_by vs = consumed_append us vs in
    omega arith

-- over any list of calls
pub conserved : Conserved
unfolding after_all units_all fed_all consumed_by
conserved w [] h = refl
conserved w (c ∷ cs) h =
    let v : World = after w c in
    let one : count_at v + consumed_by (units_of w c) ≡ count_at w + length (fed w c) = count_call w c h.0 in
    let rest : count_at (after_all v cs) + consumed_by (units_all v cs) ≡ count_at v + length (fed_all v cs) = conserved v cs h.1 in
    let u : consumed_by (units_of w c ++ units_all v cs) ≡ consumed_by (units_of w c) + consumed_by (units_all v cs) =
    consumed_append (units_of w c) (units_all v cs) in
    let l : length (fed w c ++ fed_all v cs) ≡ length (fed w c) + length (fed_all v cs) = length-append (fed w c) (fed_all v cs) in
    omega arith

-- a clear is harmless, and no other write is listed
call_harmless : (c : Call) → Listed c → Harmless c
unfolding harmless
call_harmless (feed bytes) h = tt
call_harmless take h = tt
call_harmless look h = tt
call_harmless (run limit) h = tt
call_harmless (write offset value) h = rw h refl
call_harmless (read offset) h = tt

pub listed_harmless : ListedHarmless
listed_harmless [] h = tt
listed_harmless (c ∷ cs) h = (call_harmless c h.0, listed_harmless cs h.1)

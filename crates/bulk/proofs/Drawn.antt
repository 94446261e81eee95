-- A head with its vertices, and vertices of an open draw, are that many units: only the last vertex stands in the buffer.
use mathlib.Core.Path.{◌≡◌, refl, sym, ap, ◌∙◌}
use mathlib.Core.Bool.{Bool, true, false}
use mathlib.Core.List.{List, ◌++◌}
use Rattle.std.specs.Prelude.{Option}
use Prim.Native.Nat.{ℕ, zero, suc, ◌+◌, ◌-◌, ◌*◌, ◌/◌, ◌%◌, ◌<◌, ◌≤◌}
use native.Mathlib.Nat.{add-zero, sub-zero, zero-mul, suc-mul}
use native.Mathlib.Numerals.{add-one}
use native.Mathlib.Omega.{arith}
use lib.Dec.{leb}
use lib.ListN.{length, get_or, take, drop, length-append, length-drop}
use lib.Seq.{get_or-drop, drop_at, length-take-le}
use borrow.Author.Tests.{leb-true}
use Rattle.command.specs.declared.Draw.{Draw}
use Rattle.command.specs.declared.Draw.TheVariants.{Open}
use Rattle.command.specs.Command.{vertex, draw_head}
use Rattle.octets.specs.BigEndian.{big_endian}
use Rattle.octets.proofs.Number.{two_bytes}
use Rattle.command.specs.Look.{descriptor_of, vertex_bytes}
use Rattle.command.proofs.Decided.{looks_vertex, looks_head}
use Rattle.effect.specs.Effect.{cp_after, bp_after, xf_after, vertex_after, draw_after, opened_by, counted_down, copied}
use Rattle.walk.specs.Flat.{Core, core_of, core_after}
use Rattle.walk.specs.Moves.{Moves, shut}
use Rattle.walk.proofs.Walks.{first_at, there, One, moves_none, moves_next, moves_then}
use Rattle.bulk.specs.Inner.{Known, Sized, Fits, copied_at, MovesVertices, MovesOpen}

-- ---- a vertex over another of as many bytes
over_by : (t : Bool) (u v buffer : List ℕ) → length u ≡ length v → leb (length u) (length buffer) ≡ t
    → copied v (copied u buffer) ≡ copied v buffer
unfolding copied
over_by true u v buffer e t =
    let h : length u ≤ length buffer = leb-true (length u) (length buffer) t in
    let l : length (u ++ drop (length u) buffer) ≡ length buffer = length-append u (drop (length u) buffer)
    ∙ omega (arith, length-drop (length u) buffer) in
    rw (t, l, ← e) (rw t (ap (λ (x : List ℕ). v ++ x) (drop_at u (drop (length u) buffer) (length u) refl)))
over_by false u v buffer e t = rw t

over : (u v buffer : List ℕ) → length u ≡ length v → copied v (copied u buffer) ≡ copied v buffer
over u v buffer e = over_by (leb (length u) (length buffer)) u v buffer e refl

-- ---- what n vertices leave of the draw
less : ℕ → ℕ → ℕ → ℕ → Draw
less p f left zero = opened_by p f left
less p f left (suc n) = opened_by p f (left - suc n)

opened : (p f n : ℕ) → 1 ≤ n → opened_by p f n ≡ Open p f n
opened p f zero h = absurd (omega (arith, h))
opened p f (suc n) h = refl

less_open : (p f left n : ℕ) → n < left → less p f left n ≡ Open p f (left - n)
unfolding less
less_open p f left zero h = opened p f left (omega arith) ∙ ap (Open p f) (sym (sub-zero left))
less_open p f left (suc n) h = opened p f (left - suc n) (omega arith)

less_next : (p f left n : ℕ) → n < left → counted_down (less p f left n) ≡ less p f left (suc n)
unfolding less
less_next p f left n h =
    let e : left - n - 1 ≡ left - suc n = omega arith in
    ap counted_down (less_open p f left n h) ∙ ap (opened_by p f) e

-- ---- n of them, from a place on
module _ (bytes : List ℕ) (from : ℕ) (cp bp : List ℕ) (p f left : ℕ) (xf buffer : List ℕ) where
  abbrev size : ℕ
  size = vertex_bytes cp f

  -- the buffer after n vertices has the last of them
  held : ℕ → List ℕ
  held zero = buffer
  held (suc n) = copied_at bytes (from + n * size) size buffer

  abbrev state : ℕ → Core
  state n = core_of cp bp (less p f left n) xf (held n)

  module _ (some : 1 ≤ size) where
    full : (at : ℕ) → at + size ≤ length bytes → length (take size (drop at bytes)) ≡ size
    full at h = length-take-le size (drop at bytes) (there bytes at size (omega arith))

    held_next : (n : ℕ) → from + suc n * size ≤ length bytes → copied_at bytes (from + n * size) size (held n) ≡ held (suc n)
    unfolding held
    held_next zero h = refl
    held_next (suc n) h =
        let m : suc (suc n) * size ≡ suc n * size + size = suc-mul (suc n) size in
        let k : suc n * size ≡ n * size + size = suc-mul n size in
        over (take size (drop (from + n * size) bytes)) (take size (drop (from + suc n * size) bytes)) buffer
        (full (from + n * size) (omega arith) ∙ sym (full (from + suc n * size) (omega arith)))

    after : (n : ℕ) → n < left → from + suc n * size ≤ length bytes → state (suc n) ≡ core_after vertex
        (take size (drop (from + n * size) bytes)) (state n)
    unfolding cp_after bp_after xf_after vertex_after draw_after
    after n h l = rw (less_next p f left n h, held_next n l)

    one : (n : ℕ) → n < left → from + suc n * size ≤ length bytes → One bytes (from + n * size) (state n) size (state (suc n))
    one n h l =
        let m : suc n * size ≡ n * size + size = suc-mul n size in
        let b : List ℕ = drop (from + n * size) bytes in
        record {
          command = vertex;
          memory = 0;
          found = rw (less_open p f left n h) (looks_vertex b (length b) cp p f (left - n) some
              (there bytes (from + n * size) size (omega arith)));
          after = after n h l;
        }

    step : (n most : ℕ) → suc n ≤ left → suc n ≤ most → from + suc n * size ≤ length bytes
        → Moves bytes from (state 0) most n (from + n * size) (state n)
        → Moves bytes from (state 0) most (suc n) (from + suc n * size) (state (suc n))
    step n most h k l w =
        let m : suc n * size ≡ n * size + size = suc-mul n size in
        let e : from + suc n * size ≡ from + n * size + size = omega arith in
        rw (e, ← add-one n) (rw (← add-one n) at (moves_next w (omega arith) (omega arith) (one n h l)))

    vertices : (n most : ℕ) → n ≤ left → n ≤ most → from + n * size ≤ length bytes
        → Moves bytes from (state 0) most n (from + n * size) (state n)
    vertices zero most h k l = rw (zero-mul size, add-zero from) (moves_none)
    vertices (suc n) most h k l =
        let m : suc n * size ≡ n * size + size = suc-mul n size in
        step n most h k l (vertices n most (omega arith) (omega arith) (omega arith))

  -- the same with what the last of them leaves written out
  some_moves : (n most : ℕ) → 1 ≤ size → suc n ≤ left → suc n ≤ most → from + suc n * size ≤ length bytes
      → Moves bytes from (core_of cp bp (opened_by p f left) xf buffer) most (suc n) (from + suc n * size)
      (core_of cp bp (opened_by p f (left - suc n)) xf (copied_at bytes (from + n * size) size buffer))
  unfolding less held
  some_moves n most s l m i = vertices s (suc n) most l m i

-- ---- as many as are taken

-- some vertices have the bytes of one
pub one_fits : (n size : ℕ) → 1 ≤ n → size ≤ n * size
one_fits zero size h = absurd (omega (arith, h))
one_fits (suc n) size h = let m : suc n * size ≡ n * size + size = suc-mul n size in omega arith

-- the part that ends at a place
pub copied_last : (bytes buffer : List ℕ) {buffer' : List ℕ} (end n : ℕ) → n ≤ end
    → buffer' ≡ copied (take (end - (end - n)) (drop (end - n) bytes)) buffer
    → buffer' ≡ copied_at bytes (end - n) n buffer
copied_last bytes buffer end n h e =
    let z : end - (end - n) ≡ n = omega arith in
    e ∙ ap (λ (k : ℕ). copied (take k (drop (end - n) bytes)) buffer) z

module _ {bytes : List ℕ} {from p f left size : ℕ} {buffer : List ℕ} {most : ℕ} where
  pub vertices_none : {n : ℕ} {draw' : Draw} → n ≡ 0 → draw' ≡ opened_by p f (left - n)
      → MovesVertices bytes from p f left size buffer most 0 from draw' buffer
  vertices_none {n} z e =
      let k : left - n ≡ left = omega arith in
      record { any = λ cp bp xf s. rw (e, k) moves_none }

  pub vertices_some : (n : ℕ) {draw' : Draw} {buffer' : List ℕ} → from ≤ length bytes → 1 ≤ size → (n ≡ 0 → ⊥)
      → Fits (length bytes - from) size left most n
      → draw' ≡ opened_by p f (left - n) → buffer' ≡ copied_at bytes (from + n * size - size) size buffer
      → MovesVertices bytes from p f left size buffer most n (from + n * size) draw' buffer'
  vertices_some zero i s z w d b = absurd (z refl)
  vertices_some (suc n) i s z w d b =
      let m : suc n * size ≡ n * size + size = suc-mul n size in
      let k : from + suc n * size - size ≡ from + n * size = omega arith in
      let l : from + suc n * size ≤ length bytes = omega (arith, w.inside) in
      record {
        any = λ cp bp xf e.
            rw (d, rw k at b, e)
            (some_moves bytes from cp bp p f left xf buffer n most (rw e at s) w.unspent w.allowed (rw e at l));
      }

-- ---- a draw that is open

-- a format counts modulo 8
pub size_modulo : (cp : List ℕ) (f : ℕ) → vertex_bytes cp (f % 8) ≡ vertex_bytes cp f
unfolding descriptor_of
size_modulo cp f = let e : f % 8 % 8 ≡ f % 8 = omega arith in rw e

pub open_none : {bytes cp : List ℕ} {draw : Draw} {buffer : List ℕ} {most : ℕ} {sizes : List (Option ℕ)} → Known cp sizes
    → MovesOpen bytes cp draw buffer most 0 0 draw sizes buffer
open_none k = record { any = λ bp xf. moves_none; known = k }

pub open_some : {bytes cp : List ℕ} {p f left size : ℕ} {buffer : List ℕ} {most units to : ℕ} {draw' : Draw} {buffer' : List ℕ}
    {sizes : List (Option ℕ)} → (left ≡ 0 → ⊥) → Sized cp (f % 8) size sizes
    → MovesVertices bytes 0 p f left size buffer most units to draw' buffer'
    → MovesOpen bytes cp (Open p f left) buffer most units to draw' sizes buffer'
open_some {bytes} {cp} {p} {f} {left} z e v =
    record {
      any = λ bp xf. rw (opened p f left (omega (arith, z))) at (v.any cp bp xf (e.size_is ∙ size_modulo cp f));
      known = e.known;
    }

-- ---- a head

module _ (bytes : List ℕ) (at op : ℕ) (cp bp xf buffer : List ℕ) (count : ℕ) where
  head_after : (u : List ℕ) → core_of cp bp (opened_by (op / 8 % 8) (op % 8) count) xf buffer
      ≡ core_after (draw_head (op / 8 % 8) (op % 8) count) u (shut cp bp xf buffer)
  unfolding cp_after bp_after xf_after vertex_after draw_after
  head_after u = refl

  one_head : 3 ≤ length bytes - at → get_or bytes at 0 ≡ op → 0x80 ≤ op → op < 0xC0 → 1 ≤ vertex_bytes cp (op % 8)
      → count ≡ get_or bytes (at + 1) 0 * 256 + get_or bytes (at + 2) 0
      → One bytes at (shut cp bp xf buffer) 3 (core_of cp bp (opened_by (op / 8 % 8) (op % 8) count) xf buffer)
  one_head h e l g s c =
      let b : List ℕ = drop at bytes in
      let n : count ≡ big_endian b 1 2 = c ∙ sym (two_bytes b 1 ∙ rw (get_or-drop at bytes 1 0, get_or-drop at bytes 2 0)) in
      record {
        command = draw_head (op / 8 % 8) (op % 8) count;
        memory = 0;
        found = looks_head b (length b) cp op (first_at bytes at ∙ e) l g s (there bytes at 3 h) ∙ rw (← n);
        after = head_after (take 3 b);
      }

-- a draw's head that is whole
pub record Head (bytes : List ℕ) (at op : ℕ) (cp : List ℕ) (size count : ℕ) : Type 0 where
  pub whole : 3 ≤ length bytes - at
  pub opcode : get_or bytes at 0 ≡ op
  pub low : 0x80 ≤ op
  pub high : op < 0xC0
  pub size_is : size ≡ vertex_bytes cp (op % 8)
  pub some : 1 ≤ size
  pub count_is : count ≡ get_or bytes (at + 1) 0 * 256 + get_or bytes (at + 2) 0

-- the head, and then vertices of its draw
pub head_moves : {bytes : List ℕ} {at op : ℕ} {cp : List ℕ} {size count most units to : ℕ} {buffer : List ℕ} {draw' : Draw}
    {buffer' : List ℕ}
    (bp xf : List ℕ) → Head bytes at op cp size count → 1 ≤ most
    → MovesVertices bytes (at + 3) (op / 8 % 8) (op % 8) count size buffer (most - 1) units to draw' buffer'
    → Moves bytes at (shut cp bp xf buffer) most (units + 1) to (core_of cp bp draw' xf buffer')
head_moves {bytes} {at} {op} {cp} {size} {count} {most} {units} {to} {buffer} bp xf h l v =
    let w = h.whole in
    let e : units + 1 ≡ 1 + units = omega arith in
    rw e
    (moves_then
    (moves_next moves_none (omega arith) (omega arith)
    (one_head bytes at op cp bp xf buffer count w h.opcode h.low h.high (rw (← h.size_is) h.some) h.count_is))
    (v.any cp bp xf h.size_is) (omega arith))

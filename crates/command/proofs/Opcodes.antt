-- The table of opcodes, as a `match` tells its keys.
use mathlib.Core.Path.{◌≡◌}
use mathlib.Core.Bool.{cond, ◌&&◌}
use mathlib.Core.Logic.{◌⊎◌, inl, inr}
use mathlib.Core.List.{List}
use Prim.Native.Nat.{ℕ, ◌<◌, ◌≤◌}
use lib.Dec.{leb, ltb}
use lib.ListN.{get_or}
use borrow.Author.Tests.{ne_eqb, le-leb, lt-ltb}
use Rattle.command.specs.declared.Draw.TheVariants.{Closed}
use Rattle.command.specs.Command.{refused}
use Rattle.command.specs.Look.{look_indexed, look_head, by_opcode, look_of}

-- an opcode that is none of the single keys
pub record Other (op : ℕ) : Type 0 where
  pub no_operation_lem : op ≡ 0x00 → ⊥
  pub invalidate : op ≡ 0x48 → ⊥
  pub metrics : op ≡ 0x44 → ⊥
  pub cp : op ≡ 0x08 → ⊥
  pub xf : op ≡ 0x10 → ⊥
  pub indexed : (op ≡ 0x20) ⊎ ((op ≡ 0x28) ⊎ ((op ≡ 0x30) ⊎ (op ≡ 0x38))) → ⊥
  pub call : op ≡ 0x40 → ⊥
  pub bp : op ≡ 0x61 → ⊥

module _ (b : List ℕ) (n : ℕ) (cp : List ℕ) where
  -- a first byte decides
  pub at_opcode : {op : ℕ} → get_or b 0 0 ≡ op → (n ≡ 0 → ⊥) → by_opcode op b n cp ≡ look_of b n cp Closed
  unfolding look_of
  at_opcode e some = rw (ne_eqb n 0 some, e)

  pub at_indexed : (op : ℕ) → (op ≡ 0x20) ⊎ ((op ≡ 0x28) ⊎ ((op ≡ 0x30) ⊎ (op ≡ 0x38))) → look_indexed op b n cp ≡ by_opcode op b n cp
  unfolding by_opcode
  at_indexed op (inl h) = rw h
  at_indexed op (inr (inl h)) = rw h
  at_indexed op (inr (inr (inl h))) = rw h
  at_indexed op (inr (inr (inr h))) = rw h

  at_other : (op : ℕ) → Other op → cond (leb 0x80 op && ltb op 0xC0) (look_head op b n cp) (refused 6) ≡ by_opcode op b n cp
  unfolding by_opcode
  at_other op o =
      rw (
        ne_eqb op 0x00 o.no_operation_lem,
        ne_eqb op 0x48 o.invalidate,
        ne_eqb op 0x44 o.metrics,
        ne_eqb op 0x08 o.cp,
        ne_eqb op 0x10 o.xf,
        ne_eqb op 0x20 (λ e. o.indexed (inl e)),
        ne_eqb op 0x28 (λ e. o.indexed (inr (inl e))),
        ne_eqb op 0x30 (λ e. o.indexed (inr (inr (inl e)))),
        ne_eqb op 0x38 (λ e. o.indexed (inr (inr (inr e)))),
        ne_eqb op 0x40 o.call,
        ne_eqb op 0x61 o.bp,
      )

  pub at_head : {op : ℕ} → Other op → 0x80 ≤ op → op < 0xC0 → look_head op b n cp ≡ by_opcode op b n cp
  at_head {op} o l h = rw (← at_other op o, le-leb 0x80 op l, lt-ltb op 0xC0 h)

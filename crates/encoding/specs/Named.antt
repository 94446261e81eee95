-- What words name that a caller hands in: a command to write, and a vertex format. A command is five words, the kind, a, b, c and d, as a
-- unit is told. Words that no command has, a kind that is not listed or a field too wide for 8 or 16 bits where the command has no more,
-- name a vertex: it is never written, and 18 is its refusal. The writer tests the narrower widths, by 18 too.
use Rattle.std.specs.Prelude.{cond, ◌&&◌, List, ℕ, ◌^◌, eqb, ltb, get_or, Option, Some, None}
use Rattle.fields.specs.declared.Descriptor.{Descriptor}
use Rattle.command.specs.declared.Command.{Command}
use Rattle.command.specs.Command.{numbers_of, no_operation, invalidate_cache, metrics, load_cp, load_xf, load_indexed, call_list, load_bp}
use Rattle.command.specs.Command.{draw_head, vertex}

-- the numbers of a command where one is named, and else a vertex's
abbrev pub named : Option Command → List ℕ
named (Some command) = numbers_of command
named None = vertex

-- a address, b number
abbrev pub cp_named : ℕ → ℕ → List ℕ
cp_named a b = cond (ltb a (2 ^ 8)) (load_cp a b) vertex

-- a words, b address
abbrev pub xf_named : ℕ → ℕ → List ℕ
xf_named a b = cond (ltb a (2 ^ 8) && ltb b (2 ^ 16)) (load_xf a b) vertex

-- a index, b words, c XF address; d, the memory address, is no field of the command
abbrev pub indexed_named : ℕ → ℕ → ℕ → ℕ → List ℕ
indexed_named array a b c = cond (ltb a (2 ^ 16) && (ltb b (2 ^ 8) && ltb c (2 ^ 16))) (load_indexed array a b c) vertex

-- a register, b number
abbrev pub bp_named : ℕ → ℕ → List ℕ
bp_named a b = cond (ltb a (2 ^ 8)) (load_bp a b) vertex

-- a primitive, b format, c count
abbrev pub draw_named : ℕ → ℕ → ℕ → List ℕ
draw_named a b c = cond (ltb a (2 ^ 8) && (ltb b (2 ^ 8) && ltb c (2 ^ 16))) (draw_head a b c) vertex

-- by the kind
unfoldable pub command_by : ℕ → ℕ → ℕ → ℕ → List ℕ
command_by kind a b c =
    cond (eqb kind 0x00) no_operation
    (cond (eqb kind 0x48) invalidate_cache
    (cond (eqb kind 0x44) metrics
    (cond (eqb kind 0x08) (cp_named a b)
    (cond (eqb kind 0x10) (xf_named a b)
    (cond (eqb kind 0x20) (indexed_named 12 a b c)
    (cond (eqb kind 0x28) (indexed_named 13 a b c)
    (cond (eqb kind 0x30) (indexed_named 14 a b c)
    (cond (eqb kind 0x38) (indexed_named 15 a b c)
    (cond (eqb kind 0x40) (call_list a b)
    (cond (eqb kind 0x61) (bp_named a b)
    (cond (eqb kind 0x80) (draw_named a b c)
    vertex)))))))))))

-- the command that five words name
abbrev pub command_named : List ℕ → List ℕ
command_named l = command_by (get_or l 0 0) (get_or l 1 0) (get_or l 2 0) (get_or l 3 0)

-- the vertex format that five words name: groups 0 and 1 of the VCD, groups 0 to 2 of one format's VAT
unfoldable pub format_named : List ℕ → Descriptor
format_named l = record { vcd0 = get_or l 0 0; vcd1 = get_or l 1 0; vat0 = get_or l 2 0; vat1 = get_or l 3 0; vat2 = get_or l 4 0 }

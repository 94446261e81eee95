-- What a command does to the registers, the XF words, the vertex buffer and the open draw ("Units of the stream").
-- A command is its list of numbers, kind and fields; what it does not name stays.
use Rattle.std.specs.Prelude.{◌≡◌, cond, ◌&&◌, List, ◌++◌, ℕ, zero, suc, ◌+◌, ◌-◌, ◌*◌, ◌%◌, ◌^◌, leb, ltb, eqb, length, get_or, set, drop}
use Rattle.std.specs.Int.Bits.{bit_and, bit_or, bit_xor}
use Rattle.octets.specs.BigEndian.{big_endian}
use Rattle.command.specs.Command.{kind_of, field_of}
use Rattle.places.specs.Places.{cp_count, cp_place}
use Rattle.command.specs.declared.Draw.{Draw}
use Rattle.command.specs.declared.Draw.TheVariants.{Closed, Open}

-- ---- "CP load"

-- what a register keeps of the number: bases modulo 2^26, strides modulo 256, the others all 32 bits
unfoldable pub kept_of : ℕ → ℕ → ℕ
kept_of address n = cond (ltb address 0xA0) n (cond (ltb address 0xB0) (n % 2 ^ 26) (n % 256))

-- the CP registers after a load; an address that names no register has no effect
unfoldable pub loaded_cp : List ℕ → ℕ → ℕ → List ℕ
loaded_cp cp address n = cond (ltb (cp_place address) cp_count) (set cp (cp_place address) (kept_of address n)) cp

unfoldable pub cp_after : List ℕ → List ℕ → List ℕ
cp_after c cp = cond (eqb (kind_of c) 0x08) (loaded_cp cp (field_of c 1) (field_of c 2)) cp

-- ---- "BP load"

-- "new = old outside m, number inside m": so it is of the low 24 bits, and registers above 24 bits are refused by 1. Nothing is reduced:
-- a higher bit is set where the mask has it, and the old number or the new one too
unfoldable pub masked : ℕ → ℕ → ℕ → ℕ
masked old mask n = bit_or (bit_and old (bit_xor 0xFFFFFF mask)) (bit_and n mask)

-- "With mask m held in register FE"
abbrev pub mask_place : ℕ
mask_place = 0xFE

-- a register with its bits under the mask replaced
unfoldable pub stored_bp : List ℕ → ℕ → ℕ → List ℕ
stored_bp bp r n = set bp r (masked (get_or bp r 0) (get_or bp mask_place 0) n)

-- "Then FE becomes FFFFFF, unless the load's own register was FE; a load to FE is masked by FE itself and stays."
unfoldable pub loaded_bp : List ℕ → ℕ → ℕ → List ℕ
loaded_bp bp r n = cond (eqb r mask_place) (stored_bp bp r n) (set (stored_bp bp r n) mask_place 0xFFFFFF)

unfoldable pub bp_after : List ℕ → List ℕ → List ℕ
bp_after c bp = cond (eqb (kind_of c) 0x61) (loaded_bp bp (field_of c 1) (field_of c 2)) bp

-- ---- "XF load"

-- the XF words with the first n words of the unit from the address on; they stand after the five bytes of its head
unfoldable pub stored_xf : List ℕ → List ℕ → ℕ → ℕ → List ℕ
stored_xf xf bytes address zero = xf
stored_xf xf bytes address (suc n) = set (stored_xf xf bytes address n) (address + n) (big_endian bytes (5 + 4 * n) 4)

-- nothing where the unit or the memory is too short for the words
unfoldable pub loaded_xf : List ℕ → List ℕ → ℕ → ℕ → List ℕ
loaded_xf xf bytes words address =
    cond (leb (5 + 4 * words) (length bytes) && leb (address + words) (length xf)) (stored_xf xf bytes address words) xf

unfoldable pub xf_after : List ℕ → List ℕ → List ℕ → List ℕ
xf_after c bytes xf = cond (eqb (kind_of c) 0x10) (loaded_xf xf bytes (field_of c 1) (field_of c 2)) xf

-- ---- "Draw"

-- "its bytes copied to the front of the vertex buffer; the rest of that buffer stays"; nothing where the buffer is too short
unfoldable pub copied : List ℕ → List ℕ → List ℕ
copied bytes buffer = cond (leb (length bytes) (length buffer)) (bytes ++ drop (length bytes) buffer) buffer

unfoldable pub vertex_after : List ℕ → List ℕ → List ℕ → List ℕ
vertex_after c bytes buffer = cond (eqb (kind_of c) 0x01) (copied bytes buffer) buffer

-- "With count n > 0 a draw is open"
abbrev pub opened_by : ℕ → ℕ → ℕ → Draw
opened_by primitive format zero = Closed
opened_by primitive format (suc n) = Open primitive format (suc n)

-- one vertex less is left; "After the last the draw is closed."
abbrev pub counted_down : Draw → Draw
counted_down Closed = Closed
counted_down (Open primitive format n) = opened_by primitive format (n - 1)

unfoldable pub draw_after : List ℕ → Draw → Draw
draw_after c draw =
    cond (eqb (kind_of c) 0x80) (opened_by (field_of c 1) (field_of c 2) (field_of c 3))
    (cond (eqb (kind_of c) 0x01) (counted_down draw) draw)

-- the whole effect of the command c of the unit `bytes` on what is lent
pub record Applied (c bytes cp bp xf buffer cp' bp' xf' buffer' : List ℕ) : Type 0 where
  pub cp_is : cp' ≡ cp_after c cp
  pub bp_is : bp' ≡ bp_after c bp
  pub xf_is : xf' ≡ xf_after c bytes xf
  pub buffer_is : buffer' ≡ vertex_after c bytes buffer

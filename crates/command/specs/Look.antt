-- "Units of the stream": what a list of bytes, of which n are there, begins with.
use Rattle.std.specs.Prelude.{Bool, cond, ◌&&◌, ◌||◌, List, ℕ, zero, suc, ◌+◌, ◌-◌, ◌*◌, ◌/◌, ◌%◌, ◌^◌, leb, ltb, eqb, get_or}
use Rattle.octets.specs.BigEndian.{big_endian}
use Rattle.fields.specs.declared.Descriptor.{Descriptor}
use Rattle.layout.specs.Answers.{refusal_of, length_of}
pub use Rattle.layout.specs.Answers.{largest_vertex}
use Rattle.command.specs.declared.Draw.{Draw}
use Rattle.command.specs.declared.Draw.TheVariants.{Closed, Open}
use Rattle.command.specs.Command.{Found, unit, waiting, refused, no_operation, invalidate_cache, metrics}
use Rattle.command.specs.Command.{load_cp, load_xf, load_indexed, call_list, load_bp, draw_head, vertex}
use Rattle.places.specs.Places.{cp_accepted, vcd_place, vat_place, base_place, stride_place, indexed_load, array_of}

-- a unit of so many bytes: it waits for those that it lacks
unfoldable pub whole : ℕ → ℕ → List ℕ → ℕ → Found
whole n length command memory = cond (ltb n length) (waiting (length - n)) (unit command memory length)

-- "08: address 8, number 32". The address byte decides 7
unfoldable pub look_cp : List ℕ → ℕ → Found
look_cp b n =
    cond (ltb n 2) (waiting (6 - n))
    (cond (cp_accepted (get_or b 1 0)) (whole n 6 (load_cp (get_or b 1 0) (big_endian b 2 4)) 0) (refused 7))

-- the XF memory's words
abbrev pub xf_count : ℕ
xf_count = 4184

-- "Words are the length modulo 16, plus 1."
unfoldable pub xf_words : List ℕ → ℕ
xf_words b = big_endian b 1 2 % 16 + 1

unfoldable pub xf_address : List ℕ → ℕ
xf_address b = big_endian b 3 2

-- "10: length 16, address 16, then words"; "Address plus words must not pass 4,184." The fifth byte decides 8
unfoldable pub look_xf : List ℕ → ℕ → Found
look_xf b n =
    cond (ltb n 5) (waiting (5 - n))
    (cond (ltb xf_count (xf_address b + xf_words b)) (refused 8)
    (whole n (5 + 4 * xf_words b) (load_xf (xf_words b) (xf_address b)) 0))

-- "Bits 3 and 4 pick array 12 to 15."
abbrev pub indexed_array : ℕ → ℕ
indexed_array op = array_of (indexed_load (op / 8 % 4))

-- "the memory address, base plus index times stride", of a base of 26 bits and a stride of 8 (wider ones are refused by 1)
unfoldable pub memory_of : List ℕ → ℕ → ℕ → ℕ
memory_of cp array index = get_or cp (base_place array) 0 % 2 ^ 26 + index * (get_or cp (stride_place array) 0 % 256)

-- "20, 28, 30, 38: index 16, then 4 bits and 12 bits"; "the words, the 4 bits plus 1; and the 12-bit XF address"
unfoldable pub look_indexed : ℕ → List ℕ → ℕ → List ℕ → Found
look_indexed op b n cp =
    whole n 5 (load_indexed (indexed_array op) (big_endian b 1 2) (big_endian b 3 2 / 4096 + 1) (big_endian b 3 2 % 4096))
    (memory_of cp (indexed_array op) (big_endian b 1 2))

-- "40: address 32, size 32: reported, not executed"
unfoldable pub look_call : List ℕ → ℕ → Found
look_call b n = whole n 9 (call_list (big_endian b 1 4) (big_endian b 5 4)) 0

-- "61: register 8, number 24": the unit has five bytes
unfoldable pub look_bp : List ℕ → ℕ → Found
look_bp b n = whole n 5 (load_bp (get_or b 1 0) (big_endian b 2 3)) 0

-- the VCD and the VAT of a format, as the registers stand; a format counts modulo 8
unfoldable pub descriptor_of : List ℕ → ℕ → Descriptor
descriptor_of cp format = record {
  vcd0 = get_or cp (vcd_place 0) 0;
  vcd1 = get_or cp (vcd_place 1) 0;
  vat0 = get_or cp (vat_place (format % 8) 0) 0;
  vat1 = get_or cp (vat_place (format % 8) 1) 0;
  vat2 = get_or cp (vat_place (format % 8) 2) 0;
}

-- a refusal where there is one
abbrev pub unless_refused : ℕ → Found → Found
unless_refused zero found = found
unless_refused (suc r) found = refused (suc r)

-- "80 to BF: vertex count 16; bits 3 to 5 primitive, low 3 format". The opcode decides 9 and 10
unfoldable pub look_head : ℕ → List ℕ → ℕ → List ℕ → Found
look_head op b n cp =
    unless_refused (refusal_of (descriptor_of cp (op % 8))) (whole n 3 (draw_head (op / 8 % 8) (op % 8) (big_endian b 1 2)) 0)

-- the bytes of a vertex of a format, 0 where its layout is refused
abbrev pub vertex_bytes : List ℕ → ℕ → ℕ
vertex_bytes cp format = length_of (descriptor_of cp format)

-- "each of n vertices is one unit"; in an open draw 9 and 10 need no byte
unfoldable pub look_vertex : ℕ → List ℕ → ℕ → Found
look_vertex n cp format = unless_refused (refusal_of (descriptor_of cp format)) (whole n (vertex_bytes cp format) vertex 0)

-- the opcodes of the indexed loads, and of the draws
abbrev pub is_indexed : ℕ → Bool
is_indexed op = ((eqb op 0x20 || eqb op 0x28) || eqb op 0x30) || eqb op 0x38

abbrev pub is_draw : ℕ → Bool
is_draw op = leb 0x80 op && ltb op 0xC0

-- the table of opcodes; "Accept 44 without effect; 68 now gives refusal 6" (document 02, L2), where document 01 has 68
unfoldable pub by_opcode : ℕ → List ℕ → ℕ → List ℕ → Found
by_opcode op b n cp =
    cond (eqb op 0x00) (whole n 1 no_operation 0)
    (cond (eqb op 0x48) (whole n 1 invalidate_cache 0)
    (cond (eqb op 0x44) (whole n 1 metrics 0)
    (cond (eqb op 0x08) (look_cp b n)
    (cond (eqb op 0x10) (look_xf b n)
    (cond (is_indexed op) (look_indexed op b n cp)
    (cond (eqb op 0x40) (look_call b n)
    (cond (eqb op 0x61) (look_bp b n)
    (cond (is_draw op) (look_head op b n cp)
    (refused 6)))))))))

-- what n bytes begin with: in an open draw a vertex, else a command; where no byte is there, one is lacking
unfoldable pub look_of : List ℕ → ℕ → List ℕ → Draw → Found
look_of b n cp Closed = cond (eqb n 0) (waiting 1) (by_opcode (get_or b 0 0) b n cp)
look_of b n cp (Open primitive format left) = look_vertex n cp format

-- "Worked numbers": the starred ones as one table. One computed test compares what the definitions give with what document 01 says, or
-- document 02 where it corrects it or adds to it.
-- A further row is added to `rows`, and the definitions that it opens to the lines under `worked`.
use Rattle.std.specs.Prelude.{◌≡◌, refl, false, cond, List, [], ◌∷◌, ◌++◌, ℕ, ◌+◌, ◌*◌, ◌^◌, min, length, get_or, set, replicate}
use Rattle.std.proofs.Common.{ap, ◌∙◌}
use Rattle.std.specs.Float.Ieee.{round, to_bits, of_bits}
use Rattle.laws.specs.Values.{up_to}
use Rattle.octets.specs.BigEndian.{big_endian, bytes_of}
use Rattle.component.specs.Component.{component_of}
use Rattle.fields.specs.declared.Descriptor.{Descriptor}
use Rattle.fields.specs.Fields.{bits_at, modes, counts, formats, shifts, mode_of, count_of, format_of}
use Rattle.fields.specs.Fields.{fraction_bits, fraction_of, indices_of}
use Rattle.layout.specs.Sizes.{direct_of, size_of, offset_of, unknown_at, any_unknown}
use Rattle.layout.specs.Answers.{refusal_of, accepted_of, length_of}
use Rattle.vertex.specs.Attributes.{raw_at, component_at, padded_list, component_list, direct_list, attribute_list}
use Rattle.vertex.specs.Answers.{refusal_at, decoding_of}
use Rattle.command.specs.Command.{Found, unit, waiting, refused}
use Rattle.command.specs.declared.Draw.{Draw}
use Rattle.command.specs.declared.Draw.TheVariants.{Closed, Open}
use Rattle.places.specs.Places.{vcd_place, vat_place}
use Rattle.command.specs.Look.{whole, look_cp, xf_words, xf_address, look_xf, descriptor_of, look_vertex, by_opcode, look_of}
use Rattle.effect.specs.Effect.{masked, stored_bp, loaded_bp}
use Rattle.writer.specs.Write.{head_of, words_of, word_bytes, command_bytes}
use Rattle.patch.specs.Patch.{Patch, patch_of, bp_count, merged_of}
use Rattle.patchwriter.specs.Commands.{commands_at, commands_from, commands_of, bytes_of_commands, patch_bytes}
use Rattle.fifo.specs.declared.Fifo.{Fifo}
use Rattle.fifo.specs.Window.{size_limit, valid_by, count_of as countIn}
use Rattle.fifo.specs.Answers.{count_answer}
use Rattle.registers.specs.Registers.{half_of, listed, computed, readable, value_of, read_answer}
use Rattle.running.specs.Run.{run_limit}
use Rattle.recording.specs.Format.{stream_count_at}
use Rattle.recording.specs.Faults.{stream_limit, number_fault}

-- VCD groups 0 and 1, VAT groups 0, 1 and 2
abbrev words : ℕ → ℕ → ℕ → ℕ → ℕ → Descriptor
words vcd0 vcd1 vat0 vat1 vat2 = record { vcd0 = vcd0; vcd1 = vcd1; vat0 = vat0; vat1 = vat1; vat2 = vat2 }

-- a VCD and a VAT of one word each
abbrev named : ℕ → ℕ → Descriptor
named vcd vat = words vcd 0 vat 0 0

-- "VCD ABFF and 5555, all components f32, largest counts, colour format 5": 9 is format 4 with the count bit set, 11 format 5 with it
abbrev largest : Descriptor
largest =
    words 0xABFF 0x5555 (9 + 9 * 2 ^ 9 + 11 * 2 ^ 13 + 11 * 2 ^ 17 + 9 * 2 ^ 21) (9 + 9 * 2 ^ 9 + 9 * 2 ^ 18 + 9 * 2 ^ 27)
    (9 * 2 ^ 5 + 9 * 2 ^ 14 + 9 * 2 ^ 23)

-- "normal of 16-bit indices": its bytes in a layout that is not refused, position by an index of 8 bits
abbrev normal : ℕ → ℕ
normal vat = cond (accepted_of (named 0x1C00 vat)) (size_of (named 0x1C00 vat) 10) 0

-- the first component, by its bits, of a vertex that is a direct position of two components alone:
-- of the format, the shift, bit 30 and the bytes
abbrev first : ℕ → ℕ → ℕ → List ℕ → ℕ
first format shift bit30 bytes = get_or (decoding_of (named 0x200 (2 * format + 16 * shift + bit30 * 2 ^ 30)) 9 bytes) 2 0

-- component i, by its bits, of a direct normal behind a direct position of two bytes: of the count bit, the format, bit 30 and the
-- normal's bytes
abbrev normal_part : ℕ → ℕ → ℕ → List ℕ → ℕ → ℕ
normal_part count format bit30 bytes i =
    get_or (decoding_of (named 0xA00 (count * 2 ^ 9 + format * 2 ^ 10 + bit30 * 2 ^ 30)) 10 (0 ∷ 0 ∷ bytes)) (2 + i) 0

-- what was found as one number: the bytes of the unit, 1000 plus the bytes lacking, or 2000 plus the refusal's number
abbrev found_number : Found → ℕ
found_number (unit c m n) = n
found_number (waiting k) = 1000 + k
found_number (refused r) = 2000 + r

-- the CP registers with vertices of 12 bytes in format 0, a direct position of three f32, and 0 in the others
abbrev twelve_bytes : List ℕ
twelve_bytes = set (set (replicate 60 0) (vcd_place 0) 0x200) (vat_place 0 0) 9

-- what some bytes alone are, with these registers
abbrev alone_bytes : List ℕ → Draw → ℕ
alone_bytes bytes draw = found_number (look_of bytes (length bytes) twelve_bytes draw)

-- BP registers that are zero but for one
abbrev only : ℕ → ℕ → List ℕ
only r n = set (replicate bp_count 0) r n

-- "Start 1000, end 1100, read 10FE, write 1003 (hex)"
abbrev wrapped : Fifo
wrapped =
    record { window = record { start = 0x1000; end = 0x1100; high = 0; low = 0; write = 0x1003; read = 0x10FE }; control = 0 }

-- a ring of some bytes from 0 on that is filled up to a place
abbrev filled_to : ℕ → ℕ → Fifo
filled_to size write =
    record { window = record { start = 0; end = size; high = 0; low = 0; write = write; read = 0 }; control = 0 }

-- the BP registers with a number in 41, a mask in FE and 0 in the others
abbrev holding : ℕ → ℕ → List ℕ
holding n mask = set (set (replicate 256 0) 0x41 n) 0xFE mask

-- a row: what a definition gives, and what the document says
pub data Row : Type 0 where
  row : ℕ → ℕ → Row

-- document 02, L2: with 6, 14, 7 and 15 fraction bits 40, 4000, 80 and 8000 (hex) are 1.0; 80 as s8 is -2.0; bit 30 clear and set give
-- the same; f32 is untouched; the ninth component of a normal of nine; 44 alone is a unit of one byte, and 68 gives 6
unfoldable pub corrected : List Row
corrected =
    row (normal_part 0 1 0 (0x40 ∷ 0 ∷ 0 ∷ []) 0) 0x3F800000
    ∷ row (normal_part 0 1 1 (0x40 ∷ 0 ∷ 0 ∷ []) 0) 0x3F800000
    ∷ row (normal_part 0 1 0 (0x80 ∷ 0 ∷ 0 ∷ []) 0) 0xC0000000
    ∷ row (normal_part 0 0 0 (0x80 ∷ 0 ∷ 0 ∷ []) 0) 0x3F800000
    ∷ row (normal_part 0 0 1 (0x80 ∷ 0 ∷ 0 ∷ []) 0) 0x3F800000
    ∷ row (normal_part 0 3 0 (0x40 ∷ 0 ∷ 0 ∷ 0 ∷ 0 ∷ 0 ∷ []) 0) 0x3F800000
    ∷ row (normal_part 0 2 0 (0x80 ∷ 0 ∷ 0 ∷ 0 ∷ 0 ∷ 0 ∷ []) 0) 0x3F800000
    ∷ row (normal_part 0 4 0 (0x3F ∷ 0x80 ∷ 0 ∷ 0 ∷ 0 ∷ 0 ∷ 0 ∷ 0 ∷ 0 ∷ 0 ∷ 0 ∷ 0 ∷ []) 0) 0x3F800000
    ∷ row (normal_part 1 1 0 (0 ∷ 0 ∷ 0 ∷ 0 ∷ 0 ∷ 0 ∷ 0 ∷ 0 ∷ 0x40 ∷ []) 8) 0x3F800000
    ∷ row (alone_bytes (0x44 ∷ []) Closed) 1
    ∷ row (alone_bytes (0x68 ∷ []) Closed) 2006
    ∷ []

-- document 02, L4: no byte lacks 1; a CP load of one byte 5; 10 00 lacks 3, and five bytes of an XF load of length 3 lack 16, but past
-- 4,184 they give 8; no byte of a vertex of 12 bytes lacks 12
unfoldable pub lacking : List Row
lacking =
    row (alone_bytes [] Closed) 1001
    ∷ row (alone_bytes (0x08 ∷ []) Closed) 1005
    ∷ row (alone_bytes (0x10 ∷ 0x00 ∷ []) Closed) 1003
    ∷ row (alone_bytes (0x10 ∷ 0x00 ∷ 0x03 ∷ 0x00 ∷ 0x00 ∷ []) Closed) 1016
    ∷ row (alone_bytes (0x10 ∷ 0x00 ∷ 0x01 ∷ 0x10 ∷ 0x57 ∷ []) Closed) 2008
    ∷ row (alone_bytes [] (Open 2 0 3)) 1012
    ∷ []

-- document 02, L9: rings of 1,048,544 and 1,048,576 bytes are allowed, one of 1,048,608 gives 1; a ring of 1,048,576 holds 1,048,575,
-- FFFFF (hex), of which 030 tells FFFF and 032 F; a run's limit of 1,048,576 counts as 1,048,575, and a stream of 1,048,576 bytes gives 20
unfoldable pub raised : List Row
raised =
    row (get_or (count_answer (filled_to 1048544 0x12345)) 1 0) 0x12345
    ∷ row (get_or (count_answer (filled_to 1048576 1048575)) 1 0) 0xFFFFF
    ∷ row (get_or (count_answer (filled_to 1048608 0x12345)) 0 0) 1
    ∷ row (get_or (read_answer (filled_to 1048576 1048575) false 0x30) 1 0) 0xFFFF
    ∷ row (get_or (read_answer (filled_to 1048576 1048575) false 0x32) 1 0) 0xF
    ∷ row (min 1048576 run_limit) 1048575
    ∷ row (number_fault stream_limit stream_count_at 1048575) 0
    ∷ row (number_fault stream_limit stream_count_at 1048576) 20
    ∷ []

-- the table, in document 01's order, then what document 02 corrects and adds
unfoldable pub rows : List Row
rows =
    row (get_or (count_answer wrapped) 1 0) 5
    ∷ row (length_of (named 0x200 9)) 12
    ∷ row (length_of (named 0x2200 0x14009)) 16
    ∷ row (length_of largest) 129
    ∷ row (length_of (named 0x400 0)) 1
    ∷ row (normal 0x80000200) 6
    ∷ row (normal 0x80000000) 2
    ∷ row (normal 0x200) 2
    ∷ row (get_or (loaded_bp (loaded_bp (holding 0 0xFFFFFF) 0xFE 0xF0) 0xFE 0x3C) 0xFE 0) 0x30
    ∷ row (get_or (loaded_bp (holding 0x123450 0xF) 0x41 0xA5) 0x41 0) 0x123455
    ∷ row (first 1 6 1 (0x80 ∷ 0 ∷ [])) 0xC0000000
    ∷ row (first 2 16 0 (0xFF ∷ 0xFF ∷ 0 ∷ 0 ∷ [])) 0x3F7FFF00
    ∷ row (first 3 31 0 (0xFF ∷ 0xFF ∷ 0 ∷ 0 ∷ [])) 0xB0000000
    ∷ row (first 0 3 0 (8 ∷ 0 ∷ [])) 0x41000000
    ∷ corrected ++ (lacking ++ raised)

-- the left and the right numbers of a table
unfoldable pub given : List Row → List ℕ
given [] = []
given (row a b ∷ l) = a ∷ given l

unfoldable pub said : List Row → List ℕ
said [] = []
said (row a b ∷ l) = b ∷ said l

pub worked : given rows ≡ said rows
unfolding rows corrected lacking raised given said bits_at modes counts formats shifts mode_of count_of format_of fraction_bits
    fraction_of indices_of direct_of size_of offset_of unknown_at any_unknown refusal_of length_of
    refusal_at attribute_list direct_list component_list padded_list component_at raw_at big_endian component_of up_to round to_bits of_bits
    size_limit valid_by countIn count_answer whole look_cp xf_words xf_address look_xf descriptor_of look_vertex by_opcode look_of
    masked stored_bp loaded_bp half_of listed computed readable value_of read_answer run_limit number_fault
worked = refl

-- ---- the two patches of "Sheets and the writer"

-- a patch of register 41 alone
abbrev alone : ℕ → ℕ → Patch
alone mask n = patch_of (only 0x41 mask) (only 0x41 n)

-- "Mask 00000F and number 000005 at 41, alone, give, whole: 61 FE 00 00 0F 61 41 00 00 05."
pub worked_alone : patch_bytes (alone 0x00000F 0x000005) ≡ 0x61 ∷ 0xFE ∷ 0x00 ∷ 0x00 ∷ 0x0F ∷ 0x61 ∷ 0x41 ∷ 0x00 ∷ 0x00 ∷ 0x05 ∷ []
unfolding patch_bytes commands_of commands_from commands_at bytes_of_commands command_bytes head_of words_of word_bytes bytes_of
worked_alone = refl

merged_alone : merged_of (alone 0x00000F 0x000005) (alone 0x0000F0 0x000030) ≡ alone 0x0000FF 0x000035
unfolding merged_of masked up_to
merged_alone = refl

merged_bytes : patch_bytes (alone 0x0000FF 0x000035) ≡ 0x61 ∷ 0xFE ∷ 0x00 ∷ 0x00 ∷ 0xFF ∷ 0x61 ∷ 0x41 ∷ 0x00 ∷ 0x00 ∷ 0x35 ∷ []
unfolding patch_bytes commands_of commands_from commands_at bytes_of_commands command_bytes head_of words_of word_bytes bytes_of
merged_bytes = refl

-- "Merged with mask 0000F0, number 000030 it gives: 61 FE 00 00 FF 61 41 00 00 35."
pub worked_merged : patch_bytes (merged_of (alone 0x00000F 0x000005) (alone 0x0000F0 0x000030))
    ≡ 0x61 ∷ 0xFE ∷ 0x00 ∷ 0x00 ∷ 0xFF ∷ 0x61 ∷ 0x41 ∷ 0x00 ∷ 0x00 ∷ 0x35 ∷ []
worked_merged = ap patch_bytes merged_alone ∙ merged_bytes

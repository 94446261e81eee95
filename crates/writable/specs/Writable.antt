-- Which commands the writer refuses whatever the output: 18, 7 and 8. A command is its list of numbers, kind and fields.
use Rattle.std.specs.Prelude.{Bool, true, cond, not, ◌&&◌, ◌||◌, List, ℕ, ◌+◌, ◌^◌, leb, ltb, eqb}
use Rattle.command.specs.Command.{kind_of, field_of}
use Rattle.places.specs.Places.{cp_accepted}
use Rattle.command.specs.Look.{xf_count}

-- "command to write is a vertex or has a field out of range": ".. its fields in the widths above, an XF load's words lent beside it,
-- 1 to 16, as many as it names (else 18; ignored for other commands)"
unfoldable pub unwritable : List ℕ → ℕ → Bool
unwritable c lent =
    cond (eqb (kind_of c) 0x01) true
    (cond (eqb (kind_of c) 0x10) (not (leb 1 (field_of c 1) && (leb (field_of c 1) 16 && eqb (field_of c 1) lent)))
    (cond (eqb (kind_of c) 0x20)
    (not ((leb 12 (field_of c 1) && leb (field_of c 1) 15) && ((leb 1 (field_of c 3) && leb (field_of c 3) 16) && ltb (field_of c 4) 4096)))
    (cond (eqb (kind_of c) 0x61) (leb (2 ^ 24) (field_of c 2))
    (eqb (kind_of c) 0x80 && (leb 8 (field_of c 1) || leb 8 (field_of c 2))))))

-- "CP address not above"
unfoldable pub unaddressed : List ℕ → Bool
unaddressed c = eqb (kind_of c) 0x08 && not (cp_accepted (field_of c 1))

-- "XF load past 4,184"
unfoldable pub past_end : List ℕ → Bool
past_end c = eqb (kind_of c) 0x10 && ltb xf_count (field_of c 2 + field_of c 1)

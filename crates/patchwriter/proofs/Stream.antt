-- A queue of the bytes of patches begins with a whole BP load or with a part of one.
use mathlib.Core.Path.{◌≡◌, refl, sym, ap, ◌∙◌}
use mathlib.Core.Logic.{◌⊎◌, inl, inr}
use mathlib.Core.List.{List, [], ◌∷◌, ◌++◌, cons≢nil}
use Prim.Native.Nat.{ℕ, zero, suc, ◌+◌, ◌-◌, ◌^◌, ◌≤◌, ◌<◌}
use native.Mathlib.Omega.{arith}
use lib.ListN.{length, get_or, take, drop, length-append, take-append-drop}
use lib.Seq.{take-append-le, drop-append-le, take_at, drop_at}
use borrow.Author.Tests.{lt-ltb}
use Rattle.std.proofs.lemmas.Bool.{cases_lt}
use Rattle.octets.specs.BigEndian.{big_endian, bytes_of}
use Rattle.octets.proofs.Written.{read_back}
use Rattle.command.specs.Command.{waiting, unit, load_bp}
use Rattle.command.specs.Look.{whole, look_bp, by_opcode, look_of}
use Rattle.command.specs.declared.Draw.{Draw}
use Rattle.command.specs.declared.Draw.TheVariants.{Closed}
use Rattle.command.proofs.Opcodes.{at_opcode}
use Rattle.effect.specs.Effect.{mask_place, cp_after, xf_after, vertex_after, draw_after}
use Rattle.writer.specs.Write.{command_bytes}
use Rattle.writer.proofs.RoundTrip.{bp_back}
use Rattle.patch.specs.Patch.{bp_count, Patch, mask_at, number_at, IsAccepted, AllAccepted}
use Rattle.patchwriter.specs.Commands.{commands_at, commands_from, commands_of, commands_of_all}
use Rattle.patchwriter.specs.Commands.{bytes_of_commands, patch_bytes, bytes_of_patches}
use Rattle.patchwriter.specs.Stream.{IsLoad, AllLoads, lacking, Begins}
use Rattle.patch.proofs.Faults.{Sound, sound, number_small}
use Rattle.patchwriter.proofs.Loads.{load_bytes, load_length, load_cp_lem, load_xf_lem, load_vertex, load_draw}
use Rattle.patchwriter.proofs.Writing.{bytes_append}

-- ---- a load's five bytes

its_bytes : (c : List ℕ) (l : IsLoad c) → command_bytes c [] ≡ 0x61 ∷ l.register ∷ bytes_of 3 l.number
its_bytes c l = ap (λ (x : List ℕ). command_bytes x []) l.load_is ∙ load_bytes l.register l.number

pub five_bytes : (c : List ℕ) → IsLoad c → length (command_bytes c []) ≡ 5
five_bytes c l = ap (λ (x : List ℕ). length (command_bytes x [])) l.load_is ∙ load_length l.register l.number

-- ---- it leaves everything but the BP registers

module _ (c : List ℕ) (l : IsLoad c) where
  pub keeps_cp : (cp : List ℕ) → cp_after c cp ≡ cp
  keeps_cp cp = ap (λ (x : List ℕ). cp_after x cp) l.load_is ∙ load_cp_lem l.register l.number cp

  pub keeps_xf : (bytes xf : List ℕ) → xf_after c bytes xf ≡ xf
  keeps_xf bytes xf = ap (λ (x : List ℕ). xf_after x bytes xf) l.load_is ∙ load_xf_lem l.register l.number bytes xf

  pub keeps_vertex : (bytes buffer : List ℕ) → vertex_after c bytes buffer ≡ buffer
  keeps_vertex bytes buffer =
      ap (λ (x : List ℕ). vertex_after x bytes buffer) l.load_is ∙ load_vertex l.register l.number bytes buffer

  pub keeps_draw : (draw : Draw) → draw_after c draw ≡ draw
  keeps_draw draw = ap (λ (x : List ℕ). draw_after x draw) l.load_is ∙ load_draw l.register l.number draw

-- ---- the commands of accepted patches are loads

pub loads_append : (cs ds : List (List ℕ)) → AllLoads cs → AllLoads ds → AllLoads (cs ++ ds)
loads_append [] ds h k = k
loads_append (c ∷ cs) ds h k = (h.0, loads_append cs ds h.1 k)

at_loads : (r m n : ℕ) → m < 2 ^ 24 → n < 2 ^ 24 → AllLoads (commands_at r m n)
unfolding commands_at
at_loads r zero n h k = tt
at_loads r (suc m) n h k = (
  record { register = mask_place; number = suc m; load_is = refl; narrow = h },
  (record { register = r; number = n; load_is = refl; narrow = k }, tt),
)

from_loads : (p : Patch) → Sound p → (n r : ℕ) → r + n ≤ bp_count → AllLoads (commands_from n r p)
unfolding commands_from
from_loads p s zero r h = tt
from_loads p s (suc n) r h =
    loads_append (commands_at r (mask_at p r) (number_at p r)) (commands_from n (suc r) p)
    (at_loads r (mask_at p r) (number_at p r) (s.small r (omega arith)) (number_small p s r (omega arith)))
    (from_loads p s n (suc r) (omega arith))

pub patch_loads : (p : Patch) → IsAccepted p → AllLoads (commands_of p)
unfolding commands_of
patch_loads p a = from_loads p (sound p a) bp_count 0 (omega arith)

pub patches_loads : (ps : List Patch) → AllAccepted ps → AllLoads (commands_of_all ps)
unfolding commands_of_all
patches_loads [] oks = tt
patches_loads (p ∷ ps) oks = loads_append (commands_of p) (commands_of_all ps) (patch_loads p oks.0) (patches_loads ps oks.1)

-- "the sheets' bytes in order" are those of their commands, one after another
pub patches_bytes : (ps : List Patch) → bytes_of_patches ps ≡ bytes_of_commands (commands_of_all ps)
unfolding bytes_of_patches commands_of_all patch_bytes bytes_of_commands
patches_bytes [] = refl
patches_bytes (p ∷ ps) =
    ap (λ (x : List ℕ). patch_bytes p ++ x) (patches_bytes ps) ∙ sym (bytes_append (commands_of p) (commands_of_all ps))

-- ---- a queue of at least five bytes

module _ (q later cp : List ℕ) where
  whole_first : (c : List ℕ) (cs : List (List ℕ)) → IsLoad c → AllLoads cs → q ++ later ≡ command_bytes c [] ++ bytes_of_commands cs
      → 5 ≤ length q → Begins q later cp (c ∷ cs)
  whole_first c cs load loads e h =
      record {
        command = c;
        others = cs;
        first_is = refl;
        load = load;
        loads = loads;
        look_is = look;
        bytes_are = front;
        rest_is =
            sym (drop-append-le 5 q later h) ∙ ap (λ (x : List ℕ). drop 5 x) e
            ∙ drop_at (command_bytes c []) (bytes_of_commands cs) 5 (five_bytes c load);
      }
    where
      front : take 5 q ≡ command_bytes c []
      front =
          sym (take-append-le 5 q later h) ∙ ap (λ (x : List ℕ). take 5 x) e
          ∙ take_at (command_bytes c []) (bytes_of_commands cs) 5 (five_bytes c load)

      split : q ≡ 0x61 ∷ load.register ∷ (bytes_of 3 load.number ++ drop 5 q)
      split =
          sym (take-append-drop 5 q) ∙ ap (λ (x : List ℕ). x ++ drop 5 q) (front ∙ its_bytes c load)

      look : look_of q (length q) cp Closed ≡ unit c 0 5
      look =
          ap (λ (x : List ℕ). look_of x (length x) cp Closed) split
          ∙ bp_back (drop 5 q) cp load.register load.number load.narrow
          ∙ ap (λ (x : List ℕ). unit x 0 5) (sym load.load_is)

  -- the first command is there whole, and is the unit that a look finds
  pub look_whole : (cs : List (List ℕ)) → AllLoads cs → q ++ later ≡ bytes_of_commands cs → 5 ≤ length q → Begins q later cp cs
  unfolding bytes_of_commands
  look_whole [] loads e h =
      let z : length q + length later ≡ 0 = sym (length-append q later) ∙ ap (λ (x : List ℕ). length x) e in absurd (omega arith)
  look_whole (c ∷ cs) loads e h = whole_first c cs loads.0 loads.1 e h

-- ---- a shorter one

-- a byte in front is the opcode of a load
front_byte : (x : ℕ) (q later : List ℕ) (cs : List (List ℕ)) → AllLoads cs → (x ∷ q) ++ later ≡ bytes_of_commands cs → x ≡ 0x61
unfolding bytes_of_commands
front_byte x q later [] loads e = absurd (cons≢nil e)
front_byte x q later (c ∷ cs) loads e =
    ap (λ (x : List ℕ). get_or x 0 0) (e ∙ ap (λ (x : List ℕ). x ++ bytes_of_commands cs) (its_bytes c loads.0))

part_of_load : (b : List ℕ) (n : ℕ) (cp : List ℕ) → get_or b 0 0 ≡ 0x61 → (n ≡ 0 → ⊥) → n < 5 → look_of b n cp Closed ≡ waiting (5 - n)
unfolding by_opcode look_bp whole
part_of_load b n cp e some h = sym (at_opcode b n cp e some) ∙ rw (lt-ltb n 5 h)

-- it is no byte, or a part of a load: a look waits for what is lacking
pub look_short : (q later cp : List ℕ) (cs : List (List ℕ)) → AllLoads cs → q ++ later ≡ bytes_of_commands cs → length q < 5
    → look_of q (length q) cp Closed ≡ waiting (lacking (length q))
unfolding look_of
look_short [] later cp cs loads e h = refl
look_short (x ∷ q) later cp cs loads e h =
    part_of_load (x ∷ q) (length (x ∷ q)) cp (front_byte x q later cs loads e) (λ z. omega arith) h
    ∙ ap waiting (omega arith)

-- either one or the other
pub look_either : (q later cp : List ℕ) (cs : List (List ℕ)) → AllLoads cs → q ++ later ≡ bytes_of_commands cs
    → Begins q later cp cs ⊎ ((length q < 5) × (look_of q (length q) cp Closed ≡ waiting (lacking (length q))))
look_either q later cp cs loads e = elim (cases_lt (length q) 5) [
  | inl h ↦ inr (h, look_short q later cp cs loads e h)
  | inr h ↦ inl (look_whole q later cp cs loads e h)
]

-- ---- loads are told apart by their bytes

same_number : (r n r' n' : ℕ) (y y' : List ℕ) → n < 2 ^ 24 → n' < 2 ^ 24
    → 0x61 ∷ r ∷ (bytes_of 3 n ++ y) ≡ 0x61 ∷ r' ∷ (bytes_of 3 n' ++ y') → n ≡ n'
same_number r n r' n' y y' h h' e =
    sym (read_back (0x61 ∷ r ∷ []) 3 n y h) ∙ ap (λ (x : List ℕ). big_endian x 2 3) e ∙ read_back (0x61 ∷ r' ∷ []) 3 n' y' h'

same_load : (c d x y : List ℕ) → IsLoad c → IsLoad d → command_bytes c [] ++ x ≡ command_bytes d [] ++ y → c ≡ d
same_load c d x y l k e =
    let f : 0x61 ∷ l.register ∷ (bytes_of 3 l.number ++ x) ≡ 0x61 ∷ k.register ∷ (bytes_of 3 k.number ++ y) =
    ap (λ (z : List ℕ). z ++ x) (sym (its_bytes c l)) ∙ e ∙ ap (λ (z : List ℕ). z ++ y) (its_bytes d k) in
    let r : l.register ≡ k.register = ap (λ (z : List ℕ). get_or z 1 0) f in
    let n : l.number ≡ k.number = same_number _ _ _ _ x y l.narrow k.narrow f in
    l.load_is ∙ ap (λ (z : ℕ). load_bp z l.number) r ∙ ap (λ (z : ℕ). load_bp k.register z) n ∙ sym k.load_is

some_byte : (c : List ℕ) (cs : List (List ℕ)) → IsLoad c → [] ≡ command_bytes c [] ++ bytes_of_commands cs → ⊥
some_byte c cs l e =
    let z : 0 ≡ 5 + length (bytes_of_commands cs) =
    ap (λ (x : List ℕ). length x) e ∙ length-append (command_bytes c []) (bytes_of_commands cs)
    ∙ ap (λ (x : ℕ). x + length (bytes_of_commands cs)) (five_bytes c l) in
    omega arith

-- the loads with given bytes are given
pub bytes_injective : (cs ds : List (List ℕ)) → AllLoads cs → AllLoads ds → bytes_of_commands cs ≡ bytes_of_commands ds → cs ≡ ds
unfolding bytes_of_commands
bytes_injective [] [] h k e = refl
bytes_injective [] (d ∷ ds) h k e = absurd (some_byte d ds k.0 e)
bytes_injective (c ∷ cs) [] h k e = absurd (some_byte c cs h.0 (sym e))
bytes_injective (c ∷ cs) (d ∷ ds) h k e =
    let first : c ≡ d = same_load c d (bytes_of_commands cs) (bytes_of_commands ds) h.0 k.0 e in
    let rest : bytes_of_commands cs ≡ bytes_of_commands ds =
    sym (drop_at (command_bytes c []) (bytes_of_commands cs) 5 (five_bytes c h.0))
    ∙ ap (λ (x : List ℕ). drop 5 x) e
    ∙ drop_at (command_bytes d []) (bytes_of_commands ds) 5 (five_bytes d k.0) in
    ap (λ (x : List ℕ). x ∷ cs) first ∙ ap (λ (x : List (List ℕ)). d ∷ x) (bytes_injective cs ds h.1 k.1 rest)

-- `writer::heads::head_call` meets its contract: its bytes are the definition's, byte by byte.
use mathlib.Core.Path.{refl}
use lib.Dec.{lit≤}
use Rattle.octets.specs.BigEndian.{bytes_of}
use Rattle.writer.specs.Write.{head_of}
use Rattle.writer.proofs.Bytes.{second_byte, third_byte}
use Rattle.writer.proofs.heads.head_call.Goals as goal

pub returns : goal.returns
unfolding head_of bytes_of
returns c =
    let a = c.args in
    record {
      bytes_are = rw (
        c.to_be_bytes.ensures,
        third_byte a.address,
        second_byte a.address,
        c.to_be_bytes-2.ensures,
        third_byte a.size,
        second_byte a.size,
      ) refl;
      length_is = refl;
      most = lit≤ tt;
    }

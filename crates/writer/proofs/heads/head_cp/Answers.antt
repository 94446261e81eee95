-- `writer::heads::head_cp` meets its contract: its bytes are the definition's, byte by byte.
use mathlib.Core.Path.{refl}
use lib.Dec.{lit≤}
use Rattle.octets.specs.BigEndian.{bytes_of}
use Rattle.writer.specs.Write.{head_of}
use Rattle.writer.proofs.Bytes.{second_byte, third_byte}
use Rattle.writer.proofs.heads.head_cp.Goals as goal

pub returns : goal.returns
unfolding head_of bytes_of
returns c = record {
  bytes_are = rw (c.to_be_bytes.ensures, third_byte c.args.number, second_byte c.args.number) refl;
  length_is = refl;
  most = lit≤ tt;
}

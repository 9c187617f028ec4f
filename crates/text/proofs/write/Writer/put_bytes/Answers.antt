-- `Writer::put_bytes` meets its contract: the part that is written has room for all of the bytes.
use Rattle.std.proofs.Common.{refl, arith}
use Rattle.text.specs.PutsLaws.{part_sets}
use Rattle.text.proofs.write.Writer.put_bytes.Goals as goal

pub returns : goal.returns
returns c = record {
  same_reference = refl;
  wrote = record { room = c.requires; holds = part_sets _ _ _ _ _ c.copy_from_slice.ensures.after (omega arith) (omega arith); ends = refl };
}

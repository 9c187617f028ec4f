use Rattle.std.proofs.Common.{◌<◌, length, arith}
use Rattle.table.proofs.Search.{hit}
use Rattle.choose.proofs.Held.{byte_at, byte_found, byte_none}
use Rattle.choose.proofs.fixed.check_bytes.Goals as goal

pub returns-then-bad_byte : goal.returns-then-bad_byte
returns-then-bad_byte c =
    let a = c.args in
    let h : c.loop-f.f < length a.sizes.now = omega arith in
    byte_found _ _ _ c.loop-f.invariant h (hit (byte_at _ a.fixed.now _ _ _ c.field_size.ensures c.bad_byte.ensures) c.if-bad_byte.true)

pub returns : goal.returns
returns c = byte_none _ _ _ c.loop-f.invariant (omega arith)

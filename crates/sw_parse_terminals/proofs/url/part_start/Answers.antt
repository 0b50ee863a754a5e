use Rattle.std.proofs.Common.{◌<◌, ◌≡◌, length, get_or, refl, arith}
use Rattle.sw_parse_terminals.proofs.Texts.{boundary_start, boundary_behind, part_step}
use Rattle.sw_parse_terminals.proofs.url.part_start.Goals as goal

pub bytes-init : goal.bytes-init
bytes-init c = record { start = refl; boundary = boundary_start c.args.url.now c.utf8.url }

pub bytes-preserved : goal.bytes-preserved
bytes-preserved c =
    let l : c.bytes.at < length c.args.url.now = rw c.as_bytes-byte-items.ensures.value at c.bytes-test.true in
    let e : get_or c.args.url.now c.bytes.at 0 ≡ 47 = rw c.as_bytes-byte-items.ensures.value at c.if-byte-ne47.false in
    record {
      start = part_step c.args.url.now c.bytes.start c.bytes.at l e c.bytes.invariant.start;
      boundary = boundary_behind c.args.url.now c.bytes.at c.utf8.url l 47 e (omega arith);
    }

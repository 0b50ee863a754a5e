use Rattle.std.proofs.Common.{◌≡◌, ◌++◌, drop, take, length}
use Rattle.sw_wire.specs.Replies.{ran_text}
use Rattle.sw_wire.proofs.reply.write_ran.Given as goal

abbrev pub invariant-loop-path : goal.invariant-loop-path
invariant-loop-path l = record {
  all : l.out.items ++ ran_text (drop l.path-index l.ran) ≡ l.initial.out.items ++ ran_text l.ran;
  front : take (length l.initial.out.items) l.out.items ≡ l.initial.out.items;
}

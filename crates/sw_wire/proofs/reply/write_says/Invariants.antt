use Rattle.std.proofs.Common.{◌≡◌, ◌++◌, drop, take, length}
use Rattle.sw_wire.specs.Replies.{says_text}
use Rattle.sw_wire.proofs.reply.write_says.Given as goal

abbrev pub invariant-loop-saying : goal.invariant-loop-saying
invariant-loop-saying l = record {
  all : l.out.items ++ says_text (drop l.saying-index l.says) ≡ l.initial.out.items ++ says_text l.says;
  front : take (length l.initial.out.items) l.out.items ≡ l.initial.out.items;
}

use Rattle.std.proofs.Common.{◌≡◌, ◌++◌, drop, take, length}
use Rattle.sw_wire.specs.StepReplies.{times_text}
use Rattle.sw_wire.proofs.step_reply.write_times.Given as goal

abbrev pub invariant-loop-path : goal.invariant-loop-path
invariant-loop-path l = record {
  all : l.out.items ++ times_text (drop l.path-index l.times) ≡ l.initial.out.items ++ times_text l.times;
  front : take (length l.initial.out.items) l.out.items ≡ l.initial.out.items;
}

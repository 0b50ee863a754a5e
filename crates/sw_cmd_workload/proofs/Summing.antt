-- The summary of what was counted.
use Rattle.std.proofs.Common.{◌≡◌, ℕ, ◌+◌, List, [], ◌++◌, sym, ap, ◌∙◌, subst, arith}
use Rattle.std.specs.declared.option.Option.{Option}
use Rattle.std.specs.Io.KnownBytes.{Appends}
use Rattle.std.proofs.lemmas.List.{append-nil}
use Rattle.sw_modules.specs.Fresh.{Setting}
use Rattle.sw_record.specs.declared.reply.Reply.{Reply}
use Rattle.sw_cmd_protocol.specs.Heard.{Hearing}
use Rattle.sw_cmd_workload.specs.Texts.{parts_of, summary}
use Rattle.sw_cmd_workload.specs.declared.ending.Ending.{Ending}
use Rattle.sw_cmd_workload.specs.declared.ending.Ending.TheVariants.{Summed, SinkFailed, Memory}
use Rattle.sw_cmd_workload.specs.declared.tally.Tally.{Tally}
use Rattle.sw_cmd_workload.specs.Made.{paths_in, bodies_in, summary_of}
use Rattle.sw_cmd_workload.specs.Ends.{Standing, Counts, EndsBy, WritesBy}

module _ {State : Type 0} (setting : Setting) (number : ℕ) (hears : Hearing Reply State) (tally : Tally) (before now : Standing State) (written written_now : Option (List ℕ))
    (c : Counts setting number 51 hears tally before now) where
  same : summary (parts_of number + 2) tally.ran tally.css ≡ summary_of number c.compiles.replies
  same = ap (λ n. summary (parts_of number + 2) n tally.css) c.ran ∙ ap (λ n. summary (parts_of number + 2) (bodies_in c.compiles.replies) n) c.css

  pub sums : (ending : Ending) → WritesBy ending (summary (parts_of number + 2) tally.ran tally.css) written written_now → EndsBy ending setting number hears before now written written_now
  sums Summed w = record { compiles = c.compiles; sends = subst (λ (x : List ℕ). Appends written written_now x) same w }
  sums SinkFailed (front, back, e, w) = record { compiles = c.compiles; front = front; back = back; parts = sym same ∙ e; sends = w }
  sums Memory w = (
    record {
      turns = 51;
      few = omega arith;
      replies = c.compiles.replies;
      are = c.compiles.are;
      more = [];
      told = c.compiles.told ∙ sym (append-nil (before.ran ++ paths_in c.compiles.replies));
      heard = c.compiles.heard;
    },
    w,
  )

use Rattle.std.proofs.Common.{ap, ◌∙◌}
use Rattle.sw_keeper.specs.Keeping.{Keeping}
use Rattle.sw_cmd_workload.specs.Texts.{main_text}
use Rattle.sw_cmd_workload.proofs.Parts.{all_made}
use Rattle.sw_cmd_workload.proofs.workload.folder_made.Goals as goal

pub returns-clause-folder : goal.returns-clause-folder
returns-clause-folder g c =
    all_made c.args.number c.new-keeper.result.folder c.put.new.keeper.folder c.put_parts.new.keeper.folder c.put-2.new.keeper.folder c.as_str.result.now
    (ap (λ (k : Keeping). k.folder) c.new-keeper.ensures) c.in_ok-put.ensures.folder c.in_ok-put_parts.ensures.folder
    (c.as_str.ensures.value ∙ c.in_ok-text.ensures ∙ ap main_text c.parts_of.ensures) c.in_ok-put-2.ensures.folder

use Rattle.std.proofs.Common.{◌≡◌, ◌++◌, [], codes, sym, ap, ◌∙◌, append_assoc, string_bytes}
use Rattle.sw_folder.specs.Resolution.{both, first_choice, inside, name_groups}
use Rattle.sw_folder.proofs.Choices.{front_found, front_fault, front_next, group_last, groups-extension, groups-none}
use Rattle.sw_folder.proofs.folder.Folder.named.Goals as goal

pub returns-then-has_extension : goal.returns-then-has_extension
returns-then-has_extension c =
    let folder = string_bytes c.args.folder in
    rw (groups-extension folder c.args.name.now (sym c.if-has_extension.ensures))
    (group_last c.args.self.now (both folder c.args.name.now []) [] c.both.result (rw c.as_str.ensures.value at c.both.ensures))

pub returns-in-Ok-None : goal.returns-in-Ok-None
returns-in-Ok-None c =
    let folder = string_bytes c.args.folder in
    let name = c.args.name.now in
    let text : c.as_str-in-Ok-None.result.now ≡ inside folder name
    = c.as_str-in-Ok-None.ensures.value ∙ c.in_ok-push_str-in-Ok-None-2.ensures.bytes ∙ ap (λ t. t ++ codes "/") c.in_ok-push_str-in-Ok-None.ensures.bytes ∙ append_assoc folder name (codes "/") in
    let nothing = rw c.in-Ok-None.field-0-is at c.in-Ok-None.ensures in
    rw (groups-none folder name (sym c.if-has_extension.ensures))
    (front_next c.args.self.now (name_groups folder name) (name_groups (inside folder name) (codes "index")) c.without_extension-in-Ok-None.result
    (rw c.as_str-2.ensures.value at nothing) (rw text at c.without_extension-in-Ok-None.ensures))

pub returns-in-Ok-Some : goal.returns-in-Ok-Some
returns-in-Ok-Some c =
    let folder = string_bytes c.args.folder in
    let name = c.args.name.now in
    let found = rw c.in-Ok-Some.field-0-is at c.in-Ok-Some.ensures in
    ap (first_choice c.args.self.now) (groups-none folder name (sym c.if-has_extension.ensures))
    ∙ front_found c.args.self.now (name_groups folder name) (name_groups (inside folder name) (codes "index")) c.in-Ok-Some.found (rw c.as_str-2.ensures.value at found)

pub returns : goal.returns
returns c =
    let folder = string_bytes c.args.folder in
    let name = c.args.name.now in
    rw (groups-none folder name (sym c.if-has_extension.ensures))
    (front_fault c.args.self.now (name_groups folder name) (name_groups (inside folder name) (codes "index")) c.in-Err.fault (rw c.as_str-2.ensures.value at c.in-Err.ensures))

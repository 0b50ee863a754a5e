-- The printed outputs of bodies.
use Rattle.std.proofs.Common.{◌≡◌, ℕ, List, [], ◌∷◌, ◌++◌, map, refl, sym, ◌∙◌, ap}
use Rattle.std.proofs.lemmas.List.{map-append}
use Rattle.sw_css_tree.specs.Output.{Output}
use Rattle.sw_css_print.specs.declared.part.Printed.{Printed}
use Rattle.sw_css_print.specs.Page.{print}
use Rattle.sw_css_print.specs.Parts.{print_one}
use Rattle.sw_world.specs.declared.end.End.{End}
use Rattle.sw_world.specs.declared.end.End.TheVariants.{Done}
use Rattle.sw_world.specs.declared.end.Finish.{Finish}
use Rattle.sw_record.specs.declared.reply.Outcome.TheVariants.{Css}
use Rattle.sw_modules.specs.State.{State}
use Rattle.sw_modules.specs.Loads.{left_by}
use Rattle.sw_step_bodies.specs.Compiled.{outcome_of}

printed_each : (ended : List Finish) → map (λ (finish : Finish). print_one finish.css) ended ≡ map print_one (map (λ (finish : Finish). finish.css) ended)
printed_each [] = refl
printed_each (finish ∷ ended) = ap (λ (l : List Printed). print_one finish.css ∷ l) (printed_each ended)

-- those of the bodies that ended, and then that of the entry's
printed_all : (ended : List Finish) (finish : Finish) (outputs : List Output) → map (λ (finish : Finish). finish.css) ended ≡ outputs
    → map (λ (finish : Finish). print_one finish.css) ended ++ print_one finish.css ∷ [] ≡ map print_one (outputs ++ finish.css ∷ [])
printed_all ended finish outputs are =
    ap (λ (l : List Printed). l ++ print_one finish.css ∷ []) (printed_each ended ∙ ap (λ (l : List Output). map print_one l) are)
    ∙ sym (map-append print_one outputs (finish.css ∷ []))

-- the page of an entry that ended well
pub outcome_done : (end : End) (finish : Finish) (live : State) (ended : List Finish) (parts : List Printed) (bytes : List ℕ) → end ≡ Done finish → map (λ (finish : Finish). finish.css) ended ≡ live.outputs
    → parts ≡ map (λ (finish : Finish). print_one finish.css) ended ++ print_one finish.css ∷ [] → ((trees : List Output) → parts ≡ map print_one trees → bytes ≡ print trees)
    → Css bytes ≡ outcome_of end (left_by end live).outputs
outcome_done end finish live ended parts bytes is outputs are joins =
    ap Css (joins (live.outputs ++ finish.css ∷ []) (are ∙ printed_all ended finish live.outputs outputs))
    ∙ sym (ap (λ (e : End). outcome_of e (left_by e live).outputs) is)

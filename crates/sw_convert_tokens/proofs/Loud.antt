-- A token that the grammar sees is no comment, or begins a loud one.
use Rattle.std.proofs.Common.{◌≡◌, false, List, [], ◌∷◌, subst}
use Rattle.sw_parse_terminals.specs.declared.terminal.Terminal.{Terminal}
use Rattle.sw_parse_terminals.specs.declared.terminal.Terminal.TheVariants as terminals
use Rattle.sw_parse_lexemes.specs.declared.sort.Sort.{Sort}
use Rattle.sw_parse_lexemes.specs.Classes.{is_comment}
use Rattle.sw_convert_tokens.specs.Joints.{IsSeen}

pub seen_by : (sort : Sort) (may_be : List Terminal) → is_comment sort ≡ false → IsSeen sort may_be
seen_by sort (terminals.CommentWhole ∷ []) e = tt
seen_by sort (terminals.CommentTemplate ∷ []) e = tt
seen_by sort _ e = e

-- what is written as no terminal is none
pub no_unseen : (sort : Sort) (may_be : List Terminal) → may_be ≡ [] → IsSeen sort may_be → is_comment sort ≡ false
no_unseen sort may_be e it = subst (IsSeen sort) e it

-- What statements are nested in.
use Rattle.std.specs.Prelude.{Bool, true, false, ◌||◌, None}
use Rattle.sw_eval_state.specs.declared.nesting.Nesting.{Nesting}
use Rattle.sw_eval_state.specs.declared.nesting.Rules.{Rules}
use Rattle.sw_eval_state.specs.declared.nesting.Rules.TheVariants as R

-- at the top level
abbrev pub at_top : Nesting
at_top = record {
  parents = None;
  prefix = None;
  rules = R.Nested;
  media = None;
  in_rule = false;
  in_at_rule = false;
}

-- lines may stand there
abbrev pub takes_lines : Nesting → Bool
takes_lines n = n.in_rule || n.in_at_rule

-- selectors without `&` stand by themselves
abbrev pub is_at_root : Rules → Bool
is_at_root R.Nested = false
is_at_root R.AtRoot = true
is_at_root R.Keyframes = false

abbrev pub are_keyframes : Rules → Bool
are_keyframes R.Nested = false
are_keyframes R.AtRoot = false
are_keyframes R.Keyframes = true

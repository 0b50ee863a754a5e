-- Calls whose arguments are bound: where a callable's code stands (the Sass specification on mixins and functions; the order
-- in which what is wrong with a call is told, and the places of faults, are this project's own).
use Rattle.std.specs.Prelude.{Bool, not, ◌&&◌, if◌then◌else◌, Option, None, Ok}
use Rattle.std.specs.Option.{is_some}
use Rattle.sw_text.specs.declared.fault.FaultCode.TheVariants as C
use Rattle.sw_text.specs.declared.place.Span.{Span}
use Rattle.sw_tree.specs.declared.callable.Callable.{Callable}
use Rattle.sw_tree.specs.declared.callable.Content.{Content}
use Rattle.sw_scope.specs.declared.passed.Passed.{Passed}
use Rattle.sw_eval_literals.specs.Answers.{Answer, with}
use Rattle.sw_eval_questions.specs.Talk.{Gives, Fails, bind}
use Rattle.sw_eval_questions.specs.Asking.{fault}
use Rattle.sw_eval_questions.specs.Refusals.{answer}
use Rattle.sw_eval_calls.specs.Contents.{block_has}
use Rattle.sw_eval_calls.specs.Passing.{Slots, bound}
use Rattle.sw_eval_state.specs.Callables.{function_here, mixin_here, here_of, content_of}
use Rattle.sw_eval_state.specs.Eval.{Eval}
use Rattle.sw_eval_state.specs.declared.here.Block.{Block, out-Block}
use Rattle.sw_eval_state.specs.declared.entries.Entry.{Entry}
use Rattle.sw_eval_state.specs.declared.entries.Found.{Found}
use Rattle.sw_eval_state.specs.declared.state.State.{State}

-- a function's code stands on the top of its module
unfoldable pub function_entry : Found → Passed → Span → Answer Entry
function_entry f p span =
    with (bound f.callable.params p span)
    (λ slots. Ok (record { here = function_here f.site; mark = None; slots = slots }))

-- a content block's where it is written
unfoldable pub block_entry : Block → Passed → Span → Answer Entry
block_entry b p span =
    with (bound (out-Block b).content.params p span)
    (λ slots. Ok (record { here = here_of b; mark = (out-Block b).mark; slots = slots }))

-- a content block is passed to a mixin that has no `@content`
abbrev pub is_lost : Option Content → Callable → Bool
is_lost content mixin = is_some content && not (block_has mixin.block)

-- a mixin's code stands on the top of its module; the content block that it is given is written here
abbrev pub given_entry : Found → Option Content → Slots → State → Entry
given_entry f content slots s =
    record { here = mixin_here f.site (content_of content s); mark = None; slots = slots }

unfoldable pub mixin_entry : Found → Option Content → Passed → Span → Eval Entry
mixin_entry f content p span s =
    if is_lost content f.callable then Fails (fault C.ArgumentFault span)
    else bind (answer (bound f.callable.params p span) s)
    (λ slots. Gives (given_entry f content slots.0 slots.1, slots.1))

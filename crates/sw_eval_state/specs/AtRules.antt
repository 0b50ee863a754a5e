-- At-rules with blocks and without (the Sass specification on at-rules; limits and the places of faults are this project's
-- own).
use Rattle.std.specs.Prelude.{ℕ, Bool, true, false, codes, if◌then◌else◌, List, [], ◌∷◌, length, Option, Some, None, Result, Ok, Err}
use Rattle.sw_text.specs.declared.fault.FaultCode.{FaultCode}
use Rattle.sw_text.specs.declared.fault.FaultCode.TheVariants as C
use Rattle.sw_text.specs.declared.place.Span.{Span}
use Rattle.sw_text_scan.specs.Pieces.{piece}
use Rattle.sw_scope.specs.Bind.{is_empty}
use Rattle.sw_media.specs.declared.fault.MediaFault.{MediaFault}
use Rattle.sw_media.specs.declared.fault.MediaFault.TheVariants as M
use Rattle.sw_media.specs.declared.query.Query.{Query}
use Rattle.sw_media.specs.Joining.{join_by}
use Rattle.sw_media.specs.Reading.{queries_of}
use Rattle.sw_media.specs.Writing.{queries_text}
use Rattle.sw_css_tree.specs.declared.block.Line.TheVariants as L
use Rattle.sw_css_tree.specs.Output.{lined, imported, left_rules, at_opened, bubbled, is_keyframes}
use Rattle.sw_eval_questions.specs.Talk.{Gives, Fails, bind}
use Rattle.sw_eval_questions.specs.Asking.{fault}
use Rattle.sw_eval_state.specs.Eval.{Eval}
use Rattle.sw_eval_state.specs.Output.{output_is}
use Rattle.sw_eval_state.specs.Rules.{nested}
use Rattle.sw_eval_state.specs.declared.nesting.Nesting.{Nesting}
use Rattle.sw_eval_state.specs.declared.nesting.Rules.{Rules}
use Rattle.sw_eval_state.specs.declared.nesting.Rules.TheVariants as R
use Rattle.sw_eval_state.specs.declared.state.State.{State}

-- ---- `@media`

abbrev pub Queries : Type 0
Queries = List Query

-- queries, or why there are none
abbrev pub Asked : Type 0
Asked = Result Queries MediaFault

-- the faults of queries; none of their meanings is want of memory
abbrev pub media_code : MediaFault → FaultCode
media_code M.BadQuery = C.Syntax
media_code M.MediaJoin = C.MediaJoin
media_code M.TooLarge = C.TooLarge
media_code M.Memory = C.TooLarge

-- joined with those around them, where there are any
abbrev pub joined_in : Option Queries → Queries → Asked
joined_in None queries = Ok queries
joined_in (Some outer) queries = join_by outer queries

abbrev pub read_in : Option Queries → Asked → Asked
read_in outer (Ok queries) = joined_in outer queries
read_in outer (Err why) = Err why

abbrev pub media_by : Option Queries → List ℕ → Asked
media_by outer text = read_in outer (queries_of text)

abbrev pub queries_by : Span → Asked → Eval Queries
queries_by span (Ok queries) s = Gives (queries, s)
queries_by span (Err why) s = Fails (fault (media_code why) span)

-- the queries of a `@media` here, whose text stands here
unfoldable pub media_queries : List ℕ → Span → Eval Queries
media_queries text span s = queries_by span (media_by s.nesting.media text) s

-- it takes the place of the one around it
unfoldable pub media_put : List ℕ → List ℕ → Span → Eval (Unit {0})
media_put name prelude span s = output_is (bubbled s.css name prelude) span s

abbrev pub in_media : Queries → Nesting → Nesting
in_media queries n = record n { media = Some queries; in_at_rule = true }

-- a `@media` with these queries is open
unfoldable pub media_opened : Queries → Span → Eval (Unit {0})
media_opened queries span s =
    bind (media_put (codes "media") (queries_text queries) span s)
    (λ u. Gives (tt, nested (in_media queries u.1.nesting) u.1))

-- one whose queries have this text, which stands at the first place; the statement stands at the second. It isn't open
-- where no query is left of it and those around it
unfoldable pub media_entered : List ℕ → Span → Span → Eval Bool
media_entered text text_span span s =
    bind (media_queries text text_span s)
    (λ q. if is_empty q.0 then Gives (false, q.1) else bind (media_opened q.0 span q.1) (λ u. Gives (true, u.1)))

-- ---- others

-- the name without its `@`
unfoldable pub bare_name : List ℕ → List ℕ
bare_name name = piece name 1 (length name)

unfoldable pub at_put : List ℕ → List ℕ → Span → Eval (Unit {0})
at_put name prelude span s = output_is (at_opened s.css name prelude) span s

-- keyframes have selectors of their own
abbrev pub in_at_rule : Bool → Nesting → Nesting
in_at_rule true n = record n { parents = None; rules = R.Keyframes; in_at_rule = true }
in_at_rule false n = record n { in_at_rule = true }

-- an at-rule with a block is open
unfoldable pub at_entered : List ℕ → List ℕ → Span → Eval (Unit {0})
at_entered name prelude span s =
    bind (at_put name prelude span s) (λ u. Gives (tt, nested (in_at_rule (is_keyframes name) u.1.nesting) u.1))

-- one without a block is a line where it stands
unfoldable pub at_lined : List ℕ → List ℕ → Span → Eval (Unit {0})
at_lined name prelude span s = output_is (lined s.css (L.At name prelude)) span s

-- ---- `@at-root` without a selector

abbrev pub at_root : Rules → Rules
at_root R.Nested = R.AtRoot
at_root R.AtRoot = R.AtRoot
at_root R.Keyframes = R.Keyframes

abbrev pub in_root : Nesting → Nesting
in_root n = record n { in_rule = false; rules = at_root n.rules }

-- no rule is around what follows, but the at-rules are
unfoldable pub root_entered : State → State
root_entered s = nested (in_root s.nesting) (record s { css = left_rules s.css })

-- ---- plain CSS imports

unfoldable pub imported_one : List ℕ → Span → Eval (Unit {0})
imported_one text span s = output_is (imported s.css text) span s

abbrev pub imported_all : List (List ℕ) → Span → Eval (Unit {0})
imported_all [] span s = Gives (tt, s)
imported_all (text ∷ texts) span s = bind (imported_one text span s) (λ u. imported_all texts span u.1)

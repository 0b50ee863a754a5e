-- What the table derives as statements are statements.
use Rattle.std.proofs.Common.{◌≡◌, ℕ, suc, List, [], ◌∷◌, ◌++◌, map, inl, inr, refl, sym, ◌∙◌, ap}
use Rattle.std.proofs.lemmas.List.{map-append}
use Rattle.sw_parse_grammar.specs.Grammar.{Grammar, alt, seq, skip, build, DerivesIn, Derives, Row, done, then}
use Rattle.sw_tree.specs.declared.statement.Statement.{Statement}
use Rattle.sw_tree.specs.declared.statement.Level.{Level}
use Rattle.sw_tree.specs.declared.callable.Kind.{Kind}
use Rattle.sw_tree.specs.declared.callable.Mixin.{Mixin}
use Rattle.sw_tree.specs.declared.callable.Params.{Params}
use Rattle.sw_parse_table.specs.declared.source.Source.{Source}
use Rattle.sw_parse_table.specs.Parts.{Part, Place, Behind, Texts, Owns, Arguments, Values, Parameters, Includes, Blocks, States, Form, Whole, statements_of}
use Rattle.sw_parse_table.specs.Sources.{text_of}
use Rattle.sw_parse_table.specs.Actions.{to_set, to_assigned, to_declaration, to_custom, to_rule, to_supports, to_media, to_at_root, to_at_rule, to_import, to_extend, to_charset, to_comment, to_use, to_forward, to_callable, include_end, to_include, to_content, to_return, to_say, to_if, each_of, to_for, to_while}
use Rattle.sw_parse_table.specs.Statements.{finish, set, assigned, declaration, custom, rule, supports, at_root, at, import, extend, charset, comment, use_, forward, function, mixin, include, content, return, warn, debug, error, if_, each, for_, while_, media, plain_statement, load_statement, member_statement, flow_statement, css_statement, statement}
use Rattle.sw_parse_table.specs.Table.{forms}

-- these parts are statements
abbrev pub AreStates : List Part → Type 0
AreStates parts = (statements : List Statement) × (parts ≡ map States statements)

none : AreStates []
none = ([], refl)

one : (statement : Statement) → AreStates (States statement ∷ [])
one statement = (statement ∷ [], refl)

append_states : (u v : List Part) → AreStates u → AreStates v → AreStates (u ++ v)
append_states u v a b = (
  a.0 ++ b.0,
  ap (λ (x : List Part). x ++ v) a.1 ∙ ap (λ (x : List Part). map States a.0 ++ x) b.1
      ∙ sym (map-append States a.0 b.0),
)

same_states : (u w : List Part) → w ≡ u → AreStates u → AreStates w
same_states u w e a = (a.0, e ∙ a.1)

pub statements_of_map : (statements : List Statement) → statements_of (map States statements) ≡ statements
statements_of_map [] = refl
statements_of_map (s ∷ statements) = ap (λ (x : List Statement). s ∷ x) (statements_of_map statements)

-- what an action builds
module _ (source : Source) where
  set_states : (i j : ℕ) (parts : List Part) → AreStates (to_set source i j parts)
  set_states i j (Place n ∷ Values v ∷ fs) = one _
  set_states i j _ = none

  assigned_states : (i j : ℕ) (parts : List Part) → AreStates (to_assigned source i j parts)
  assigned_states i j (Owns t s ∷ Values v ∷ fs) = one _
  assigned_states i j _ = none

  declaration_states : (i j : ℕ) (parts : List Part) → AreStates (to_declaration source i j parts)
  declaration_states i j (Texts p ∷ Behind h ∷ Blocks b ∷ []) = one _
  declaration_states i j (Texts p ∷ Behind h ∷ Values v ∷ Behind e ∷ []) = one _
  declaration_states i j (Texts p ∷ Behind h ∷ Values v ∷ Behind e ∷ Blocks b ∷ []) = one _
  declaration_states i j _ = none

  custom_states : (i j : ℕ) (parts : List Part) → AreStates (to_custom source i j parts)
  custom_states i j (Texts p ∷ []) = one _
  custom_states i j (Texts p ∷ Texts v ∷ []) = one _
  custom_states i j _ = none

  rule_states : (i j : ℕ) (parts : List Part) → AreStates (to_rule source i j parts)
  rule_states i j (Texts t ∷ Behind h ∷ Blocks b ∷ []) = one _
  rule_states i j _ = none

  supports_states : (i j : ℕ) (parts : List Part) → AreStates (to_supports source i j parts)
  supports_states i j (Texts t ∷ Behind h ∷ Blocks b ∷ []) = one _
  supports_states i j _ = none

  media_states : (i j : ℕ) (parts : List Part) → AreStates (to_media source i j parts)
  media_states i j (Texts t ∷ Behind h ∷ Blocks b ∷ []) = one _
  media_states i j _ = none

  at_root_states : (i j : ℕ) (parts : List Part) → AreStates (to_at_root source i j parts)
  at_root_states i j (Behind h ∷ Blocks b ∷ []) = one _
  at_root_states i j (Texts t ∷ Behind h ∷ Blocks b ∷ []) = one _
  at_root_states i j _ = none

  at_rule_states : (i j : ℕ) (parts : List Part) → AreStates (to_at_rule source i j parts)
  at_rule_states i j (Texts t ∷ Behind h ∷ ps) = one _
  at_rule_states i j (Texts t ∷ Texts p ∷ Behind h ∷ ps) = one _
  at_rule_states i j _ = none

  import_states : (i j : ℕ) (parts : List Part) → AreStates (to_import source i j parts)
  import_states i j (Texts t ∷ []) = one _
  import_states i j _ = none

  extend_states : (i j : ℕ) (parts : List Part) → AreStates (to_extend source i j parts)
  extend_states i j (Texts t ∷ []) = one _
  extend_states i j _ = none

  charset_states : (i j : ℕ) (parts : List Part) → AreStates (to_charset source i j parts)
  charset_states i j _ = one _

  comment_states : (i j : ℕ) (parts : List Part) → AreStates (to_comment source i j parts)
  comment_states i j _ = one _

  use_states : (i j : ℕ) (parts : List Part) → AreStates (to_use source i j parts)
  use_states i j (Place u ∷ ps) = one _
  use_states i j _ = none

  forward_states : (i j : ℕ) (parts : List Part) → AreStates (to_forward source i j parts)
  forward_states i j (Place u ∷ Behind h ∷ ps) = one _
  forward_states i j (Place u ∷ Place p ∷ Behind h ∷ ps) = one _
  forward_states i j _ = none

  callable_states : (kind : Kind) (i j : ℕ) (parts : List Part) → AreStates (to_callable source kind i j parts)
  callable_states kind i j (Place n ∷ Behind h ∷ Blocks b ∷ []) = one _
  callable_states kind i j (Place n ∷ Parameters p ∷ Behind h ∷ Blocks b ∷ []) = one _
  callable_states kind i j _ = none

  include_end_states : (i j : ℕ) (m : Mixin) (p : Params) (parts : List Part)
      → AreStates (include_end source i j m p parts)
  include_end_states i j m p [] = one _
  include_end_states i j m p (Blocks b ∷ []) = one _
  include_end_states i j m p _ = none

  include_states : (i j : ℕ) (parts : List Part) → AreStates (to_include source i j parts)
  include_states i j (Includes m ∷ Arguments a ∷ Parameters p ∷ Behind h ∷ ps) = include_end_states i h _ p ps
  include_states i j (Includes m ∷ Arguments a ∷ Behind h ∷ ps) = include_end_states i h _ _ ps
  include_states i j (Includes m ∷ Parameters p ∷ Behind h ∷ ps) = include_end_states i h m p ps
  include_states i j (Includes m ∷ Behind h ∷ ps) = include_end_states i h m _ ps
  include_states i j _ = none

  content_states : (i j : ℕ) (parts : List Part) → AreStates (to_content source i j parts)
  content_states i j [] = one _
  content_states i j (Arguments a ∷ []) = one _
  content_states i j _ = none

  return_states : (i j : ℕ) (parts : List Part) → AreStates (to_return source i j parts)
  return_states i j (Values v ∷ []) = one _
  return_states i j _ = none

  say_states : (level : Level) (i j : ℕ) (parts : List Part) → AreStates (to_say source level i j parts)
  say_states level i j (Values v ∷ []) = one _
  say_states level i j _ = none

  if_states : (i j : ℕ) (parts : List Part) → AreStates (to_if source i j parts)
  if_states i j (Values c ∷ Behind h ∷ Blocks b ∷ ps) = one _
  if_states i j _ = none

  each_of_states : (i : ℕ) (names : List ℕ) (parts : List Part) → AreStates (each_of source i names parts)
  each_of_states i names (Place n ∷ ps) = each_of_states i (names ++ n ∷ []) ps
  each_of_states i names (Values v ∷ Behind h ∷ Blocks b ∷ []) = one _
  each_of_states i names _ = none

  for_states : (i j : ℕ) (parts : List Part) → AreStates (to_for source i j parts)
  for_states i j (Place n ∷ Values f ∷ Place w ∷ Values t ∷ Behind h ∷ Blocks b ∷ []) = one _
  for_states i j _ = none

  while_states : (i j : ℕ) (parts : List Part) → AreStates (to_while source i j parts)
  while_states i j (Values c ∷ Behind h ∷ Blocks b ∷ []) = one _
  while_states i j _ = none

  module _ (n : ℕ) where
    abbrev In : Grammar Part Form → ℕ → ℕ → List Part → Type 0
    In = DerivesIn (text_of source) (Derives (forms source) (text_of source) n)

    -- what a grammar derives are statements
    record Stating (g : Grammar Part Form) : Type 0 where
      are : (i j : ℕ) (w : List Part) → In g i j w → AreStates w

    skipped : (s : List ℕ) → Stating (skip s)
    skipped s = record { are = λ i j w d. same_states [] w d.2 none }

    either_are : (a b : Grammar Part Form) → Stating a → Stating b → (i j : ℕ) (w : List Part) → In (alt a b) i j w
        → AreStates w
    either_are a b p q i j w (inl d) = p.are i j w d
    either_are a b p q i j w (inr d) = q.are i j w d

    either : {a b : Grammar Part Form} → Stating a → Stating b → Stating (alt a b)
    either {a} {b} p q = record { are = either_are a b p q }

    both_are : (a b : Grammar Part Form) → Stating a → Stating b → (i j : ℕ) (w : List Part) → In (seq a b) i j w
        → AreStates w
    both_are a b p q i j w (k, u, v, d, f, e) =
        same_states (u ++ v) w e (append_states u v (p.are i k u d) (q.are k j v f))

    both : {a b : Grammar Part Form} → Stating a → Stating b → Stating (seq a b)
    both {a} {b} p q = record { are = both_are a b p q }

    built : {h : ℕ → ℕ → List Part → List Part} {g : Grammar Part Form}
        → ((i j : ℕ) (us : List Part) → AreStates (h i j us)) → Stating (build h g)
    built {h} {g} each = record { are = λ i j w d. same_states (h i j d.0) w d.2 (each i j d.0) }

    row_are : (g : Grammar Part Form) → Stating g → {i j : ℕ} {w : List Part} → Row (In g) i j w → AreStates w
    row_are g p done = none
    row_are g p (then {i} {k} {j} {u} {v} d r) = append_states u v (p.are i k u d) (row_are g p r)

    finished : Stating (finish source)
    unfolding finish
    finished = either (skipped _) (record { are = λ i j w d. same_states [] w d.2 none })

    plain_states : Stating (plain_statement source)
    unfolding plain_statement set assigned declaration custom comment rule
    plain_states =
        either (skipped _) (either (both (built (set_states)) finished) (either (both (built (assigned_states)) finished)
        (either (built (declaration_states)) (either (both (built (custom_states)) finished) (either
        (built (comment_states)) (built (rule_states)))))))

    load_states : Stating (load_statement source)
    unfolding load_statement use_ forward
    load_states = either (both (built (use_states)) finished) (both (built (forward_states)) finished)

    member_states : Stating (member_statement source)
    unfolding member_statement function mixin include content
    member_states =
        either (built (callable_states _)) (either (built (callable_states _)) (either (built (include_states))
        (both (built (content_states)) finished)))

    flow_states : Stating (flow_statement source)
    unfolding flow_statement return warn debug error if_ each for_ while_
    flow_states =
        either (both (built (return_states)) finished) (either (both (built (say_states _)) finished) (either
        (both (built (say_states _)) finished) (either (both (built (say_states _)) finished) (either
        (built (if_states)) (either (built (λ i j parts. each_of_states i [] parts)) (either (built (for_states))
        (built (while_states))))))))

    css_states : Stating (css_statement source)
    unfolding css_statement media supports at_root charset import extend at
    css_states =
        either (built (media_states)) (either (built (supports_states)) (either (built (at_root_states)) (either
        (both (built (charset_states)) finished) (either (both (built (import_states)) finished) (either
        (both (built (extend_states)) finished) (built (at_rule_states)))))))

    statement_states : Stating (statement source)
    unfolding statement
    statement_states = either plain_states (either load_states (either member_states (either flow_states css_states)))

    pub sheet_states : (j : ℕ) (w : List Part) → Derives (forms source) (text_of source) (suc n) Whole 0 j w
        → AreStates w
    sheet_states j w (k, u, v, d, (m, e1, e2), e3) =
        same_states (u ++ v) w e3 (append_states u v (row_are (statement source) statement_states d)
        (same_states [] v e2 none))

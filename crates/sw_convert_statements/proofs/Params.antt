-- Parameters in parentheses.
use Rattle.std.proofs.Common.{◌≡◌, ℕ, suc, Bool, true, false, List, [], ◌∷◌, ◌++◌, map, Option, Some, None, append-nil, refl, sym, ◌∙◌, ap, subst, append_assoc, lit<}
use Rattle.std.specs.Prelude.{codes}
use Rattle.sw_text_scan.specs.Bytes.{sign, byte}
use Rattle.sw_tree.specs.declared.callable.Param.{Param as TreeParam}
use Rattle.sw_tree.specs.declared.callable.Params.{Params as TreeParams}
use Rattle.sw_tokens.specs.declared.pieces.Before.TheVariants as befores
use Rattle.sw_tokens.specs.declared.token.TokenKind.TheVariants as kinds
use Rattle.sw_parse_terminals.specs.declared.terminal.Terminal.TheVariants as terminals
use Rattle.sw_parse_terminals.specs.Numbers.{just}
use Rattle.sw_parse_lexemes.specs.declared.sort.Sort.{Sort}
use Rattle.sw_parse_lexemes.specs.declared.sort.Sort.TheVariants as sorts
use Rattle.sw_parse_lexemes.specs.declared.state.Mode.TheVariants as modes
use Rattle.sw_parse_lexemes.specs.Classes.{is_name}
use Rattle.sw_parse_table.specs.declared.source.Source.{Source}
use Rattle.sw_parse_table.specs.Parts.{Part, params_of, rest_of}
use Rattle.sw_parse_table.specs.Actions.{name_at}
use Rattle.sw_convert_written.specs.Expressions.{with_commas}
use Rattle.sw_convert_written.specs.Heads.{param_text, rest_text, params_text}
use Rattle.sw_convert_written.specs.Names.{dollar_name}
use Rattle.sw_convert_passing.specs.Written.{Written, written, direct}
use Rattle.sw_convert_passing.specs.Values.{dollar}
use Rattle.sw_convert_again.specs.Tokens.{Tok, Old}
use Rattle.sw_convert_again.specs.Tokens as again
use Rattle.sw_convert_again.specs.Params.{SpellsParam, SpellsMoreParams, SpellsParams, SpellsHeadParams, plain_param, default_param, rest_param, no_more_params, more_params, no_params, some_params, in_head, dollar_tokens, comma_joined, rest_texts}
use Rattle.sw_convert_tokens.specs.Joints.{Segment}
use Rattle.sw_convert_tokens.specs.Written.{Follows, gap_of, AsValue, WrittenAs}
use Rattle.sw_convert_tokens.specs.Values.{WasRead}
use Rattle.sw_convert_tokens.proofs.Joins.{join, as_text, as_behind}
use Rattle.sw_convert_tokens.proofs.Signs.{Anything, lone_segment, sign_segment, sign_token}
use Rattle.sw_convert_tokens.proofs.Unclosed.{space_ends, follows_end}
use Rattle.sw_convert_tokens.proofs.Variables.{Begins, variable_name, variable_segment}
use Rattle.sw_convert_heads_passing.specs.Members as told
use Rattle.sw_convert_values.proofs.Starts.{behind_old}
use Rattle.sw_convert_values.specs.Values.{goes_on}
use Rattle.sw_convert_values.proofs.Stops.{before_old, before_end}
use Rattle.sw_convert_statements.proofs.StatementStops.{before_params}
use Rattle.sw_convert_statements.specs.Fronts.{ValuesAreKnown}
use Rattle.sw_convert_statements.proofs.Variables.{colon_segment}

-- ---- signs directly behind what stands before them

pub comma_segment : Segment befores.Other (codes ",") (again.sign terminals.Comma ∷ [])
    (direct sorts.Comma terminals.Comma ∷ []) befores.Other Anything
comma_segment = lone_segment (sign ",") (terminals.Comma ∷ []) befores.Other false refl refl refl (λ inside code. refl)

pub close_segment : Segment befores.Other (codes ")") (again.sign terminals.ParenEnd ∷ [])
    (direct sorts.CloseParen terminals.ParenEnd ∷ []) befores.Other Anything
close_segment = lone_segment (sign ")") (terminals.ParenEnd ∷ []) befores.Other false refl refl refl (λ inside code. refl)

-- what a comma and a space stand before
pub behind_comma : (first rest after : List ℕ) → Follows (first ++ (codes ", " ++ rest)) after → Follows rest after
behind_comma first rest after f =
    follows_end (first ++ codes ",") rest (sign " ") space_ends after
    (subst (λ (t : List ℕ). Follows t after) (sym (append_assoc first (codes ",") (codes " " ++ rest))) f)

-- a comma may stand behind a text
pub comma_follows : (text rest : List ℕ) → Follows text (codes "," ++ rest)
comma_follows text rest = record { stop = refl; closed = refl }

-- ---- one parameter

-- a variable, with a space before it or none
pub record IsVariable (source : Source) (i : ℕ) (spaced : Bool) : Type 0 where
  pub sort : Sort
  pub is : is_name sort ≡ true
  pub segment : Segment befores.Other (gap_of spaced ++ dollar_name (name_at source i)) (dollar_tokens (name_at source i))
      (dollar spaced ∷ direct sort terminals.VariableName ∷ []) befores.Other (Follows (dollar_name (name_at source i)))

-- a parameter
record IsParam (text : List ℕ) (tokens : List Tok) (spaced : Bool) : Type 0 where
  passed : List Written
  are : told.Param spaced passed
  segment : Segment befores.Other (gap_of spaced ++ text) tokens passed befores.Other (Follows text)

-- the one that takes the rest
record IsRest (name : List ℕ) (spaced : Bool) : Type 0 where
  passed : List Written
  are : told.ParamRow spaced passed
  segment : Segment befores.Other (gap_of spaced ++ (dollar_name name ++ codes "...")) (dollar_tokens name ++ again.sign terminals.Ellipsis ∷ [])
      passed befores.Other (Follows (dollar_name name ++ codes "..."))

dots_segment : Segment befores.Other (codes "...") (again.sign terminals.Ellipsis ∷ [])
    (direct sorts.Ellipsis terminals.Ellipsis ∷ []) befores.Other Anything
unfolding byte
dots_segment =
    sign_segment kinds.Ellipsis (codes "...") (terminals.Ellipsis ∷ []) befores.Other false Anything refl refl refl (lit< tt)
    (λ inside after code ok. sign_token kinds.Ellipsis after inside befores.Other refl code refl refl)

module _ (source : Source) (was : WasRead source) where
  pub variable_at : (i : ℕ) → Old source i (just terminals.VariableName) → (spaced : Bool) → IsVariable source i spaced
  variable_at i old true =
      let name = variable_name source i was old in record {
        sort = name.sort;
        is = name.is;
        segment = variable_segment source i name (terminals.Dollar ∷ terminals.DollarNamed ∷ []) befores.Other true refl;
      }
  variable_at i old false =
      let name = variable_name source i was old in record {
        sort = name.sort;
        is = name.is;
        segment = variable_segment source i name (terminals.Dollar ∷ terminals.DollarNamed ∷ []) befores.Other false refl;
      }

  plain_written : (i : ℕ) → Old source i (just terminals.VariableName) → (spaced : Bool)
      → IsParam (dollar_name (name_at source i) ++ []) (dollar_tokens (name_at source i)) spaced
  plain_written i old spaced =
      let one = variable_at i old spaced in
      let name = dollar_name (name_at source i) in record {
        passed = _;
        are = told.plain_param one.sort one.is;
        segment = as_behind (λ after f. subst (λ (t : List ℕ). Follows t after) (append-nil name) f)
            (as_text (ap (λ (t : List ℕ). gap_of spaced ++ t) (sym (append-nil name))) one.segment);
      }

  default_written : (i : ℕ) → Old source i (just terminals.VariableName) → {signed : Bool} {value : List ℕ}
      {tokens : List Tok} → WrittenAs (AsValue signed) value tokens → (spaced : Bool)
      → IsParam (dollar_name (name_at source i) ++ (codes ": " ++ value))
      (dollar_tokens (name_at source i) ++ again.sign terminals.Colon ∷ tokens) spaced
  default_written i old {value = value} it spaced =
      let one = variable_at i old spaced in
      let two = it befores.Other true refl in
      let name = dollar_name (name_at source i) in record {
        passed = _;
        are = told.default_param one.sort one.is (two.told modes.Params refl);
        segment = as_behind
            (λ after f. follows_end (name ++ codes ":") value (sign " ") space_ends after
            (subst (λ (t : List ℕ). Follows t after) (sym (append_assoc name (codes ":") (codes " " ++ value))) f))
            (as_text (append_assoc (gap_of spaced) name (codes ": " ++ value))
            (join one.segment (join colon_segment two.segment (λ after f. tt))
            (λ after f. record { stop = refl; closed = refl })));
      }

  rest_written : (i : ℕ) → Old source i (just terminals.VariableName) → (spaced : Bool) → IsRest (name_at source i) spaced
  rest_written i old spaced =
      let one = variable_at i old spaced in
      let name = dollar_name (name_at source i) in record {
        passed = _;
        are = told.rest_param one.sort one.is;
        segment = as_behind (λ after f. tt)
            (as_text (append_assoc (gap_of spaced) name (codes "..."))
            (join one.segment dots_segment (λ after ok. record { stop = refl; closed = refl })));
      }

-- ---- several

data AreParams : List TreeParam → List (List Tok) → Type 0 where
  none_are : AreParams [] []
  more_are : {param : TreeParam} {params : List TreeParam} {tokens : List Tok} {texts : List (List Tok)}
      → ((spaced : Bool) → IsParam (param_text param) tokens spaced) → AreParams params texts
      → AreParams (param ∷ params) (tokens ∷ texts)

RestIs : Option (List ℕ) → Type 0
RestIs None = Unit {0}
RestIs (Some name) = (spaced : Bool) → IsRest name spaced

-- those of a list, and the one that takes the rest
record AreAll (parts : List Part) (texts : List (List Tok)) : Type 0 where
  params : AreParams (params_of parts) texts
  rest : RestIs (rest_of parts)

module _ (source : Source) (was : WasRead source) (values : ValuesAreKnown source) where
  one_more : {i j : ℕ} {part : Part} {parts : List Part} {texts others : List (List Tok)}
      → goes_on source j ≡ false → SpellsParam source i j part texts → AreAll parts others
      → AreAll (part ∷ parts) (texts ++ others)
  unfolding RestIs
  one_more ended (plain_param {i} one two) all =
      record { params = more_are (plain_written source was (suc i) two) all.params; rest = all.rest }
  one_more ended (default_param {i} one two three value) all =
      let (signed, it) = values.plains _ _ _ _ (behind_old three refl) ended value in
      record { params = more_are (default_written source was (suc i) two it) all.params; rest = all.rest }
  one_more ended (rest_param {i} one two three) all =
      record { params = all.params; rest = rest_written source was (suc i) two }

  all_more : {i j : ℕ} {parts : List Part} {texts : List (List Tok)} → goes_on source j ≡ false
      → SpellsMoreParams source i j parts texts
      → AreAll parts texts
  unfolding RestIs
  all_more ended no_more_params = record { params = none_are; rest = tt }
  all_more ended (more_params comma one more) = one_more (before_params more ended) one (all_more ended more)

  all_params : {i j : ℕ} {parts : List Part} {texts : List (List Tok)} → goes_on source j ≡ false
      → SpellsParams source i j parts texts
      → AreAll parts texts
  unfolding RestIs
  all_params ended no_params = record { params = none_are; rest = tt }
  all_params ended (some_params one more end) =
      let stop = before_end end ended in one_more (before_params more stop) one (all_more stop more)

-- a row of them
record IsRow (text : List ℕ) (tokens : List Tok) (spaced : Bool) : Type 0 where
  passed : List Written
  are : told.ParamRow spaced passed
  segment : Segment befores.Other (gap_of spaced ++ text) tokens passed befores.Other (Follows text)

same_row : {xs ys : List ℕ} {ks ls : List Tok} {spaced : Bool} → xs ≡ ys → ks ≡ ls → IsRow xs ks spaced → IsRow ys ls spaced
same_row {xs} {ys} {ks} {ls} {spaced} e f it =
    subst (λ (t : List Tok). IsRow ys t spaced) f (subst (λ (t : List ℕ). IsRow t ks spaced) e it)

before_row : {first rest : List ℕ} {ks ls : List Tok} {spaced : Bool} → IsParam first ks spaced → IsRow rest ls true
    → IsRow (first ++ (codes ", " ++ rest)) (ks ++ again.sign terminals.Comma ∷ ls) spaced
before_row {first} {rest} {spaced = spaced} one more = record {
  passed = _;
  are = told.more_params one.are more.are;
  segment = as_behind (λ after f. behind_comma first rest after f)
      (as_text (append_assoc (gap_of spaced) first (codes ", " ++ rest))
      (join one.segment (join comma_segment more.segment (λ after f. tt))
      (λ after f. record { stop = refl; closed = refl })));
}

row_written : (param : TreeParam) {params : List TreeParam} {tokens : List Tok} {texts : List (List Tok)}
    → ((spaced : Bool) → IsParam (param_text param) tokens spaced) → AreParams params texts → (rest : Option (List ℕ))
    → RestIs rest → (spaced : Bool)
    → IsRow (with_commas true (map param_text (param ∷ params)) ++ rest_text (param ∷ params) rest)
    (comma_joined ((tokens ∷ texts) ++ rest_texts rest)) spaced
unfolding RestIs
row_written param {tokens = tokens} one none_are None none spaced =
    let it = one spaced in
    same_row (sym (append-nil (param_text param)) ∙ sym (append-nil (param_text param ++ []))) (sym (append-nil tokens))
    (record { passed = it.passed; are = told.last_param it.are; segment = it.segment })
row_written param {tokens = tokens} one none_are (Some name) last spaced =
    let it = last true in
    same_row (ap (λ (t : List ℕ). t ++ (codes ", " ++ (dollar_name name ++ codes "..."))) (sym (append-nil (param_text param))))
    (ap (λ (l : List Tok). tokens ++ again.sign terminals.Comma ∷ l) (sym (append-nil _)))
    (before_row (one spaced) (record { passed = it.passed; are = it.are; segment = it.segment }))
row_written param one (more_are {param = next} {params = params} two more) rest last spaced =
    let others = with_commas false (map param_text params) in
    let tail = rest_text (next ∷ params) rest in
    same_row
    (sym (append_assoc (param_text param) (codes ", " ++ (param_text next ++ others)) tail)) refl
    (before_row (one spaced) (row_written next two more rest last true))

-- ---- in parentheses

record AreInside (text : List ℕ) (tokens : List Tok) : Type 0 where
  passed : List Written
  are : told.Params passed
  segment : Segment befores.Other text tokens passed befores.Other (Begins (sign ")"))

inside_row : {text : List ℕ} {tokens : List Tok} → IsRow text tokens false → AreInside text tokens
inside_row {text} it = record {
  passed = it.passed;
  are = told.some_params it.are;
  segment = as_behind (λ after b. subst (Follows text) (sym b.1) (record { stop = refl; closed = refl })) it.segment;
}

inside : {params : List TreeParam} {texts : List (List Tok)} → AreParams params texts → (rest : Option (List ℕ))
    → RestIs rest
    → AreInside (with_commas true (map param_text params) ++ rest_text params rest) (comma_joined (texts ++ rest_texts rest))
unfolding RestIs
inside none_are None none = record {
  passed = [];
  are = told.no_params;
  segment = record {
    joints = [];
    spelling = refl;
    seen = refl;
    written = refl;
    last = refl;
    tells = tt;
    stand = λ stack after code ok. refl;
  };
}
inside none_are (Some name) last =
    let it = last false in
    inside_row (same_row refl (sym (append-nil _)) (record { passed = it.passed; are = it.are; segment = it.segment }))
inside (more_are {param = param} one more) rest last = inside_row (row_written param one more rest last false)

-- the parentheses, with a space before them or none
pub record AreParens (params : TreeParams) (tokens : List Tok) (spaced : Bool) : Type 0 where
  pub passed : List Written
  pub are : told.Params passed
  pub segment : Segment befores.Other (gap_of spaced ++ params_text params) tokens (told.params_in spaced passed)
      befores.Other Anything

pub open_segment : (spaced : Bool)
    → Segment befores.Other (gap_of spaced ++ codes "(") (again.sign terminals.HeadParen ∷ [])
    (written sorts.OpenParen spaced terminals.HeadParen ∷ []) befores.Other Anything
open_segment true = lone_segment (sign "(") (terminals.HeadParen ∷ []) befores.Other true refl refl refl (λ inside code. refl)
open_segment false =
    lone_segment (sign "(") (terminals.HeadParen ∷ []) befores.Other false refl refl refl (λ inside code. refl)

pub parens_written : (source : Source) → WasRead source → ValuesAreKnown source → {i j : ℕ} {params : TreeParams}
    {tokens : List Tok} → SpellsHeadParams source i j params tokens → (spaced : Bool) → AreParens params tokens spaced
parens_written source was values (in_head {parts = parts} {texts = texts} opens within closes) spaced =
    let all = all_params source was values (before_old closes refl) within in
    let it = inside all.params (rest_of parts) all.rest in
    let items = with_commas true (map param_text (params_of parts)) in
    let rest = rest_text (params_of parts) (rest_of parts) in record {
      passed = it.passed;
      are = it.are;
      segment = as_text
          (append_assoc (gap_of spaced) (codes "(") ((items ++ rest) ++ codes ")")
          ∙ ap (λ (t : List ℕ). gap_of spaced ++ (codes "(" ++ t)) (append_assoc items rest (codes ")")))
          (join (open_segment spaced) (join it.segment close_segment (λ after ok. (after, refl))) (λ after ok. tt));
    }

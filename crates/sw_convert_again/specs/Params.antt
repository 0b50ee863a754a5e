-- What is written of parameters that were read: those with a name of their own in their order, and then the one that takes
-- the rest.
use Rattle.std.specs.Prelude.{◌≡◌, ◌⊎◌, ℕ, suc, Bool, true, false, List, [], ◌∷◌, ◌++◌, Option, Some, None}
use Rattle.sw_tree.specs.declared.callable.Param.{Param}
use Rattle.sw_tree.specs.declared.callable.Params.{Params}
use Rattle.sw_tree.specs.declared.expr.Expr.{Expr}
use Rattle.sw_tree.specs.declared.expr.Namespaced.{Namespaced}
use Rattle.sw_parse_terminals.specs.declared.terminal.Terminal.TheVariants as terminals
use Rattle.sw_parse_terminals.specs.Numbers.{just}
use Rattle.sw_parse_table.specs.declared.source.Source.{Source}
use Rattle.sw_parse_table.specs.Parts.{Part, Takes, Rests, rest_of}
use Rattle.sw_parse_table.specs.Sets.{dollars}
use Rattle.sw_parse_table.specs.Sources.{bytes_at}
use Rattle.sw_parse_table.specs.Values.{namespaced}
use Rattle.sw_parse_table.specs.Actions.{name_at, params_with}
use Rattle.sw_convert_again.specs.Tokens.{Dashed, Bytes, Tok, tok, sign, Old}
use Rattle.sw_convert_again.specs.Spells.{SpellsPlain, dollar, within}

-- the name of a variable
abbrev pub dollar_tokens : List ℕ → List Tok
dollar_tokens name = dollar ∷ tok terminals.VariableName (Dashed name) ∷ []

-- one parameter, and what is written of it in its place
pub data SpellsParam (source : Source) : ℕ → ℕ → Part → List (List Tok) → Type 0 where
  plain_param : {i : ℕ} → Old source i dollars → Old source (suc i) (just terminals.VariableName)
      → SpellsParam source i (suc (suc i)) (Takes (record { name = name_at source (suc i); default = None }))
      (dollar_tokens (name_at source (suc i)) ∷ [])
  default_param : {i j : ℕ} {value : Expr} {tokens : List Tok} → Old source i dollars
      → Old source (suc i) (just terminals.VariableName) → Old source (suc (suc i)) (just terminals.Colon)
      → SpellsPlain source (suc (suc (suc i))) j value tokens
      → SpellsParam source i j (Takes (record { name = name_at source (suc i); default = Some value }))
      ((dollar_tokens (name_at source (suc i)) ++ sign terminals.Colon ∷ tokens) ∷ [])
  rest_param : {i : ℕ} → Old source i dollars → Old source (suc i) (just terminals.VariableName)
      → Old source (suc (suc i)) (just terminals.Ellipsis)
      → SpellsParam source i (suc (suc (suc i))) (Rests (name_at source (suc i))) []

-- parameters with a comma before each
pub data SpellsMoreParams (source : Source) : ℕ → ℕ → List Part → List (List Tok) → Type 0 where
  no_more_params : {i : ℕ} → SpellsMoreParams source i i [] []
  more_params : {i k j : ℕ} {part : Part} {parts : List Part} {texts others : List (List Tok)}
      → Old source i (just terminals.Comma) → SpellsParam source (suc i) k part texts
      → SpellsMoreParams source k j parts others → SpellsMoreParams source i j (part ∷ parts) (texts ++ others)

-- all of them, which lose a comma behind them
pub data SpellsParams (source : Source) : ℕ → ℕ → List Part → List (List Tok) → Type 0 where
  no_params : {i : ℕ} → SpellsParams source i i [] []
  some_params : {i k m j : ℕ} {part : Part} {parts : List Part} {texts others : List (List Tok)}
      → SpellsParam source i k part texts → SpellsMoreParams source k m parts others
      → (j ≡ m) ⊎ ((j ≡ suc m) × Old source m (just terminals.Comma))
      → SpellsParams source i j (part ∷ parts) (texts ++ others)

-- with commas between them
abbrev pub after_comma : List (List Tok) → List Tok
after_comma [] = []
after_comma (text ∷ texts) = sign terminals.Comma ∷ (text ++ after_comma texts)

abbrev pub comma_joined : List (List Tok) → List Tok
comma_joined [] = []
comma_joined (text ∷ texts) = text ++ after_comma texts

abbrev pub rest_texts : Option (List ℕ) → List (List Tok)
rest_texts None = []
rest_texts (Some name) = (dollar_tokens name ++ sign terminals.Ellipsis ∷ []) ∷ []

abbrev pub params_in : List Part → List (List Tok) → List Tok
params_in parts texts =
    within (sign terminals.HeadParen) (comma_joined (texts ++ rest_texts (rest_of parts))) terminals.ParenEnd

-- in parentheses
pub data SpellsHeadParams (source : Source) : ℕ → ℕ → Params → List Tok → Type 0 where
  in_head : {i c : ℕ} {parts : List Part} {texts : List (List Tok)} → Old source i (just terminals.HeadParen)
      → SpellsParams source (suc i) c parts texts → Old source c (just terminals.ParenEnd)
      → SpellsHeadParams source i (suc c) (params_with parts) (params_in parts texts)

-- there are some
abbrev pub are_some : List Param → Option (List ℕ) → Bool
are_some [] None = false
are_some _ _ = true

-- in parentheses, or nothing where there are none
pub data SpellsOptionalParams (source : Source) : ℕ → ℕ → Params → List Tok → Type 0 where
  no_head : {i : ℕ} → SpellsOptionalParams source i i (params_with []) []
  empty_head : {i j : ℕ} {params : Params} {tokens : List Tok} → SpellsHeadParams source i j params tokens
      → params.items ≡ [] → params.rest ≡ None → SpellsOptionalParams source i j params []
  some_head : {i j : ℕ} {params : Params} {tokens : List Tok} → SpellsHeadParams source i j params tokens
      → are_some params.items params.rest ≡ true → SpellsOptionalParams source i j params tokens

-- the name of a mixin that is included, by its place, behind a namespace or not
pub data SpellsMixinName (source : Source) : ℕ → ℕ → Option Namespaced → ℕ → List Tok → Type 0 where
  own_name : {i : ℕ} → Old source i (just terminals.Named)
      → SpellsMixinName source i (suc i) None i (tok terminals.Named (Dashed (name_at source i)) ∷ [])
  owned_name : {i : ℕ} → Old source i (just terminals.Owner) → Old source (suc i) (just terminals.OwnerDot)
      → Old source (suc (suc i)) (just terminals.Named)
      → SpellsMixinName source i (suc (suc (suc i))) (Some (namespaced source i)) (suc (suc i))
      (tok terminals.Owner (Bytes 1 (bytes_at source i)) ∷ sign terminals.OwnerDot
      ∷ tok terminals.Named (Dashed (name_at source (suc (suc i)))) ∷ [])

-- the parameters of a content block, which are written where there are any
pub data SpellsUsing (source : Source) : ℕ → ℕ → Params → List Tok → Type 0 where
  no_using : {i : ℕ} → SpellsUsing source i i (params_with []) []
  empty_using : {i j : ℕ} {params : Params} {tokens : List Tok} → Old source i (just terminals.Using)
      → SpellsHeadParams source (suc i) j params tokens → params.items ≡ [] → params.rest ≡ None
      → SpellsUsing source i j params []
  some_using : {i j : ℕ} {params : Params} {tokens : List Tok} → Old source i (just terminals.Using)
      → SpellsHeadParams source (suc i) j params tokens → are_some params.items params.rest ≡ true
      → SpellsUsing source i j params (sign terminals.Using ∷ tokens)

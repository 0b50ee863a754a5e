-- An argument without a name: where it begins with a `$`, this is told by what stands behind the variable.
use Rattle.std.proofs.Common.{◌≡◌, inl, inr, ℕ, Bool, true, false, if◌then◌else◌, List, [], ◌∷◌, ◌++◌, refl, sym, ◌∙◌, ap, subst, append_assoc}
use Rattle.sw_text_scan.proofs.Bounds.{if_false}
use Rattle.sw_tokens.specs.declared.pieces.Before.{Before}
use Rattle.sw_tokens.specs.declared.pieces.Before.TheVariants as befores
use Rattle.sw_tokens.specs.declared.skips.Inside.{Inside}
use Rattle.sw_parse_terminals.specs.declared.terminal.Terminal.{Terminal}
use Rattle.sw_parse_terminals.specs.declared.terminal.Terminal.TheVariants as terminals
use Rattle.sw_parse_lexemes.specs.declared.sort.Sort.{Sort}
use Rattle.sw_parse_lexemes.specs.declared.sort.Sort.TheVariants as sorts
use Rattle.sw_parse_lexemes.specs.Sorts.{sort_of}
use Rattle.sw_parse_lexemes.specs.declared.state.Mode.{Mode}
use Rattle.sw_parse_lexemes.specs.declared.state.Mode.TheVariants as modes
use Rattle.sw_parse_lexemes.specs.Classes.{is_name, is_number}
use Rattle.sw_parse_table.specs.declared.source.Source.{Source}
use Rattle.sw_convert_passing.specs.Kinds.{is_quoted, is_constant, keyword, is_lone_value, lone, is_operator, operator, is_prefix, prefix}
use Rattle.sw_convert_passing.specs.Written.{Written, direct, apart}
use Rattle.sw_convert_passing.specs.Values.{Value, Word, Settles, stays_behind, no_colon, seam, dollar, settled_same, settled_dollar}
use Rattle.sw_convert_passing.specs.Values as passing
use Rattle.sw_convert_again.specs.Spells.{is_named, without_named, undollared}
use Rattle.sw_convert_again.specs.Tokens.{Tok, Among}
use Rattle.sw_convert_tokens.specs.Joints.{Seen, Joint, Token, Apart, IsSeen, Segment, Sits, Tell, Stand, text, writtens, toks, behind}
use Rattle.sw_convert_tokens.specs.Written.{AsValue, WrittenAs}
use Rattle.sw_convert_tokens.proofs.Loud.{seen_by}
use Rattle.sw_convert_tokens.proofs.Arguments.{Exactly, IsArgument, same_append, settles_as}

-- ---- what comes first

abbrev begins_dark : List Written → Bool
begins_dark [] = false
begins_dark (first ∷ rest) = stays_behind first.sort false

dark : (test : Sort → Bool) → test sorts.Comment ≡ false → test sorts.CommentTemplate ≡ false
    → test sorts.CommentEnd ≡ false → test sorts.Colon ≡ false → (sort : Sort) → test sort ≡ true
    → stays_behind sort false ≡ true
dark test a b c d sorts.Comment e = absurd (let wrong : true ≡ false = sym e ∙ a in cc)
dark test a b c d sorts.CommentTemplate e = absurd (let wrong : true ≡ false = sym e ∙ b in cc)
dark test a b c d sorts.CommentEnd e = absurd (let wrong : true ≡ false = sym e ∙ c in cc)
dark test a b c d sorts.Colon e = absurd (let wrong : true ≡ false = sym e ∙ d in cc)
dark test a b c d _ e = refl

stays : (sort : Sort) (more : Bool) → stays_behind sort false ≡ true → stays_behind sort more ≡ true
stays sorts.Comment more e = absurd (cc)
stays sorts.CommentTemplate more e = absurd (cc)
stays sorts.CommentEnd more e = absurd (cc)
stays sorts.Colon more e = absurd (cc)
stays _ more e = refl

dark_append : (left right : List Written) → begins_dark left ≡ true → begins_dark (left ++ right) ≡ true
dark_append [] right e = absurd (cc)
dark_append (first ∷ left) right e = e

no_colon_append : (left right : List Written) → begins_dark left ≡ true → no_colon (left ++ right) ≡ true
no_colon_append [] right e = absurd (cc)
no_colon_append (first ∷ left) right e = stays first.sort (no_colon (left ++ right)) e

word_dark : {mode : Mode} {spaced owned called : Bool} {ws : List Written} → Word mode spaced owned called ws
    → begins_dark ws ≡ true
word_dark (passing.named sort n _ _) = dark is_name refl refl refl refl sort n
word_dark (passing.begun inner parts) = refl
word_dark (passing.begun_minus inner parts) = refl

value_dark : {mode : Mode} {spaced signed : Bool} {ws : List Written} → Value mode spaced signed ws
    → begins_dark ws ≡ true
value_dark (passing.number sort e) = dark is_number refl refl refl refl sort e
value_dark (passing.negative sort e) = refl
value_dark (passing.positive sort e) = refl
value_dark (passing.quoted sort e) = dark is_quoted refl refl refl refl sort e
value_dark (passing.template inner) = refl
value_dark (passing.hash sort e) = refl
value_dark (passing.constant sort e) = dark is_constant refl refl refl refl sort e
value_dark (passing.lone_value sort e) = dark is_lone_value refl refl refl refl sort e
value_dark (passing.url_template inner) = refl
value_dark (passing.variable name n) = refl
value_dark (passing.owned_variable owner name n m) = dark is_name refl refl refl refl owner n
value_dark (passing.owned_call owner n name call) = dark is_name refl refl refl refl owner n
value_dark (passing.word name) = word_dark name
value_dark (passing.call {name = name} {call = call} is_word is_call) = dark_append name call (word_dark is_word)
value_dark passing.important = refl
value_dark (passing.in_parens inner) = refl
value_dark (passing.in_brackets inner) = refl
value_dark (passing.negated value) = refl
value_dark (passing.prefixed sort e value) = dark is_prefix refl refl refl refl sort e
value_dark (passing.linked {left = left} first sort e next) = dark_append left _ (value_dark first)
value_dark (passing.divided {left = left} first next) = dark_append left _ (value_dark first)
value_dark (passing.beside {left = left} first next) = dark_append left _ (value_dark first)
value_dark (passing.special blank inner) = refl
value_dark (passing.seamed {value = value} it) = dark_append value _ (value_dark it)

-- ---- the same tokens, the first of which is before no name of an argument

abbrev exact_of : List Written → List Written
exact_of [] = []
exact_of (first ∷ rest) = record { sort = first.sort; spaced = first.spaced; may_be = without_named first.may_be } ∷ rest

exact_append : (left right : List Written) → begins_dark left ≡ true → exact_of (left ++ right) ≡ exact_of left ++ right
exact_append [] right e = absurd (cc)
exact_append (first ∷ left) right e = refl

abbrev IsTold : List Written → Type 0
IsTold ws = Exactly false ws (exact_of ws)

told_same : (ws : List Written) → exact_of ws ≡ ws → IsTold ws
told_same ws e rest more f s =
    subst (λ (t : List Written). Settles (ws ++ rest) (t ++ more)) (sym e) (same_append ws s)

lone_same : (sort : Sort) (spaced : Bool) (terminal : Terminal) (rest : List Written) → is_named terminal ≡ false
    → exact_of (record { sort = sort; spaced = spaced; may_be = terminal ∷ [] } ∷ rest)
    ≡ record { sort = sort; spaced = spaced; may_be = terminal ∷ [] } ∷ rest
lone_same sort spaced terminal rest e =
    ap (λ (kinds : List Terminal). record { sort = sort; spaced = spaced; may_be = kinds } ∷ rest)
    (if_false (is_named terminal) [] (terminal ∷ []) e)

constant_other : (sort : Sort) → is_constant sort ≡ true → is_named (keyword sort) ≡ false
constant_other sorts.True e = refl
constant_other sorts.False e = refl
constant_other sorts.Null e = refl
constant_other _ e = absurd (cc)

lone_other : (sort : Sort) → is_lone_value sort ≡ true → is_named (lone sort) ≡ false
lone_other sorts.Url e = refl
lone_other sorts.Range e = refl
lone_other sorts.Ampersand e = refl
lone_other _ e = absurd (cc)

prefix_other : (sort : Sort) → is_prefix sort ≡ true → is_named (prefix sort) ≡ false
prefix_other sorts.Plus e = refl
prefix_other sorts.Minus e = refl
prefix_other sorts.Slash e = refl
prefix_other _ e = absurd (cc)

word_same : {mode : Mode} {spaced owned called : Bool} {ws : List Written} → Word mode spaced owned called ws
    → exact_of ws ≡ ws
word_same (passing.named sort n _ _) = refl
word_same (passing.begun inner parts) = refl
word_same (passing.begun_minus inner parts) = refl

longer : (left tail : List Written) → begins_dark left ≡ true
    → ((rest : List Written) → no_colon rest ≡ true → no_colon (tail ++ rest) ≡ true) → IsTold left → IsTold (left ++ tail)
longer left tail first none it rest more e s =
    settles_as (sym (append_assoc left tail rest))
    (sym (append_assoc (exact_of left) tail more) ∙ ap (λ (t : List Written). t ++ more) (sym (exact_append left tail first)))
    (it (tail ++ rest) (tail ++ more) (none rest e) (same_append tail s))

value_told : {mode : Mode} {spaced signed : Bool} {ws : List Written} → Value mode spaced signed ws → IsTold ws
value_told {ws = ws} (passing.number sort e) = told_same ws refl
value_told {ws = ws} (passing.negative sort e) = told_same ws refl
value_told {ws = ws} (passing.positive sort e) = told_same ws refl
value_told {ws = ws} (passing.quoted sort e) = told_same ws refl
value_told {ws = ws} (passing.template inner) = told_same ws refl
value_told {ws = ws} (passing.hash sort e) = told_same ws refl
value_told {ws = ws} (passing.constant sort e) = told_same ws (lone_same sort _ (keyword sort) [] (constant_other sort e))
value_told {ws = ws} (passing.lone_value sort e) = told_same ws (lone_same sort _ (lone sort) [] (lone_other sort e))
value_told {ws = ws} (passing.url_template inner) = told_same ws refl
value_told (passing.variable name n) =
    λ rest more e s. settled_dollar (direct name terminals.VariableName) e (settled_same (direct name terminals.VariableName) s)
value_told {ws = ws} (passing.owned_variable owner name n m) = told_same ws refl
value_told {ws = ws} (passing.owned_call owner n name call) = told_same ws refl
value_told {ws = ws} (passing.word name) = told_same ws (word_same name)
value_told {ws = ws} (passing.call {name = name} {call = call} is_word is_call) =
    told_same ws (exact_append name call (word_dark is_word) ∙ ap (λ (t : List Written). t ++ call) (word_same is_word))
value_told {ws = ws} passing.important = told_same ws refl
value_told {ws = ws} (passing.in_parens inner) = told_same ws refl
value_told {ws = ws} (passing.in_brackets inner) = told_same ws refl
value_told {ws = ws} (passing.negated value) = told_same ws refl
value_told {ws = ws} (passing.prefixed sort e value) = told_same ws (lone_same sort _ (prefix sort) _ (prefix_other sort e))
value_told (passing.linked {left = left} {right = right} first sort e next) =
    longer left (apart sort (operator sort) ∷ right) (value_dark first)
    (λ rest f. stays sort (no_colon (right ++ rest)) (dark is_operator refl refl refl refl sort e)) (value_told first)
value_told (passing.divided {left = left} {right = right} first next) =
    longer left (direct sorts.Slash terminals.Divide ∷ right) (value_dark first) (λ rest f. refl) (value_told first)
value_told (passing.beside {left = left} {right = right} first next) =
    longer left right (value_dark first) (λ rest f. no_colon_append right rest (value_dark next)) (value_told first)
value_told {ws = ws} (passing.special blank inner) = told_same ws refl
value_told (passing.seamed {value = value} it) =
    longer value (seam ∷ []) (value_dark it) (λ rest f. f) (value_told it)

-- ---- the same of a piece of text

abbrev exact_seen : Seen → Seen
exact_seen seen = record {
  gap = seen.gap;
  kind = seen.kind;
  bytes = seen.bytes;
  change = seen.change;
  spaced = seen.spaced;
  may_be = without_named seen.may_be;
  said = seen.said;
}

abbrev exact_joints : List Joint → List Joint
exact_joints [] = []
exact_joints (Token seen ∷ joints) = Token (exact_seen seen) ∷ joints
exact_joints (Apart ∷ joints) = Apart ∷ joints

among_all : (terminal : Terminal) (kinds : List Terminal) → Among terminal (without_named kinds) → Among terminal kinds
among_all terminal [] e = e
among_all terminal (kind ∷ kinds) e = go (is_named kind) (λ f. among_all terminal kinds f) e
  where
    go : (t : Bool) → (Among terminal (without_named kinds) → Among terminal kinds)
        → Among terminal (if t then without_named kinds else kind ∷ without_named kinds)
        → Among terminal (kind ∷ kinds)
    go true more f = inr (more f)
    go false more (inl f) = inl f
    go false more (inr f) = inr (more f)

exact_text : (joints : List Joint) → text (exact_joints joints) ≡ text joints
exact_text [] = refl
exact_text (Token seen ∷ joints) = refl
exact_text (Apart ∷ joints) = refl

exact_toks : (joints : List Joint) → begins_dark (writtens joints) ≡ true
    → toks (exact_joints joints) ≡ undollared (toks joints)
exact_toks [] e = refl
exact_toks (Token seen ∷ joints) e = refl
exact_toks (Apart ∷ joints) e = absurd (cc)

exact_writtens : (joints : List Joint) → writtens (exact_joints joints) ≡ exact_of (writtens joints)
exact_writtens [] = refl
exact_writtens (Token seen ∷ joints) = refl
exact_writtens (Apart ∷ joints) = refl

exact_behind : (before : Before) (joints : List Joint) → behind before (exact_joints joints) ≡ behind before joints
exact_behind before [] = refl
exact_behind before (Token seen ∷ joints) = refl
exact_behind before (Apart ∷ joints) = refl

sits_so : (source : Source) (commented : Bool) (at : ℕ) (front : List ℕ) (seen : Seen) (rest : List ℕ)
    → Sits source commented at front (exact_seen seen) rest → Sits source commented at front seen rest
sits_so source commented at front seen rest it = record {
  lexeme = it.lexeme;
  there = it.there;
  from = it.from;
  to = it.to;
  commented_is = it.commented_is;
  text_is = it.text_is;
  decoded_is = it.decoded_is;
  kind = among_all it.lexeme.terminal seen.may_be it.kind;
}

exact_tells : (joints : List Joint) → Tell joints → Tell (exact_joints joints)
exact_tells [] e = e
exact_tells (Token seen ∷ joints) (says, others) = (
  λ source commented at front after sit.
      says source commented at front after (sits_so source commented at (front ++ seen.gap) seen (text joints ++ after) sit.0, sit.1),
  others,
)
exact_tells (Apart ∷ joints) e = e

exact_told : (sort : Sort) (kinds : List Terminal) → IsSeen sort kinds → IsSeen sort (without_named kinds)
exact_told sort (terminals.CommentWhole ∷ []) it = tt
exact_told sort (terminals.CommentTemplate ∷ []) it = tt
exact_told sort kinds it = seen_by sort (without_named kinds) it

exact_stand : (stack end : List Inside) (before : Before) (joints : List Joint) (after : List ℕ)
    → Stand stack before joints end after → Stand stack before (exact_joints joints) end after
exact_stand stack end before [] after s = s
exact_stand stack end before (Token seen ∷ joints) after (gap, some, (spaced, told), opening, token, rest) =
    (gap, some, (spaced, exact_told (sort_of seen.kind seen.bytes) seen.may_be told), opening, token, rest)
exact_stand stack end before (Apart ∷ joints) after s = s

exact_segment : {before end : Before} {bytes : List ℕ} {tokens : List Tok} {passed : List Written}
    {Behind : List ℕ → Type 0} → begins_dark passed ≡ true → Segment before bytes tokens passed end Behind
    → Segment before bytes (undollared tokens) (exact_of passed) end Behind
exact_segment {before} first it = record {
  joints = exact_joints it.joints;
  spelling = exact_text it.joints ∙ it.spelling;
  seen = exact_toks it.joints (ap begins_dark it.written ∙ first) ∙ ap undollared it.seen;
  written = exact_writtens it.joints ∙ ap exact_of it.written;
  last = exact_behind before it.joints ∙ it.last;
  tells = exact_tells it.joints it.tells;
  stand = λ stack after code f. exact_stand stack stack before it.joints after (it.stand stack after code f);
}

-- with a space before it, and without one directly behind a `(`
pub spaced_argument : (before : Before) → {signed : Bool} {bytes : List ℕ} {tokens : List Tok}
    → WrittenAs (AsValue signed) bytes tokens → IsArgument before false true bytes (undollared tokens)
spaced_argument before {signed} value =
    let it = value before true refl in
    let told = it.told modes.Expression refl in record {
      loose = it.passed;
      exact = exact_of it.passed;
      signed = signed;
      segment = exact_segment (value_dark told) it.segment;
      told = told;
      settles = value_told told;
    }

pub placed_argument : (spaced : Bool) → {signed : Bool} {bytes : List ℕ} {tokens : List Tok}
    → WrittenAs (AsValue signed) bytes tokens → IsArgument befores.Other false spaced bytes (undollared tokens)
placed_argument true value = spaced_argument befores.Other value
placed_argument false {signed} value =
    let it = value befores.Other false refl in
    let told = it.told modes.Expression refl in record {
      loose = it.passed;
      exact = exact_of it.passed;
      signed = signed;
      segment = exact_segment (value_dark told) it.segment;
      told = told;
      settles = value_told told;
    }

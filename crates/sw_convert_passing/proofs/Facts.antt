-- What is known of modes, terminals and sorts by themselves.
use Rattle.std.proofs.Common.{◌≡◌, Bool, true, false, ◌&&◌, refl}
use Rattle.sw_parse_terminals.specs.declared.terminal.Terminal.{Terminal}
use Rattle.sw_parse_terminals.specs.declared.terminal.Terminal.TheVariants as terminals
use Rattle.sw_parse_lexemes.specs.declared.sort.Sort.{Sort}
use Rattle.sw_parse_lexemes.specs.declared.sort.Sort.TheVariants as sorts
use Rattle.sw_parse_lexemes.specs.declared.state.Mode.{Mode}
use Rattle.sw_parse_lexemes.specs.declared.state.Mode.TheVariants as modes
use Rattle.sw_parse_lexemes.specs.Classes.{same, is_name, is_number, is_reserved, is_comment}
use Rattle.sw_parse_lexemes.specs.Names.{is, is_raw, is_bang, behind_dollar, constant_or_word, is_special_name}
use Rattle.sw_parse_lexemes.specs.Signs.{ends_operand, is_text, is_flag}
use Rattle.sw_parse_lexemes.specs.Steps.{inner_mode, stays}
use Rattle.sw_convert_passing.specs.Places.{is_value, separates, may_precede, stops}
use Rattle.sw_convert_passing.specs.Kinds.{is_keyword, keyword, is_bound, is_part}

pub no_and : (a b : Bool) → a ≡ false → (a && b) ≡ false
no_and true b e = absurd (cc)
no_and false b e = refl

pub and_no : (a b : Bool) → b ≡ false → (a && b) ≡ false
and_no true b e = e
and_no false b e = refl

pub both : (a b : Bool) → a ≡ true → b ≡ true → (a && b) ≡ true
both true b e f = f
both false b e f = absurd (cc)

pub and_left : (a b : Bool) → (a && b) ≡ true → a ≡ true
and_left true b e = refl
and_left false b e = e

pub and_right : (a b : Bool) → (a && b) ≡ true → b ≡ true
and_right true b e = e
and_right false b e = absurd (cc)

-- the modes of values
pub record ValueMode (mode : Mode) : Type 0 where
  pub raw : is_raw mode ≡ false
  pub text : is_text mode ≡ false
  pub steady : stays mode ≡ true

pub value_mode : (mode : Mode) → is_value mode ≡ true → ValueMode mode
value_mode modes.Expression e = record { raw = refl; text = refl; steady = refl }
value_mode modes.Ends e = record { raw = refl; text = refl; steady = refl }
value_mode modes.Bounds e = record { raw = refl; text = refl; steady = refl }
value_mode modes.BoundEnds e = record { raw = refl; text = refl; steady = refl }
value_mode modes.Params e = record { raw = refl; text = refl; steady = refl }
value_mode _ e = absurd (cc)

-- what brackets open in a value is a value, and what templates open is text
abbrev pub opens_value : Terminal → Bool
opens_value terminals.Paren = true
opens_value terminals.ConditionParen = true
opens_value terminals.Bracket = true
opens_value terminals.CallParen = true
opens_value terminals.WordInsert = true
opens_value terminals.PartInsert = true
opens_value _ = false

abbrev pub opens_text : Terminal → Bool
opens_text terminals.Template = true
opens_text terminals.UrlTemplate = true
opens_text _ = false

condition_inner : (mode : Mode) → is_value mode ≡ true → inner_mode mode terminals.ConditionParen ≡ modes.Expression
condition_inner modes.Media v = absurd (cc)
condition_inner _ v = refl

paren_inner : (mode : Mode) → inner_mode mode terminals.Paren ≡ modes.Expression
paren_inner modes.Media = refl
paren_inner _ = refl

bracket_inner : (mode : Mode) → inner_mode mode terminals.Bracket ≡ modes.Expression
bracket_inner modes.Media = refl
bracket_inner _ = refl

pub call_inner : (mode : Mode) → inner_mode mode terminals.CallParen ≡ modes.Expression
call_inner modes.Media = refl
call_inner _ = refl

word_inner : (mode : Mode) → inner_mode mode terminals.WordInsert ≡ modes.Expression
word_inner modes.Media = refl
word_inner _ = refl

part_inner : (mode : Mode) → inner_mode mode terminals.PartInsert ≡ modes.Expression
part_inner modes.Media = refl
part_inner _ = refl

-- the parentheses of a special function
pub raw_inner : (mode : Mode) → is_value mode ≡ true → inner_mode mode terminals.RawParen ≡ modes.Special
raw_inner modes.Raw v = absurd (cc)
raw_inner modes.Custom v = absurd (cc)
raw_inner _ v = refl

-- the modes in which functions are called
abbrev pub takes_calls : Mode → Bool
takes_calls modes.Special = true
takes_calls mode = is_value mode

pub value_calls : (mode : Mode) → is_value mode ≡ true → takes_calls mode ≡ true
value_calls modes.Special v = refl
value_calls _ v = v

template_inner : (mode : Mode) → inner_mode mode terminals.Template ≡ modes.Text
template_inner modes.Media = refl
template_inner _ = refl

url_inner : (mode : Mode) → inner_mode mode terminals.UrlTemplate ≡ modes.Text
url_inner modes.Media = refl
url_inner _ = refl

pub inner_value : (mode : Mode) (terminal : Terminal) → is_value mode ≡ true → opens_value terminal ≡ true
    → inner_mode mode terminal ≡ modes.Expression
inner_value mode terminals.Paren v o = paren_inner mode
inner_value mode terminals.ConditionParen v o = condition_inner mode v
inner_value mode terminals.Bracket v o = bracket_inner mode
inner_value mode terminals.CallParen v o = call_inner mode
inner_value mode terminals.WordInsert v o = word_inner mode
inner_value mode terminals.PartInsert v o = part_inner mode
inner_value mode _ v o = absurd (cc)

pub inner_text : (mode : Mode) (terminal : Terminal) → opens_text terminal ≡ true
    → inner_mode mode terminal ≡ modes.Text
inner_text mode terminals.Template o = template_inner mode
inner_text mode terminals.UrlTemplate o = url_inner mode
inner_text mode _ o = absurd (cc)

-- behind these terminals a token is told by nothing before it
pub record Fresh (before : Terminal) : Type 0 where
  pub dollar : behind_dollar before ≡ false
  pub hash : is before terminals.Hash ≡ false
  pub bang : is_bang before ≡ false
  pub flag : is_flag before ≡ false
  pub owned : is before terminals.OwnerDot ≡ false
  pub owner : is before terminals.Owner ≡ false
  pub special : is before terminals.Special ≡ false
  pub as_ : is before terminals.As ≡ false
  pub prefix : is before terminals.Prefix ≡ false

pub fresh : (before : Terminal) → may_precede before ≡ true → Fresh before
fresh terminals.Dollar e = absurd (cc)
fresh terminals.DollarNamed e = absurd (cc)
fresh terminals.OwnerDollar e = absurd (cc)
fresh terminals.Hash e = absurd (cc)
fresh terminals.Bang e = absurd (cc)
fresh terminals.Ending e = absurd (cc)
fresh terminals.Default e = absurd (cc)
fresh terminals.Global e = absurd (cc)
fresh terminals.OwnerDot e = absurd (cc)
fresh terminals.Owner e = absurd (cc)
fresh terminals.Special e = absurd (cc)
fresh terminals.As e = absurd (cc)
fresh terminals.Prefix e = absurd (cc)
fresh _ e = record {
  dollar = refl;
  hash = refl;
  bang = refl;
  flag = refl;
  owned = refl;
  owner = refl;
  special = refl;
  as_ = refl;
  prefix = refl;
}

pub operand_precedes : (terminal : Terminal) → ends_operand terminal ≡ true → may_precede terminal ≡ true
operand_precedes terminals.Number e = refl
operand_precedes terminals.Quoted e = refl
operand_precedes terminals.TemplateEnd e = refl
operand_precedes terminals.HashName e = refl
operand_precedes terminals.True e = refl
operand_precedes terminals.False e = refl
operand_precedes terminals.Null e = refl
operand_precedes terminals.Url e = refl
operand_precedes terminals.UrlEnd e = refl
operand_precedes terminals.VariableName e = refl
operand_precedes terminals.Word e = refl
operand_precedes terminals.Part e = refl
operand_precedes terminals.InsertEnd e = refl
operand_precedes terminals.Range e = refl
operand_precedes terminals.Ampersand e = refl
operand_precedes terminals.Important e = refl
operand_precedes terminals.ParenEnd e = refl
operand_precedes terminals.BracketEnd e = refl
operand_precedes terminals.RawParenEnd e = refl
operand_precedes _ e = absurd (cc)

pub operand_no_comma : (terminal : Terminal) → ends_operand terminal ≡ true → is terminal terminals.Comma ≡ false
operand_no_comma terminals.Comma e = absurd (cc)
operand_no_comma _ e = refl

pub separated_precedes : (terminal : Terminal) → separates terminal ≡ true → may_precede terminal ≡ true
separated_precedes terminals.Comma e = refl
separated_precedes terminals.Colon e = refl
separated_precedes terminals.Ellipsis e = refl
separated_precedes _ e = absurd (cc)

pub separated_no_operand : (terminal : Terminal) → separates terminal ≡ true → ends_operand terminal ≡ false
separated_no_operand terminals.Comma e = refl
separated_no_operand terminals.Colon e = refl
separated_no_operand terminals.Ellipsis e = refl
separated_no_operand _ e = absurd (cc)

-- what stands directly behind a value begins nothing that goes on with it
pub record Quiet (sort : Sort) : Type 0 where
  pub insert : same sort sorts.OpenInsert ≡ false
  pub dot : same sort sorts.Dot ≡ false
  pub paren : same sort sorts.OpenParen ≡ false

pub quiet : (sort : Sort) → stops sort ≡ true → Quiet sort
quiet sorts.OpenInsert e = absurd (cc)
quiet sorts.Dot e = absurd (cc)
quiet sorts.OpenParen e = absurd (cc)
quiet _ e = record { insert = refl; dot = refl; paren = refl }

pub part_quiet : (sort : Sort) → is_part sort ≡ true → Quiet sort
part_quiet sorts.OpenInsert e = absurd (cc)
part_quiet sorts.Dot e = absurd (cc)
part_quiet sorts.OpenParen e = absurd (cc)
part_quiet _ e = record { insert = refl; dot = refl; paren = refl }

pub word_of : (sort : Sort) → is_reserved sort ≡ false → constant_or_word sort ≡ terminals.Word
word_of sorts.True e = absurd (cc)
word_of sorts.False e = absurd (cc)
word_of sorts.Null e = absurd (cc)
word_of sorts.And e = absurd (cc)
word_of sorts.Or e = absurd (cc)
word_of sorts.Not e = absurd (cc)
word_of _ e = refl

-- the keywords
pub record Keyword (sort : Sort) : Type 0 where
  pub named : is_name sort ≡ true
  pub no_special : is_special_name sort ≡ false
  pub no_bound : is_bound sort ≡ false
  pub told : constant_or_word sort ≡ keyword sort

pub keyword_is : (sort : Sort) → is_keyword sort ≡ true → Keyword sort
keyword_is sorts.True e = record { named = refl; no_special = refl; no_bound = refl; told = refl }
keyword_is sorts.False e = record { named = refl; no_special = refl; no_bound = refl; told = refl }
keyword_is sorts.Null e = record { named = refl; no_special = refl; no_bound = refl; told = refl }
keyword_is sorts.And e = record { named = refl; no_special = refl; no_bound = refl; told = refl }
keyword_is sorts.Or e = record { named = refl; no_special = refl; no_bound = refl; told = refl }
keyword_is sorts.Not e = record { named = refl; no_special = refl; no_bound = refl; told = refl }
keyword_is _ e = absurd (cc)

pub name_code : (sort : Sort) → is_name sort ≡ true → is_comment sort ≡ false
name_code sorts.Comment e = absurd (cc)
name_code sorts.CommentTemplate e = absurd (cc)
name_code _ e = refl

pub number_code : (sort : Sort) → is_number sort ≡ true → is_comment sort ≡ false
number_code sorts.Digits e = refl
number_code sorts.Number e = refl
number_code _ e = absurd (cc)

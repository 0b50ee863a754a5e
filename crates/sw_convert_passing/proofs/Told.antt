-- All that is written of a value is told, by how it is written.
use Rattle.std.proofs.Common.{Bool, false, List, refl}
use Rattle.sw_parse_lexemes.specs.declared.sort.Sort.{Sort}
use Rattle.sw_parse_lexemes.specs.declared.sort.Sort.TheVariants as sorts
use Rattle.sw_parse_lexemes.specs.declared.state.Mode.{Mode}
use Rattle.sw_convert_passing.specs.Written.{Written}
use Rattle.sw_convert_passing.specs.Values.{Value, number, negative, positive, quoted, template, hash, constant, lone_value, url_template, variable, owned_variable, owned_call, word, call, important, in_parens, in_brackets, negated, prefixed, linked, divided, beside, special, seamed, Word, named, begun, begun_minus, Parts, no_part, part, part_insert, Call, arguments, Pieces, no_piece, text_piece, piece_insert, Items, no_items, items, seamed_items, Row, first, separated, further, Special, text_end, text_token, text_brace, text_name, text_dollar, text_sign, text_comma, text_number, text_signed, text_variable, text_owned_variable, text_call, text_owned_call, text_insert, text_parens, text_brackets, text_seam, Settles, settled}
use Rattle.sw_convert_passing.specs.Laws.{ValuesAreTold, RowsAreTold}
use Rattle.sw_convert_passing.proofs.Entries.{IsTold}
use Rattle.sw_convert_passing.proofs.Leaves.{number_told, negative_told, positive_told, quoted_told, hash_told, constant_told, lone_value_told, variable_told, owned_variable_told, important_told}
use Rattle.sw_convert_passing.proofs.Enclosed.{IsInner, IsCall, in_parens_told, in_brackets_told, call_told}
use Rattle.sw_convert_passing.proofs.Words.{IsWord, IsParts, Going, no_part_told, part_told, part_insert_told, begun_told, begun_minus_told, named_told, going_end, going_part, going_insert, word_told, CallBegins, called_told, owned_call_told}
use Rattle.sw_convert_passing.proofs.Settling.{settle, stand_loose}
use Rattle.sw_convert_passing.proofs.Templates.{IsPieces, Piecely, no_piece_told, text_piece_told, piece_insert_told, template_told}
use Rattle.sw_convert_passing.proofs.Lists.{linked_told, divided_told, beside_told, seamed_told, negated_told, prefixed_told}
use Rattle.sw_convert_passing.proofs.Special.{IsSpecial, text_end_told, text_token_told, text_brace_told, text_name_told, text_dollar_told, text_sign_told, text_comma_told, text_number_told, text_signed_told, text_variable_told, text_seam_told}
use Rattle.sw_convert_passing.proofs.SpecialCalls.{text_owned_variable_told, text_call_told, text_owned_call_told, text_insert_told, text_parens_told, text_brackets_told, special_told}
use Rattle.sw_convert_passing.proofs.Rows.{IsRow, first_told, separated_told, further_told, no_items_told, items_told, seamed_items_told}

going : (called : Bool) {parts : List Written} → Parts parts → Going called parts
going called no_part = going_end called
going called (part {parts} sort p more) = going_part called sort parts p
going called (part_insert {inner} {parts} inside more) = going_insert called inner parts

paren_first : {call : List Written} → Call call → CallBegins call
paren_first (arguments inside) plains at to stand = (stand.0.spaced, stand.0.sort)
paren_first (settled loose s) plains at to stand = paren_first loose plains at to (stand_loose plains s at to stand)

settled_told : {loose exact : List Written} → IsCall loose → Settles loose exact → IsCall exact
settled_told told s mode plains frames state at to takes within worded operand stand =
    let place = stand_loose plains s at to stand in
    let (it, ends, no_word) = told mode plains frames state at to takes within worded operand place in
    (record { lexemes = it.lexemes; end = it.end; passed = settle plains s it.passed place; within = it.within }, ends, no_word)

texts : Piecely sorts.Text
texts = record { alone = refl; code = refl; plainly = record { goes = refl; begins = refl }; word = refl }

pub url_texts : Piecely sorts.Piece
url_texts = record { alone = refl; code = refl; plainly = record { goes = refl; begins = refl }; word = refl }

mutual
  value_told : {mode : Mode} {spaced signed : Bool} {tokens : List Written} → Value mode spaced signed tokens
      → IsTold mode spaced signed tokens
  value_told (number sort n) = number_told sort n
  value_told (negative sort n) = negative_told sort n
  value_told (positive sort n) = positive_told sort n
  value_told (quoted sort q) = quoted_told sort q
  value_told (template {inner = inner} pieces) =
      template_told sorts.Template sorts.TemplateEnd inner
      (record {
        alone = refl;
        code = refl;
        text = refl;
        opened = refl;
        begins = refl;
        last_alone = refl;
        last_code =
            refl;
        closing = refl;
        operand = refl;
      })
      (pieces_told pieces texts)
  value_told (hash sort h) = hash_told sort h
  value_told (constant sort c) = constant_told sort c
  value_told (lone_value sort l) = lone_value_told sort l
  value_told (url_template {inner = inner} pieces) =
      template_told sorts.UrlTemplate sorts.UrlEnd inner
      (record {
        alone = refl;
        code = refl;
        text = refl;
        opened = refl;
        begins = refl;
        last_alone = refl;
        last_code =
            refl;
        closing = refl;
        operand = refl;
      })
      (pieces_told pieces url_texts)
  value_told (variable name n) = variable_told name n
  value_told (owned_variable owner name o n) = owned_variable_told owner name o n
  value_told (owned_call {name = name} {call = called} owner o by arguing) = owned_call_told owner name called o
      (name_told by) (arguments_told arguing) (paren_first arguing)
  value_told (word {name = name} by) = word_told name (name_told by)
  value_told (call {name = name} {call = called} by arguing) = called_told name called (name_told by)
      (arguments_told arguing) (paren_first arguing)
  value_told important = important_told
  value_told (in_parens {inner = inner} inside) = in_parens_told inner (inner_told inside)
  value_told (in_brackets {inner = inner} inside) = in_brackets_told inner (inner_told inside)
  value_told (negated {value = value} v) = negated_told value (value_told v)
  value_told (prefixed {value = value} sort p v) = prefixed_told value (value_told v) sort p
  value_told (linked {left = left} {right = right} v sort o u) = linked_told left right sort (value_told v) o
      (value_told u)
  value_told (divided {left = left} {right = right} v u) = divided_told left right (value_told v) (value_told u)
  value_told (beside {left = left} {right = right} v u) = beside_told left right (value_told v) (value_told u)
  value_told (special {text = text} blank inside) = special_told blank text (text_told inside)
  value_told (seamed {value = value} v) = seamed_told value (value_told v)

  name_told : {mode : Mode} {spaced owned called : Bool} {tokens : List Written} → Word mode spaced owned called tokens
      → IsWord mode spaced owned called tokens
  name_told (named {called = called} {parts = parts} sort n w more) = named_told sort parts n w (parts_told more)
      (going called more)
  name_told (begun {inner = inner} {parts = parts} inside more) = begun_told inner parts (inner_told inside)
      (parts_told more)
  name_told (begun_minus {inner = inner} {parts = parts} inside more) = begun_minus_told inner parts
      (inner_told inside) (parts_told more)

  pub parts_told : {tokens : List Written} → Parts tokens → IsParts tokens
  parts_told no_part = no_part_told
  parts_told (part {parts = parts} sort p more) = part_told sort parts p (parts_told more)
  parts_told (part_insert {inner = inner} {parts = parts} inside more) = part_insert_told inner parts
      (inner_told inside) (parts_told more)

  arguments_told : {tokens : List Written} → Call tokens → IsCall tokens
  arguments_told (arguments {inner = inner} inside) = call_told inner (inner_told inside)
  arguments_told (settled loose s) = settled_told (arguments_told loose) s

  pub pieces_told : {what : Sort} {tokens : List Written} → Pieces what tokens → Piecely what → IsPieces tokens
  pieces_told no_piece p = no_piece_told
  pieces_told (text_piece {what = what} {pieces = pieces} more) p = text_piece_told what pieces p (pieces_told more p)
  pieces_told (piece_insert {inner = inner} {pieces = pieces} inside more) p = piece_insert_told inner pieces
      (inner_told inside) (pieces_told more p)

  pub inner_told : {tokens : List Written} → Items tokens → IsInner tokens
  inner_told no_items = no_items_told
  inner_told (items {row = row} inside) = items_told row (row_told inside)
  inner_told (seamed_items {row = row} inside) = seamed_items_told row (row_told inside)

  pub row_told : {mode : Mode} {spaced ended : Bool} {tokens : List Written} → Row mode spaced ended tokens
      → IsRow mode spaced ended tokens
  row_told (first {value = value} v) = first_told value (value_told v)
  row_told (separated {row = row} before sort s) = separated_told row sort (row_told before) s
  row_told (further {row = row} {value = value} before v) = further_told row value (row_told before) (value_told v)

  text_told : {inner ended : Bool} {tokens : List Written} → Special inner ended tokens → IsSpecial inner ended tokens
  text_told (text_end {inner} {ended}) = text_end_told inner ended
  text_told (text_token {inner = inner} {ended = ended} {spaced = spaced} {rest = rest} sort r more) =
      text_token_told inner ended spaced rest sort r (text_told more)
  text_told (text_brace {ended = ended} {spaced = spaced} {rest = rest} sort r more) = text_brace_told ended spaced
      rest sort r (text_told more)
  text_told (text_name {inner = inner} {ended = ended} {spaced = spaced} {rest = rest} sort n r more) =
      text_name_told inner ended spaced rest sort n r (text_told more)
  text_told (text_dollar {inner = inner} {ended = ended} {spaced = spaced} {rest = rest} n more) = text_dollar_told
      inner ended spaced rest n (text_told more)
  text_told (text_sign {inner = inner} {ended = ended} {spaced = spaced} {rest = rest} sort p n more) =
      text_sign_told inner ended spaced rest sort p n (text_told more)
  text_told (text_comma {inner = inner} {ended = ended} {spaced = spaced} {rest = rest} more) = text_comma_told inner
      ended spaced rest (text_told more)
  text_told (text_number {inner = inner} {ended = ended} {spaced = spaced} {rest = rest} sort n more) =
      text_number_told inner ended spaced rest sort n (text_told more)
  text_told (text_signed {inner = inner} {ended = ended} {spaced = spaced} {rest = rest} sort digits n s more) =
      text_signed_told inner ended spaced rest sort digits n s (text_told more)
  text_told (text_variable {inner = inner} {ended = ended} {spaced = spaced} {others = others} {rest = rest} name n more) =
      text_variable_told inner ended spaced rest others name n (text_told more)
  text_told (text_owned_variable {inner = inner} {ended = ended} {spaced = spaced} {rest = rest} owner name o n more)
      = text_owned_variable_told inner ended spaced rest owner name o n (text_told more)
  text_told (text_call {inner = inner} {ended = ended} {spaced = spaced} {call = called} {rest = rest} name n s
      arguing more) =
      text_call_told inner ended spaced rest name called n s (arguments_told arguing) (paren_first arguing)
      (text_told more)
  text_told (text_owned_call {inner = inner} {ended = ended} {spaced = spaced} {call = called} {rest = rest} owner
      name o n arguing more) =
      text_owned_call_told inner ended spaced rest owner name called o n (arguments_told arguing)
      (paren_first arguing) (text_told more)
  text_told (text_insert {inner = inner} {ended = ended} {spaced = spaced} {inside = inside} {rest = rest}
      inside_items more) = text_insert_told inner ended spaced rest inside (inner_told inside_items) (text_told more)
  text_told (text_parens {inner = inner} {ended = ended} {spaced = spaced} {inside = inside} {rest = rest} blank
      inside_told more) = text_parens_told inner ended spaced blank inside rest (text_told inside_told) (text_told more)
  text_told (text_brackets {inner = inner} {ended = ended} {spaced = spaced} {inside = inside} {rest = rest} blank
      inside_told more) = text_brackets_told inner ended spaced blank inside rest (text_told inside_told)
      (text_told more)
  text_told (text_seam {inner = inner} {ended = ended} {rest = rest} more) = text_seam_told inner ended false rest
      (text_told more)

pub values_are_told : ValuesAreTold
values_are_told mode spaced signed tokens value plains frames state at to is_one within ready stand closed =
    (value_told value).told plains frames state at to (record { value = is_one; within = within; ready = ready })
    stand closed

pub rows_are_told : RowsAreTold
rows_are_told mode spaced ended tokens row plains frames state at to is_one no_params within before operand comma
    no_word stand closed =
    (row_told row).told plains frames state at to is_one no_params within
    (record { before = before; operand = operand; comma = comma; word = no_word }) stand closed

use Rattle.sw_convert_spelling.proofs.StringTokens.{string_token, template_token, text_token, insert_token, end_token}
use Rattle.sw_convert_spelling.proofs.laws.strings_are_tokens.Goals as goal

pub returns : goal.returns
returns c = record {
  whole = string_token;
  opens = template_token;
  text = text_token;
  insert = insert_token;
  end = end_token;
}

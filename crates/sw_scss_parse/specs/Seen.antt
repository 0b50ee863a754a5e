-- What a list of tokens is to the grammar: the value that the table reads from. This project's own.
use Rattle.std.specs.Prelude.{List, map, All}
use Rattle.sw_tokens.specs.Listed.{Listed}
use Rattle.sw_parse_terminals.specs.Lies.{LexemeLies}
use Rattle.sw_parse_terminals.specs.declared.lexeme.Lexeme.{Lexeme}
use Rattle.sw_parse_lexemes.specs.Lexemes.{lexemes_of}
use Rattle.sw_parse_table.specs.declared.source.Source.{Source}
use Rattle.sw_scss_parse.specs.Laid.{laid, laid_lie}

-- tokens with what each is to the grammar, where these lie in the text
abbrev pub source_with : (listed : Listed) (lexemes : List Lexeme) → All (LexemeLies listed.sheet.bytes) lexemes → Source
source_with listed lexemes lie =
    record {
      tokens = record { ref_ptr = (0, 0); now = listed };
      lexemes = record { ref_ptr = (0, 0); now = lexemes };
      lie = lie;
    }

-- What the table reads for a list of tokens. Each of them lies in its text, so each lexeme is as `lexemes_of` has it.
unfoldable pub source_of : Listed → Source
source_of listed =
    source_with listed (map (laid listed.sheet.bytes) (lexemes_of listed.sheet.bytes listed.list))
    (laid_lie listed.sheet.bytes (lexemes_of listed.sheet.bytes listed.list))

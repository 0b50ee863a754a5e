-- Classes of tokens by themselves.
use Rattle.std.specs.Prelude.{Bool, true, false}
use Rattle.sw_parse_lexemes.specs.declared.sort.Sort.{Sort}
use Rattle.sw_parse_lexemes.specs.declared.sort.Sort.TheVariants as sorts

-- all names, words among them
abbrev pub is_name : Sort → Bool
is_name sorts.Name = true
is_name sorts.DashedName = true
is_name sorts.True = true
is_name sorts.False = true
is_name sorts.Null = true
is_name sorts.And = true
is_name sorts.Or = true
is_name sorts.Not = true
is_name sorts.As = true
is_name sorts.With = true
is_name sorts.Show = true
is_name sorts.Hide = true
is_name sorts.Using = true
is_name sorts.If = true
is_name sorts.In = true
is_name sorts.From = true
is_name sorts.Through = true
is_name sorts.To = true
is_name sorts.Only = true
is_name sorts.Important = true
is_name sorts.Default = true
is_name sorts.Global = true
is_name sorts.Special = true
is_name sorts.Stays = true
is_name _ = false

-- names that are no words
abbrev pub is_reserved : Sort → Bool
is_reserved sorts.True = true
is_reserved sorts.False = true
is_reserved sorts.Null = true
is_reserved sorts.And = true
is_reserved sorts.Or = true
is_reserved sorts.Not = true
is_reserved _ = false

-- numbers with their units
abbrev pub is_number : Sort → Bool
is_number sorts.Digits = true
is_number sorts.Number = true
is_number _ = false

-- what goes on with a word where it stands directly behind it
abbrev pub goes_on : Sort → Bool
goes_on sorts.Digits = true
goes_on sorts.Minus = true
goes_on sorts.OpenInsert = true
goes_on sort = is_name sort

-- what begins a comment
abbrev pub is_comment : Sort → Bool
is_comment sorts.Comment = true
is_comment sorts.CommentTemplate = true
is_comment _ = false

-- the character that begins a name begins these
abbrev pub starts_name : Sort → Bool
starts_name sorts.Url = true
starts_name sorts.UrlTemplate = true
starts_name sorts.Range = true
starts_name sort = is_name sort

-- tokens of one of the sorts that are looked for
abbrev pub same : Sort → Sort → Bool
same sorts.OpenInsert sorts.OpenInsert = true
same sorts.Colon sorts.Colon = true
same sorts.Dollar sorts.Dollar = true
same sorts.Dot sorts.Dot = true
same sorts.OpenParen sorts.OpenParen = true
same sorts.Not sorts.Not = true
same sorts.As sorts.As = true
same sorts.If sorts.If = true
same sorts.Star sorts.Star = true
same sorts.Default sorts.Default = true
same sorts.Global sorts.Global = true
same sorts.Minus sorts.Minus = true
same sorts.OpenBrace sorts.OpenBrace = true
same _ _ = false

-- the keywords behind whose comments no statement begins
abbrev pub is_else : Sort → Bool
is_else sorts.AtElse = true
is_else sorts.AtElseIf = true
is_else _ = false

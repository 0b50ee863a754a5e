-- The numbers of the terminals, and sets of them.
use Rattle.std.specs.Prelude.{ℕ, zero, suc, List, [], ◌∷◌}
use Rattle.sw_parse_terminals.specs.declared.terminal.Terminal.{Terminal}
use Rattle.sw_parse_terminals.specs.declared.terminal.Terminal.TheVariants as terminals

-- the terminals, numbered from 1; 0 is the end of the text
abbrev pub number_of : Terminal → ℕ
number_of terminals.Semicolon = 1
number_of terminals.Open = 2
number_of terminals.Close = 3
number_of terminals.Comma = 4
number_of terminals.Colon = 5
number_of terminals.Raw = 6
number_of terminals.RawParen = 7
number_of terminals.RawBracket = 8
number_of terminals.RawBrace = 9
number_of terminals.Insert = 10
number_of terminals.RawParenEnd = 11
number_of terminals.RawBracketEnd = 12
number_of terminals.RawBraceEnd = 13
number_of terminals.InsertEnd = 14
number_of terminals.TextPiece = 15
number_of terminals.TemplateEnd = 16
number_of terminals.Piece = 17
number_of terminals.UrlEnd = 18
number_of terminals.CommentEnd = 19
number_of terminals.Number = 20
number_of terminals.Sign = 21
number_of terminals.Quoted = 22
number_of terminals.Template = 23
number_of terminals.Hash = 24
number_of terminals.True = 25
number_of terminals.False = 26
number_of terminals.Null = 27
number_of terminals.Url = 28
number_of terminals.UrlTemplate = 29
number_of terminals.Special = 30
number_of terminals.Dollar = 31
number_of terminals.DollarNamed = 32
number_of terminals.Owner = 33
number_of terminals.Word = 34
number_of terminals.WordMinus = 35
number_of terminals.WordInsert = 36
number_of terminals.Range = 37
number_of terminals.Ampersand = 38
number_of terminals.Bang = 39
number_of terminals.Paren = 40
number_of terminals.ConditionParen = 41
number_of terminals.Bracket = 42
number_of terminals.PrefixPlus = 43
number_of terminals.PrefixMinus = 44
number_of terminals.PrefixSlash = 45
number_of terminals.Not = 46
number_of terminals.Ending = 47
number_of terminals.HashName = 48
number_of terminals.VariableName = 49
number_of terminals.OwnerDot = 50
number_of terminals.OwnerDollar = 51
number_of terminals.Part = 52
number_of terminals.PartInsert = 53
number_of terminals.CallParen = 54
number_of terminals.ParenEnd = 55
number_of terminals.BracketEnd = 56
number_of terminals.Or = 57
number_of terminals.And = 58
number_of terminals.Equal = 59
number_of terminals.NotEqual = 60
number_of terminals.Less = 61
number_of terminals.LessEqual = 62
number_of terminals.Greater = 63
number_of terminals.GreaterEqual = 64
number_of terminals.Plus = 65
number_of terminals.Minus = 66
number_of terminals.Times = 67
number_of terminals.Divide = 68
number_of terminals.Modulo = 69
number_of terminals.Important = 70
number_of terminals.Default = 71
number_of terminals.Global = 72
number_of terminals.Ellipsis = 73
number_of terminals.Equals = 74
number_of terminals.Custom = 75
number_of terminals.CommentWhole = 76
number_of terminals.CommentTemplate = 77
number_of terminals.AtUse = 78
number_of terminals.AtForward = 79
number_of terminals.AtFunction = 80
number_of terminals.AtMixin = 81
number_of terminals.AtInclude = 82
number_of terminals.AtContent = 83
number_of terminals.AtReturn = 84
number_of terminals.AtWarn = 85
number_of terminals.AtDebug = 86
number_of terminals.AtError = 87
number_of terminals.AtIf = 88
number_of terminals.AtElse = 89
number_of terminals.AtElseIf = 90
number_of terminals.AtElseIfWhole = 91
number_of terminals.AtEach = 92
number_of terminals.AtFor = 93
number_of terminals.AtWhile = 94
number_of terminals.AtMedia = 95
number_of terminals.AtSupports = 96
number_of terminals.AtRoot = 97
number_of terminals.AtCharset = 98
number_of terminals.AtImport = 99
number_of terminals.AtExtend = 100
number_of terminals.AtOther = 101
number_of terminals.AtInsert = 102
number_of terminals.As = 103
number_of terminals.With = 104
number_of terminals.Show = 105
number_of terminals.Hide = 106
number_of terminals.Using = 107
number_of terminals.If = 108
number_of terminals.In = 109
number_of terminals.From = 110
number_of terminals.Through = 111
number_of terminals.To = 112
number_of terminals.Only = 113
number_of terminals.NotType = 114
number_of terminals.Named = 115
number_of terminals.LoadUrl = 116
number_of terminals.Plain = 117
number_of terminals.Star = 118
number_of terminals.Prefix = 119
number_of terminals.PrefixStar = 120
number_of terminals.HeadParen = 121
number_of terminals.Other = 122
number_of terminals.SpecialComma = 123

-- the set of these terminals
abbrev pub these : List Terminal → List ℕ
these [] = []
these (terminal ∷ rest) = number_of terminal ∷ these rest

-- so many terminals from one on
abbrev pub numbers_from : ℕ → ℕ → List ℕ
numbers_from from zero = []
numbers_from from (suc n) = from ∷ numbers_from (suc from) n

abbrev pub just : Terminal → List ℕ
just terminal = number_of terminal ∷ []

-- When two sheets are alike (this project's own): they are equal once three things are set aside. Where anything stands
-- is one. In the raw text of rules and at-rules each run of white space outside strings is one space, and a loud comment
-- is the list of its lines.
use Rattle.std.specs.Prelude.{◌≡◌, List, [], ◌∷◌, Option, Some, None}
use Rattle.sw_text.specs.declared.place.Span.{Span}
use Rattle.sw_tree.specs.declared.callable.Callable.{Callable}
use Rattle.sw_tree.specs.declared.callable.Content.{Content}
use Rattle.sw_tree.specs.declared.callable.Mixin.{Mixin}
use Rattle.sw_tree.specs.declared.callable.Param.{Param}
use Rattle.sw_tree.specs.declared.callable.Params.{Params}
use Rattle.sw_tree.specs.declared.expr.Qualified.{Qualified}
use Rattle.sw_tree.specs.declared.load.Forward.{Forward}
use Rattle.sw_tree.specs.declared.load.Given.{Given}
use Rattle.sw_tree.specs.declared.load.Use.{Use}
use Rattle.sw_tree.specs.declared.sheet.Sheet.{Sheet}
use Rattle.sw_tree.specs.declared.statement.Assignment.{Assignment}
use Rattle.sw_tree.specs.declared.statement.AtRoot.{AtRoot}
use Rattle.sw_tree.specs.declared.statement.AtRule.{AtRule}
use Rattle.sw_tree.specs.declared.statement.Bounds.{Bounds}
use Rattle.sw_tree.specs.declared.statement.Branch.{Branch}
use Rattle.sw_tree.specs.declared.statement.ContentCall.{ContentCall}
use Rattle.sw_tree.specs.declared.statement.Custom.{Custom}
use Rattle.sw_tree.specs.declared.statement.Declaration.{Declaration}
use Rattle.sw_tree.specs.declared.statement.Each.{Each}
use Rattle.sw_tree.specs.declared.statement.Extend.{Extend}
use Rattle.sw_tree.specs.declared.statement.For.{For}
use Rattle.sw_tree.specs.declared.statement.Import.{Import}
use Rattle.sw_tree.specs.declared.statement.Media.{Media}
use Rattle.sw_tree.specs.declared.statement.Properties.{Properties}
use Rattle.sw_tree.specs.declared.statement.Return.{Return}
use Rattle.sw_tree.specs.declared.statement.Rule.{Rule}
use Rattle.sw_tree.specs.declared.statement.Say.{Say}
use Rattle.sw_tree.specs.declared.statement.Statement.{Statement}
use Rattle.sw_tree.specs.declared.statement.Statement.TheVariants as statements
use Rattle.sw_tree.specs.declared.statement.Supports.{Supports}
use Rattle.sw_tree.specs.declared.statement.Variable.{Variable}
use Rattle.sw_tree.specs.declared.statement.While.{While}
use Rattle.sw_tree.specs.declared.text.Text.{Text}
use Rattle.sw_convert_alike.specs.Comments.{lined}
use Rattle.sw_convert_alike.specs.Expressions.{Like, LikeArguments, LikeParts, LikePieces, LikeText, space_of}
use Rattle.sw_convert_alike.specs.RawText.{one_line}

-- ---- what stands in statements

-- both are missing, or both stand there and are alike
abbrev pub LikeOption : {A : Type 0} → (A → A → Type 0) → Option A → Option A → Type 0
LikeOption Alike None None = Unit {0}
LikeOption Alike (Some a) (Some b) = Alike a b
LikeOption Alike _ _ = ⊥

-- as many, and each like the one at its place
abbrev pub LikeEach : {A : Type 0} → (A → A → Type 0) → List A → List A → Type 0
LikeEach Alike [] [] = Unit {0}
LikeEach Alike (a ∷ xs) (b ∷ ys) = Alike a b × LikeEach Alike xs ys
LikeEach Alike _ _ = ⊥

-- raw texts are the same in one line
abbrev pub LikeRaw : Text → Text → Type 0
LikeRaw a b = LikePieces (one_line a.parts) (one_line b.parts)

-- comments have the same lines
abbrev pub LikeComment : Text → Text → Type 0
LikeComment a b = LikeParts (lined a.parts) (lined b.parts)

abbrev pub LikeQualified : Qualified → Qualified → Type 0
LikeQualified a b = (a.namespace.name ≡ b.namespace.name) × (a.name ≡ b.name)

abbrev pub LikeParam : Param → Param → Type 0
LikeParam a b = (a.name ≡ b.name) × LikeOption Like a.default b.default

abbrev pub LikeParams : Params → Params → Type 0
LikeParams a b = LikeEach LikeParam a.items b.items × (a.rest ≡ b.rest)

abbrev pub LikeGiven : Given → Given → Type 0
LikeGiven a b = (a.name ≡ b.name) × Like a.value b.value × (a.default ≡ b.default)

abbrev pub LikeUse : Use → Use → Type 0
LikeUse a b =
    (a.url.text ≡ b.url.text) × (a.namespace ≡ b.namespace) × LikeEach LikeGiven a.configuration b.configuration

abbrev pub LikeForward : Forward → Forward → Type 0
LikeForward a b =
    (a.url.text ≡ b.url.text) × (a.prefix ≡ b.prefix) × (a.filter ≡ b.filter)
    × LikeEach LikeGiven a.configuration b.configuration

abbrev pub LikeMixin : Mixin → Mixin → Type 0
LikeMixin a b =
    (space_of a.namespace ≡ space_of b.namespace) × (a.name ≡ b.name) × LikeArguments a.arguments b.arguments

abbrev pub LikeBounds : Bounds → Bounds → Type 0
LikeBounds a b = Like a.from b.from × Like a.to b.to × (a.through ≡ b.through)

-- ---- statements

mutual
  pub data LikeStatement : Statement → Statement → Type 0 where
    variable : {a b : Variable} → a.name ≡ b.name → Like a.value b.value → a.flags ≡ b.flags
        → LikeStatement (statements.Variable a) (statements.Variable b)
    assignment : {a b : Assignment} → LikeQualified a.target b.target → Like a.value b.value → a.flags ≡ b.flags
        → LikeStatement (statements.Assignment a) (statements.Assignment b)
    declaration : {a b : Declaration} → LikeText a.property b.property → Like a.value b.value
        → LikeStatement (statements.Declaration a) (statements.Declaration b)
    properties : (a b : Properties) → LikeText a.property b.property → LikeOption Like a.value b.value
        → LikeBlock a.block b.block → LikeStatement (statements.Properties a) (statements.Properties b)
    custom : {a b : Custom} → LikeText a.property b.property → LikeOption LikeText a.value b.value
        → LikeStatement (statements.Custom a) (statements.Custom b)
    rule : (a b : Rule) → LikeRaw a.selector b.selector → LikeBlock a.block b.block
        → LikeStatement (statements.Rule a) (statements.Rule b)
    use_ : {a b : Use} → LikeUse a b → LikeStatement (statements.Use a) (statements.Use b)
    forward : {a b : Forward} → LikeForward a b → LikeStatement (statements.Forward a) (statements.Forward b)
    callable : (a b : Callable) → a.kind ≡ b.kind → a.name ≡ b.name → LikeParams a.params b.params
        → LikeBlock a.block b.block → LikeStatement (statements.Callable a) (statements.Callable b)
    include : {a b : Mixin} {content other : Option Content} {span span' : Span} → LikeMixin a b
        → LikeContent content other → LikeStatement (statements.Include a content span) (statements.Include b other span')
    content : {a b : ContentCall} → LikeArguments a.arguments b.arguments
        → LikeStatement (statements.Content a) (statements.Content b)
    return : {a b : Return} → Like a.value b.value → LikeStatement (statements.Return a) (statements.Return b)
    say : {a b : Say} → a.level ≡ b.level → Like a.value b.value → LikeStatement (statements.Say a) (statements.Say b)
    if_ : {xs ys : List Branch} {block other : Option (List Statement)} {span span' : Span} → LikeBranches xs ys
        → LikeOptionalBlock block other → LikeStatement (statements.If xs block span) (statements.If ys other span')
    each : (a b : Each) → a.names ≡ b.names → Like a.value b.value → LikeBlock a.block b.block
        → LikeStatement (statements.Each a) (statements.Each b)
    for_ : (a b : For) → a.name ≡ b.name → LikeBounds a.bounds b.bounds → LikeBlock a.block b.block
        → LikeStatement (statements.For a) (statements.For b)
    while_ : (a b : While) → Like a.condition b.condition → LikeBlock a.block b.block
        → LikeStatement (statements.While a) (statements.While b)
    media : (a b : Media) → LikeText a.queries b.queries → LikeBlock a.block b.block
        → LikeStatement (statements.Media a) (statements.Media b)
    supports : (a b : Supports) → LikeRaw a.condition b.condition → LikeBlock a.block b.block
        → LikeStatement (statements.Supports a) (statements.Supports b)
    at_root : (a b : AtRoot) → LikeOption LikeRaw a.selector b.selector → LikeBlock a.block b.block
        → LikeStatement (statements.AtRoot a) (statements.AtRoot b)
    charset : {span span' : Span} → LikeStatement (statements.Charset span) (statements.Charset span')
    import : {a b : Import} → LikeRaw a.text b.text → LikeStatement (statements.Import a) (statements.Import b)
    extend : {a b : Extend} → LikeRaw a.text b.text → LikeStatement (statements.Extend a) (statements.Extend b)
    at_rule : (a b : AtRule) → LikeText a.name b.name → LikeOption LikeRaw a.prelude b.prelude
        → LikeOptionalBlock a.block b.block → LikeStatement (statements.AtRule a) (statements.AtRule b)
    comment : {a b : Text} → LikeComment a b → LikeStatement (statements.Comment a) (statements.Comment b)

  pub data LikeBlock : List Statement → List Statement → Type 0 where
    no_statements : LikeBlock [] []
    statement : {a b : Statement} {xs ys : List Statement} → LikeStatement a b → LikeBlock xs ys
        → LikeBlock (a ∷ xs) (b ∷ ys)

  pub data LikeOptionalBlock : Option (List Statement) → Option (List Statement) → Type 0 where
    no_block : LikeOptionalBlock None None
    block : {xs ys : List Statement} → LikeBlock xs ys → LikeOptionalBlock (Some xs) (Some ys)

  pub data LikeBranches : List Branch → List Branch → Type 0 where
    no_branches : LikeBranches [] []
    branch : {a b : Branch} {xs ys : List Branch} → Like a.condition b.condition → LikeBlock a.block b.block
        → LikeBranches xs ys → LikeBranches (a ∷ xs) (b ∷ ys)

  pub data LikeContent : Option Content → Option Content → Type 0 where
    no_content : LikeContent None None
    passed : {a b : Content} → LikeParams a.params b.params → LikeBlock a.block b.block
        → LikeContent (Some a) (Some b)

-- two sheets are alike where their statements are
abbrev pub Alike : Sheet → Sheet → Type 0
Alike a b = LikeBlock a.statements b.statements

-- One level of each statement that holds others.
use Rattle.std.proofs.Common.{◌≡◌, List, Option, sym, ◌∙◌, ap}
use Rattle.sw_text.specs.declared.place.Span.{Span}
use Rattle.sw_tree.specs.declared.callable.Content.{Content}
use Rattle.sw_tree.specs.declared.callable.Mixin.{Mixin}
use Rattle.sw_tree.specs.declared.statement.AtRule.{AtRule}
use Rattle.sw_tree.specs.declared.statement.AtRoot.{AtRoot}
use Rattle.sw_tree.specs.declared.statement.Branch.{Branch}
use Rattle.sw_tree.specs.declared.statement.Each.{Each}
use Rattle.sw_tree.specs.declared.statement.For.{For}
use Rattle.sw_tree.specs.declared.statement.Media.{Media}
use Rattle.sw_tree.specs.declared.statement.Properties.{Properties}
use Rattle.sw_tree.specs.declared.statement.Rule.{Rule}
use Rattle.sw_tree.specs.declared.statement.Supports.{Supports}
use Rattle.sw_tree.specs.declared.statement.While.{While}
use Rattle.sw_tree.specs.declared.statement.Statement.{Statement, out-Statement, out-roll-Statement}
use Rattle.sw_tree.specs.declared.statement.Statement.TheVariants as S
use Rattle.sw_tree.specs.declared.statement.Statement.TheOpen.{Statement-F}

pub out_Rule : (x : Rule) → out-Statement (S.Rule x) ≡ Statement-F.Rule x
out_Rule x = ap out-Statement (sym (S.rolls-Rule x)) ∙ out-roll-Statement (Statement-F.Rule x)

pub out_If : (bs : List Branch) (otherwise : Option (List Statement)) (at : Span) → out-Statement (S.If bs otherwise at) ≡ Statement-F.If bs otherwise at
out_If bs otherwise at = ap out-Statement (sym (S.rolls-If bs otherwise at)) ∙ out-roll-Statement (Statement-F.If bs otherwise at)

pub out_While : (x : While) → out-Statement (S.While x) ≡ Statement-F.While x
out_While x = ap out-Statement (sym (S.rolls-While x)) ∙ out-roll-Statement (Statement-F.While x)

pub out_Each : (x : Each) → out-Statement (S.Each x) ≡ Statement-F.Each x
out_Each x = ap out-Statement (sym (S.rolls-Each x)) ∙ out-roll-Statement (Statement-F.Each x)

pub out_For : (x : For) → out-Statement (S.For x) ≡ Statement-F.For x
out_For x = ap out-Statement (sym (S.rolls-For x)) ∙ out-roll-Statement (Statement-F.For x)

pub out_Properties : (x : Properties) → out-Statement (S.Properties x) ≡ Statement-F.Properties x
out_Properties x = ap out-Statement (sym (S.rolls-Properties x)) ∙ out-roll-Statement (Statement-F.Properties x)

pub out_Include : (mixin : Mixin) (content : Option Content) (at : Span) → out-Statement (S.Include mixin content at) ≡ Statement-F.Include mixin content at
out_Include mixin content at = ap out-Statement (sym (S.rolls-Include mixin content at)) ∙ out-roll-Statement (Statement-F.Include mixin content at)

pub out_AtRule : (x : AtRule) → out-Statement (S.AtRule x) ≡ Statement-F.AtRule x
out_AtRule x = ap out-Statement (sym (S.rolls-AtRule x)) ∙ out-roll-Statement (Statement-F.AtRule x)

pub out_AtRoot : (x : AtRoot) → out-Statement (S.AtRoot x) ≡ Statement-F.AtRoot x
out_AtRoot x = ap out-Statement (sym (S.rolls-AtRoot x)) ∙ out-roll-Statement (Statement-F.AtRoot x)

pub out_Media : (x : Media) → out-Statement (S.Media x) ≡ Statement-F.Media x
out_Media x = ap out-Statement (sym (S.rolls-Media x)) ∙ out-roll-Statement (Statement-F.Media x)

pub out_Supports : (x : Supports) → out-Statement (S.Supports x) ≡ Statement-F.Supports x
out_Supports x = ap out-Statement (sym (S.rolls-Supports x)) ∙ out-roll-Statement (Statement-F.Supports x)

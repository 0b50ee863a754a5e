-- What contracts see of a value, and what they see of its node.
use Rattle.std.specs.Prelude.{◌≡◌, ◌≤◌, ◌<◌, ℕ, Bool, true, false}
use Rattle.sw_values.specs.declared.plain.Plain.{Plain, out-Plain}
use Rattle.sw_values.specs.declared.plain.Plain.TheOpen.{Plain-F}
use Rattle.sw_values.specs.declared.plain.Plain.TheVariants as P
use Rattle.sw_values.specs.declared.value.Node.{Node}
use Rattle.sw_values.specs.declared.value.Node.TheVariants as N
use Rattle.sw_values.specs.Weight.{weigh, nest, most, deepest, is_within}

abbrev pub plain_of : Node → Plain
plain_of (N.Number number) = P.Number number
plain_of (N.Text text quoted) = P.Text text quoted
plain_of (N.Colour colour) = P.Colour colour
plain_of (N.List items separator bracketed) = P.List items separator bracketed
plain_of (N.Map pairs) = P.Map pairs
plain_of (N.Bool truth) = P.Bool truth
plain_of N.Null = P.Null
plain_of (N.Args items named) = P.Args items named

abbrev pub node_by : Plain-F Plain → Node
node_by (Plain-F.Number number) = N.Number number
node_by (Plain-F.Text text quoted) = N.Text text quoted
node_by (Plain-F.Colour colour) = N.Colour colour
node_by (Plain-F.List items separator bracketed) = N.List items separator bracketed
node_by (Plain-F.Map pairs) = N.Map pairs
node_by (Plain-F.Bool truth) = N.Bool truth
node_by Plain-F.Null = N.Null
node_by (Plain-F.Args items named) = N.Args items named

-- the node of a value
unfoldable pub node_of : Plain → Node
node_of value = node_by (out-Plain value)

-- only false and null are false
abbrev pub truth_by : Node → Bool
truth_by (N.Number _) = true
truth_by (N.Text _ _) = true
truth_by (N.Colour _) = true
truth_by (N.List _ _ _) = true
truth_by (N.Map _) = true
truth_by (N.Bool truth) = truth
truth_by N.Null = false
truth_by (N.Args _ _) = true

abbrev pub truth_of : Plain → Bool
truth_of value = truth_by (node_of value)

pub record IsKept (node : Node) (weight : ℕ) (nesting : ℕ) : Type 0 where
  pub weight_is : weight ≡ weigh (plain_of node)
  pub nesting_is : nesting ≡ nest (plain_of node)
  pub light : weight ≤ most
  pub flat : nesting ≤ deepest

-- the number itself, or one that passes the limit as it does
pub record IsCapped (limit : ℕ) (number : ℕ) (seen : ℕ) : Type 0 where
  pub small : seen ≤ limit → seen ≡ number
  pub large : limit < seen → limit < number

abbrev pub IsTooLarge : Plain → Type 0
IsTooLarge value = is_within value ≡ false

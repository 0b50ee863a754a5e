-- The modules that a module uses (the Sass specification's modules; how they are kept is this project's own): those
-- behind a namespace by its name, those whose members are written as the sheet's own (`as *`), and of those that it
-- forwards the members that they bring.
use Rattle.std.specs.Prelude.{ℕ, List, [], ◌∷◌, ◌++◌, length, take, bytes_eq, None, Some, is_some, Bool, false}
use Rattle.std.specs.Map.{lookup}
use Rattle.indexmap.specs.IndexMap.{insert_entry}
use Rattle.sw_world.specs.declared.question.How.{How}
use Rattle.sw_world.specs.declared.question.How.TheVariants.{Use, Forward}
use Rattle.sw_modules.specs.declared.members.Entry.{Entry}
use Rattle.sw_modules.specs.declared.members.Members.{Members}
use Rattle.sw_modules.specs.declared.members.Counts.{Counts}
use Rattle.sw_modules.specs.declared.uses.Uses.{Uses}
use Rattle.sw_modules.specs.declared.uses.UsesCounts.{UsesCounts}
use Rattle.sw_modules.specs.Interfaces.{no_members, conflicts, joined}

abbrev pub no_uses : Uses
no_uses = record { named = []; stars = []; forwarded = no_members }

-- a use brings a namespace that stands for a module already, or a member that another forward brought from elsewhere
abbrev pub is_taken : How → List Entry → Uses → Bool
is_taken (Use (Some space)) brought uses = is_some (lookup (bytes_eq space) uses.named)
is_taken (Use None) brought uses = false
is_taken (Forward prefix filter) brought uses = conflicts uses.forwarded brought

-- the module at a path is used too, which brings these members
abbrev pub with_one : How → List ℕ → List Entry → Uses → Uses
with_one (Use (Some space)) path brought uses =
    record uses { named = insert_entry bytes_eq uses.named space path }
with_one (Use None) path brought uses = record uses { stars = uses.stars ++ path ∷ [] }
with_one (Forward prefix filter) path brought uses = record uses { forwarded = joined uses.forwarded brought }

-- ---- how many there are of each

abbrev pub counts_of : Members → Counts
counts_of all = record {
  variables = length all.variables;
  functions = length all.functions;
  mixins = length all.mixins;
}

-- the first of each
abbrev pub first_members : Counts → Members → Members
first_members counts all = record {
  variables = take counts.variables all.variables;
  functions = take counts.functions all.functions;
  mixins = take counts.mixins all.mixins;
}

abbrev pub uses_counts : Uses → UsesCounts
uses_counts uses = record {
  named = length uses.named;
  stars = length uses.stars;
  forwarded = counts_of uses.forwarded;
}

abbrev pub first_uses : UsesCounts → Uses → Uses
first_uses counts uses = record {
  named = take counts.named uses.named;
  stars = take counts.stars uses.stars;
  forwarded = first_members counts.forwarded uses.forwarded;
}

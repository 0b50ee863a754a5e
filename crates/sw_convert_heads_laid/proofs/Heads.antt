-- The walk comes back from the heads of statements.
use Rattle.std.proofs.Common.{◌≡◌, Bool, true, false, List, [], refl}
use Rattle.sw_parse_lexemes.specs.declared.sort.Sort.{Sort}
use Rattle.sw_parse_lexemes.specs.declared.state.Mode.{Mode}
use Rattle.sw_convert_passing.specs.Written.{Written}
use Rattle.sw_convert_passing.specs.Heads.{Head, variable_head, property_head, at_rule_head, is_property, takes_value}
use Rattle.sw_convert_heads_passing.specs.Heads.{TextHead, text_head, named_head, keyword_head, inserted_head, minus_head, takes_text, is_keyword}
use Rattle.sw_convert_heads_passing.specs.Properties.{PropertyHead, named_property, begun_property, minus_property, CustomHead, custom_head}
use Rattle.sw_convert_heads_passing.specs.Loads.{UseName, no_name, as_name, as_star, ForwardPrefix, no_prefix, as_prefix, MemberName, named_member, variable_member, MemberNames, one_member, more_members, ForwardFilter, no_filter, shown, hidden, Entries, one_entry, more_entries, UseConfiguration, ForwardConfiguration, LoadHead, use_head, forward_head, is_url}
use Rattle.sw_convert_heads_passing.specs.Loads as loads
use Rattle.sw_convert_heads_passing.specs.Members.{Param, plain_param, default_param, ParamRow, last_param, rest_param, more_params, Params, no_params, some_params, Given, none_given, some_given, MixinName, own_name, owned_name, UsingParams, none_used, some_used, used_apart, MemberHead, function_head, mixin_head, lone_mixin_head, include_head, content_head, settled_head}
use Rattle.sw_convert_heads_passing.specs.Flow.{Names, last_name, more_names, parted, FlowHead, each_head, for_head, else_if_head, assigned_head, is_bound, LoneHead, else_head, charset_head, is_string}
use Rattle.sw_convert_heads_laid.specs.Marks.{Plain, sort_mark}
use Rattle.sw_convert_heads_laid.proofs.Walk.{Free, plain_by, nothing, still, past_seam, join, insert, parens, settled_over}
use Rattle.sw_convert_heads_laid.proofs.Values.{name_plain, value, all_parts, all_items, all_flags}

module _ (custom : Bool) where
  pub parted_goes : {tokens : List Written} (gap : Bool) → Free custom tokens → Free custom (parted gap tokens)
  parted_goes {tokens} true it = past_seam custom tokens it
  parted_goes false it = it

  pub head : {mode : Mode} {tokens : List Written} → Head mode tokens → Free custom tokens
  head (variable_head name n) =
      still custom _ _ refl (still custom _ _ (name_plain name n) (still custom _ [] refl (nothing custom)))
  head (property_head name n) =
      still custom _ _ (plain_by is_property refl refl refl refl refl refl refl refl refl refl name n) (still custom _ [] refl (nothing custom))
  head (at_rule_head sort t) =
      still custom _ [] (plain_by takes_value refl refl refl refl refl refl refl refl refl refl sort t) (nothing custom)

  pub text_heads : {tokens : List Written} → TextHead tokens → Free custom tokens
  text_heads (text_head sort t) =
      still custom _ [] (plain_by takes_text refl refl refl refl refl refl refl refl refl refl sort t) (nothing custom)
  text_heads (named_head {parts = more} by) = still custom _ more refl (all_parts custom by)
  text_heads (keyword_head {inner = inner} {parts = more} sort k inside by) =
      still custom _ _ (plain_by is_keyword refl refl refl refl refl refl refl refl refl refl sort k)
      (insert custom false _ inner more (all_items custom inside) (all_parts custom by))
  text_heads (inserted_head {inner = inner} {parts = more} inside by) =
      still custom _ _ refl (insert custom false _ inner more (all_items custom inside) (all_parts custom by))
  text_heads (minus_head {inner = inner} {parts = more} inside by) =
      still custom _ _ refl
      (still custom _ _ refl (insert custom false _ inner more (all_items custom inside) (all_parts custom by)))

  pub property_heads : {tokens : List Written} → PropertyHead tokens → Free custom tokens
  property_heads (named_property {parts = more} sort n d r by) =
      still custom _ _ (name_plain sort n) (join custom more _ (all_parts custom by) (still custom _ [] refl (nothing custom)))
  property_heads (begun_property {spaced = spaced} {inner = inner} {parts = more} inside by) =
      insert custom spaced _ inner _ (all_items custom inside)
      (join custom more _ (all_parts custom by) (still custom _ [] refl (nothing custom)))
  property_heads (minus_property {inner = inner} {parts = more} inside by) =
      still custom _ _ refl
      (insert custom false _ inner _ (all_items custom inside)
      (join custom more _ (all_parts custom by) (still custom _ [] refl (nothing custom))))

  pub custom_heads : {tokens : List Written} → CustomHead tokens → Free custom tokens
  custom_heads (custom_head {parts = more} by) =
      still custom _ _ refl (join custom more _ (all_parts custom by) (still custom _ [] refl (nothing custom)))

  -- ---- loads

  use_names : {named : Bool} {tokens : List Written} → UseName named tokens → Free custom tokens
  use_names no_name = nothing custom
  use_names (as_name name n) = still custom _ _ refl (still custom _ [] (name_plain name n) (nothing custom))
  use_names as_star = still custom _ _ refl (still custom _ [] refl (nothing custom))

  prefixes : {tokens : List Written} → ForwardPrefix tokens → Free custom tokens
  prefixes no_prefix = nothing custom
  prefixes (as_prefix name n) =
      still custom _ _ refl (still custom _ _ (name_plain name n) (still custom _ [] refl (nothing custom)))

  one_name : {tokens : List Written} → MemberName tokens → Free custom tokens
  one_name (named_member name n) = still custom _ [] (name_plain name n) (nothing custom)
  one_name (variable_member name n) = still custom _ _ refl (still custom _ [] (name_plain name n) (nothing custom))

  all_names : {tokens : List Written} → MemberNames tokens → Free custom tokens
  all_names (one_member one) = one_name one
  all_names (more_members {member = left} {rest = rest} one more) =
      join custom left _ (one_name one) (still custom _ rest refl (all_names more))

  filters : {tokens : List Written} → ForwardFilter tokens → Free custom tokens
  filters no_filter = nothing custom
  filters (shown names) = still custom _ _ refl (all_names names)
  filters (hidden names) = still custom _ _ refl (all_names names)

  entries : {spaced : Bool} {tokens : List Written} → Entries spaced tokens → Free custom tokens
  entries (one_entry {value = left} {flags = right} name n v f) =
      still custom _ _ refl
      (still custom _ _ (name_plain name n)
      (still custom _ _ refl (join custom left right (value custom v) (all_flags custom f))))
  entries (more_entries {value = left} {flags = right} {rest = rest} name n v f more) =
      join custom _ _ (still custom _ _ refl
      (still custom _ _ (name_plain name n)
      (still custom _ _ refl (join custom left right (value custom v) (all_flags custom f)))))
      (still custom _ rest refl (entries more))

  configuration : (inner : List Written) → Free custom inner → Free custom (loads.configuration_in inner)
  configuration inner inside =
      still custom _ _ refl (parens custom _ inner _ [] refl refl (λ bs. tt) inside (nothing custom))

  use_configurations : {tokens : List Written} → UseConfiguration tokens → Free custom tokens
  use_configurations loads.UseConfiguration.not_configured = nothing custom
  use_configurations (loads.UseConfiguration.configured {inner = inner} inside) = configuration inner (all_items custom inside)
  use_configurations (loads.UseConfiguration.configured_apart {inner = inner} inside) =
      past_seam custom _ (configuration inner (all_items custom inside))

  forward_configurations : {tokens : List Written} → ForwardConfiguration tokens → Free custom tokens
  forward_configurations loads.ForwardConfiguration.not_configured = nothing custom
  forward_configurations (loads.ForwardConfiguration.configured {inner = inner} inside) = configuration inner (entries inside)
  forward_configurations (loads.ForwardConfiguration.configured_apart {inner = inner} inside) =
      past_seam custom _ (configuration inner (entries inside))

  url_plain : (named : Bool) (sort : Sort) → is_url named sort ≡ true → sort_mark sort ≡ Plain
  url_plain named sort e = plain_by (is_url named) refl refl refl refl refl refl refl refl refl refl sort e

  pub load_heads : {mode : Mode} {tokens : List Written} → LoadHead mode tokens → Free custom tokens
  load_heads (use_head {named = named} {name = name} {configuration = settings} url u by with_it) =
      still custom _ _ refl
      (still custom _ _ (url_plain named url u) (join custom name settings (use_names by) (use_configurations with_it)))
  load_heads (forward_head {prefix = prefix} {filter = filter} {configuration = settings} url u by members with_it) =
      still custom _ _ refl
      (still custom _ _ (url_plain true url u)
      (join custom prefix _ (prefixes by) (join custom filter settings (filters members) (forward_configurations with_it))))

  -- ---- members

  param : {spaced : Bool} {tokens : List Written} → Param spaced tokens → Free custom tokens
  param (plain_param name n) = still custom _ _ refl (still custom _ [] (name_plain name n) (nothing custom))
  param (default_param name n v) =
      still custom _ _ refl (still custom _ _ (name_plain name n) (still custom _ _ refl (value custom v)))

  param_rows : {spaced : Bool} {tokens : List Written} → ParamRow spaced tokens → Free custom tokens
  param_rows (last_param one) = param one
  param_rows (rest_param name n) =
      still custom _ _ refl (still custom _ _ (name_plain name n) (still custom _ [] refl (nothing custom)))
  param_rows (more_params {param = left} {rest = rest} one more) =
      join custom left _ (param one) (still custom _ rest refl (param_rows more))

  all_params : {tokens : List Written} → Params tokens → Free custom tokens
  all_params no_params = nothing custom
  all_params (some_params row) = param_rows row

  given : {tokens : List Written} → Given tokens → Free custom tokens
  given none_given = nothing custom
  given (some_given {inner = inner} inside) =
      parens custom _ inner _ [] refl refl (λ bs. tt) (all_items custom inside) (nothing custom)

  mixin_names : {tokens : List Written} → MixinName tokens → Free custom tokens
  mixin_names (own_name name n) = still custom _ [] (name_plain name n) (nothing custom)
  mixin_names (owned_name owner name o n) =
      still custom _ _ (name_plain owner o) (still custom _ _ refl (still custom _ [] (name_plain name n) (nothing custom)))

  used : {tokens : List Written} → UsingParams tokens → Free custom tokens
  used none_used = nothing custom
  used (some_used {params = params} by) =
      still custom _ _ refl (parens custom _ params _ [] refl refl (λ bs. tt) (all_params by) (nothing custom))
  used (used_apart {params = params} by) =
      past_seam custom _ (still custom _ _ refl (parens custom _ params _ [] refl refl (λ bs. tt) (all_params by) (nothing custom)))

  pub member_heads : {mode : Mode} {tokens : List Written} → MemberHead mode tokens → Free custom tokens
  member_heads (function_head {params = params} name n by) =
      still custom _ _ refl
      (still custom _ _ (name_plain name n) (parens custom _ params _ [] refl refl (λ bs. tt) (all_params by) (nothing custom)))
  member_heads (mixin_head {params = params} name n by) =
      still custom _ _ refl
      (still custom _ _ (name_plain name n) (parens custom _ params _ [] refl refl (λ bs. tt) (all_params by) (nothing custom)))
  member_heads (lone_mixin_head name n) =
      still custom _ _ refl (still custom _ [] (name_plain name n) (nothing custom))
  member_heads (include_head {name = name} {given = arguments} {params = params} by some using) =
      still custom _ _ refl
      (join custom name _ (mixin_names by) (join custom arguments params (given some) (used using)))
  member_heads (content_head some) = still custom _ _ refl (given some)
  member_heads (settled_head loose s) = settled_over custom (member_heads loose) s

  -- ---- flow

  names : {tokens : List Written} → Names tokens → Free custom tokens
  names (last_name name n) = still custom _ _ refl (still custom _ [] (name_plain name n) (nothing custom))
  names (more_names {rest = rest} name n more) =
      still custom _ _ refl (still custom _ _ (name_plain name n) (still custom _ rest refl (names more)))

  pub flow_heads : {mode : Mode} {tokens : List Written} → FlowHead mode tokens → Free custom tokens
  flow_heads (each_head {names = all} gap by) =
      still custom _ _ refl (join custom all _ (names by) (parted_goes gap (still custom _ [] refl (nothing custom))))
  flow_heads (for_head gap name n) =
      still custom _ _ refl
      (still custom _ _ refl
      (still custom _ _ (name_plain name n) (parted_goes gap (still custom _ [] refl (nothing custom)))))
  flow_heads else_if_head = still custom _ _ refl (still custom _ [] refl (nothing custom))
  flow_heads (assigned_head owner name o d n) =
      still custom _ _ (name_plain owner o)
      (still custom _ _ refl
      (still custom _ _ refl (still custom _ _ (name_plain name n) (still custom _ [] refl (nothing custom)))))

  pub bound_plain : (sort : Sort) → is_bound sort ≡ true → sort_mark sort ≡ Plain
  bound_plain sort e = plain_by is_bound refl refl refl refl refl refl refl refl refl refl sort e

  pub lone_heads : {mode : Mode} {tokens : List Written} → LoneHead mode tokens → Free custom tokens
  lone_heads else_head = still custom _ [] refl (nothing custom)
  lone_heads (charset_head sort s) =
      still custom _ _ refl
      (still custom _ [] (plain_by is_string refl refl refl refl refl refl refl refl refl refl sort s) (nothing custom))

use Rattle.std.proofs.Common.{◌≡◌, ◌-◌, ◌+◌, ◌*◌, length, map}
use Rattle.sw_parse_grammar.specs.Grammar.{many, prepend}
use Rattle.sw_parse_table.specs.Parts.{Pieces}
use Rattle.sw_parse_table.specs.Reads.{reader}
use Rattle.sw_parse_media_queries.specs.Joints.{joined}
use Rattle.sw_parse_media_queries.proofs.feature.+condition.Given as goal

abbrev pub decreases-condition_parens_at : goal.decreases-condition_parens_at
decreases-condition_parens_at l = 7 * l.levels + 0

abbrev pub decreases-paren_feature_at : goal.decreases-paren_feature_at
decreases-paren_feature_at l = 7 * l.levels + 1

abbrev pub decreases-feature_at : goal.decreases-feature_at
decreases-feature_at l = 7 * l.levels + 2

abbrev pub decreases-not_feature_at : goal.decreases-not_feature_at
decreases-not_feature_at l = 7 * l.levels + 3

abbrev pub decreases-joined_features_at : goal.decreases-joined_features_at
decreases-joined_features_at l = 7 * l.levels + 4

abbrev pub decreases-features_at : goal.decreases-features_at
decreases-features_at l = 7 * l.levels + 5

abbrev pub decreases-condition_at : goal.decreases-condition_at
decreases-condition_at l = 7 * l.levels + 6

abbrev pub invariant-joined_features_at-features : goal.invariant-joined_features_at-features
invariant-joined_features_at-features l =
    prepend (map Pieces l.list) (reader l.source l.levels (many (joined l.source l.joint)) l.place)
    ≡ prepend (map Pieces l.fn.list) (reader l.source l.levels (many (joined l.source l.joint)) l.at)

abbrev pub decreases-joined_features_at-features : goal.decreases-joined_features_at-features
decreases-joined_features_at-features l = length l.source.lexemes.now - l.place

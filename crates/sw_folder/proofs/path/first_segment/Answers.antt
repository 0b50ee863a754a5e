use Rattle.std.proofs.Common.{lit<, Some, None}
use Rattle.std.proofs.lemmas.Str.Pattern.{split_once_first}
use Rattle.sw_folder.proofs.Segments.{segments-first, segments-whole}
use Rattle.sw_folder.proofs.path.first_segment.Goals as goal

pub returns-in-Some-clause-parts : goal.returns-in-Some-clause-parts
returns-in-Some-clause-parts c =
    let cut = split_once_first 47 c.args.text.now (Some (c.in-Some.segment, c.in-Some.rest)) c.in-Some.ensures.cases (lit< tt) in
    segments-first c.args.text.now c.in-Some.segment.now c.in-Some.rest.now cut.0 cut.1 cut.2

pub returns-in-None-clause-parts : goal.returns-in-None-clause-parts
returns-in-None-clause-parts c =
    segments-whole c.args.text.now (split_once_first 47 c.args.text.now None c.in-None.ensures.cases (lit< tt))

use Rattle.std.proofs.Common.{None, ◌∙◌, ap, arith}
use Rattle.sw_scope.specs.Index.{head_index, head_with}
use Rattle.sw_scope.proofs.Indexes.{open_innermost, has_one, frame_less, frame_more, frames_with, cuts_with}
use Rattle.sw_scope.proofs.frames.note.Goals as goal

pub from-requires : goal.from-requires
from-requires c =
    let open_is = open_innermost c.args.marks.now c.as_slice.result.now c.args.vars.now c.len-count.result c.start_of-start.result c.as_slice.ensures c.len-count.ensures c.if-count-eq0.false c.start_of-start.ensures c.requires.cut c.requires.indexed in
    omega (arith, open_is.start_is, open_is.within)

pub grown-after-requires-clause-some : goal.grown-after-requires-clause-some
grown-after-requires-clause-some c =
    let open_is = open_innermost c.args.marks.now c.as_slice.result.now c.args.vars.now c.len-count.result c.start_of-start.result c.as_slice.ensures c.len-count.ensures c.if-count-eq0.false c.start_of-start.ensures c.requires.cut c.requires.indexed in
    rw c.from.ensures (has_one c.args.vars.now c.start_of-start.result c.requires.some (omega (arith, open_is.start_is, open_is.within)))

pub grown-after-requires-clause-indexed : goal.grown-after-requires-clause-indexed
grown-after-requires-clause-indexed c =
    let open_is = open_innermost c.args.marks.now c.as_slice.result.now c.args.vars.now c.len-count.result c.start_of-start.result c.as_slice.ensures c.len-count.ensures c.if-count-eq0.false c.start_of-start.ensures c.requires.cut c.requires.indexed in
    rw (c.from.ensures, open_is.start_is, c.swap_index-before.ensures.old ∙ ap head_index open_is.is) (frame_less open_is.mark open_is.rest c.args.vars.now c.requires.some open_is.within open_is.indexed)

pub returns-clause-frames : goal.returns-clause-frames
returns-clause-frames c = λ vs. frames_with c.grown-after.result c.swap_index-before.new.marks _ vs c.swap_index.ensures.new ∙ frames_with None c.args.marks.now _ vs c.swap_index-before.ensures.new

pub returns-clause-cut : goal.returns-clause-cut
returns-clause-cut c = λ n is. cuts_with c.grown-after.result c.swap_index-before.new.marks c.swap_index.new.marks n c.swap_index.ensures.new (cuts_with None c.args.marks.now c.swap_index-before.new.marks n c.swap_index-before.ensures.new is)

pub returns-clause-indexed : goal.returns-clause-indexed
returns-clause-indexed c =
    let open_is = open_innermost c.args.marks.now c.as_slice.result.now c.args.vars.now c.len-count.result c.start_of-start.result c.as_slice.ensures c.len-count.ensures c.if-count-eq0.false c.start_of-start.ensures c.requires.cut c.requires.indexed in
    let grew = rw (c.from.ensures, open_is.start_is) at c.grown-after.ensures in
    rw (c.swap_index.ensures.new ∙ ap (head_with c.grown-after.result) (c.swap_index-before.ensures.new ∙ ap (head_with None) open_is.is))
    (frame_more open_is.mark open_is.rest c.args.vars.now c.grown-after.result open_is.within grew open_is.indexed)

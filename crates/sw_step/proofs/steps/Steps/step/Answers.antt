use Rattle.std.proofs.Common.{ℕ, nat_eq, List, sym, ap, subst, ◌∙◌}
use Rattle.std.specs.Map.{set_value, remove_entry}
use Rattle.sw_modules.specs.Settings.{hostless}
use Rattle.sw_step_bodies.specs.declared.stepped.Stepped.{Stepped}
use Rattle.sw_step_bodies.specs.declared.stepped.Stepped.TheVariants as S
use Rattle.sw_step.specs.Joint.{Joint, UnderWay, Answers}
use Rattle.sw_step.specs.Under.{IsNext, NoneFrom}
use Rattle.sw_step.proofs.Numbers.{set_same, none_changed, none_left, answers_loading, answers_finished, answers_ended}
use Rattle.sw_step.proofs.steps.Steps.step.Goals as goal

pub invariant_of-self-in-Ok-Ended : goal.invariant_of-self-in-Ok-Ended
invariant_of-self-in-Ok-Ended g c =
    let set = (c.get_mut.follows.holds c.step.new.self).0 in
    subst (λ (es : List (ℕ × UnderWay)). NoneFrom c.self.inside.given es) (sym (c.shift_remove.ensures.entries ∙ ap (remove_entry (nat_eq c.args.number)) set))
    (none_left c.self.inside.given c.args.number (set_value (nat_eq c.args.number) c.self.inside.under_way.entries c.step.new.self)
    (none_changed c.self.inside.given c.args.number c.self.inside.under_way.entries c.step.new.self c.self.invariant))

pub returns-in-Ok-Ended-clause-ok : goal.returns-in-Ok-Ended-clause-ok
returns-in-Ok-Ended-clause-ok g c =
    let joint : Joint = record { folder = c.self.inside.folder; given = c.self.inside.given; under_way = c.self.inside.under_way.entries } in
    let now : Joint = record { folder = c.self.inside.folder; given = c.self.inside.given; under_way = c.shift_remove.new.self.entries } in
    let set = (c.get_mut.follows.holds c.step.new.self).0 in
    let next = subst (λ (a : Stepped). IsNext (hostless g.R.Reader.reads g.E.Engine.body) c.in-Some.compile.now a c.step.new.self) c.in-Ok-Ended.field-0-is c.in-Ok-Ended.ensures.next in
    subst (λ (j : Joint). Answers (hostless g.R.Reader.reads g.E.Engine.body) c.args.number (S.Ended c.in-Ok-Ended.reply) j now) c.self.view_is
    (answers_ended (hostless g.R.Reader.reads g.E.Engine.body) c.args.number joint now c.in-Some.compile.now c.step.new.self (sym c.in-Some.ensures.value) c.in-Ok-Ended.reply next
    (ap (λ (es : List (ℕ × UnderWay)). record joint { under_way = es }) (c.shift_remove.ensures.entries ∙ ap (remove_entry (nat_eq c.args.number)) set)))

pub returns-in-Ok-Loading-clause-ok : goal.returns-in-Ok-Loading-clause-ok
returns-in-Ok-Loading-clause-ok g c =
    let joint : Joint = record { folder = c.self.inside.folder; given = c.self.inside.given; under_way = c.self.inside.under_way.entries } in
    let now : Joint = record { folder = c.self.inside.folder; given = c.self.inside.given; under_way = (c.get_mut.follows.lender c.step.new.self).entries } in
    let next = subst (λ (a : Stepped). IsNext (hostless g.R.Reader.reads g.E.Engine.body) c.in-Some.compile.now a c.step.new.self) c.in-Ok-Loading.field-0-is c.in-Ok-Loading.ensures.next in
    subst (λ (j : Joint). Answers (hostless g.R.Reader.reads g.E.Engine.body) c.args.number (S.Loading c.in-Ok-Loading.body c.in-Ok-Loading.opened) j now) c.self.view_is
    (answers_loading (hostless g.R.Reader.reads g.E.Engine.body) c.args.number joint now c.in-Some.compile.now c.step.new.self (sym c.in-Some.ensures.value) c.in-Ok-Loading.body c.in-Ok-Loading.opened next
    (ap (λ (es : List (ℕ × UnderWay)). record joint { under_way = es }) (c.get_mut.follows.holds c.step.new.self).0))

pub returns-in-Ok-Finished-clause-ok : goal.returns-in-Ok-Finished-clause-ok
returns-in-Ok-Finished-clause-ok g c =
    let joint : Joint = record { folder = c.self.inside.folder; given = c.self.inside.given; under_way = c.self.inside.under_way.entries } in
    let now : Joint = record { folder = c.self.inside.folder; given = c.self.inside.given; under_way = (c.get_mut.follows.lender c.step.new.self).entries } in
    let next = subst (λ (a : Stepped). IsNext (hostless g.R.Reader.reads g.E.Engine.body) c.in-Some.compile.now a c.step.new.self) c.in-Ok-Finished.field-0-is c.in-Ok-Finished.ensures.next in
    subst (λ (j : Joint). Answers (hostless g.R.Reader.reads g.E.Engine.body) c.args.number (S.Finished c.in-Ok-Finished.body) j now) c.self.view_is
    (answers_finished (hostless g.R.Reader.reads g.E.Engine.body) c.args.number joint now c.in-Some.compile.now c.step.new.self (sym c.in-Some.ensures.value) c.in-Ok-Finished.body next
    (ap (λ (es : List (ℕ × UnderWay)). record joint { under_way = es }) (c.get_mut.follows.holds c.step.new.self).0))

pub returns-in-Err-clause-unchanged : goal.returns-in-Err-clause-unchanged
returns-in-Err-clause-unchanged g c =
    let same = ap (set_value (nat_eq c.args.number) c.self.inside.under_way.entries) c.in-Err.ensures.err
    ∙ set_same (nat_eq c.args.number) c.self.inside.under_way.entries c.in-Some.compile.now (sym c.in-Some.ensures.value) in
    ap (λ (es : List (ℕ × UnderWay)). record { folder = c.self.inside.folder; given = c.self.inside.given; under_way = es }) ((c.get_mut.follows.holds c.step.new.self).0 ∙ same) ∙ c.self.view_is

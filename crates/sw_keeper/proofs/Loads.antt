-- Answered loads, and texts that are evaluated.
use Rattle.std.proofs.Common.{◌≡◌, ℕ, suc, ◌+◌, ◌<◌, List, [], ◌∷◌, ◌++◌, length, Ok, Err, refl, sym, ◌∙◌, ap, subst, length-append, arith}
use Rattle.sw_text.specs.declared.fault.Fault.{Fault}
use Rattle.sw_tree.specs.declared.sheet.Sheet.{Sheet}
use Rattle.sw_values.specs.declared.plain.Plain.{Plain}
use Rattle.sw_world.specs.declared.question.Question.{Question}
use Rattle.sw_world.specs.declared.question.Question.TheVariants.{Load, Find, Get, Put, Say, Call}
use Rattle.sw_world.specs.declared.answer.Answer.{Answer}
use Rattle.sw_world.specs.declared.answer.Answer.TheVariants.{Loaded, Refused}
use Rattle.sw_world.specs.declared.end.End.{End}
use Rattle.sw_world.specs.declared.end.End.TheVariants.{Fault as Fault_end}
use Rattle.sw_world.specs.Body.{Job}
use Rattle.sw_world.specs.Questions.{IsLoad, Fits}
use Rattle.sw_modules.specs.declared.live.Begin.TheVariants.{Answered, Open}
use Rattle.sw_modules.specs.Uses.{no_uses}
use Rattle.sw_modules.specs.State.{State, open_at, path_in}
use Rattle.sw_modules.specs.Loads.{begun, ended_by, AnswersLoad}
use Rattle.sw_modules.specs.Outside.{Functions, Outside}
use Rattle.sw_modules.specs.Fresh.{Setting, Outcome, Evaluation, Response, responds, load_response, load_ended, at_once, fresh, room, evaluated_by, rest_of}
use Rattle.sw_keeper.specs.Keeping.{Table}
use Rattle.sw_keeper.specs.Steps.{Moment, Grown, DidRespond, DidEnd, DidEvaluate, moment_of, run_of}
use Rattle.sw_keeper.proofs.Rest.{fresh_opens}
use Rattle.sw_keeper.proofs.Parts.{grown_none}

pub fits_load : (op : Question) (a : Answer) → IsLoad op → AnswersLoad a → Fits op a
fits_load (Load site url span how config) (Loaded path taken) is kind = tt
fits_load (Load site url span how config) (Refused fault) is kind = tt
fits_load (Load site url span how config) _ is kind = absurd kind
fits_load _ a is kind = absurd is

responds_load : (functions : Functions) (inner : Evaluation) (op : Question) (o : Outside) → IsLoad op → responds functions inner op o ≡ load_response inner op (begun op o.live) o
responds_load functions inner (Load site url span how config) o is = refl
responds_load functions inner (Find site space kind name) o is = absurd is
responds_load functions inner (Get owner name) o is = absurd is
responds_load functions inner (Put owner name value) o is = absurd is
responds_load functions inner (Say kind span text) o is = absurd is
responds_load functions inner (Call name args) o is = absurd is

-- a load that was answered at once
pub did_answered : (table : Table) (functions : Functions) (inner : Evaluation) (op : Question) (a : Answer) (s : State) (o : Moment) → IsLoad op → begun op o.outside.live ≡ (Answered a, s) → length s.opened ≡ length o.outside.live.opened
    → DidRespond table (responds functions inner op o.outside) a o (moment_of s o.outside.hosts o.results o.told)
did_answered table functions inner op a s o is begins depth =
    let t : Moment = moment_of s o.outside.hosts o.results o.told in
    let same : responds functions inner op o.outside ≡ record { answer = a; outside = t.outside; runs = [] } =
    responds_load functions inner op o.outside is ∙ ap (λ p. load_response inner op p o.outside) begins in
    subst (λ (r : Response). DidRespond table r a o t) (sym same)
    (record { answered = refl; outside = refl; same_depth = depth; grown = grown_none table o t refl refl })

-- a load whose module was evaluated
pub did_opened : (setting : Setting) (table : Table) (op : Question) (path text : List ℕ) (config : List (List ℕ × Plain)) (end : End) (a : Answer) (m u : State) (o t : Moment)
    → IsLoad op → begun op o.outside.live ≡ (Open path text config, m) → length o.outside.live.opened < 64 → m ≡ open_at path o.outside.live
    → DidEvaluate setting table path text config end (moment_of m o.outside.hosts o.results o.told) t
    → ended_by op (path_in t.outside.live.opened) end t.outside.live ≡ (a, u) → length u.opened + 1 ≡ length t.outside.live.opened
    → DidRespond table (responds setting.functions (fresh setting (room o.outside.live)) op o.outside) a o (moment_of u t.outside.hosts t.results t.told)
did_opened setting table op path text config end a m u o t is begins few opens did ends closes =
    let inner = fresh setting (room o.outside.live) in
    let v : Moment = moment_of u t.outside.hosts t.results t.told in
    let one_more : length m.opened ≡ suc (length o.outside.live.opened) = ap (λ (s : State). length s.opened) opens ∙ length-append o.outside.live.opened (record { path = path; uses = no_uses } ∷ []) ∙ omega arith in
    let evaluated : inner (record { live = m; hosts = o.outside.hosts }) path text config ≡ record { outside = t.outside; runs = did.runs; end = end } =
    fresh_opens setting o.outside.live (record { live = m; hosts = o.outside.hosts }) path text config few one_more ∙ did.gives in
    let same : responds setting.functions inner op o.outside ≡ record { answer = a; outside = v.outside; runs = did.runs } =
    responds_load setting.functions inner op o.outside is ∙ ap (λ p. load_response inner op p o.outside) begins
    ∙ ap (λ (c : Outcome). load_ended op c) evaluated
    ∙ ap (λ (p : Answer × State). at_once t.outside did.runs p) ends in
    let depth : length u.opened ≡ length o.outside.live.opened = omega (arith, closes, did.same_depth, one_more) in
    let grown : Grown table did.runs o v = record { runs = did.grown.runs; grown = did.grown.grown; is = did.grown.is; ran = did.grown.ran; told = did.grown.told } in
    subst (λ (r : Response). DidRespond table r a o v) (sym same)
    (record { answered = refl; outside = refl; same_depth = depth; grown = grown })

-- a text that reads is evaluated by its body
pub did_read : (setting : Setting) (table : Table) (path text : List ℕ) (config : List (List ℕ × Plain)) (sheet : Sheet) (end : End) (o t : Moment)
    → setting.read path text ≡ Ok sheet → DidEnd setting table (record { sheet = sheet; config = config; path = path }) text [] end o t → DidEvaluate setting table path text config end o t
did_read setting table path text config sheet end o t reads did =
    let job : Job = record { sheet = sheet; config = config; path = path } in
    record {
      runs = did.new ++ run_of job text did.seen end ∷ [];
      gives = ap (evaluated_by (λ s. rest_of setting (record { sheet = s; config = config; path = path }) text [] [] o.outside) o.outside) reads ∙ did.ends [];
      same_depth = did.same_depth;
      grown = did.grown;
    }

-- one that doesn't read ends with its fault
pub did_not_read : (setting : Setting) (table : Table) (path text : List ℕ) (config : List (List ℕ × Plain)) (fault : Fault) (o : Moment)
    → setting.read path text ≡ Err fault → DidEvaluate setting table path text config (Fault_end fault) o o
did_not_read setting table path text config fault o reads =
    record {
      runs = [];
      gives = ap (evaluated_by (λ s. rest_of setting (record { sheet = s; config = config; path = path }) text [] [] o.outside) o.outside) reads;
      same_depth = refl;
      grown = grown_none table o o refl refl;
    }

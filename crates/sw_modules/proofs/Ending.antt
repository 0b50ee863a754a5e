-- Evaluations end as the bodies of their modules do.
use Rattle.std.proofs.Common.{◌≡◌, ◌⊎◌, ℕ, zero, suc, ◌+◌, ◌-◌, ◌<◌, ◌≤◌, Bool, true, false, cond, not, nat_le, List, [], ◌∷◌, ◌++◌, length, bytes_eq, Option, None, Some, Result, Ok, Err, refl, sym, ◌∙◌, ap, subst, inl, inr, arith, length-append}
use Rattle.std.specs.Map.{lookup}
use Rattle.std.specs.FinMap.{get}
use Rattle.std.proofs.lemmas.List.{length-take}
use Rattle.sw_text.specs.declared.place.Span.{Span}
use Rattle.sw_text.specs.declared.fault.Fault.{Fault}
use Rattle.sw_tree.specs.declared.sheet.Sheet.{Sheet}
use Rattle.sw_values.specs.declared.plain.Plain.{Plain}
use Rattle.sw_folder.specs.Resolution.{resolved}
use Rattle.sw_folder.specs.declared.resolve.ResolveFault.{ResolveFault}
use Rattle.sw_folder.specs.declared.resolve.ResolveFault.TheVariants as R
use Rattle.sw_world.specs.declared.question.Question.{Question}
use Rattle.sw_world.specs.declared.question.Question.TheVariants.{Load, Find, Get, Put, Say, Call}
use Rattle.sw_world.specs.declared.question.How.{How}
use Rattle.sw_world.specs.declared.question.Given.{Given}
use Rattle.sw_world.specs.declared.answer.Answer.{Answer}
use Rattle.sw_world.specs.declared.end.End.{End}
use Rattle.sw_world.specs.declared.end.End.TheVariants.{Done, Fault as Fault_end}
use Rattle.sw_world.specs.Body.{Pair, Run, Job, Next, Asks, Ends, answers}
use Rattle.sw_world.specs.Laws.{EndsInTime, most_asked}
use Rattle.sw_modules.specs.declared.module.Module.{Module}
use Rattle.sw_modules.specs.declared.live.Begin.{Begin}
use Rattle.sw_modules.specs.declared.live.Begin.TheVariants.{Answered, Open}
use Rattle.sw_modules.specs.State.{State, path_in, loaded_now}
use Rattle.sw_modules.specs.declared.members.Entry.{Entry}
use Rattle.sw_modules.specs.Interfaces.{interface_of, built_in_interface, brought}
use Rattle.sw_modules.specs.Uses.{no_uses, is_taken, with_one}
use Rattle.sw_modules.specs.State.{uses_in}
use Rattle.sw_modules.specs.BuiltIns.{is_sass, is_built_in}
use Rattle.sw_modules.specs.Loads.{is_open, is_explicit, first_explicit, built_in_unless, built_in_used, begun, begin_url, begin_path, begin_module, at_once, used_as, used_unless, interface_at_end, ended_by, first_untaken}
use Rattle.sw_modules.specs.Outside.{Outside}
use Rattle.sw_modules.specs.Fresh.{Setting, Outcome, Evaluation, Response, load_by, responds, turn, goes_on, evaluated_by, fresh, room}
use Rattle.sw_modules.specs.Ends.{EndsAsBody, EachEndsAsBody, IsEndOf, EndsByBodies}
use Rattle.sw_modules.proofs.Below.{length-with_uses}

-- How many loads are open

-- a load that is answered at once leaves as many open, and one that opens a module opens one more, within the limit
abbrev Begins : State → Begin × State → Type 0
Begins s (Answered answer, t) = length t.opened ≡ length s.opened
Begins s (Open path text config, t) = (length s.opened < 64) × (length t.opened ≡ suc (length s.opened))

if_begins : (s : State) (b : Bool) (p q : Begin × State) → Begins s p → (b ≡ false → Begins s q) → Begins s (cond b p q)
if_begins s true p q one other = one
if_begins s false p q one other = other refl

if_opened : {A : Type 0} (b : Bool) (p q : A × State) (n : ℕ) → length p.1.opened ≡ n → length q.1.opened ≡ n → length (cond b p q).1.opened ≡ n
if_opened true p q n one other = one
if_opened false p q n one other = other

used_opened : (how : How) (path : List ℕ) (interface : List Entry) (taken : List (List ℕ)) (span : Span) (s : State) → length (used_as how path interface taken span s).1.opened ≡ length s.opened
used_opened how path interface taken span s =
    if_opened (is_taken how (brought how interface) (uses_in s.opened)) _ _ (length s.opened) refl (length-with_uses s.opened (with_one how path (brought how interface)))

at_once_begins : (s : State) (p : Answer × State) → length p.1.opened ≡ length s.opened → Begins s (at_once p)
at_once_begins s (answer, t) same = same

module_begins : (held : Option Module) (text : Option (List ℕ)) (path : List ℕ) (span : Span) (how : How) (config : List Given) (s : State) → length s.opened < 64
    → Begins s (begin_module held text path span how config s)
module_begins (Some held) text path span how config s few =
    if_begins s (is_explicit config) _ _ refl (λ is. at_once_begins s (used_as how path (interface_of path held) [] span s) (used_opened how path (interface_of path held) [] span s))
module_begins None None path span how config s few = refl
module_begins None (Some text) path span how config s few =
    (few, length-append s.opened (record { path = path; uses = no_uses } ∷ []) ∙ omega arith)

path_begins : (path : List ℕ) (span : Span) (how : How) (config : List Given) (s : State) → Begins s (begin_path path span how config s)
path_begins path span how config s =
    if_begins s (is_open s.opened path) _ _ refl
    (λ closed. if_begins s (nat_le 64 (length s.opened)) _ _ refl (λ few. module_begins (lookup (bytes_eq path) s.loaded) (get s.folder path) path span how config s (below_limit (length s.opened) few)))
  where
    below_limit : (n : ℕ) → nat_le 64 n ≡ false → n < 64
    below_limit n few = grind arith

url_begins : (found : Result (List ℕ) ResolveFault) (span : Span) (how : How) (config : List Given) (s : State) → Begins s (begin_url found span how config s)
url_begins (Ok path) span how config s = path_begins path span how config s
url_begins (Err R.NotFound) span how config s = refl
url_begins (Err R.Ambiguous) span how config s = refl
url_begins (Err R.Memory) span how config s = refl

built_in_unless_opened : (given : Option Given) (url : List ℕ) (span : Span) (how : How) (s : State) → length (built_in_unless given url span how s).1.opened ≡ length s.opened
built_in_unless_opened None url span how s = used_opened how url (built_in_interface url) [] span s
built_in_unless_opened (Some given) url span how s = refl

built_in_opened : (url : List ℕ) (span : Span) (how : How) (config : List Given) (s : State) → length (built_in_used url span how config s).1.opened ≡ length s.opened
built_in_opened url span how config s =
    if_opened (not (is_built_in url)) _ _ (length s.opened) refl
    (if_opened (nat_le 64 (length s.opened)) _ _ (length s.opened) refl (built_in_unless_opened (first_explicit config) url span how s))

load_begins : (site url : List ℕ) (span : Span) (how : How) (config : List Given) (s : State) → Begins s (begun (Load site url span how config) s)
load_begins site url span how config s =
    if_begins s (is_sass url) _ _ (at_once_begins s (built_in_used url span how config s) (built_in_opened url span how config s))
    (λ is. url_begins (resolved s.folder site url s.paths) span how config s)

unless_opened : (given : Option Given) (how : How) (path : List ℕ) (interface : List Entry) (taken : List (List ℕ)) (span : Span) (s : State) → length (used_unless given how path interface taken span s).1.opened ≡ length s.opened
unless_opened None how path interface taken span s = used_opened how path interface taken span s
unless_opened (Some given) how path interface taken span s = refl

-- the end of a load closes one
ended_opened : (site url : List ℕ) (span : Span) (how : How) (config : List Given) (path : List ℕ) (end : End) (s : State) (n : ℕ) → length s.opened ≡ suc n
    → length (ended_by (Load site url span how config) path end s).1.opened ≡ n
ended_opened site url span how config path (Done finish) s n loads =
    unless_opened (first_untaken config finish.taken) how path (interface_at_end path finish s) finish.taken span (loaded_now finish s) ∙ length-take (length s.opened - 1) s.opened ∙ omega arith
ended_opened site url span how config path (Fault_end fault) s n loads = length-take (length s.opened - 1) s.opened ∙ omega arith

-- Evaluations

each_append : (setting : Setting) (xs ys : List Run) → EachEndsAsBody setting xs → EachEndsAsBody setting ys → EachEndsAsBody setting (xs ++ ys)
each_append setting [] ys x y = y
each_append setting (r ∷ xs) ys x y = (x.0, each_append setting xs ys x.1 y)

-- an evaluation ended as it has to, and left as many loads open
record EndsWell (setting : Setting) (loads : ℕ) (path text : List ℕ) (config : List (List ℕ × Plain)) (c : Outcome) : Type 0 where
  end : IsEndOf setting path text config c.end
  runs : EachEndsAsBody setting c.runs
  same_depth : length c.outside.live.opened ≡ loads

-- the evaluation of modules that are opened where so many loads are open
abbrev Inner : Setting → ℕ → Evaluation → Type 0
Inner setting loads inner =
    (o : Outside) (path text : List ℕ) (config : List (List ℕ × Plain)) → loads < 64 → length o.live.opened ≡ suc loads → EndsWell setting (suc loads) path text config (inner o path text config)

-- an answer
record RespondsWell (setting : Setting) (loads : ℕ) (r : Response) : Type 0 where
  runs : EachEndsAsBody setting r.runs
  same_depth : length r.outside.live.opened ≡ loads

module _ (setting : Setting) (loads : ℕ) (inner : Evaluation) (well : Inner setting loads inner) where
  load_responds : (site url : List ℕ) (span : Span) (how : How) (config : List Given) (o : Outside) (begin : Begin) (s : State) → length o.live.opened ≡ loads → Begins o.live (begin, s)
      → RespondsWell setting loads (load_by inner (Load site url span how config) begin s o)
  load_responds site url span how config o (Answered answer) s same begins = record { runs = tt; same_depth = begins ∙ same }
  load_responds site url span how config o (Open path text given) s same begins =
      let few : loads < 64 = subst (λ (n : ℕ). n < 64) same begins.0 in
      let one_more : length s.opened ≡ suc loads = begins.1 ∙ ap suc same in
      let c = inner (record o { live = s }) path text given in
      let all : EndsWell setting (suc loads) path text given c = well (record o { live = s }) path text given few one_more in
      record { runs = all.runs; same_depth = ended_opened site url span how config (path_in c.outside.live.opened) c.end c.outside.live loads all.same_depth }

  responds_well : (op : Question) (o : Outside) → length o.live.opened ≡ loads → RespondsWell setting loads (responds setting.functions inner op o)
  responds_well (Load site url span how config) o same =
      let b = begun (Load site url span how config) o.live in
      load_responds site url span how config o b.0 b.1 same (load_begins site url span how config o.live)
  responds_well (Find site space kind name) o same = record { runs = tt; same_depth = same }
  responds_well (Get owner name) o same = record { runs = tt; same_depth = same }
  responds_well (Put owner name value) o same = record { runs = tt; same_depth = same }
  responds_well (Say kind span text) o same = record { runs = tt; same_depth = same }
  responds_well (Call name args) o same = record { runs = tt; same_depth = same }

  module _ (sheet : Sheet) (path text : List ℕ) (config : List (List ℕ × Plain)) (reads : setting.read path text ≡ Ok sheet) (in_time : EndsInTime setting.body) where
    job : Job
    job = record { sheet = sheet; config = config; path = path }

    length-answers : (ps : List Pair) → length (answers ps) ≡ length ps
    length-answers [] = refl
    length-answers (p ∷ ps) = ap suc (length-answers ps)

    -- a body that asks has had fewer answers than every body may have
    asks_few : (pairs : List Pair) (op : Question) → setting.body job (answers pairs) ≡ Asks op → length pairs ≤ most_asked → length pairs < most_asked
    asks_few pairs op asks le = by (le_cases (length pairs) most_asked le)
      where
        le_cases : (m n : ℕ) → m ≤ n → (m < n) ⊎ (m ≡ n)
        le_cases m n l = grind arith

        apart : {op : Question} {end : End} → Asks op ≡ Ends end → ⊥
        apart e = cc

        by : (length pairs < most_asked) ⊎ (length pairs ≡ most_asked) → length pairs < most_asked
        by (inl lt) = lt
        by (inr same) = let ends = in_time job (answers pairs) (length-answers pairs ∙ same) in absurd (apart (sym asks ∙ ends.1))

    module _ (rest : List Pair → List Run → Outside → Outcome) (few_turns : ℕ)
        (later : (pairs : List Pair) (runs : List Run) (o : Outside) → few_turns + length pairs ≡ suc most_asked → length pairs ≤ most_asked → EachEndsAsBody setting runs → length o.live.opened ≡ loads
        → EndsWell setting loads path text config (rest pairs runs o)) where
      turn_ends : (pairs : List Pair) (runs : List Run) (o : Outside) (next : Next) → setting.body job (answers pairs) ≡ next → suc few_turns + length pairs ≡ suc most_asked → length pairs ≤ most_asked
          → EachEndsAsBody setting runs → length o.live.opened ≡ loads
          → EndsWell setting loads path text config (turn setting.functions inner rest job text pairs runs o next)
      unfolding job
      turn_ends pairs runs o (Ends end) is count le each same =
          let run : Run = record { path = path; text = text; config = config; seen = pairs; end = end } in
          let as_body : EndsAsBody setting run = record { sheet = sheet; reads = reads; ends = is } in
          record {
            end = inr (run, record { same_path = refl; same_text = refl; same_config = refl }, as_body, refl);
            runs = each_append setting runs (run ∷ []) each (as_body, tt);
            same_depth = same;
          }
      turn_ends pairs runs o (Asks op) is count le each same =
          let r : Response = responds setting.functions inner op o in
          let answered : RespondsWell setting loads r = responds_well op o same in
          let few : length pairs < most_asked = asks_few pairs op is le in
          let len = length-append pairs ((op, r.answer) ∷ []) in
          later (pairs ++ (op, r.answer) ∷ []) (runs ++ r.runs) r.outside (omega (arith, len, count)) (omega (arith, len, few)) (each_append setting runs r.runs each answered.runs) answered.same_depth

    goes_on_ends : (more : ℕ) (pairs : List Pair) (runs : List Run) (o : Outside) → more + length pairs ≡ suc most_asked → length pairs ≤ most_asked → EachEndsAsBody setting runs → length o.live.opened ≡ loads
        → EndsWell setting loads path text config (goes_on setting inner job text more pairs runs o)
    unfolding goes_on job
    goes_on_ends zero pairs runs o count le each same = absurd (omega (arith, count, le))
    goes_on_ends (suc more) pairs runs o count le each same =
        turn_ends (goes_on setting inner job text more) more (goes_on_ends more) pairs runs o (setting.body job (answers pairs)) refl count le each same

  read_ends : (path text : List ℕ) (config : List (List ℕ × Plain)) (o : Outside) (turns : ℕ) → EndsInTime setting.body → length o.live.opened ≡ loads → turns ≡ suc most_asked → (read : Result Sheet Fault) → setting.read path text ≡ read
      → EndsWell setting loads path text config (evaluated_by (λ sheet. goes_on setting inner (record { sheet = sheet; config = config; path = path }) text turns [] [] o) o read)
  unfolding job
  read_ends path text config o turns in_time same all (Ok sheet) reads =
      let zero_left : 0 ≤ most_asked = omega arith in
      goes_on_ends sheet path text config reads in_time turns [] [] o (omega (arith, all)) zero_left tt same
  read_ends path text config o turns in_time same all (Err fault) reads =
      record { end = inl (fault, reads, refl); runs = tt; same_depth = same }

-- with so many loads that may still be opened
fresh_ends : (setting : Setting) → EndsInTime setting.body → (depth loads : ℕ) → 64 ≤ loads + depth → Inner setting loads (fresh setting depth)
unfolding fresh
fresh_ends setting in_time zero loads enough o path text config few same = absurd (omega (arith, enough, few))
fresh_ends setting in_time (suc depth) loads enough o path text config few same =
    read_ends setting (suc loads) (fresh setting depth) (fresh_ends setting in_time depth (suc loads) (omega (arith, enough))) path text config o (suc most_asked) in_time same refl (setting.read path text) refl

pub ends_by_bodies : EndsByBodies
ends_by_bodies setting o path text config in_time few =
    let enough : 64 ≤ length o.live.opened + room o.live = omega (arith, few) in
    let turns : suc most_asked - 0 ≡ suc most_asked = omega arith in
    let all = read_ends setting (length o.live.opened) (fresh setting (room o.live)) (fresh_ends setting in_time (room o.live) (length o.live.opened) enough) path text config o (suc most_asked - 0) in_time refl turns (setting.read path text) refl in
    (all.end, all.runs)

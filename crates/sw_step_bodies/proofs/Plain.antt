-- Questions that are no loads.
use Rattle.std.proofs.Common.{◌≡◌, ℕ, ◌≤◌, List, [], ◌∷◌, ◌++◌, length, ◌⊎◌, inl, inr, None, refl, sym, ◌∙◌, ap, subst, append_assoc, append-nil, length-append, arith}
use Rattle.sw_world.specs.declared.question.Question.{Question}
use Rattle.sw_world.specs.declared.question.Question.TheVariants.{Load, Find, Get, Put, Say, Call}
use Rattle.sw_world.specs.declared.answer.Answer.{Answer}
use Rattle.sw_world.specs.Body.{Pair, Job, Goes, Leads}
use Rattle.sw_world.specs.Questions.{IsLoad}
use Rattle.sw_world.specs.Laws.{EndsInTime}
use Rattle.sw_world.specs.Progress.{Progress, IsBody, Went}
use Rattle.sw_modules.specs.State.{State}
use Rattle.sw_modules.specs.Outside.{Functions, Outside, plain}
use Rattle.sw_modules.specs.Fresh.{Setting, Evaluation, responds, fresh}
use Rattle.sw_step_bodies.specs.Stepping.{StepsIn, opened_for, steps_within}
use Rattle.sw_step_bodies.specs.Standing.{Later, Standing, left_open, with_answer, outside_of}
use Rattle.sw_step_bodies.specs.Moves.{WentOn}
use Rattle.sw_step_bodies.proofs.Pairs.{goes_first, goes_rest}
use Rattle.sw_step_bodies.proofs.Asked.{left_answered}

-- no body is opened for them
opens_plain : (setting : Setting) (inside : StepsIn) (op : Question) (o : Outside) → (IsLoad op → ⊥) → opened_for setting inside op o ≡ None
opens_plain setting inside (Load site url span how config) o not = absurd (not tt)
opens_plain setting inside (Find site space kind name) o not = refl
opens_plain setting inside (Get owner name) o not = refl
opens_plain setting inside (Put owner name value) o not = refl
opens_plain setting inside (Say kind span text) o not = refl
opens_plain setting inside (Call name args) o not = refl

-- they open and close nothing, and leave the folder
plain_opened : (functions : Functions) (op : Question) (o : Outside) → (plain functions op o).1.live.opened ≡ o.live.opened
plain_opened functions (Load site url span how config) o = refl
plain_opened functions (Find site space kind name) o = refl
plain_opened functions (Get owner name) o = refl
plain_opened functions (Put owner name value) o = refl
plain_opened functions (Say kind span text) o = refl
plain_opened functions (Call name args) o = refl

plain_folder : (functions : Functions) (op : Question) (o : Outside) → (plain functions op o).1.live.folder ≡ o.live.folder
plain_folder functions (Load site url span how config) o = refl
plain_folder functions (Find site space kind name) o = refl
plain_folder functions (Get owner name) o = refl
plain_folder functions (Put owner name value) o = refl
plain_folder functions (Say kind span text) o = refl
plain_folder functions (Call name args) o = refl

-- what the questions leave alone
pub led_keeps : {W N : Type 0} (gives : W → Question → Answer → W → Type 0) (name : W → N) (keeps : (w : W) (op : Question) (a : Answer) (t : W) → gives w op a t → name t ≡ name w)
    (w : W) (ps : List Pair) (t : W) → Leads gives w ps t → name t ≡ name w
led_keeps gives name keeps w [] t leads = ap name leads
led_keeps gives name keeps w (p ∷ ps) t leads = led_keeps gives name keeps leads.1.0 ps t leads.1.2 ∙ keeps w p.0 p.1 leads.1.0 leads.1.1

-- a body that went on has the pairs behind it that it had, and those that it asked
went_pairs : (ps pl qs ql taken asked : List Pair) → pl ≡ taken ++ ql → qs ≡ ps ++ (taken ++ asked) → (asked ≡ []) ⊎ (ql ≡ []) → qs ++ ql ≡ (ps ++ pl) ++ asked
went_pairs ps pl qs ql taken asked left seen (inl none) =
    ap (λ l. l ++ ql) (seen ∙ ap (λ l. ps ++ l) (ap (λ l. taken ++ l) none ∙ append-nil taken)) ∙ append_assoc ps taken ql ∙ ap (λ l. ps ++ l) (sym left)
    ∙ sym (append-nil (ps ++ pl)) ∙ ap (λ l. (ps ++ pl) ++ l) (sym none)
went_pairs ps pl qs ql taken asked left seen (inr none) =
    ap (λ l. qs ++ l) none ∙ append-nil qs ∙ seen ∙ ap (λ l. ps ++ (l ++ asked)) (sym (append-nil taken) ∙ ap (λ l. taken ++ l) (sym none) ∙ sym left) ∙ sym (append_assoc ps pl asked)

-- what is outside, as a world has it
module _ {W : Type 0} (gives : W → Question → Answer → W → Type 0) (view : W → Outside) (setting : Setting) (is : (w : W) (op : Question) (a : Answer) (t : W) → gives w op a t → plain setting.functions op (view w) ≡ (a, view t))
    (in_time : EndsInTime setting.body) where
  -- a question that is no load is answered plainly
  responds_plain : (inner : Evaluation) (w : W) (p : Pair) (t : W) → (IsLoad p.0 → ⊥) → gives w p.0 p.1 t
      → responds setting.functions inner p.0 (view w) ≡ record { answer = p.1; outside = view t; runs = [] }
  responds_plain inner w (Load site url span how config, a) t not given = absurd (not tt)
  responds_plain inner w (Find site space kind name, a) t not given = ap (λ (q : Answer × Outside). record { answer = q.0; outside = q.1; runs = [] }) (is w (Find site space kind name) a t given)
  responds_plain inner w (Get owner name, a) t not given = ap (λ (q : Answer × Outside). record { answer = q.0; outside = q.1; runs = [] }) (is w (Get owner name) a t given)
  responds_plain inner w (Put owner name value, a) t not given = ap (λ (q : Answer × Outside). record { answer = q.0; outside = q.1; runs = [] }) (is w (Put owner name value) a t given)
  responds_plain inner w (Say kind span text, a) t not given = ap (λ (q : Answer × Outside). record { answer = q.0; outside = q.1; runs = [] }) (is w (Say kind span text) a t given)
  responds_plain inner w (Call name args, a) t not given = ap (λ (q : Answer × Outside). record { answer = q.0; outside = q.1; runs = [] }) (is w (Call name args) a t given)

  led_left : (d : ℕ) (later : Later) (times : List (List ℕ × ℕ)) (b : Standing) (asked : List Pair) (w t : W) → Goes (setting.body b.job) [] (b.pairs ++ asked) → Leads gives w asked t
      → left_open setting d later b times (view w) ≡ left_open setting d later (record b { pairs = b.pairs ++ asked }) times (view t)
  led_left d later times b [] w t goes leads =
      ap (λ (l : List Pair). left_open setting d later (record b { pairs = l }) times (view w)) (sym (append-nil b.pairs))
      ∙ ap (λ (x : W). left_open setting d later (record b { pairs = b.pairs ++ [] }) times (view x)) (sym leads)
  led_left d later times b (p ∷ ps) w t goes leads =
      let here = goes_rest (setting.body b.job) [] b.pairs (p ∷ ps) goes in
      let next : Standing = with_answer b p.0 p.1 in
      let goes2 : Goes (setting.body b.job) [] (next.pairs ++ ps) = rw append_assoc goes in
      left_answered setting in_time d later times b p.0 p.1 (view w) (view leads.1.0) (goes_first (setting.body b.job) [] b.pairs (p ∷ ps) goes) here.0
      (responds_plain (fresh setting d) w p leads.1.0 leads.0 leads.1.1) (opens_plain setting (steps_within setting d) p.0 (view w) leads.0)
      ∙ led_left d later times next ps leads.1.0 t goes2 leads.1.2
      ∙ ap (λ (l : List Pair). left_open setting d later (record b { pairs = l }) times (view t)) (append_assoc b.pairs (p ∷ []) ps)

  -- a body that went on
  pub went_on : (p q : Progress) (w t : W) (taken asked : List Pair) (old now : State) → view w ≡ outside_of old → view t ≡ outside_of now
      → IsBody setting.body q → Went gives p q taken asked w t → WentOn setting p q old now
  went_on p q w t taken asked old now before after is_body went =
      let pairs : q.seen ++ q.left ≡ (p.seen ++ p.left) ++ asked = went_pairs p.seen p.left q.seen q.left taken asked went.left went.seen went.first in
      let goes : Goes (setting.body p.job) [] ((p.seen ++ p.left) ++ asked) =
      subst (λ (l : List Pair). Goes (setting.body p.job) [] l) pairs (subst (λ (j : Job). Goes (setting.body j) [] (q.seen ++ q.left)) went.same_job is_body.goes) in
      let len = length-append (p.seen ++ p.left) asked in
      let longer : length (p.seen ++ p.left) ≤ length (q.seen ++ q.left) = omega (arith, ap length pairs, len) in
      let opened : length now.opened ≡ length old.opened =
      ap (λ (o : Outside). length o.live.opened) (sym after)
      ∙ led_keeps gives (λ w. length (view w).live.opened) (λ w op a t h. ap (λ (q : Answer × Outside). length q.1.live.opened) (sym (is w op a t h)) ∙ ap length (plain_opened setting.functions op (view w))) w asked t went.led
      ∙ ap (λ (o : Outside). length o.live.opened) before in
      let folder : now.folder ≡ old.folder =
      ap (λ (o : Outside). o.live.folder) (sym after)
      ∙ led_keeps gives (λ w. (view w).live.folder) (λ w op a t h. ap (λ (q : Answer × Outside). q.1.live.folder) (sym (is w op a t h)) ∙ plain_folder setting.functions op (view w)) w asked t went.led
      ∙ ap (λ (o : Outside). o.live.folder) before in
      record {
        same_job = went.same_job;
        on = λ count. record {
          same_job = refl;
          same_count = refl;
          longer = longer;
          left = λ d later times. let b : Standing = record { job = p.job; count = count; pairs = p.seen ++ p.left } in
              ap (λ (o : Outside). left_open setting d later b times o) (sym before)
              ∙ led_left d later times b asked w t goes went.led
              ∙ ap (λ (l : List Pair). left_open setting d later (record b { pairs = l }) times (view t)) (sym pairs)
              ∙ ap (λ (o : Outside). left_open setting d later (record b { pairs = q.seen ++ q.left }) times o) after;
          same_depth = opened;
          same_folder = folder;
        };
      }

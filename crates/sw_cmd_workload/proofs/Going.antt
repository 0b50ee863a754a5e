-- The compiles so far, with what was counted and heard of them.
use Rattle.std.proofs.Common.{◌≡◌, ℕ, suc, ◌+◌, ◌<◌, ◌≤◌, List, [], ◌∷◌, ◌++◌, length, Ok, Err, OnErr, refl, sym, ap, ◌∙◌, subst, append_assoc, arith, zero-add, add-zero, add-one, add_assoc}
use Rattle.std.proofs.lemmas.List.{append-nil}
use Rattle.std.specs.declared.result.Result.{Result}
use Rattle.sw_folder.specs.Files.{Files}
use Rattle.sw_modules.specs.Fresh.{Setting}
use Rattle.sw_record.specs.declared.reply.Reply.{Reply}
use Rattle.sw_cmd_protocol.specs.Heard.{Hearing, HearsAll}
use Rattle.sw_keeper.specs.Compile.{paths_of}
use Rattle.sw_keeper.specs.Keeping.{Keeping, Table}
use Rattle.sw_cmd_workload.specs.declared.tally.Tally.{Tally}
use Rattle.sw_cmd_workload.specs.Made.{made, edited, at_turn, IsAfter, IsHeldAfter, IsReply, bodies_in, paths_in, css_length, css_after}
use Rattle.sw_cmd_workload.specs.Ends.{Standing, Compiles, Counts, BreaksOff}

bodies_more : (replies : List Reply) (reply : Reply) → bodies_in (replies ++ reply ∷ []) ≡ bodies_in replies + length reply.ran
bodies_more [] reply = add-zero (length reply.ran) ∙ sym (zero-add (length reply.ran))
bodies_more (x ∷ replies) reply = ap (λ n. length x.ran + n) (bodies_more replies reply) ∙ sym (add_assoc (length x.ran) (bodies_in replies) (length reply.ran))

pub paths_more : (replies : List Reply) (reply : Reply) → paths_in (replies ++ reply ∷ []) ≡ paths_in replies ++ paths_of reply.ran
paths_more [] reply = append-nil (paths_of reply.ran)
paths_more (x ∷ replies) reply = ap (λ ps. paths_of x.ran ++ ps) (paths_more replies reply) ∙ sym (append_assoc (paths_of x.ran) (paths_in replies) (paths_of reply.ran))

css_more : (before : ℕ) (replies : List Reply) (reply : Reply) → css_after before (replies ++ reply ∷ []) ≡ css_length reply.outcome
css_more before [] reply = refl
css_more before (x ∷ replies) reply = css_more (css_length x.outcome) replies reply

pub heard_more : {State : Type 0} (hears : Hearing Reply State) (replies : List Reply) (reply : Reply) (first before now : State)
    → HearsAll hears replies first before → hears reply before now → HearsAll hears (replies ++ reply ∷ []) first now
heard_more {State} hears [] reply first before now e h = (now, subst (λ (x : State). hears reply x now) e h, refl)
heard_more hears (x ∷ replies) reply first before now (between, one, rest) h = (between, one, heard_more hears replies reply between before now rest h)

same_keeping : (a : Keeping) (folder : Files) (kept : Table) → a.folder ≡ folder → a.kept ≡ kept → a ≡ record { folder = folder; kept = kept }
same_keeping a folder kept e d =
    ap (λ (x : Files). let k : Keeping = record { folder = x; kept = a.kept } in k) e ∙ ap (λ (x : Table). let k : Keeping = record { folder = folder; kept = x } in k) d

-- so many compiles were answered, counted and heard, and this is held
pub record Going {State : Type 0} (setting : Setting) (number turns : ℕ) (hears : Hearing Reply State) (tally : Tally) (keeper : Keeping)
    (before now : Standing State) : Type 0 where
  pub counts : Counts setting number turns hears tally before now
  pub holds : IsHeldAfter setting number turns keeper

module _ {State : Type 0} (setting : Setting) (number : ℕ) (hears : Hearing Reply State) where
  pub nothing_yet : (s : Standing State) → BreaksOff setting number hears s s
  nothing_yet s = record {
    turns = 0;
    few = omega arith;
    replies = [];
    are = refl;
    more = [];
    told = sym (append-nil s.ran) ∙ sym (append-nil (s.ran ++ []));
    heard = refl;
  }

-- what holds where no memory was found holds of a result that says so
pub on_err : {A B P : Type 0} (r : Result A B) → P → OnErr r P
on_err (Ok x) p = tt
on_err (Err e) p = p

module _ {State : Type 0} (setting : Setting) (number : ℕ) (hears : Hearing Reply State) (tally : Tally) (keeper : Keeping) where
  pub going_start : (s : Standing State) → keeper.folder ≡ made number → keeper.kept ≡ [] → tally.ran ≡ 0 → tally.css ≡ 0 → Going setting number 0 hears tally keeper s s
  unfolding IsHeldAfter
  going_start s folder kept ran css = record {
    counts = record { compiles = record { replies = []; are = refl; told = sym (append-nil s.ran); heard = refl }; ran = ran; css = css };
    holds = same_keeping keeper (made number) [] folder kept;
  }

  module _ (turns : ℕ) (before between : Standing State) (g : Going setting number turns hears tally keeper before between) where
    -- where the edit or the compile found no memory
    pub going_breaks : (now : Standing State) (more : List (List ℕ)) → turns ≤ 51 → now.ran ≡ between.ran ++ more → now.heard ≡ between.heard → BreaksOff setting number hears before now
    going_breaks now more few ran heard = let c = g.counts.compiles in record {
      turns = turns;
      few = few;
      replies = c.replies;
      are = c.are;
      more = more;
      told = ran ∙ ap (λ ps. ps ++ more) c.told;
      heard = subst (λ (x : State). HearsAll hears c.replies before.heard x) (sym heard) c.heard;
    }

    module _ (edit after : Keeping) (reply : Reply) (now : Standing State) (folder : edit.folder ≡ edited number turns keeper.folder) (kept : edit.kept ≡ keeper.kept)
        (is : IsReply setting edit reply) (then_ : IsAfter setting edit after) (ran : now.ran ≡ between.ran ++ paths_of reply.ran) (heard : hears reply between.heard now.heard) where
      pub at_this : edit ≡ at_turn number turns keeper
      at_this = same_keeping edit (edited number turns keeper.folder) keeper.kept folder kept

      -- one compile more
      abbrev pub compiles_more : Compiles setting number (suc turns) hears before now
      compiles_more = let c = g.counts.compiles in record {
        replies = c.replies ++ reply ∷ [];
        are = (c.replies, reply, refl, (keeper, g.holds, subst (λ (k : Keeping). IsReply setting k reply) at_this is), c.are);
        told = ran ∙ ap (λ ps. ps ++ paths_of reply.ran) c.told ∙ append_assoc before.ran (paths_in c.replies) (paths_of reply.ran) ∙ ap (λ ps. before.ran ++ ps) (sym (paths_more c.replies reply));
        heard = heard_more hears c.replies reply before.heard between.heard now.heard c.heard heard;
      }

      -- where it couldn't be counted
      pub uncounted : turns < 51 → BreaksOff setting number hears before now
      uncounted few = let c = compiles_more in record {
        turns = suc turns;
        few = omega arith;
        replies = c.replies;
        are = c.are;
        more = [];
        told = c.told ∙ sym (append-nil (before.ran ++ paths_in c.replies));
        heard = c.heard;
      }

      pub going_on : (more : Tally) → more.ran ≡ tally.ran + length reply.ran → more.css ≡ css_length reply.outcome → Going setting number (turns + 1) hears more after before now
      unfolding IsHeldAfter
      going_on more bodies css = rw add-one (record {
        counts = record {
          compiles = compiles_more;
          ran = bodies ∙ ap (λ n. n + length reply.ran) g.counts.ran ∙ sym (bodies_more g.counts.compiles.replies reply);
          css = css ∙ sym (css_more 0 g.counts.compiles.replies reply);
        };
        holds = (keeper, g.holds, subst (λ (k : Keeping). IsAfter setting k after) at_this then_);
      })

-- What the words ask for is done.
use Rattle.std.proofs.Common.{◌≡◌, ◌≢◌, ℕ, Option, None, Some, refl, sym, ap, ◌∙◌, subst}
use Rattle.sw_cmd_line.specs.declared.command.Command.{Command}
use Rattle.sw_cmd_line.specs.Forms.{Form, form_seen}
use Rattle.sw_world.specs.Body.{BodyOf}
use Rattle.sw_modules.specs.Outside.{Functions}
use Rattle.sw_record.specs.declared.reply.Reply.{Reply}
use Rattle.sw_cmd_protocol.specs.Heard.{Hearing}
use Rattle.sw_cmd_protocol.specs.Statuses.{no_command}
use Rattle.sw_cmd_run.specs.Run.{Surroundings, Runs}

-- words in no form
module _ {State : Type 0} (body : BodyOf) (host : Functions) (hears : Hearing Reply State) (s : Surroundings) (t : State) where
  pub none_runs : (form : Option Form) → None ≡ form → Runs body host hears form no_command s s t t
  none_runs form e =
      subst (λ (f : Option Form). Runs body host hears f no_command s s t t) e (record { tells = refl; left = refl; written = refl; course = refl; ran = refl; hosts = refl }, refl)

-- words in this form
module _ (form : Option Form) (is : Form) (e : Some is ≡ form) where
  pub some_runs : {State : Type 0} (body : BodyOf) (host : Functions) (hears : Hearing Reply State) (status : ℕ) (old new : Surroundings) (before now : State)
      → Runs body host hears (Some is) status old new before now → Runs body host hears form status old new before now
  some_runs body host hears status old new before now x = subst (λ (f : Option Form). Runs body host hears f status old new before now) e x

  pub not_none : {A : Type 0} → form ≡ None → A
  not_none n = let both : Some is ≡ None = e ∙ n in cc

  pub same_form : (other : Form) → form ≡ Some other → is ≡ other
  same_form other n = let both : Some is ≡ Some other = e ∙ n in cc

  pub other_form : (other : Form) → form ≢ Some other → is ≢ other
  other_form other n s = n (sym e ∙ ap Some s)

-- what comes of a command is what comes of its form
module _ {State : Type 0} (body : BodyOf) (host : Functions) (hears : Hearing Reply State) (status : ℕ) (old new : Surroundings) (before now : State) (command is : Command) (r : command ≡ is) where
  pub runs_as : Runs body host hears (Some (form_seen is)) status old new before now → Runs body host hears (Some (form_seen command)) status old new before now
  runs_as x = subst (λ (k : Command). Runs body host hears (Some (form_seen k)) status old new before now) (sym r) x

pub form_as : (command is : Command) (form : Form) → command ≡ is → form_seen command ≡ form → form_seen is ≡ form
form_as command is form r e = ap form_seen (sym r) ∙ e

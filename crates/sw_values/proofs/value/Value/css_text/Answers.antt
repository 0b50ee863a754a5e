use Rattle.std.proofs.Common.{◌≡◌, true, sym, ◌∙◌}
use Rattle.sw_values.specs.Texts.{shown}
use Rattle.sw_values.proofs.Appending.{name_is, name_light, name_css, fault_css}
use Rattle.sw_values.proofs.value.Value.css_text.Goals as goal

pub returns-in-Ok : goal.returns-in-Ok
returns-in-Ok c =
    let css : (shown c.args.quotes c.args.self.now).css ≡ true = sym c.is_css.ensures ∙ c.if-not-is_css.false in
    let named = c.named.ensures _ c.in-Ok.ensures in
    record {
      text = name_is _ _ named;
      css = name_css _ (shown c.args.quotes c.args.self.now).text _ css;
      light = name_light _ _ named;
      err = fault_css (shown c.args.quotes c.args.self.now) _ css named;
    }

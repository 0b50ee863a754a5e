-- What lines bring stands in order in the text, and what is laid at its end.
use Rattle.std.proofs.Common.{ℕ, zero, suc, ◌-◌, ◌≤◌, Bool, true, false, List, [], arith, length, take, None}
use Rattle.std.specs.Prelude.{nat_lt}
use Rattle.std.specs.Str.{IsCharBoundary}
use Rattle.sw_tokens.specs.declared.token.TokenKind.{TokenKind}
use Rattle.sw_tokens.specs.declared.token.TokenKind.TheVariants as kinds
use Rattle.sw_tokens.specs.Order.{StandsIn}
use Rattle.sw_text_scan.proofs.Progress.{either}
use Rattle.sw_tokens.proofs.Cuts.{IsText}
use Rattle.sw_parse_layout.specs.declared.blocks.Blocks.{Blocks}
use Rattle.sw_parse_layout.specs.declared.blocks.Shut.{Shut}
use Rattle.sw_parse_layout.specs.declared.blocks.Entry.{Entry}
use Rattle.sw_parse_layout.specs.declared.state.Mode.{Mode}
use Rattle.sw_parse_layout.specs.declared.state.Mode.TheVariants as modes
use Rattle.sw_parse_layout.specs.declared.state.State.{State}
use Rattle.sw_parse_layout.specs.Laid.{refused_at}
use Rattle.sw_parse_layout.specs.Blocks.{shut_from, shut_blocks, top_depth, due_sign, entered, line_laid}
use Rattle.sw_parse_layout.specs.Layout.{CutIf, comment_end_sign, last_tokens}
use Rattle.sw_parse_layout.proofs.Runs.{Runs, runs_both, runs_later, Lays}

module _ (bs : List ℕ) (text : IsText bs) where
  -- tokens

  pub nothing_laid : (i j : ℕ) → i ≤ j → Lays bs i j (record { tokens = []; refused = None })
  nothing_laid i j l = record { runs = l; refused = tt }

  pub empty_stands : (kind : TokenKind) (at : ℕ) (spaced : Bool) → IsCharBoundary bs at
      → StandsIn bs (record { kind = kind; from = at; to = at; spaced = spaced })
  empty_stands kind at spaced cut = record { from = cut; to = cut; order = omega arith }

  pub refused_cut : (wanted : Bool) (at : ℕ) → IsCharBoundary bs at → CutIf bs (refused_at wanted at)
  refused_cut true at cut = cut
  refused_cut false at cut = tt

  -- lines

  shut_runs : (n end depth : ℕ) (depths : List ℕ) → IsCharBoundary bs end
      → Runs bs end end (shut_from n end depth depths).tokens
  shut_runs zero end depth depths cut = omega arith
  shut_runs (suc n) end depth depths cut =
      either (λ (r : Shut). Runs bs end end r.tokens) (nat_lt depth (top_depth depths)) _ _
      (λ _. (
        omega arith,
        empty_stands kinds.CloseBrace end true cut,
        shut_runs n end depth (take (length depths - 1)
            depths) cut,
      )) (λ _. omega arith)

  pub shut_blocks_runs : (end depth : ℕ) (depths : List ℕ) → IsCharBoundary bs end
      → Runs bs end end (shut_blocks end depth depths).tokens
  unfolding shut_blocks
  shut_blocks_runs end depth depths cut = shut_runs (length depths) end depth depths cut

  pub due_runs : (due : Bool) (end : ℕ) → IsCharBoundary bs end → Runs bs end end (due_sign due end)
  due_runs true end cut = (omega arith, empty_stands kinds.Semicolon end true cut, omega arith)
  due_runs false end cut = omega arith

  entered_runs : (blocks : Blocks) (end depth at : ℕ) → end ≤ at → IsCharBoundary bs end → IsCharBoundary bs at
      → Runs bs end at (entered blocks end depth at).tokens
  unfolding entered
  entered_runs blocks end depth at l ce ca =
      either (λ (r : Entry). Runs bs end at r.tokens) blocks.first _ _ (λ _. l)
      (λ _. either (λ (r : Entry). Runs bs end at r.tokens) (nat_lt (top_depth blocks.depths) depth) _ _
      (λ _. (l, empty_stands kinds.OpenBrace at true ca, omega arith))
      (λ _. runs_later bs end end at _ l (runs_both bs end end end _ _ (due_runs blocks.due end ce) (shut_blocks_runs
      end depth blocks.depths ce))))

  pub line_lays : (blocks : Blocks) (end start at : ℕ) → end ≤ at → IsCharBoundary bs end → IsCharBoundary bs at
      → Lays bs end at (line_laid bs blocks end start at)
  unfolding line_laid
  line_lays blocks end start at l ce ca = record {
    runs = entered_runs blocks end (at - start) at l ce ca;
    refused = refused_cut _ at ca;
  }

  -- the end of the text

  sign_runs : (mode : Mode) (end : ℕ) → IsCharBoundary bs end → Runs bs end end (comment_end_sign mode end)
  sign_runs modes.Between end cut = omega arith
  sign_runs (modes.Statement depth) end cut = omega arith
  sign_runs (modes.Comment extent) end cut = (omega arith, empty_stands kinds.CommentEnd end false cut, omega arith)
  sign_runs (modes.Behind extent) end cut = omega arith

  pub last_runs : (s : State) → IsCharBoundary bs s.line.end → Runs bs s.line.end s.line.end (last_tokens s)
  last_runs s cut =
      runs_both bs s.line.end s.line.end s.line.end _ _ (sign_runs s.mode s.line.end cut)
      (runs_both bs s.line.end s.line.end s.line.end _ _ (due_runs s.blocks.due s.line.end cut) (shut_blocks_runs
      s.line.end 0 s.blocks.depths cut))

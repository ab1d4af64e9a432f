use Rattle.std.proofs.Common.{rules, ◌≡◌, ◌++◌, ℕ, List, map, ◌∙◌}
use Rattle.std.specs.Prelude.{codes}
use Rattle.akl_terms.specs.declared.program.ShownTerm.{ShownTerm}
use Rattle.tree_models.specs.Texts.{shown_lines}
use Rattle.tree_models.proofs.CellLines.{model_text}
use Rattle.tree_models.proofs.text.model_lines.Goals as goal

pub returns : goal.returns
returns c =
    let names : List (List ℕ) = map (λ (s : ShownTerm). s.name) c.args.shown.now in
    let begun : c.push_text.new.line.items ≡ codes "model\n" = search rules in
    let old : c.push_shown.new.out.items ≡ codes "model\n" ++ shown_lines names c.args.model.now.shown.items = c.in_ok-push_shown.ensures ∙ (λ i. begun i ++ shown_lines names (c.deref.ensures.value i)) in
    model_text c.args.templates.now.symbols names c.args.model.now c.push_shown.new.out.items c.push_cells.new.out.items (rw (c.deref-2.ensures.value, c.deref-3.ensures.value) at c.in_ok-push_cells.ensures) old

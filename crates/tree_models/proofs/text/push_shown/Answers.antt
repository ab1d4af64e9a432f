use Rattle.std.proofs.Common.{◌≡◌, ◌++◌, ◌<◌, ◌≤◌, ℕ, List, length, refl, ap, ◌∙◌, ◌⊎◌, arith, rules}
use Rattle.akl_terms.specs.declared.program.ShownTerm.{ShownTerm}
use Rattle.tree_models.proofs.CellLines.{shown_more, shown_all, short_end}
use Rattle.tree_models.proofs.text.push_shown.Goals as goal

pub loop-k-preserved : goal.loop-k-preserved
loop-k-preserved c =
    let less : c.loop-k.k < c.min-k-end.result = c.loop-k-test.true in
    let name : c.as_str.result.now ≡ c.index-shown-k.result.name = search rules in
    shown_more c.args.shown.now c.args.places.now c.loop-k.k _ _ c.as_str.result.now _ c.args.out.now.items c.loop-k.out.items c.push_shown_line.new.out.items (omega arith) (omega arith)
    (name ∙ ap (λ (s : ShownTerm). s.name) c.index-shown-k.is) refl c.loop-k.invariant c.in_ok-push_shown_line.ensures

pub returns : goal.returns
returns c =
    let end : (length c.args.shown.now ≤ c.loop-k.k) ⊎ (length c.args.places.now ≤ c.loop-k.k) = short_end (length c.args.shown.now) (length c.args.places.now) c.loop-k.k (omega arith) in
    c.loop-k.invariant ∙ ap (λ (l : List ℕ). c.args.out.now.items ++ l) (shown_all c.args.shown.now c.args.places.now c.loop-k.k end)

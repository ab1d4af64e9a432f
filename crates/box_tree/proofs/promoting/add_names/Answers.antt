use Rattle.std.proofs.Common.{◌≡◌, ℕ, ◌-◌, List, length, take, drop, ap, ◌∙◌, arith}
use Rattle.std.proofs.lemmas.List.{length-drop, take_all}
use Rattle.akl_terms.specs.declared.name.Name.{Name}
use Rattle.box_tree.specs.Edits.{less_names}
use Rattle.box_tree.proofs.Naming.{names_come, undone_from}
use Rattle.box_tree.proofs.promoting.add_names.Goals as goal

pub returns-in_default-clause-unchanged : goal.returns-in_default-clause-unchanged
returns-in_default-clause-unchanged c =
    let names : List Name = c.args.names.now in
    let at : ℕ = c.loop-at.at in
    let whole : take (length names - at) (drop at names) ≡ drop at names = take_all (length names - at) (drop at names) (omega (arith, length-drop at names)) in
    let same : c.drop_names.new.set.keys ≡ c.args.set.now.keys = undone_from names c.args.set.now.keys c.insert.new.self.keys c.drop_names.new.set.keys at c.requires (c.in_default.ensures.err ∙ c.loop-at.invariant.1)
    (c.drop_names.ensures ∙ ap (λ (ns : List Name). less_names ns c.insert.new.self.keys) whole) in
    λ i. record { keys = same i }

pub loop-at-preserved : goal.loop-at-preserved
loop-at-preserved c =
    let t = c.loop-at-test.true in
    let l = c.loop-at.invariant.0 in (
      omega (arith, t, l),
      names_come c.args.names.now c.args.set.now.keys c.loop-at.set.keys c.insert.new.self.keys c.loop-at.at (c.loop-at.at - 1) _ (omega (arith, t)) l c.loop-at.invariant.1 c.in-Ok.ensures.keys,
    )

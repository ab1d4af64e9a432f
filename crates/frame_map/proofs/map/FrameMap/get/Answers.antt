use Rattle.std.proofs.Common.{◌≡◌, List, eq-eqb, ne_eqb, sym, ap, subst, ◌∙◌, arith}
use Rattle.std.proofs.lemmas.List.{at_drop_all}
use Rattle.std.specs.Map.{lookup}
use Rattle.akl_terms.specs.Names.{same_name}
use Rattle.frame_map.specs.declared.root.Root.{Root}
use Rattle.frame_map.specs.Roots.{OfWorker, of_root, all_roots, AreRoots, value_at}
use Rattle.frame_map.proofs.Found.{found}
use Rattle.frame_map.proofs.Roots.{of_root_at, roots_count, root_is_tree, value_here, value_later}
use Rattle.frame_map.proofs.map.FrameMap.get.Given.{Over}
use Rattle.frame_map.proofs.map.FrameMap.get.Goals as goal
use Rattle.frame_map.proofs.map.FrameMap.get.Goals.{After-as_slice-root-items}

-- the map's entries by its roots
by_roots : (g : Over) (c : After-as_slice-root-items g) → lookup (same_name c.args.name) c.args.self.now ≡ value_at (all_roots c.as_slice-root-items.result.now) c.args.name
by_roots g c = ap (lookup (same_name c.args.name)) (sym c.self.view_is) ∙ found c.self.inside.roots.items c.self.invariant c.args.name ∙ ap (λ (rs : List (Root g.row.V.Denot)). value_at (all_roots rs) c.args.name) (sym c.as_slice-root-items.ensures)

pub get-requires : goal.get-requires
get-requires g c =
    root_is_tree c.as_slice-root-items.result.now c.loop-root.root-index c.root-item.result (subst (λ (rs : List (Root g.row.V.Denot)). AreRoots (all_roots rs)) (sym c.as_slice-root-items.ensures) c.self.invariant) c.loop-root-test.true c.root-item.is

pub returns-then-root-name : goal.returns-then-root-name
returns-then-root-name g c =
    let roots = c.as_slice-root-items.result.now in
    let count = roots_count roots in
    let read = ap (λ (x : Root g.row.V.Denot). x.worker) c.root-item.is in
    c.get.ensures
    ∙ sym (by_roots g (goal.at.returns-then-root-name g c).After-as_slice-root-items ∙ c.loop-root.invariant
    ∙ value_here c.loop-root.root-index (all_roots roots) (of_root c.root-item.result) c.args.name (omega arith) (of_root_at roots c.loop-root.root-index c.root-item.result c.loop-root-test.true c.root-item.is) (eq-eqb c.args.name.worker c.root-item.result.worker (omega arith)))

pub loop-root-preserved : goal.loop-root-preserved
loop-root-preserved g c =
    let roots = c.as_slice-root-items.result.now in
    let count = roots_count roots in
    let read = ap (λ (x : Root g.row.V.Denot). x.worker) c.root-item.is in
    let other = c.if-root-name.false in
    c.loop-root.invariant
    ∙ value_later c.loop-root.root-index (all_roots roots) (of_root c.root-item.result) c.args.name (omega arith) (of_root_at roots c.loop-root.root-index c.root-item.result c.loop-root-test.true c.root-item.is) (ne_eqb c.args.name.worker c.root-item.result.worker (λ same. other (sym same)))

pub returns : goal.returns
returns g c =
    let roots = c.as_slice-root-items.result.now in
    let count = roots_count roots in
    sym (by_roots g (goal.at.returns g c).After-as_slice-root-items ∙ c.loop-root.invariant
    ∙ at_drop_all (λ (rs : List (OfWorker g.row.V.Denot)). value_at rs c.args.name) (all_roots roots) c.loop-root.root-index (omega arith))

use Rattle.std.proofs.Common.{◌≡◌, List, [], ◌∷◌, ◌++◌, ap, ◌∙◌, Vec, Global}
use Rattle.frame_map.specs.declared.tree.Tree.{Tree}
use Rattle.std.specs.Arc.{arc_value}
use Rattle.frame_map.specs.Contents.{contents, all_contents}
use Rattle.frame_map.proofs.Nodes.{raised_same, raised_fits}
use Rattle.frame_map.proofs.tree.Tree.below_node.Goals as goal

pub returns : goal.returns
returns g c =
    let a = c.in_ok-new.field-0 in
    let one : all_contents (arc_value a).items ≡ contents c.in_ok-clone.field-0 ∷ [] =
    ap (λ (v : Vec (Tree g.row.V.Denot) Global). all_contents v.items) c.in_ok-new.ensures.ok ∙ ap all_contents c.in_ok-push.ensures.items ∙ ap (λ (ts : List (Tree g.row.V.Denot)). all_contents (ts ++ c.in_ok-clone.field-0 ∷ [])) c.new-children.ensures.items in
    record {
      same = raised_same c.args.self.now c.in_ok-clone.field-0 c.args.width a one c.in_ok-clone.ensures.cases c.requires;
      fits = raised_fits c.args.self.now c.in_ok-clone.field-0 c.args.width a one c.in_ok-clone.ensures.cases c.requires;
    }

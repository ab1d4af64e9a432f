use Rattle.std.proofs.Common.{◌≡◌, List, [], ◌∷◌, ◌++◌, length, length-append, refl, ap, sym, subst, ◌∙◌, arith}
use Rattle.std.proofs.lemmas.List.{map_push}
use Rattle.frame_map.specs.declared.tree.Tree.{Tree}
use Rattle.frame_map.specs.declared.tree.Tree.TheVariants as tree
use Rattle.frame_map.specs.Contents.{Contents, nothing, contents, all_contents, of_children, AllFit}
use Rattle.frame_map.proofs.Children.{children_push, all_fit_push}
use Rattle.frame_map.proofs.Trees.{contents_empty}
use Rattle.frame_map.proofs.tree.make_children.Goals as goal

pub loop-children-init : goal.loop-children-init
loop-children-init g c = record { most = omega arith; same = λ w n. refl; fit = λ w h. h }

pub loop-children-preserved : goal.loop-children-preserved
loop-children-preserved g c =
    let old : List (Contents g.row.V.Denot) = all_contents c.loop-children.children.items in
    let more : all_contents c.push.new.self.items ≡ old ++ nothing ∷ [] =
    ap all_contents c.in_ok-push.ensures.items ∙ map_push contents c.loop-children.children.items tree.Empty ∙ ap (λ (x : Contents g.row.V.Denot). old ++ x ∷ []) contents_empty in
    let longer = ap length c.in_ok-push.ensures.items in
    record {
      most = omega (arith, length-append {A = Tree g.row.V.Denot});
      same = λ w n. ap (λ (l : List (Contents g.row.V.Denot)). (of_children w l).value n) more ∙ children_push w old n ∙ c.loop-children.invariant.same w n;
      fit = λ w h. subst (AllFit w) (sym more) (all_fit_push w old nothing (c.loop-children.invariant.fit w h) refl);
    }

pub returns-in_err-push-clause-fit : goal.returns-in_err-push-clause-fit
returns-in_err-push-clause-fit g c = λ w h. subst (AllFit w) (sym (ap all_contents c.in_err-push.ensures.items)) (c.loop-children.invariant.fit w h)

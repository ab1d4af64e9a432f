-- The goals that a step draws have names in increasing order, those of each new box and those that come into the box of the place.
use Rattle.std.proofs.Common.{List, [], ◌∷◌, map, refl, sym, subst, inl, inr}
use Rattle.std.specs.Prelude.{slice_index}
use Rattle.akl_terms.specs.declared.name.Name.{Name}
use Rattle.akl_terms.specs.declared.term.Node.{Node}
use Rattle.akl_terms.specs.Equal.{Equations}
use Rattle.akl_model.specs.declared.label.Label.{Label}
use Rattle.akl_model.specs.declared.label.Rule.{Rule}
use Rattle.akl_model.specs.Config.{Atom, Boxes, no_boxes, box, Config}
use Rattle.akl_model.specs.Derivations.{Applies}
use Rattle.akl_model.specs.Instances.{instances}
use Rattle.akl_model.specs.Ordered.{IsIncreasing, BoxesOrdered}
use Rattle.akl_model.proofs.OrdersKept.{instances_ordered}
use Rattle.table_laws.specs.Rows.{Table}
use Rattle.table_laws.specs.Stamped.{Run, IsTableOf}
use Rattle.table_laws.specs.Steps.{NewBox, BoxCopy, Step, tells, forks, fails, cuts, joins, refutes, confirms, splits, AreNewBoxes, Makes}
use Rattle.table_laws.proofs.Copies.{IsAmong, goals_copied}
use Rattle.table_laws.proofs.CopyOrder.{copies_increase}
use Rattle.table_laws.proofs.Atoms.{atom_names}
use Rattle.table_laws.proofs.NewGoals.{numbered_increase}
use Rattle.box_tree.specs.Tables.{AreInOrder, AreCopiesInOrder, DrawsInOrder}
use Rattle.box_tree.proofs.GoalsInOrder.{names_increase}

new_in_order : (nodes : List Node) (around : Equations) (news : List NewBox) (bs : Boxes) → AreNewBoxes nodes around news bs → BoxesOrdered bs → AreInOrder news
new_in_order nodes around [] bs a o = tt
new_in_order nodes around (n ∷ ns) no_boxes a o = absurd a
new_in_order nodes around (n ∷ ns) (box b gs bs) a o = (
  subst IsIncreasing (sym (atom_names n.goals gs a.0.goals)) (names_increase gs o.2),
  new_in_order nodes around ns bs a.1 o.3,
)

each_in_order : (ks : List BoxCopy) → ((k : BoxCopy) → IsAmong k ks → IsIncreasing (goals_copied k)) → AreCopiesInOrder ks
each_in_order [] h = tt
each_in_order (k ∷ ks) h = (h k (inl refl), each_in_order ks (λ v i. h v (inr i)))

pub makes_ordered : (rules : List Rule) (r : Run) (T : Table) (l : Label) (d : Config) (t : IsTableOf rules r T) (a : Applies rules r.program t.config l d) (step : Step)
    → Makes r.program l (slice_index t.config.next l.worker) a.site step → DrawsInOrder step
makes_ordered rules r T l d t a (tells new solved) m = tt
makes_ordered rules r T l d t a (forks op news) m =
    let k : _ = m.1.2 in
    new_in_order r.program.templates.nodes _ news (instances r.program.templates.nodes l.worker (slice_index t.config.next l.worker) k.arguments k.definition.clauses) k.boxes
    (instances_ordered r.program.templates.nodes l.worker (slice_index t.config.next l.worker) k.arguments k.definition.clauses)
makes_ordered rules r T l d t a fails m = tt
makes_ordered rules r T l d t a cuts m = tt
makes_ordered rules r T l d t a refutes m = tt
makes_ordered rules r T l d t a confirms m = tt
makes_ordered rules r T l d t a (splits copy copies) m = each_in_order copies (copies_increase rules r T l d t a copy copies m)
makes_ordered rules r T l d t a (joins new solved goals) m =
    subst (λ (xs : List (Name × Atom)). IsIncreasing (map (λ (x : Name × Atom). x.0) xs)) (sym m.2.body) (numbered_increase l.worker (slice_index t.config.next l.worker) m.2.joined.body)

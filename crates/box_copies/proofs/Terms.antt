-- Terms and atoms under other names.
use Rattle.std.proofs.Common.{◌≡◌, ℕ, zero, suc, List, [], ◌∷◌, map, Option, Some, None, refl, ap}
use Rattle.std.specs.Prelude.{slice_get, option_map}
use Rattle.akl_terms.specs.declared.name.Name.{Name}
use Rattle.akl_terms.specs.declared.name.Var.{Var}
use Rattle.akl_terms.specs.declared.term.Node.{Node}
use Rattle.akl_terms.specs.declared.term.Term.{Term}
use Rattle.akl_terms.specs.declared.program.Code.{Code}
use Rattle.akl_terms.specs.declared.program.Goal.{Goal}
use Rattle.akl_terms.specs.declared.program.ShownTerm.{ShownTerm}
use Rattle.akl_terms.specs.Tree.{Tree, variable, symbol, more}
use Rattle.akl_terms.specs.Template.{seen_node, trees_from, tree_seen, tree_at, tree}
use Rattle.akl_model.specs.Config.{Operator, Atom}
use Rattle.akl_model.specs.Instances.{terms_from, atom_of}
use Rattle.akl_model.specs.Renaming.{renamed_operator, renamed_tree, renamed_trees, renamed_atom, renamed_equation, renamed_port, renamed_shown}
use Rattle.rational_unify.specs.Solving.{bindings_in}
use Rattle.table_laws.specs.Rows.{ports_in}
use Rattle.box_tree.specs.declared.entries.HeldOp.{HeldOp}
use Rattle.box_tree.specs.Tables.{op_held, goal_atom, shown_tree}
use Rattle.box_copies.specs.Renamer.{op_by, term_by, goal_by, shown_by, binding_by, port_by}

module _ (f : Name → Name) (nodes : List Node) where
  trees_by : (go to : ℕ → Tree) → ((i : ℕ) → to i ≡ renamed_tree f (go i)) → (first n : ℕ) → trees_from to first n ≡ renamed_trees f (trees_from go first n)
  trees_by go to e first zero = refl
  trees_by go to e first (suc n) = λ i. more (e first i) (trees_by go to e (suc first) n i)

  seen_by : (go to : ℕ → Tree) → ((i : ℕ) → to i ≡ renamed_tree f (go i)) → (frame : Name) (o : Option Node) → tree_seen to (seen_node (f frame) o) ≡ renamed_tree f (tree_seen go (seen_node frame o))
  seen_by go to e frame None = refl
  seen_by go to e frame (Some (Node.Var i)) = refl
  seen_by go to e frame (Some (Node.Int z)) = refl
  seen_by go to e frame (Some (Node.Struct s i n)) = ap (symbol s) (trees_by go to e i n)

  at_by : (d : ℕ) (frame : Name) (i : ℕ) → tree_at d nodes (f frame) i ≡ renamed_tree f (tree_at d nodes frame i)
  at_by zero frame i = refl
  at_by (suc d) frame i = seen_by (tree_at d nodes frame) (tree_at d nodes (f frame)) (at_by d frame) frame (slice_get nodes i)

  pub tree_by : (t : Term) → tree nodes (term_by f t) ≡ renamed_tree f (tree nodes t)
  tree_by (Term.Mol i frame) = at_by (suc i) frame i
  tree_by (Term.Int z) = refl
  tree_by (Term.Port p) = refl

  terms_by : (frame : Name) (first n : ℕ) → terms_from nodes (f frame) first n ≡ map (renamed_tree f) (terms_from nodes frame first n)
  terms_by frame first zero = refl
  terms_by frame first (suc n) = λ i. at_by (suc first) frame first i ∷ terms_by frame (suc first) n i

  atom_by : (frame : Name) (c : Code) → atom_of nodes (f frame) c ≡ renamed_atom f (atom_of nodes frame c)
  atom_by frame (Code.Equal l r) = λ i. Atom.equation (at_by (suc l) frame l i) (at_by (suc r) frame r i)
  atom_by frame (Code.Arith test l r) = λ i. Atom.arithmetic test (at_by (suc l) frame l i) (at_by (suc r) frame r i)
  atom_by frame (Code.OpenPort p s) = λ i. Atom.open_port (at_by (suc p) frame p i) (at_by (suc s) frame s i)
  atom_by frame (Code.Send m p) = λ i. Atom.send (at_by (suc m) frame m i) (at_by (suc p) frame p i)
  atom_by frame (Code.Call d first n) = ap (λ (ts : List Tree). Atom.call d ts None) (terms_by frame first n)
  atom_by frame (Code.Collect d first n r) = λ i. Atom.call d (terms_by frame first n i) (Some (at_by (suc r) frame r i))
  atom_by frame Code.Fail = refl

  pub op_by_names : (op : HeldOp) → op_held nodes (op_by f op) ≡ renamed_operator f (op_held nodes op)
  op_by_names HeldOp.Condition = refl
  op_by_names HeldOp.Commit = refl
  op_by_names HeldOp.Choice = refl
  op_by_names (HeldOp.Collect t) = ap Operator.collecting (tree_by t)

  pub collected_by : (o : Option Term) → option_map (tree nodes) (option_map (term_by f) o) ≡ option_map (renamed_tree f) (option_map (tree nodes) o)
  collected_by None = refl
  collected_by (Some t) = ap Some (tree_by t)

  pub goal_atom_by : (g : Goal) → goal_atom nodes (goal_by f g) ≡ renamed_atom f (goal_atom nodes g)
  goal_atom_by g = atom_by g.frame g.code

  pub body_by : (gs : List Goal) → map (goal_atom nodes) (map (goal_by f) gs) ≡ map (renamed_atom f) (map (goal_atom nodes) gs)
  body_by [] = refl
  body_by (g ∷ gs) = λ i. goal_atom_by g i ∷ body_by gs i

  pub shown_trees_by : (ss : List ShownTerm) → map (shown_tree nodes) (map (shown_by f) ss) ≡ map (renamed_shown f) (map (shown_tree nodes) ss)
  shown_trees_by [] = refl
  shown_trees_by (s ∷ ss) = λ i. record { text = s.name; tree = tree_by s.term i } ∷ shown_trees_by ss i

  pub ports_by : (ps : List (Name × Term)) → ports_in nodes (map (port_by f) ps) ≡ map (renamed_port f) (ports_in nodes ps)
  ports_by [] = refl
  ports_by (p ∷ ps) = λ i. record { name = f p.0; tail = tree_by p.1 i } ∷ ports_by ps i

  pub bindings_by : (bs : List (Var × Term)) → bindings_in nodes (map (binding_by f) bs) ≡ map (renamed_equation f) (bindings_in nodes bs)
  bindings_by [] = refl
  bindings_by (b ∷ bs) = λ i. record { left = variable (record { frame = f b.0.frame; index = b.0.index }); right = tree_by b.1 i } ∷ bindings_by bs i

-- The model of one root box.
use Rattle.std.proofs.Common.{◌≡◌, ℕ, List, [], ◌∷◌, map, true, Some, refl, sym, ◌∙◌, ap, subst}
use Rattle.akl_terms.specs.declared.name.Name.{Name}
use Rattle.akl_terms.specs.declared.term.Node.{Node}
use Rattle.akl_terms.specs.declared.program.ShownTerm.{ShownTerm}
use Rattle.akl_terms.specs.Tree.{Tree}
use Rattle.akl_terms.specs.Template.{tree}
use Rattle.akl_terms.specs.Equal.{IsConsistentBy}
use Rattle.akl_terms.proofs.StandingLaws.{StandFor-back}
use Rattle.akl_model.specs.Config.{Content, Goals, ShownTree, box_at}
use Rattle.local_store.specs.Chained.{Chained, ToldBy, equations_of}
use Rattle.box_tree.specs.Tables.{table_of, goals_in, is_empty, shown_in, shown_tree, shown_trees_of}
use Rattle.box_tree.specs.Views.{ViewValue}
use Rattle.step_commit.specs.Cores.{CoreValue, TableIn}
use Rattle.tree_models.specs.declared.model.TreeModel.{TreeModel}
use Rattle.tree_models.specs.Solutions.{IsModel, IsModelOfChain, IsNumbered, shown_terms}
use Rattle.tree_models.specs.Texts.{IsModelText}
use Rattle.root_answers.specs.Models.{names_shown, HasModel, HasModelText}
use Rattle.root_answers.specs.Roots.{symbols_of, root_box}
use Rattle.root_answers.proofs.RootTexts.{IsRootView, row_of, chain_stands, answers_so}

-- what the core's box shows are the shown terms
box_shows : (c : CoreValue) (name : Name) (terms : List ShownTerm) → shown_trees_of c.table terms ≡ shown_in ((table_of c.table).box_of name) → (t : TableIn c) (b : Content) (gs : Goals) → box_at name t.config.roots ≡ Some (root_box b gs)
    → map (shown_tree c.table.program.templates.nodes) terms ≡ b.shown
box_shows c name terms s t b gs e = let row = row_of c t name (root_box b gs) e in s ∙ ap shown_in row.1 ∙ row.2.shown

trees_same : (nodes : List Node) (terms : List ShownTerm) → map (λ (s : ShownTree). s.tree) (map (shown_tree nodes) terms) ≡ shown_terms nodes terms
trees_same nodes [] = refl
trees_same nodes (s ∷ ss) = ap (λ (l : List Tree). tree nodes s.term ∷ l) (trees_same nodes ss)

names_same : (nodes : List Node) (terms : List ShownTerm) → map (λ (s : ShownTree). s.text) (map (shown_tree nodes) terms) ≡ map (λ (s : ShownTerm). s.name) terms
names_same nodes [] = refl
names_same nodes (s ∷ ss) = ap (λ (l : List (List ℕ)). s.name ∷ l) (names_same nodes ss)

module _ (c : CoreValue) (name : Name) (v : ViewValue) (k : Chained) (w : IsRootView c name v k) where
  pub is_model : (terms : List ShownTerm) (m : TreeModel) → is_empty (goals_in ((table_of c.table).box_of name)) ≡ true → IsConsistentBy (ToldBy k.nodes k.stores)
      → shown_trees_of c.table terms ≡ shown_in ((table_of c.table).box_of name) → IsModelOfChain k terms m → HasModel c name (Some m)
  is_model terms m s h shown x t b gs e = (
    answers_so c name v k w s h t b gs e,
    record {
      equations = equations_of k.nodes k.stores;
      stand = StandFor-back (chain_stands c name v k w t b gs e);
      model = subst (λ (us : List Tree). IsModel (equations_of k.nodes k.stores) us m)
          (ap (λ (ns : List Node). shown_terms ns terms) w.nodes ∙ sym (trees_same c.table.program.templates.nodes terms) ∙ ap (map (λ (s : ShownTree). s.tree)) (box_shows c name terms shown t b gs e)) x;
    },
  )

-- the text of a model that is numbered is that of the box's model
pub is_model_text : (c : CoreValue) (name : Name) (terms : List ShownTerm) (m : TreeModel) (symbols : List (List ℕ)) (text : List ℕ) → symbols ≡ symbols_of c → shown_trees_of c.table terms ≡ shown_in ((table_of c.table).box_of name)
    → (IsNumbered m → IsModelText symbols (map (λ (s : ShownTerm). s.name) terms) m text) → HasModelText c name m text
is_model_text c name terms m symbols text same shown f t b gs e o =
    subst (λ (ss : List (List ℕ)). IsModelText ss (names_shown b) m text) same
    (subst (λ (ns : List (List ℕ)). IsModelText symbols ns m text) (sym (names_same c.table.program.templates.nodes terms) ∙ ap (map (λ (s : ShownTree). s.text)) (box_shows c name terms shown t b gs e)) (f o.model.visited))

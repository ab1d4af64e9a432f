-- The text of one root box.
use Rattle.std.proofs.Common.{◌≡◌, ℕ, List, [], ◌∷◌, ◌++◌, length, map, Bool, true, false, Some, None, refl, sym, ◌∙◌, ap, subst, append-nil, ◌≤◌}
use Rattle.std.specs.Prelude.{is_some}
use Rattle.akl_terms.specs.declared.name.Name.{Name}
use Rattle.akl_terms.specs.declared.name.Place.{Place}
use Rattle.akl_terms.specs.declared.term.Node.{Node}
use Rattle.akl_terms.specs.declared.term.Term.{Term}
use Rattle.akl_terms.specs.declared.program.ShownTerm.{ShownTerm}
use Rattle.akl_terms.specs.Tree.{Tree}
use Rattle.akl_terms.specs.Template.{tree}
use Rattle.akl_terms.specs.Equal.{Equations, IsTold, EqualBy, IsConsistentBy}
use Rattle.akl_terms.specs.Decided.{DifferInHead}
use Rattle.akl_terms.specs.Standing.{StandFor}
use Rattle.akl_model.specs.declared.label.Label.{Label}
use Rattle.akl_model.specs.Config.{Content, Goals, no_goals, atom, choice, Config, Found, box_at, site_of}
use Rattle.akl_model.specs.Conditions.{IsSolved}
use Rattle.akl_model.specs.Changes.{goal_names}
use Rattle.akl_model.specs.Wakes.{names_down_to}
use Rattle.akl_model.specs.Instances.{start}
use Rattle.akl_model.specs.Derivations.{IsAnswer}
use Rattle.akl_model.proofs.Results.{Derives-one}
use Rattle.akl_model.proofs.Options.{some_value}
use Rattle.rational_unify.specs.Solving.{bindings_in}
use Rattle.local_store.specs.Stored.{Stored}
use Rattle.local_store.specs.Chained.{Chained, ToldBy}
use Rattle.answer_text.specs.Answers.{longest_answer, shown_trees}
use Rattle.answer_text.specs.AnswerLines.{AreAnswerLines}
use Rattle.answer_lines.specs.Lines.{AreLongLines}
use Rattle.chain_text.specs.ChainTexts.{IsChainText, IsTooLongText}
use Rattle.table_laws.specs.Rows.{BoxRow, store_in, stores_along}
use Rattle.table_laws.specs.Unfolds.{IsBoxRow}
use Rattle.table_laws.specs.Stamped.{IsTableOf}
use Rattle.table_laws.proofs.Frame.{both_there}
use Rattle.box_tree.specs.Tables.{all_rules, TableValue, table_of, goals_in, is_empty, shown_in, shown_tree, shown_trees_of}
use Rattle.box_tree.specs.Views.{ViewValue, IsViewOf, run_of, is_there}
use Rattle.step_commit.specs.Cores.{CoreValue, TableIn}
use Rattle.root_answers.specs.Text.{shown_lines, long_line, fits, is_long}
use Rattle.root_answers.specs.Roots.{symbols_of, root_box, IsText}

-- the row of a root box
abbrev pub RowOf : (c : CoreValue) (t : TableIn c) (name : Name) (f : Found) → Type 0
RowOf c t name f = (r : BoxRow) × ((table_of c.table).box_of name ≡ Some r) × IsBoxRow (table_of c.table) t.config.roots f r

pub row_of : (c : CoreValue) (t : TableIn c) (name : Name) (f : Found) → box_at name t.config.roots ≡ Some f → RowOf c t name f
row_of c t name f e = both_there (IsBoxRow (table_of c.table) t.config.roots) (box_at name t.config.roots) ((table_of c.table).box_of name) f (t.unfolds.boxes name) e

not_both : (b : Bool) → b ≡ false → b ≡ true → ⊥
not_both b e f = cc

-- a box without a row isn't there
pub gone : (c : CoreValue) (name : Name) → is_there (table_of c.table) (Place.Box name) ≡ false → IsText c name None
gone c name e t b gs f a = let w : RowOf c t name (root_box b gs) = row_of c t name (root_box b gs) f in not_both (is_some ((table_of c.table).box_of name)) e (ap is_some w.1)

-- whether it has goals

empty_is : (gs : Goals) → is_empty (goal_names gs) ≡ true → IsSolved gs
empty_is no_goals e = tt
empty_is (atom g a gs) e = absurd cc
empty_is (choice g o bs gs) e = absurd cc

solved_is : (gs : Goals) → IsSolved gs → is_empty (goal_names gs) ≡ true
solved_is no_goals s = refl
solved_is (atom g a gs) s = absurd s
solved_is (choice g o bs gs) s = absurd s

same_goals : (c : CoreValue) (t : TableIn c) (name : Name) (b : Content) (gs : Goals) → box_at name t.config.roots ≡ Some (root_box b gs) → goals_in ((table_of c.table).box_of name) ≡ goal_names gs
same_goals c t name b gs e = let w : RowOf c t name (root_box b gs) = row_of c t name (root_box b gs) e in ap goals_in w.1 ∙ w.2.goals

pub unsolved : (c : CoreValue) (name : Name) → is_empty (goals_in ((table_of c.table).box_of name)) ≡ false → IsText c name None
unsolved c name e t b gs f a =
    not_both (is_empty (goals_in ((table_of c.table).box_of name))) e (ap is_empty (same_goals c t name b gs f) ∙ solved_is gs a.solved)

-- what a view's stores stand for

abbrev Sees : TableValue → List Label → Place → List Stored → Type 0
Sees u journal place stores = (t : IsTableOf all_rules (run_of u journal) (table_of u)) (f : Found) → site_of place t.config.roots ≡ Some f → stores ≡ stores_along (table_of u) (names_down_to f)

sees : (v : ViewValue) → IsViewOf v → Sees v.table v.journal v.place v.stores
sees v w t f e =
    let same : w.table.config ≡ t.config =
    Derives-one all_rules v.table.program (start v.table.program v.table.query) w.table.config t.config v.journal w.table.replays.derives t.replays.derives in
    let site : w.site ≡ f = some_value (sym w.is_site ∙ ap (λ (x : Config). site_of v.place x.roots) same ∙ e) in
    w.stores ∙ ap (λ ns. stores_along (table_of v.table) ns) (w.path ∙ ap names_down_to site)

sees_in : (c : CoreValue) (v : ViewValue) (place : Place) → v.table ≡ c.table → v.journal ≡ c.journal → v.place ≡ place → IsViewOf v → Sees c.table c.journal place v.stores
sees_in c v place e f g w =
    subst (λ (p : Place). Sees c.table c.journal p v.stores) g
    (subst (λ (j : List Label). Sees c.table j v.place v.stores) f (subst (λ (u : TableValue). Sees u v.journal v.place v.stores) e (sees v w)))

-- a view of the root box of a name, with its chain of stores
pub record IsRootView (c : CoreValue) (name : Name) (v : ViewValue) (k : Chained) : Type 0 where
  pub seen : IsViewOf v
  pub table : v.table ≡ c.table
  pub journal : v.journal ≡ c.journal
  pub place : v.place ≡ Place.Box name
  pub nodes : k.nodes ≡ c.table.program.templates.nodes
  pub symbols : k.symbols ≡ symbols_of c
  pub stores : k.stores ≡ v.stores

module _ (c : CoreValue) (name : Name) (v : ViewValue) (k : Chained) (w : IsRootView c name v k) where
  pub chain_stands : (t : TableIn c) (b : Content) (gs : Goals) → box_at name t.config.roots ≡ Some (root_box b gs) → StandFor (ToldBy k.nodes k.stores) (IsTold b.equations)
  chain_stands t b gs e =
      let row : RowOf c t name (root_box b gs) = row_of c t name (root_box b gs) e in
      let along : k.stores ≡ stores_along (table_of c.table) (b.name ∷ []) = w.stores ∙ sees_in c v (Place.Box name) w.table w.journal w.place w.seen t (root_box b gs) e in
      let told : StandFor (IsTold (bindings_in c.table.program.templates.nodes (store_in ((table_of c.table).box_of b.name)).bindings ++ [])) (IsTold b.equations) = row.2.stands in
      let plain : StandFor (IsTold (bindings_in c.table.program.templates.nodes (store_in ((table_of c.table).box_of b.name)).bindings)) (IsTold b.equations) =
      subst (λ (E : Equations). StandFor (IsTold E) (IsTold b.equations)) (append-nil (bindings_in c.table.program.templates.nodes (store_in ((table_of c.table).box_of b.name)).bindings)) told in
      subst (λ (ss : List Stored). StandFor (ToldBy k.nodes ss) (IsTold b.equations)) (sym along)
      (subst (λ (ns : List Node). StandFor (ToldBy ns (stores_along (table_of c.table) (b.name ∷ []))) (IsTold b.equations)) (sym w.nodes) plain)

  heads_differ : (s t : Tree) → IsConsistentBy (ToldBy k.nodes k.stores) → EqualBy (ToldBy k.nodes k.stores) s t → DifferInHead s t → ⊥
  heads_differ s t h e d = d.differ (h.heads e d.is_left d.is_right)

  -- where the stores clash it is no answer
  pub clashes : (left right : Term) → EqualBy (ToldBy k.nodes k.stores) (tree k.nodes left) (tree k.nodes right) × DifferInHead (tree k.nodes left) (tree k.nodes right) → IsText c name None
  clashes left right x t b gs e a = heads_differ (tree k.nodes left) (tree k.nodes right) ((chain_stands t b gs e).back a.consistent) x.0 x.1

  -- where they don't, and it has no goals, it is one
  pub answers_so : is_empty (goals_in ((table_of c.table).box_of name)) ≡ true → IsConsistentBy (ToldBy k.nodes k.stores) → (t : TableIn c) (b : Content) (gs : Goals) → box_at name t.config.roots ≡ Some (root_box b gs) → IsAnswer b gs
  answers_so s h t b gs e = record { solved = empty_is gs (sym (ap is_empty (same_goals c t name b gs e)) ∙ s); consistent = (chain_stands t b gs e).to h }

  lines_same : (terms : List ShownTerm) → shown_trees (record { nodes = k.nodes; symbols = k.symbols }) terms ≡ shown_lines (map (shown_tree k.nodes) terms)
  lines_same [] = refl
  lines_same (s ∷ ss) = ap (λ xs. (s.name, tree k.nodes s.term) ∷ xs) (lines_same ss)

  shown_so : (terms : List ShownTerm) → shown_trees_of c.table terms ≡ shown_in ((table_of c.table).box_of name) → (t : TableIn c) (b : Content) (gs : Goals) → box_at name t.config.roots ≡ Some (root_box b gs)
      → shown_trees (record { nodes = k.nodes; symbols = k.symbols }) terms ≡ shown_lines b.shown
  shown_so terms s t b gs e =
      let row : RowOf c t name (root_box b gs) = row_of c t name (root_box b gs) e in
      lines_same terms ∙ ap (λ (ns : List Node). shown_lines (map (shown_tree ns) terms)) w.nodes ∙ ap shown_lines (s ∙ ap shown_in row.1 ∙ row.2.shown)

  pub is_text : (terms : List ShownTerm) (text : List ℕ) → is_empty (goals_in ((table_of c.table).box_of name)) ≡ true → IsConsistentBy (ToldBy k.nodes k.stores)
      → shown_trees_of c.table terms ≡ shown_in ((table_of c.table).box_of name) → IsChainText k terms text → length text ≤ longest_answer → IsText c name (Some text)
  is_text terms text s h shown x l t b gs e = (
    answers_so s h t b gs e,
    fits (subst (λ (ss : List (List ℕ)). AreAnswerLines ss b.equations (shown_lines b.shown) text) w.symbols
        (subst (λ (lines : List (List ℕ × Tree)). AreAnswerLines k.symbols b.equations lines text) (shown_so terms shown t b gs e) (x b.equations (chain_stands t b gs e)))) l,
  )

  pub long_text : (terms : List ShownTerm) → is_empty (goals_in ((table_of c.table).box_of name)) ≡ true → IsConsistentBy (ToldBy k.nodes k.stores)
      → shown_trees_of c.table terms ≡ shown_in ((table_of c.table).box_of name) → IsTooLongText k terms → IsText c name (Some long_line)
  long_text terms s h shown x t b gs e = (
    answers_so s h t b gs e,
    is_long (subst (λ (ss : List (List ℕ)). AreLongLines ss b.equations (shown_lines b.shown)) w.symbols
        (subst (λ (lines : List (List ℕ × Tree)). AreLongLines k.symbols b.equations lines) (shown_so terms shown t b gs e) (x b.equations (chain_stands t b gs e)))),
  )

-- The forest of a term graph and its classes is decided, under whatever equations its terms are represented.
use Rattle.std.proofs.Common.{◌≡◌, ℕ, zero, suc, ◌<◌, ◌≤◌, inl, inr, List, [], ◌∷◌, length, map, false, refl, sym, ◌∙◌, ap, Some, arith}
use Rattle.std.specs.Prelude.{slice_get, get_or, pos, option_map, ◌⊎◌}
use Rattle.std.proofs.lemmas.List.{length-map}
use Rattle.std.proofs.lemmas.Option.{slice_get-map, slice_get_within, slice_get-get_or}
use Rattle.akl_terms.specs.declared.program.ShownTerm.{ShownTerm}
use Rattle.akl_terms.specs.declared.term.Seen.{Seen}
use Rattle.akl_terms.specs.Tree.{Tree}
use Rattle.akl_terms.specs.Equal.{Equations, Equal}
use Rattle.akl_terms.specs.Template.{Template, tree}
use Rattle.answer_text.specs.Answers.{shown_trees, IsAnswerText, IsTooLong}
use Rattle.answer_text.specs.BuiltGraph.{at_node, IsWorkedOut}
use Rattle.answer_text.specs.Classes.{Represents}
use Rattle.answer_text.specs.Graph.{Stands, IsGraphOf}
use Rattle.answer_text.proofs.WorkedOut.{graph}
use Rattle.answer_text.proofs.WrittenOut.{written_out}
use Rattle.cycle_marks.specs.Components.{Marks, rank_of, is_cyclic}
use Rattle.cycle_marks.specs.Rows.{AreRanked}
use Rattle.cycle_marks.specs.Rows as edges
use Rattle.tree_parts.specs.Parts as parts
use Rattle.term_graph.specs.Building.{seen_tree, argument_of, IsTermGraph, AreEndsAt, IsEndAt}
use Rattle.term_graph.specs.Built.{graph_of, TellBeginnings, IsBuiltAlong}
use Rattle.tree_classes.specs.Classes.{ClassesValue, AreClasses}
use Rattle.answer_lines.specs.Lines.{AreAt, AreLinesOf, HasLongLines, AreForestLines, AreLongForestLines}
use Rattle.answer_lines.specs.Printing.{Forest, AreKnown, IsDecidedForest}
use Rattle.tree_classes.proofs.Decided.{end-stands, class-stands, graph-decided}
use Rattle.tree_classes.proofs.Beginnings.{some_tops, some-tops-tell}
use Rattle.answer_lines.proofs.Plain.{FallsInRank, plain-text}
use Rattle.answer_lines.proofs.Runs.{are-there}

module _ (t : Template) (go : Tree → Tree) (seens : List Seen) (rows : List (List ℕ)) (g : IsTermGraph t go seens rows) (b : IsBuiltAlong t go seens rows) where
  abbrev forest : ClassesValue → Forest
  forest c = record { template = t; seens = seens; rows = rows; classes = c }

  pub known : (c : ClassesValue) → AreKnown (forest c)
  known c = record { known = g.known }

  module _ (tops : List ℕ) (c : ClassesValue) (n : TellBeginnings t seens tops) (k : AreClasses rows tops c) (E : Equations) (r : Represents E go) where
    pub forest-decided : IsDecidedForest E (forest c)
    forest-decided = record {
      consistent = r.consistent;
      decided = graph-decided t go seens rows g b tops c n k E r;
      first = class-stands t go seens rows g b tops c n k;
    }

  pub are-at : (E : Equations) → Represents E go → (c : ClassesValue) (shown : List ShownTerm) (nodes : List ℕ) → length nodes ≡ length shown
      → ((k i : ℕ) (line : ShownTerm) → slice_get nodes k ≡ Some i → slice_get shown k ≡ Some line → IsEndAt t go seens i (tree t.nodes line.term)) → AreAt (forest c) E (shown_trees t shown) nodes
  are-at E r c [] nodes l e = tt
  are-at E r c (s ∷ shown) [] l e = absurd (omega (arith, l))
  are-at E r c (s ∷ shown) (i ∷ nodes) l e = (end-stands t go seens rows g b E r i (tree t.nodes s.term) (e 0 i s refl refl), are-at E r c shown nodes (omega (arith, l)) (λ k j line a b. e (suc k) j line a b))

  -- the graph, whatever the classes of its nodes are
  its-graph : (E : Equations) → Represents E go → IsGraphOf E (graph_of t seens rows)
  its-graph E r = graph go (graph_of t seens rows) (some_tops seens) (b.built (some_tops seens) (some-tops-tell t seens)) E r

  -- components without a cycle give ranks that fall
  falls : (marks : Marks) → AreRanked rows (rank_of marks) (is_cyclic marks) → ((i : ℕ) → i < length rows → is_cyclic marks i ≡ false) → FallsInRank (graph_of t seens rows) (rank_of marks)
  falls marks k f i p j x = k.strict i j (f i (slice_get_within rows i x.0 x.1)) (record { row = x.0; place = p; of = x.1; to = x.2 })

  -- where no node lies on a cycle, lines with every tree written out are the lines
  pub written : (shown : List ShownTerm) (text : List ℕ) → IsAnswerText t go shown text → AreLinesOf t go shown text
  written shown text p E r = written_out t.symbols E (shown_trees t shown) text r.consistent (p E r)

  no_classes : ClassesValue
  no_classes = record { blocks = []; marks = record { marks = []; cyclic = [] } }

  pub long-written : (marks : Marks) → AreRanked rows (rank_of marks) (is_cyclic marks) → ((i : ℕ) → i < length rows → is_cyclic marks i ≡ false) → (shown : List ShownTerm) (nodes : List ℕ) → AreEndsAt t go seens shown nodes
      → IsTooLong t go shown → HasLongLines t go shown
  long-written marks k f shown nodes e long E r text p =
      long E r text (plain-text t.symbols E r.consistent (graph_of t seens rows) (its-graph E r) (rank_of marks) (falls marks k f) (shown_trees t shown) text
      (are-there (forest no_classes) E (shown_trees t shown) nodes (are-at E r no_classes shown nodes e.size e.each)) p)

  -- the lines of the forest are those of the shown terms
  module _ (tops : List ℕ) (c : ClassesValue) (n : TellBeginnings t seens tops) (k : AreClasses rows tops c) (shown : List ShownTerm) (nodes : List ℕ) (e : AreEndsAt t go seens shown nodes) where
    pub forest-lines : (text : List ℕ) → AreForestLines (forest c) (shown_trees t shown) nodes text → AreLinesOf t go shown text
    forest-lines text f E r = f E (forest-decided tops c n k E r) (are-at E r c shown nodes e.size e.each)

    pub long-forest-lines : AreLongForestLines (forest c) (shown_trees t shown) nodes → HasLongLines t go shown
    long-forest-lines f E r = f E (forest-decided tops c n k E r) (are-at E r c shown nodes e.size e.each)

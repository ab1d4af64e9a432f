-- The text of a solved form is the text under all equations for which its own stand.
use Rattle.std.proofs.Common.{ℕ, ◌-◌, List, [], ◌++◌, length, take, drop, subst}
use Rattle.akl_terms.specs.declared.name.Var.{Var}
use Rattle.akl_terms.specs.declared.term.Node.{Node}
use Rattle.akl_terms.specs.declared.term.Term.{Term}
use Rattle.akl_terms.specs.declared.program.ShownTerm.{ShownTerm}
use Rattle.akl_terms.specs.Equal.{Equations, IsConsistentBy}
use Rattle.rational_unify.specs.Known.{end_of}
use Rattle.rational_unify.specs.Solving.{bindings_in}
use Rattle.rational_unify.specs.Forms.{IsFormOf, Takes, IsClashOfBindings}
use Rattle.local_store.specs.Stored.{Stored}
use Rattle.local_store.specs.Chained.{Chained, bindings_from, ToldBy, IsSolvedChain}
use Rattle.local_store.proofs.Known.{drop-whole}
use Rattle.local_store.proofs.Layers.{chain-form}
use Rattle.local_store.proofs.Resolved.{further-clash}
use Rattle.answer_lines.specs.Lines.{AreLinesOf, HasLongLines}
use Rattle.answer_text.specs.Classes.{Represents}
use Rattle.answer_text.proofs.FormEnds.{form_represents}
use Rattle.akl_terms.proofs.StandingLaws.{StandFor-back}
use Rattle.answer_text.proofs.LinesThere.{lines_stand}
use Rattle.answer_text.specs.Answers.{shown_trees}
use Rattle.chain_text.specs.ChainTexts.{template_of, IsChainText, IsTooLongText}

module _ (c : Chained) (bs : List (Var × Term)) (h : IsFormOf c.nodes bs (ToldBy c.nodes c.stores)) (shown : List ShownTerm) where
  abbrev told_by : Equations
  told_by = bindings_in c.nodes (bindings_from c.stores)

  represents : Represents told_by (end_of c.nodes bs)
  represents = form_represents c.nodes bs told_by h

  pub form_text : (text : List ℕ) → AreLinesOf (template_of c) (end_of c.nodes bs) shown text → IsChainText c shown text
  form_text text a E w = lines_stand c.symbols told_by E w represents.consistent (shown_trees (template_of c) shown) text (a told_by represents)

  pub form_too_long : HasLongLines (template_of c) (end_of c.nodes bs) shown → IsTooLongText c shown
  form_too_long a E w text p = a told_by represents text (lines_stand c.symbols E told_by (StandFor-back w) (w.to represents.consistent) (shown_trees (template_of c) shown) text p)

-- the stores that are known to be solved, with the others taken in
module _ (nodes : List Node) (ss : List Stored) (k : ℕ) (f : IsSolvedChain nodes (take k ss)) where
  pub further-form : (new : List (Var × Term)) → Takes nodes (bindings_from (take k ss)) [] new (bindings_from (take (length ss - k) (drop k ss))) → IsFormOf nodes (bindings_from (take k ss) ++ new) (ToldBy nodes ss)
  further-form new t = chain-form nodes ss k (bindings_from (take k ss)) new f.form (subst (λ (l : List Stored). Takes nodes (bindings_from (take k ss)) [] new (bindings_from l)) (drop-whole ss k) t)

  pub no-clash : (left right : Term) → IsConsistentBy (ToldBy nodes ss) → IsClashOfBindings nodes (bindings_from (take k ss) ++ []) (bindings_from (take (length ss - k) (drop k ss))) left right → ⊥
  no-clash left right c x = let d : _ = further-clash nodes ss k f left right x in d.1.differ (c.heads d.0 d.1.is_left d.1.is_right)

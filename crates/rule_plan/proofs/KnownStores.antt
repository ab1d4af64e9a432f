-- Whether a chain is known to be solved with a store that was told something.
use Rattle.std.proofs.Common.{◌≡◌, ℕ, ◌+◌, List, [], ◌∷◌, ◌++◌, length, Bool, sym, ◌∙◌, ap, subst}
use Rattle.std.specs.Prelude.{IsTrue, ◌↔◌}
use Rattle.std.specs.List.{AllByRecursion}
use Rattle.akl_terms.specs.declared.name.Name.{Name}
use Rattle.akl_terms.specs.declared.name.Var.{Var}
use Rattle.akl_terms.specs.declared.term.Node.{Node}
use Rattle.akl_terms.specs.declared.term.Term.{Term}
use Rattle.akl_terms.specs.declared.term.Equation as code
use Rattle.akl_terms.specs.declared.program.Clause.{Clause}
use Rattle.akl_terms.specs.Equal.{IsTold, IsConsistentBy}
use Rattle.akl_terms.specs.Standing.{StandFor}
use Rattle.rational_unify.specs.Solving.{bindings_in}
use Rattle.local_store.specs.Parts.{ToldStore}
use Rattle.local_store.specs.Stored.{Stored}
use Rattle.local_store.specs.Chained.{ToldBy, bindings_from, around, replaced}
use Rattle.local_store.specs.Telling.{ToldAlso, AnswersTold}
use Rattle.local_store.proofs.Layers.{from-last}
use Rattle.box_tree.specs.declared.step.NewBox.{NewBox}
use Rattle.box_tree.specs.Views.{ViewValue}
use Rattle.table_laws.proofs.StoreChains.{around_push}
use Rattle.guard_plan.specs.Solved.{IsKnownWith}
use Rattle.rule_plan.specs.declared.heads.Call.{Call}
use Rattle.rule_plan.specs.Made.{store_with, IsNewStore, AreMade}

-- the innermost store was told the equations, and perhaps got frames and ports
pub told_known : (v : ViewValue) (es : List code.Equation) (t : ToldStore) → AnswersTold v.table.program.templates.nodes v.stores v.known es t → (new : Stored) → new.bindings ≡ t.store.bindings
    → IsKnownWith v (replaced v.stores new) t.solved
told_known v es t a new same = (λ h. (sym (a.is_solved.0 h).0, stands.to (a.is_solved.0 h).1), λ w. a.is_solved.1 (sym w.0, stands.back w.1))
  where
    list : bindings_from (replaced v.stores t.store) ≡ bindings_from (replaced v.stores new)
    list = from-last (around v.stores) t.store ∙ ap (λ (l : List (Var × Term)). l ++ bindings_from (around v.stores)) (sym same) ∙ sym (from-last (around v.stores) new)

    stands : StandFor (ToldAlso v.table.program.templates.nodes v.stores es) (ToldBy v.table.program.templates.nodes (replaced v.stores new))
    stands = subst (λ (l : List (Var × Term)). StandFor (ToldAlso v.table.program.templates.nodes v.stores es) (IsTold (bindings_in v.table.program.templates.nodes l))) list a.tells.stands

-- a new store comes behind the others
new_known : (nodes : List Node) (path : List Stored) (known : ℕ) (frame : Name) (es : List code.Equation) (store : Stored) (t : Bool) → IsNewStore nodes path known frame es store t
    → IsTrue t ↔ ((known ≡ length path) × IsConsistentBy (ToldBy nodes (path ++ store ∷ [])))
new_known nodes path known frame es store t h = (λ e. ((h.is_solved.0 e).0, stands.to (h.is_solved.0 e).1), λ w. h.is_solved.1 (w.0, stands.back w.1))
  where
    stands : StandFor (ToldAlso nodes (path ++ store_with frame ∷ []) es) (ToldBy nodes (path ++ store ∷ []))
    stands = subst (λ (ss : List Stored). StandFor (ToldAlso nodes (path ++ store_with frame ∷ []) es) (ToldBy nodes (ss ++ store ∷ []))) (around_push path (store_with frame)) h.tells.stands

pub all_known : (v : ViewValue) (call : Call) (w n : ℕ) (cs : List Clause) (bs : List NewBox) → AreMade v.table.program.templates.nodes v.stores v.known call w n cs bs
    → AllByRecursion (λ (b : NewBox). IsKnownWith v (v.stores ++ b.store ∷ []) b.solved) bs
all_known v call w n [] [] m = tt
all_known v call w n [] (b ∷ bs) m = absurd m
all_known v call w n (c ∷ cs) [] m = absurd m
all_known v call w n (c ∷ cs) (b ∷ bs) m = (new_known v.table.program.templates.nodes v.stores v.known _ _ b.store b.solved m.0.store, all_known v call w (n + (2 + length c.guard)) cs bs m.1)

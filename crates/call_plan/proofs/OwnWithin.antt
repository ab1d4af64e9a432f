-- What is found in an alternative and in the stores around it is what these tell with its store.
use Rattle.std.proofs.Common.{◌≡◌, List, [], ◌∷◌, ◌++◌, ap, subst, ◌∙◌}
use Rattle.akl_terms.specs.declared.name.Name.{Name}
use Rattle.akl_terms.specs.declared.name.Var.{Var}
use Rattle.akl_terms.specs.declared.term.Node.{Node}
use Rattle.akl_terms.specs.declared.term.Term.{Term}
use Rattle.akl_terms.specs.declared.program.Goal.{Goal}
use Rattle.akl_terms.specs.Equal.{Equations, IsTold}
use Rattle.akl_terms.specs.Template.{Template}
use Rattle.arith_goals.specs.declared.goals.ArithValue.{ArithValue}
use Rattle.arith_goals.specs.Answers.{Answers}
use Rattle.rational_unify.specs.Known.{IsSolved}
use Rattle.rational_unify.specs.Forms.{IsFormOf}
use Rattle.local_store.specs.Stored.{Stored}
use Rattle.local_store.specs.Chained.{Chained, bindings_from, equations_of, ToldBy, IsSolvedChain}
use Rattle.local_store.proofs.Layers.{from-last}
use Rattle.body_goals.specs.Goals.{template_of}
use Rattle.body_goals.proofs.Finding.{answers_form}
use Rattle.plain_heads.specs.Joined.{own_store}
use Rattle.plain_heads.proofs.Stores.{own_bindings}
use Rattle.call_plan.specs.declared.own.Own.{Own}
use Rattle.call_plan.specs.Owns.{stored, bindings_within, IsPlainOwn}

bindings_are : (nodes : List Node) (path : List Stored) (frame : Name) (own : Own) → IsPlainOwn nodes path frame own → bindings_from (path ++ stored frame own ∷ []) ≡ bindings_within path own
bindings_are nodes path frame (Own.Plain bs) h = from-last path (own_store frame bs.items) ∙ ap (λ (l : List (Var × Term)). l ++ bindings_from path) (own_bindings nodes path frame bs.items h)
bindings_are nodes path frame (Own.Store s) h = from-last path s

pub solved_within : (nodes : List Node) (path : List Stored) (frame : Name) (own : Own) → IsPlainOwn nodes path frame own → IsSolvedChain nodes (path ++ stored frame own ∷ []) → IsSolved nodes (bindings_within path own)
solved_within nodes path frame own h f = subst (IsSolved nodes) (bindings_are nodes path frame own h) f.form.solved

pub answers_by : (t : Template) (chain : Chained) (own : Own) (g : Goal) (a : ArithValue) → IsPlainOwn chain.nodes chain.stores g.frame own → IsSolvedChain chain.nodes (chain.stores ++ stored g.frame own ∷ [])
    → t.nodes ≡ chain.nodes → t.symbols ≡ chain.symbols → ((E : Equations) → IsFormOf t.nodes (bindings_within chain.stores own) (IsTold E) → Answers t E g a)
    → Answers (template_of chain) (equations_of chain.nodes (chain.stores ++ stored g.frame own ∷ [])) g a
answers_by t chain own g a h f n m answers = answers_form t chain (bindings_within chain.stores own) (equations_of chain.nodes (chain.stores ++ stored g.frame own ∷ [])) g a
    (subst (λ (bs : List (Var × Term)). IsFormOf chain.nodes bs (ToldBy chain.nodes (chain.stores ++ stored g.frame own ∷ []))) (bindings_are chain.nodes chain.stores g.frame own h) f.form) n m answers

-- What is read through a solved form of a chain's equations is what the chain says.
use Rattle.std.proofs.Common.{◌≡◌, ℕ, ◌-◌, List, [], ◌++◌, length, take, drop, refl, sym, ap, ◌∙◌, subst, append-nil, arith}
use Rattle.std.proofs.lemmas.List.{drop_all}
use Rattle.akl_terms.specs.declared.name.Var.{Var}
use Rattle.akl_terms.specs.declared.program.Goal.{Goal}
use Rattle.akl_terms.specs.declared.term.Node.{Node}
use Rattle.akl_terms.specs.declared.term.Term.{Term}
use Rattle.akl_terms.specs.Equal.{Equations, IsTold}
use Rattle.akl_terms.specs.Template.{Template}
use Rattle.rational_unify.specs.Known.{IsSolved}
use Rattle.rational_unify.specs.Solving.{bindings_in}
use Rattle.rational_unify.specs.Forms.{IsFormOf, Takes}
use Rattle.rational_unify.proofs.Taking.{take-all}
use Rattle.local_store.specs.Stored.{Stored}
use Rattle.local_store.specs.Chained.{Chained, bindings_from, IsSolvedChain}
use Rattle.local_store.specs.Asking.{AreSolvedBindings}
use Rattle.local_store.proofs.Known.{drop-whole}
use Rattle.local_store.proofs.Layers.{chain-form, takes-none}
use Rattle.arith_goals.specs.declared.goals.ArithValue.{ArithValue}
use Rattle.arith_goals.specs.Answers.{Answers, AnswersIn, WaitsAtEnd, WaitsAtEndIn}

pub answers-chain : (chain : Chained) (k : ℕ) (new bs : List (Var × Term)) (t : Template) (goal : Goal) (a : ArithValue) → IsSolvedChain chain.nodes (take k chain.stores)
    → Takes chain.nodes (bindings_from (take k chain.stores)) [] new (bindings_from (take (length chain.stores - k) (drop k chain.stores)))
    → bs ≡ bindings_from (take k chain.stores) ++ new → t.nodes ≡ chain.nodes → t.symbols ≡ chain.symbols
    → ((E : Equations) → IsFormOf t.nodes bs (IsTold E) → Answers t E goal a) → AnswersIn chain goal a
answers-chain chain k new bs t goal a f p e n s h = subst (λ (u : Template). Answers u (bindings_in chain.nodes (bindings_from chain.stores)) goal a) same (h (bindings_in chain.nodes (bindings_from chain.stores)) (subst (λ (l : List (Var × Term)). IsFormOf t.nodes l (IsTold (bindings_in chain.nodes (bindings_from chain.stores)))) (sym e)
    (subst (λ (l : List Node). IsFormOf l (bindings_from (take k chain.stores) ++ new) (IsTold (bindings_in chain.nodes (bindings_from chain.stores)))) (sym n) form)))
  where
    same : t ≡ record { nodes = chain.nodes; symbols = chain.symbols }
    same = λ i. record { nodes = n i; symbols = s i }

    form : IsFormOf chain.nodes (bindings_from (take k chain.stores) ++ new) (IsTold (bindings_in chain.nodes (bindings_from chain.stores)))
    form = chain-form chain.nodes chain.stores k (bindings_from (take k chain.stores)) new f.form
        (subst (λ (l : List Stored). Takes chain.nodes (bindings_from (take k chain.stores)) [] new (bindings_from l)) (drop-whole chain.stores k) p)

pub waits-chain : (chain : Chained) (k : ℕ) (new bs : List (Var × Term)) (nodes : List Node) (a : ArithValue) → k ≡ chain.known
    → Takes chain.nodes (bindings_from (take k chain.stores)) [] new (bindings_from (take (length chain.stores - k) (drop k chain.stores)))
    → bs ≡ bindings_from (take k chain.stores) ++ new → nodes ≡ chain.nodes → WaitsAtEnd nodes bs a → WaitsAtEndIn chain a
waits-chain chain k new bs nodes a q p e n h =
    let solved : AreSolvedBindings chain.nodes chain.stores k bs = record {
      more = new;
      is = e;
      takes = subst (λ (l : List Stored). Takes chain.nodes (bindings_from (take k chain.stores)) [] new (bindings_from l)) (drop-whole chain.stores k) p;
    } in
    (bs, subst (λ (j : ℕ). AreSolvedBindings chain.nodes chain.stores j bs) q solved, subst (λ (l : List Node). WaitsAtEnd l bs a) n h)

-- where all stores are known to be solved together, their own bindings are such a form
pub answers-whole : (chain : Chained) (t : Template) (goal : Goal) (a : ArithValue) → IsSolvedChain chain.nodes chain.stores → t.nodes ≡ chain.nodes → t.symbols ≡ chain.symbols
    → ((E : Equations) → IsFormOf t.nodes (bindings_from chain.stores) (IsTold E) → Answers t E goal a) → AnswersIn chain goal a
answers-whole chain t goal a f n s h = subst (λ (u : Template). Answers u (bindings_in chain.nodes (bindings_from chain.stores)) goal a) same (h (bindings_in chain.nodes (bindings_from chain.stores))
    (subst (λ (l : List Node). IsFormOf l (bindings_from chain.stores) (IsTold (bindings_in chain.nodes (bindings_from chain.stores)))) (sym n) f.form))
  where
    same : t ≡ record { nodes = chain.nodes; symbols = chain.symbols }
    same = λ i. record { nodes = n i; symbols = s i }

module _ (nodes : List Node) (ss : List Stored) (f : IsSolvedChain nodes ss) where
  all : bindings_from (take (length ss) ss) ++ [] ≡ bindings_from ss
  all = append-nil (bindings_from (take (length ss) ss)) ∙ ap bindings_from (take-all ss (length ss) refl)

  solved_bindings : AreSolvedBindings nodes ss (length ss) (bindings_from ss)
  solved_bindings = record {
    more = [];
    is = sym all;
    takes = subst (λ (rs : List Stored). Takes nodes (bindings_from (take (length ss) ss)) [] [] (bindings_from rs)) (sym (drop_all (length ss) ss (omega arith)))
        (takes-none nodes (bindings_from (take (length ss) ss)) [] (subst (IsSolved nodes) (sym all) f.form.solved));
  }

pub waits-whole : (chain : Chained) (nodes : List Node) (a : ArithValue) → length chain.stores ≡ chain.known → IsSolvedChain chain.nodes chain.stores → nodes ≡ chain.nodes
    → WaitsAtEnd nodes (bindings_from chain.stores) a → WaitsAtEndIn chain a
waits-whole chain nodes a q f n h = (
  bindings_from chain.stores,
  subst (λ (j : ℕ). AreSolvedBindings chain.nodes chain.stores j (bindings_from chain.stores)) q (solved_bindings chain.nodes chain.stores f),
  subst (λ (l : List Node). WaitsAtEnd l (bindings_from chain.stores) a) n h,
)

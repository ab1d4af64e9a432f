-- What is found in a part and in the stores to which it is added.
use Rattle.std.proofs.Common.{◌≡◌, ℕ, ◌+◌, List, Option, Some, None, ◌++◌, length, sym, ap, subst, ◌∙◌, arith, length-append}
use Rattle.std.specs.Prelude.{IfSome}
use Rattle.akl_terms.specs.declared.name.Var.{Var}
use Rattle.akl_terms.specs.declared.program.Goal.{Goal}
use Rattle.akl_terms.specs.declared.term.Node.{Node}
use Rattle.akl_terms.specs.declared.term.Term.{Term}
use Rattle.akl_terms.specs.Equal.{Equations, IsTold}
use Rattle.akl_terms.specs.Tree.{Tree}
use Rattle.akl_terms.specs.Template.{Template}
use Rattle.arith_goals.specs.declared.goals.ArithValue.{ArithValue}
use Rattle.arith_goals.specs.Answers.{Answers}
use Rattle.rational_unify.specs.Known.{found_in, end_of, IsSolved}
use Rattle.rational_unify.specs.Forms.{IsFormOf}
use Rattle.local_store.specs.declared.part.Part.{Part}
use Rattle.local_store.specs.Parts.{with_part}
use Rattle.local_store.specs.Stored.{Stored, joins}
use Rattle.local_store.specs.Chained.{Chained, bindings_from, equations_of, innermost, around, times_bound, ToldBy, BindOnce, IsSolvedChain}
use Rattle.local_store.proofs.Layers.{from-last, from-innermost, joins-found, joins-length, form-reorder}
use Rattle.local_store.proofs.Once.{times-append, times-joins, once-as, new-once, once-found}
use Rattle.local_store.proofs.Parts.{ends-reorder}
use Rattle.body_goals.specs.Takes.{with_added}
use Rattle.body_goals.specs.Goals.{template_of}

pub some_both : {A : Type 0} (o : Option A) (P Q R : A → Type 0) → ((a : A) → P a → Q a → R a) → IfSome o P → IfSome o Q → IfSome o R
some_both (Some a) P Q R f p q = f a p q
some_both None P Q R f p q = tt

-- stores that are solved with a part: the part and the stores, one after the other, are the same solved form
module _ (nodes : List Node) (ss : List Stored) (p : Part) (f : IsSolvedChain nodes (with_added ss p)) where
  abbrev own : List (Var × Term)
  own = (innermost ss).bindings

  abbrev outer : List (Var × Term)
  outer = bindings_from (around ss)

  abbrev added : List (Var × Term)
  added = p.bindings.items

  abbrev whole : List (Var × Term)
  whole = bindings_from (with_added ss p)

  whole_is : whole ≡ joins own added ++ outer
  whole_is = from-last (around ss) (with_part (innermost ss) p)

  all_is : added ++ bindings_from ss ≡ added ++ (own ++ outer)
  all_is = ap (λ (l : List (Var × Term)). added ++ l) (from-innermost ss)

  times : (x : Var) → times_bound x (joins own added ++ outer) ≡ times_bound x (added ++ (own ++ outer))
  times x =
      let a : times_bound x (joins own added ++ outer) ≡ times_bound x (joins own added) + times_bound x outer = times-append x (joins own added) outer in
      let b : times_bound x (joins own added) ≡ times_bound x own + times_bound x added = times-joins x own added in
      let c : times_bound x (added ++ (own ++ outer)) ≡ times_bound x added + times_bound x (own ++ outer) = times-append x added (own ++ outer) in
      let d : times_bound x (own ++ outer) ≡ times_bound x own + times_bound x outer = times-append x own outer in
      omega arith

  once : BindOnce (added ++ (own ++ outer))
  once = once-as (joins own added ++ outer) (added ++ (own ++ outer)) times (subst BindOnce whole_is f.once)

  same_found : (x : Var) → found_in whole x ≡ found_in (added ++ bindings_from ss) x
  same_found x = ap (λ (l : List (Var × Term)). found_in l x) whole_is ∙ joins-found own outer added (new-once (own ++ outer) added once) x ∙ sym (once-found added (own ++ outer) once x)
      ∙ ap (λ (l : List (Var × Term)). found_in l x) (sym all_is)

  same_length : length whole ≡ length (added ++ bindings_from ss)
  same_length =
      let a : length whole ≡ length (joins own added ++ outer) = ap (λ (l : List (Var × Term)). length l) whole_is in
      let b : length (joins own added ++ outer) ≡ length (joins own added) + length outer = length-append (joins own added) outer in
      let c : length (joins own added) ≡ length own + length added = joins-length own added in
      let d : length (added ++ bindings_from ss) ≡ length (added ++ (own ++ outer)) = ap (λ (l : List (Var × Term)). length l) all_is in
      let e : length (added ++ (own ++ outer)) ≡ length added + length (own ++ outer) = length-append added (own ++ outer) in
      let g : length (own ++ outer) ≡ length own + length outer = length-append own outer in
      omega arith

  pub form_added : IsFormOf nodes (added ++ bindings_from ss) (ToldBy nodes (with_added ss p))
  form_added = form-reorder nodes whole (added ++ bindings_from ss) (ToldBy nodes (with_added ss p)) same_found same_length f.form

  pub end_added : (t : Tree) → end_of nodes (added ++ bindings_from ss) t ≡ end_of nodes whole t
  end_added t = sym (ends-reorder nodes whole (added ++ bindings_from ss) same_found same_length t)

  pub solved_added : (ms : List Node) → ms ≡ nodes → IsSolved ms (added ++ bindings_from ss)
  solved_added ms e = subst (λ (ns : List Node). IsSolved ns (added ++ bindings_from ss)) (sym e) form_added.solved

-- an answer by each solved form is one by what a solved form tells
pub answers_form : (t : Template) (chain : Chained) (bs : List (Var × Term)) (E : Equations) (g : Goal) (a : ArithValue) → IsFormOf chain.nodes bs (IsTold E) → t.nodes ≡ chain.nodes → t.symbols ≡ chain.symbols
    → ((F : Equations) → IsFormOf t.nodes bs (IsTold F) → Answers t F g a) → Answers (template_of chain) E g a
answers_form t chain bs E g a f n m h =
    subst (λ (u : Template). Answers u E g a) (ap (λ (ns : List Node). record { nodes = ns; symbols = t.symbols }) n ∙ ap (λ (ms : List (List ℕ)). record { nodes = chain.nodes; symbols = ms }) m)
    (h E (subst (λ (ns : List Node). IsFormOf ns bs (IsTold E)) (sym n) f))

-- so is one by what is found in a part and in the stores
pub answers_added : (t : Template) (chain : Chained) (p : Part) (g : Goal) (a : ArithValue) → IsSolvedChain chain.nodes (with_added chain.stores p) → t.nodes ≡ chain.nodes → t.symbols ≡ chain.symbols
    → ((E : Equations) → IsFormOf t.nodes (p.bindings.items ++ bindings_from chain.stores) (IsTold E) → Answers t E g a) → Answers (template_of chain) (equations_of chain.nodes (with_added chain.stores p)) g a
answers_added t chain p g a f n m h = answers_form t chain (p.bindings.items ++ bindings_from chain.stores) (equations_of chain.nodes (with_added chain.stores p)) g a (form_added chain.nodes chain.stores p f) n m h

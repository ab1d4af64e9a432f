-- Bindings that come in order, one after another.
use Rattle.std.proofs.Common.{◌≡◌, List, [], ◌∷◌, ◌++◌, sym, ap, subst, ◌∙◌, refl, append_assoc, append-nil}
use Rattle.std.specs.declared.cmp.Ordering.TheVariants.{Less}
use Rattle.std.specs.Map.{keys_of}
use Rattle.std.specs.List.{AllByRecursion}
use Rattle.std.specs.List.Sorted.{IsStrictlySortedBy}
use Rattle.akl_terms.specs.declared.name.Var.{Var}
use Rattle.akl_terms.specs.declared.term.Term.{Term}
use Rattle.akl_terms.specs.Names.{var_cmp}
use Rattle.constraint_laws.proofs.VariableOrder.{var_total}
use Rattle.local_store.specs.Stored.{joined, joins}
use Rattle.local_store.proofs.Orders.{Greater-from_less}

joined-last : (bs : List (Var × Term)) (x : Var) (t : Term) (cs : List (Var × Term)) → IsStrictlySortedBy var_cmp (keys_of (bs ++ (x, t) ∷ cs)) → joined bs x t ≡ bs ++ (x, t) ∷ []
unfolding IsStrictlySortedBy
joined-last [] x t cs h = refl
joined-last (b ∷ bs) x t cs h = rw (Greater-from_less var_cmp var_total b.0 x (before bs h.0)) (ap (λ (l : List (Var × Term)). b ∷ l) (joined-last bs x t cs h.1))
  where
    before : (ls : List (Var × Term)) → AllByRecursion (λ y. var_cmp b.0 y ≡ Less) (keys_of (ls ++ (x, t) ∷ cs)) → var_cmp b.0 x ≡ Less
    before [] g = g.0
    before (l ∷ ls) g = before ls g.1

joins-from : (bs cs : List (Var × Term)) → IsStrictlySortedBy var_cmp (keys_of (bs ++ cs)) → joins bs cs ≡ bs ++ cs
joins-from bs [] h = sym (append-nil bs)
joins-from bs (c ∷ cs) h =
    let parts : bs ++ c ∷ cs ≡ (bs ++ c ∷ []) ++ cs = sym (append_assoc bs (c ∷ []) cs) in
    ap (λ (l : List (Var × Term)). joins l cs) (joined-last bs c.0 c.1 cs h) ∙ joins-from (bs ++ c ∷ []) cs (subst (λ (l : List (Var × Term)). IsStrictlySortedBy var_cmp (keys_of l)) parts h) ∙ sym parts

pub joins-in_order : (bs : List (Var × Term)) → IsStrictlySortedBy var_cmp (keys_of bs) → joins [] bs ≡ bs
joins-in_order bs h = joins-from [] bs h

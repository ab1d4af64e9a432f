-- What all alternatives have, one after another.
use Rattle.std.proofs.Common.{◌≡◌, ℕ, zero, suc, ◌+◌, ◌≤◌, ◌<◌, List, [], ◌∷◌, ◌++◌, length, take, drop, refl, sym, ◌∙◌, ap, subst, slice_index_or, arith}
use Rattle.akl_terms.specs.declared.name.Var.{Var}
use Rattle.akl_terms.specs.declared.term.Node.{Node}
use Rattle.akl_terms.specs.declared.term.Term.{Term}
use Rattle.rational_unify.proofs.Taking.{drop-next}
use Rattle.local_store.specs.Stored.{Stored, joined, joins, with_bindings}
use Rattle.local_store.specs.Chained.{IsSolvedChain, IsKnown}
use Rattle.box_tree.specs.declared.view.Alternative.{Alternative}
use Rattle.guard_plan.specs.Collecting.{bindings_of}
use Rattle.guard_plan.proofs.Chains.{long_push}

joins_append : (bs cs ds : List (Var × Term)) → joins (joins bs cs) ds ≡ joins bs (cs ++ ds)
joins_append bs [] ds = refl
joins_append bs ((x, t) ∷ cs) ds = joins_append (joined bs x t) cs ds

-- the bindings of one more
pub bindings_next : (s new : Stored) (xs : List Alternative) (k : ℕ) (a : Alternative) → k < length xs → a ≡ slice_index_or xs k a → new ≡ with_bindings s a.store.bindings
    → with_bindings new (bindings_of (drop (k + 1) xs)) ≡ with_bindings s (bindings_of (drop k xs))
bindings_next s new xs k a l is e =
    ap (λ (r : Stored). with_bindings r (bindings_of (drop (k + 1) xs))) e
    ∙ ap (λ (bs : List (Var × Term)). record { frames = s.frames; bindings = bs; ports = s.ports }) (joins_append s.bindings a.store.bindings (bindings_of (drop (k + 1) xs)))
    ∙ ap (λ (ys : List Alternative). with_bindings s (bindings_of ys)) (sym (drop-next xs k (k + 1) a l (omega arith) ∙ ap (λ (b : Alternative). b ∷ drop (k + 1) xs) (sym is)))

-- a store inside a chain leaves what is known of it
take_front : (ss : List Stored) (s : Stored) (k : ℕ) → k ≤ length ss → take k (ss ++ s ∷ []) ≡ take k ss
take_front ss s zero l = refl
take_front [] s (suc k) l = absurd (omega arith)
take_front (r ∷ ss) s (suc k) l = ap (λ (ts : List Stored). r ∷ ts) (take_front ss s k (omega arith))

pub known_inner : (nodes : List Node) (ss : List Stored) (s : Stored) (known : ℕ) → IsKnown nodes ss known → IsKnown nodes (ss ++ s ∷ []) known
known_inner nodes ss s known h = record {
  within = let l : length (ss ++ s ∷ []) ≡ length ss + 1 = long_push ss s in let w : known ≤ length ss = h.within in omega arith;
  each = λ k l. let w : known ≤ length ss = h.within in subst (IsSolvedChain nodes) (sym (take_front ss s k (omega arith))) (h.each k l);
}

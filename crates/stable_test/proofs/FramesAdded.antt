-- The frames of a store to which others were added.
use Rattle.std.proofs.Common.{◌≡◌, List, [], ◌∷◌, refl, sym, ◌∙◌, ap, ◌⊎◌, inl, inr}
use Rattle.std.specs.Ordering.{match_ordering, is_eq}
use Rattle.std.specs.declared.cmp.Ordering.{Ordering}
use Rattle.std.specs.declared.cmp.Ordering.TheVariants.{Less, Equal, Greater}
use Rattle.akl_terms.specs.declared.name.Name.{Name}
use Rattle.akl_terms.specs.declared.name.Var.{Var}
use Rattle.akl_terms.specs.Names.{name_cmp}
use Rattle.akl_terms.specs.Touching.{IsLocal}
use Rattle.akl_terms.proofs.SameNames.{same_name-equal}
use Rattle.local_store.specs.Stored.{Stored, named}
use Rattle.local_store.specs.Promoting.{with_frames}
use Rattle.local_store.proofs.Orders.{name-same}

named_local : (fs : List Name) (n : Name) (x : Var) → IsLocal (named fs n) x → (x.frame ≡ n) ⊎ IsLocal fs x
named_local [] n x (inl e) = inl e
named_local [] n x (inr z) = absurd z
named_local (m ∷ ms) n x l = on (name_cmp n m) l (λ k. named_local ms n x k)
  where
    on : (o : Ordering) → IsLocal (match_ordering o (n ∷ m ∷ ms) (m ∷ ms) (m ∷ named ms n)) x → (IsLocal (named ms n) x → (x.frame ≡ n) ⊎ IsLocal ms x) → (x.frame ≡ n) ⊎ IsLocal (m ∷ ms) x
    on Less (inl e) f = inl e
    on Less (inr k) f = inr k
    on Equal k f = inr k
    on Greater (inl e) f = inr (inl e)
    on Greater (inr k) f = elim (f k) [ inl e ↦ inl e | inr j ↦ inr (inr j) ]

local_named : (fs : List Name) (n : Name) (x : Var) → (x.frame ≡ n) ⊎ IsLocal fs x → IsLocal (named fs n) x
local_named [] n x (inl e) = inl e
local_named [] n x (inr z) = absurd z
local_named (m ∷ ms) n x l = on (name_cmp n m) refl l (λ k. local_named ms n x k)
  where
    on : (o : Ordering) → name_cmp n m ≡ o → (x.frame ≡ n) ⊎ IsLocal (m ∷ ms) x → ((x.frame ≡ n) ⊎ IsLocal ms x → IsLocal (named ms n) x)
        → IsLocal (match_ordering o (n ∷ m ∷ ms) (m ∷ ms) (m ∷ named ms n)) x
    on Less q (inl e) f = inl e
    on Less q (inr k) f = inr k
    on Equal q (inl e) f = inl (e ∙ same_name-equal n m (sym (name-same n m) ∙ ap is_eq q))
    on Equal q (inr k) f = k
    on Greater q (inl e) f = inr (f (inl e))
    on Greater q (inr (inl e)) f = inl e
    on Greater q (inr (inr k)) f = inr (f (inr k))

pub added_local : (s : Stored) (ns : List Name) (x : Var) → IsLocal (with_frames s ns).frames x → IsLocal s.frames x ⊎ IsLocal ns x
added_local s [] x l = inl l
added_local s (n ∷ ns) x l = elim (named_local (with_frames s ns).frames n x l) [
  | inl e ↦ inr (inl e)
  | inr k ↦ elim (added_local s ns x k) [ inl j ↦ inl j | inr j ↦ inr (inr j) ]
]

pub local_added : (s : Stored) (ns : List Name) (x : Var) → IsLocal s.frames x ⊎ IsLocal ns x → IsLocal (with_frames s ns).frames x
local_added s [] x (inl l) = l
local_added s [] x (inr z) = absurd z
local_added s (n ∷ ns) x (inl l) = local_named (with_frames s ns).frames n x (inr (local_added s ns x (inl l)))
local_added s (n ∷ ns) x (inr (inl e)) = local_named (with_frames s ns).frames n x (inl e)
local_added s (n ∷ ns) x (inr (inr l)) = local_named (with_frames s ns).frames n x (inr (local_added s ns x (inr l)))

pub bindings_kept : (s : Stored) (ns : List Name) → (with_frames s ns).bindings ≡ s.bindings
bindings_kept s [] = refl
bindings_kept s (n ∷ ns) = bindings_kept s ns

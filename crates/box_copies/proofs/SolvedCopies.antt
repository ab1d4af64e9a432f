-- Stores whose names are swapped are solved together with those around them where they were before.
use Rattle.std.proofs.Common.{◌≡◌, ◌+◌, ◌≤◌, List, [], ◌∷◌, ◌++◌, map, Bool, true, false, cond, ◌&&◌, ◌==◌, Option, Some, None, refl, sym, ap, subst, ◌∙◌, arith, append_assoc, append-nil}
use Rattle.std.specs.Prelude.{⊤}
use Rattle.std.specs.List.{AllByRecursion}
use Rattle.akl_terms.specs.declared.name.Name.{Name}
use Rattle.akl_terms.specs.declared.name.Var.{Var}
use Rattle.akl_terms.specs.declared.term.Node.{Node}
use Rattle.akl_terms.specs.declared.term.Term.{Term}
use Rattle.akl_terms.specs.Equal.{Equations, IsTold}
use Rattle.akl_terms.specs.Names.{same_name}
use Rattle.akl_terms.specs.Standing.{StandFor}
use Rattle.akl_terms.proofs.SameNames.{same_name-equal, same_name-refl}
use Rattle.akl_model.specs.Renaming.{renamed_equation}
use Rattle.rational_unify.specs.Known.{found_in}
use Rattle.rational_unify.specs.Older.{LeadOlder, EachOlder}
use Rattle.rational_unify.proofs.Chains.{found-first}
use Rattle.rational_unify.proofs.OlderEnds.{LeadOlder-append, EachOlder-found}
use Rattle.local_store.specs.Stored.{Stored, joins}
use Rattle.local_store.specs.Chained.{bindings_from, ToldBy, times_bound, BindOnce, IsSolvedChain}
use Rattle.local_store.proofs.Once.{times-append, times-joins, times-none, once-second, once-found}
use Rattle.local_store.proofs.OlderForms.{older-form, older-chain}
use Rattle.box_copies.specs.Renamer.{binding_by}
use Rattle.box_copies.proofs.Outside.{bound_fixed}

abbrev pub var_by : (Name → Name) → Var → Var
var_by f x = record { frame = f x.frame; index = x.index }

-- these stores have the bindings of the others under other names, in their order
abbrev pub AreStoresBy : (Name → Name) → List Stored → List Stored → Type 0
AreStoresBy f [] [] = ⊤
AreStoresBy f (s ∷ ss) (k ∷ ks) = (k.bindings ≡ joins [] (map (binding_by f) s.bindings)) × AreStoresBy f ss ks
AreStoresBy f ss ks = ⊥

-- the bindings of a chain in two parts
from_parts : (ss ts : List Stored) → bindings_from (ss ++ ts) ≡ bindings_from ts ++ bindings_from ss
from_parts [] ts = sym (append-nil (bindings_from ts))
from_parts (s ∷ ss) ts = ap (λ (l : List (Var × Term)). l ++ s.bindings) (from_parts ss ts) ∙ append_assoc (bindings_from ts) (bindings_from ss) s.bindings

older_stores : (nodes : List Node) (ks : List Stored) → AllByRecursion (λ (k : Stored). EachOlder nodes k.bindings) ks → LeadOlder nodes (bindings_from ks)
older_stores nodes [] h = record { each = λ x y t e v. cc }
older_stores nodes (k ∷ ks) h = LeadOlder-append nodes (bindings_from ks) k.bindings (older_stores nodes ks h.1) (EachOlder-found nodes k.bindings h.0)

-- what leads to older variables does without its inner part, where no variable is bound twice
older_outer : (nodes : List Node) (inner outer : List (Var × Term)) → BindOnce (inner ++ outer) → LeadOlder nodes (inner ++ outer) → LeadOlder nodes outer
older_outer nodes inner outer once h = record { each = λ x y t e v. h.each x y t (once-found inner outer once x ∙ found-first outer inner x t e) v }

module _ (f : Name → Name) (twice : (n : Name) → f (f n) ≡ n) where
  same_by : (a b : Name) → same_name (f a) (f b) ≡ same_name a b
  same_by a b = on (same_name a b) refl (same_name (f a) (f b)) refl
    where
      on : (s : Bool) → same_name a b ≡ s → (t : Bool) → same_name (f a) (f b) ≡ t → t ≡ s
      on true e true g = refl
      on false e false g = refl
      on true e false g = let u : same_name (f a) (f b) ≡ true = subst (λ (n : Name). same_name (f a) (f n) ≡ true) (same_name-equal a b e) (same_name-refl (f a)) in cc
      on false e true g =
          let q : a ≡ b = sym (twice a) ∙ ap f (same_name-equal (f a) (f b) g) ∙ twice b in
          let u : same_name a b ≡ true = subst (λ (n : Name). same_name a n ≡ true) q (same_name-refl a) in
          cc

  -- a variable has as many bindings as it had under its other name
  times_by : (bs : List (Var × Term)) (x : Var) → times_bound (var_by f x) (map (binding_by f) bs) ≡ times_bound x bs
  times_by [] x = refl
  times_by (b ∷ bs) x = λ i. cond (same_by b.0.frame x.frame i && (b.0.index == x.index)) 1 0 + times_by bs x i

  map_parts : (bs cs : List (Var × Term)) → map (binding_by f) (bs ++ cs) ≡ map (binding_by f) bs ++ map (binding_by f) cs
  map_parts [] cs = refl
  map_parts (b ∷ bs) cs = ap (λ (l : List (Var × Term)). binding_by f b ∷ l) (map_parts bs cs)

  times_stores : (ss ks : List Stored) → AreStoresBy f ss ks → (x : Var) → times_bound x (bindings_from ks) ≡ times_bound x (map (binding_by f) (bindings_from ss))
  times_stores [] [] h x = refl
  times_stores [] (k ∷ ks) h x = absurd h
  times_stores (s ∷ ss) [] h x = absurd h
  times_stores (s ∷ ss) (k ∷ ks) h x =
      let a : times_bound x (bindings_from ks ++ k.bindings) ≡ times_bound x (bindings_from ks) + times_bound x k.bindings = times-append x (bindings_from ks) k.bindings in
      let r : times_bound x (bindings_from ks) ≡ times_bound x (map (binding_by f) (bindings_from ss)) = times_stores ss ks h.1 x in
      let j : times_bound x k.bindings ≡ times_bound x [] + times_bound x (map (binding_by f) s.bindings) = ap (times_bound x) h.0 ∙ times-joins x [] (map (binding_by f) s.bindings) in
      let z : times_bound x [] ≡ 0 = refl in
      let b : times_bound x (map (binding_by f) (bindings_from ss ++ s.bindings)) ≡ times_bound x (map (binding_by f) (bindings_from ss)) + times_bound x (map (binding_by f) s.bindings) =
      ap (times_bound x) (map_parts (bindings_from ss) s.bindings) ∙ times-append x (map (binding_by f) (bindings_from ss)) (map (binding_by f) s.bindings) in
      omega arith

  -- none is bound twice where the frames of those stay that are bound outside
  once_by : (inner outer : List (Var × Term)) → BindOnce (inner ++ outer) → ((x : Var) (t : Term) → found_in outer x ≡ Some t → f x.frame ≡ x.frame) → BindOnce (map (binding_by f) inner ++ outer)
  once_by inner outer once stays = record { each = each }
    where
      each : (x : Var) → times_bound x (map (binding_by f) inner ++ outer) ≤ 1
      each x = on (found_in outer x) refl
        where
          was : times_bound x (map (binding_by f) inner) ≡ times_bound (var_by f x) inner
          was = ap (λ (n : Name). times_bound (record { frame = n; index = x.index }) (map (binding_by f) inner)) (sym (twice x.frame)) ∙ times_by inner (var_by f x)

          parts : times_bound x (map (binding_by f) inner ++ outer) ≡ times_bound x (map (binding_by f) inner) + times_bound x outer
          parts = times-append x (map (binding_by f) inner) outer

          on : (o : Option Term) → found_in outer x ≡ o → times_bound x (map (binding_by f) inner ++ outer) ≤ 1
          on None e =
              let z : times_bound x outer ≡ 0 = times-none x outer e in
              let l : times_bound (var_by f x) (inner ++ outer) ≤ 1 = once.each (var_by f x) in
              let a : times_bound (var_by f x) (inner ++ outer) ≡ times_bound (var_by f x) inner + times_bound (var_by f x) outer = times-append (var_by f x) inner outer in
              let w : times_bound x (map (binding_by f) inner) ≡ times_bound (var_by f x) inner = was in
              let p : times_bound x (map (binding_by f) inner ++ outer) ≡ times_bound x (map (binding_by f) inner) + times_bound x outer = parts in
              omega arith
          on (Some t) e =
              let l : times_bound x (inner ++ outer) ≤ 1 = once.each x in
              let a : times_bound x (inner ++ outer) ≡ times_bound x inner + times_bound x outer = times-append x inner outer in
              let w : times_bound x (map (binding_by f) inner) ≡ times_bound x inner = was ∙ ap (λ (n : Name). times_bound (record { frame = n; index = x.index }) inner) (stays x t e) in
              let p : times_bound x (map (binding_by f) inner ++ outer) ≡ times_bound x (map (binding_by f) inner) + times_bound x outer = parts in
              omega arith

  -- where the stores around stand for equations that stay as they are
  pub copied_chain : (nodes : List Node) (E : Equations) → map (renamed_equation f) E ≡ E → (outer ss ks : List Stored) → StandFor (ToldBy nodes outer) (IsTold E) → IsSolvedChain nodes (outer ++ ss)
      → AreStoresBy f ss ks → AllByRecursion (λ (k : Stored). EachOlder nodes k.bindings) ks → IsSolvedChain nodes (outer ++ ks)
  copied_chain nodes E stays outer ss ks stands h made older = older-chain nodes (outer ++ ks)
      (subst (LeadOlder nodes) (sym (from_parts outer ks)) (LeadOlder-append nodes (bindings_from ks) (bindings_from outer) (older_stores nodes ks older) outer_older))
      (record { each = each })
    where
      once : BindOnce (bindings_from ss ++ bindings_from outer)
      once = subst BindOnce (from_parts outer ss) h.once

      outer_older : LeadOlder nodes (bindings_from outer)
      outer_older = older_outer nodes (bindings_from ss) (bindings_from outer) once (subst (LeadOlder nodes) (from_parts outer ss) h.older)

      copied : BindOnce (map (binding_by f) (bindings_from ss) ++ bindings_from outer)
      copied = once_by (bindings_from ss) (bindings_from outer) once
          (bound_fixed f E stays nodes (bindings_from outer) (older-form nodes (bindings_from outer) outer_older (once-second (bindings_from ss) (bindings_from outer) once)) stands)

      each : (x : Var) → times_bound x (bindings_from (outer ++ ks)) ≤ 1
      each x =
          let a : times_bound x (bindings_from (outer ++ ks)) ≡ times_bound x (bindings_from ks) + times_bound x (bindings_from outer) =
          ap (times_bound x) (from_parts outer ks) ∙ times-append x (bindings_from ks) (bindings_from outer) in
          let b : times_bound x (map (binding_by f) (bindings_from ss) ++ bindings_from outer) ≡ times_bound x (map (binding_by f) (bindings_from ss)) + times_bound x (bindings_from outer) =
          times-append x (map (binding_by f) (bindings_from ss)) (bindings_from outer) in
          let s : times_bound x (bindings_from ks) ≡ times_bound x (map (binding_by f) (bindings_from ss)) = times_stores ss ks made x in
          let l : times_bound x (map (binding_by f) (bindings_from ss) ++ bindings_from outer) ≤ 1 = copied.each x in
          omega arith

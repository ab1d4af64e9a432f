-- The first member of each class is its oldest one, where members are listed with the oldest ones.
use Rattle.std.proofs.Common.{◌≡◌, List, [], ◌∷◌, take, refl, sym, ◌∙◌, subst, inl, inr}
use Rattle.std.specs.List.Sorted.{IsPermutation}
use Rattle.std.proofs.lemmas.List.Sorted.{list_any-IsPermutation}
use Rattle.akl_terms.specs.declared.name.Var.{Var}
use Rattle.akl_terms.specs.declared.term.Node.{Node}
use Rattle.akl_terms.specs.declared.term.Term.{Term}
use Rattle.akl_terms.specs.Names.{same_var}
use Rattle.akl_terms.specs.Tree.{variable}
use Rattle.akl_terms.specs.Equal.{Equations, IsTold, Equal, same, turned, joined, IsConsistent, IsStructured}
use Rattle.constraint_laws.specs.Oldest.{IsOldest, HasOldest}
use Rattle.constraint_laws.specs.Touched.{IsAmong}
use Rattle.constraint_laws.proofs.LeastVariables.{one_first, oldest_of, oldest_with}
use Rattle.rational_unify.specs.Known.{end_of}
use Rattle.rational_unify.specs.Forms.{IsFormOf}
use Rattle.local_store.specs.Stored.{Stored}
use Rattle.local_store.specs.Chained.{equations_of}
use Rattle.local_store.proofs.FormEnds.{has_head, unheaded, one_class, one_end, structured}
use Rattle.class_members.specs.Listed.{has}
use Rattle.class_members.specs.Members.{outermost_of, IsMember, AreMembers}
use Rattle.class_members.proofs.Gathered.{has_is}
use Rattle.why_report.specs.Classes.{IsUpTo, IsFirst, AreFirst, AreLeast, AreOldest}

-- by a solved form
module _ (nodes : List Node) (bs : List (Var × Term)) (E : Equations) (f : IsFormOf nodes bs (IsTold E)) (of list : List Var) (h : AreFirst nodes bs of list) where
  each_least : (x : Var) → IsAmong x list → IsAmong x of × ((y : Var) → IsAmong y of → Equal E (variable x) (variable y) → IsUpTo x y)
  each_least x m = let g : IsFirst nodes bs of x = h.each x m in (g.among, λ y k e. g.first y k (sym (one_end nodes bs E f x y g.end g.ends e) ∙ g.ends))

  every_least : (y : Var) → IsAmong y of → (IsStructured E y → ⊥) → (x : Var) × IsAmong x list × Equal E (variable x) (variable y)
  every_least y m n = elim (has_head (end_of nodes bs (variable y))) [
    | inl k ↦ absurd (n (structured nodes bs E f y k))
    | inr k ↦
        let r : (r : Var) × (end_of nodes bs (variable y) ≡ variable r) = unheaded (end_of nodes bs (variable y)) k in
        let w : (x : Var) × IsAmong x list × (end_of nodes bs (variable x) ≡ variable r.0) = h.every y r.0 m r.1 in
        (w.0, w.1, one_class nodes bs E f w.0 y (w.2 ∙ sym r.1))
  ]

  pub first_least : AreLeast E of list
  first_least = record { increasing = h.increasing; each = each_least; every = λ c. every_least }

-- where all is inconsistent
pub none_least : (E : Equations) (of : List Var) → (IsConsistent E → ⊥) → AreLeast E of []
none_least E of n = record { increasing = tt; each = λ x m. absurd m; every = λ c. absurd (n c) }

-- a list in another order
pub among_permuted : (xs ys : List Var) → IsPermutation xs ys → (x : Var) → IsAmong x xs → IsAmong x ys
among_permuted xs ys p x m = (has_is ys x (has xs x) (list_any-IsPermutation (same_var x) xs ys p)).0 ((has_is xs x (has xs x) refl).1 m)

pub among_before : (xs ys : List Var) → IsPermutation xs ys → (x : Var) → IsAmong x ys → IsAmong x xs
among_before xs ys p x m = (has_is xs x (has ys x) (sym (list_any-IsPermutation (same_var x) xs ys p))).0 ((has_is ys x (has ys x) refl).1 m)

pub one_outermost : (nodes : List Node) (ss : List Stored) → outermost_of nodes (take 1 ss) ≡ equations_of nodes (take 1 ss)
one_outermost nodes [] = refl
one_outermost nodes (s ∷ ss) = refl

-- members of classes in order, by equations that are all of the outermost store
module _ (nodes : List Node) (ss : List Stored) (outer : outermost_of nodes ss ≡ equations_of nodes ss) (of members sorted list : List Var) (m : AreMembers nodes ss of members)
    (p : IsPermutation members sorted) (h : AreLeast (equations_of nodes ss) sorted list) where
  abbrev E : Equations
  E = equations_of nodes ss

  has_oldest : HasOldest (equations_of nodes ss) members
  has_oldest = subst (λ (F : Equations). HasOldest F members) outer m.oldest

  member_of : (x : Var) → IsAmong x list → IsAmong x members
  member_of x k = among_before members sorted p x (h.each x k).0

  itself_oldest : (x : Var) → IsAmong x list → IsOldest E x x
  itself_oldest x k = subst (IsOldest E x) (one_first w.0 x (w.1.oldest x same) (first w.0 w.1)) w.1
    where
      w : (w : Var) × IsOldest E x w
      w = oldest_of E x

      first : (w : Var) → IsOldest E x w → IsUpTo x w
      first w o = (h.each x k).1 w (among_permuted members sorted p w (has_oldest x w (member_of x k) o)) o.equal

  each_oldest : (x : Var) → IsAmong x list → IsMember E of x × IsOldest E x x
  each_oldest x k = (m.each x (member_of x k), itself_oldest x k)

  every_oldest : IsConsistent E → (x w : Var) → IsMember E of x → IsOldest E x w → IsAmong w list
  every_oldest c x w k o = subst (λ (v : Var). IsAmong v list) (one_first l.0 w ((h.each l.0 l.1).1 w w_sorted l.2) (o.oldest l.0 (joined o.equal (turned l.2)))) l.1
    where
      y : (y : Var) × IsAmong y members × Equal E (variable y) (variable x)
      y = let z : (y : Var) × IsAmong y members × Equal (outermost_of nodes ss) (variable y) (variable x) = m.every c x k in
          (z.0, z.1, subst (λ (F : Equations). Equal F (variable z.0) (variable x)) outer z.2)

      w_sorted : IsAmong w sorted
      w_sorted = among_permuted members sorted p w (has_oldest y.0 w y.1 (oldest_with E x y.0 w (turned y.2) o))

      w_free : IsStructured E w → ⊥
      w_free s = k.unstructured (s.0, s.1, joined k.equal (joined o.equal s.2), s.3)

      l : (l : Var) × IsAmong l list × Equal E (variable l) (variable w)
      l = h.every c w w_sorted w_free

  pub least_oldest : AreOldest (equations_of nodes ss) of list
  least_oldest = record { increasing = h.increasing; each = each_oldest; every = every_oldest }

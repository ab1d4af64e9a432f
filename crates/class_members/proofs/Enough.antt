-- What is listed over a solved form of all stores of a chain is enough members.
use Rattle.std.proofs.Common.{◌≡◌, ℕ, zero, suc, ◌≤◌, List, [], ◌∷◌, ◌++◌, Option, Some, None, refl, sym, subst, ◌∙◌, ◌⊎◌, inl, inr, take, drop, append-nil, arith}
use Rattle.akl_terms.specs.declared.name.Var.{Var}
use Rattle.akl_terms.specs.declared.term.Node.{Node}
use Rattle.akl_terms.specs.declared.term.Term.{Term}
use Rattle.akl_terms.specs.Tree.{Tree, variable, head_of}
use Rattle.akl_terms.specs.Equal.{Equations, IsTold, Equal, told, same, turned, IsStructured}
use Rattle.akl_terms.specs.Decided.{DifferInHead}
use Rattle.akl_terms.proofs.EqualLaws.{EqualBy-follows}
use Rattle.constraint_laws.specs.Oldest.{IsOldest, HasOldest}
use Rattle.constraint_laws.specs.Touched.{IsAmong}
use Rattle.constraint_laws.proofs.LeastVariables.{one_oldest}
use Rattle.rational_unify.specs.Known.{found_in, end_of}
use Rattle.rational_unify.specs.Solving.{BindNew}
use Rattle.rational_unify.specs.Forms.{IsFormOf, Takes}
use Rattle.rational_unify.proofs.Chains.{found-none}
use Rattle.rational_unify.proofs.FormLaws.{form-follows, form-consistent}
use Rattle.rational_unify.proofs.Stands.{HasHead}
use Rattle.local_store.specs.Stored.{Stored}
use Rattle.local_store.specs.Chained.{bindings_from, equations_of, IsSolvedChain, IsKnown}
use Rattle.local_store.proofs.Layers.{chain-form, told-take}
use Rattle.local_store.proofs.FormEnds.{end-free, end_unbound, unheaded, has_head, unstructured, structured, one_class, one_end, unbound_oldest}
use Rattle.class_members.specs.Members.{outermost_of, IsMember, AreMembers}
use Rattle.class_members.specs.Listed.{IsEndOfOne, AreListed, candidates_of}
use Rattle.class_members.proofs.BoundKeys.{first_unbound, candidate, candidate_unbound}

-- the outermost of some outer stores is the outermost of all
outermost_same : (ss : List Stored) (known : ℕ) → 1 ≤ known → take 1 (take known ss) ≡ take 1 ss
outermost_same ss zero l = absurd (omega arith)
outermost_same [] (suc n) l = refl
outermost_same (s ∷ ss) (suc n) l = refl

-- nothing is listed where two terms of different heads are equal
pub none_listed : (nodes : List Node) (ss : List Stored) (of : List Var) (s t : Tree) → Equal (equations_of nodes ss) s t → DifferInHead s t → AreMembers nodes ss of []
none_listed nodes ss of s t e d = record { consistent = λ y m. absurd m; each = λ y m. absurd m; every = λ c z m. absurd (d.differ (c.heads e d.is_left d.is_right)); oldest = λ x w m. absurd m }

module _ (nodes : List Node) (ss : List Stored) (known : ℕ) (h : IsKnown nodes ss known) (added : List (Var × Term)) (t : Takes nodes (bindings_from (take known ss)) [] added (bindings_from (drop known ss)))
    (of list : List Var) (l : AreListed nodes (bindings_from (take known ss) ++ added) of (candidates_of (take known ss) added) list) where
  abbrev all : List (Var × Term)
  all = bindings_from (take known ss) ++ added

  abbrev W : Equations
  W = equations_of nodes ss

  f : IsFormOf nodes (bindings_from (take known ss) ++ added) (IsTold (equations_of nodes ss))
  f = chain-form nodes ss known (bindings_from (take known ss)) added (h.each known (omega arith)).form t

  fresh : BindNew (bindings_from (take known ss)) added
  fresh = subst (BindNew (bindings_from (take known ss))) (sym t.added) (subst (λ (bs : List (Var × Term)). BindNew bs t.more) (append-nil (bindings_from (take known ss))) t.fresh)

  member : (y : Var) → IsAmong y list → IsMember W of y
  member y m = elim (l.each y m) [
    | inl e ↦ record {
      variable_of = e.start;
      among = e.among;
      unstructured = unstructured nodes all W f e.start y e.ends;
      equal = subst (λ (k : Tree). Equal W (variable e.start) k) e.ends (form-follows nodes all (IsTold W) f (variable e.start));
    }
    | inr w ↦ record {
      variable_of = w.1.1.start;
      among = w.1.1.among;
      unstructured = unstructured nodes all W f w.1.1.start w.1.0 w.1.1.ends;
      equal = one_class nodes all W f w.1.1.start y (w.1.1.ends ∙ sym w.1.2);
    }
  ]

  -- the end of a variable's chain in the outermost store, where that is known to be solved, and else the variable
  record OuterEnd (z r : Var) : Type 0 where
    last : Var
    equal : Equal (outermost_of nodes ss) (variable last) (variable z)
    unbound : found_in (bindings_from (take 1 (take known ss))) last ≡ None
    ends : end_of nodes (bindings_from (take known ss) ++ added) (variable last) ≡ variable r

  outer_equal : (a b : Tree) → Equal (outermost_of nodes ss) a b → Equal W a b
  outer_equal a b e = EqualBy-follows (λ c d m. told (told-take nodes ss 1 c d m)) e

  outer_end : (z r : Var) → end_of nodes (bindings_from (take known ss) ++ added) (variable z) ≡ variable r → OuterEnd z r
  outer_end z r e = on known refl
    where
      on : (n : ℕ) → known ≡ n → OuterEnd z r
      on zero q = record { last = z; equal = same; unbound = subst (λ (k : ℕ). found_in (bindings_from (take 1 (take k ss))) z ≡ None) (sym q) refl; ends = e }
      on (suc n) q = by (has_head (end_of nodes (bindings_from (take 1 ss)) (variable z)))
        where
          some : 1 ≤ known
          some = omega (arith, q)

          outer : IsFormOf nodes (bindings_from (take 1 ss)) (IsTold (outermost_of nodes ss))
          outer = (h.each 1 some).form

          by : HasHead (end_of nodes (bindings_from (take 1 ss)) (variable z)) ⊎ (head_of (end_of nodes (bindings_from (take 1 ss)) (variable z)) ≡ None) → OuterEnd z r
          by (inl g) =
              let s : IsStructured (outermost_of nodes ss) z = structured nodes (bindings_from (take 1 ss)) (outermost_of nodes ss) outer z g in
              absurd (unstructured nodes all W f z r e (s.0, s.1, outer_equal (variable z) s.0 s.2, s.3))
          by (inr n) =
              let w : (y : Var) × (end_of nodes (bindings_from (take 1 ss)) (variable z) ≡ variable y) = unheaded (end_of nodes (bindings_from (take 1 ss)) (variable z)) n in
              let k : Equal (outermost_of nodes ss) (variable z) (variable w.0) =
              subst (λ (x : Tree). Equal (outermost_of nodes ss) (variable z) x) w.1 (form-follows nodes (bindings_from (take 1 ss)) (IsTold (outermost_of nodes ss)) outer (variable z)) in
              record {
                last = w.0;
                equal = turned k;
                unbound = subst (λ (rs : List Stored). found_in (bindings_from rs) w.0 ≡ None) (sym (outermost_same ss known some))
                    (end_unbound nodes (bindings_from (take 1 ss)) (IsTold (outermost_of nodes ss)) outer z w.0 w.1);
                ends = sym (one_end nodes all W f z w.0 r e (outer_equal (variable z) (variable w.0) k)) ∙ e;
              }

  abbrev Covered : Var → Type 0
  Covered z = (y : Var) × IsAmong y list × Equal (outermost_of nodes ss) (variable y) (variable z)

  -- with the end of its chain each variable is listed that the outermost store doesn't bind, where that is known to be solved, and else each one
  unbound_listed : (y r : Var) → IsEndOfOne nodes all of r → end_of nodes all (variable y) ≡ variable r → found_in (bindings_from (take 1 (take known ss))) y ≡ None → IsAmong y list
  unbound_listed y r e q n = on (found_in all y) refl
    where
      on : (u : Option Term) → found_in all y ≡ u → IsAmong y list
      on None p =
          let z : variable r ≡ variable y = sym q ∙ end-free nodes all y p in
          let s : r ≡ y = cc in
          subst (λ (x : Var). IsAmong x list) s (l.ends r e)
      on (Some u) p = l.others y r (candidate (take known ss) added y u p n) e q

  listed_end : (z r : Var) → IsEndOfOne nodes all of r → OuterEnd z r → Covered z
  listed_end z r e o = (o.last, unbound_listed o.last r e o.ends o.unbound, o.equal)

  covered : (z : Var) → IsMember W of z → Covered z
  covered z m = on (has_head (end_of nodes (bindings_from (take known ss) ++ added) (variable m.variable_of)))
    where
      on : HasHead (end_of nodes (bindings_from (take known ss) ++ added) (variable m.variable_of)) ⊎ (head_of (end_of nodes (bindings_from (take known ss) ++ added) (variable m.variable_of)) ≡ None) → Covered z
      on (inl g) = absurd (m.unstructured (structured nodes all W f m.variable_of g))
      on (inr n) =
          let w : (r : Var) × (end_of nodes (bindings_from (take known ss) ++ added) (variable m.variable_of) ≡ variable r) = unheaded (end_of nodes (bindings_from (take known ss) ++ added) (variable m.variable_of)) n in
          listed_end z w.0 (record { start = m.variable_of; among = m.among; ends = w.1 }) (outer_end z w.0 (sym (one_end nodes all W f m.variable_of z w.0 w.1 m.equal) ∙ w.1))

  -- none is bound by the outermost of the stores that are known to be solved
  pub members_unbound : 1 ≤ known → (y : Var) → IsAmong y list → found_in (bindings_from (take 1 ss)) y ≡ None
  members_unbound some y m = subst (λ (rs : List Stored). found_in (bindings_from rs) y ≡ None) (outermost_same ss known some) (elim (l.each y m) [
    | inl e ↦ first_unbound (take known ss) y (found-none (bindings_from (take known ss)) added y (end_unbound nodes all (IsTold W) f e.start y e.ends)).0
    | inr w ↦ candidate_unbound (take known ss) added y fresh w.0
  ])

  end_of_listed : (x : Var) → IsAmong x list → (r : Var) × IsEndOfOne nodes all of r × (end_of nodes all (variable x) ≡ variable r)
  end_of_listed x m = elim (l.each x m) [ inl e ↦ (x, e, end-free nodes all x (end_unbound nodes all (IsTold W) f e.start x e.ends)) | inr w ↦ w.1 ]

  -- where the outermost store isn't known to be solved, the whole class of each listed variable is listed
  class_listed : known ≡ 0 → (x y : Var) → IsAmong x list → Equal (outermost_of nodes ss) (variable x) (variable y) → IsAmong y list
  class_listed q x y m e =
      let r : (r : Var) × IsEndOfOne nodes all of r × (end_of nodes all (variable x) ≡ variable r) = end_of_listed x m in
      unbound_listed y r.0 r.1 (sym (one_end nodes all W f x y r.0 r.2 (outer_equal (variable x) (variable y) e)) ∙ r.2)
      (subst (λ (k : ℕ). found_in (bindings_from (take 1 (take k ss))) y ≡ None) (sym q) refl)

  -- where it is, it leads to older variables and binds no listed one, so each of these is the oldest of its class
  itself_oldest : 1 ≤ known → (x : Var) → IsAmong x list → IsOldest (outermost_of nodes ss) x x
  itself_oldest some x m =
      let outer : IsSolvedChain nodes (take 1 ss) = h.each 1 some in
      unbound_oldest nodes (bindings_from (take 1 ss)) (outermost_of nodes ss) outer.form outer.older x (members_unbound some x m)

  oldest_listed : HasOldest (outermost_of nodes ss) list
  oldest_listed x w m o = on known refl
    where
      on : (n : ℕ) → known ≡ n → IsAmong w list
      on zero q = class_listed q x w m o.equal
      on (suc n) q = subst (λ (y : Var). IsAmong y list) (one_oldest (outermost_of nodes ss) x x w (itself_oldest (omega (arith, q)) x m) o) m

  pub are_members : AreMembers nodes ss of list
  are_members = record { consistent = λ y m. form-consistent nodes all (IsTold W) f; each = member; every = λ c z m. covered z m; oldest = oldest_listed }

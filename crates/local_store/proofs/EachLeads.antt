-- Lists of which each binding leads to an older variable.
use Rattle.std.proofs.Common.{◌≡◌, ℕ, ◌+◌, ◌<◌, List, [], ◌∷◌, ◌++◌, Bool, true, false, if◌then◌else◌, length, take, slice_index_or, sym, ap, subst, ◌∙◌, arith}
use Rattle.std.specs.List.{AllByRecursion}
use Rattle.akl_terms.specs.declared.name.Var.{Var}
use Rattle.akl_terms.specs.declared.term.Node.{Node}
use Rattle.akl_terms.specs.declared.term.Term.{Term}
use Rattle.rational_unify.specs.Solving.{BindNew}
use Rattle.rational_unify.specs.Older.{LeadOlder, IsToOlder, EachOlder}
use Rattle.rational_unify.proofs.Chains.{BindNew-found}
use Rattle.rational_unify.proofs.Taking.{take-next}
use Rattle.local_store.specs.Stored.{Stored, var_before, joined, joins}
use Rattle.local_store.specs.Chained.{bindings_from}
use Rattle.local_store.proofs.Layers.{from-last}
use Rattle.local_store.specs.Bound.{AreFound}

pub each-older : (nodes : List Node) (whole bs : List (Var × Term)) → LeadOlder nodes whole → AreFound whole bs → EachOlder nodes bs
each-older nodes whole [] h f = tt
each-older nodes whole (b ∷ bs) h f = (λ y e. h.each b.0 y b.1 f.0 e, each-older nodes whole bs h f.1)

module _ (P : Var × Term → Type 0) where
  abbrev All : List (Var × Term) → Type 0
  All bs = AllByRecursion P bs

  first-of : (b : Var × Term) (bs : List (Var × Term)) → All (b ∷ bs) → P b
  first-of b bs h = h.0

  rest-of : (b : Var × Term) (bs : List (Var × Term)) → All (b ∷ bs) → All bs
  rest-of b bs h = h.1

  pub all-both : (bs cs : List (Var × Term)) → All bs → All cs → All (bs ++ cs)
  all-both [] cs f g = g
  all-both (b ∷ bs) cs f g = (f.0, all-both bs cs f.1 g)

  pub all-front : (bs cs : List (Var × Term)) → All (bs ++ cs) → All bs
  all-front [] cs h = tt
  all-front (b ∷ bs) cs h = (h.0, all-front bs cs h.1)

  pub all-back : (bs cs : List (Var × Term)) → All (bs ++ cs) → All cs
  all-back [] cs h = h
  all-back (b ∷ bs) cs h = all-back bs cs h.1

  pub joined-all : (bs : List (Var × Term)) (x : Var) (t : Term) → All bs → P (x, t) → All (joined bs x t)
  joined-all [] x t h p = (p, tt)
  joined-all (b ∷ bs) x t h p = on (var_before x b.0) (joined-all bs x t h.1 p)
    where
      on : (k : Bool) → All (joined bs x t) → All (if k then (x, t) ∷ b ∷ bs else b ∷ joined bs x t)
      on true r = (p, h)
      on false r = (h.0, r)

  all-joined : (bs : List (Var × Term)) (x : Var) (t : Term) → All (joined bs x t) → All bs × P (x, t)
  all-joined [] x t h = (tt, h.0)
  all-joined (b ∷ bs) x t h = on (var_before x b.0) h (λ r. all-joined bs x t r)
    where
      on : (k : Bool) → All (if k then (x, t) ∷ b ∷ bs else b ∷ joined bs x t) → (All (joined bs x t) → All bs × P (x, t)) → All (b ∷ bs) × P (x, t)
      on true r f = (rest-of (x, t) (b ∷ bs) r, first-of (x, t) (b ∷ bs) r)
      on false r f = let g : All bs × P (x, t) = f (rest-of b (joined bs x t) r) in ((first-of b (joined bs x t) r, g.0), g.1)

  pub joins-all : (bs cs : List (Var × Term)) → All bs → All cs → All (joins bs cs)
  joins-all bs [] f g = f
  joins-all bs (c ∷ cs) f g = joins-all (joined bs c.0 c.1) cs (joined-all bs c.0 c.1 f g.0) g.1

  pub all-joins : (bs cs : List (Var × Term)) → All (joins bs cs) → All bs × All cs
  all-joins bs [] h = (h, tt)
  all-joins bs (c ∷ cs) h =
      let r : All (joined bs c.0 c.1) × All cs = all-joins (joined bs c.0 c.1) cs h in
      let q : All bs × P (c.0, c.1) = all-joined bs c.0 c.1 r.0 in
      (q.0, (q.1, r.1))

-- what is added to bindings that lead to older variables does so, too, where all together does
pub added-older : (nodes : List Node) (bs more store new : List (Var × Term)) → BindNew bs more → LeadOlder nodes (bs ++ more) → new ≡ joins store more → EachOlder nodes store → EachOlder nodes new
added-older nodes bs more store new n h e o = subst (EachOlder nodes) (sym e) (joins-all (IsToOlder nodes) store more o (each-older nodes (bs ++ more) more h (BindNew-found bs more n)))

pub kept-older : (nodes : List Node) (more store new : List (Var × Term)) → new ≡ joins store more → EachOlder nodes new → EachOlder nodes store
kept-older nodes more store new e o = (all-joins (IsToOlder nodes) store more (subst (EachOlder nodes) e o)).0

-- one store after another
pub older-store : (nodes : List Node) (known old mid new : List (Var × Term)) (ss : List Stored) (i : ℕ) (d s : Stored) → i < length ss → s ≡ slice_index_or ss i d
    → (LeadOlder nodes (known ++ old) → EachOlder nodes (bindings_from (take i ss)) → LeadOlder nodes (known ++ mid)) → (LeadOlder nodes (known ++ mid) → EachOlder nodes s.bindings → LeadOlder nodes (known ++ new))
    → LeadOlder nodes (known ++ old) → EachOlder nodes (bindings_from (take (i + 1) ss)) → LeadOlder nodes (known ++ new)
older-store nodes known old mid new ss i d s l e f g o h =
    let both : EachOlder nodes (s.bindings ++ bindings_from (take i ss)) =
    subst (EachOlder nodes) (ap bindings_from (take-next ss i (i + 1) d l (omega arith) ∙ ap (λ (r : Stored). take i ss ++ r ∷ []) (sym e)) ∙ from-last (take i ss) s) h in
    g (f o (all-back (IsToOlder nodes) s.bindings (bindings_from (take i ss)) both)) (all-front (IsToOlder nodes) s.bindings (bindings_from (take i ss)) both)

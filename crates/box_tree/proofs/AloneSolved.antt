-- A store that stands alone is solved with those around it, where these are, as none of them binds a variable of its frames.
use Rattle.std.proofs.Common.{◌≡◌, ℕ, ◌+◌, ◌≤◌, List, [], ◌∷◌, ◌++◌, Option, Some, None, Bool, true, false, cond, if◌then◌else◌, refl, sym, ap, subst, ◌∙◌, ◌⊎◌, inl, inr, arith}
use Rattle.std.proofs.lemmas.Bool.Decides.{nat_tests}
use Rattle.std.specs.Prelude.{◌||◌, slice_get, option_map}
use Rattle.std.specs.Ordering.{nat_cmp, ordering_then, ordering_reverse}
use Rattle.std.specs.declared.cmp.Ordering.{Ordering}
use Rattle.std.specs.declared.cmp.Ordering.TheVariants.{Less, Greater}
use Rattle.akl_terms.specs.declared.name.Name.{Name}
use Rattle.akl_terms.specs.declared.name.Var.{Var}
use Rattle.akl_terms.specs.declared.term.Node.{Node}
use Rattle.akl_terms.specs.declared.term.Term.{Term}
use Rattle.akl_terms.specs.Names.{same_name, same_var, is_before, name_cmp, var_cmp}
use Rattle.akl_terms.specs.Tree.{variable, head_of}
use Rattle.akl_terms.specs.Equal.{Equations, IsTold, Equal, turned, IsConsistentBy, IsStructured}
use Rattle.akl_terms.specs.Solved.{SameTree, bound}
use Rattle.akl_terms.specs.Standing.{StandFor}
use Rattle.akl_terms.specs.Template.{tree, tree_at, tree_seen, seen_node}
use Rattle.akl_terms.specs.Touching.{IsLocal, IsOutside}
use Rattle.akl_terms.proofs.SameNames.{same_name-equal, same_var-equal}
use Rattle.akl_terms.proofs.StandingLaws.{StandFor-on}
use Rattle.constraint_laws.specs.Growth.{TellsOver}
use Rattle.constraint_laws.proofs.Decided.{kept_by}
use Rattle.constraint_laws.proofs.Grown.{over_kept}
use Rattle.constraint_laws.proofs.SameTrees.{equal_same, same_variable}
use Rattle.constraint_laws.proofs.VariableOrder.{var_total}
use Rattle.rational_unify.specs.Known.{found_in}
use Rattle.rational_unify.specs.Older.{LeadOlder, IsToOlder, EachOlder}
use Rattle.rational_unify.specs.Solving.{bindings_in}
use Rattle.rational_unify.proofs.FormLaws.{form-consistent}
use Rattle.rational_unify.proofs.OlderEnds.{LeadOlder-append, EachOlder-found}
use Rattle.local_store.specs.Stored.{Stored, is_named}
use Rattle.local_store.specs.Chained.{bindings_from, ToldBy, times_bound, BindOnce, IsSolvedChain}
use Rattle.local_store.proofs.Layers.{from-last}
use Rattle.local_store.proofs.OlderForms.{older-chain}
use Rattle.local_store.proofs.Once.{times-append, times-none}
use Rattle.local_store.proofs.Orders.{Less-from_is_lt}
use Rattle.table_laws.specs.Rows.{told_in}
use Rattle.box_tree.specs.Alone.{is_of_older, is_behind, may_stand, may_all_stand, stands_alone}
use Rattle.table_laws.proofs.StoreChains.{told_stands}

both : (a b : Bool) → (if a then b else false) ≡ true → (a ≡ true) × (b ≡ true)
both true b e = (refl, e)
both false b e = cc

irreflexive : (x : Var) → var_cmp x x ≡ Less → ⊥
irreflexive x e = let z : Less ≡ Greater = sym e ∙ var_total.antisymm x x ∙ ap ordering_reverse e in cc

named_local : (fs : List Name) (x : Var) → is_named fs x.frame ≡ true → IsLocal fs x
named_local [] x e = cc
named_local (f ∷ fs) x e = on (same_name f x.frame) refl e (λ h. named_local fs x h)
  where
    on : (k : Bool) → same_name f x.frame ≡ k → (k || is_named fs x.frame) ≡ true → (is_named fs x.frame ≡ true → IsLocal fs x) → IsLocal (f ∷ fs) x
    on true q e g = inl (sym (same_name-equal f x.frame q))
    on false q e g = inr (g e)

-- variables of older frames are older
name_less : (f g : Name) → is_before f g ≡ true → name_cmp f g ≡ Less
name_less f g e = grind (arith, nat_tests)

variable_less : (f : Name) (k : ℕ) (x y : Var) → is_before f x.frame ≡ true → record { frame = f; index = k } ≡ y → var_cmp y x ≡ Less
variable_less f k x y e q = subst (λ (z : Var). var_cmp z x ≡ Less) q (ap (λ (o : Ordering). ordering_then o (nat_cmp k x.index)) (name_less f x.frame e))

older_term : (nodes : List Node) (x : Var) (t : Term) → is_of_older x t ≡ true → IsToOlder nodes (x, t)
older_term nodes x (Term.Mol i f) e = λ y p. on y (slice_get nodes i) p
  where
    on : (y : Var) (o : Option Node) → tree_seen (tree_at i nodes f) (seen_node f o) ≡ variable y → var_cmp y x ≡ Less
    on y None p = cc
    on y (Some (Node.Var k)) p = variable_less f k x y e (let g : record { frame = f; index = k } ≡ y = cc in g)
    on y (Some (Node.Int z)) p = cc
    on y (Some (Node.Struct s a n)) p = cc
older_term nodes x (Term.Int z) e = λ y p. cc
older_term nodes x (Term.Port q) e = λ y p. cc

module _ (frames : List Name) where
  rest : (b : Var × Term) (bs : List (Var × Term)) (behind : Option Var) → may_all_stand frames behind (b ∷ bs) ≡ true → (may_stand frames behind b ≡ true) × (may_all_stand frames (Some b.0) bs ≡ true)
  rest b bs behind e = both (may_stand frames behind b) (may_all_stand frames (Some b.0) bs) e

  first : (b : Var × Term) (behind : Option Var) → may_stand frames behind b ≡ true → (is_behind behind b.0 ≡ true) × (is_of_older b.0 b.1 ≡ true) × (is_named frames b.0.frame ≡ true)
  first b behind e =
      let p : (is_behind behind b.0 ≡ true) × ((if is_of_older b.0 b.1 then is_named frames b.0.frame else false) ≡ true) = both (is_behind behind b.0) (if is_of_older b.0 b.1 then is_named frames b.0.frame else false) e in
      let q : (is_of_older b.0 b.1 ≡ true) × (is_named frames b.0.frame ≡ true) = both (is_of_older b.0 b.1) (is_named frames b.0.frame) p.1 in
      (p.0, q.0, q.1)

  each_older : (nodes : List Node) (bs : List (Var × Term)) (behind : Option Var) → may_all_stand frames behind bs ≡ true → EachOlder nodes bs
  each_older nodes [] behind e = tt
  each_older nodes (b ∷ bs) behind e =
      let r : (may_stand frames behind b ≡ true) × (may_all_stand frames (Some b.0) bs ≡ true) = rest b bs behind e in
      (older_term nodes b.0 b.1 (first b behind r.0).1, each_older nodes bs (Some b.0) r.1)

  -- a variable that isn't behind another one isn't bound behind it
  none_behind : (bs : List (Var × Term)) (y x : Var) → may_all_stand frames (Some y) bs ≡ true → (x ≡ y) ⊎ (var_cmp x y ≡ Less) → times_bound x bs ≡ 0
  none_behind [] y x e h = refl
  none_behind (b ∷ bs) y x e h =
      let r : (may_stand frames (Some y) b ≡ true) × (may_all_stand frames (Some b.0) bs ≡ true) = rest b bs (Some y) e in
      let l : var_cmp y b.0 ≡ Less = Less-from_is_lt (var_cmp y b.0) (first b (Some y) r.0).0 in
      let m : var_cmp x b.0 ≡ Less = before h l in
      on (same_var b.0 x) refl m (none_behind bs b.0 x r.1 (inr m))
    where
      before : (x ≡ y) ⊎ (var_cmp x y ≡ Less) → var_cmp y b.0 ≡ Less → var_cmp x b.0 ≡ Less
      before (inl q) l = subst (λ (v : Var). var_cmp v b.0 ≡ Less) (sym q) l
      before (inr k) l = var_total.trans x y b.0 k l

      on : (k : Bool) → same_var b.0 x ≡ k → var_cmp x b.0 ≡ Less → times_bound x bs ≡ 0 → cond k 1 0 + times_bound x bs ≡ 0
      on true q m z = absurd (irreflexive x (subst (λ (v : Var). var_cmp x v ≡ Less) (same_var-equal b.0 x q) m))
      on false q m z = omega arith

  each_once : (bs : List (Var × Term)) (behind : Option Var) → may_all_stand frames behind bs ≡ true → (x : Var) → times_bound x bs ≤ 1
  each_once [] behind e x = omega arith
  each_once (b ∷ bs) behind e x =
      let r : (may_stand frames behind b ≡ true) × (may_all_stand frames (Some b.0) bs ≡ true) = rest b bs behind e in
      on (same_var b.0 x) refl (λ h. none_behind bs b.0 x r.1 h) (each_once bs (Some b.0) r.1 x)
    where
      on : (k : Bool) → same_var b.0 x ≡ k → ((x ≡ b.0) ⊎ (var_cmp x b.0 ≡ Less) → times_bound x bs ≡ 0) → times_bound x bs ≤ 1 → cond k 1 0 + times_bound x bs ≤ 1
      on true q f l = let z : times_bound x bs ≡ 0 = f (inl (sym (same_var-equal b.0 x q))) in omega arith
      on false q f l = omega arith

  other_frame : (bs : List (Var × Term)) (behind : Option Var) → may_all_stand frames behind bs ≡ true → (x : Var) → is_named frames x.frame ≡ false → times_bound x bs ≡ 0
  other_frame [] behind e x n = refl
  other_frame (b ∷ bs) behind e x n =
      let r : (may_stand frames behind b ≡ true) × (may_all_stand frames (Some b.0) bs ≡ true) = rest b bs behind e in
      on (same_var b.0 x) refl (first b behind r.0).2 (other_frame bs (Some b.0) r.1 x n)
    where
      on : (k : Bool) → same_var b.0 x ≡ k → is_named frames b.0.frame ≡ true → times_bound x bs ≡ 0 → cond k 1 0 + times_bound x bs ≡ 0
      on true q m z = let w : true ≡ false = sym m ∙ ap (λ (v : Var). is_named frames v.frame) (same_var-equal b.0 x q) ∙ n in cc
      on false q m z = omega arith

-- where no variable of its frames is bound around it
alone_chain : (nodes : List Node) (ss : List Stored) (s : Stored) → stands_alone s ≡ true → IsSolvedChain nodes ss → ((x : Var) → is_named s.frames x.frame ≡ true → found_in (bindings_from ss) x ≡ None) → IsSolvedChain nodes (ss ++ s ∷ [])
alone_chain nodes ss s alone solved apart = older-chain nodes (ss ++ s ∷ []) (subst (LeadOlder nodes) (sym (from-last ss s)) older) (subst BindOnce (sym (from-last ss s)) (record { each = once }))
  where
    older : LeadOlder nodes (s.bindings ++ bindings_from ss)
    older = LeadOlder-append nodes s.bindings (bindings_from ss) (EachOlder-found nodes s.bindings (each_older s.frames nodes s.bindings None alone)) solved.older

    once : (x : Var) → times_bound x (s.bindings ++ bindings_from ss) ≤ 1
    once x = on (is_named s.frames x.frame) refl
      where
        both_times : times_bound x (s.bindings ++ bindings_from ss) ≡ times_bound x s.bindings + times_bound x (bindings_from ss)
        both_times = times-append x s.bindings (bindings_from ss)

        on : (k : Bool) → is_named s.frames x.frame ≡ k → times_bound x (s.bindings ++ bindings_from ss) ≤ 1
        on true q =
            let a : times_bound x (s.bindings ++ bindings_from ss) ≡ times_bound x s.bindings + times_bound x (bindings_from ss) = both_times in
            let z : times_bound x (bindings_from ss) ≡ 0 = times-none x (bindings_from ss) (apart x q) in
            let o : times_bound x s.bindings ≤ 1 = each_once s.frames s.bindings None alone x in
            omega arith
        on false q =
            let a : times_bound x (s.bindings ++ bindings_from ss) ≡ times_bound x s.bindings + times_bound x (bindings_from ss) = both_times in
            let z : times_bound x s.bindings ≡ 0 = other_frame s.frames s.bindings None alone x q in
            let o : times_bound x (bindings_from ss) ≤ 1 = solved.once.each x in
            omega arith

-- solved stores that stand for equations over variables from outside of some frames bind no variable of these
module _ (nodes : List Node) (ss : List Stored) (E : Equations) (outer : List Name) (over : TellsOver (IsOutside outer) E) (stands : StandFor (IsTold (told_in nodes ss)) (IsTold E)) (solved : IsSolvedChain nodes ss) where
  unbound : (x : Var) → IsLocal outer x → IsStructured E x → ⊥
  unbound x local (t, h, equal, head) = elim (kept_by (over_kept (IsOutside outer) E over) equal) [
    | inl r ↦ let z : None ≡ Some h = ap head_of r ∙ head in cc
    | inr r ↦ r.0 local
  ]

  told : StandFor (ToldBy nodes ss) (IsTold E)
  told = StandFor-on (told_stands nodes ss) stands

  consistent : IsConsistentBy (ToldBy nodes ss)
  consistent = form-consistent nodes (bindings_from ss) (ToldBy nodes ss) solved.form

  never : (x : Var) → IsLocal outer x → (t : Term) → found_in (bindings_from ss) x ≡ Some t → ⊥
  never x local t e =
      let equal : Equal (bindings_in nodes (bindings_from ss)) (variable x) (tree nodes t) = solved.form.follow (variable x) (tree nodes t) (bound (ap (option_map (tree nodes)) e)) in
      let same : SameTree (IsTold E) (tree nodes t) (variable x) = told.same_to consistent (tree nodes t) (variable x) (λ n. equal_same (bindings_in nodes (bindings_from ss)) n (tree nodes t) (variable x) (turned equal)) in
      let now : Equal E (tree nodes t) (variable x) = same_variable E (tree nodes t) x (unbound x local) same in
      elim (kept_by (over_kept (IsOutside outer) E over) now) [
        | inl r ↦ irreflexive x (solved.older.each x x t e r)
        | inr r ↦ r.1 local
      ]

  apart : (x : Var) → IsLocal outer x → found_in (bindings_from ss) x ≡ None
  apart x local = on (found_in (bindings_from ss) x) refl
    where
      on : (o : Option Term) → found_in (bindings_from ss) x ≡ o → found_in (bindings_from ss) x ≡ None
      on None e = e
      on (Some t) e = absurd (never x local t e)

  -- so a store of such frames that stands alone is solved with them
  pub alone_solved : (s : Stored) → ((x : Var) → IsLocal s.frames x → IsLocal outer x) → stands_alone s ≡ true → IsSolvedChain nodes (ss ++ s ∷ [])
  alone_solved s among alone = alone_chain nodes ss s alone solved (λ x named. apart x (among x (named_local s.frames x named)))

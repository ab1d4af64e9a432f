-- Increasing variables of one frame.
use Rattle.std.proofs.Common.{◌≡◌, ◌-◌, suc, List, [], ◌∷◌, ◌++◌, length, Some, None, Bool, true, false, cond, refl, sym, ap, subst, ◌∙◌, arith}
use Rattle.std.specs.Prelude.{slice_get, option_map, find}
use Rattle.std.specs.declared.cmp.Ordering.TheVariants.{Less, Equal}
use Rattle.std.specs.Map.{keys_of}
use Rattle.std.specs.List.{AllByRecursion}
use Rattle.std.specs.List.Sorted.{IsStrictlySortedBy}
use Rattle.std.proofs.lemmas.Cmp.{tied_itself}
use Rattle.akl_terms.specs.declared.name.Name.{Name}
use Rattle.akl_terms.specs.declared.name.Var.{Var}
use Rattle.akl_terms.specs.declared.term.Term.{Term}
use Rattle.akl_terms.specs.Names.{same_var, var_cmp}
use Rattle.akl_terms.proofs.SameNames.{same_var-equal}
use Rattle.constraint_laws.proofs.VariableOrder.{var_total}
use Rattle.rational_unify.specs.Known.{found_in}
use Rattle.local_store.specs.Chained.{BindNone}
use Rattle.plain_heads.specs.Plain.{AreOfNew, IsBehind}

-- all of a list and one more
pub all_more : {A : Type 0} (P : A → Type 0) (xs : List A) (x : A) → AllByRecursion P xs → P x → AllByRecursion P (xs ++ x ∷ [])
all_more P [] x h p = (p, tt)
all_more P (y ∷ xs) x h p = (h.0, all_more P xs x h.1 p)

-- what no binding is of isn't bound
none_found : (bs : List (Var × Term)) (x : Var) → AllByRecursion (λ (b : Var × Term). b.0 ≡ x → ⊥) bs → found_in bs x ≡ None
none_found [] x h = refl
none_found (b ∷ bs) x h = on (same_var b.0 x) refl (none_found bs x h.1)
  where
    on : (k : Bool) → same_var b.0 x ≡ k → found_in bs x ≡ None → option_map (λ (p : Var × Term). p.1) (cond k (Some b) (find (λ p. same_var p.0 x) bs)) ≡ None
    on true e r = absurd (h.0 (same_var-equal b.0 x e))
    on false e r = r

-- no variable of another frame is bound
pub other_frame : (bs : List (Var × Term)) (frame : Name) (x : Var) → AllByRecursion (λ (b : Var × Term). b.0.frame ≡ frame) bs → (x.frame ≡ frame → ⊥) → found_in bs x ≡ None
other_frame bs frame x h n = none_found bs x (all bs h)
  where
    all : (cs : List (Var × Term)) → AllByRecursion (λ (b : Var × Term). b.0.frame ≡ frame) cs → AllByRecursion (λ (b : Var × Term). b.0 ≡ x → ⊥) cs
    all [] h = tt
    all (b ∷ cs) h = (λ e. n (ap (λ (v : Var). v.frame) (sym e) ∙ h.0), all cs h.1)

-- where there is one of a frame's variables, no variable of it was bound
pub new_frame : (known bs : List (Var × Term)) (frame : Name) → (length bs ≡ 0 → ⊥) → AreOfNew known frame bs → BindNone known frame
new_frame known [] frame n h = absurd (n refl)
new_frame known (b ∷ bs) frame n h = h

pub of_new_more : (known bs : List (Var × Term)) (frame : Name) (b : Var × Term) → BindNone known frame → AreOfNew known frame (bs ++ b ∷ [])
of_new_more known [] frame b h = h
of_new_more known (c ∷ bs) frame b h = h

pub all_unbound : (known bs : List (Var × Term)) (frame : Name) → AllByRecursion (λ (b : Var × Term). b.0.frame ≡ frame) bs → AreOfNew known frame bs → AllByRecursion (λ (b : Var × Term). found_in known b.0 ≡ None) bs
all_unbound known [] frame own h = tt
all_unbound known (b ∷ bs) frame own h = all (b ∷ bs) own
  where
    all : (cs : List (Var × Term)) → AllByRecursion (λ (b : Var × Term). b.0.frame ≡ frame) cs → AllByRecursion (λ (b : Var × Term). found_in known b.0 ≡ None) cs
    all [] own = tt
    all (c ∷ cs) own = (h c.0 own.0, all cs own.1)

abbrev pub Below : Var → (Var × Term) → Type 0
Below v b = var_cmp b.0 v ≡ Less

-- behind the last variable is behind all
pub all_below : (bs : List (Var × Term)) (v : Var) → IsStrictlySortedBy var_cmp (keys_of bs) → IsBehind bs v → AllByRecursion (Below v) bs
unfolding IsStrictlySortedBy
all_below [] v s h = tt
all_below (b ∷ []) v s h = (h b refl, tt)
all_below (b ∷ c ∷ bs) v s h =
    let rest : AllByRecursion (Below v) (c ∷ bs) = all_below (c ∷ bs) v s.1 (λ d e. h d (ap (slice_get (b ∷ c ∷ bs)) (let n : length (b ∷ c ∷ bs) - 1 ≡ suc (length (c ∷ bs) - 1) = omega arith in n) ∙ e)) in
    (var_total.trans b.0 c.0 v s.0.0 rest.0, rest)

-- nothing is bound that is behind all
pub behind_unbound : (bs : List (Var × Term)) (v : Var) → AllByRecursion (Below v) bs → found_in bs v ≡ None
behind_unbound bs v h = none_found bs v (all bs h)
  where
    all : (cs : List (Var × Term)) → AllByRecursion (Below v) cs → AllByRecursion (λ (b : Var × Term). b.0 ≡ v → ⊥) cs
    all [] h = tt
    all (b ∷ cs) h = (λ e. let l : var_cmp b.0 v ≡ Less = h.0 in let m : var_cmp v v ≡ Less = subst (λ (x : Var). var_cmp x v ≡ Less) e l in let q : var_cmp v v ≡ Equal = tied_itself var_total v in cc, all cs h.1)

-- and such a one may come behind them
pub sorted_more : (bs : List (Var × Term)) (v : Var) (t : Term) → IsStrictlySortedBy var_cmp (keys_of bs) → AllByRecursion (Below v) bs → IsStrictlySortedBy var_cmp (keys_of (bs ++ (v, t) ∷ []))
unfolding IsStrictlySortedBy
sorted_more [] v t s h = (tt, tt)
sorted_more (b ∷ bs) v t s h = (front bs s.0, sorted_more bs v t s.1 h.1)
  where
    front : (cs : List (Var × Term)) → AllByRecursion (λ z. var_cmp b.0 z ≡ Less) (keys_of cs) → AllByRecursion (λ z. var_cmp b.0 z ≡ Less) (keys_of (cs ++ (v, t) ∷ []))
    front [] a = (h.0, tt)
    front (c ∷ cs) a = (a.0, front cs a.1)

pub sorted_none : IsStrictlySortedBy var_cmp (keys_of {X = Term} [])
unfolding IsStrictlySortedBy
sorted_none = tt

-- Variables that are met one by one.
use Rattle.std.proofs.Common.{◌≡◌, ℕ, suc, ◌+◌, List, [], ◌∷◌, ◌++◌, Option, Some, None, Bool, true, false, cond, length, refl, sym, ap, ◌∙◌, arith, ◌⊎◌, inl, inr}
use Rattle.std.proofs.Math.ListN.{set}
use Rattle.std.proofs.lemmas.Bool.Decides.{nat_tests}
use Rattle.std.proofs.lemmas.Iterator.Adapters.{position_from-zero}
use Rattle.std.specs.Prelude.{option_map, slice_get}
use Rattle.std.specs.List.{position, position_from}
use Rattle.std.specs.Map.{lookup}
use Rattle.akl_terms.specs.declared.name.Var.{Var}
use Rattle.akl_terms.specs.Names.{same_var}
use Rattle.akl_terms.proofs.Arguments.{same_value}
use Rattle.akl_terms.proofs.SameNames.{same_var-equal}

-- the place of the first entry of a variable
abbrev pub place_in : List (Var × Bool) → Var → Option ℕ
place_in [] v = None
place_in (m ∷ ms) v = cond (same_var m.0 v) (Some 0) (option_map suc (place_in ms v))

place_in-position : (ms : List (Var × Bool)) (v : Var) → place_in ms v ≡ position (λ m. same_var m.0 v) ms
place_in-position ms v = whole (place_in ms v) ∙ sym (from ms 0) ∙ sym (position_from-zero (λ (m : Var × Bool). same_var m.0 v) ms)
  where
    whole : (o : Option ℕ) → o ≡ option_map (λ i. 0 + i) o
    whole None = refl
    whole (Some i) = ap Some (omega arith)

    next : (n : ℕ) (k : Bool) (o : Option ℕ) → cond k (Some n) (option_map (λ i. n + 1 + i) o) ≡ option_map (λ i. n + i) (cond k (Some 0) (option_map suc o))
    next n true o = ap Some (omega arith)
    next n false None = refl
    next n false (Some i) = ap Some (omega arith)

    from : (ms : List (Var × Bool)) (n : ℕ) → position_from (λ (m : Var × Bool). same_var m.0 v) n ms ≡ option_map (λ i. n + i) (place_in ms v)
    from [] n = refl
    from (m ∷ ms) n = ap (cond (same_var m.0 v) (Some n)) (from ms (n + 1)) ∙ next n (same_var m.0 v) (place_in ms v)

-- a place that is sought in a list is that among its first entries
pub sought : (few list : List (Var × Bool)) (v : Var) (o p : Option ℕ) → list ≡ few → o ≡ position (λ m. same_var m.0 v) list → o ≡ p → place_in few v ≡ p
sought few list v o p e f g = place_in-position few v ∙ ap (λ (ms : List (Var × Bool)). position (λ m. same_var m.0 v) ms) (sym e) ∙ sym f ∙ g

pub no_entries : (ms : List (Var × Bool)) → length ms ≡ 0 → ms ≡ []
no_entries [] e = refl
no_entries (m ∷ ms) e = absurd (omega arith)

flip : (x y : Var) → same_var x y ≡ same_var y x
flip x y = grind (arith, nat_tests)

-- the first entry is the variable's, or its place is further on
place-cases : (m : Var × Bool) (ms : List (Var × Bool)) (v : Var) (i : ℕ) → place_in (m ∷ ms) v ≡ Some i
    → ((same_var m.0 v ≡ true) × (i ≡ 0)) ⊎ ((same_var m.0 v ≡ false) × ((j : ℕ) × ((place_in ms v ≡ Some j) × (i ≡ suc j))))
place-cases m ms v i e = on (same_var m.0 v) refl (place_in ms v) refl e
  where
    on : (k : Bool) → same_var m.0 v ≡ k → (o : Option ℕ) → place_in ms v ≡ o → cond k (Some 0) (option_map suc o) ≡ Some i
        → ((same_var m.0 v ≡ true) × (i ≡ 0)) ⊎ ((same_var m.0 v ≡ false) × ((j : ℕ) × ((place_in ms v ≡ Some j) × (i ≡ suc j))))
    on true p o q f = inl (p, same_value f refl)
    on false p None q f = cc
    on false p (Some j) q f = inr (p, (j, (q, same_value f refl)))

none-cases : (m : Var × Bool) (ms : List (Var × Bool)) (v : Var) → place_in (m ∷ ms) v ≡ None → (same_var m.0 v ≡ false) × (place_in ms v ≡ None)
none-cases m ms v e = on (same_var m.0 v) refl (place_in ms v) refl e
  where
    on : (k : Bool) → same_var m.0 v ≡ k → (o : Option ℕ) → place_in ms v ≡ o → cond k (Some 0) (option_map suc o) ≡ None → (same_var m.0 v ≡ false) × (place_in ms v ≡ None)
    on true p o q f = cc
    on false p None q f = (p, q)
    on false p (Some j) q f = cc

module _ (rest : List (Var × Bool)) (v : Var) where
  -- whether a variable was met again
  abbrev again : List (Var × Bool) → Var → Option Bool
  again few x = lookup (same_var x) (few ++ rest)

  -- of two entries that are apart either may come first
  apart : (m : Var × Bool) (o p : Option Bool) (x : Var) → same_var m.0 v ≡ false → cond (same_var x m.0) (Some m.1) (cond (same_var v x) o p) ≡ cond (same_var v x) o (cond (same_var x m.0) (Some m.1) p)
  apart m o p x other = on (same_var x m.0) refl (same_var v x) refl
    where
      on : (k : Bool) → same_var x m.0 ≡ k → (l : Bool) → same_var v x ≡ l → cond k (Some m.1) (cond l o p) ≡ cond l o (cond k (Some m.1) p)
      on true e true f =
          let z : same_var m.0 v ≡ true = flip m.0 v ∙ ap (same_var v) (sym (same_var-equal x m.0 e)) ∙ f in
          let n : true ≡ false = sym z ∙ other in
          cc
      on true e false f = refl
      on false e l f = refl

  -- a variable that stands among the few is found there
  pub met-here : (few : List (Var × Bool)) (i : ℕ) → place_in few v ≡ Some i → (m : Var × Bool) × (slice_get few i ≡ Some m) × (again few v ≡ Some m.1)
  met-here [] i e = cc
  met-here (m ∷ ms) i e = elim (place-cases m ms v i e) [
    | inl w ↦ (m, ap (slice_get (m ∷ ms)) w.1, ap (λ k. cond k (Some m.1) (again ms v)) (flip v m.0 ∙ w.0))
    | inr w ↦ (
      (met-here ms w.1.0 w.1.1.0).0,
      ap (slice_get (m ∷ ms)) w.1.1.1 ∙ (met-here ms w.1.0 w.1.1.0).1,
      ap (λ k. cond k (Some m.1) (again ms v)) (flip v m.0 ∙ w.0) ∙ (met-here ms w.1.0 w.1.1.0).2,
    )
  ]

  -- one that doesn't stands in the rest, or nowhere
  pub met-there : (few : List (Var × Bool)) → place_in few v ≡ None → again few v ≡ lookup (same_var v) rest
  met-there [] e = refl
  met-there (m ∷ ms) e = ap (λ k. cond k (Some m.1) (again ms v)) (flip v m.0 ∙ (none-cases m ms v e).0) ∙ met-there ms (none-cases m ms v e).1

  -- it is met again among the few
  pub again-here : (few : List (Var × Bool)) (i : ℕ) → place_in few v ≡ Some i → (x : Var) → again (set few i (v, true)) x ≡ cond (same_var v x) (Some true) (again few x)
  again-here [] i e x = cc
  again-here (m ∷ ms) i e x = elim (place-cases m ms v i e) [
    | inl w ↦ rw w.1 (ap (λ k. cond k (Some true) (again ms x)) (flip x v) ∙ twice (same_var v x)
        ∙ ap (λ k. cond (same_var v x) (Some true) (cond k (Some m.1) (again ms x))) (flip v x ∙ ap (same_var x) (sym (same_var-equal m.0 v w.0))))
    | inr w ↦ rw w.1.1.1 (ap (cond (same_var x m.0) (Some m.1)) (again-here ms w.1.0 w.1.1.0 x) ∙ apart m (Some true) (again ms x) x w.0)
  ]
    where
      twice : (k : Bool) → cond k (Some true) (again ms x) ≡ cond k (Some true) (cond k (Some m.1) (again ms x))
      twice true = refl
      twice false = refl

  -- it is met behind the few
  pub met-behind : (new : List (Var × Bool)) (o : Option Bool) → ((x : Var) → lookup (same_var x) new ≡ cond (same_var v x) o (lookup (same_var x) rest)) → (few : List (Var × Bool)) → place_in few v ≡ None
      → (x : Var) → lookup (same_var x) (few ++ new) ≡ cond (same_var v x) o (again few x)
  met-behind new o h [] e x = h x
  met-behind new o h (m ∷ ms) e x = ap (cond (same_var x m.0) (Some m.1)) (met-behind new o h ms (none-cases m ms v e).1 x) ∙ apart m o (again ms x) x (none-cases m ms v e).0

  -- it comes as the last of the few
  pub met-last : (b : Bool) (few : List (Var × Bool)) → place_in few v ≡ None → (x : Var) → again (few ++ (v, b) ∷ []) x ≡ cond (same_var v x) (Some b) (again few x)
  met-last b [] e x = ap (λ k. cond k (Some b) (lookup (same_var x) rest)) (flip x v)
  met-last b (m ∷ ms) e x = ap (cond (same_var x m.0) (Some m.1)) (met-last b ms (none-cases m ms v e).1 x) ∙ apart m (Some b) (again ms x) x (none-cases m ms v e).0

-- Entries by names, and sets of names.
use Rattle.std.proofs.Common.{◌≡◌, Bool, true, false, List, [], ◌∷◌, Option, Some, None, refl, sym, ap, subst, ◌∙◌}
use Rattle.std.specs.Prelude.{if◌then◌else◌, option_map, cond, IsSome}
use Rattle.std.specs.List.{AllByRecursion}
use Rattle.std.specs.List.Sorted.{IsStrictlySortedBy}
use Rattle.std.specs.Map.{lookup, keys_of}
use Rattle.std.specs.Set.{remove_key}
use Rattle.std.specs.BTreeMap.{is_at, insert_entry}
use Rattle.std.specs.Ordering.{is_eq, match_ordering}
use Rattle.std.specs.declared.cmp.Ordering.{Ordering}
use Rattle.akl_terms.specs.declared.name.Name.{Name}
use Rattle.akl_terms.specs.contracts.name.NameOrd.TheImpl.{cmp-value}
use Rattle.akl_terms.specs.Names.{same_name, name_cmp}
use Rattle.akl_terms.proofs.SameNames.{same_name-equal, same_name-refl}
use Rattle.akl_model.proofs.Options.{some_value}
use Rattle.name_map.specs.Entries.{Finds, IsPut}
use Rattle.name_map.proofs.NameOrder.{name_is}
use Rattle.table_laws.specs.Writes.{set, less_name}

pub same_is : (m k : Name) → is_at (cmp-value.it m) k ≡ same_name m k
same_is m k = name_is m k

row_if : {A B : Type 0} (f : A → B) (here : Bool) (x y : Option A) → option_map f (if here then x else y) ≡ (if here then option_map f x else option_map f y)
row_if f true x y = refl
row_if f false x y = refl

module _ {X Y : Type 0} (f : X → Y) (n : Name) (old new : List (Name × X)) where
  -- what a change of one name's entry leaves in rows
  pub updated : (w : Option X) → Finds old new n w → (m : Name)
      → option_map f (lookup (same_name m) new) ≡ set n (option_map f w) (λ q. option_map f (lookup (same_name q) old)) m
  updated w finds m = ap (option_map f) (finds m) ∙ row_if f (same_name m n) w (lookup (same_name m) old)

  -- a row that is written through its entry
  pub written : (change : Y → Y) (x y : X) → lookup (same_name n) old ≡ Some x → Finds old new n (Some y) → f y ≡ change (f x) → (m : Name)
      → option_map f (lookup (same_name m) new) ≡ set n (option_map change (option_map f (lookup (same_name n) old))) (λ q. option_map f (lookup (same_name q) old)) m
  written change x y here finds row m =
      let e : Some (f y) ≡ option_map change (option_map f (lookup (same_name n) old)) = ap (λ (r : Y). Some r) row ∙ ap (λ (o : Option X). option_map change (option_map f o)) (sym here) in
      updated (Some y) finds m ∙ ap (λ (o : Option Y). set n o (λ q. option_map f (lookup (same_name q) old)) m) e

  -- where a name has no entry, writing through it changes nothing
  pub unwritten : (change : Y → Y) → lookup (same_name n) old ≡ None → new ≡ old → (m : Name)
      → option_map f (lookup (same_name m) new) ≡ set n (option_map change (option_map f (lookup (same_name n) old))) (λ q. option_map f (lookup (same_name q) old)) m
  unwritten change none same m = ap (λ (es : List (Name × X)). option_map f (lookup (same_name m) es)) same ∙ on (same_name m n) refl none
    where
      on : (b : Bool) → same_name m n ≡ b → lookup (same_name n) old ≡ None
          → option_map f (lookup (same_name m) old) ≡ (if b then option_map change (option_map f (lookup (same_name n) old)) else option_map f (lookup (same_name m) old))
      on false e h = refl
      on true e h = ap (λ (k : Name). option_map f (lookup (same_name k) old)) (same_name-equal m n e) ∙ ap (option_map f) h ∙ sym (ap (λ (o : Option X). option_map change (option_map f o)) h)

-- what was put is found
pub put_there : {X : Type 0} (n : Name) (old new : List (Name × X)) (w : Option X) → Finds old new n w → lookup (same_name n) new ≡ w
put_there n old new w finds = finds n ∙ ap (λ (b : Bool). if b then w else lookup (same_name n) old) (same_name-refl n)

-- what holds where a value is there
pub is_some_if : {A : Type 0} (o : Option A) (x : A) → o ≡ Some x → IsSome o
is_some_if None x e = cc
is_some_if (Some y) x e = refl

pub removed_is : (g : Name) (ks : List Name) → remove_key (is_at (cmp-value.it g)) ks ≡ less_name g ks
removed_is g [] = refl
removed_is g (k ∷ ks) = on (is_at (cmp-value.it g) k) (same_name g k) (same_is g k) (removed_is g ks)
  where
    on : (a b : Bool) → a ≡ b → remove_key (is_at (cmp-value.it g)) ks ≡ less_name g ks → cond a ks (k ∷ remove_key (is_at (cmp-value.it g)) ks) ≡ (if b then ks else k ∷ less_name g ks)
    on true true e f = refl
    on false false e f = ap (λ (x : List Name). k ∷ x) f
    on true false e f = cc
    on false true e f = cc

-- what a search in a map finds
pub found_at : {X : Type 0} (n : Name) (inside seen : List (Name × X)) (e : X) → inside ≡ seen → Some e ≡ lookup (same_name n) inside → lookup (same_name n) seen ≡ Some e
found_at n inside seen e same is = ap (lookup (same_name n)) (sym same) ∙ sym is

none_before : {X : Type 0} (n : Name) (es : List (Name × X)) → AllByRecursion (λ (m : Name). name_cmp n m ≡ Ordering.Less) (keys_of es) → lookup (same_name n) es ≡ None
none_before n [] h = refl
none_before n (e ∷ es) h = on (same_name n e.0) (sym (same_is n e.0) ∙ ap is_eq h.0) (none_before n es h.1)
  where
    on : (b : Bool) → b ≡ false → lookup (same_name n) es ≡ None → cond b (Some e.1) (lookup (same_name n) es) ≡ None
    on true q k = cc
    on false q k = k

put_kept : {X : Type 0} (n : Name) (es : List (Name × X)) (x : X) → lookup (same_name n) es ≡ Some x → IsStrictlySortedBy name_cmp (keys_of (insert_entry name_cmp es n x)) → insert_entry name_cmp es n x ≡ es
unfolding IsStrictlySortedBy
put_kept n [] x e s = cc
put_kept n (d ∷ es) x e s = on (name_cmp n d.0) (same_name n d.0) (same_is n d.0) e s (put_kept n es x)
  where
    on : (o : Ordering) (b : Bool) → is_eq o ≡ b → cond b (Some d.1) (lookup (same_name n) es) ≡ Some x
        → IsStrictlySortedBy name_cmp (keys_of (match_ordering o ((n, x) ∷ d ∷ es) ((d.0, x) ∷ es) (d ∷ insert_entry name_cmp es n x)))
        → (lookup (same_name n) es ≡ Some x → IsStrictlySortedBy name_cmp (keys_of (insert_entry name_cmp es n x)) → insert_entry name_cmp es n x ≡ es)
        → match_ordering o ((n, x) ∷ d ∷ es) ((d.0, x) ∷ es) (d ∷ insert_entry name_cmp es n x) ≡ d ∷ es
    on Ordering.Less true q e s k = cc
    on Ordering.Less false q e s k = let z : lookup (same_name n) es ≡ None = none_before n es s.0.1 in cc
    on Ordering.Equal true q e s k = ap (λ v. (d.0, v) ∷ es) (sym (some_value e))
    on Ordering.Equal false q e s k = cc
    on Ordering.Greater true q e s k = cc
    on Ordering.Greater false q e s k = ap (λ (ys : List (Name × _)). d ∷ ys) (k e s.1)

-- a value that is put where it stands already
pub put_same : {X : Type 0} (n : Name) (old new : List (Name × X)) (x : X) → lookup (same_name n) old ≡ Some x → IsPut old new n x → new ≡ old
put_same n old new x here put = put.entries ∙ put_kept n old x here (subst (λ (es : List (Name × _)). IsStrictlySortedBy name_cmp (keys_of es)) put.entries put.ordered)

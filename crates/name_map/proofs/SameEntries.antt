-- Entries in order are known by what each name finds in them.
use Rattle.std.proofs.Common.{◌≡◌, Bool, true, false, cond, T, List, [], ◌∷◌, Option, Some, None, refl, sym, ap, subst, ◌∙◌}
use Rattle.std.specs.Prelude.{not, ◌&&◌}
use Rattle.std.specs.FinMap.Entries.{find, put, by_order, where_key, below_all, is_sorted, is_sorted-put, find-put, is_sorted-where_key, find-where_key, same_entries}
use Rattle.std.specs.Cmp.{tied_itself}
use Rattle.std.specs.Map.{lookup, remove_entry, keys_of}
use Rattle.std.specs.BTreeMap.{insert_entry}
use Rattle.std.specs.List.{AllByRecursion}
use Rattle.std.specs.List.Sorted.{IsStrictlySortedBy}
use Rattle.std.specs.Ordering.{is_lt, match_ordering}
use Rattle.std.specs.declared.cmp.Ordering.{Ordering}
use Rattle.std.specs.declared.cmp.Ordering.TheVariants.{Less, Equal, Greater}
use Rattle.akl_terms.specs.declared.name.Name.{Name}
use Rattle.akl_terms.specs.Names.{same_name, name_cmp}
use Rattle.akl_terms.proofs.SameNames.{same_name-equal}
use Rattle.name_map.specs.Entries.{Finds, IsPut, IsTakenOut}
use Rattle.name_map.proofs.NameOrder.{name_total, name_exact, name_is, name_back}

both : (a b : Bool) → T a → T b → T (a && b)
both true b p q = q
both false b p q = p

second : (a b : Bool) → T (a && b) → T b
second true b p = p
second false b p = absurd p

first : (a b : Bool) → T (a && b) → T a
first true b p = tt
first false b p = p

in_place : {A : Type 0} (o : Ordering) (x y z : A) → match_ordering o x y z ≡ by_order o x y z
in_place Less x y z = refl
in_place Equal x y z = refl
in_place Greater x y z = refl

not_below : (x : Name) → T (is_lt (name_cmp x x)) → ⊥
not_below x h = subst (λ (o : Ordering). T (is_lt o)) (tied_itself name_total x) h

module _ {V : Type 0} where
  find_is : (q : Name) (es : List (Name × V)) → find name_cmp q es ≡ lookup (same_name q) es
  find_is q [] = refl
  find_is q (e ∷ es) = λ i. cond (name_is q e.0 i) (Some e.1) (find_is q es i)

  put_is : (k : Name) (v : V) (es : List (Name × V)) → insert_entry name_cmp es k v ≡ put name_cmp k v es
  put_is k v [] = refl
  put_is k v (e ∷ es) =
      in_place (name_cmp k e.0) ((k, v) ∷ e ∷ es) ((e.0, v) ∷ es) (e ∷ insert_entry name_cmp es k v)
      ∙ ap (λ (fs : List (Name × V)). by_order (name_cmp k e.0) ((k, v) ∷ e ∷ es) ((e.0, v) ∷ es) (e ∷ fs)) (put_is k v es)

  is_below : (x : Name) (es : List (Name × V)) → AllByRecursion (λ y. name_cmp x y ≡ Less) (keys_of es) → T (below_all name_cmp x es)
  is_below x [] h = tt
  is_below x (e ∷ es) h = both _ _ (subst (λ (o : Ordering). T (is_lt o)) (sym h.0) tt) (is_below x es h.1)

  in_order : (es : List (Name × V)) → IsStrictlySortedBy name_cmp (keys_of es) → T (is_sorted name_cmp es)
  unfolding IsStrictlySortedBy
  in_order [] h = tt
  in_order (e ∷ es) h = both _ _ (is_below e.0 es h.0) (in_order es h.1)

  -- entries in order in which each name finds the same are the same
  pub same_from_finds : (es fs : List (Name × V)) → IsStrictlySortedBy name_cmp (keys_of es) → IsStrictlySortedBy name_cmp (keys_of fs)
      → ((m : Name) → lookup (same_name m) es ≡ lookup (same_name m) fs) → es ≡ fs
  same_from_finds es fs g h is = same_entries name_cmp name_total name_exact es fs (in_order es g) (in_order fs h) (λ q. find_is q es ∙ is q ∙ sym (find_is q fs))

  pub put_from_finds : (old new : List (Name × V)) (k : Name) (v : V) → IsStrictlySortedBy name_cmp (keys_of old) → IsStrictlySortedBy name_cmp (keys_of new)
      → Finds old new k (Some v) → IsPut old new k v
  put_from_finds old new k v g h is = record { entries = same ∙ sym (put_is k v old); ordered = h; finds = is }
    where
      same : new ≡ put name_cmp k v old
      same = same_entries name_cmp name_total name_exact new (put name_cmp k v old) (in_order new h) (is_sorted-put name_cmp name_total k v old (in_order old g))
          (λ q. find_is q new ∙ is q ∙ (λ i. cond (sym (name_is q k) i) (Some v) (sym (find_is q old) i)) ∙ sym (find-put name_cmp name_total q k v old))

  others : (k x : Name) (es : List (Name × V)) → same_name k x ≡ true → T (below_all name_cmp x es) → where_key name_cmp (λ y. not (same_name k y)) es ≡ es
  others k x [] e h = refl
  others k x (f ∷ es) e h = on (others k x es e (second _ _ h)) (same_name k f.0) refl
    where
      keep : List (Name × V) → List (Name × V)
      keep fs = where_key name_cmp (λ y. not (same_name k y)) fs

      on : keep es ≡ es → (b : Bool) → same_name k f.0 ≡ b → cond (not b) (f ∷ keep es) (keep es) ≡ f ∷ es
      on rest false p = ap (λ (fs : List (Name × V)). f ∷ fs) rest
      on rest true p =
          let here : x ≡ f.0 = sym (same_name-equal k x e) ∙ same_name-equal k f.0 p in
          absurd (not_below x (subst (λ (m : Name). T (is_lt (name_cmp x m))) (sym here) (first _ _ h)))

  removed_is : (k : Name) (es : List (Name × V)) → T (is_sorted name_cmp es) → remove_entry (same_name k) es ≡ where_key name_cmp (λ y. not (same_name k y)) es
  removed_is k [] h = refl
  removed_is k (e ∷ es) h = on (removed_is k es (second _ _ h)) (same_name k e.0) refl
    where
      keep : List (Name × V)
      keep = where_key name_cmp (λ y. not (same_name k y)) es

      on : remove_entry (same_name k) es ≡ keep → (b : Bool) → same_name k e.0 ≡ b → cond b es (e ∷ remove_entry (same_name k) es) ≡ cond (not b) (e ∷ keep) keep
      on rest true p = sym (others k e.0 es p (first _ _ h))
      on rest false p = ap (λ (fs : List (Name × V)). e ∷ fs) rest

  pub taken_from_finds : (old new : List (Name × V)) (k : Name) → IsStrictlySortedBy name_cmp (keys_of old) → IsStrictlySortedBy name_cmp (keys_of new)
      → Finds old new k None → IsTakenOut old new k
  taken_from_finds old new k g h is = record { entries = same ∙ sym (removed_is k old (in_order old g)); ordered = h; finds = is }
    where
      kept : Name → Bool
      kept y = not (same_name k y)

      alike : (q x : Name) → name_cmp q x ≡ Equal → kept x ≡ kept q
      alike q x e = ap kept (sym (name_exact q x e))

      turned : (b : Bool) (o : Option V) → cond b None o ≡ cond (not b) o None
      turned true o = refl
      turned false o = refl

      same : new ≡ where_key name_cmp kept old
      same = same_entries name_cmp name_total name_exact new (where_key name_cmp kept old) (in_order new h) (is_sorted-where_key name_cmp kept old (in_order old g))
          (λ q. find_is q new ∙ is q ∙ turned (same_name q k) (lookup (same_name q) old) ∙ (λ i. cond (not (name_back q k i)) (sym (find_is q old) i) None) ∙ sym (find-where_key name_cmp kept q (alike q) old))

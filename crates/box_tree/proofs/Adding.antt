-- Entries that come, and are taken out again.
use Rattle.std.proofs.Common.{◌≡◌, Bool, true, false, List, [], ◌∷◌, ◌++◌, Some, None, refl, sym, ap, ◌∙◌, ◌⊎◌, inl, inr}
use Rattle.std.specs.Prelude.{if◌then◌else◌, cond, ◌||◌}
use Rattle.std.specs.Map.{lookup, remove_entry}
use Rattle.std.specs.BTreeMap.{insert_entry}
use Rattle.std.specs.Ordering.{is_eq, match_ordering}
use Rattle.std.specs.declared.cmp.Ordering.{Ordering}
use Rattle.akl_terms.specs.declared.name.Name.{Name}
use Rattle.akl_terms.specs.Names.{same_name, name_cmp}
use Rattle.akl_terms.proofs.SameNames.{same_name-equal, same_name-refl}
use Rattle.akl_model.specs.Config.{IsIn}
use Rattle.name_map.specs.Entries.{Finds, IsPut, IsTakenOut}
use Rattle.box_tree.specs.declared.entries.BoxEntry.{BoxEntry}
use Rattle.box_tree.specs.declared.entries.GoalEntry.{GoalEntry}
use Rattle.box_tree.specs.Tables.{TableValue}
use Rattle.box_tree.specs.Edits.{is_among, without, AddsOnly, Clears}
use Rattle.box_tree.proofs.Maps.{same_is, put_there}

skip : {A : Type 0} (b : Bool) (x y : A) → b ≡ true → (if b then x else y) ≡ x
skip true x y e = refl
skip false x y e = cc

pub among_in : (m : Name) (ns : List Name) → IsIn m ns → is_among m ns ≡ true
among_in m [] i = absurd i
among_in m (n ∷ ns) (inl e) = ap (λ (b : Bool). b || is_among m ns) (ap (same_name m) (sym e) ∙ same_name-refl m)
among_in m (n ∷ ns) (inr i) = on (same_name m n) (among_in m ns i)
  where
    on : (b : Bool) → is_among m ns ≡ true → (b || is_among m ns) ≡ true
    on true e = refl
    on false e = e

pub in_among : (m : Name) (ns : List Name) → is_among m ns ≡ true → IsIn m ns
in_among m [] e = cc
in_among m (n ∷ ns) e = on (same_name m n) refl e (λ h. in_among m ns h)
  where
    on : (b : Bool) → same_name m n ≡ b → (b || is_among m ns) ≡ true → (is_among m ns ≡ true → IsIn m ns) → IsIn m (n ∷ ns)
    on true r e k = inl (same_name-equal m n r)
    on false r e k = inr (k e)

module _ {A : Type 0} (names : List Name) where
  pub without_insert : (es : List (Name × A)) (k : Name) (v : A) → is_among k names ≡ true → without names (insert_entry name_cmp es k v) ≡ without names es
  without_insert [] k v i = skip (is_among k names) [] ((k, v) ∷ []) i
  without_insert (e ∷ es) k v i = on (name_cmp k e.0) (same_is k e.0) (without_insert es k v i)
    where
      on : (o : Ordering) → is_eq o ≡ same_name k e.0 → without names (insert_entry name_cmp es k v) ≡ without names es
          → without names (match_ordering o ((k, v) ∷ e ∷ es) ((e.0, v) ∷ es) (e ∷ insert_entry name_cmp es k v)) ≡ without names (e ∷ es)
      on Ordering.Less q h = skip (is_among k names) (without names (e ∷ es)) ((k, v) ∷ without names (e ∷ es)) i
      on Ordering.Equal q h =
          let w : is_among e.0 names ≡ true = ap (λ (n : Name). is_among n names) (sym (same_name-equal k e.0 (sym q))) ∙ i in
          skip (is_among e.0 names) (without names es) ((e.0, v) ∷ without names es) w ∙ sym (skip (is_among e.0 names) (without names es) (e ∷ without names es) w)
      on Ordering.Greater q h = ap (λ (x : List (Name × A)). if is_among e.0 names then x else e ∷ x) h

  pub without_remove : (es : List (Name × A)) (k : Name) → is_among k names ≡ true → without names (remove_entry (same_name k) es) ≡ without names es
  without_remove [] k i = refl
  without_remove (e ∷ es) k i = on (same_name k e.0) refl (without_remove es k i)
    where
      on : (b : Bool) → same_name k e.0 ≡ b → without names (remove_entry (same_name k) es) ≡ without names es
          → without names (cond b es (e ∷ remove_entry (same_name k) es)) ≡ without names (e ∷ es)
      on true q h =
          let w : is_among e.0 names ≡ true = ap (λ (n : Name). is_among n names) (sym (same_name-equal k e.0 q)) ∙ i in
          sym (skip (is_among e.0 names) (without names es) (e ∷ without names es) w)
      on false q h = ap (λ (x : List (Name × A)). if is_among e.0 names then x else e ∷ x) h

  -- where none of the names is there
  pub without_absent : (es : List (Name × A)) → ((m : Name) → IsIn m names → lookup (same_name m) es ≡ None) → without names es ≡ es
  without_absent [] h = refl
  without_absent (e ∷ es) h = on (is_among e.0 names) refl (without_absent es (λ m i. less m (same_name m e.0) (h m i)))
    where
      there : IsIn e.0 names → ⊥
      there i = let z : lookup (same_name e.0) (e ∷ es) ≡ None = h e.0 i in let s : cond (same_name e.0 e.0) (Some e.1) (lookup (same_name e.0) es) ≡ Some e.1 = ap (λ (b : Bool). cond b (Some e.1) (lookup (same_name e.0) es)) (same_name-refl e.0) in cc

      less : (m : Name) (b : Bool) → cond b (Some e.1) (lookup (same_name m) es) ≡ None → lookup (same_name m) es ≡ None
      less m true z = cc
      less m false z = z

      on : (b : Bool) → is_among e.0 names ≡ b → without names es ≡ es → (if b then without names es else e ∷ without names es) ≡ e ∷ es
      on true r k = absurd (there (in_among e.0 names r))
      on false r k = ap (λ (x : List (Name × A)). e ∷ x) k

pub adds_nothing : (t : TableValue) (own : List Name) → AddsOnly t t own
adds_nothing t own = record { boxes = λ names h. refl; goals = λ names h. refl; rest = refl }

pub adds_then : (t u v : TableValue) (own some : List Name) → AddsOnly t u own → AddsOnly u v some → ((m : Name) → IsIn m some → IsIn m own) → AddsOnly t v own
adds_then t u v own some a b sub = record {
  boxes = λ names h. b.boxes names (λ m i. h m (sub m i)) ∙ a.boxes names h;
  goals = λ names h. b.goals names (λ m i. h m (sub m i)) ∙ a.goals names h;
  rest = b.rest ∙ ap (λ (x : TableValue). record x { boxes = v.boxes; goals = v.goals }) a.rest;
}

-- only these names of a longer list
pub adds_more : (t u : TableValue) (own all : List Name) → AddsOnly t u own → ((m : Name) → IsIn m own → IsIn m all) → AddsOnly t u all
adds_more t u own all a sub = adds_then t t u all own (adds_nothing t all) a sub

pub adds_box : (t : TableValue) (n : Name) (boxes : List (Name × BoxEntry)) (e : BoxEntry) → IsPut t.boxes boxes n e → AddsOnly t (record t { boxes = boxes }) (n ∷ [])
adds_box t n boxes e put = record {
  boxes = λ names h. ap (without names) put.entries ∙ without_insert names t.boxes n e (among_in n names (h n (inl refl)));
  goals = λ names h. refl;
  rest = refl;
}

pub adds_goal : (t : TableValue) (g : Name) (goals : List (Name × GoalEntry)) (e : GoalEntry) → IsPut t.goals goals g e → AddsOnly t (record t { goals = goals }) (g ∷ [])
adds_goal t g goals e put = record {
  boxes = λ names h. refl;
  goals = λ names h. ap (without names) put.entries ∙ without_insert names t.goals g e (among_in g names (h g (inl refl)));
  rest = refl;
}

-- names whose entries go

pub in_end : (m n : Name) (ns : List Name) → IsIn m (ns ++ n ∷ []) → IsIn m ns ⊎ IsIn m (n ∷ [])
in_end m n [] i = inr i
in_end m n (k ∷ ns) (inl e) = inl (inl e)
in_end m n (k ∷ ns) (inr i) = on (in_end m n ns i)
  where
    on : IsIn m ns ⊎ IsIn m (n ∷ []) → IsIn m (k ∷ ns) ⊎ IsIn m (n ∷ [])
    on (inl j) = inl (inr j)
    on (inr j) = inr j

pub in_front : (m n : Name) (ns : List Name) → IsIn m ns → IsIn m (ns ++ n ∷ [])
in_front m n [] i = absurd i
in_front m n (k ∷ ns) (inl e) = inl e
in_front m n (k ∷ ns) (inr i) = inr (in_front m n ns i)

pub in_last : (m n : Name) (ns : List Name) → IsIn m (n ∷ []) → IsIn m (ns ++ n ∷ [])
in_last m n [] i = i
in_last m n (k ∷ ns) i = inr (in_last m n ns i)

pub clears_nothing : (t : TableValue) → Clears t t []
clears_nothing t = record { only = adds_nothing t []; boxes = λ m i. absurd i; boxes_stay = λ m e. e; goals = λ m i. absurd i; goals_stay = λ m e. e }

pub clears_then : (t u v : TableValue) (ns : List Name) (n : Name) → Clears t u ns → Clears u v (n ∷ []) → Clears t v (ns ++ n ∷ [])
clears_then t u v ns n a b = record {
  only = adds_then t u v (ns ++ n ∷ []) (n ∷ []) (adds_more t u ns (ns ++ n ∷ []) a.only (λ m i. in_front m n ns i)) b.only (λ m i. in_last m n ns i);
  boxes = λ m i. on_boxes m (in_end m n ns i);
  boxes_stay = λ m e. b.boxes_stay m (a.boxes_stay m e);
  goals = λ m i. on_goals m (in_end m n ns i);
  goals_stay = λ m e. b.goals_stay m (a.goals_stay m e);
}
  where
    on_boxes : (m : Name) → IsIn m ns ⊎ IsIn m (n ∷ []) → lookup (same_name m) v.boxes ≡ None
    on_boxes m (inl i) = b.boxes_stay m (a.boxes m i)
    on_boxes m (inr i) = b.boxes m i

    on_goals : (m : Name) → IsIn m ns ⊎ IsIn m (n ∷ []) → lookup (same_name m) v.goals ≡ None
    on_goals m (inl i) = b.goals_stay m (a.goals m i)
    on_goals m (inr i) = b.goals m i

-- an entry of each map goes
module _ {A : Type 0} (n : Name) (old new : List (Name × A)) (finds : Finds old new n None) where
  none_here : (m : Name) → IsIn m (n ∷ []) → lookup (same_name m) new ≡ None
  none_here m (inl e) = ap (λ (k : Name). lookup (same_name k) new) e ∙ put_there n old new None finds
  none_here m (inr i) = absurd i

  none_still : (m : Name) → lookup (same_name m) old ≡ None → lookup (same_name m) new ≡ None
  none_still m e = finds m ∙ on (same_name m n) e
    where
      on : (b : Bool) → lookup (same_name m) old ≡ None → (if b then None else lookup (same_name m) old) ≡ None
      on true e = refl
      on false e = e

pub clears_one : (t : TableValue) (n : Name) (boxes : List (Name × BoxEntry)) (goals : List (Name × GoalEntry)) → IsTakenOut t.boxes boxes n → IsTakenOut t.goals goals n
    → Clears t (record t { boxes = boxes; goals = goals }) (n ∷ [])
clears_one t n boxes goals out gone = record {
  only = record {
    boxes = λ names h. ap (without names) out.entries ∙ without_remove names t.boxes n (among_in n names (h n (inl refl)));
    goals = λ names h. ap (without names) gone.entries ∙ without_remove names t.goals n (among_in n names (h n (inl refl)));
    rest = refl;
  };
  boxes = none_here n t.boxes boxes out.finds;
  boxes_stay = none_still n t.boxes boxes out.finds;
  goals = none_here n t.goals goals gone.finds;
  goals_stay = none_still n t.goals goals gone.finds;
}

-- what came and was taken out again leaves all as it was
pub undone : (t u v : TableValue) (own : List Name) → AddsOnly t u own → Clears u v own → ((m : Name) → IsIn m own → lookup (same_name m) t.boxes ≡ None) → ((m : Name) → IsIn m own → lookup (same_name m) t.goals ≡ None) → v ≡ t
undone t u v own a b no_box no_goal =
    let x : v.boxes ≡ t.boxes = sym (without_absent own v.boxes b.boxes) ∙ b.only.boxes own (λ m i. i) ∙ a.boxes own (λ m i. i) ∙ without_absent own t.boxes no_box in
    let y : v.goals ≡ t.goals = sym (without_absent own v.goals b.goals) ∙ b.only.goals own (λ m i. i) ∙ a.goals own (λ m i. i) ∙ without_absent own t.goals no_goal in
    let z : v ≡ record t { boxes = v.boxes; goals = v.goals } = b.only.rest ∙ ap (λ (k : TableValue). record k { boxes = v.boxes; goals = v.goals }) a.rest in
    z ∙ (λ i. record t { boxes = x i; goals = y i })

-- The places that wait on variables, when those of one variable change.
use Rattle.std.proofs.Common.{◌≡◌, length, Bool, true, false, List, [], ◌∷◌, Option, Some, None, refl, sym, ap, ◌∙◌, arith}
use Rattle.std.specs.Prelude.{cond, if◌then◌else◌, ◌||◌, ◌&&◌, not, option_map, IsSome}
use Rattle.std.specs.Result.{OnErr, OnOk, is_err}
use Rattle.std.specs.declared.result.Result.{Result}
use Rattle.std.specs.declared.result.Result.TheVariants.{Ok, Err}
use Rattle.std.specs.List.{list_any}
use Rattle.std.specs.Map.{lookup}
use Rattle.std.specs.BTreeMap.{BTreeMap, is_at}
use Rattle.std.specs.BTreeMap as map
use Rattle.std.specs.BTreeSet.{BTreeSet, contains}
use Rattle.std.specs.declared.cmp.Reverse.{Reverse}
use Rattle.akl_terms.specs.declared.name.Var.{Var}
use Rattle.akl_terms.specs.declared.name.Place.{Place}
use Rattle.akl_terms.specs.contracts.name.PlaceOrd.TheImpl as places
use Rattle.akl_terms.specs.Names.{same_var}
use Rattle.akl_terms.proofs.SameNames.{same_var-equal}
use Rattle.wake_lists.specs.Waits.{same_place, is_variable_key, listed, waits_on, places_at, waits_of}
use Rattle.wake_lists.proofs.Keys.{place_is, place_back, variable_back, key, variables_back, variable_key_is}
use Rattle.wake_lists.proofs.Growing as growing

-- the place is in a set, where there is one
abbrev pub on_set : Place → Option (BTreeSet Place) → Bool
on_set p None = false
on_set p (Some s) = list_any (same_place p) s.keys

pub waits_is : (es : List (Reverse Var × BTreeSet Place)) (p : Place) (x : Var) → waits_on (waits_of es) p x ≡ on_set p (lookup (is_variable_key x) es)
waits_is [] p x = refl
waits_is (e ∷ es) p x = on (same_var x e.0.0) (waits_is es p x)
  where
    on : (s : Bool) → waits_on (waits_of es) p x ≡ on_set p (lookup (is_variable_key x) es)
        → list_any (same_place p) (listed (cond s (Some e.1.keys) (lookup (same_var x) (waits_of es)))) ≡ on_set p (cond s (Some e.1) (lookup (is_variable_key x) es))
    on true r = refl
    on false r = r

known_is : (x : Var) (t : BTreeMap (Reverse Var) (BTreeSet Place)) → map.get variables_back t (key x) ≡ lookup (is_variable_key x) t.entries
known_is x t = λ i. lookup (λ k. variable_key_is (key x) k i) t.entries

pub has_is : (p : Place) (s : BTreeSet Place) → contains places.cmp-value.it s p ≡ list_any (same_place p) s.keys
has_is p s = λ i. list_any (λ k. place_is p k i) s.keys

placed_is : (es : List (Reverse Var × BTreeSet Place)) (x : Var) → places_at x (waits_of es) ≡ listed (option_map (λ (s : BTreeSet Place). s.keys) (lookup (is_variable_key x) es))
placed_is [] x = refl
placed_is (e ∷ es) x = on (same_var x e.0.0) (placed_is es x)
  where
    on : (s : Bool) → places_at x (waits_of es) ≡ listed (option_map (λ (s : BTreeSet Place). s.keys) (lookup (is_variable_key x) es))
        → listed (cond s (Some e.1.keys) (lookup (same_var x) (waits_of es))) ≡ listed (option_map (λ (s : BTreeSet Place). s.keys) (cond s (Some e.1) (lookup (is_variable_key x) es)))
    on true r = refl
    on false r = r

-- what a search for a variable says
module _ (v : Var) (t : BTreeMap (Reverse Var) (BTreeSet Place)) where
  pub places_are : (s : BTreeSet Place) → map.get variables_back t (key v) ≡ Some s → places_at v (waits_of t.entries) ≡ s.keys
  places_are s e = placed_is t.entries v ∙ ap (λ (o : Option (BTreeSet Place)). listed (option_map (λ (k : BTreeSet Place). k.keys) o)) (sym (known_is v t) ∙ e)

  pub places_none : map.get variables_back t (key v) ≡ None → places_at v (waits_of t.entries) ≡ []
  places_none e = placed_is t.entries v ∙ ap (λ (o : Option (BTreeSet Place)). listed (option_map (λ (k : BTreeSet Place). k.keys) o)) (sym (known_is v t) ∙ e)

  pub waits_are : (s : BTreeSet Place) → map.get variables_back t (key v) ≡ Some s → (p : Place) → waits_on (waits_of t.entries) p v ≡ contains places.cmp-value.it s p
  waits_are s e p = ap (list_any (same_place p)) (places_are s e) ∙ sym (has_is p s)

  pub waits_none : map.get variables_back t (key v) ≡ None → (p : Place) → waits_on (waits_of t.entries) p v ≡ false
  waits_none e p = ap (list_any (same_place p)) (places_none e)

  -- on a variable on which none waits, none waits less
  pub parted_none : map.get variables_back t (key v) ≡ None → (place : Place) (p : Place) (x : Var)
      → waits_on (waits_of t.entries) p x ≡ (waits_on (waits_of t.entries) p x && not (same_place p place && same_var x v))
  parted_none e place p x = on (same_var v x) refl
    where
      gone : (c : Bool) → false ≡ (false && c)
      gone c = refl

      other : (b c : Bool) → b ≡ (b && not (c && false))
      other true true = refl
      other true false = refl
      other false c = refl

      on : (s : Bool) → same_var v x ≡ s → waits_on (waits_of t.entries) p x ≡ (waits_on (waits_of t.entries) p x && not (same_place p place && same_var x v))
      on true f =
          let same : v ≡ x = same_var-equal v x f in
          let none : waits_on (waits_of t.entries) p x ≡ false = ap (waits_on (waits_of t.entries) p) (sym same) ∙ waits_none e p in
          none ∙ ap (λ (b : Bool). b && not (same_place p place && same_var x v)) (sym none)
      on false f = other (waits_on (waits_of t.entries) p x) (same_place p place) ∙ (λ i. waits_on (waits_of t.entries) p x && not (same_place p place && (sym (variable_back x v ∙ f)) i))

-- the places of one variable become others
module _ (v : Var) (t u : BTreeMap (Reverse Var) (BTreeSet Place)) (w : Option (BTreeSet Place))
    (puts : (q : Reverse Var) → map.get variables_back u q ≡ cond (is_at (variables_back (key v)) q) w (map.get variables_back t q)) where
  changed : (p : Place) (x : Var) → waits_on (waits_of u.entries) p x ≡ (if same_var v x then on_set p w else waits_on (waits_of t.entries) p x)
  changed p x =
      waits_is u.entries p x ∙ ap (on_set p) (sym (known_is x u) ∙ puts (key x) ∙ (λ i. cond (variable_key_is (key v) (key x) i) w (known_is x t i))) ∙ on (same_var v x)
    where
      on : (s : Bool) → on_set p (cond s w (lookup (is_variable_key x) t.entries)) ≡ (if s then on_set p w else waits_on (waits_of t.entries) p x)
      on true = refl
      on false = sym (waits_is t.entries p x)

  -- the same wait
  pub unmoved : ((p : Place) → on_set p w ≡ waits_on (waits_of t.entries) p v) → (p : Place) (x : Var) → waits_on (waits_of u.entries) p x ≡ waits_on (waits_of t.entries) p x
  unmoved h p x = changed p x ∙ on (same_var v x) refl
    where
      on : (s : Bool) → same_var v x ≡ s → (if s then on_set p w else waits_on (waits_of t.entries) p x) ≡ waits_on (waits_of t.entries) p x
      on true e = h p ∙ ap (waits_on (waits_of t.entries) p) (same_var-equal v x e)
      on false e = refl

  -- one more waits
  pub joined : (place : Place) → ((p : Place) → on_set p w ≡ (same_place place p || waits_on (waits_of t.entries) p v))
      → (p : Place) (x : Var) → waits_on (waits_of u.entries) p x ≡ (waits_on (waits_of t.entries) p x || (same_place p place && same_var x v))
  joined place h p x = changed p x ∙ on (same_var v x) refl
    where
      yes : (a b c : Bool) → a ≡ c → (a || b) ≡ (b || (c && true))
      yes true true true e = refl
      yes true false true e = refl
      yes false true false e = refl
      yes false false false e = refl
      yes true b false e = absurd (cc)
      yes false b true e = absurd (cc)

      no : (b c : Bool) → b ≡ (b || (c && false))
      no true c = refl
      no false true = refl
      no false false = refl

      on : (s : Bool) → same_var v x ≡ s → (if s then on_set p w else waits_on (waits_of t.entries) p x) ≡ (waits_on (waits_of t.entries) p x || (same_place p place && same_var x v))
      on true e =
          let same : v ≡ x = same_var-equal v x e in
          h p ∙ yes (same_place place p) (waits_on (waits_of t.entries) p v) (same_place p place) (place_back place p)
          ∙ (λ i. waits_on (waits_of t.entries) p (same i) || (same_place p place && (sym (variable_back x v ∙ e)) i))
      on false e = no (waits_on (waits_of t.entries) p x) (same_place p place) ∙ (λ i. waits_on (waits_of t.entries) p x || (same_place p place && (sym (variable_back x v ∙ e)) i))

  -- one waits no more
  pub parted : (place : Place) → ((p : Place) → on_set p w ≡ (not (same_place place p) && waits_on (waits_of t.entries) p v))
      → (p : Place) (x : Var) → waits_on (waits_of u.entries) p x ≡ (waits_on (waits_of t.entries) p x && not (same_place p place && same_var x v))
  parted place h p x = changed p x ∙ on (same_var v x) refl
    where
      yes : (a b c : Bool) → a ≡ c → (not a && b) ≡ (b && not (c && true))
      yes true true true e = refl
      yes true false true e = refl
      yes false true false e = refl
      yes false false false e = refl
      yes true b false e = absurd (cc)
      yes false b true e = absurd (cc)

      no : (b c : Bool) → b ≡ (b && not (c && false))
      no true true = refl
      no true false = refl
      no false c = refl

      on : (s : Bool) → same_var v x ≡ s → (if s then on_set p w else waits_on (waits_of t.entries) p x) ≡ (waits_on (waits_of t.entries) p x && not (same_place p place && same_var x v))
      on true e =
          let same : v ≡ x = same_var-equal v x e in
          h p ∙ yes (same_place place p) (waits_on (waits_of t.entries) p v) (same_place p place) (place_back place p)
          ∙ (λ i. waits_on (waits_of t.entries) p (same i) && not (same_place p place && (sym (variable_back x v ∙ e)) i))
      on false e = no (waits_on (waits_of t.entries) p x) (same_place p place) ∙ (λ i. waits_on (waits_of t.entries) p x && not (same_place p place && (sym (variable_back x v ∙ e)) i))

pub on_err : {T E P : Type 0} (r : Result T E) → P → OnErr r P
on_err (Ok x) p = tt
on_err (Err e) p = p

pub on_not_err : {T E P : Type 0} (r : Result T E) → OnOk r P → is_err r ≡ false → P
on_not_err (Ok x) p e = p
on_not_err (Err y) p e = absurd (cc)

pub is_some_if : {A : Type 0} (o : Option A) (x : A) → o ≡ Some x → IsSome o
is_some_if None x e = cc
is_some_if (Some y) x e = refl

pub no_keys : (s : BTreeSet Place) → length s.keys ≡ 0 → s.keys ≡ []
no_keys s e = on s.keys e
  where
    on : (ps : List Place) → length ps ≡ 0 → ps ≡ []
    on [] e = refl
    on (p ∷ ps) e = absurd (omega arith)

pub cond_twice : {A : Type 0} (s : Bool) (a b c : A) → cond s a (cond s b c) ≡ cond s a c
cond_twice true a b c = refl
cond_twice false a b c = refl

pub or_is : (a b : Bool) → cond a true b ≡ (a || b)
or_is true b = refl
or_is false b = refl

pub but_is : (a b : Bool) → cond a false b ≡ (not a && b)
but_is true b = refl
but_is false b = refl

module _ (place : Place) (xs : List Var) (old : List (Var × List Place)) where
  abbrev pub JoinedBy : List (Var × List Place) → List Var → Type 0
  JoinedBy ws ys = growing.JoinedBy (λ p. same_place p place) same_var xs (waits_on old) (waits_on ws) ys

  abbrev pub PartedBy : List (Var × List Place) → List Var → Type 0
  PartedBy ws ys = growing.PartedBy (λ p. same_place p place) same_var xs (waits_on old) (waits_on ws) ys

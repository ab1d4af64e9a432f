-- What is found of a frame and of a variable, in what is settled and in what was added last.
use Rattle.std.proofs.Common.{◌≡◌, ℕ, List, [], ◌∷◌, ◌++◌, Option, Some, None, Bool, true, false, cond, if◌then◌else◌, refl, sym, ap, subst, ◌∙◌}
use Rattle.std.specs.Prelude.{◌==◌, ◌||◌, ◌&&◌, find, option_map}
use Rattle.std.specs.Option.{option_or}
use Rattle.std.specs.Map.{keys_of, lookup}
use Rattle.std.specs.List.{AllByRecursion}
use Rattle.std.specs.List.Sorted.{IsStrictlySortedBy}
use Rattle.std.specs.Ordering.{is_eq, is_lt, match_ordering}
use Rattle.std.specs.declared.cmp.Ordering.{Ordering}
use Rattle.std.specs.declared.cmp.Ordering.TheVariants.{Less, Equal, Greater}
use Rattle.akl_terms.specs.declared.name.Name.{Name}
use Rattle.akl_terms.specs.declared.name.Var.{Var}
use Rattle.akl_terms.specs.declared.term.Term.{Term}
use Rattle.akl_terms.specs.Names.{same_name, same_var, name_cmp, var_cmp}
use Rattle.akl_terms.proofs.SameNames.{same_name-equal, same_var-equal}
use Rattle.constraint_laws.proofs.VariableOrder.{var_total, var_exact}
use Rattle.name_map.proofs.NameOrder.{name_exact, name_is, name_back}
use Rattle.rational_unify.specs.Known.{found_in}
use Rattle.rational_unify.proofs.Chains.{found-first, found-second}
use Rattle.local_store.specs.declared.frame_bindings.FrameBindings.{FrameBindings}
use Rattle.local_store.specs.Stored.{var_before, is_named, named, joined, joins, all_named}
use Rattle.local_store.specs.Kept.{found_at, bindings_at, owns, of_frame, frames_of, bindings_of, AreInOrder, IsKept}
use Rattle.local_store.proofs.EachLeads.{joined-all}
use Rattle.local_store.proofs.Orders.{var-same, Less-from_is_lt, Greater-from_less, Less-from_greater}
use Rattle.local_store.proofs.SettledFrames.{frames-above, later}

abbrev Entries : Type 0
Entries = List (Name × FrameBindings)

pub kept-nothing : IsKept []
unfolding IsStrictlySortedBy
kept-nothing = record { ordered = tt; bindings = tt }

none-named : (n : Name) (ns : List Name) → AllByRecursion (λ m. name_cmp n m ≡ Less) ns → is_named ns n ≡ false
none-named n [] h = refl
none-named n (m ∷ ns) h =
    let other : same_name m n ≡ false = name_back m n ∙ sym (name_is n m) ∙ ap is_eq h.0 in
    rw other (none-named n ns h.1)

-- whether a frame is one of the store's own
pub named-settled : (es : Entries) (n : Name) → IsStrictlySortedBy name_cmp (keys_of es) → is_named (frames_of es) n ≡ owns (lookup (same_name n) es)
unfolding IsStrictlySortedBy
named-settled [] n h = refl
named-settled (e ∷ es) n h = on (same_name n e.0) refl e.1.own refl (named-settled es n h.1)
  where
    on : (s : Bool) → same_name n e.0 ≡ s → (k : Bool) → e.1.own ≡ k → is_named (frames_of es) n ≡ owns (lookup (same_name n) es)
        → is_named (if k then e.0 ∷ frames_of es else frames_of es) n ≡ owns (cond s (Some e.1) (lookup (same_name n) es))
    on true q true p g = rw (name_back e.0 n ∙ q) (sym p)
    on true q false p g =
        none-named n (frames_of es) (frames-above n es (subst (λ (m : Name). AllByRecursion (λ k. name_cmp m k ≡ Less) (keys_of es)) (sym (same_name-equal n e.0 q)) h.0)) ∙ sym p
    on false q true p g = rw (name_back e.0 n ∙ q) g
    on false q false p g = g

pub or-turned : (a b : Bool) → (a || b) ≡ (b || a)
or-turned true true = refl
or-turned true false = refl
or-turned false true = refl
or-turned false false = refl

or-grouped : (a b c : Bool) → ((a || b) || c) ≡ (a || (b || c))
or-grouped true b c = refl
or-grouped false b c = refl

or-twice : (a b : Bool) → (a || b) ≡ ((a || b) || a)
or-twice true b = refl
or-twice false true = refl
or-twice false false = refl

one-more-named : (ns : List Name) (n m : Name) → is_named (named ns n) m ≡ (is_named ns m || same_name n m)
one-more-named [] n m = or-turned (same_name n m) false
one-more-named (k ∷ ns) n m = on (name_cmp n k) refl (one-more-named ns n m)
  where
    on : (o : Ordering) → name_cmp n k ≡ o → is_named (named ns n) m ≡ (is_named ns m || same_name n m)
        → is_named (match_ordering o (n ∷ k ∷ ns) (k ∷ ns) (k ∷ named ns n)) m ≡ ((same_name k m || is_named ns m) || same_name n m)
    on Less q g = or-turned (same_name n m) (same_name k m || is_named ns m)
    on Equal q g =
        let same : n ≡ k = name_exact n k q in
        or-twice (same_name k m) (is_named ns m) ∙ ap (λ (j : Name). (same_name k m || is_named ns m) || same_name j m) (sym same)
    on Greater q g = ap (λ (b : Bool). same_name k m || b) g ∙ sym (or-grouped (same_name k m) (is_named ns m) (same_name n m))

pub all-named : (ns ms : List Name) (m : Name) → is_named (all_named ns ms) m ≡ (is_named ns m || is_named ms m)
all-named ns [] m = or-turned false (is_named ns m)
all-named ns (n ∷ ms) m = all-named (named ns n) ms m ∙ ap (λ (b : Bool). b || is_named ms m) (one-more-named ns n m) ∙ or-grouped (is_named ns m) (same_name n m) (is_named ms m)

-- bindings of later variables alone
pub none-later : (x : Var) (bs : List (Var × Term)) → AllByRecursion (λ b. var_cmp x b.0 ≡ Less) bs → found_in bs x ≡ None
none-later x [] h = refl
none-later x (b ∷ bs) h = subst (λ (k : Bool). option_map (λ (p : Var × Term). p.1) (cond k (Some b) (find (λ p. same_var p.0 x) bs)) ≡ None) (sym (ap is_eq h.0) ∙ var-same x b.0) (none-later x bs h.1)

found-of : (n : Name) (x : Var) (bs : List (ℕ × Term)) → same_name n x.frame ≡ true → found_in (of_frame n bs) x ≡ found_at bs x.index
found-of n x [] h = refl
found-of n x (b ∷ bs) h = on (same_name n x.frame) h (b.0 == x.index) (found-of n x bs h)
  where
    on : (s : Bool) → s ≡ true → (k : Bool) → found_in (of_frame n bs) x ≡ found_at bs x.index
        → option_map (λ (p : Var × Term). p.1) (cond (s && k) (Some (record { frame = n; index = b.0 }, b.1)) (find (λ p. same_var p.0 x) (of_frame n bs))) ≡ option_map (λ (p : ℕ × Term). p.1) (cond k (Some b) (find (λ p. p.0 == x.index) bs))
    on true h true g = refl
    on true h false g = g
    on false h k g = cc

none-of : (n : Name) (x : Var) (bs : List (ℕ × Term)) → same_name n x.frame ≡ false → found_in (of_frame n bs) x ≡ None
none-of n x [] h = refl
none-of n x (b ∷ bs) h = on (same_name n x.frame) h (none-of n x bs h)
  where
    on : (s : Bool) → s ≡ false → found_in (of_frame n bs) x ≡ None
        → option_map (λ (p : Var × Term). p.1) (cond (s && (b.0 == x.index)) (Some (record { frame = n; index = b.0 }, b.1)) (find (λ p. same_var p.0 x) (of_frame n bs))) ≡ None
    on false h g = g
    on true h g = cc

-- what is found in one list or in another one, of which nothing is found in the second
first-alone : (bs cs : List (Var × Term)) (x : Var) → found_in cs x ≡ None → found_in (bs ++ cs) x ≡ found_in bs x
first-alone bs cs x none = on (found_in bs x) refl
  where
    on : (o : Option Term) → found_in bs x ≡ o → found_in (bs ++ cs) x ≡ found_in bs x
    on None e = found-second bs cs x e ∙ none ∙ sym e
    on (Some t) e = found-first bs cs x t e ∙ sym e

-- the first binding of a variable, by its frame
pub found-settled : (es : Entries) (x : Var) → IsStrictlySortedBy name_cmp (keys_of es) → found_in (bindings_of es) x ≡ found_at (bindings_at (lookup (same_name x.frame) es)) x.index
unfolding IsStrictlySortedBy
found-settled [] x h = refl
found-settled (e ∷ es) x h = on (same_name x.frame e.0) refl (found-settled es x h.1)
  where
    on : (s : Bool) → same_name x.frame e.0 ≡ s → found_in (bindings_of es) x ≡ found_at (bindings_at (lookup (same_name x.frame) es)) x.index
        → found_in (of_frame e.0 e.1.bindings.items ++ bindings_of es) x ≡ found_at (bindings_at (cond s (Some e.1) (lookup (same_name x.frame) es))) x.index
    on true q g =
        first-alone (of_frame e.0 e.1.bindings.items) (bindings_of es) x
        (none-later x (bindings_of es) (later x.frame x.index es (subst (λ (m : Name). AllByRecursion (λ k. name_cmp m k ≡ Less) (keys_of es)) (sym (same_name-equal x.frame e.0 q)) h.0)))
        ∙ found-of e.0 x e.1.bindings.items (name_back e.0 x.frame ∙ q)
    on false q g = found-second (of_frame e.0 e.1.bindings.items) (bindings_of es) x (none-of e.0 x e.1.bindings.items (name_back e.0 x.frame ∙ q)) ∙ g

-- bindings in order
at-or-after : (x y : Var) → var_before x y ≡ false → (z : Var) → var_cmp z y ≡ Less → var_cmp z x ≡ Less
at-or-after x y h z less = on (var_cmp x y) refl h
  where
    on : (o : Ordering) → var_cmp x y ≡ o → is_lt o ≡ false → var_cmp z x ≡ Less
    on Less q h = cc
    on Equal q h = subst (λ (v : Var). var_cmp z v ≡ Less) (sym (var_exact x y q)) less
    on Greater q h = var_total.trans z y x less (Less-from_greater var_cmp var_total x y q)

all-later : (z y : Var) (bs : List (Var × Term)) → var_cmp z y ≡ Less → AllByRecursion (λ c. var_before c.0 y ≡ false) bs → AllByRecursion (λ c. var_cmp z c.0 ≡ Less) bs
all-later z y [] less h = tt
all-later z y (b ∷ bs) less h = (at-or-after b.0 y h.0 z less, all-later z y bs less h.1)

none-before : (z : Var) (bs : List (Var × Term)) → AllByRecursion (λ c. var_cmp z c.0 ≡ Less) bs → AllByRecursion (λ c. var_before c.0 z ≡ false) bs
none-before z [] h = tt
none-before z (b ∷ bs) h = (ap is_lt (Greater-from_less var_cmp var_total z b.0 h.0), none-before z bs h.1)

-- a binding that joins bindings in order
module _ (y : Var) (t : Term) where
  ahead : (b : Var × Term) (bs : List (Var × Term)) → AreInOrder (b ∷ bs) → var_before y b.0 ≡ true → AllByRecursion (λ c. var_cmp y c.0 ≡ Less) (b ∷ bs)
  ahead b bs h e = let less : var_cmp y b.0 ≡ Less = Less-from_is_lt (var_cmp y b.0) e in (less, all-later y b.0 bs less h.0)

  pub joined-in_order : (bs : List (Var × Term)) → AreInOrder bs → AreInOrder (joined bs y t)
  joined-in_order [] h = (tt, tt)
  joined-in_order (b ∷ bs) h = on (var_before y b.0) refl (joined-in_order bs h.1)
    where
      on : (k : Bool) → var_before y b.0 ≡ k → AreInOrder (joined bs y t) → AreInOrder (if k then (y, t) ∷ b ∷ bs else b ∷ joined bs y t)
      on true e g = (none-before y (b ∷ bs) (ahead b bs h e), h)
      on false e g = (joined-all (λ c. var_before c.0 b.0 ≡ false) bs y t h.0 e, g)

  alone : (x : Var) → found_in ((y, t) ∷ []) x ≡ cond (same_var y x) (Some t) None
  alone x = on (same_var y x)
    where
      on : (k : Bool) → option_map (λ (p : Var × Term). p.1) (cond k (Some (y, t)) None) ≡ cond k (Some t) None
      on true = refl
      on false = refl

  or-nothing : (o : Option Term) → o ≡ option_or o None
  or-nothing None = refl
  or-nothing (Some u) = refl

  found-joined : (bs : List (Var × Term)) (x : Var) → AreInOrder bs → found_in (joined bs y t) x ≡ option_or (found_in bs x) (cond (same_var y x) (Some t) None)
  found-joined [] x h = alone x
  found-joined (b ∷ bs) x h = on (var_before y b.0) refl (found-joined bs x h.1)
    where
      first : (k : Bool) → same_var y x ≡ k → (var_before y b.0 ≡ true) → option_map (λ (p : Var × Term). p.1) (cond k (Some (y, t)) (find (λ p. same_var p.0 x) (b ∷ bs))) ≡ option_or (found_in (b ∷ bs) x) (cond k (Some t) None)
      first true q e = subst (λ (o : Option Term). Some t ≡ option_or o (Some t)) (sym (none-later x (b ∷ bs) (subst (λ (v : Var). AllByRecursion (λ c. var_cmp v c.0 ≡ Less) (b ∷ bs)) (same_var-equal y x q) (ahead b bs h e)))) refl
      first false q e = or-nothing (found_in (b ∷ bs) x)

      behind : (k : Bool) → found_in (joined bs y t) x ≡ option_or (found_in bs x) (cond (same_var y x) (Some t) None)
          → option_map (λ (p : Var × Term). p.1) (cond k (Some b) (find (λ p. same_var p.0 x) (joined bs y t)))
          ≡ option_or (option_map (λ (p : Var × Term). p.1) (cond k (Some b) (find (λ p. same_var p.0 x) bs))) (cond (same_var y x) (Some t) None)
      behind true g = refl
      behind false g = g

      on : (k : Bool) → var_before y b.0 ≡ k → found_in (joined bs y t) x ≡ option_or (found_in bs x) (cond (same_var y x) (Some t) None)
          → found_in (if k then (y, t) ∷ b ∷ bs else b ∷ joined bs y t) x ≡ option_or (found_in (b ∷ bs) x) (cond (same_var y x) (Some t) None)
      on true e g = first (same_var y x) refl e
      on false e g = behind (same_var b.0 x) g

pub joins-in_order : (bs cs : List (Var × Term)) → AreInOrder bs → AreInOrder (joins bs cs)
joins-in_order bs [] h = h
joins-in_order bs (c ∷ cs) h = joins-in_order (joined bs c.0 c.1) cs (joined-in_order c.0 c.1 bs h)

-- what is found once bindings joined
pub found-joins : (bs cs : List (Var × Term)) (x : Var) → AreInOrder bs → found_in (joins bs cs) x ≡ option_or (found_in bs x) (found_in cs x)
found-joins bs [] x h = on (found_in bs x)
  where
    on : (o : Option Term) → o ≡ option_or o None
    on None = refl
    on (Some u) = refl
found-joins bs (c ∷ cs) x h =
    found-joins (joined bs c.0 c.1) cs x (joined-in_order c.0 c.1 bs h)
    ∙ ap (λ (o : Option Term). option_or o (found_in cs x)) (found-joined c.0 c.1 bs x h) ∙ on (found_in bs x) (same_var c.0 x)
  where
    on : (o : Option Term) (k : Bool) → option_or (option_or o (cond k (Some c.1) None)) (found_in cs x) ≡ option_or o (option_map (λ (p : Var × Term). p.1) (cond k (Some c) (find (λ p. same_var p.0 x) cs)))
    on (Some u) k = refl
    on None true = refl
    on None false = refl

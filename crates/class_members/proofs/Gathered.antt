-- Ends and members are gathered one by one.
use Rattle.std.proofs.Common.{◌≡◌, ℕ, ◌≤◌, List, [], ◌∷◌, ◌++◌, length, length-append, take, drop, Some, None, Bool, true, false, cond, refl, sym, ap, subst, ◌∙◌, ◌⊎◌, inl, inr, arith}
use Rattle.std.proofs.lemmas.List.{take-append-drop, drop-append-le, drop_all}
use Rattle.std.proofs.lemmas.Bool.Decides.{nat_tests}
use Rattle.std.proofs.lemmas.List.Folds.{list_any-append}
use Rattle.std.specs.List.{list_any}
use Rattle.std.specs.Prelude.{IsTrue, ◌↔◌, ◌||◌}
use Rattle.akl_terms.specs.declared.name.Var.{Var}
use Rattle.akl_terms.specs.declared.term.Node.{Node}
use Rattle.akl_terms.specs.declared.term.Term.{Term}
use Rattle.akl_terms.specs.Names.{same_var}
use Rattle.akl_terms.specs.Tree.{variable, head_of}
use Rattle.akl_terms.proofs.SameNames.{same_var-equal, same_var-refl}
use Rattle.constraint_laws.specs.Touched.{IsAmong}
use Rattle.rational_unify.specs.Known.{end_of}
use Rattle.rational_unify.specs.Shortened.{IsEndOf}
use Rattle.local_store.proofs.Among.{among-either, among-left, among-right}
use Rattle.class_members.specs.Listed.{IsEndOfOne, AreEnds, EndsAmong, has, IsRest, AreListed}

-- a test of a list finds what is among it
has-among : (xs : List Var) (x : Var) → has xs x ≡ true → IsAmong x xs
has-among [] x e = cc
has-among (y ∷ ys) x e = on (same_var x y) refl e (has-among ys x)
  where
    on : (k : Bool) → same_var x y ≡ k → (k || has ys x) ≡ true → (has ys x ≡ true → IsAmong x ys) → IsAmong x (y ∷ ys)
    on true p e f = inl (same_var-equal x y p)
    on false p e f = inr (f e)

among-has : (xs : List Var) (x : Var) → IsAmong x xs → has xs x ≡ true
among-has [] x m = absurd m
among-has (y ∷ ys) x (inl p) = ap (λ (k : Bool). k || has ys x) (ap (same_var x) (sym p) ∙ same_var-refl x)
among-has (y ∷ ys) x (inr m) = on (same_var x y) (among-has ys x m)
  where
    on : (k : Bool) → has ys x ≡ true → (k || has ys x) ≡ true
    on true e = refl
    on false e = e

same_var-sym : (x y : Var) → same_var x y ≡ same_var y x
same_var-sym x y = grind (arith, nat_tests)

-- the same test, with the variable on the other side
pub backward : (xs : List Var) (x : Var) → list_any (λ y. same_var y x) xs ≡ has xs x
backward xs x = λ i. list_any (λ y. same_var-sym y x i) xs

pub has_is : (xs : List Var) (x : Var) (b : Bool) → b ≡ has xs x → IsTrue b ↔ IsAmong x xs
has_is xs x b e = (λ t. has-among xs x (sym e ∙ t), λ m. e ∙ among-has xs x m)

module _ (few : ℕ) (keys list : List Var) (h : IsRest few keys list) where
  -- the first few and the set have all
  has_rest : (x : Var) → (has (take few list) x || has keys x) ≡ has list x
  has_rest x = ap (λ (k : Bool). has (take few list) x || k) (h.each x) ∙ sym (list_any-append (same_var x) (take few list) (drop few list))
      ∙ ap (λ (xs : List Var). has xs x) (take-append-drop few list)

  -- what the first few have is there, and otherwise what the set has
  pub has_first : (x : Var) (b : Bool) → b ≡ has (take few list) x → b ≡ true → b ≡ has list x
  has_first x b e t = t ∙ sym (ap (λ (k : Bool). k || has keys x) (sym e ∙ t)) ∙ has_rest x

  pub has_later : (x : Var) (a b : Bool) → a ≡ has (take few list) x → a ≡ false → b ≡ has keys x → b ≡ has list x
  has_later x a b p f e = e ∙ sym (ap (λ (k : Bool). k || has keys x) (sym p ∙ f)) ∙ has_rest x

  -- one more among the first few
  pub rest_few : (x : Var) → length (list ++ x ∷ []) ≤ few → IsRest few keys (list ++ x ∷ [])
  rest_few x l = record {
    each = λ y. h.each y ∙ ap (λ (xs : List Var). has xs y) (drop_all few list (omega (arith, length-append {A = Var})) ∙ sym (drop_all few (list ++ x ∷ []) l));
  }

  -- and behind them
  pub rest_push : (new : List Var) (x : Var) → few ≤ length list → ((y : Var) → has new y ≡ cond (same_var x y) true (has keys y)) → IsRest few new (list ++ x ∷ [])
  rest_push new x l u = record { each = each }
    where
      at_end : (k o : Bool) → cond k true o ≡ (o || (k || false))
      at_end true true = refl
      at_end true false = refl
      at_end false true = refl
      at_end false false = refl

      each : (y : Var) → has new y ≡ has (drop few (list ++ x ∷ [])) y
      each y = u y ∙ at_end (same_var x y) (has keys y) ∙ ap (λ (k : Bool). has keys y || (k || false)) (same_var-sym x y)
          ∙ ap (λ (o : Bool). o || (same_var y x || false)) (h.each y) ∙ sym (list_any-append (same_var y) (drop few list) (x ∷ []))
          ∙ ap (λ (xs : List Var). has xs y) (sym (drop-append-le few list (x ∷ []) l))

module _ (nodes : List Node) (bs : List (Var × Term)) where
  -- one end
  one_variable : (x r s : Var) → end_of nodes bs (variable x) ≡ variable r → end_of nodes bs (variable x) ≡ variable s → r ≡ s
  one_variable x r s e f = let p : variable r ≡ variable s = sym e ∙ f in cc

  not_headed : (x r : Var) → IsEndOf nodes bs x None → end_of nodes bs (variable x) ≡ variable r → ⊥
  not_headed x r h e = let z : None ≡ Some h.0 = sym (ap head_of e) ∙ h.1 in cc

  -- a variable ends where it does
  pub ends_some : (list : List Var) (x r : Var) (b : Bool) → IsEndOf nodes bs x (Some r) → IsTrue b ↔ IsAmong r list → IsTrue b ↔ EndsAmong nodes bs list x
  ends_some list x r b e h = (λ t. record { end = r; ends = e; there = h.0 t }, λ w. h.1 (subst (λ (y : Var). IsAmong y list) (sym (one_variable x r w.end e w.ends)) w.there))

  pub ends_none : (list : List Var) (x : Var) → IsEndOf nodes bs x None → IsTrue false ↔ EndsAmong nodes bs list x
  ends_none list x h = (λ t. cc, λ w. absurd (not_headed x w.end h w.ends))

  -- of one more variable
  more : (xs : List Var) (x r : Var) → IsEndOfOne nodes bs xs r → IsEndOfOne nodes bs (xs ++ x ∷ []) r
  more xs x r e = record { start = e.start; among = among-left xs (x ∷ []) e.start e.among; ends = e.ends }

  fewer : (xs : List Var) (x r : Var) → IsEndOfOne nodes bs (xs ++ x ∷ []) r → IsEndOfOne nodes bs xs r ⊎ (end_of nodes bs (variable x) ≡ variable r)
  fewer xs x r e = elim (among-either xs (x ∷ []) e.start e.among) [
    | inl a ↦ inl (record { start = e.start; among = a; ends = e.ends })
    | inr b ↦ elim b [ inl p ↦ inr (subst (λ (y : Var). end_of nodes bs (variable y) ≡ variable r) p e.ends) | inr z ↦ absurd z ]
  ]

  pub no_ends : AreEnds nodes bs [] []
  no_ends = record { each = λ r m. absurd m; every = λ r m. absurd m.among }

  module _ (xs list : List Var) (h : AreEnds nodes bs xs list) (x : Var) where
    -- it ends in a term with a head
    pub ends_headed : IsEndOf nodes bs x None → AreEnds nodes bs (xs ++ x ∷ []) list
    ends_headed n = record {
      each = λ r m. more xs x r (h.each r m);
      every = λ r e. elim (fewer xs x r e) [ inl k ↦ h.every r k | inr k ↦ absurd (not_headed x r n k) ];
    }

    -- its end is there
    pub ends_there : (r : Var) → IsEndOf nodes bs x (Some r) → IsAmong r list → AreEnds nodes bs (xs ++ x ∷ []) list
    ends_there r e t = record {
      each = λ s m. more xs x s (h.each s m);
      every = λ s k. elim (fewer xs x s k) [ inl i ↦ h.every s i | inr i ↦ subst (λ (y : Var). IsAmong y list) (one_variable x r s e i) t ];
    }

    -- or it is new
    pub ends_new : (r : Var) → IsEndOf nodes bs x (Some r) → AreEnds nodes bs (xs ++ x ∷ []) (list ++ r ∷ [])
    ends_new r e = record {
      each = λ s m. elim (among-either list (r ∷ []) s m) [
        | inl a ↦ more xs x s (h.each s a)
        | inr b ↦ elim b [ inl p ↦ record { start = x; among = among-right xs (x ∷ []) x (inl refl); ends = e ∙ ap variable (sym p) } | inr z ↦ absurd z ]
      ];
      every = λ s k. elim (fewer xs x s k) [ inl i ↦ among-left list (r ∷ []) s (h.every s i) | inr i ↦ among-right list (r ∷ []) s (inl (sym (one_variable x r s e i))) ];
    }

  -- members, from the ends on
  pub listed_ends : (xs list : List Var) → AreEnds nodes bs xs list → AreListed nodes bs xs [] list
  listed_ends xs list h = record { each = λ y m. inl (h.each y m); ends = h.every; others = λ y r m. absurd m }

  -- of one variable alone
  pub listed_end : (x r : Var) (list : List Var) → IsEndOf nodes bs x (Some r) → list ≡ r ∷ [] → AreListed nodes bs (x ∷ []) [] list
  listed_end x r list e q = subst (AreListed nodes bs (x ∷ []) []) (sym q) (listed_ends (x ∷ []) (r ∷ []) (ends_new [] [] no_ends x r e))

  pub listed_headed : (x : Var) (list : List Var) → IsEndOf nodes bs x None → list ≡ [] → AreListed nodes bs (x ∷ []) [] list
  listed_headed x list n q = subst (AreListed nodes bs (x ∷ []) []) (sym q) (listed_ends (x ∷ []) [] (ends_headed [] [] no_ends x n))

  module _ (xs cs list : List Var) (h : AreListed nodes bs xs cs list) (y : Var) where
    abbrev Found : List Var → Var → Type 0
    Found ds z = IsEndOfOne nodes bs xs z ⊎ (IsAmong z ds × ((r : Var) × IsEndOfOne nodes bs xs r × (end_of nodes bs (variable z) ≡ variable r)))

    wider : (z : Var) → Found cs z → Found (cs ++ y ∷ []) z
    wider z (inl e) = inl e
    wider z (inr w) = inr (among-left cs (y ∷ []) z w.0, w.1)

    module _ (ends : List Var) (k : AreEnds nodes bs xs ends) where
      pub listed_more : EndsAmong nodes bs ends y → AreListed nodes bs xs (cs ++ y ∷ []) (list ++ y ∷ [])
      listed_more e = record {
        each = λ z m. elim (among-either list (y ∷ []) z m) [ inl a ↦ wider z (h.each z a) | inr b ↦ elim b [ inl p ↦ subst (Found (cs ++ y ∷ [])) (sym p) new | inr q ↦ absurd q ] ];
        ends = λ r m. among-left list (y ∷ []) r (h.ends r m);
        others = λ z r m e f. elim (among-either cs (y ∷ []) z m) [
          | inl a ↦ among-left list (y ∷ []) z (h.others z r a e f)
          | inr b ↦ elim b [ inl p ↦ among-right list (y ∷ []) z (inl p) | inr q ↦ absurd q ]
        ];
      }
        where
          new : Found (cs ++ y ∷ []) y
          new = inr (among-right cs (y ∷ []) y (inl refl), (e.end, k.each e.end e.there, e.ends))

      pub listed_same : (EndsAmong nodes bs ends y → ⊥) → AreListed nodes bs xs (cs ++ y ∷ []) list
      listed_same n = record {
        each = λ z m. wider z (h.each z m);
        ends = h.ends;
        others = λ z r m e f. elim (among-either cs (y ∷ []) z m) [
          | inl a ↦ h.others z r a e f
          | inr b ↦ elim b [ inl p ↦ absurd (n (record { end = r; ends = subst (λ (x : Var). end_of nodes bs (variable x) ≡ variable r) p f; there = k.every r e })) | inr q ↦ absurd q ]
        ];
      }

-- The first variable with each end of chains, of variables in order.
use Rattle.std.proofs.Common.{◌≡◌, ℕ, zero, suc, ◌+◌, ◌<◌, Bool, true, false, cond, List, [], ◌∷◌, ◌++◌, length, take, Some, None, refl, sym, ◌∙◌, ap, subst, ◌⊎◌, inl, inr, arith, slice_index_or}
use Rattle.std.specs.Prelude.{not}
use Rattle.std.specs.List.Sorted.{IsSorted}
use Rattle.std.specs.Ordering.{is_lt, ordering_reverse}
use Rattle.std.specs.declared.cmp.Ordering.{Ordering}
use Rattle.std.specs.declared.cmp.Ordering.TheVariants.{Less, Equal, Greater}
use Rattle.akl_terms.specs.declared.name.Var.{Var}
use Rattle.akl_terms.specs.declared.term.Node.{Node}
use Rattle.akl_terms.specs.declared.term.Term.{Term}
use Rattle.akl_terms.specs.Names.{same_var, var_cmp}
use Rattle.akl_terms.specs.Tree.{variable, head_of}
use Rattle.akl_terms.proofs.SameNames.{same_var-equal, same_var-refl}
use Rattle.constraint_laws.specs.Touched.{IsAmong}
use Rattle.constraint_laws.proofs.VariableOrder.{var_total, var_exact}
use Rattle.rational_unify.specs.Known.{end_of}
use Rattle.rational_unify.specs.Shortened.{IsEndOf}
use Rattle.rational_unify.proofs.Taking.{take-next}
use Rattle.local_store.proofs.Among.{among-either, among-left, among-right}
use Rattle.class_members.specs.Listed.{has}
use Rattle.why_laws.specs.Waiting.{AreBehind, AreIncreasing}
use Rattle.why_report.specs.Classes.{IsUpTo, IsFirst, AreFirst}

pub up_to_on : (x y z : Var) → IsUpTo x y → IsUpTo y z → IsUpTo x z
up_to_on x y z (inl e) b = subst (λ (v : Var). IsUpTo v z) (sym e) b
up_to_on x y z (inr a) (inl e) = inr (subst (λ (v : Var). var_cmp x v ≡ Less) e a)
up_to_on x y z (inr a) (inr b) = inr (var_total.trans x y z a b)

-- sorted variables
module _ (xs : List Var) (sorted : IsSorted var_cmp xs) (d : Var) where
  not_after : (x y : Var) → is_lt (var_cmp y x) ≡ false → IsUpTo x y
  not_after x y e = on (var_cmp x y) refl
    where
      on : (o : Ordering) → var_cmp x y ≡ o → IsUpTo x y
      on Less p = inr p
      on Equal p = inl (var_exact x y p)
      on Greater p = let q : var_cmp y x ≡ Less = var_total.antisymm y x ∙ ap ordering_reverse p in let z : true ≡ false = sym (ap is_lt q) ∙ e in cc

  pub earlier : (i : ℕ) → i < length xs → (y : Var) → IsAmong y (take i xs) → IsUpTo y (slice_index_or xs i d)
  earlier zero h y m = absurd m
  earlier (suc i) h y m = up_to_on y (slice_index_or xs i d) (slice_index_or xs (suc i) d)
      (last (λ k. earlier i (omega arith) y k) (among-either (take i xs) (slice_index_or xs i d ∷ []) y (subst (IsAmong y) (take-next xs i (suc i) d (omega arith) refl) m)))
      (not_after (slice_index_or xs i d) (slice_index_or xs (suc i) d) (next (i + 1) (omega arith)))
    where
      next : (k : ℕ) → k ≡ i + 1 → is_lt (var_cmp (slice_index_or xs (suc i) d) (slice_index_or xs i d)) ≡ false
      next k e = subst (λ (j : ℕ). is_lt (var_cmp (slice_index_or xs j d) (slice_index_or xs i d)) ≡ false) (omega arith) (sorted i d (omega arith) (omega (arith, h)))

      last : (IsAmong y (take i xs) → IsUpTo y (slice_index_or xs i d)) → IsAmong y (take i xs) ⊎ IsAmong y (slice_index_or xs i d ∷ []) → IsUpTo y (slice_index_or xs i d)
      last before (inl k) = before k
      last before (inr (inl e)) = inl e
      last before (inr (inr z)) = absurd z

-- a variable behind all others
behind_push : (v x : Var) (ys : List Var) → AreBehind v ys → var_cmp v x ≡ Less → ((y : Var) → IsAmong y ys → var_cmp y x ≡ Less) → AreBehind v (ys ++ x ∷ [])
behind_push v x [] b l h = (l, tt)
behind_push v x (y ∷ ys) b l h = (b.0, behind_push y x ys b.1 (h y (inl refl)) (λ z m. h z (inr m)))

increasing_push : (x : Var) (ys : List Var) → AreIncreasing ys → ((y : Var) → IsAmong y ys → var_cmp y x ≡ Less) → AreIncreasing (ys ++ x ∷ [])
increasing_push x [] b h = tt
increasing_push x (y ∷ ys) b h = behind_push y x ys b (h y (inl refl)) (λ z m. h z (inr m))

module _ (nodes : List Node) (bs : List (Var × Term)) where
  abbrev Ends : Var → Var → Type 0
  Ends x r = end_of nodes bs (variable x) ≡ variable r

  -- a set has the ends of some variables
  pub record AreMet (done keys : List Var) : Type 0 where
    pub each : (r : Var) → has keys r ≡ true → (y : Var) × IsAmong y done × Ends y r
    pub every : (y r : Var) → IsAmong y done → Ends y r → has keys r ≡ true

  pub none_first : AreFirst nodes bs [] []
  none_first = record { increasing = tt; each = λ x m. absurd m; every = λ y r m e. absurd m }

  pub none_met : AreMet [] []
  none_met = record { each = λ r e. cc; every = λ y r m e. absurd m }

  one_end : (x r s : Var) → Ends x r → Ends x s → r ≡ s
  one_end x r s e f = let p : variable r ≡ variable s = sym e ∙ f in cc

  headed : (x r : Var) → IsEndOf nodes bs x None → Ends x r → ⊥
  headed x r h e = let z : None ≡ Some h.0 = sym (ap head_of e) ∙ h.1 in cc

  -- one more variable, which isn't before the others
  module _ (done list keys : List Var) (f : AreFirst nodes bs done list) (m : AreMet done keys) (x : Var) (after : (y : Var) → IsAmong y done → IsUpTo y x) where
    abbrev Either : Var → Type 0
    Either y = IsAmong y done ⊎ (y ≡ x)

    either : (y : Var) → IsAmong y (done ++ x ∷ []) → Either y
    either y k = elim (among-either done (x ∷ []) y k) [ inl a ↦ inl a | inr b ↦ elim b [ inl e ↦ inr e | inr z ↦ absurd z ] ]

    itself : IsAmong x (done ++ x ∷ [])
    itself = among-right done (x ∷ []) x (inl refl)

    wider : (z : Var) → IsFirst nodes bs done z → IsFirst nodes bs (done ++ x ∷ []) z
    wider z g = record {
      among = among-left done (x ∷ []) z g.among;
      end = g.end;
      ends = g.ends;
      first = λ y k e. elim (either y k) [ inl a ↦ g.first y a e | inr q ↦ subst (IsUpTo z) (sym q) (after z g.among) ];
    }

    pub first_headed : IsEndOf nodes bs x None → AreFirst nodes bs (done ++ x ∷ []) list
    first_headed n = record {
      increasing = f.increasing;
      each = λ z k. wider z (f.each z k);
      every = λ y r k e. elim (either y k) [ inl a ↦ f.every y r a e | inr q ↦ absurd (headed x r n (subst (λ (v : Var). Ends v r) q e)) ];
    }

    pub met_headed : IsEndOf nodes bs x None → AreMet (done ++ x ∷ []) keys
    met_headed n = record {
      each = λ r e. let w : (y : Var) × IsAmong y done × Ends y r = m.each r e in (w.0, among-left done (x ∷ []) w.0 w.1, w.2);
      every = λ y r k e. elim (either y k) [ inl a ↦ m.every y r a e | inr q ↦ absurd (headed x r n (subst (λ (v : Var). Ends v r) q e)) ];
    }

    module _ (r : Var) (ends : Ends x r) where
      -- the end was met
      pub first_met : has keys r ≡ true → AreFirst nodes bs (done ++ x ∷ []) list
      first_met t = record {
        increasing = f.increasing;
        each = λ z k. wider z (f.each z k);
        every = λ y s k e. elim (either y k) [
          | inl a ↦ f.every y s a e
          | inr q ↦
              let w : (y : Var) × IsAmong y done × Ends y r = m.each r t in
              f.every w.0 s w.1 (w.2 ∙ ap variable (one_end x r s ends (subst (λ (v : Var). Ends v s) q e)))
        ];
      }

      -- or it wasn't
      unmet : has keys r ≡ false → (y : Var) → IsAmong y done → Ends y r → ⊥
      unmet t y k e = let z : true ≡ false = sym (m.every y r k e) ∙ t in cc

      before : has keys r ≡ false → (y : Var) → IsAmong y list → var_cmp y x ≡ Less
      before t y k = elim (after y (f.each y k).among) [
        | inl q ↦ absurd (unmet t y (f.each y k).among (subst (λ (v : Var). Ends v r) (sym q) ends))
        | inr l ↦ l
      ]

      new : has keys r ≡ false → IsFirst nodes bs (done ++ x ∷ []) x
      new t = record { among = itself; end = r; ends = ends; first = λ y k e. elim (either y k) [ inl a ↦ absurd (unmet t y a e) | inr q ↦ inl (sym q) ] }

      pub first_new : has keys r ≡ false → AreFirst nodes bs (done ++ x ∷ []) (list ++ x ∷ [])
      first_new t = record {
        increasing = increasing_push x list f.increasing (before t);
        each = λ z k. elim (among-either list (x ∷ []) z k) [
          | inl a ↦ wider z (f.each z a)
          | inr b ↦ elim b [ inl q ↦ subst (IsFirst nodes bs (done ++ x ∷ [])) (sym q) (new t) | inr u ↦ absurd u ]
        ];
        every = λ y s k e. elim (either y k) [
          | inl a ↦ let w : (z : Var) × IsAmong z list × Ends z s = f.every y s a e in (w.0, among-left list (x ∷ []) w.0 w.1, w.2)
          | inr q ↦ (x, among-right list (x ∷ []) x (inl refl), subst (λ (v : Var). Ends v s) q e)
        ];
      }

      -- with it the set has the end
      pub met_more : (now : List Var) → ((y : Var) → has now y ≡ cond (same_var r y) true (has keys y)) → AreMet (done ++ x ∷ []) now
      met_more now u = record {
        each = λ s e. on s (same_var r s) refl (sym (u s) ∙ e);
        every = λ y s k e. elim (either y k) [
          | inl a ↦ u s ∙ kept (same_var r s) (has keys s) (m.every y s a e)
          | inr q ↦ u s ∙ here s (one_end x r s ends (subst (λ (v : Var). Ends v s) q e))
        ];
      }
        where
          kept : (b k : Bool) → k ≡ true → cond b true k ≡ true
          kept true k e = refl
          kept false k e = e

          here : (s : Var) → r ≡ s → cond (same_var r s) true (has keys s) ≡ true
          here s q = ap (λ (b : Bool). cond b true (has keys s)) (ap (same_var r) (sym q) ∙ same_var-refl r)

          on : (s : Var) (b : Bool) → same_var r s ≡ b → cond b true (has keys s) ≡ true → (y : Var) × IsAmong y (done ++ x ∷ []) × Ends y s
          on s true p e = (x, itself, ends ∙ ap variable (same_var-equal r s p))
          on s false p e = let w : (y : Var) × IsAmong y done × Ends y s = m.each s e in (w.0, among-left done (x ∷ []) w.0 w.1, w.2)

-- what wasn't met is new
pub was_new : (b : Bool) → not b ≡ true → b ≡ false
was_new true e = cc
was_new false e = refl

pub was_met : (b : Bool) → not b ≡ false → b ≡ true
was_met true e = refl
was_met false e = cc

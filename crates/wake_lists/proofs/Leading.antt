-- Keys that lead to the tokens of open places, when one comes or goes.
use Rattle.std.proofs.Common.{◌≡◌, ℕ, Bool, true, false, Option, Some, None, refl, sym, ap, ◌∙◌}
use Rattle.std.specs.Prelude.{if◌then◌else◌}
use Rattle.wake_lists.specs.declared.turn.Opened.{Opened}
use Rattle.wake_lists.specs.Queue.{Leads}
use Rattle.wake_lists.proofs.Keys.{token_equal, token_here}
use lib.Dec.{eqb}

-- at one token, or at one key, there is something else, or nothing
abbrev pub FindsBy : (ℕ → Option Opened) → (ℕ → Option Opened) → ℕ → Option Opened → Type 0
FindsBy f g t w = (s : ℕ) → g s ≡ (if eqb t s then w else f s)

abbrev pub LeadsBy : {K : Type 0} → (K → K → Bool) → (K → Option ℕ) → (K → Option ℕ) → K → Option ℕ → Type 0
LeadsBy {K} same x y k w = (l : K) → y l ≡ (if same k l then w else x l)

pub none_some : {A X : Type 0} (a : A) → None ≡ Some a → X
none_some a e = absurd (cc)

pub same_some : {A : Type 0} (a b : A) → Some a ≡ Some b → a ≡ b
same_some a b e = cc

pub not_both : {X : Type 0} (b : Bool) → b ≡ true → b ≡ false → X
not_both b e f = let both : true ≡ false = sym e ∙ f in absurd (cc)

module _ (f : ℕ → Option Opened) (t : ℕ) (w : Option Opened) (g : ℕ → Option Opened) (h : FindsBy f g t w) where
  pub at_it : g t ≡ w
  at_it = h t ∙ (λ i. if token_here t i then w else f t)

  pub elsewhere : (s : ℕ) → eqb t s ≡ false → g s ≡ f s
  elsewhere s e = h s ∙ (λ i. if e i then w else f s)

-- keys that lead to the same tokens
pub leads_as : {K : Type 0} (key : Opened → K) (x y : K → Option ℕ) (f : ℕ → Option Opened) → ((k : K) → y k ≡ x k) → Leads key x f → Leads key y f
leads_as key x y f h l = record { there = λ t o e. h (key o) ∙ l.there t o e; back = λ k t e. l.back k t (sym (h k) ∙ e) }

module _ {K : Type 0} (same : K → K → Bool) (equal : (k l : K) → same k l ≡ true → k ≡ l) (here : (k : K) → same k k ≡ true) where
  at_key : (x y : K → Option ℕ) (k : K) (w : Option ℕ) → LeadsBy same x y k w → (l : K) → l ≡ k → y l ≡ w
  at_key x y k w h l e = ap y e ∙ h k ∙ (λ i. if here k i then w else x k)

  other_key : (x y : K → Option ℕ) (k : K) (w : Option ℕ) → LeadsBy same x y k w → (l : K) → same k l ≡ false → y l ≡ x l
  other_key x y k w h l e = h l ∙ (λ i. if e i then w else x l)

  -- what was put under a key without one is taken out
  pub restored : (x y z : K → Option ℕ) (k : K) (w : Option ℕ) → x k ≡ None → LeadsBy same x y k w → LeadsBy same y z k None → (l : K) → z l ≡ x l
  restored x y z k w none p q l = on (same k l) refl
    where
      on : (s : Bool) → same k l ≡ s → z l ≡ x l
      on true e = q l ∙ (λ i. if e i then None else y l) ∙ sym none ∙ ap x (equal k l e)
      on false e = other_key y z k None q l e ∙ other_key x y k w p l e

  module _ (key : Opened → K) where
    -- no open place has a key
    pub absent : (x : K → Option ℕ) (f : ℕ → Option Opened) (k : K) → Leads key x f → ((s : ℕ) (p : Opened) → f s ≡ Some p → same k (key p) ≡ false) → x k ≡ None
    absent x f k l none = on (x k) refl
      where
        on : (o : Option ℕ) → x k ≡ o → o ≡ None
        on None e = refl
        on (Some s) e = let b = l.back k s e in not_both (same k (key b.0)) (ap (same k) b.2 ∙ here k) (none s b.0 b.1)

    pub leads_more : (x y : K → Option ℕ) (f g : ℕ → Option Opened) (t : ℕ) (o : Opened) → Leads key x f → f t ≡ None → ((s : ℕ) (p : Opened) → f s ≡ Some p → same (key o) (key p) ≡ false)
        → FindsBy f g t (Some o) → LeadsBy same x y (key o) (Some t) → Leads key y g
    leads_more x y f g t o l free none h q = record { there = there; back = back }
      where
        there : (s : ℕ) (p : Opened) → g s ≡ Some p → y (key p) ≡ Some s
        there s p e = on (eqb t s) refl
          where
            on : (b : Bool) → eqb t s ≡ b → y (key p) ≡ Some s
            on true c =
                let is : t ≡ s = token_equal t s c in
                let one : p ≡ o = same_some p o (sym e ∙ ap g (sym is) ∙ at_it f t (Some o) g h) in
                at_key x y (key o) (Some t) q (key p) (ap key one) ∙ ap Some is
            on false c =
                let was : f s ≡ Some p = sym (elsewhere f t (Some o) g h s c) ∙ e in
                other_key x y (key o) (Some t) q (key p) (none s p was) ∙ l.there s p was

        back : (k : K) (s : ℕ) → y k ≡ Some s → (p : Opened) × (g s ≡ Some p) × (key p ≡ k)
        back k s e = on (same (key o) k) refl
          where
            on : (b : Bool) → same (key o) k ≡ b → (p : Opened) × (g s ≡ Some p) × (key p ≡ k)
            on true c =
                let is : t ≡ s = same_some t s (sym (at_key x y (key o) (Some t) q k (sym (equal (key o) k c))) ∙ e) in
                (o, ap g (sym is) ∙ at_it f t (Some o) g h, equal (key o) k c)
            on false c =
                let b = l.back k s (sym (other_key x y (key o) (Some t) q k c) ∙ e) in
                (b.0, elsewhere f t (Some o) g h s (apart b.0 b.1) ∙ b.1, b.2)
              where
                apart : (p : Opened) → f s ≡ Some p → eqb t s ≡ false
                apart p u = by (eqb t s) refl
                  where
                    by : (b : Bool) → eqb t s ≡ b → b ≡ false
                    by false v = refl
                    by true v = none_some p (sym free ∙ ap f (token_equal t s v) ∙ u)

    pub leads_fewer : (x y : K → Option ℕ) (f g : ℕ → Option Opened) (t : ℕ) (o : Opened) → Leads key x f → f t ≡ Some o
        → FindsBy f g t None → LeadsBy same x y (key o) None → Leads key y g
    leads_fewer x y f g t o l is h q = record { there = there; back = back }
      where
        there : (s : ℕ) (p : Opened) → g s ≡ Some p → y (key p) ≡ Some s
        there s p e = on (eqb t s) refl
          where
            on : (b : Bool) → eqb t s ≡ b → y (key p) ≡ Some s
            on true c = none_some p (sym (at_it f t None g h) ∙ ap g (token_equal t s c) ∙ e)
            on false c = other_key x y (key o) None q (key p) (differs (same (key o) (key p)) refl) ∙ l.there s p was
              where
                was : f s ≡ Some p
                was = sym (elsewhere f t None g h s c) ∙ e

                differs : (b : Bool) → same (key o) (key p) ≡ b → b ≡ false
                differs false v = refl
                differs true v =
                    let one : t ≡ s = same_some t s (sym (l.there t o is) ∙ ap x (equal (key o) (key p) v) ∙ l.there s p was) in
                    not_both (eqb t s) (ap (eqb t) (sym one) ∙ token_here t) c

        back : (k : K) (s : ℕ) → y k ≡ Some s → (p : Opened) × (g s ≡ Some p) × (key p ≡ k)
        back k s e = on (same (key o) k) refl
          where
            on : (b : Bool) → same (key o) k ≡ b → (p : Opened) × (g s ≡ Some p) × (key p ≡ k)
            on true c = none_some s (sym (at_key x y (key o) None q k (sym (equal (key o) k c))) ∙ e)
            on false c = (b.0, elsewhere f t None g h s (apart (eqb t s) refl) ∙ b.1, b.2)
              where
                b : (p : Opened) × (f s ≡ Some p) × (key p ≡ k)
                b = l.back k s (sym (other_key x y (key o) None q k c) ∙ e)

                apart : (d : Bool) → eqb t s ≡ d → d ≡ false
                apart false v = refl
                apart true v =
                    let one : o ≡ b.0 = same_some o b.0 (sym is ∙ ap f (token_equal t s v) ∙ b.1) in
                    not_both (same (key o) k) (ap (same (key o)) (sym b.2 ∙ ap key (sym one)) ∙ here (key o)) c

    -- a place becomes another one with the same key
    pub leads_same : (x : K → Option ℕ) (f g : ℕ → Option Opened) (t : ℕ) (o p : Opened) → Leads key x f → f t ≡ Some o → key p ≡ key o → FindsBy f g t (Some p) → Leads key x g
    leads_same x f g t o p l is keys h = record { there = there; back = back }
      where
        there : (s : ℕ) (q : Opened) → g s ≡ Some q → x (key q) ≡ Some s
        there s q e = on (eqb t s) refl
          where
            on : (b : Bool) → eqb t s ≡ b → x (key q) ≡ Some s
            on true c =
                let one : q ≡ p = same_some q p (sym e ∙ ap g (sym (token_equal t s c)) ∙ at_it f t (Some p) g h) in
                ap (λ (z : Opened). x (key z)) one ∙ ap x keys ∙ l.there t o is ∙ ap Some (token_equal t s c)
            on false c = l.there s q (sym (elsewhere f t (Some p) g h s c) ∙ e)

        back : (k : K) (s : ℕ) → x k ≡ Some s → (q : Opened) × (g s ≡ Some q) × (key q ≡ k)
        back k s e = on (eqb t s) refl
          where
            b : (q : Opened) × (f s ≡ Some q) × (key q ≡ k)
            b = l.back k s e

            on : (d : Bool) → eqb t s ≡ d → (q : Opened) × (g s ≡ Some q) × (key q ≡ k)
            on true c =
                let one : o ≡ b.0 = same_some o b.0 (sym is ∙ ap f (token_equal t s c) ∙ b.1) in
                (p, ap g (sym (token_equal t s c)) ∙ at_it f t (Some p) g h, keys ∙ ap key one ∙ b.2)
            on false c = (b.0, elsewhere f t (Some p) g h s c ∙ b.1, b.2)

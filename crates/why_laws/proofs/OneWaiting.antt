-- Lists of variables in increasing order with the same members are one; so a root box waits in one way.
use Rattle.std.proofs.Common.{◌≡◌, List, [], ◌∷◌, refl, sym, ◌∙◌, subst, inl, inr}
use Rattle.std.specs.Ordering.{ordering_reverse}
use Rattle.std.specs.declared.cmp.Ordering.{Ordering}
use Rattle.std.specs.declared.cmp.Ordering.TheVariants.{Less}
use Rattle.akl_terms.specs.declared.name.Name.{Name}
use Rattle.akl_terms.specs.declared.name.Var.{Var}
use Rattle.akl_terms.specs.declared.program.Program.{Program}
use Rattle.akl_terms.specs.Names.{var_cmp}
use Rattle.akl_model.specs.Config.{Found}
use Rattle.akl_model.specs.Changes.{goal_names}
use Rattle.constraint_laws.specs.Touched.{IsAmong}
use Rattle.constraint_laws.proofs.VariableOrder.{var_total}
use Rattle.why_laws.specs.Waiting.{AreBehind, AreIncreasing, IsWaitingOn, Waiting, AreWaitingAt, AreWaiting}

-- no variable comes before itself
not_less : (x : Var) → var_cmp x x ≡ Less → ⊥
not_less x e = on (var_cmp x x) e (var_total.antisymm x x)
  where
    on : (o : Ordering) → o ≡ Less → o ≡ ordering_reverse o → ⊥
    on Less p q = cc
    on _ p q = cc

behind : (x y : Var) (ys : List Var) → AreBehind x ys → IsAmong y ys → var_cmp x y ≡ Less
behind x y [] b m = absurd m
behind x y (z ∷ zs) b (inl e) = subst (λ (v : Var). var_cmp x v ≡ Less) (sym e) b.0
behind x y (z ∷ zs) b (inr m) = var_total.trans x z y b.0 (behind z y zs b.1 m)

rest_increasing : (x : Var) (xs : List Var) → AreBehind x xs → AreIncreasing xs
rest_increasing x [] b = tt
rest_increasing x (y ∷ ys) b = b.1

one_first : (x y : Var) (xs ys : List Var) → AreBehind x xs → AreBehind y ys → IsAmong x (y ∷ ys) → IsAmong y (x ∷ xs) → x ≡ y
one_first x y xs ys a b (inl e) m = e
one_first x y xs ys a b (inr m) (inl e) = sym e
one_first x y xs ys a b (inr m) (inr n) = absurd (not_less x (var_total.trans x y x (behind x y xs a n) (behind y x ys b m)))

one_list : (xs ys : List Var) → AreIncreasing xs → AreIncreasing ys → ((v : Var) → IsAmong v xs → IsAmong v ys) → ((v : Var) → IsAmong v ys → IsAmong v xs) → xs ≡ ys
one_list [] [] a b to back = refl
one_list [] (y ∷ ys) a b to back = absurd (back y (inl refl))
one_list (x ∷ xs) [] a b to back = absurd (to x (inl refl))
one_list (x ∷ xs) (y ∷ ys) a b to back = λ i. first i ∷ one_list xs ys (rest_increasing x xs a) (rest_increasing y ys b) tail tail_back i
  where
    first : x ≡ y
    first = one_first x y xs ys a b (to x (inl refl)) (back y (inl refl))

    tail : (v : Var) → IsAmong v xs → IsAmong v ys
    tail v m = elim (to v (inr m)) [ inl e ↦ absurd (not_less x (subst (λ (z : Var). var_cmp x z ≡ Less) (e ∙ sym first) (behind x v xs a m))) | inr n ↦ n ]

    tail_back : (v : Var) → IsAmong v ys → IsAmong v xs
    tail_back v m = elim (back v (inr m)) [ inl e ↦ absurd (not_less y (subst (λ (z : Var). var_cmp y z ≡ Less) (e ∙ first) (behind y v ys b m))) | inr n ↦ n ]

one_on : (p : Program) (f : Found) (g : Name) (xs ys : List Var) → IsWaitingOn p f g xs → IsWaitingOn p f g ys → xs ≡ ys
one_on p f g xs ys a b = one_list xs ys a.increasing b.increasing (λ v m. b.every v v (a.each v m).0 (a.each v m).1) (λ v m. a.every v v (b.each v m).0 (b.each v m).1)

one_waiting_at : (p : Program) (f : Found) (gs : List Name) (one another : List Waiting) → AreWaitingAt p f gs one → AreWaitingAt p f gs another → one ≡ another
one_waiting_at p f [] [] [] a b = refl
one_waiting_at p f [] (w ∷ ws) vs a b = absurd a
one_waiting_at p f [] [] (v ∷ vs) a b = absurd b
one_waiting_at p f (g ∷ gs) [] vs a b = absurd a
one_waiting_at p f (g ∷ gs) (w ∷ ws) [] a b = absurd b
one_waiting_at p f (g ∷ gs) (w ∷ ws) (v ∷ vs) a b = λ i. record { goal = (a.0 ∙ sym b.0) i; on = one_on p f g w.on v.on a.1 b.1 i } ∷ one_waiting_at p f gs ws vs a.2 b.2 i

pub one_waiting : (p : Program) (f : Found) (one another : List Waiting) → AreWaiting p f one → AreWaiting p f another → one ≡ another
one_waiting p f one another a b = one_waiting_at p f (goal_names f.goals) one another a b

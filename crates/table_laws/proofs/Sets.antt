-- Names that differ, and what is set under a name.
use Rattle.std.proofs.Common.{◌≡◌, List, [], ◌∷◌, Bool, true, false, Option, Some, None, refl, ap, subst, ◌∙◌, ◌⊎◌, inl, inr}
use Rattle.std.specs.Prelude.{if◌then◌else◌}
use Rattle.akl_terms.specs.declared.name.Name.{Name}
use Rattle.akl_terms.specs.Names.{same_name}
use Rattle.akl_terms.proofs.SameNames.{same_name-refl, same_name-equal}
use Rattle.akl_model.specs.Config.{IsIn}
use Rattle.table_laws.specs.Rows.{BoxRow}
use Rattle.table_laws.specs.Writes.{set, unset}

pub other_by : (n m : Name) → (n ≡ m → ⊥) → same_name n m ≡ false
other_by n m h = on (same_name n m) refl
  where
    on : (t : Bool) → same_name n m ≡ t → same_name n m ≡ false
    on true e = absurd (h (same_name-equal n m e))
    on false e = e

pub other_name : (n m : Name) → same_name n m ≡ false → n ≡ m → ⊥
other_name n m e q = let k : same_name n m ≡ true = subst (λ (x : Name). same_name n x ≡ true) q (same_name-refl n) in cc

pub turned : (n m : Name) → same_name n m ≡ false → same_name m n ≡ false
turned n m e = other_by m n (λ q. let k : same_name n m ≡ true = subst (λ (x : Name). same_name x m ≡ true) q (same_name-refl m) in cc)

pub not_some : {A : Type 0} {v : A} → None ≡ Some v → ⊥
not_some e = cc

pub set_here : {A : Type 0} (g m : Name) (r : Option A) (at : Name → Option A) → same_name m g ≡ true → set g r at m ≡ r
set_here g m r at e = ap (λ (t : Bool). if t then r else at m) e

pub set_other : {A : Type 0} (g m : Name) (r : Option A) (at : Name → Option A) → same_name m g ≡ false → set g r at m ≡ at m
set_other g m r at e = ap (λ (t : Bool). if t then r else at m) e

-- boxes that go

pub unset_here : (ns : List Name) (at : Name → Option BoxRow) (m : Name) → IsIn m ns → unset ns at m ≡ None
unset_here [] at m i = absurd i
unset_here (n ∷ ns) at m i = on (same_name m n) refl i (λ j. unset_here ns at m j)
  where
    on : (t : Bool) → same_name m n ≡ t → (m ≡ n) ⊎ IsIn m ns → (IsIn m ns → unset ns at m ≡ None) → unset (n ∷ ns) at m ≡ None
    on true e j f = set_here n m None (unset ns at) e
    on false e (inl q) f = absurd (other_name m n e q)
    on false e (inr j) f = set_other n m None (unset ns at) e ∙ f j

pub unset_other : (ns : List Name) (at : Name → Option BoxRow) (m : Name) → (IsIn m ns → ⊥) → unset ns at m ≡ at m
unset_other [] at m h = refl
unset_other (n ∷ ns) at m h = set_other n m None (unset ns at) (other_by m n (λ e. h (inl e))) ∙ unset_other ns at m (λ i. h (inr i))

pub in_or : (m : Name) (ns : List Name) → IsIn m ns ⊎ (IsIn m ns → ⊥)
in_or m [] = inr (λ i. i)
in_or m (n ∷ ns) = on (same_name m n) refl (in_or m ns)
  where
    on : (t : Bool) → same_name m n ≡ t → IsIn m ns ⊎ (IsIn m ns → ⊥) → IsIn m (n ∷ ns) ⊎ (IsIn m (n ∷ ns) → ⊥)
    on true e h = inl (inl (same_name-equal m n e))
    on false e (inl i) = inl (inr i)
    on false e (inr h) = inr (λ i. elim i [ inl q ↦ other_name m n e q | inr j ↦ h j ])

-- Rows that are set under a name.
use Rattle.std.proofs.Common.{◌≡◌, Bool, true, false, Option, Some, None, refl, sym, ◌∙◌, ap, subst, ◌⊎◌, inl, inr}
use Rattle.std.specs.Prelude.{option_map, if◌then◌else◌, IsSome}
use Rattle.akl_terms.specs.declared.name.Name.{Name}
use Rattle.akl_terms.specs.Names.{same_name}
use Rattle.akl_terms.proofs.SameNames.{same_name-refl, same_name-equal}
use Rattle.akl_model.proofs.Options.{some_value, map_some}
use Rattle.table_laws.specs.Rows.{BoxRow}
use Rattle.table_laws.specs.Writes.{set, changed_box}

pub some_none : {A : Type 0} {o : Option A} {v : A} → o ≡ None → o ≡ Some v → ⊥
some_none e i = cc

pub there_some : {A : Type 0} {o : Option A} {a : A} → o ≡ Some a → IsSome o
there_some {A} {o} {a} e = subst (λ (q : Option A). IsSome q) (sym e) refl

pub set_itself : {A : Type 0} (n : Name) (r : Option A) (at : Name → Option A) → set n r at n ≡ r
set_itself n r at = ap (λ (b : Bool). if b then r else at n) (same_name-refl n)

pub set_or : {A : Type 0} (n : Name) (r : Option A) (at : Name → Option A) (m : Name) → ((m ≡ n) × (set n r at m ≡ r)) ⊎ (set n r at m ≡ at m)
set_or n r at m = on (same_name m n) refl
  where
    on : (b : Bool) → same_name m n ≡ b → ((m ≡ n) × ((if b then r else at m) ≡ r)) ⊎ ((if b then r else at m) ≡ at m)
    on true e = inl (same_name-equal m n e, refl)
    on false e = inr refl

-- under a name that has nothing, nothing comes

pub emptied_none : {A : Type 0} (n : Name) (at : Name → Option A) (m : Name) → at m ≡ None → set n None at m ≡ None
emptied_none n at m e = elim (set_or n None at m) [ inl w ↦ w.1 | inr w ↦ w ∙ e ]

pub replaced_none : {A : Type 0} (n : Name) (change : A → A) (at : Name → Option A) (m : Name) → at m ≡ None → set n (option_map change (at n)) at m ≡ None
replaced_none n change at m e = elim (set_or n (option_map change (at n)) at m) [
  | inl w ↦ w.1 ∙ ap (option_map change) (ap at (sym w.0) ∙ e)
  | inr w ↦ w ∙ e
]

pub changed_none : (o : Option Name) (change : BoxRow → BoxRow) (at : Name → Option BoxRow) (m : Name) → at m ≡ None → changed_box o change at m ≡ None
changed_none None change at m e = e
changed_none (Some n) change at m e = replaced_none n change at m e

-- a part of a box's row is what it was, where the change keeps it
pub kept_part : {A : Type 0} (part : BoxRow → A) (o : Option Name) (change : BoxRow → BoxRow) (at : Name → Option BoxRow) (m : Name) (w v : BoxRow) → ((r : BoxRow) → part (change r) ≡ part r) → at m ≡ Some w
    → changed_box o change at m ≡ Some v → part v ≡ part w
kept_part part None change at m w v keeps i j = ap part (some_value (sym j ∙ i))
kept_part part (Some n) change at m w v keeps i j = elim (set_or n (option_map change (at n)) at m) [
  | inl y ↦
      let z : (u : BoxRow) × (at n ≡ Some u) × (change u ≡ v) = map_some change (at n) v (sym y.1 ∙ j) in
      let q : z.0 ≡ w = some_value (sym z.1 ∙ ap at (sym y.0) ∙ i) in
      ap part (sym z.2) ∙ keeps z.0 ∙ ap part q
  | inr y ↦ ap part (some_value (sym j ∙ y ∙ i))
]

-- What is in scope on the path to a box, and which variables are closed there.
use Rattle.std.proofs.Common.{◌≡◌, ◌+◌, ◌≤◌, ◌<◌, List, [], ◌∷◌, ◌++◌, Bool, true, false, Some, None, refl, sym, ◌∙◌, ap, subst, ◌⊎◌, inl, inr, arith, append_assoc}
use Rattle.std.specs.Prelude.{if◌then◌else◌, option_map}
use Rattle.akl_terms.specs.declared.name.Name.{Name}
use Rattle.akl_terms.specs.declared.name.Var.{Var}
use Rattle.akl_terms.specs.Equal.{Equations, IsTold, told, Follows, IsConsistent}
use Rattle.akl_terms.proofs.EqualLaws.{IsConsistent-follows, IsTold-left}
use Rattle.akl_model.specs.Config.{IsIn, Content, Boxes, no_boxes, box, Goals, no_goals, atom, choice, Config, Found, equations_of, whole, or_else, within, box_at, box_inside}
use Rattle.akl_model.specs.Stable.{only}
use Rattle.akl_model.specs.Names.{times_in}
use Rattle.akl_model.specs.Scopes.{Scope, nowhere, scope_in, EquationsScoped, BoxesScoped, GoalsScoped}
use Rattle.akl_model.proofs.Finds.{times, times_of}
use Rattle.akl_model.proofs.Options.{map_some, or_some, some_value}
use Rattle.akl_model.proofs.Scoped.{IsIn-either}
use Rattle.akl_model.proofs.Owned.{owned_scoped}
use Rattle.plan_laws.proofs.InScope.{Good}
use Rattle.constraint_laws.proofs.StandsGrow.{same_told_stands}
use Rattle.reading_laws.specs.Closed.{AreClosed}
use Rattle.reading_laws.specs.Unchanged.{path_to, StandAlong, ClosedAlong, AllOver, AreEnough}
use Rattle.akl_terms.specs.Standing.{StandFor}
use Rattle.reading_laws.proofs.Path.{nil_right}
use Rattle.reading_laws.proofs.PathGrows.{ClosedInside, ClosedFrom}
use Rattle.reading_laws.proofs.Steps.{path_whole}
use Rattle.akl_terms.specs.Names.{same_name}
use Rattle.akl_model.proofs.ScopesAlong.{times_path, found_path, counted_in}

-- what stands is in scope
pub scoped_all : (c : Config) → Good c → BoxesScoped nowhere c.roots
scoped_all c w = owned_scoped nowhere nowhere (record { frames = λ n x. x; ports = λ n x. x }) c.roots w.owned

-- each box on a path has its equations in scope
abbrev pub PathScoped : Scope → List Content → Type 0
PathScoped s [] = Unit {0}
PathScoped s (b ∷ bs) = EquationsScoped (scope_in s b) b.equations × PathScoped (scope_in s b) bs

mutual
  pub path_scoped : (s : Scope) (m : Name) (bs : Boxes) (f : Found) → BoxesScoped s bs → box_at m bs ≡ Some f → PathScoped s (path_to f)
  path_scoped s m no_boxes f h e = cc
  path_scoped s m (box b gs bs) f h e = on (same_name m b.name) e (λ k i. path_scoped_inside (scope_in s b) m gs k h.1 i) (λ i. path_scoped s m bs f h.2 i)
    where
      on : (t : Bool) → (if t then Some (record { around = []; content = b; goals = gs }) else or_else (option_map (within b) (box_inside m gs)) (box_at m bs)) ≡ Some f
          → ((k : Found) → box_inside m gs ≡ Some k → PathScoped (scope_in s b) (path_to k)) → (box_at m bs ≡ Some f → PathScoped s (path_to f)) → PathScoped s (path_to f)
      on true i x y = subst (λ (k : Found). PathScoped s (path_to k)) (some_value i) (h.0.equations, tt)
      on false i x y = elim (or_some (option_map (within b) (box_inside m gs)) (box_at m bs) f i) [
        | inl j ↦ let w : (k : Found) × (box_inside m gs ≡ Some k) × (within b k ≡ f) = map_some (within b) (box_inside m gs) f j in subst (λ (k : Found). PathScoped s (path_to k)) w.2 (h.0.equations, x w.0 w.1)
        | inr j ↦ y j.1
      ]

  path_scoped_inside : (s : Scope) (m : Name) (gs : Goals) (f : Found) → GoalsScoped s gs → box_inside m gs ≡ Some f → PathScoped s (path_to f)
  path_scoped_inside s m no_goals f h e = cc
  path_scoped_inside s m (atom g a gs) f h e = path_scoped_inside s m gs f h.1 e
  path_scoped_inside s m (choice g o bs gs) f h e = on (or_some (box_at m bs) (box_inside m gs) f e) (λ i. path_scoped s m bs f h.0 i) (λ i. path_scoped_inside s m gs f h.1 i)
    where
      on : (box_at m bs ≡ Some f) ⊎ ((box_at m bs ≡ None) × (box_inside m gs ≡ Some f)) → (box_at m bs ≡ Some f → PathScoped s (path_to f)) → (box_inside m gs ≡ Some f → PathScoped s (path_to f)) → PathScoped s (path_to f)
      on (inl i) x y = x i
      on (inr i) x y = y i.1

-- names on the path and in the scope around it stand once
abbrev pub CountedOnce : Scope → List Content → Type 0
CountedOnce s bs = (n : Name) → IsIn n s.frames → times_path n bs ≡ 0

pub once_further : (s : Scope) (b : Content) (bs : List Content) → ((n : Name) → times_path n (b ∷ bs) ≤ 1) → CountedOnce s (b ∷ bs) → CountedOnce (scope_in s b) bs
once_further s b bs o u n h = elim (IsIn-either n b.frames s.frames h) [
  | inl i ↦ let c : 0 < times_in n b.frames = counted_in n b.frames i in let k : times_path n (b ∷ bs) ≤ 1 = o n in omega arith
  | inr i ↦ let k : times_path n (b ∷ bs) ≡ 0 = u n i in omega arith
]

module _ (R : Var → Type 0) (W : Equations) (c : IsConsistent W) where
  closed_from : (E S : Equations) (bs : List Content) (Ds : List Equations) → Follows (E ++ equations_of bs) W → StandAlong E S bs Ds → ClosedAlong R S Ds → AllOver R Ds → ClosedInside R E S bs
  closed_from E S [] [] g w a o = tt
  closed_from E S [] (D ∷ Ds) g w a o = absurd w
  closed_from E S (b ∷ bs) [] g w a o = absurd w
  closed_from E S (b ∷ bs) (D ∷ Ds) g w a o = (
    record { first = D; since = []; over = o.0; is_told = record { each = λ p q m. absurd m }; own = record { each = λ p q m. absurd m } },
    subst (λ (X : Equations). AreClosed R (S ++ X)) (sym (nil_right D)) a.0,
    subst (λ (X : Equations). StandFor (IsTold (S ++ X)) (IsTold (E ++ b.equations))) (sym (nil_right D)) w.0,
    IsConsistent-follows here c,
    subst (λ (X : Equations). ClosedInside R (E ++ b.equations) (S ++ X) bs) (sym (nil_right D))
        (closed_from (E ++ b.equations) (S ++ D) bs Ds (subst (λ (X : Equations). Follows X W) (sym (append_assoc E b.equations (equations_of bs))) g) w.1 a.1 o.1),
  )
    where
      here : Follows (E ++ b.equations) W
      here = record { each = λ {s} {t} m. g.each (subst (λ (X : Equations). IsTold X s t) (append_assoc E b.equations (equations_of bs)) (IsTold-left (E ++ b.equations) (equations_of bs) s t m)) }

-- the path of a box that is found begins at a root box
pub path_counted : (c : Config) (w : Good c) (n : Name) (f : Found) → box_at n c.roots ≡ Some f → (m : Name) → times_path m (path_to f) ≤ 1
path_counted c w n f e m =
    let k : times m (only f) + times_path m f.around ≤ times m c.roots = found_path m n c.roots f e in
    let o : times m c.roots ≤ 1 = w.stand.once m in
    let a : times_path m (f.around ++ f.content ∷ []) ≡ times_path m f.around + times_of m f.content = split m f.around in
    omega arith
  where
    split : (m : Name) (bs : List Content) → times_path m (bs ++ f.content ∷ []) ≡ times_path m bs + times_of m f.content
    split m [] = omega arith
    split m (b ∷ bs) = let i : times_path m (bs ++ f.content ∷ []) ≡ times_path m bs + times_of m f.content = split m bs in omega arith

-- variables of a list that is enough for a box are closed on the path to it
pub closed_at_start : (R : Var → Type 0) (f : Found) → IsConsistent (whole f) → (root : Equations) (own : List Equations) → StandAlong [] [] (path_to f) (root ∷ own) → AllOver R own → ClosedAlong R [] (root ∷ own)
    → (b : Content) × (bs : List Content) × (path_to f ≡ b ∷ bs) × ClosedFrom R b bs
closed_at_start R f h root own w o a = on (path_to f) refl
  where
    on : (xs : List Content) → path_to f ≡ xs → (b : Content) × (bs : List Content) × (path_to f ≡ b ∷ bs) × ClosedFrom R b bs
    on [] r = absurd (no f.around r)
      where
        no : (bs : List Content) → bs ++ f.content ∷ [] ≡ [] → ⊥
        no [] q = cc
        no (b ∷ bs) q = cc
    on (b ∷ bs) r =
        let k : StandAlong [] [] (b ∷ bs) (root ∷ own) = subst (λ (xs : List Content). StandAlong [] [] xs (root ∷ own)) r w in
        let g : Follows (b.equations ++ equations_of bs) (whole f) = record { each = λ {s} {t} m. told (subst (λ (X : Equations). IsTold X s t) (sym (ap equations_of r) ∙ path_whole f) m) } in (
          b,
          bs,
          r,
          (
            root,
            a.0,
            k.0,
            IsConsistent-follows (record { each = λ {s} {t} m. g.each (IsTold-left b.equations (equations_of bs) s t m) }) h,
            closed_from R (whole f) h b.equations root bs own g k.1 a.1 o,
          ),
        )

-- of a root box no variable is needed
pub root_enough : (f : Found) → f.around ≡ [] → AreEnough [] f
root_enough f root = record {
  root = f.content.equations;
  own = [];
  stands = subst (λ (bs : List Content). StandAlong [] [] (bs ++ f.content ∷ []) (f.content.equations ∷ [])) (sym root)
      (same_told_stands f.content.equations f.content.equations (record { each = λ s t m. m }) (record { each = λ s t m. m }), tt);
  all = tt;
  closed = (record { each = λ x i. absurd i }, tt);
}

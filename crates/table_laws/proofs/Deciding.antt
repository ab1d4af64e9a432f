-- A comparison comes to the same in a later box.
use Rattle.std.proofs.Common.{◌≡◌, ℕ, ◌≤◌, true, false, [], ◌∷◌, ◌++◌, Option, Some, None, refl, sym, ◌∙◌, ap, subst, append-nil}
use Rattle.akl_terms.specs.declared.name.Name.{Name}
use Rattle.akl_terms.specs.declared.name.Place.{Place}
use Rattle.akl_terms.specs.declared.program.Program.{Program}
use Rattle.akl_terms.specs.Arithmetic.{value, truth}
use Rattle.akl_terms.specs.Tree.{integer}
use Rattle.akl_terms.specs.Equal.{Equation, Follows}
use Rattle.akl_model.specs.declared.label.Rule.{Rule}
use Rattle.akl_model.specs.declared.label.Label.{Label}
use Rattle.akl_model.specs.Config.{Atom, Content, no_boxes, box, Goals, Held, an_atom, held_in, without_goal, Found, whole}
use Rattle.akl_model.specs.Conditions.{ComesTo}
use Rattle.akl_model.specs.Rules.{Reading, answer, Change, becomes, eval, change_by}
use Rattle.akl_model.specs.Stable.{Allows}
use Rattle.akl_model.proofs.Finds.{times_inside}
use Rattle.akl_model.proofs.Options.{some_value}
use Rattle.table_laws.specs.Steps.{ReducesAtom}
use Rattle.table_laws.proofs.Reducing.{reduced, held_reduced}
use Rattle.table_laws.proofs.PartsTold.{eval_later}
use Rattle.table_laws.proofs.Parts.{rest_same}

-- the same outcome where no equation is told
module _ (g : Name) (f k : Found) (a : Atom) (once : (i : Name) → times_inside i f.goals ≤ 1) (was : held_in g f.goals ≡ Some (an_atom a)) where
  -- what becomes of the goal shows in the goals
  same_goals : (o u : Option Held) → reduced o g f.goals ≡ reduced u g f.goals → reduced o g k.goals ≡ reduced u g k.goals
  same_goals o u e = ap (λ (x : Option Held). reduced x g k.goals) (sym (held_reduced o g (an_atom a) f.goals (once g) was) ∙ ap (held_in g) e ∙ held_reduced u g (an_atom a) f.goals (once g) was)

  on_goals : (o u : Option Held) → Some (becomes f.content (reduced o g f.goals) 0) ≡ Some (becomes f.content (reduced u g f.goals) 0) → Some (becomes k.content (reduced o g k.goals) 0) ≡ Some (becomes k.content (reduced u g k.goals) 0)
  on_goals o u e =
      let b : box f.content (reduced o g f.goals) no_boxes ≡ box f.content (reduced u g f.goals) no_boxes = ap (λ (c : Change). c.boxes) (some_value e) in
      let q : reduced o g f.goals ≡ reduced u g f.goals = cc in
      ap (λ (gs : Goals). Some (becomes k.content gs 0)) (same_goals o u q)

  -- a value would be told
  no_value : (x : Equation) (gs hs : Goals) (m n : ℕ) → Some (becomes (record f.content { equations = f.content.equations ++ x ∷ [] }) gs m) ≡ Some (becomes f.content hs n) → ⊥
  no_value x gs hs m n e =
      let b : box (record f.content { equations = f.content.equations ++ x ∷ [] }) gs no_boxes ≡ box f.content hs no_boxes = ap (λ (c : Change). c.boxes) (some_value e) in
      let c : record f.content { equations = f.content.equations ++ x ∷ [] } ≡ f.content = cc in
      let q : x ∷ [] ≡ [] = rest_same f.content.equations (x ∷ []) [] (ap (λ (z : Content). z.equations) c ∙ sym (append-nil f.content.equations)) in
      absurd cc

  decided : (v : Reading) (b : Atom) (u : Option Held) → eval v g f (Some (an_atom b)) ≡ Some (becomes f.content (reduced u g f.goals) 0) → eval v g k (Some (an_atom b)) ≡ Some (becomes k.content (reduced u g k.goals) 0)
  decided (answer (value z)) (Atom.arithmetic test l r) u e = absurd (no_value (record { left = l; right = integer z }) (without_goal g f.goals) (reduced u g f.goals) 0 0 e)
  decided (answer (truth true)) (Atom.arithmetic test l r) u e = on_goals None u e
  decided (answer (truth false)) (Atom.arithmetic test l r) u e = on_goals (Some (an_atom Atom.fail)) u e
  decided v b u e = absurd cc

-- so what a label makes by it, which tells nothing, it makes later, where it may be made at all
pub decides_later : (p : Program) (l : Label) (next : ℕ) (f k : Found) (g : Name) (u : Option Held) (m : ReducesAtom p l next f g f.content (reduced u g f.goals) 0) → ((i : Name) → times_inside i f.goals ≤ 1)
    → l.rule ≡ Rule.Eval → l.place ≡ Place.Goal g → held_in g k.goals ≡ Some (an_atom m.goal) → Follows (whole f) (whole k) → (v : Reading) → Allows p v l.rule l.place l.alternative k
    → ReducesAtom p l next k g k.content (reduced u g k.goals) 0
decides_later p l next f k g u m once rule place is grows v may = record {
  goal = m.goal;
  held = is;
  makes = record {
    reading = m.makes.reading;
    change = there (λ (r : Rule) (q : Place) (o : Option Name). change_by p m.makes.reading l.worker next r q o k ≡ Some (becomes k.content (reduced u g k.goals) 0))
        (ap (eval m.makes.reading g k) is ∙ decided g f k m.goal once m.held m.makes.reading m.goal u (sym (ap (eval m.makes.reading g f) m.held)
        ∙ here (λ (r : Rule) (q : Place) (o : Option Name). change_by p m.makes.reading l.worker next r q o f ≡ Some (becomes f.content (reduced u g f.goals) 0)) m.makes.change));
    allowed = there (λ (r : Rule) (q : Place) (o : Option Name). Allows p m.makes.reading r q o k)
        (subst (ComesTo p m.makes.reading k) (sym is) (eval_later p l.worker next g f k m.goal m.held is grows m.makes.reading v
        (subst (ComesTo p m.makes.reading f) m.held (here (λ (r : Rule) (q : Place) (o : Option Name). Allows p m.makes.reading r q o f) m.makes.allowed))
        (subst (ComesTo p v k) is (here (λ (r : Rule) (q : Place) (o : Option Name). Allows p v r q o k) may))));
    few_names = m.makes.few_names;
  };
}
  where
    none : (o : Option Name) → change_by p m.makes.reading l.worker next Rule.Eval (Place.Goal g) o f ≡ Some (becomes f.content (reduced u g f.goals) 0) → o ≡ None
    none None e = refl
    none (Some n) e = absurd cc

    is_none : l.alternative ≡ None
    is_none = none l.alternative (subst (λ (r : Rule). change_by p m.makes.reading l.worker next r (Place.Goal g) l.alternative f ≡ Some (becomes f.content (reduced u g f.goals) 0)) rule
        (subst (λ (q : Place). change_by p m.makes.reading l.worker next l.rule q l.alternative f ≡ Some (becomes f.content (reduced u g f.goals) 0)) place m.makes.change))

    here : (P : Rule → Place → Option Name → Type 0) → P l.rule l.place l.alternative → P Rule.Eval (Place.Goal g) None
    here P x = subst (λ (o : Option Name). P Rule.Eval (Place.Goal g) o) is_none (subst (λ (r : Rule). P r (Place.Goal g) l.alternative) rule (subst (λ (q : Place). P l.rule q l.alternative) place x))

    there : (P : Rule → Place → Option Name → Type 0) → P Rule.Eval (Place.Goal g) None → P l.rule l.place l.alternative
    there P x = subst (λ (q : Place). P l.rule q l.alternative) (sym place) (subst (λ (r : Rule). P r (Place.Goal g) l.alternative) (sym rule) (subst (λ (o : Option Name). P Rule.Eval (Place.Goal g) o) (sym is_none) x))

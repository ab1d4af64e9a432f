-- What a label tells for an atom, in its box and in a later one.
use Rattle.std.proofs.Common.{◌≡◌, ℕ, ◌+◌, List, [], ◌∷◌, Option, Some, None, refl, sym, ◌∙◌, ap, subst, append_assoc}
use Rattle.akl_terms.specs.declared.name.Name.{Name}
use Rattle.akl_terms.specs.declared.name.Place.{Place}
use Rattle.akl_terms.specs.declared.program.Program.{Program}
use Rattle.akl_terms.specs.Arithmetic.{value}
use Rattle.akl_terms.specs.Equal.{Equation, Equations, Follows, IsConsistent}
use Rattle.constraint_laws.proofs.Values.{Evaluates-one, port_one}
use Rattle.akl_model.specs.declared.label.Rule.{Rule}
use Rattle.akl_model.specs.Config.{Atom, Held, an_atom, held_in, without_goal, with_name, with_tail, Port, Found, whole}
use Rattle.akl_model.specs.Instances.{term_at}
use Rattle.akl_model.specs.Conditions.{ComesTo, GoesTo}
use Rattle.akl_model.specs.Rules.{Reading, nothing, answer, receiver, Change, becomes, tell, eval, open_new, send_to, send_by, change_by}
use Rattle.akl_model.specs.Stable.{Allows}
use Rattle.plan_laws.specs.Local.{Told, told_to}
use Rattle.plan_laws.proofs.GrownReads.{ReadsStill, reads_still}
use Rattle.table_laws.specs.Telling.{IsToldFor}

-- something is told
pub told_some : (p : Program) (v : Reading) (w next : ℕ) (r : Rule) (ports : List Port) (a : Atom) (told : Told) → IsToldFor p v w next r ports a told → (first : Equation) × (more : Equations) × (told.equations ≡ first ∷ more)
told_some p v w next Rule.Tell ports (Atom.equation s t) told e = (_, _, ap (λ (x : Told). x.equations) e)
told_some p (answer (value z)) w next Rule.Eval ports (Atom.arithmetic test l r) told e = (_, _, ap (λ (x : Told). x.equations) e)
told_some p v w next Rule.Open ports (Atom.open_port s stream) told e = (_, _, ap (λ (x : Told). x.equations) e)
told_some p (receiver n) w next Rule.Send ports (Atom.send m r) told e = (_, _, ap (λ (x : Told). x.equations) e.2)
told_some p v w next _ ports _ told e = absurd e

-- how many names are drawn for it
abbrev pub drawn_for : Rule → ℕ
drawn_for Rule.Open = 1
drawn_for Rule.Send = 1
drawn_for r = 0

-- and the label makes this of its box
pub makes_told : (p : Program) (v : Reading) (w next : ℕ) (r : Rule) (g : Name) (f : Found) (a : Atom) (told : Told) → held_in g f.goals ≡ Some (an_atom a) → IsToldFor p v w next r f.content.ports a told
    → change_by p v w next r (Place.Goal g) None f ≡ Some (becomes (told_to told f.content) (without_goal g f.goals) (drawn_for r))
makes_told p v w next Rule.Tell g f (Atom.equation s t) told h e =
    ap (tell g f) h ∙ ap (λ (x : Told). Some (becomes (told_to x f.content) (without_goal g f.goals) 0)) (sym e)
makes_told p (answer (value z)) w next Rule.Eval g f (Atom.arithmetic test l r) told h e =
    ap (eval (answer (value z)) g f) h ∙ ap (λ (x : Told). Some (becomes (told_to x f.content) (without_goal g f.goals) 0)) (sym e)
makes_told p v w next Rule.Open g f (Atom.open_port s stream) told h e =
    ap (open_new w next g f) h ∙ ap (λ (x : Told). Some (becomes (told_to x f.content) (without_goal g f.goals) 1)) (sym e)
makes_told p (receiver n) w next Rule.Send g f (Atom.send m r) told h e =
    ap (send_by p w next (receiver n) g f) h ∙ ap (send_to p w next g m f) e.1
    ∙ ap (λ (E : Equations). Some (becomes (record f.content { frames = with_name frame f.content.frames; equations = E; ports = with_tail e.0.name (term_at p.templates.nodes frame (p.cell + 1)) f.content.ports }) (without_goal g f.goals) 1))
    (append_assoc f.content.equations (record { left = e.0.tail; right = term_at p.templates.nodes frame (p.cell + 2) } ∷ []) (record { left = term_at p.templates.nodes frame p.cell; right = m } ∷ []))
    ∙ ap (λ (x : Told). Some (becomes (told_to x f.content) (without_goal g f.goals) 1)) (sym e.2)
  where
    frame : Name
    frame = record { worker = w; number = next }
makes_told p v w next _ g f _ told h e = absurd e

-- such a label names no alternative
pub names_none : (p : Program) (v : Reading) (w next : ℕ) (r : Rule) (ports : List Port) (a : Atom) (told : Told) → IsToldFor p v w next r ports a told → (g : Name) (o : Option Name) (f : Found) (ch : Change)
    → change_by p v w next r (Place.Goal g) o f ≡ Some ch → o ≡ None
names_none p v w next r ports a told e g None f ch i = refl
names_none p v w next Rule.Tell ports a told e g (Some n) f ch i = absurd cc
names_none p v w next Rule.Eval ports a told e g (Some n) f ch i = absurd cc
names_none p v w next Rule.Open ports a told e g (Some n) f ch i = absurd cc
names_none p v w next Rule.Send ports a told e g (Some n) f ch i = absurd cc
names_none p v w next _ ports a told e g (Some n) f ch i = absurd e

-- in a box where the equations have grown it may be made by what it read, where it may be made at all
module _ (p : Program) (w next : ℕ) (g : Name) (f k : Found) (a : Atom) (was : held_in g f.goals ≡ Some (an_atom a)) (is : held_in g k.goals ≡ Some (an_atom a)) (grows : Follows (whole f) (whole k)) where
  abbrev kept : IsConsistent (whole k) → ReadsStill p.templates.symbols (whole f) (whole k)
  kept h = reads_still p.templates.symbols (whole f) (whole k) grows h

  pub eval_later : (v u : Reading) → ComesTo p v f (Some (an_atom a)) → ComesTo p u k (Some (an_atom a)) → ComesTo p v k (Some (an_atom a))
  eval_later v u x y = on v u a x y
    where
      on : (v u : Reading) (b : Atom) → ComesTo p v f (Some (an_atom b)) → ComesTo p u k (Some (an_atom b)) → ComesTo p v k (Some (an_atom b))
      on (answer z) (answer y) (Atom.arithmetic test l r) x u = (u.0, (kept u.0).evaluates test l r z x.1)
      on (answer z) nothing (Atom.arithmetic test l r) x u = absurd u
      on (answer z) (receiver q) (Atom.arithmetic test l r) x u = absurd u
      on _ _ _ x u = absurd x

  send_later : (v u : Reading) → GoesTo v f (Some (an_atom a)) → GoesTo u k (Some (an_atom a)) → GoesTo v k (Some (an_atom a))
  send_later v u x y = on v u a x y
    where
      on : (v u : Reading) (b : Atom) → GoesTo v f (Some (an_atom b)) → GoesTo u k (Some (an_atom b)) → GoesTo v k (Some (an_atom b))
      on (receiver q) (receiver z) (Atom.send m r) x u = (u.0, (kept u.0).port r q x.1)
      on (receiver q) nothing (Atom.send m r) x u = absurd u
      on (receiver q) (answer z) (Atom.send m r) x u = absurd u
      on _ _ _ x u = absurd x

  pub allowed_later : (v u : Reading) (r : Rule) (ports : List Port) (told : Told) → IsToldFor p v w next r ports a told → Allows p v r (Place.Goal g) None f → Allows p u r (Place.Goal g) None k → Allows p v r (Place.Goal g) None k
  allowed_later v u Rule.Tell ports told e x y = tt
  allowed_later v u Rule.Open ports told e x y = tt
  allowed_later v u Rule.Eval ports told e x y = subst (ComesTo p v k) (sym is) (eval_later v u (subst (ComesTo p v f) was x) (subst (ComesTo p u k) is y))
  allowed_later v u Rule.Send ports told e x y = subst (GoesTo v k) (sym is) (send_later v u (subst (GoesTo v f) was x) (subst (GoesTo u k) is y))
  allowed_later v u _ ports told e x y = absurd e

-- what is read in a box is one thing
module _ (p : Program) (f : Found) where
  one_answer : (v u : Reading) (h : Option Held) → ComesTo p v f h → ComesTo p u f h → v ≡ u
  one_answer (answer a) (answer b) (Some (an_atom (Atom.arithmetic test l r))) x y = ap answer (Evaluates-one x.0 x.1 y.1)
  one_answer (answer a) nothing (Some (an_atom (Atom.arithmetic test l r))) x y = absurd y
  one_answer (answer a) (receiver q) (Some (an_atom (Atom.arithmetic test l r))) x y = absurd y
  one_answer _ u _ x y = absurd x

  one_receiver : (v u : Reading) (h : Option Held) → GoesTo v f h → GoesTo u f h → v ≡ u
  one_receiver (receiver q) (receiver r) (Some (an_atom (Atom.send m t))) x y = ap receiver (port_one (whole f) x.0 x.1 y.1)
  one_receiver (receiver q) nothing (Some (an_atom (Atom.send m t))) x y = absurd y
  one_receiver (receiver q) (answer a) (Some (an_atom (Atom.send m t))) x y = absurd y
  one_receiver _ u _ x y = absurd x

  pub one_change : (v u : Reading) (w next : ℕ) (r : Rule) (g : Name) (ports : List Port) (a : Atom) (told : Told) → IsToldFor p v w next r ports a told → Allows p v r (Place.Goal g) None f → Allows p u r (Place.Goal g) None f
      → change_by p v w next r (Place.Goal g) None f ≡ change_by p u w next r (Place.Goal g) None f
  one_change v u w next Rule.Tell g ports a told e x y = refl
  one_change v u w next Rule.Open g ports a told e x y = refl
  one_change v u w next Rule.Eval g ports a told e x y = ap (λ (z : Reading). change_by p z w next Rule.Eval (Place.Goal g) None f) (one_answer v u (held_in g f.goals) x y)
  one_change v u w next Rule.Send g ports a told e x y = ap (λ (z : Reading). change_by p z w next Rule.Send (Place.Goal g) None f) (one_receiver v u (held_in g f.goals) x y)
  one_change v u w next _ g ports a told e x y = absurd e

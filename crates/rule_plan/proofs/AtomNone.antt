-- Atoms of which no rule makes anything.
use Rattle.std.proofs.Common.{◌≡◌, ℕ, ◌<◌, ◌≤◌, ◌^◌, Some, sym, ◌∙◌, ap, subst, inl, inr, arith}
use Rattle.std.specs.Prelude.{slice_get, slice_index, ⊤}
use Rattle.akl_terms.specs.declared.name.Name.{Name}
use Rattle.akl_terms.specs.declared.name.Place.{Place}
use Rattle.akl_terms.specs.declared.program.Definition.{Definition}
use Rattle.akl_terms.specs.declared.program.Program.{Program}
use Rattle.akl_terms.specs.Arithmetic.{Answer, Evaluates}
use Rattle.akl_terms.specs.Equal.{Equal, IsConsistent}
use Rattle.akl_terms.specs.Tree.{port}
use Rattle.akl_model.specs.Config.{Atom, Operator, Boxes, no_boxes, box, no_goals, an_atom, a_choice, held_in, Port, port_in, Found, whole}
use Rattle.akl_model.specs.Instances.{drawn_by}
use Rattle.akl_model.specs.Rules.{Change, operator_of}
use Rattle.akl_model.proofs.Options.{some_value}
use Rattle.akl_model.proofs.RuleCases.{PlainCase, tells, forks, evaluates, opens, sends, fails, cuts, promotes, collects, Makes-case}
use Rattle.box_tree.specs.Views.{ViewValue, IsViewOf}
use Rattle.guard_plan.specs.Planned.{HasNoRule}
use Rattle.guard_plan.proofs.HasNone.{has_none}

-- no rule makes anything of an atom in a box
abbrev pub IsInert : Program → Found → Atom → Type 0
IsInert p f (Atom.equation s t) = ⊥
IsInert p f (Atom.arithmetic test l r) = (a : Answer) → IsConsistent (whole f) → Evaluates p.templates.symbols (whole f) test l r a → ⊥
IsInert p f (Atom.open_port r s) = ⊥
IsInert p f (Atom.send m r) = (q : Name) (k : Port) → IsConsistent (whole f) → Equal (whole f) r (port q) → port_in q f.content.ports ≡ Some k → ⊥
IsInert p f (Atom.call d ts r) = (x : Definition) (o : Operator) → slice_get p.definitions d ≡ Some x → operator_of x.op r ≡ Some o → 2 ^ 32 ≤ drawn_by x.clauses
IsInert p f Atom.fail = ⊤

module _ (p : Program) (w next : ℕ) (f : Found) (c : Change) (g : Name) (a : Atom) (held : held_in g f.goals ≡ Some (an_atom a)) (inert : IsInert p f a) (few : c.drawn < 2 ^ 32) where
  -- the atom that a rule found is this one
  is_atom : (i : Name) (b : Atom) → held_in i f.goals ≡ Some (an_atom b) → Place.Goal i ≡ Place.Goal g → IsInert p f b
  is_atom i b e r =
      let j : i ≡ g = cc in
      let z : an_atom a ≡ an_atom b = some_value (sym held ∙ ap (λ (n : Name). held_in n f.goals) (sym j) ∙ e) in
      let y : a ≡ b = cc in
      subst (IsInert p f) y inert

  no_choice : (i : Name) (o : Operator) (bs : Boxes) → held_in i f.goals ≡ Some (a_choice o bs) → Place.Goal i ≡ Place.Goal g → ⊥
  no_choice i o bs e r =
      let j : i ≡ g = cc in
      let z : an_atom a ≡ a_choice o bs = some_value (sym held ∙ ap (λ (n : Name). held_in n f.goals) (sym j) ∙ e) in
      cc

  no_case : {place : Place} → PlainCase p w next f c place → place ≡ Place.Goal g → ⊥
  no_case (tells i s t e z) r = is_atom i (Atom.equation s t) e r
  no_case (forks i d ts r x o e y u z) q =
      let m : 2 ^ 32 ≤ drawn_by x.clauses = is_atom i (Atom.call d ts r) e q x o y u in
      let n : drawn_by x.clauses ≡ c.drawn = ap (λ (k : Change). k.drawn) (some_value z) in
      omega arith
  no_case (evaluates i test l r b e y v z) u = is_atom i (Atom.arithmetic test l r) e u b y v
  no_case (opens i s t e z) r = is_atom i (Atom.open_port s t) e r
  no_case (sends i m t q k e y v u z) r = is_atom i (Atom.send m t) e r q k y v u
  no_case (fails n y z) r = cc
  no_case (cuts i n o bs e y z) r = no_choice i o bs e r
  no_case (promotes i n o b e y v z) r = no_choice i o (box b no_goals no_boxes) e r
  no_case (collects i r bs b e y v z) q = no_choice i (Operator.collecting r) bs e q

pub atom_none : (v : ViewValue) (i : IsViewOf v) (g : Name) (a : Atom) → v.place ≡ Place.Goal g → held_in g i.site.goals ≡ Some (an_atom a) → IsInert v.table.program i.site a → HasNoRule v
atom_none v i g a p held inert = has_none v i (λ l change e force m. elim (Makes-case m) [
  | inl x ↦ no_case v.table.program l.worker (slice_index i.table.config.next l.worker) i.site change g a held inert m.few_names x (e ∙ p)
  | inr x ↦ (let z : Place.Goal g ≡ Place.Box x.name = sym (e ∙ p) ∙ x.is_place in cc)
])

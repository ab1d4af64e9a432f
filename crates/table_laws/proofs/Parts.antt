-- A label that told one equation to its box tells it again.
use Rattle.std.proofs.Common.{◌≡◌, ℕ, true, false, List, [], ◌∷◌, ◌++◌, Option, Some, None, refl, sym, ◌∙◌, ap, subst, ◌⊎◌, inl, inr, append-nil}
use Rattle.std.specs.Prelude.{slice_index}
use Rattle.akl_terms.specs.declared.name.Name.{Name}
use Rattle.akl_terms.specs.declared.name.Place.{Place}
use Rattle.akl_terms.specs.declared.program.Program.{Program}
use Rattle.akl_terms.specs.Tree.{Tree, integer}
use Rattle.akl_terms.specs.Arithmetic.{value, truth}
use Rattle.akl_terms.specs.Equal.{Equation, Equations}
use Rattle.akl_model.specs.declared.label.Rule.{Rule}
use Rattle.akl_model.specs.declared.label.Label.{Label}
use Rattle.akl_model.specs.Config.{Atom, no_boxes, box, Content, Goals, Held, Config, an_atom, held_in, with_content, without_goal, Found}
use Rattle.akl_model.specs.Derivations.{Applies}
use Rattle.akl_model.specs.Rules.{Reading, answer, Change, becomes, telling, tell, eval, change_by}
use Rattle.akl_model.proofs.Options.{some_value}
use Rattle.plan_laws.specs.Local.{Told, Becomes, goes, NewGoals, Delta, reduces, told_to, made}
use Rattle.plan_laws.specs.Right.{IsRightOn}
use Rattle.table_laws.specs.Joins.{TellsPart}
use Rattle.table_laws.specs.Parts.{tells_one, TellsOne}

tails : {x y : Equation} {xs ys : Equations} → x ∷ xs ≡ y ∷ ys → xs ≡ ys
tails q = cc

pub rest_same : (A B C : Equations) → A ++ B ≡ A ++ C → B ≡ C
rest_same [] B C q = q
rest_same (x ∷ A) B C q = rest_same A B C (tails q)

-- what these rules make of a box: one equation more and the goal gone, or other goals alone
abbrev Outcome : (g : Name) (f : Found) (ch : Change) → Type 0
Outcome g f ch = ((s : Tree) × (t : Tree) × (ch ≡ becomes (telling s t f.content) (without_goal g f.goals) 0)) ⊎ ((gs : Goals) × (ch.boxes ≡ box f.content gs no_boxes))

tell_out : (g : Name) (f : Found) (ch : Change) (h : Option Held) → tell g f h ≡ Some ch → Outcome g f ch
tell_out g f ch (Some (an_atom (Atom.equation s t))) e = inl (s, t, sym (some_value e))
tell_out g f ch _ e = absurd cc

eval_out : (g : Name) (f : Found) (ch : Change) (v : Reading) (h : Option Held) → eval v g f h ≡ Some ch → Outcome g f ch
eval_out g f ch (answer (value z)) (Some (an_atom (Atom.arithmetic test l r))) e = inl (l, integer z, sym (some_value e))
eval_out g f ch (answer (truth true)) (Some (an_atom (Atom.arithmetic test l r))) e = inr (without_goal g f.goals, ap (λ (u : Change). u.boxes) (sym (some_value e)))
eval_out g f ch (answer (truth false)) (Some (an_atom (Atom.arithmetic test l r))) e = inr (with_content g (an_atom Atom.fail) f.goals, ap (λ (u : Change). u.boxes) (sym (some_value e)))
eval_out g f ch _ _ e = absurd cc

outcome : (p : Program) (v : Reading) (w next : ℕ) (r : Rule) (g : Name) (o : Option Name) (f : Found) (ch : Change) → TellsOne r → change_by p v w next r (Place.Goal g) o f ≡ Some ch → Outcome g f ch
outcome p v w next Rule.Tell g None f ch k e = tell_out g f ch (held_in g f.goals) e
outcome p v w next Rule.Eval g None f ch k e = eval_out g f ch v (held_in g f.goals) e
outcome p v w next Rule.Tell g (Some n) f ch k e = absurd cc
outcome p v w next Rule.Eval g (Some n) f ch k e = absurd cc
outcome p v w next _ g o f ch k e = absurd k

module _ (rules : List Rule) (p : Program) (c d : Config) (l : Label) (e : Config) (a : Applies rules p c l e) (r : IsRightOn a d) (g : Name) (kind : TellsOne l.rule) (place : l.place ≡ Place.Goal g)
    (goal : Atom) (held : held_in g r.applies.site.goals ≡ Some (an_atom goal)) (told : Told) (h : Name) (b : Becomes) (n : NewGoals) (is : r.change ≡ reduces told h b n)
    (s t : Tree) (was : a.change ≡ becomes (telling s t a.site.content) (without_goal g a.site.goals) 0) where
  abbrev one : Equations
  one = record { left = s; right = t } ∷ []

  abbrev site : Found
  site = r.applies.site

  -- what is told is this equation
  told_one : told.equations ≡ one
  told_one =
      let q : made (reduces told h b n) a.site ≡ box (telling s t a.site.content) (without_goal g a.site.goals) no_boxes = sym (r.before ∙ ap (λ (u : Delta). made u a.site) is) ∙ ap (λ (u : Change). u.boxes) was in
      let k : told_to told a.site.content ≡ telling s t a.site.content = cc in
      rest_same a.site.content.equations told.equations one (ap (λ (u : Content). u.equations) k)

  now_told : r.applies.change.boxes ≡ made (reduces told h b n) site
  now_told = r.now ∙ ap (λ (u : Delta). made u site) is

  by_outcome : Outcome g site r.applies.change → r.applies.change.boxes ≡ box (telling s t site.content) (without_goal g site.goals) no_boxes
  by_outcome (inl x) =
      let q : box (telling x.0 x.1 site.content) (without_goal g site.goals) no_boxes ≡ made (reduces told h b n) site = sym (ap (λ (u : Change). u.boxes) x.2) ∙ now_told in
      let k : telling x.0 x.1 site.content ≡ told_to told site.content = cc in
      let m : record { left = x.0; right = x.1 } ∷ [] ≡ one = rest_same site.content.equations (record { left = x.0; right = x.1 } ∷ []) told.equations (ap (λ (u : Content). u.equations) k) ∙ told_one in
      ap (λ (u : Change). u.boxes) x.2 ∙ ap (λ (E : Equations). box (record site.content { equations = site.content.equations ++ E }) (without_goal g site.goals) no_boxes) m
  by_outcome (inr x) =
      let q : box site.content x.0 no_boxes ≡ made (reduces told h b n) site = sym x.1 ∙ now_told in
      let k : site.content ≡ told_to told site.content = cc in
      let m : [] ≡ one = rest_same site.content.equations [] told.equations (append-nil site.content.equations ∙ ap (λ (u : Content). u.equations) k) ∙ told_one in
      absurd cc

  now : r.applies.change.boxes ≡ box (telling s t site.content) (without_goal g site.goals) no_boxes
  now = by_outcome (outcome p r.applies.makes.reading l.worker (slice_index d.next l.worker) l.rule g l.alternative site r.applies.change kind
      (subst (λ (x : Place). change_by p r.applies.makes.reading l.worker (slice_index d.next l.worker) l.rule x l.alternative site ≡ Some r.applies.change) place r.applies.makes.change))

  abbrev new : NewGoals
  new = record { worker = l.worker; first = 0; atoms = [] }

  again : IsRightOn a d
  again = record {
    result = r.result;
    applies = r.applies;
    change = reduces (tells_one s t) g goes new;
    before = ap (λ (u : Change). u.boxes) was;
    now = now;
    drawn = r.drawn;
    same_site = r.same_site;
    same_around = r.same_around;
  }

  pub part_still : (k : IsRightOn a d) × (k.applies.site ≡ r.applies.site) × TellsPart a d k g (tells_one s t)
  unfolding again
  part_still = (again, refl, record { new = new; no_goals = refl; change = refl; place = place; goal = goal; held = held; first = record { left = s; right = t }; more = []; equations = refl })

-- What a rule makes in another box with the same goal, and by other next numbers.
use Rattle.std.proofs.Common.{◌≡◌, ℕ, ◌+◌, List, ◌∙◌, length, Bool, true, false, Option, Some, None, refl, ap}
use Rattle.std.specs.Prelude.{if◌then◌else◌, slice_get}
use Rattle.akl_terms.specs.declared.name.Name.{Name}
use Rattle.akl_terms.specs.declared.name.Place.{Place}
use Rattle.akl_terms.specs.declared.program.Clause.{Clause}
use Rattle.akl_terms.specs.declared.program.Definition.{Definition}
use Rattle.akl_terms.specs.declared.program.Program.{Program}
use Rattle.akl_terms.specs.Names.{same_name}
use Rattle.akl_terms.specs.Tree.{Tree}
use Rattle.akl_terms.specs.Arithmetic.{value, truth}
use Rattle.akl_model.specs.declared.label.Rule.{Rule}
use Rattle.akl_model.specs.Config.{Atom, Operator, Content, Boxes, no_boxes, box, Goals, no_goals, Held, an_atom, a_choice, held_in, without_goal, Port, port_in, Found}
use Rattle.akl_model.specs.Instances.{term_at, with_atoms}
use Rattle.akl_model.specs.Rules.{Change, becomes, Reading, answer, receiver, tell, operator_of, fork_as, fork_by, fork, eval, open_new, send_to, send_by, joining, promote, with_collected, gathered, collect_as, collect, ChoiceIn, choice_with, split_at, change_by}
use Rattle.akl_model.proofs.Gathered.{Gathers, gathers}
use Rattle.akl_model.proofs.Options.{some_value}

-- the change that a rule makes of a goal in one box it makes of the goal in another one too, and draws as many names, whatever the next numbers are.
-- A port has to be there
module _ (p : Program) (w before next : ℕ) (g : Name) (f k : Found) where
  abbrev pub DrawsAsMany : Option Change → Change → Type 0
  DrawsAsMany o ch = (x : Change) × (o ≡ Some x) × (x.drawn ≡ ch.drawn)

  drawn_of : (x y : Change) → Some x ≡ Some y → x.drawn ≡ y.drawn
  drawn_of x y e = ap (λ (c : Change). c.drawn) (some_value e)

  pub tell_in : (h : Option Held) (ch : Change) → tell g k h ≡ Some ch → DrawsAsMany (tell g f h) ch
  tell_in (Some (an_atom (Atom.equation s t))) ch e = (_, refl, drawn_of _ ch e)
  tell_in _ ch e = cc

  pub fork_in : (h : Option Held) (ch : Change) → fork p w next g k h ≡ Some ch → DrawsAsMany (fork p w before g f h) ch
  fork_in (Some (an_atom (Atom.call d ts r))) ch e = on (slice_get p.definitions d) e
    where
      by_op : (cs : List Clause) (o : Option Operator) → fork_as p w next g ts cs k o ≡ Some ch → DrawsAsMany (fork_as p w before g ts cs f o) ch
      by_op cs None i = cc
      by_op cs (Some o) i = (_, refl, drawn_of _ ch i)

      on : (o : Option Definition) → fork_by p w next g ts r k o ≡ Some ch → DrawsAsMany (fork_by p w before g ts r f o) ch
      on None i = cc
      on (Some x) i = by_op x.clauses (operator_of x.op r) i
  fork_in _ ch e = cc

  pub eval_in : (v : Reading) (h : Option Held) (ch : Change) → eval v g k h ≡ Some ch → DrawsAsMany (eval v g f h) ch
  eval_in (answer (value z)) (Some (an_atom (Atom.arithmetic test l r))) ch e = (_, refl, drawn_of _ ch e)
  eval_in (answer (truth true)) (Some (an_atom (Atom.arithmetic test l r))) ch e = (_, refl, drawn_of _ ch e)
  eval_in (answer (truth false)) (Some (an_atom (Atom.arithmetic test l r))) ch e = (_, refl, drawn_of _ ch e)
  eval_in _ _ ch e = cc

  pub open_in : (h : Option Held) (ch : Change) → open_new w next g k h ≡ Some ch → DrawsAsMany (open_new w before g f h) ch
  open_in (Some (an_atom (Atom.open_port r s))) ch e = (_, refl, drawn_of _ ch e)
  open_in _ ch e = cc

  pub send_in : (m : Tree) (q r : Port) (ch : Change) → send_to p w next g m k (Some q) ≡ Some ch → DrawsAsMany (send_to p w before g m f (Some r)) ch
  send_in m q r ch e = (_, refl, drawn_of _ ch e)

  pub promote_in : (n : Name) (h : Option Held) (ch : Change) → promote w next g n k h ≡ Some ch → DrawsAsMany (promote w before g n f h) ch
  promote_in n (Some (a_choice o (box a no_goals no_boxes))) ch e = on (same_name n a.name) e
    where
      on : (t : Bool) → (if t then Some (becomes (joining a k.content) (with_atoms w next a.body (without_goal g k.goals)) (length a.body)) else None) ≡ Some ch
          → DrawsAsMany (if t then Some (becomes (joining a f.content) (with_atoms w before a.body (without_goal g f.goals)) (length a.body)) else None) ch
      on true i = (_, refl, drawn_of _ ch i)
      on false i = cc
  promote_in n _ ch e = cc

-- what is gathered is there by other next numbers and other names too
pub gathered_by : (p : Program) (w before next : ℕ) (m n : Name) (r s : Tree) (bs : Boxes) (a : Content) → gathered p w next n r bs ≡ Some a → (b : Content) × (gathered p w before m s bs ≡ Some b)
gathered_by p w before next m n r s no_boxes a e = (_, refl)
gathered_by p w before next m n r s (box b gs bs) a e = on (gathers p w next n r b gs bs a e) (λ t u c x. gathered_by p w (before + 1) (next + 1) m n u t bs c x)
  where
    on : (gs ≡ no_goals) × Gathers p w next n r b bs a → ((t u : Tree) (c : Content) → gathered p w (next + 1) n u bs ≡ Some c → (d : Content) × (gathered p w (before + 1) m t bs ≡ Some d))
        → (c : Content) × (gathered p w before m s (box b gs bs) ≡ Some c)
    on (q, g) f =
        let tail : Tree = term_at p.templates.nodes (record { worker = w; number = before }) (p.cell + 1) in
        let x : (d : Content) × (gathered p w (before + 1) m tail bs ≡ Some d) = f tail (term_at p.templates.nodes (record { worker = w; number = next }) (p.cell + 1)) g.rest g.is_rest in (
          _,
          ap (λ (hs : Goals). gathered p w before m s (box b hs bs)) q
              ∙ ap (λ (o : Option Content). with_collected p (record { worker = w; number = before }) s b b.collected o) x.1
              ∙ ap (λ (o : Option Tree). with_collected p (record { worker = w; number = before }) s b o (Some x.0)) g.is_collected,
        )

module _ (p : Program) (w before next : ℕ) (g : Name) (f k : Found) where
  pub collect_in : (h : Option Held) (ch : Change) → collect p w next g k h ≡ Some ch → DrawsAsMany p w before next g f k (collect p w before g f h) ch
  collect_in (Some (a_choice (Operator.collecting r) bs)) ch e = on (gathered p w next k.content.name r bs) refl e
    where
      on : (o : Option Content) → gathered p w next k.content.name r bs ≡ o → collect_as g bs k o ≡ Some ch
          → DrawsAsMany p w before next g f k (collect_as g bs f (gathered p w before f.content.name r bs)) ch
      on None j i = cc
      on (Some a) j i =
          let x : (b : Content) × (gathered p w before f.content.name r bs ≡ Some b) = gathered_by p w before next f.content.name k.content.name r r bs a j in
          (_, ap (collect_as g bs f) x.1, ap (λ (c : Change). c.drawn) (some_value i))
  collect_in _ ch e = cc

-- a rule makes a change of a box by other next numbers too, and draws as many names
pub other_next : (p : Program) (v : Reading) (w m n : ℕ) (r : Rule) (place : Place) (alternative : Option Name) (f : Found) (c : Change) → change_by p v w m r place alternative f ≡ Some c
    → (d : Change) × (change_by p v w n r place alternative f ≡ Some d) × (d.drawn ≡ c.drawn)
other_next p v w m n Rule.Tell (Place.Goal g) None f c e = (c, e, refl)
other_next p v w m n Rule.Fork (Place.Goal g) None f c e = fork_in p w n m g f f (held_in g f.goals) c e
other_next p v w m n Rule.Eval (Place.Goal g) None f c e = (c, e, refl)
other_next p v w m n Rule.Open (Place.Goal g) None f c e = open_in p w n m g f f (held_in g f.goals) c e
other_next p v w m n Rule.Send (Place.Goal g) None f c e = on v (held_in g f.goals) e
  where
    by : (u : Tree) (o : Option Port) → send_to p w m g u f o ≡ Some c → (d : Change) × (send_to p w n g u f o ≡ Some d) × (d.drawn ≡ c.drawn)
    by u None x = cc
    by u (Some q) x = send_in p w n m g f f u q q c x

    on : (v : Reading) (h : Option Held) → send_by p w m v g f h ≡ Some c → (d : Change) × (send_by p w n v g f h ≡ Some d) × (d.drawn ≡ c.drawn)
    on (receiver q) (Some (an_atom (Atom.send u r))) x = by u (port_in q f.content.ports) x
    on _ _ x = cc
other_next p v w m n Rule.Fail (Place.Box b) None f c e = (c, e, refl)
other_next p v w m n Rule.Cut (Place.Goal g) (Some a) f c e = (c, e, refl)
other_next p v w m n Rule.Promote (Place.Goal g) (Some a) f c e = promote_in p w n m g f f a (held_in g f.goals) c e
other_next p v w m n Rule.Collect (Place.Goal g) None f c e = collect_in p w n m g f f (held_in g f.goals) c e
other_next p v w m n Rule.Split (Place.Box b) (Some a) f c e = on (choice_with a f.goals) e
  where
    on : (o : Option ChoiceIn) → split_at w m a f o ≡ Some c → (d : Change) × (split_at w n a f o ≡ Some d) × (d.drawn ≡ c.drawn)
    on None x = cc
    on (Some k) x = (_, refl, ap (λ (y : Change). y.drawn) (some_value x))
other_next p v w m n Rule.Tell (Place.Goal g) (Some a) f c e = cc
other_next p v w m n Rule.Tell (Place.Box b) a f c e = cc
other_next p v w m n Rule.Fork (Place.Goal g) (Some a) f c e = cc
other_next p v w m n Rule.Fork (Place.Box b) a f c e = cc
other_next p v w m n Rule.Eval (Place.Goal g) (Some a) f c e = cc
other_next p v w m n Rule.Eval (Place.Box b) a f c e = cc
other_next p v w m n Rule.Open (Place.Goal g) (Some a) f c e = cc
other_next p v w m n Rule.Open (Place.Box b) a f c e = cc
other_next p v w m n Rule.Send (Place.Goal g) (Some a) f c e = cc
other_next p v w m n Rule.Send (Place.Box b) a f c e = cc
other_next p v w m n Rule.Fail (Place.Box b) (Some a) f c e = cc
other_next p v w m n Rule.Fail (Place.Goal g) a f c e = cc
other_next p v w m n Rule.Cut (Place.Goal g) None f c e = cc
other_next p v w m n Rule.Cut (Place.Box b) a f c e = cc
other_next p v w m n Rule.Promote (Place.Goal g) None f c e = cc
other_next p v w m n Rule.Promote (Place.Box b) a f c e = cc
other_next p v w m n Rule.Collect (Place.Goal g) (Some a) f c e = cc
other_next p v w m n Rule.Collect (Place.Box b) a f c e = cc
other_next p v w m n Rule.Split (Place.Box b) None f c e = cc
other_next p v w m n Rule.Split (Place.Goal g) a f c e = cc

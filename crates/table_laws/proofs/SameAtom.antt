-- What a label makes of the box of an atom, it makes of one of the same content that has the same atom.
use Rattle.std.proofs.Common.{◌≡◌, ℕ, List, ◌≤◌, true, false, Option, Some, None, sym, ◌∙◌, ap, subst}
use Rattle.std.specs.Prelude.{slice_get}
use Rattle.akl_terms.specs.declared.name.Name.{Name}
use Rattle.akl_terms.specs.declared.name.Place.{Place}
use Rattle.akl_terms.specs.declared.program.Definition.{Definition}
use Rattle.akl_terms.specs.declared.program.Program.{Program}
use Rattle.akl_terms.specs.Arithmetic.{value, truth}
use Rattle.akl_model.specs.declared.label.Rule.{Rule}
use Rattle.akl_model.specs.declared.label.Label.{Label}
use Rattle.akl_model.specs.Config.{Atom, Operator, Content, no_boxes, box, Goals, Held, an_atom, a_choice, held_in, Port, port_in, Found}
use Rattle.akl_model.specs.Instances.{instances}
use Rattle.akl_model.specs.Rules.{Reading, answer, receiver, Change, becomes, tell, fork, operator_of, fork_as, fork_by, eval, open_new, send_to, send_by, cut, promote, collect, change_by}
use Rattle.akl_terms.specs.declared.program.Clause.{Clause}
use Rattle.akl_model.specs.Conditions.{ComesTo, GoesTo, MayCut, MayPromote, MayCollect}
use Rattle.akl_model.specs.Stable.{Allows}
use Rattle.akl_model.proofs.Finds.{times_inside}
use Rattle.akl_model.proofs.Options.{some_value}
use Rattle.step_laws.specs.Stays.{IsSameBox}
use Rattle.table_laws.specs.Steps.{ReducesAtom}
use Rattle.table_laws.proofs.Reducing.{reduced, held_reduced}

module _ (p : Program) (w next : ℕ) (g : Name) (f : Found) (hs : Goals) (a : Atom) (once : (i : Name) → times_inside i f.goals ≤ 1) (was : held_in g f.goals ≡ Some (an_atom a)) (is : held_in g hs ≡ Some (an_atom a)) where
  -- with other goals
  abbrev k : Found
  k = record f { goals = hs }

  -- what becomes of the goal shows in the goals
  same_change : (x b : Content) (o u : Option Held) (m n : ℕ) → Some (becomes x (reduced o g f.goals) m) ≡ Some (becomes b (reduced u g f.goals) n) → Some (becomes x (reduced o g hs) m) ≡ Some (becomes b (reduced u g hs) n)
  same_change x b o u m n e =
      let y : becomes x (reduced o g f.goals) m ≡ becomes b (reduced u g f.goals) n = some_value e in
      let boxes : box x (reduced o g f.goals) no_boxes ≡ box b (reduced u g f.goals) no_boxes = ap (λ (k : Change). k.boxes) y in
      let c : x ≡ b = cc in
      let q : reduced o g f.goals ≡ reduced u g f.goals = cc in
      let v : o ≡ u = sym (held_reduced o g (an_atom a) f.goals (once g) was) ∙ ap (held_in g) q ∙ held_reduced u g (an_atom a) f.goals (once g) was in
      λ i. Some (becomes (c i) (reduced (v i) g hs) (ap (λ (k : Change). k.drawn) y i))

  abbrev Result : Content → Option Held → ℕ → Option Change → Type 0
  Result b u n o = o ≡ Some (becomes b (reduced u g hs) n)

  abbrev Given : Content → Option Held → ℕ → Option Change → Type 0
  Given b u n o = o ≡ Some (becomes b (reduced u g f.goals) n)

  module _ (b : Content) (u : Option Held) (n : ℕ) where
    tell_same : (x : Atom) → Given b u n (tell g f (Some (an_atom x))) → Result b u n (tell g k (Some (an_atom x)))
    tell_same (Atom.equation s t) e = same_change _ b None u 0 n e
    tell_same x e = cc

    fork_same : (x : Atom) → Given b u n (fork p w next g f (Some (an_atom x))) → Result b u n (fork p w next g k (Some (an_atom x)))
    fork_same (Atom.call d ts r) e = on (slice_get p.definitions d) e
      where
        by_op : (cs : List Clause) (o : Option Operator) → Given b u n (fork_as p w next g ts cs f o) → Result b u n (fork_as p w next g ts cs k o)
        by_op cs None i = cc
        by_op cs (Some o) i = same_change f.content b (Some (a_choice o (instances p.templates.nodes w next ts cs))) u _ n i

        on : (o : Option Definition) → Given b u n (fork_by p w next g ts r f o) → Result b u n (fork_by p w next g ts r k o)
        on None i = cc
        on (Some v) i = by_op v.clauses (operator_of v.op r) i
    fork_same x e = cc

    eval_same : (v : Reading) (x : Atom) → Given b u n (eval v g f (Some (an_atom x))) → Result b u n (eval v g k (Some (an_atom x)))
    eval_same (answer (value z)) (Atom.arithmetic test l r) e = same_change _ b None u 0 n e
    eval_same (answer (truth true)) (Atom.arithmetic test l r) e = same_change f.content b None u 0 n e
    eval_same (answer (truth false)) (Atom.arithmetic test l r) e = same_change f.content b (Some (an_atom Atom.fail)) u 0 n e
    eval_same v x e = cc

    open_same : (x : Atom) → Given b u n (open_new w next g f (Some (an_atom x))) → Result b u n (open_new w next g k (Some (an_atom x)))
    open_same (Atom.open_port s t) e = same_change _ b None u 1 n e
    open_same x e = cc

    send_same : (v : Reading) (x : Atom) → Given b u n (send_by p w next v g f (Some (an_atom x))) → Result b u n (send_by p w next v g k (Some (an_atom x)))
    send_same (receiver q) (Atom.send m r) e = on (port_in q f.content.ports) e
      where
        on : (o : Option Port) → Given b u n (send_to p w next g m f o) → Result b u n (send_to p w next g m k o)
        on None i = cc
        on (Some v) i = same_change _ b None u 1 n i
    send_same v x e = cc

    no_choice : Given b u n None → ⊥
    no_choice e = cc

    change_same : (v : Reading) (r : Rule) (alternative : Option Name) → Given b u n (change_by p v w next r (Place.Goal g) alternative f) → Result b u n (change_by p v w next r (Place.Goal g) alternative k)
    change_same v Rule.Tell None e = ap (tell g k) is ∙ tell_same a (sym (ap (tell g f) was) ∙ e)
    change_same v Rule.Fork None e = ap (fork p w next g k) is ∙ fork_same a (sym (ap (fork p w next g f) was) ∙ e)
    change_same v Rule.Eval None e = ap (eval v g k) is ∙ eval_same v a (sym (ap (eval v g f) was) ∙ e)
    change_same v Rule.Open None e = ap (open_new w next g k) is ∙ open_same a (sym (ap (open_new w next g f) was) ∙ e)
    change_same v Rule.Send None e = ap (send_by p w next v g k) is ∙ send_same v a (sym (ap (send_by p w next v g f) was) ∙ e)
    change_same v Rule.Cut (Some m) e = absurd (no_choice (sym (ap (cut g m f) was) ∙ e))
    change_same v Rule.Promote (Some m) e = absurd (no_choice (sym (ap (promote w next g m f) was) ∙ e))
    change_same v Rule.Collect None e = absurd (no_choice (sym (ap (collect p w next g f) was) ∙ e))
    change_same v r alternative e = cc

  comes_same : (v : Reading) (x : Atom) → ComesTo p v f (Some (an_atom x)) → ComesTo p v k (Some (an_atom x))
  comes_same (answer v) (Atom.arithmetic test l r) y = y
  comes_same v x y = absurd y

  goes_same : (v : Reading) (x : Atom) → GoesTo v f (Some (an_atom x)) → GoesTo v k (Some (an_atom x))
  goes_same (receiver q) (Atom.send m r) y = y
  goes_same v x y = absurd y

  allowed_same : (v : Reading) (r : Rule) (alternative : Option Name) → Allows p v r (Place.Goal g) alternative f → Allows p v r (Place.Goal g) alternative k
  allowed_same v Rule.Tell alternative x = tt
  allowed_same v Rule.Fork alternative x = tt
  allowed_same v Rule.Open alternative x = tt
  allowed_same v Rule.Eval alternative x = subst (ComesTo p v k) (sym is) (comes_same v a (subst (ComesTo p v f) was x))
  allowed_same v Rule.Send alternative x = subst (GoesTo v k) (sym is) (goes_same v a (subst (GoesTo v f) was x))
  allowed_same v Rule.Cut (Some m) x = absurd (subst (MayCut m f) was x)
  allowed_same v Rule.Promote (Some m) x = absurd (subst (MayPromote m f) was x)
  allowed_same v Rule.Collect None x = absurd (subst (MayCollect f) was x)
  allowed_same v r alternative x = absurd x

-- with other goals beside it
other_goals : (p : Program) (l : Label) (next : ℕ) (f : Found) (hs : Goals) (g : Name) (b : Content) (o : Option Held) (drawn : ℕ) (m : ReducesAtom p l next f g b (reduced o g f.goals) drawn)
    → ((i : Name) → times_inside i f.goals ≤ 1) → l.place ≡ Place.Goal g → held_in g hs ≡ Some (an_atom m.goal) → ReducesAtom p l next (record f { goals = hs }) g b (reduced o g hs) drawn
other_goals p l next f hs g b o drawn m once place is = record {
  goal = m.goal;
  held = is;
  makes = record {
    reading = m.makes.reading;
    change = subst (λ (u : Place). change_by p m.makes.reading l.worker next l.rule u l.alternative (record f { goals = hs }) ≡ Some (becomes b (reduced o g hs) drawn)) (sym place)
        (change_same p l.worker next g f hs m.goal once m.held is b o drawn m.makes.reading l.rule l.alternative
        (subst (λ (u : Place). change_by p m.makes.reading l.worker next l.rule u l.alternative f ≡ Some (becomes b (reduced o g f.goals) drawn)) place m.makes.change));
    allowed = subst (λ (u : Place). Allows p m.makes.reading l.rule u l.alternative (record f { goals = hs })) (sym place)
        (allowed_same p l.worker next g f hs m.goal once m.held is m.makes.reading l.rule l.alternative (subst (λ (u : Place). Allows p m.makes.reading l.rule u l.alternative f) place m.makes.allowed));
    few_names = m.makes.few_names;
  };
}

pub same_atom : (p : Program) (l : Label) (next : ℕ) (f k : Found) (g : Name) (b : Content) (o : Option Held) (drawn : ℕ) (m : ReducesAtom p l next f g b (reduced o g f.goals) drawn) → IsSameBox f k
    → ((i : Name) → times_inside i f.goals ≤ 1) → l.place ≡ Place.Goal g → held_in g k.goals ≡ Some (an_atom m.goal) → ReducesAtom p l next k g b (reduced o g k.goals) drawn
same_atom p l next f k g b o drawn m same once place is =
    let q : record f { goals = k.goals } ≡ k = λ i. record { around = same.around i; content = same.content i; goals = k.goals } in
    subst (λ (x : Found). ReducesAtom p l next x g b (reduced o g x.goals) drawn) q (other_goals p l next f k.goals g b o drawn m once place is)

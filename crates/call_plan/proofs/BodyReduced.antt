-- Goals of a body that are reduced by what stores tell are told as the model has it, to a box for whose equations the store stands.
use Rattle.std.proofs.Common.{◌≡◌, ℕ, ◌+◌, List, [], ◌∷◌, ◌++◌, Bool, true, Some, None, refl, sym, ◌∙◌, ap, subst, arith, append_assoc, append-nil}
use Rattle.std.specs.Prelude.{if◌then◌else◌}
use Rattle.akl_terms.specs.declared.name.Name.{Name}
use Rattle.akl_terms.specs.declared.name.Place.{Place}
use Rattle.akl_terms.specs.declared.name.Var.{Var}
use Rattle.akl_terms.specs.declared.program.Code.{Code}
use Rattle.akl_terms.specs.declared.program.Goal.{Goal}
use Rattle.akl_terms.specs.declared.program.Program.{Program}
use Rattle.akl_terms.specs.declared.program.Test.{Test}
use Rattle.akl_terms.specs.declared.term.Node.{Node}
use Rattle.akl_terms.specs.declared.term.Term.{Term}
use Rattle.akl_terms.specs.declared.term.Equation as code
use Rattle.akl_terms.specs.Arithmetic.{Answer, Evaluates, value, truth}
use Rattle.akl_terms.specs.Equal.{Equation, Equations, IsTold, told, IsConsistent}
use Rattle.akl_terms.specs.Standing.{StandFor}
use Rattle.akl_terms.specs.Template.{tree, equation_of}
use Rattle.akl_terms.specs.Tree.{integer}
use Rattle.akl_terms.proofs.EqualLaws.{IsTold-left, IsConsistent-follows}
use Rattle.akl_terms.proofs.SameNames.{same_name-refl}
use Rattle.akl_terms.proofs.StandingLaws.{StandFor-on, StandFor-back}
use Rattle.constraint_laws.specs.Standing.{StandsForConsistent}
use Rattle.constraint_laws.specs.StandingGrows.{AreToldIn}
use Rattle.constraint_laws.proofs.Stands.{answer_stands}
use Rattle.constraint_laws.proofs.StandsGrow.{both_stand, stands_with_more}
use Rattle.akl_model.specs.declared.label.Rule.{Rule}
use Rattle.akl_model.specs.declared.label.Label.{Label}
use Rattle.akl_model.specs.Config.{Atom, Content, Goals, no_goals, atom, an_atom, held_in, without_goal, Found, equations_of}
use Rattle.akl_model.specs.Instances.{atom_of, atoms_of}
use Rattle.akl_model.specs.Rules.{nothing, answer, becomes, telling, tell, eval}
use Rattle.akl_model.specs.Conditions.{Makes, ComesTo}
use Rattle.akl_model.specs.Stable.{Allows}
use Rattle.rational_unify.specs.Solving.{bindings_in, equations_in}
use Rattle.local_store.specs.Bound.{AreNewlyBound}
use Rattle.local_store.specs.Stored.{Stored}
use Rattle.local_store.specs.Chained as chained
use Rattle.local_store.specs.Chained.{ToldBy}
use Rattle.local_store.proofs.NewlyBound.{bound_stands}
use Rattle.table_laws.specs.Rows.{told_in}
use Rattle.table_laws.proofs.Stores.{told_join}
use Rattle.plan_laws.specs.AtOnce as laws
use Rattle.plan_laws.specs.AtOnce.{by, IsOfGuard}
use Rattle.table_laws.specs.Calls.{StandOver, last_told}
use Rattle.box_tree.specs.Edits.{named_atoms}
use Rattle.box_tree.specs.Tables.{goal_atom}
use Rattle.table_laws.proofs.StoreChains.{told_stands}
use Rattle.body_goals.specs.Takes.{within, Takes}
use Rattle.body_goals.specs.Goals.{Tells, equal, valued, Holds, compared}
use Rattle.body_goals.specs.Reduced.{goal_of, name_of, Reduces, finishes, leaves, tells, holds}
use Rattle.call_plan.proofs.BoundThen.{bound_then}

module _ (p : Program) (next : ℕ) (outer : List Content) (around : List Stored) (stands_around : StandFor (IsTold (told_in p.templates.nodes around)) (IsTold (equations_of outer))) (frame : Name) where
  abbrev nodes : List Node
  nodes = p.templates.nodes

  -- a store stands for equations over those around it
  abbrev pub StandsHere : Stored → Equations → Type 0
  StandsHere s E = StandFor (IsTold (told_in nodes around ++ bindings_in nodes s.bindings)) (IsTold (equations_of outer ++ E))

  pub stands_anywhere : (s : Stored) (E : Equations) → StandsHere s E → StandOver nodes (equations_of outer) (equations_of outer ++ E) s.bindings
  stands_anywhere s E h D d = StandFor-on (stands_with_more D (told_in nodes around) (bindings_in nodes s.bindings) (StandFor-on d (StandFor-back stands_around))) h

  told_apart : (s : Stored) → told_in nodes (within around s) ≡ told_in nodes around ++ bindings_in nodes s.bindings
  told_apart s = told_join nodes around (s ∷ []) ∙ ap (λ (E : Equations). told_in nodes around ++ E) (append-nil (bindings_in nodes s.bindings))

  apart_stands : (s : Stored) → StandFor (ToldBy nodes (within around s)) (IsTold (told_in nodes around ++ bindings_in nodes s.bindings))
  apart_stands s = subst (λ (E : Equations). StandFor (ToldBy nodes (within around s)) (IsTold E)) (told_apart s) (told_stands nodes (within around s))

  chain_stands : (s : Stored) (E : Equations) → StandsHere s E → StandFor (ToldBy nodes (within around s)) (IsTold (equations_of outer ++ E))
  chain_stands s E h = StandFor-on (apart_stands s) h

  -- an equation that it takes
  module _ (s t : Stored) (E : Equations) (q : code.Equation) (bound : List Var) (h : StandsHere s E) (k : Takes nodes around s q t bound) where
    one : Equations
    one = equations_in nodes (q ∷ [])

    pub stands_on : StandsHere t (E ++ equation_of nodes q ∷ [])
    stands_on = subst (λ (F : Equations). StandFor (IsTold (told_in nodes around ++ bindings_in nodes t.bindings)) (IsTold F)) (append_assoc (equations_of outer) E (equation_of nodes q ∷ []))
        (StandFor-on (StandFor-back (apart_stands t)) (StandFor-on (StandFor-back k.stands) (StandFor-on (both_stand (chained.equations_of nodes (within around s)) (equations_in nodes (q ∷ [])))
        (stands_with_more (chained.equations_of nodes (within around s)) (equations_of outer ++ E) (equations_in nodes (q ∷ [])) (chain_stands s E h)))))

    pub consistent_on : IsConsistent (equations_of outer ++ (E ++ equation_of nodes q ∷ []))
    consistent_on = (chain_stands t (E ++ equation_of nodes q ∷ []) stands_on).to (k.stands.to k.consistent)

  -- what it binds comes behind what was bound
  module _ (s t : Stored) (q : code.Equation) (first : List Var) (k : Takes nodes around s q t first) (G : Equations) (stands : StandFor (IsTold G) (ToldBy nodes (within around s))) where
    abbrev known : Equations
    known = chained.equations_of nodes (within around s)

    abbrev also : Equations
    also = equation_of nodes q ∷ []

    one_stands : StandFor (IsTold (G ++ equation_of nodes q ∷ [])) (ToldBy nodes (within around t))
    one_stands = StandFor-on (stands_with_more G known also stands) (StandFor-on (StandFor-back (both_stand known also)) k.stands)

    one_good : IsConsistent (G ++ equation_of nodes q ∷ [])
    one_good = (stands_with_more known G also (StandFor-back stands)).to ((both_stand known also).to k.consistent)

    one_told : AreToldIn G (G ++ equation_of nodes q ∷ [])
    one_told = record { each = IsTold-left G also }

    one_bound : AreNewlyBound G G (G ++ equation_of nodes q ∷ []) first
    one_bound = bound_stands known known (known ++ also) G G (G ++ also) (StandFor-back stands) (StandFor-back stands) (stands_with_more known G also (StandFor-back stands)) (record { each = λ u v m. m })
        (IsConsistent-follows (record { each = λ m. told (IsTold-left known also _ _ m) })) first k.newly_bound

  bound_more : (s middle : Stored) (q : code.Equation) (first : List Var) → Takes nodes around s q middle first → (bound : List Var) (more : Equations)
      → ((F G : Equations) → AreToldIn F G → StandFor (IsTold G) (ToldBy nodes (within around middle)) → (xs : List Var) → AreNewlyBound F F G xs → AreNewlyBound F F (G ++ more) (xs ++ bound))
      → (F G : Equations) → AreToldIn F G → StandFor (IsTold G) (ToldBy nodes (within around s)) → (xs : List Var) → AreNewlyBound F F G xs → AreNewlyBound F F (G ++ equation_of nodes q ∷ more) (xs ++ (first ++ bound))
  bound_more s middle q first m bound more on F G g stands xs a =
      subst (AreNewlyBound F F (G ++ equation_of nodes q ∷ more)) (append_assoc xs first bound)
      (subst (λ (H : Equations). AreNewlyBound F F H ((xs ++ first) ++ bound)) (append_assoc G (equation_of nodes q ∷ []) more)
      (on F (G ++ equation_of nodes q ∷ []) (record { each = λ u v k. IsTold-left G (equation_of nodes q ∷ []) u v (g.each u v k) }) (one_stands s middle q first m G stands) (xs ++ first)
      (bound_then F G (G ++ equation_of nodes q ∷ []) g (one_told s middle q first m G stands) (one_good s middle q first m G stands) xs first a (one_bound s middle q first m G stands))))

  -- a goal that is reduced alone
  abbrev alone : Content → Name → Atom → Found
  alone b i a = record { around = outer; content = b; goals = atom i a no_goals }

  held : (i : Name) (a : Atom) → held_in i (atom i a no_goals) ≡ Some (an_atom a)
  held i a = ap (λ (t : Bool). if t then Some (an_atom a) else None) (same_name-refl i)

  gone : (i : Name) (a : Atom) → without_goal i (atom i a no_goals) ≡ no_goals
  gone i a = ap (λ (t : Bool). if t then no_goals else atom i a no_goals) (same_name-refl i)

  module _ (s : Stored) (b : Content) (h : StandsHere s b.equations) (good : IsConsistent (equations_of outer ++ b.equations)) where
    by_stores : StandsForConsistent (chained.equations_of nodes (within around s)) (equations_of outer ++ b.equations)
    by_stores = record { stands = chain_stands s b.equations h; consistent = (chain_stands s b.equations h).back good }

    comes_so : (i : Name) (test : Test) (l r : ℕ) (f : Name) (a : Answer) → Evaluates p.templates.symbols (chained.equations_of nodes (within around s)) test (tree nodes (Term.Mol l f)) (tree nodes (Term.Mol r f)) a
        → ComesTo p (answer a) (alone b i (atom_of nodes f (Code.Arith test l r))) (held_in i (atom i (atom_of nodes f (Code.Arith test l r)) no_goals))
    comes_so i test l r f a e = subst (ComesTo p (answer a) (alone b i (atom_of nodes f (Code.Arith test l r)))) (sym (held i (atom_of nodes f (Code.Arith test l r))))
        (good, answer_stands p.templates.symbols (chained.equations_of nodes (within around s)) (equations_of outer ++ b.equations) by_stores e)

    pub tells_so : (i : Name) (g : Goal) (r : Rule) (q : code.Equation) → Tells p.templates.symbols nodes (within around s) g r q
        → IsOfGuard r × Makes (Allows p) p next (by i.worker r (Place.Goal i) None) (alone b i (goal_atom nodes g)) (becomes (telling (tree nodes q.left) (tree nodes q.right) b) no_goals 0)
    tells_so i _ _ _ (equal l r f) = (
      tt,
      record {
        reading = nothing;
        change = ap (tell i (alone b i (atom_of nodes f (Code.Equal l r)))) (held i (atom_of nodes f (Code.Equal l r)))
            ∙ ap (λ (gs : Goals). Some (becomes (telling (tree nodes (Term.Mol l f)) (tree nodes (Term.Mol r f)) b) gs 0)) (gone i (atom_of nodes f (Code.Equal l r)));
        allowed = tt;
        few_names = omega arith;
      },
    )
    tells_so i _ _ _ (valued test l r f z e) = (
      tt,
      record {
        reading = answer (value z);
        change = ap (eval (answer (value z)) i (alone b i (atom_of nodes f (Code.Arith test l r)))) (held i (atom_of nodes f (Code.Arith test l r)))
            ∙ ap (λ (gs : Goals). Some (becomes (telling (tree nodes (Term.Mol l f)) (integer z) b) gs 0)) (gone i (atom_of nodes f (Code.Arith test l r)));
        allowed = comes_so i test l r f (value z) e;
        few_names = omega arith;
      },
    )

    pub holds_so : (i : Name) (g : Goal) → Holds p.templates.symbols nodes (within around s) g → Makes (Allows p) p next (by i.worker Rule.Eval (Place.Goal i) None) (alone b i (goal_atom nodes g)) (becomes b no_goals 0)
    holds_so i _ (compared test l r f e) = record {
      reading = answer (truth true);
      change = ap (eval (answer (truth true)) i (alone b i (atom_of nodes f (Code.Arith test l r)))) (held i (atom_of nodes f (Code.Arith test l r)))
          ∙ ap (λ (gs : Goals). Some (becomes b gs 0)) (gone i (atom_of nodes f (Code.Arith test l r)));
      allowed = comes_so i test l r f (truth true) e;
      few_names = omega arith;
    }

  -- what is told of goals, named from a number on, to a box with a store, where so many labels came before
  pub record ToldAlong (before so_far : ℕ) (s : Stored) (b : Content) (n : ℕ) (cs : List Code) (ls : List Label) (t : Stored) (left : List (Name × Goal)) (bound : List Var) (count : ℕ) : Type 0 where
    pub after : Content
    pub body : laws.Tells p frame.worker next outer b n (atoms_of nodes frame cs) ls after (named_atoms nodes left)
    pub last : last_told p frame.worker next outer b n (atoms_of nodes frame cs) ls after (named_atoms nodes left) body before so_far ≡ count
    pub more : Equations
    pub equations : after.equations ≡ b.equations ++ more
    pub between : (E rest : Equations) → more ≡ E ++ rest → (bindings : List (Var × Term)) × StandOver nodes (equations_of outer) (equations_of outer ++ (b.equations ++ E)) bindings
    pub stands : StandsHere t after.equations
    pub consistent : IsConsistent (equations_of outer ++ after.equations)
    pub frames : t.frames ≡ s.frames
    pub ports : t.ports ≡ s.ports
    pub bound_on : (F G : Equations) → AreToldIn F G → StandFor (IsTold G) (ToldBy nodes (within around s)) → (xs : List Var) → AreNewlyBound F F G xs → AreNewlyBound F F (G ++ more) (xs ++ bound)

  -- the store stands for what the box has already
  here : (s : Stored) (b : Content) → StandsHere s b.equations → (bindings : List (Var × Term)) × StandOver nodes (equations_of outer) (equations_of outer ++ (b.equations ++ [])) bindings
  here s b h = (s.bindings, subst (λ (E : Equations). StandOver nodes (equations_of outer) (equations_of outer ++ E) s.bindings) (sym (append-nil b.equations)) (stands_anywhere s b.equations h))

  first_of : (x y : Equation) (xs ys : Equations) → x ∷ xs ≡ y ∷ ys → x ≡ y
  first_of x y xs ys e = cc

  rest_of : (x y : Equation) (xs ys : Equations) → x ∷ xs ≡ y ∷ ys → xs ≡ ys
  rest_of x y xs ys e = cc

  none_more : (s : Stored) (b : Content) → StandsHere s b.equations → (E rest : Equations) → [] ≡ E ++ rest → (bindings : List (Var × Term)) × StandOver nodes (equations_of outer) (equations_of outer ++ (b.equations ++ E)) bindings
  none_more s b h [] rest e = here s b h
  none_more s b h (q ∷ E) rest e = cc

  one_more : (s : Stored) (b : Content) → StandsHere s b.equations → (x : Equation) (more : Equations)
      → ((E rest : Equations) → more ≡ E ++ rest → (bindings : List (Var × Term)) × StandOver nodes (equations_of outer) (equations_of outer ++ ((b.equations ++ x ∷ []) ++ E)) bindings)
      → (E rest : Equations) → x ∷ more ≡ E ++ rest → (bindings : List (Var × Term)) × StandOver nodes (equations_of outer) (equations_of outer ++ (b.equations ++ E)) bindings
  one_more s b h x more on [] rest e = here s b h
  one_more s b h x more on (y ∷ E) rest e =
      let k : (bindings : List (Var × Term)) × StandOver nodes (equations_of outer) (equations_of outer ++ ((b.equations ++ x ∷ []) ++ E)) bindings = on E rest (rest_of x y more (E ++ rest) e) in (
        k.0,
        subst (λ (F : Equations). StandOver nodes (equations_of outer) (equations_of outer ++ F) k.0)
            (append_assoc b.equations (x ∷ []) E ∙ ap (λ (z : Equation). b.equations ++ z ∷ E) (first_of x y more (E ++ rest) e)) k.1,
      )

  pub told_along : (b : Content) (before so_far : ℕ) (s : Stored) (n : ℕ) (cs : List Code) (ls : List Label) (t : Stored) (left : List (Name × Goal)) (bound : List Var) (count : ℕ) → StandsHere s b.equations → IsConsistent (equations_of outer ++ b.equations)
      → Reduces p.templates.symbols nodes around frame before so_far s n cs ls t left bound count → ToldAlong before so_far s b n cs ls t left bound count
  told_along b _ _ _ _ _ _ _ _ _ _ h good (finishes before so_far s n) = record {
    after = b;
    body = laws.finishes b n;
    last = refl;
    more = [];
    equations = sym (append-nil b.equations);
    between = none_more s b h;
    stands = h;
    consistent = good;
    frames = refl;
    ports = refl;
    bound_on = λ F G g k xs a. subst (AreNewlyBound F F (G ++ [])) (sym (append-nil xs)) (subst (λ (H : Equations). AreNewlyBound F F H xs) (sym (append-nil G)) a);
  }
  told_along b _ _ _ _ _ _ _ _ _ _ h good (leaves before so_far s n c cs ls t left bound count x) =
      let y : ToldAlong before so_far s b (n + 1) cs ls t left bound count = told_along b before so_far s (n + 1) cs ls t left bound count h good x in
      record {
        after = y.after;
        body = laws.leaves b n (atom_of nodes frame c) (atoms_of nodes frame cs) ls y.after (named_atoms nodes left) y.body;
        last = y.last;
        more = y.more;
        equations = y.equations;
        between = y.between;
        stands = y.stands;
        consistent = y.consistent;
        frames = y.frames;
        ports = y.ports;
        bound_on = y.bound_on;
      }
  told_along b _ _ _ _ _ _ _ _ _ _ h good (tells before so_far s n c cs ls t left bound count r q middle first k m x) =
      let makes : IsOfGuard r × Makes (Allows p) p next (by frame.worker r (Place.Goal (name_of frame n)) None) (alone b (name_of frame n) (atom_of nodes frame c)) (becomes (telling (tree nodes q.left) (tree nodes q.right) b) no_goals 0) =
      tells_so s b h good (name_of frame n) (goal_of frame c) r q k in
      let y : ToldAlong (before + 1) (before + 1) middle (telling (tree nodes q.left) (tree nodes q.right) b) (n + 1) cs ls t left bound count =
      told_along (telling (tree nodes q.left) (tree nodes q.right) b) (before + 1) (before + 1) middle (n + 1) cs ls t left bound count (stands_on s middle b.equations q first h m) (consistent_on s middle b.equations q first h m) x in
      record {
        after = y.after;
        body = laws.tells r b n (atom_of nodes frame c) (tree nodes q.left) (tree nodes q.right) (atoms_of nodes frame cs) ls y.after (named_atoms nodes left) makes.0 makes.1 y.body;
        last = y.last;
        more = equation_of nodes q ∷ y.more;
        equations = y.equations ∙ append_assoc b.equations (equation_of nodes q ∷ []) y.more;
        between = one_more s b h (equation_of nodes q) y.more y.between;
        stands = y.stands;
        consistent = y.consistent;
        frames = y.frames ∙ m.frames;
        ports = y.ports ∙ m.ports;
        bound_on = bound_more s middle q first m bound y.more y.bound_on;
      }
  told_along b _ _ _ _ _ _ _ _ _ _ h good (holds before so_far s n c cs ls t left bound count k x) =
      let y : ToldAlong (before + 1) so_far s b (n + 1) cs ls t left bound count = told_along b (before + 1) so_far s (n + 1) cs ls t left bound count h good x in
      record {
        after = y.after;
        body = laws.holds Rule.Eval b n (atom_of nodes frame c) (atoms_of nodes frame cs) ls y.after (named_atoms nodes left) tt (holds_so s b h good (name_of frame n) (goal_of frame c) k) y.body;
        last = y.last;
        more = y.more;
        equations = y.equations;
        between = y.between;
        stands = y.stands;
        consistent = y.consistent;
        frames = y.frames;
        ports = y.ports;
        bound_on = y.bound_on;
      }

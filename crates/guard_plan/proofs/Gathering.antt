-- What solved alternatives have together, by what is seen of them.
use Rattle.std.proofs.Common.{◌≡◌, ℕ, ◌+◌, List, [], ◌∷◌, ◌++◌, Option, Some, None, true, refl, sym, ◌∙◌, ap, subst, ◌⊎◌, inl, inr, append-nil, append_assoc}
use Rattle.std.specs.Prelude.{option_map, is_some}
use Rattle.std.proofs.lemmas.List.{map-append}
use Rattle.akl_terms.specs.declared.name.Name.{Name}
use Rattle.akl_terms.specs.declared.term.Node.{Node}
use Rattle.akl_terms.specs.declared.term.Term.{Term}
use Rattle.akl_terms.specs.declared.term.Term.TheVariants.{Mol}
use Rattle.akl_terms.specs.declared.term.Equation as code
use Rattle.akl_terms.specs.Template.{tree, equation_of}
use Rattle.akl_terms.specs.Tree.{Tree}
use Rattle.akl_terms.specs.Equal.{Equations, IsTold, told}
use Rattle.akl_terms.specs.Standing.{StandFor}
use Rattle.akl_terms.proofs.EqualLaws.{IsTold-left, IsTold-right, IsTold-either}
use Rattle.akl_terms.proofs.StandingLaws.{StandFor-follows, StandFor-back, StandFor-on}
use Rattle.constraint_laws.specs.StandingGrows.{AreToldIn}
use Rattle.constraint_laws.proofs.StandsGrow.{stands_with_more, stands_within}
use Rattle.akl_model.specs.Config.{Content, Boxes, no_boxes, box, Goals, Port, whole}
use Rattle.akl_model.specs.Instances.{term_at}
use Rattle.akl_model.specs.Rules.{empty_list, with_collected, gathered}
use Rattle.step_laws.proofs.GoalEdits.{solved_none}
use Rattle.rational_unify.specs.Solving.{bindings_in, equations_in}
use Rattle.table_laws.specs.Rows.{told_in, ports_in}
use Rattle.table_laws.proofs.Stores.{told_join}
use Rattle.local_store.proofs.Layers.{bindings-either, bindings-left, bindings-right}
use Rattle.box_tree.specs.declared.view.Alternative.{Alternative}
use Rattle.box_tree.specs.Views.{ViewValue, IsViewOf}
use Rattle.guard_plan.specs.Guards.{AreAllSolved}
use Rattle.guard_plan.specs.Collecting.{AreCollected, frames_of, ports_of, bindings_of, cell_equations, list_equations}
use Rattle.guard_plan.proofs.Placed.{IsPlaced, ArePlaced, frames_are, ports_are, all_stand, environment_is}
use Rattle.guard_plan.proofs.CutRight.{solved_empty}
use Rattle.guard_plan.proofs.Sites.{whole_stands}

stands_itself : (E : Equations) → StandFor (IsTold E) (IsTold E)
stands_itself E = StandFor-follows (λ s t m. told m) (λ s t m. told m)

-- what stands for equations, and then the same and what stands for others behind both
stands_further : (G B E L R K : Equations) → StandFor (IsTold (G ++ B)) (IsTold (G ++ E)) → StandFor (IsTold (((G ++ E) ++ L) ++ R)) (IsTold (((G ++ E) ++ L) ++ K))
    → StandFor (IsTold (G ++ (B ++ (L ++ R)))) (IsTold (G ++ (E ++ (L ++ K))))
stands_further G B E L R K first later = StandFor-on
    (subst (λ (X : Equations). StandFor (IsTold X) (IsTold ((G ++ E) ++ (L ++ R)))) (append_assoc G B (L ++ R)) (stands_with_more (G ++ B) (G ++ E) (L ++ R) first))
    (subst (λ (X : Equations). StandFor (IsTold X) (IsTold (G ++ (E ++ (L ++ K))))) (append_assoc (G ++ E) L R)
    (subst (λ (X : Equations). StandFor (IsTold (((G ++ E) ++ L) ++ R)) (IsTold X)) (append_assoc (G ++ E) L K ∙ append_assoc G E (L ++ K)) later))

pub some_there : (o : Option Term) → is_some o ≡ true → (t : Term) × (o ≡ Some t)
some_there (Some t) e = (t, refl)
some_there None e = cc

ports_append : (nodes : List Node) (ps qs : List (Name × Term)) → ports_in nodes (ps ++ qs) ≡ ports_in nodes ps ++ ports_in nodes qs
ports_append nodes [] qs = refl
ports_append nodes (p ∷ ps) qs = ap (λ (l : List Port). record { name = p.0; tail = tree nodes p.1 } ∷ l) (ports_append nodes ps qs)

module _ (v : ViewValue) (i : IsViewOf v) (last : Term) (is_last : tree v.table.program.templates.nodes last ≡ empty_list v.table.program) where
  abbrev new : ℕ → Name
  new n = record { worker = v.worker; number = n }

  -- the bindings of alternatives and the equations of the list, alternative by alternative
  abbrev pub told_of : ℕ → Term → List Alternative → Equations
  told_of n list [] = record { left = tree v.table.program.templates.nodes list; right = tree v.table.program.templates.nodes last } ∷ []
  told_of n list (a ∷ rest) = bindings_in v.table.program.templates.nodes a.store.bindings
      ++ (equations_in v.table.program.templates.nodes (cell_equations v.table.program.cell (new n) list a.collected) ++ told_of (n + 1) (Mol (v.table.program.cell + 1) (new n)) rest)

  -- they have this together
  pub record HasGathered (n : ℕ) (list : Term) (bs : Boxes) (seen : List Alternative) : Type 0 where
    pub content : Content
    pub is_content : gathered v.table.program v.worker n i.site.content.name (tree v.table.program.templates.nodes list) bs ≡ Some content
    pub frames : frames_of v.worker n seen ≡ content.frames
    pub ports : ports_in v.table.program.templates.nodes (ports_of seen) ≡ content.ports
    pub body : content.body ≡ []
    pub stands : (G : Equations) → AreToldIn (whole i.site) G → StandFor (IsTold (G ++ told_of n list seen)) (IsTold (G ++ content.equations))

  module _ (n : ℕ) (list : Term) (b : Content) (gs : Goals) (bs : Boxes) (a : Alternative) (rest : List Alternative) (h : IsPlaced v i b gs a) (solved : a.solved ≡ true) (t : Term) (is : a.collected ≡ Some t)
      (further : HasGathered (n + 1) (Mol (v.table.program.cell + 1) (new n)) bs rest) where
    abbrev L : Equations
    L = record { left = tree v.table.program.templates.nodes list; right = term_at v.table.program.templates.nodes (new n) (v.table.program.cell + 2) }
        ∷ record { left = term_at v.table.program.templates.nodes (new n) v.table.program.cell; right = tree v.table.program.templates.nodes t } ∷ []

    abbrev content : Content
    content = record further.content {
      frames = b.frames ++ new n ∷ further.content.frames;
      equations = b.equations ++ record { left = tree v.table.program.templates.nodes list; right = term_at v.table.program.templates.nodes (new n) (v.table.program.cell + 2) }
          ∷ record { left = term_at v.table.program.templates.nodes (new n) v.table.program.cell; right = tree v.table.program.templates.nodes t } ∷ further.content.equations;
      ports = b.ports ++ further.content.ports;
    }

    collected : b.collected ≡ Some (tree v.table.program.templates.nodes t)
    collected = sym h.seen.collected ∙ ap (option_map (tree v.table.program.templates.nodes)) is

    is_content : gathered v.table.program v.worker n i.site.content.name (tree v.table.program.templates.nodes list) (box b gs bs) ≡ Some content
    is_content = subst (λ (x : Goals). gathered v.table.program v.worker n i.site.content.name (tree v.table.program.templates.nodes list) (box b x bs) ≡ Some content)
        (sym (solved_none gs (solved_empty gs (sym h.seen.solved ∙ solved))))
        (ap (λ (o : Option Tree). with_collected v.table.program (new n) (tree v.table.program.templates.nodes list) b o
        (gathered v.table.program v.worker (n + 1) i.site.content.name (term_at v.table.program.templates.nodes (new n) (v.table.program.cell + 1)) bs)) collected
        ∙ ap (with_collected v.table.program (new n) (tree v.table.program.templates.nodes list) b (Some (tree v.table.program.templates.nodes t))) further.is_content)

    -- the bindings of the alternative stand for its equations
    own : StandFor (IsTold (whole i.site ++ bindings_in v.table.program.templates.nodes a.store.bindings)) (IsTold (whole i.site ++ b.equations))
    own = StandFor-on (stands_with_more (whole i.site) (told_in v.table.program.templates.nodes v.stores) (bindings_in v.table.program.templates.nodes a.store.bindings) (StandFor-back (whole_stands v i)))
        (subst (λ (E : Equations). StandFor (IsTold E) (IsTold (whole i.site ++ b.equations)))
        (told_join v.table.program.templates.nodes v.stores (a.store ∷ [])
        ∙ ap (λ (E : Equations). told_in v.table.program.templates.nodes v.stores ++ E) (append-nil (bindings_in v.table.program.templates.nodes a.store.bindings)))
        (subst (λ (E : Equations). StandFor (IsTold (told_in v.table.program.templates.nodes (v.stores ++ a.store ∷ []))) (IsTold (E ++ b.equations))) (environment_is v i b gs a h) (all_stand v i b gs a h)))

    stands : (G : Equations) → AreToldIn (whole i.site) G
        → StandFor (IsTold (G ++ (bindings_in v.table.program.templates.nodes a.store.bindings ++ (L ++ told_of (n + 1) (Mol (v.table.program.cell + 1) (new n)) rest)))) (IsTold (G ++ content.equations))
    stands G m = stands_further G (bindings_in v.table.program.templates.nodes a.store.bindings) b.equations L (told_of (n + 1) (Mol (v.table.program.cell + 1) (new n)) rest) further.content.equations
        (stands_within (whole i.site) (bindings_in v.table.program.templates.nodes a.store.bindings) b.equations G m own)
        (further.stands ((G ++ b.equations) ++ L) (record { each = λ x y k. IsTold-left (G ++ b.equations) L x y (IsTold-left G b.equations x y (m.each x y k)) }))

    one_more : HasGathered n list (box b gs bs) (a ∷ rest)
    one_more = record {
      content = content;
      is_content = is_content;
      frames = ap (λ (l : List Name). l ++ new n ∷ frames_of v.worker (n + 1) rest) (frames_are v i b gs a h) ∙ ap (λ (l : List Name). b.frames ++ new n ∷ l) further.frames;
      ports = ports_append v.table.program.templates.nodes a.store.ports (ports_of rest) ∙ ap (λ (l : List Port). l ++ ports_in v.table.program.templates.nodes (ports_of rest)) (ports_are v i b gs a h)
          ∙ ap (λ (l : List Port). b.ports ++ l) further.ports;
      body = further.body;
      stands = λ G m. subst (λ (o : Option Term). StandFor (IsTold (G ++ (bindings_in v.table.program.templates.nodes a.store.bindings
          ++ (equations_in v.table.program.templates.nodes (cell_equations v.table.program.cell (new n) list o) ++ told_of (n + 1) (Mol (v.table.program.cell + 1) (new n)) rest)))) (IsTold (G ++ content.equations)))
          (sym is) (stands G m);
    }

  pub gather : (n : ℕ) (list : Term) (bs : Boxes) (seen : List Alternative) → ArePlaced v i bs seen → AreAllSolved seen → AreCollected seen → HasGathered n list bs seen
  gather n list no_boxes [] h s c = record {
    content = record {
      name = i.site.content.name;
      frames = [];
      equations = record { left = tree v.table.program.templates.nodes list; right = empty_list v.table.program } ∷ [];
      ports = [];
      body = [];
      shown = [];
      collected = None;
    };
    is_content = refl;
    frames = refl;
    ports = refl;
    body = refl;
    stands = λ G m. subst (λ (x : Tree). StandFor (IsTold (G ++ record { left = tree v.table.program.templates.nodes list; right = tree v.table.program.templates.nodes last } ∷ []))
        (IsTold (G ++ record { left = tree v.table.program.templates.nodes list; right = x } ∷ []))) is_last
        (stands_itself (G ++ record { left = tree v.table.program.templates.nodes list; right = tree v.table.program.templates.nodes last } ∷ []));
  }
  gather n list no_boxes (a ∷ rest) h s c = absurd h
  gather n list (box b gs bs) [] h s c = absurd h
  gather n list (box b gs bs) (a ∷ rest) h s c =
      let w : (t : Term) × (a.collected ≡ Some t) = some_there a.collected c.0 in
      one_more n list b gs bs a rest h.0 s.0 w.0 w.1 (gather (n + 1) (Mol (v.table.program.cell + 1) (new n)) bs rest h.1 s.1 c.1)

  -- that is told by the bindings of all and by the equations of the list

  abbrev listed : ℕ → Term → List Alternative → List code.Equation
  listed n list seen = list_equations v.table.program.cell last v.worker n list seen

  joined_equations : (n : ℕ) (list : Term) (a : Alternative) (rest : List Alternative) → equations_in v.table.program.templates.nodes (listed n list (a ∷ rest))
      ≡ equations_in v.table.program.templates.nodes (cell_equations v.table.program.cell (new n) list a.collected)
      ++ equations_in v.table.program.templates.nodes (listed (n + 1) (Mol (v.table.program.cell + 1) (new n)) rest)
  joined_equations n list a rest = map-append (equation_of v.table.program.templates.nodes) (cell_equations v.table.program.cell (new n) list a.collected) (listed (n + 1) (Mol (v.table.program.cell + 1) (new n)) rest)

  pub told_either : (n : ℕ) (list : Term) (seen : List Alternative) (s t : Tree) → IsTold (told_of n list seen) s t
      → IsTold (bindings_in v.table.program.templates.nodes (bindings_of seen)) s t ⊎ IsTold (equations_in v.table.program.templates.nodes (listed n list seen)) s t
  told_either n list [] s t m = inr m
  told_either n list (a ∷ rest) s t m =
      let B : Equations = bindings_in v.table.program.templates.nodes a.store.bindings in
      let C : Equations = equations_in v.table.program.templates.nodes (cell_equations v.table.program.cell (new n) list a.collected) in
      let R : Equations = told_of (n + 1) (Mol (v.table.program.cell + 1) (new n)) rest in
      let E : Equations = equations_in v.table.program.templates.nodes (listed (n + 1) (Mol (v.table.program.cell + 1) (new n)) rest) in
      elim (IsTold-either B (C ++ R) s t m) [
        | inl x ↦ inl (bindings-left v.table.program.templates.nodes a.store.bindings (bindings_of rest) s t x)
        | inr y ↦ elim (IsTold-either C R s t y) [
          | inl x ↦ inr (subst (λ (F : Equations). IsTold F s t) (sym (joined_equations n list a rest)) (IsTold-left C E s t x))
          | inr z ↦ elim (told_either (n + 1) (Mol (v.table.program.cell + 1) (new n)) rest s t z) [
            | inl x ↦ inl (bindings-right v.table.program.templates.nodes a.store.bindings (bindings_of rest) s t x)
            | inr x ↦ inr (subst (λ (F : Equations). IsTold F s t) (sym (joined_equations n list a rest)) (IsTold-right C E s t x))
          ]
        ]
      ]

  pub bindings_told : (n : ℕ) (list : Term) (seen : List Alternative) (s t : Tree) → IsTold (bindings_in v.table.program.templates.nodes (bindings_of seen)) s t → IsTold (told_of n list seen) s t
  bindings_told n list [] s t m = absurd m
  bindings_told n list (a ∷ rest) s t m =
      let B : Equations = bindings_in v.table.program.templates.nodes a.store.bindings in
      let C : Equations = equations_in v.table.program.templates.nodes (cell_equations v.table.program.cell (new n) list a.collected) in
      let R : Equations = told_of (n + 1) (Mol (v.table.program.cell + 1) (new n)) rest in
      elim (bindings-either v.table.program.templates.nodes a.store.bindings (bindings_of rest) s t m) [
        | inl x ↦ IsTold-left B (C ++ R) s t x
        | inr y ↦ IsTold-right B (C ++ R) s t (IsTold-right C R s t (bindings_told (n + 1) (Mol (v.table.program.cell + 1) (new n)) rest s t y))
      ]

  pub equations_told : (n : ℕ) (list : Term) (seen : List Alternative) (s t : Tree) → IsTold (equations_in v.table.program.templates.nodes (listed n list seen)) s t → IsTold (told_of n list seen) s t
  equations_told n list [] s t m = m
  equations_told n list (a ∷ rest) s t m =
      let B : Equations = bindings_in v.table.program.templates.nodes a.store.bindings in
      let C : Equations = equations_in v.table.program.templates.nodes (cell_equations v.table.program.cell (new n) list a.collected) in
      let R : Equations = told_of (n + 1) (Mol (v.table.program.cell + 1) (new n)) rest in
      let E : Equations = equations_in v.table.program.templates.nodes (listed (n + 1) (Mol (v.table.program.cell + 1) (new n)) rest) in
      elim (IsTold-either C E s t (subst (λ (F : Equations). IsTold F s t) (joined_equations n list a rest) m)) [
        | inl x ↦ IsTold-right B (C ++ R) s t (IsTold-left C R s t x)
        | inr y ↦ IsTold-right B (C ++ R) s t (IsTold-right C R s t (equations_told (n + 1) (Mol (v.table.program.cell + 1) (new n)) rest s t y))
      ]

-- The boxes that are made for a call are the instances of its clauses.
use Rattle.std.proofs.Common.{◌≡◌, ℕ, zero, suc, ◌+◌, ◌<◌, List, [], ◌∷◌, ◌++◌, map, length, Bool, true, false, Option, Some, None, cond, refl, sym, ◌∙◌, ap, subst, inl, inr, append-nil, arith}
use Rattle.std.specs.Prelude.{option_map}
use Rattle.std.proofs.lemmas.Bool.Decides.{nat_tests}
use Rattle.std.proofs.lemmas.List.{map-append}
use Rattle.akl_terms.specs.declared.name.Name.{Name}
use Rattle.akl_terms.specs.declared.term.Node.{Node}
use Rattle.akl_terms.specs.declared.program.Code.{Code}
use Rattle.akl_terms.specs.declared.program.Goal.{Goal}
use Rattle.akl_terms.specs.declared.program.Clause.{Clause}
use Rattle.akl_terms.specs.Names.{is_before}
use Rattle.akl_terms.specs.Equal.{Equations, IsTold, told}
use Rattle.akl_terms.specs.Standing.{StandFor}
use Rattle.akl_terms.specs.Template.{equation_of, tree}
use Rattle.akl_terms.specs.Tree.{Tree}
use Rattle.akl_terms.specs.declared.term.Term.TheVariants.{Mol}
use Rattle.akl_terms.proofs.EqualLaws.{IsTold-left, IsTold-right, IsTold-either}
use Rattle.akl_terms.proofs.StandingLaws.{StandFor-back, StandFor-follows, StandFor-on}
use Rattle.akl_model.specs.Config.{Atom, Boxes, Goals, no_goals, atom, an_atom, with_goal}
use Rattle.akl_model.specs.Instances.{term_at, terms_from, atom_of, atoms_of, with_atoms, head_equations, instances}
use Rattle.rational_unify.specs.Solving.{bindings_in, equations_in}
use Rattle.local_store.specs.Stored.{Stored}
use Rattle.local_store.specs.Chained.{IsSolvedChain}
use Rattle.table_laws.specs.Rows.{Table, stores_along, told_in, ports_in}
use Rattle.table_laws.specs.Steps.{AreAtoms, IsNewBox, AreNewBoxes, IsSolvedIf, AreSolvedIf}
use Rattle.table_laws.proofs.Stores.{told_join}
use Rattle.box_tree.specs.declared.step.NewBox.{NewBox}
use Rattle.box_tree.specs.Tables.{goal_atom, new_box}
use Rattle.rule_plan.specs.declared.heads.Call.{Call}
use Rattle.rule_plan.specs.Made.{heads, heads_of, goals_under, named_under, store_with, IsNewStore, IsMade, AreMade}
use Rattle.table_laws.proofs.StoreChains.{around_push, innermost_push}
use Rattle.guard_plan.proofs.Chains.{long_push}
use Rattle.rule_plan.proofs.Storing.{tells_stands, around_exchanged}

-- equations of arguments with head arguments, in another order

heads_told : (nodes : List Node) (f : Name) (i n : ℕ) (g : Name) (j m : ℕ) (s t : Tree) → IsTold (equations_in nodes (heads f i n g j m)) s t → IsTold (head_equations (terms_from nodes f i n) (terms_from nodes g j m)) s t
heads_told nodes f i zero g j zero s t x = x
heads_told nodes f i zero g j (suc m) s t x = x
heads_told nodes f i (suc n) g j zero s t x = x
heads_told nodes f i (suc n) g j (suc m) s t x =
    elim (IsTold-either (equations_in nodes (heads f (suc i) n g (suc j) m)) (record { left = term_at nodes f i; right = term_at nodes g j } ∷ []) s t
    (subst (λ (E : Equations). IsTold E s t) (map-append (equation_of nodes) (heads f (suc i) n g (suc j) m) (record { left = Mol i f; right = Mol j g } ∷ [])) x)) [
      | inl y ↦ inr (heads_told nodes f (suc i) n g (suc j) m s t y)
      | inr y ↦ elim y [ inl p ↦ inl p | inr z ↦ absurd z ]
    ]

told_heads : (nodes : List Node) (f : Name) (i n : ℕ) (g : Name) (j m : ℕ) (s t : Tree) → IsTold (head_equations (terms_from nodes f i n) (terms_from nodes g j m)) s t → IsTold (equations_in nodes (heads f i n g j m)) s t
told_heads nodes f i zero g j zero s t x = x
told_heads nodes f i zero g j (suc m) s t x = x
told_heads nodes f i (suc n) g j zero s t x = x
told_heads nodes f i (suc n) g j (suc m) s t (inl p) =
    subst (λ (E : Equations). IsTold E s t) (sym (map-append (equation_of nodes) (heads f (suc i) n g (suc j) m) (record { left = Mol i f; right = Mol j g } ∷ [])))
    (IsTold-right (equations_in nodes (heads f (suc i) n g (suc j) m)) (record { left = term_at nodes f i; right = term_at nodes g j } ∷ []) s t (inl p))
told_heads nodes f i (suc n) g j (suc m) s t (inr y) =
    subst (λ (E : Equations). IsTold E s t) (sym (map-append (equation_of nodes) (heads f (suc i) n g (suc j) m) (record { left = Mol i f; right = Mol j g } ∷ [])))
    (IsTold-left (equations_in nodes (heads f (suc i) n g (suc j) m)) (record { left = term_at nodes f i; right = term_at nodes g j } ∷ []) s t (told_heads nodes f (suc i) n g (suc j) m s t y))

pub heads_stand : (nodes : List Node) (W : Equations) (f : Name) (i n : ℕ) (g : Name) (j m : ℕ)
    → StandFor (IsTold (W ++ equations_in nodes (heads f i n g j m))) (IsTold (W ++ head_equations (terms_from nodes f i n) (terms_from nodes g j m)))
heads_stand nodes W f i n g j m = StandFor-follows
    (λ s t x. told (elim (IsTold-either W (equations_in nodes (heads f i n g j m)) s t x) [
      | inl y ↦ IsTold-left W (head_equations (terms_from nodes f i n) (terms_from nodes g j m)) s t y
      | inr y ↦ IsTold-right W (head_equations (terms_from nodes f i n) (terms_from nodes g j m)) s t (heads_told nodes f i n g j m s t y)
    ]))
    (λ s t x. told (elim (IsTold-either W (head_equations (terms_from nodes f i n) (terms_from nodes g j m)) s t x) [
      | inl y ↦ IsTold-left W (equations_in nodes (heads f i n g j m)) s t y
      | inr y ↦ IsTold-right W (equations_in nodes (heads f i n g j m)) s t (told_heads nodes f i n g j m s t y)
    ]))

-- goals under names that are drawn in order

goals_from : ℕ → ℕ → List Atom → Goals
goals_from w n [] = no_goals
goals_from w n (a ∷ rest) = atom (record { worker = w; number = n }) a (goals_from w (n + 1) rest)

goal_behind : (w n m : ℕ) (a b : Atom) (gs : Goals) → n < m
    → with_goal (record { worker = w; number = m }) (an_atom b) (atom (record { worker = w; number = n }) a gs)
    ≡ atom (record { worker = w; number = n }) a (with_goal (record { worker = w; number = m }) (an_atom b) gs)
goal_behind w n m a b gs h =
    let f : is_before (record { worker = w; number = m }) (record { worker = w; number = n }) ≡ false = grind (arith, nat_tests) in
    ap (λ (c : Bool). cond c (atom (record { worker = w; number = m }) b (atom (record { worker = w; number = n }) a gs))
    (atom (record { worker = w; number = n }) a (with_goal (record { worker = w; number = m }) (an_atom b) gs))) f

pub atoms_behind : (w n m : ℕ) (a : Atom) (rest : List Atom) (gs : Goals) → n < m
    → with_atoms w m rest (atom (record { worker = w; number = n }) a gs) ≡ atom (record { worker = w; number = n }) a (with_atoms w m rest gs)
atoms_behind w n m a [] gs h = refl
atoms_behind w n m a (b ∷ rest) gs h =
    ap (λ (hs : Goals). with_atoms w (m + 1) rest hs) (goal_behind w n m a b gs h)
    ∙ atoms_behind w n (m + 1) a rest (with_goal (record { worker = w; number = m }) (an_atom b) gs) (omega arith)

with_atoms_next : (w n : ℕ) (a : Atom) (rest : List Atom) → with_atoms w n (a ∷ rest) no_goals ≡ atom (record { worker = w; number = n }) a (with_atoms w (n + 1) rest no_goals)
with_atoms_next w n a rest = atoms_behind w n (n + 1) a rest no_goals (omega arith)

named_atoms : (nodes : List Node) (frame : Name) (n : ℕ) (codes : List Code)
    → AreAtoms (map (λ (x : Name × Goal). (x.0, goal_atom nodes x.1)) (named_under frame n codes)) (with_atoms frame.worker n (atoms_of nodes frame codes) no_goals)
named_atoms nodes frame n [] = tt
named_atoms nodes frame n (c ∷ codes) = subst (AreAtoms (map (λ (x : Name × Goal). (x.0, goal_atom nodes x.1)) (named_under frame n (c ∷ codes))))
    (sym (with_atoms_next frame.worker n (atom_of nodes frame c) (atoms_of nodes frame codes))) (refl, refl, named_atoms nodes frame (n + 1) codes)

body_atoms : (nodes : List Node) (frame : Name) (codes : List Code) → map (goal_atom nodes) (goals_under frame codes) ≡ atoms_of nodes frame codes
body_atoms nodes frame [] = refl
body_atoms nodes frame (c ∷ codes) = ap (λ (rest : List Atom). atom_of nodes frame c ∷ rest) (body_atoms nodes frame codes)

collected_tree : (nodes : List Node) (frame : Name) (o : Option ℕ) → option_map (tree nodes) (option_map (λ (n : ℕ). Mol n frame) o) ≡ option_map (term_at nodes frame) o
collected_tree nodes frame None = refl
collected_tree nodes frame (Some n) = refl

-- a store with a frame alone, innermost, tells nothing
told_frame : (nodes : List Node) (path : List Stored) (frame : Name) → told_in nodes (path ++ store_with frame ∷ []) ≡ told_in nodes path
told_frame nodes path frame = told_join nodes path (store_with frame ∷ []) ∙ append-nil (told_in nodes path)

module _ (nodes : List Node) (path : List Stored) (W : Equations) (stands : StandFor (IsTold (told_in nodes path)) (IsTold W)) (known : ℕ) (call : Call) (w : ℕ) where
  head_stands : (frame : Name) (c : Clause) (store : Stored) (solved : Bool) → IsNewStore nodes path known frame (heads_of call frame c) store solved
      → (D : Equations) → StandFor (IsTold D) (IsTold W)
      → StandFor (IsTold (D ++ bindings_in nodes store.bindings)) (IsTold (W ++ head_equations (terms_from nodes call.frame call.first call.count) (terms_from nodes frame c.first c.count)))
  head_stands frame c store solved h D d = StandFor-on
      (around_exchanged D (told_in nodes path) (told_in nodes path) W (bindings_in nodes store.bindings) (equations_in nodes (heads_of call frame c)) (StandFor-on d (StandFor-back stands)) stands tells)
      (heads_stand nodes W call.frame call.first call.count frame c.first c.count)
    where
      tells : StandFor (IsTold (told_in nodes path ++ equations_in nodes (heads_of call frame c))) (IsTold (told_in nodes path ++ bindings_in nodes store.bindings))
      tells = subst (λ (E : Equations). StandFor (IsTold (E ++ equations_in nodes (heads_of call frame c))) (IsTold (told_in nodes path ++ bindings_in nodes store.bindings))) (told_frame nodes path frame)
          (subst (λ (ss : List Stored). StandFor (IsTold (told_in nodes (path ++ store_with frame ∷ []) ++ equations_in nodes (heads_of call frame c))) (IsTold (told_in nodes ss ++ bindings_in nodes store.bindings)))
          (around_push path (store_with frame)) (tells_stands nodes (path ++ store_with frame ∷ []) (known + 1) (heads_of call frame c) store h.tells))

  one_made : (n : ℕ) (c : Clause) (b : NewBox) → IsMade nodes path known call w n c b → (rest : Boxes)
      → IsNewBox nodes W (new_box nodes b) (record {
        name = record { worker = w; number = n };
        frames = record { worker = w; number = n + 1 } ∷ [];
        equations = head_equations (terms_from nodes call.frame call.first call.count) (terms_from nodes (record { worker = w; number = n + 1 }) c.first c.count);
        ports = [];
        body = atoms_of nodes (record { worker = w; number = n + 1 }) c.body;
        shown = [];
        collected = option_map (term_at nodes (record { worker = w; number = n + 1 })) c.collected;
      }) (with_atoms w (n + 2) (atoms_of nodes (record { worker = w; number = n + 1 }) c.guard) no_goals)
  one_made n c b m rest = record {
    name = m.name;
    frames = m.store.tells.frames ∙ ap (λ (k : Stored). k.frames) (innermost_push path (store_with (record { worker = w; number = n + 1 })));
    ports = ap (ports_in nodes) (m.store.tells.ports ∙ ap (λ (k : Stored). k.ports) (innermost_push path (store_with (record { worker = w; number = n + 1 }))));
    stands = head_stands (record { worker = w; number = n + 1 }) c b.store b.solved m.store;
    goals = subst (λ (l : List (Name × Goal)). AreAtoms (map (λ (x : Name × Goal). (x.0, goal_atom nodes x.1)) l) (with_atoms w (n + 2) (atoms_of nodes (record { worker = w; number = n + 1 }) c.guard) no_goals))
        (sym m.goals) (named_atoms nodes (record { worker = w; number = n + 1 }) (n + 2) c.guard);
    body = ap (map (goal_atom nodes)) m.body ∙ body_atoms nodes (record { worker = w; number = n + 1 }) c.body;
    collected = ap (option_map (tree nodes)) m.collected ∙ collected_tree nodes (record { worker = w; number = n + 1 }) c.collected;
  }

  pub all_made : (n : ℕ) (cs : List Clause) (bs : List NewBox) → AreMade nodes path known call w n cs bs
      → AreNewBoxes nodes W (map (new_box nodes) bs) (instances nodes w n (terms_from nodes call.frame call.first call.count) cs)
  all_made n [] [] m = tt
  all_made n [] (b ∷ bs) m = absurd m
  all_made n (c ∷ cs) [] m = absurd m
  all_made n (c ∷ cs) (b ∷ bs) m =
      (one_made n c b m.0 (instances nodes w (n + (2 + length c.guard)) (terms_from nodes call.frame call.first call.count) cs), all_made (n + (2 + length c.guard)) cs bs m.1)

-- solved, where a box says so
one_solved : (nodes : List Node) (path : List Stored) (known : ℕ) (call : Call) (frame : Name) (c : Clause) (store : Stored) (t : Bool) → IsNewStore nodes path known frame (heads_of call frame c) store t
    → t ≡ true → IsSolvedChain nodes (path ++ store ∷ [])
one_solved nodes path known call frame c store t h e =
    let k : _ = h.is_solved.0 e in
    subst (λ (ss : List Stored). IsSolvedChain nodes (ss ++ store ∷ [])) (around_push path (store_with frame)) (h.tells.solved (let l : length (path ++ store_with frame ∷ []) ≡ length path + 1 = long_push path (store_with frame) in let q : known ≡ length path = k.0 in omega arith) k.1)

pub all_solved : (T : Table) (ns : List Name) (known : ℕ) (call : Call) (w n : ℕ) (cs : List Clause) (bs : List NewBox) → AreMade T.nodes (stores_along T ns) known call w n cs bs → AreSolvedIf T ns (map (new_box T.nodes) bs)
all_solved T ns known call w n [] [] m = tt
all_solved T ns known call w n [] (b ∷ bs) m = absurd m
all_solved T ns known call w n (c ∷ cs) [] m = absurd m
all_solved T ns known call w n (c ∷ cs) (b ∷ bs) m = (
  on b.solved (λ e. one_solved T.nodes (stores_along T ns) known call (record { worker = w; number = n + 1 }) c b.store b.solved m.0.store e),
  all_solved T ns known call w (n + (2 + length c.guard)) cs bs m.1,
)
  where
    on : (t : Bool) → (t ≡ true → IsSolvedChain T.nodes (stores_along T ns ++ b.store ∷ [])) → IsSolvedIf t T ns b.store
    on false h = tt
    on true h = h refl

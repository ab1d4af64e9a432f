-- The rows of copies: the stores down to each, and what they tell.
use Rattle.std.proofs.Common.{◌≡◌, ℕ, zero, suc, ◌+◌, ◌≤◌, ◌<◌, List, [], ◌∷◌, ◌++◌, length, map, Option, Some, None, sym, ◌∙◌, ap, subst, ◌⊎◌, inl, inr, arith, append_assoc, append-nil}
use Rattle.std.proofs.lemmas.List.{length-append}
use Rattle.akl_terms.specs.declared.name.Name.{Name}
use Rattle.akl_terms.specs.declared.term.Node.{Node}
use Rattle.akl_terms.specs.Equal.{Equations, IsTold}
use Rattle.akl_terms.specs.Standing.{StandFor}
use Rattle.akl_model.specs.Config.{IsIn, Content, Boxes, Found, or_else, equations_of, environment, whole, box_at}
use Rattle.akl_model.specs.Conditions.{HasFailed}
use Rattle.akl_model.specs.Changes.{goal_names}
use Rattle.akl_model.specs.Wakes.{names_around, names_down_to, holder_in}
use Rattle.akl_model.proofs.Finds.{times}
use Rattle.akl_model.proofs.NamesKept.{home-box}
use Rattle.rational_unify.specs.Solving.{bindings_in}
use Rattle.local_store.specs.Stored.{Stored}
use Rattle.step_laws.specs.Holders.{IsHeldBy}
use Rattle.step_laws.proofs.GoalEdits.{held_named}
use Rattle.step_laws.proofs.Holders.{held_or}
use Rattle.table_laws.specs.Rows.{Table, store_in, stores_along, ports_in}
use Rattle.table_laws.specs.Unfolds.{StaysSolved, IsBoxRow}
use Rattle.table_laws.specs.Steps.{BoxCopy, copy_among, IsCopy, AreCopies, AreAround, outermost, further}
use Rattle.table_laws.specs.Writes.{copied_row}
use Rattle.table_laws.proofs.Stores.{told_along, told_last, stores_join}
use Rattle.table_laws.proofs.Frame.{names_join}
use Rattle.table_laws.proofs.Insides.{named_counted}
use Rattle.table_laws.proofs.Copies.{goals_copied, found_among, copy_of, goals_are}
use Rattle.plan_laws.proofs.Moves.{equations-append}

abbrev names_in : List Content → List Name
names_in A = map (λ (b : Content). b.name) A

-- where copies stand under these boxes
module _ (nodes : List Node) (A : List Content) (bs : Boxes) (once : (m : Name) → times m bs ≤ 1) (copies : List BoxCopy) (are : AreCopies nodes (equations_of A) bs copies) (U : Table)
    (same_nodes : U.nodes ≡ nodes) (told : StandFor (IsTold (told_along U (names_in A))) (IsTold (equations_of A)))
    (stored : (n : Name) (k : BoxCopy) → copy_among copies n ≡ Some k → store_in (U.box_of n) ≡ k.store) where
  -- the stores of the copies around a box, and what all around it tells
  pub record IsPath (f : Found) : Type 0 where
    pub stores : List Stored
    pub along : stores_along U (names_around f) ≡ stores
    pub around : AreAround copies (holder_in f.content.name bs) stores
    pub stands : StandFor (IsTold (told_along U (names_in A ++ names_around f))) (IsTold (equations_of A ++ environment f))

  -- with the box itself

  down_stands : (f : Found) (k : BoxCopy) → IsPath f → copy_among copies f.content.name ≡ Some k → IsCopy nodes (equations_of A) bs f k
      → StandFor (IsTold (told_along U (names_in A ++ names_down_to f))) (IsTold (equations_of A ++ whole f))
  down_stands f k x e is = subst (λ (D : Equations). StandFor (IsTold D) (IsTold (equations_of A ++ whole f))) (sym told_down) (is.stands (told_along U (names_in A ++ names_around f)) x.stands)
    where
      told_down : told_along U (names_in A ++ names_down_to f) ≡ told_along U (names_in A ++ names_around f) ++ bindings_in nodes k.store.bindings
      told_down = ap (told_along U) (sym (append_assoc (names_in A) (names_around f) (f.content.name ∷ []))) ∙ told_last U (names_in A ++ names_around f) f.content.name k.store (stored f.content.name k e)
          ∙ ap (λ (ms : List Node). told_along U (names_in A ++ names_around f) ++ bindings_in ms k.store.bindings) same_nodes

  down_stores : (f : Found) (k : BoxCopy) (x : IsPath f) → copy_among copies f.content.name ≡ Some k → stores_along U (names_down_to f) ≡ x.stores ++ k.store ∷ []
  down_stores f k x e = stores_join U (names_around f) (f.content.name ∷ []) ∙ (λ i. x.along i ++ stored f.content.name k e i ∷ [])

  path_of : (f : Found) → ((h : Found) → length h.around < length f.around → box_at h.content.name bs ≡ Some h → IsPath h) → box_at f.content.name bs ≡ Some f → IsPath f
  path_of f below e = on (held_or bs once f.content.name f e)
    where
      base : StandFor (IsTold (told_along U (names_in A ++ []))) (IsTold (equations_of A ++ []))
      base = subst (λ (ns : List Name). StandFor (IsTold (told_along U ns)) (IsTold (equations_of A ++ []))) (sym (append-nil (names_in A)))
          (subst (λ (E : Equations). StandFor (IsTold (told_along U (names_in A))) (IsTold E)) (sym (append-nil (equations_of A))) told)

      by : (g : Name) → holder_in f.content.name bs ≡ Some g → IsHeldBy f.content.name g f bs → IsPath f
      by g held h = record {
        stores = prev.stores ++ w.0.store ∷ [];
        along = ap (stores_along U) h.names ∙ down_stores h.home w.0 prev w.1;
        around = subst (λ (o : Option Name). AreAround copies o (prev.stores ++ w.0.store ∷ [])) (sym held)
            (further w.0 (ap (copy_among copies) (sym name) ∙ w.1) named (subst (λ (o : Option Name). AreAround copies o prev.stores) (sym w.2.holder) prev.around));
        stands = subst (λ (ns : List Name). StandFor (IsTold (told_along U (names_in A ++ ns))) (IsTold (equations_of A ++ environment f))) (sym h.names)
            (subst (λ (E : Equations). StandFor (IsTold (told_along U (names_in A ++ names_down_to h.home))) (IsTold (equations_of A ++ E))) (sym h.equations) (down_stands h.home w.0 prev w.1 w.2));
      }
        where
          there : box_at h.home.content.name bs ≡ Some h.home
          there = home-box g bs h.home once h.is_home

          shorter : length h.home.around < length f.around
          shorter =
              let a : length f.around ≡ length (h.home.around ++ h.home.content ∷ []) = ap length h.around in
              let b : length (h.home.around ++ h.home.content ∷ []) ≡ length h.home.around + length (h.home.content ∷ []) = length-append h.home.around (h.home.content ∷ []) in
              omega arith

          prev : IsPath h.home
          prev = below h.home shorter there

          w : (k : BoxCopy) × (copy_among copies h.home.content.name ≡ Some k) × IsCopy nodes (equations_of A) bs h.home k
          w = copy_of nodes (equations_of A) bs once copies are h.home.content.name h.home there

          name : h.home.content.name ≡ w.0.name
          name = (found_among copies h.home.content.name w.0 w.1).1

          named : IsIn g (goals_copied w.0)
          named = subst (IsIn g) (sym (goals_are nodes (equations_of A) bs once copies are h.home w.0 w.2)) (named_counted g (goal_names h.home.goals) (held_named g h.home.goals _ h.held))

      on : ((f.around ≡ []) × (holder_in f.content.name bs ≡ None)) ⊎ ((g : Name) × (holder_in f.content.name bs ≡ Some g) × IsHeldBy f.content.name g f bs) → IsPath f
      on (inl r) = record {
        stores = [];
        along = ap (λ (a : List Content). stores_along U (names_in a)) r.0;
        around = subst (λ (o : Option Name). AreAround copies o []) (sym r.1) outermost;
        stands = subst (λ (a : List Content). StandFor (IsTold (told_along U (names_in A ++ names_in a))) (IsTold (equations_of A ++ equations_of a))) (sym r.0) base;
      }
      on (inr w) = by w.0 w.1 w.2

  path_by : (k : ℕ) (f : Found) → length f.around ≤ k → box_at f.content.name bs ≡ Some f → IsPath f
  path_by zero f l e = path_of f (λ h x y. absurd (omega arith)) e
  path_by (suc k) f l e = path_of f (λ h x y. path_by k h (omega arith) y) e

  pub path : (f : Found) → box_at f.content.name bs ≡ Some f → IsPath f
  path f e = path_by (length f.around) f (omega arith) e

  -- a box under all of them
  abbrev pub under : Found → Found
  under f = record f { around = A ++ f.around }

  names_under : (f : Found) → names_down_to (under f) ≡ names_in A ++ names_down_to f
  names_under f = ap (λ (ns : List Name). ns ++ f.content.name ∷ []) (names_join A f.around) ∙ append_assoc (names_in A) (names_around f) (f.content.name ∷ [])

  equations_under : (f : Found) → whole (under f) ≡ equations_of A ++ whole f
  equations_under f = ap (λ (E : Equations). E ++ f.content.equations) (equations-append A f.around) ∙ append_assoc (equations_of A) (environment f) f.content.equations

  pub stores_under : (f : Found) (k : BoxCopy) (x : IsPath f) → copy_among copies f.content.name ≡ Some k
      → stores_along U (names_down_to (under f)) ≡ stores_along U (names_in A) ++ (x.stores ++ k.store ∷ [])
  stores_under f k x e = ap (stores_along U) (names_under f) ∙ stores_join U (names_in A) (names_down_to f) ∙ ap (λ (ss : List Stored). stores_along U (names_in A) ++ ss) (down_stores f k x e)

  -- the row of a copy
  pub copied_is_row : (roots : Boxes) (holder : Option Name) (at : Option ℕ) (number : ℕ) (f : Found) (k : BoxCopy) → box_at f.content.name bs ≡ Some f → copy_among copies f.content.name ≡ Some k
      → IsCopy nodes (equations_of A) bs f k → or_else k.holder holder ≡ holder_in f.content.name roots → (HasFailed f.goals → ⊥) → StaysSolved U (under f) (copied_row holder at number k)
      → IsBoxRow U roots (under f) (copied_row holder at number k)
  copied_is_row roots holder at number f k e i is held unfailed solved = record {
    holder = held;
    frames = is.frames;
    ports = ap (λ (ms : List Node). ports_in ms k.store.ports) same_nodes ∙ is.ports;
    stands = subst (λ (ns : List Name). StandFor (IsTold (told_along U ns)) (IsTold (whole (under f)))) (sym (names_under f))
        (subst (λ (E : Equations). StandFor (IsTold (told_along U (names_in A ++ names_down_to f))) (IsTold E)) (sym (equations_under f)) (down_stands f k (path f e) i is));
    stays_solved = solved;
    goals = goals_are nodes (equations_of A) bs once copies are f k is;
    failing = unfailed;
    body = is.body;
    shown = is.shown;
    collected = is.collected;
  }

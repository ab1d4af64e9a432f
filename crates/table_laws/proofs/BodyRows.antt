-- Tables behind the promotion of a call: goals of the body go one after another, with what they tell.
use Rattle.std.proofs.Common.{◌≡◌, ℕ, zero, suc, ◌+◌, List, [], ◌∷◌, ◌++◌, Bool, true, false, Option, Some, None, refl, sym, ◌∙◌, ap, subst, inl, inr, arith}
use Rattle.std.specs.Prelude.{if◌then◌else◌, slice_index, option_map}
use Rattle.akl_terms.specs.declared.name.Name.{Name}
use Rattle.akl_terms.specs.declared.name.Var.{Var}
use Rattle.akl_terms.specs.Names.{same_name}
use Rattle.akl_terms.proofs.SameNames.{same_name-refl}
use Rattle.akl_model.specs.Config.{Atom, or_else}
use Rattle.akl_model.specs.Changes.{of_atom}
use Rattle.akl_model.specs.Derivations.{raised}
use Rattle.constraint_laws.proofs.SameTerms.{name_or}
use Rattle.local_store.specs.Stored.{Stored}
use Rattle.table_laws.specs.Rows.{BoxRow, GoalRow, Table}
use Rattle.table_laws.specs.Writes.{IsTable, set, less_name, home_in, changed_box, told_row, confirmed_row, after_tell, after_confirm, atom_among}
use Rattle.table_laws.proofs.Sets.{set_here, set_other, other_by}
use Rattle.table_laws.proofs.BodyLists.{among_append}

raised_none : (w v : ℕ) (xs : List ℕ) → slice_index xs v ≡ slice_index (raised w 0 xs) v
raised_none zero zero [] = refl
raised_none zero (suc v) [] = refl
raised_none (suc w) zero [] = refl
raised_none (suc w) (suc v) [] = raised_none w v []
raised_none zero zero (x ∷ xs) = omega arith
raised_none zero (suc v) (x ∷ xs) = refl
raised_none (suc w) zero (x ∷ xs) = refl
raised_none (suc w) (suc v) (x ∷ xs) = raised_none w v xs

module _ (T : Table) (g home : Name) (promoted : ℕ) (next : List ℕ) (marks : Var → ℕ) (fails : Option Name) (r0 : BoxRow) (there : T.box_of home ≡ Some r0) where
  abbrev pub row : Stored → Option ℕ → List Name → ℕ → ℕ → BoxRow → BoxRow
  row store solved_at names told ended r = record r { store = store; changed = told; solved_at = solved_at; goals = names; goals_changed = ended; failing = fails }

  -- the table with this store of the box, and these goals in it
  abbrev pub stage : Stored → Option ℕ → List Name → List (Name × Atom) → ℕ → ℕ → Table
  stage store solved_at names goals told ended = record T {
    box_of = set home (option_map (row store solved_at names told ended) (T.box_of home)) T.box_of;
    goal_of = λ m. or_else (atom_among home promoted goals m) (set g None T.goal_of m);
    next = next;
    steps = ended;
    mark_of = marks;
  }

  here : (n m : Name) → n ≡ m → same_name n m ≡ true
  here n m q = subst (λ (v : Name). same_name v m ≡ true) (sym q) (same_name-refl m)

  pub row_there : (store : Stored) (solved_at : Option ℕ) (names : List Name) (goals : List (Name × Atom)) (told ended : ℕ) → (stage store solved_at names goals told ended).box_of home ≡ Some (row store solved_at names told ended r0)
  row_there store solved_at names goals told ended = set_here home home (option_map (row store solved_at names told ended) (T.box_of home)) T.box_of (same_name-refl home) ∙ ap (option_map (row store solved_at names told ended)) there

  pub row_other : (store : Stored) (solved_at : Option ℕ) (names : List Name) (goals : List (Name × Atom)) (told ended : ℕ) (n : Name) → (n ≡ home → ⊥) → (stage store solved_at names goals told ended).box_of n ≡ T.box_of n
  row_other store solved_at names goals told ended n o = set_other home n (option_map (row store solved_at names told ended) (T.box_of home)) T.box_of (other_by n home o)

  -- the goal i, an atom of the list, goes
  module _ (i : Name) (a : Atom) (xs ys : List (Name × Atom)) (before_it : atom_among home promoted xs i ≡ None) (behind_it : atom_among home promoted ys i ≡ None) (new : T.goal_of i ≡ None)
      (store : Stored) (solved_at : Option ℕ) (names : List Name) (told ended : ℕ) where
    abbrev S : Table
    S = stage store solved_at names (xs ++ (i, a) ∷ ys) told ended

    its_row : (stage store solved_at names (xs ++ (i, a) ∷ ys) told ended).goal_of i ≡ Some (record { home = home; shape = of_atom a; changed = promoted })
    its_row = ap (λ (o : Option GoalRow). or_else o (set g None T.goal_of i)) (among_append home promoted xs ((i, a) ∷ ys) i
        ∙ ap (λ (o : Option GoalRow). or_else o (atom_among home promoted ((i, a) ∷ ys) i)) before_it
        ∙ ap (λ (t : Bool). if t then Some (record { home = home; shape = of_atom a; changed = promoted }) else atom_among home promoted ys i) (same_name-refl i))

    its_home : home_in ((stage store solved_at names (xs ++ (i, a) ∷ ys) told ended).goal_of i) ≡ Some home
    its_home = ap home_in its_row

    goals_now : (m : Name) → or_else (atom_among home promoted (xs ++ ys) m) (set g None T.goal_of m) ≡ set i None (stage store solved_at names (xs ++ (i, a) ∷ ys) told ended).goal_of m
    goals_now m = elim (name_or m i) [
      | inl q ↦ ap (λ (o : Option GoalRow). or_else o (set g None T.goal_of m)) (among_append home promoted xs ys m
          ∙ (λ j. or_else ((ap (atom_among home promoted xs) q ∙ before_it) j) ((ap (atom_among home promoted ys) q ∙ behind_it) j))) ∙ gone m q (same_name m g) refl ∙ sym (set_here i m None S.goal_of (here m i q))
      | inr o ↦ ap (λ (v : Option GoalRow). or_else v (set g None T.goal_of m)) (among_append home promoted xs ys m
          ∙ ap (λ (t : Bool). or_else (atom_among home promoted xs m) (if t then Some (record { home = home; shape = of_atom a; changed = promoted }) else atom_among home promoted ys m)) (sym (other_by m i o))
          ∙ sym (among_append home promoted xs ((i, a) ∷ ys) m)) ∙ sym (set_other i m None S.goal_of (other_by m i o))
    ]
      where
        gone : (m : Name) → m ≡ i → (t : Bool) → same_name m g ≡ t → set g None T.goal_of m ≡ None
        gone m q true e = set_here g m None T.goal_of e
        gone m q false e = set_other g m None T.goal_of e ∙ ap T.goal_of q ∙ new

    -- a box with another row
    boxes_now : (change row_now : BoxRow → BoxRow) → row_now r0 ≡ change (row store solved_at names told ended r0) → (n : Name)
        → set home (option_map row_now (T.box_of home)) T.box_of n ≡ changed_box (home_in ((stage store solved_at names (xs ++ (i, a) ∷ ys) told ended).goal_of i)) change (stage store solved_at names (xs ++ (i, a) ∷ ys) told ended).box_of n
    boxes_now change row_now e n = elim (name_or n home) [
      | inl q ↦ set_here home n (option_map row_now (T.box_of home)) T.box_of (here n home q) ∙ ap (option_map row_now) there ∙ ap Some e ∙ sym (ap (option_map change) (row_there store solved_at names (xs ++ (i, a) ∷ ys) told ended))
          ∙ sym (set_here home n (option_map change (S.box_of home)) S.box_of (here n home q))
      | inr o ↦ set_other home n (option_map row_now (T.box_of home)) T.box_of (other_by n home o) ∙ sym (row_other store solved_at names (xs ++ (i, a) ∷ ys) told ended n o)
          ∙ sym (set_other home n (option_map change (S.box_of home)) S.box_of (other_by n home o))
    ] ∙ ap (λ (o : Option Name). changed_box o change S.box_of n) (sym its_home)

    -- it tells its box
    pub told_stage : (store_now : Stored) (solved_now : Option ℕ) (worker drawn : ℕ) → drawn ≡ 0
        → IsTable (stage store_now solved_now (less_name i names) (xs ++ ys) (ended + 1) (ended + 1)) (after_tell i store_now solved_now worker drawn (stage store solved_at names (xs ++ (i, a) ∷ ys) told ended))
    told_stage store_now solved_now worker drawn none = record {
      nodes = refl;
      boxes = boxes_now (told_row i store_now solved_now (ended + 1)) (row store_now solved_now (less_name i names) (ended + 1) (ended + 1)) refl;
      goals = goals_now;
      roots = refl;
      roots_changed = refl;
      next = λ v. raised_none worker v next ∙ ap (λ (n : ℕ). slice_index (raised worker n next) v) (sym none);
      steps = refl;
    }

    -- or just goes
    pub confirmed_stage : IsTable (stage store solved_at (less_name i names) (xs ++ ys) told (ended + 1)) (after_confirm i (stage store solved_at names (xs ++ (i, a) ∷ ys) told ended))
    confirmed_stage = record {
      nodes = refl;
      boxes = boxes_now (confirmed_row i (ended + 1)) (row store solved_at (less_name i names) told (ended + 1)) refl;
      goals = goals_now;
      roots = refl;
      roots_changed = refl;
      next = λ v. refl;
      steps = refl;
    }

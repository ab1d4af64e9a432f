-- Names that are swapped with those that a worker draws next, and terms over names that two renamings rename alike.
use Rattle.std.proofs.Common.{◌≡◌, ℕ, ◌+◌, ◌≤◌, ◌<◌, List, [], ◌∷◌, ◌++◌, map, Bool, true, false, refl, sym, ◌∙◌, ap, ◌⊎◌, inl, inr, arith}
use Rattle.std.specs.Prelude.{if◌then◌else◌, Option, Some, None, option_map}
use Rattle.akl_terms.specs.declared.name.Name.{Name}
use Rattle.akl_terms.specs.Names.{same_name}
use Rattle.akl_terms.specs.Tree.{Tree, Trees, variable, integer, port, symbol, none, more}
use Rattle.akl_terms.specs.Equal.{Equations}
use Rattle.akl_terms.proofs.SameNames.{same_name-equal, same_name-refl}
use Rattle.akl_model.specs.Config.{IsIn, Atom, Operator, Port, ShownTree, Content}
use Rattle.akl_model.specs.Renaming.{port_names, renaming, renamed_tree, renamed_trees, renamed_atom, renamed_operator, renamed_equation, renamed_port, renamed_shown}
use Rattle.akl_model.specs.Names.{one_if, times_in}
use Rattle.akl_model.specs.Scopes.{Scope, nowhere, scope_in, IsScoped, AreScoped, TermsScoped, EquationsScoped, AtomScoped, AtomsScoped, TailsScoped, ShownScoped, TermScopedIf, OperatorScoped}
use Rattle.akl_model.proofs.Finds.{zero_or}
use Rattle.akl_model.proofs.Scoped.{IsIn-either}
use Rattle.akl_model.proofs.ScopesAlong.{scope_along, times_path, counted_in, along_ports}
use Rattle.table_laws.specs.Copying.{swapping}
use Rattle.table_laws.proofs.Sets.{other_by, other_name}

-- a name isn't one that the worker draws next
abbrev pub IsBelow : ℕ → ℕ → Name → Type 0
IsBelow w next n = n.worker ≡ w → n.number < next

not_new : (w next : ℕ) (n : Name) → IsBelow w next n → same_name n (record { worker = w; number = next }) ≡ false
not_new w next n below = other_by n (record { worker = w; number = next }) (λ e. let a : n.number < next = below (ap (λ (m : Name). m.worker) e) in let b : n.number ≡ next = ap (λ (m : Name). m.number) e in omega arith)

later : (w next : ℕ) (n : Name) → IsBelow w next n → IsBelow w (next + 1) n
later w next n below e = let a : n.number < next = below e in omega arith

-- such a name is renamed as it is swapped
pub swap_renames : (ns : List Name) (w next : ℕ) (n : Name) → IsBelow w next n → renaming ns w next n ≡ swapping ns w next n
swap_renames [] w next n below = refl
swap_renames (m ∷ ms) w next n below = on (same_name n m) (same_name n (record { worker = w; number = next })) (not_new w next n below) (swap_renames ms w (next + 1) n (later w next n below))
  where
    on : (s t : Bool) → t ≡ false → renaming ms w (next + 1) n ≡ swapping ms w (next + 1) n
        → (if s then record { worker = w; number = next } else renaming ms w (next + 1) n) ≡ (if s then record { worker = w; number = next } else (if t then m else swapping ms w (next + 1) n))
    on true t e r = refl
    on false true e r = cc
    on false false e r = r

-- and where it is none of the names, it stays
pub swap_other : (ns : List Name) (w next : ℕ) (n : Name) → IsBelow w next n → times_in n ns ≡ 0 → swapping ns w next n ≡ n
swap_other [] w next n below z = refl
swap_other (m ∷ ms) w next n below z = on (same_name n m) refl (same_name n (record { worker = w; number = next })) (not_new w next n below) (λ i. swap_other ms w (next + 1) n (later w next n below) i)
  where
    on : (s : Bool) → same_name n m ≡ s → (t : Bool) → t ≡ false → (times_in n ms ≡ 0 → swapping ms w (next + 1) n ≡ n)
        → (if s then record { worker = w; number = next } else (if t then m else swapping ms w (next + 1) n)) ≡ n
    on true e t f r = let u : one_if (same_name n m) ≡ 1 = ap one_if e in absurd (omega arith)
    on false e true f r = cc
    on false e false f r = r (omega arith)

-- swapped twice, a name is itself
pub swap_twice : (ns : List Name) (w next : ℕ) → ((m : Name) → 0 < times_in m ns → IsBelow w next m) → ((m : Name) → times_in m ns ≤ 1) → (n : Name) → swapping ns w next (swapping ns w next n) ≡ n
swap_twice [] w next below once n = refl
swap_twice (m ∷ ms) w next below once n = on (same_name n m) refl (same_name n new) refl (swap_twice ms w (next + 1) inner few n)
  where
    new : Name
    new = record { worker = w; number = next }

    inner : (k : Name) → 0 < times_in k ms → IsBelow w (next + 1) k
    inner k h = later w next k (below k (omega arith))

    few : (k : Name) → times_in k ms ≤ 1
    few k = let o : one_if (same_name k m) + times_in k ms ≤ 1 = once k in omega arith

    first_below : IsBelow w next m
    first_below = below m (let u : one_if (same_name m m) ≡ 1 = ap one_if (same_name-refl m) in omega arith)

    first_apart : times_in m ms ≡ 0
    first_apart = let u : one_if (same_name m m) ≡ 1 = ap one_if (same_name-refl m) in let o : one_if (same_name m m) + times_in m ms ≤ 1 = once m in omega arith

    new_apart : times_in (record { worker = w; number = next }) ms ≡ 0
    new_apart = elim (zero_or (times_in (record { worker = w; number = next }) ms)) [
      | inl z ↦ z
      | inr h ↦ (let b : next < next = below (record { worker = w; number = next }) (omega arith) refl in absurd (omega arith))
    ]

    -- what a name becomes that is neither of the first two isn't either
    beside : (y : Name) → swapping ms w (next + 1) y ≡ n → (s t : Bool) → same_name y m ≡ s → same_name y (record { worker = w; number = next }) ≡ t → same_name n m ≡ false
        → same_name n (record { worker = w; number = next }) ≡ false → (if s then record { worker = w; number = next } else (if t then m else swapping ms w (next + 1) y)) ≡ n
    beside y r true t p q i j =
        let e : y ≡ m = same_name-equal y m p in
        let z : swapping ms w (next + 1) m ≡ m = swap_other ms w (next + 1) m (later w next m first_below) first_apart in
        absurd (other_name n m i (sym r ∙ ap (swapping ms w (next + 1)) e ∙ z))
    beside y r false true p q i j =
        let e : y ≡ record { worker = w; number = next } = same_name-equal y (record { worker = w; number = next }) q in
        let z : swapping ms w (next + 1) (record { worker = w; number = next }) ≡ record { worker = w; number = next } =
        swap_other ms w (next + 1) (record { worker = w; number = next }) (λ k. omega arith) new_apart in
        absurd (other_name n (record { worker = w; number = next }) j (sym r ∙ ap (swapping ms w (next + 1)) e ∙ z))
    beside y r false false p q i j = r

    -- the first name and its new one
    first_back : (s t : Bool) → s ≡ false → t ≡ true → (if s then record { worker = w; number = next } else (if t then m else swapping ms w (next + 1) (record { worker = w; number = next }))) ≡ m
    first_back true t e f = cc
    first_back false true e f = refl
    first_back false false e f = cc

    new_back : (s : Bool) → s ≡ true → (if s then record { worker = w; number = next } else (if same_name m (record { worker = w; number = next }) then m else swapping ms w (next + 1) m)) ≡ record { worker = w; number = next }
    new_back true e = refl
    new_back false e = cc

    turned : same_name (record { worker = w; number = next }) m ≡ false
    turned = other_by (record { worker = w; number = next }) m (λ e. other_name m (record { worker = w; number = next }) (not_new w next m first_below) (sym e))

    on : (s : Bool) → same_name n m ≡ s → (t : Bool) → same_name n (record { worker = w; number = next }) ≡ t → swapping ms w (next + 1) (swapping ms w (next + 1) n) ≡ n
        → swapping (m ∷ ms) w next (if s then record { worker = w; number = next } else (if t then m else swapping ms w (next + 1) n)) ≡ n
    on true e t f r = first_back (same_name (record { worker = w; number = next }) m) (same_name (record { worker = w; number = next }) (record { worker = w; number = next })) turned
        (same_name-refl (record { worker = w; number = next })) ∙ sym (same_name-equal n m e)
    on false e true f r = new_back (same_name m m) (same_name-refl m) ∙ sym (same_name-equal n (record { worker = w; number = next }) f)
    on false e false f r = beside (swapping ms w (next + 1) n) r (same_name (swapping ms w (next + 1) n) m) (same_name (swapping ms w (next + 1) n) (record { worker = w; number = next })) refl refl e f

-- terms in a scope whose names are renamed alike
module _ (f h : Name → Name) (s : Scope) (frames : (n : Name) → IsIn n s.frames → f n ≡ h n) (ports : (n : Name) → IsIn n s.ports → f n ≡ h n) where
  mutual
    tree_alike : (t : Tree) → IsScoped s t → renamed_tree f t ≡ renamed_tree h t
    tree_alike (variable x) i = ap (λ (n : Name). variable (record { frame = n; index = x.index })) (frames x.frame i)
    tree_alike (integer z) i = refl
    tree_alike (port p) i = ap port (ports p i)
    tree_alike (symbol g ts) i = ap (symbol g) (trees_alike ts i)

    trees_alike : (ts : Trees) → AreScoped s ts → renamed_trees f ts ≡ renamed_trees h ts
    trees_alike none i = refl
    trees_alike (more t ts) i = λ k. more (tree_alike t i.0 k) (trees_alike ts i.1 k)

  pub equations_alike : (E : Equations) → EquationsScoped s E → map (renamed_equation f) E ≡ map (renamed_equation h) E
  equations_alike [] i = refl
  equations_alike (e ∷ E) i = λ k. record { left = tree_alike e.left i.0 k; right = tree_alike e.right i.1 k } ∷ equations_alike E i.2 k

  -- so ports, atoms and shown terms

  list_alike : (ts : List Tree) → TermsScoped s ts → map (renamed_tree f) ts ≡ map (renamed_tree h) ts
  list_alike [] i = refl
  list_alike (t ∷ ts) i = λ k. tree_alike t i.0 k ∷ list_alike ts i.1 k

  pub if_alike : (r : Option Tree) → TermScopedIf s r → option_map (renamed_tree f) r ≡ option_map (renamed_tree h) r
  if_alike None i = refl
  if_alike (Some r) i = ap Some (tree_alike r i)

  pub operator_alike : (o : Operator) → OperatorScoped s o → renamed_operator f o ≡ renamed_operator h o
  operator_alike Operator.condition i = refl
  operator_alike Operator.commit i = refl
  operator_alike Operator.nondeterminate i = refl
  operator_alike (Operator.collecting r) i = ap Operator.collecting (tree_alike r i)

  pub atom_alike : (a : Atom) → AtomScoped s a → renamed_atom f a ≡ renamed_atom h a
  atom_alike (Atom.equation l r) i = λ k. Atom.equation (tree_alike l i.0 k) (tree_alike r i.1 k)
  atom_alike (Atom.arithmetic test l r) i = λ k. Atom.arithmetic test (tree_alike l i.0 k) (tree_alike r i.1 k)
  atom_alike (Atom.open_port p t) i = λ k. Atom.open_port (tree_alike p i.0 k) (tree_alike t i.1 k)
  atom_alike (Atom.send m p) i = λ k. Atom.send (tree_alike m i.0 k) (tree_alike p i.1 k)
  atom_alike (Atom.call d ts r) i = λ k. Atom.call d (list_alike ts i.0 k) (if_alike r i.1 k)
  atom_alike Atom.fail i = refl

  pub atoms_alike : (rest : List Atom) → AtomsScoped s rest → map (renamed_atom f) rest ≡ map (renamed_atom h) rest
  atoms_alike [] i = refl
  atoms_alike (a ∷ rest) i = λ k. atom_alike a i.0 k ∷ atoms_alike rest i.1 k

  pub ports_alike : (ps : List Port) → ((n : Name) → IsIn n (port_names ps) → f n ≡ h n) → TailsScoped s ps → map (renamed_port f) ps ≡ map (renamed_port h) ps
  ports_alike [] named i = refl
  ports_alike (p ∷ ps) named i = λ k. record { name = named p.name (inl refl) k; tail = tree_alike p.tail i.0 k } ∷ ports_alike ps (λ n j. named n (inr j)) i.1 k

  pub shown_alike : (ts : List ShownTree) → ShownScoped s ts → map (renamed_shown f) ts ≡ map (renamed_shown h) ts
  shown_alike [] i = refl
  shown_alike (t ∷ ts) i = λ k. record { text = t.text; tree = tree_alike t.tree i.0 k } ∷ shown_alike ts i.1 k

-- names alone
pub names_alike : (f h : Name → Name) (ns : List Name) → ((n : Name) → IsIn n ns → f n ≡ h n) → map f ns ≡ map h ns
names_alike f h [] e = refl
names_alike f h (n ∷ ns) e = λ k. e n (inl refl) k ∷ names_alike f h ns (λ m i. e m (inr i)) k

-- that stay
mutual
  tree_itself : (t : Tree) → renamed_tree (λ n. n) t ≡ t
  tree_itself (variable x) = refl
  tree_itself (integer z) = refl
  tree_itself (port p) = refl
  tree_itself (symbol g ts) = ap (symbol g) (trees_itself ts)

  trees_itself : (ts : Trees) → renamed_trees (λ n. n) ts ≡ ts
  trees_itself none = refl
  trees_itself (more t ts) = λ k. more (tree_itself t k) (trees_itself ts k)

pub equations_itself : (E : Equations) → map (renamed_equation (λ n. n)) E ≡ E
equations_itself [] = refl
equations_itself (e ∷ E) = λ k. record { left = tree_itself e.left k; right = tree_itself e.right k } ∷ equations_itself E k

-- the names of a scope along a path stand on it

frames_along : (n : Name) (s : Scope) (path : List Content) → IsIn n (scope_along s path).frames → IsIn n s.frames ⊎ (0 < times_path n path)
frames_along n s [] h = inl h
frames_along n s (b ∷ bs) h = on (frames_along n (scope_in s b) bs h)
  where
    on : IsIn n (b.frames ++ s.frames) ⊎ (0 < times_path n bs) → IsIn n s.frames ⊎ (0 < times_path n (b ∷ bs))
    on (inr i) = inr (omega arith)
    on (inl i) = elim (IsIn-either n b.frames s.frames i) [ inl a ↦ (let c : 0 < times_in n b.frames = counted_in n b.frames a in inr (omega arith)) | inr a ↦ inl a ]

pub frames_stand : (n : Name) (path : List Content) → IsIn n (scope_along nowhere path).frames → 0 < times_path n path
frames_stand n path h = elim (frames_along n nowhere path h) [ inl x ↦ absurd x | inr x ↦ x ]

pub ports_stand : (n : Name) (path : List Content) → IsIn n (scope_along nowhere path).ports → 0 < times_path n path
ports_stand n path h = elim (along_ports n nowhere path h) [ inl x ↦ absurd x | inr x ↦ x ]

-- What is read from a chain with a further store, in which what is waited on is bound.
use Rattle.std.proofs.Common.{◌≡◌, ℕ, zero, suc, ℤ, ◌≤◌, Bool, false, Option, Some, None, List, [], ◌∷◌, ◌++◌, length, take, drop, refl, sym, ◌∙◌, ap, subst, inl, inr, arith}
use Rattle.std.proofs.lemmas.Bool.{eqb-true}
use Rattle.std.specs.Prelude.{◌==◌, IsTrue, ◌↔◌, MatchOption}
use Rattle.std.specs.Global.{Vec}
use Rattle.akl_terms.specs.declared.name.Name.{Name}
use Rattle.akl_terms.specs.declared.name.Var.{Var}
use Rattle.akl_terms.specs.declared.term.Node.{Node}
use Rattle.akl_terms.specs.declared.term.Term.{Term}
use Rattle.akl_terms.specs.declared.program.Goal.{Goal}
use Rattle.akl_terms.specs.declared.program.Program.{Program}
use Rattle.akl_terms.specs.Tree.{Tree, variable}
use Rattle.akl_terms.specs.Equal.{Equations, IsTold, Equal, told, turned, joined, IsConsistent, IsConsistentBy, IsStructured}
use Rattle.akl_terms.specs.Touching.{Touches}
use Rattle.akl_terms.proofs.EqualLaws.{EqualBy-follows, IsConsistent-follows}
use Rattle.akl_model.specs.Config.{Atom}
use Rattle.akl_model.specs.Stable.{AtomWaitsOn}
use Rattle.constraint_laws.proofs.WaitsOne.{waits_one_goal}
use Rattle.rational_unify.specs.Solving.{bindings_in}
use Rattle.local_store.specs.Stored.{Stored, with_binding}
use Rattle.local_store.specs.Chained.{bindings_from, ToldBy}
use Rattle.local_store.specs.declared.asking.Consistency.{Consistency}
use Rattle.local_store.specs.declared.asking.Consistency.TheVariants.{Consistent, Clash}
use Rattle.local_store.specs.Asking.{Decides}
use Rattle.local_store.proofs.Layers.{told-take}
use Rattle.entail_test.specs.Asked.{frames_from, environment_at, whole_at, KeepsApart, KeepsApartAt, AreTouchedAt, IsClashAt, DecidesRead, Reads}
use Rattle.entail_test.specs.declared.outside.Outside.{Outside}
use Rattle.entail_test.specs.Touched.{AreTouched}
use Rattle.box_tree.specs.declared.entries.HeldOp.{HeldOp}
use Rattle.box_tree.specs.declared.view.Sight.{Sight}
use Rattle.box_tree.specs.Tables.{goal_atom}
use Rattle.box_tree.specs.Views.{ViewValue}
use Rattle.stable_test.specs.Reaching.{IsConsistentAt, AreReached, IsConsistentDown, IsToldAt, ReachesNoneAt, AreReachedAt, IsTestable}
use Rattle.stable_test.proofs.OneBinding.{TellsAlso, still_consistent, equal_touched, touched_now, touched_before}
use Rattle.stable_test.proofs.Further.{take_front, told_whole, whole_told, whole_bound}
use Rattle.stable_test.proofs.Reaches.{waits_free}

-- an atom waits on one class
pub atom_one : (p : Program) (W : Equations) (a : Atom) (x y : Var) → IsConsistent W → AtomWaitsOn p W a x → AtomWaitsOn p W a y → Equal W (variable x) (variable y)
atom_one p W (Atom.arithmetic test l r) x y c u w = waits_one_goal p.templates.symbols W test l r x y c u w
atom_one p W (Atom.send m r) x y c u w = joined (turned u.0) w.0
atom_one p W (Atom.equation s t) x y c u w = absurd u
atom_one p W (Atom.open_port s t) x y c u w = absurd u
atom_one p W (Atom.call d ts r) x y c u w = absurd u
atom_one p W Atom.fail x y c u w = absurd u

-- what fewer equations touch more do
pub touches_more : (inner : List Name) (E W V : Equations) → ((a b : Tree) → IsTold W a b → IsTold V a b) → (x : Var) → Touches inner E W x → Touches inner E V x
touches_more inner E W V more x t = record {
  unbound = t.unbound;
  told = elim t.told [
    | inl k ↦ inl (k.0, k.1, EqualBy-follows (λ a b m. told (more a b m)) k.2, k.3)
    | inr k ↦ inr (k.0, record { other = k.1.other; equal = EqualBy-follows (λ a b m. told (more a b m)) k.1.equal; apart = k.1.apart })
  ];
}

-- a further store changes nothing before it, and has a part in the frames alone
front_same : (ss : List Stored) (s r : Stored) (k : ℕ) → k ≤ length ss → take k (ss ++ s ∷ []) ≡ take k (ss ++ r ∷ [])
front_same ss s r k l = take_front ss (s ∷ []) k l ∙ sym (take_front ss (r ∷ []) k l)

frames_same : (ss : List Stored) (s r : Stored) (k : ℕ) → k ≤ length ss → s.frames ≡ r.frames → frames_from (drop k (ss ++ s ∷ [])) ≡ frames_from (drop k (ss ++ r ∷ []))
frames_same [] s r zero l e = ap (λ (fs : List Name). fs ++ []) e
frames_same [] s r (suc k) l e = absurd (omega arith)
frames_same (q ∷ ss) s r zero l e = ap (λ (fs : List Name). q.frames ++ fs) (frames_same ss s r zero (omega arith) e)
frames_same (q ∷ ss) s r (suc k) l e = frames_same ss s r k (omega arith) e

module _ (p : Program) (depth : ℕ) (frames : Stored) (v : ViewValue) (t : IsTestable p depth frames v) where
  abbrev nodes : List Node
  nodes = p.templates.nodes

  abbrev around : Equations
  around = environment_at p.templates.nodes (v.stores ++ frames ∷ []) depth

  abbrev inner : List Name
  inner = frames_from (drop depth (v.stores ++ frames ∷ []))

  abbrev down : Equations
  down = bindings_in p.templates.nodes (bindings_from v.stores)

  plain_more : (a b : Tree) → IsTold down a b → IsTold (whole_at nodes (v.stores ++ frames ∷ []) depth) a b
  plain_more a b m = whole_told nodes v.stores frames depth a b (inl m)

  plain_less : (a b : Tree) → IsTold (whole_at nodes (v.stores ++ frames ∷ []) depth) a b → IsTold down a b
  plain_less a b m = elim (told_whole nodes v.stores frames depth a b m) [
    | inl x ↦ x
    | inr x ↦ absurd (subst (λ (l : List (Var × Term)). IsTold (bindings_in nodes l) a b) t.unbound x)
  ]

  around_told : (a b : Tree) → IsTold around a b → IsTold down a b
  around_told a b m = told-take nodes v.stores depth a b (subst (λ (ss : List Stored). IsTold (bindings_in nodes (bindings_from ss)) a b) (take_front v.stores (frames ∷ []) depth t.deep) m)

  -- where all is consistent, the frames keep apart
  keeps : IsConsistent down → KeepsApartAt nodes (v.stores ++ frames ∷ []) depth
  keeps c = t.apart (IsConsistent-follows (record { each = λ {s = a} {t = b} m. told (around_told a b m) }) c)

  -- a further store without bindings tells nothing more
  plain_consistent : IsConsistent down → IsConsistent (whole_at nodes (v.stores ++ frames ∷ []) depth)
  plain_consistent c = IsConsistent-follows (record { each = λ {s = a} {t = b} m. told (plain_less a b m) }) c

  -- so what the stores touch is what a box reaches
  pub box_reached : (failing : Option Name) → v.sight ≡ Sight.Box failing → IsConsistent down → (on : List Var)
      → (KeepsApartAt nodes (v.stores ++ frames ∷ []) depth → IsConsistent (whole_at nodes (v.stores ++ frames ∷ []) depth) → AreTouchedAt nodes (v.stores ++ frames ∷ []) depth on)
      → IsConsistentDown p v × AreReachedAt p depth frames v on
  box_reached failing s c on h = subst (λ (q : Sight). IsConsistentAt down q × AreReached p inner around down q on) (sym s) (
    c,
    record {
      each = λ x m. touches_more inner around (whole_at nodes (v.stores ++ frames ∷ []) depth) down plain_less x (u.each x m);
      every = λ x k. u.every x (touches_more inner around down (whole_at nodes (v.stores ++ frames ∷ []) depth) plain_more x k);
    },
  )
    where
      u : AreTouchedAt nodes (v.stores ++ frames ∷ []) depth on
      u = h (keeps c) (plain_consistent c)

  -- and where these tell that all together is inconsistent, it is so down to the box
  pub box_told : (failing : Option Name) → v.sight ≡ Sight.Box failing → (found : Option (Vec Var)) → IsToldAt nodes (v.stores ++ frames ∷ []) depth found
      → MatchOption found (IsConsistentDown p v → ⊥) (λ on. IsConsistentDown p v × AreReachedAt p depth frames v on.items)
  box_told failing s None n = λ c. n (plain_consistent (subst (IsConsistentAt down) s c))
  box_told failing s (Some on) h = box_reached failing s (IsConsistent-follows (record { each = λ {s = a} {t = b} m. told (plain_more a b m) }) h.0) on.items (λ k c. h.1 k)

  -- a choice reaches nothing
  pub choice_reached : (op : HeldOp) → v.sight ≡ Sight.Choice op → IsConsistentDown p v × AreReachedAt p depth frames v []
  choice_reached op s = subst (λ (q : Sight). IsConsistentAt down q × AreReached p inner around down q []) (sym s) (tt, record { each = λ x m. absurd m; every = λ x r. absurd r })

  -- an atom, by the variable on which it waits
  module _ (a : Goal) (s : v.sight ≡ Sight.Atom a) (c : IsConsistent down) where
    pub idle_reached : ((x : Var) → AtomWaitsOn p down (goal_atom nodes a) x → ⊥) → IsConsistentDown p v × AreReachedAt p depth frames v []
    idle_reached none = subst (λ (q : Sight). IsConsistentAt down q × AreReached p inner around down q []) (sym s) (c, record { each = λ x m. absurd m; every = λ x r. absurd (none r.0 r.1) })

    module _ (on : Var) (w : AtomWaitsOn p down (goal_atom nodes a) on) (z : ℤ) where
      abbrev told_bound : Equations
      told_bound = whole_at p.templates.nodes (v.stores ++ with_binding frames on (Term.Int z) ∷ []) depth

      more : TellsAlso down told_bound on z
      more = whole_bound nodes v.stores frames depth on z t.unbound

      free : IsStructured down on → ⊥
      free = waits_free p down (goal_atom nodes a) on w

      bound_consistent : IsConsistent told_bound
      bound_consistent = still_consistent down told_bound on z more free c

      same_around : environment_at nodes (v.stores ++ with_binding frames on (Term.Int z) ∷ []) depth ≡ around
      same_around = ap (λ (ss : List Stored). bindings_in nodes (bindings_from ss)) (front_same v.stores (with_binding frames on (Term.Int z)) frames depth t.deep)

      same_inner : frames_from (drop depth (v.stores ++ with_binding frames on (Term.Int z) ∷ [])) ≡ inner
      same_inner = frames_same v.stores (with_binding frames on (Term.Int z)) frames depth t.deep refl

      bound_keeps : KeepsApartAt nodes (v.stores ++ with_binding frames on (Term.Int z) ∷ []) depth
      bound_keeps = subst (λ (fs : List Name). KeepsApart fs (environment_at nodes (v.stores ++ with_binding frames on (Term.Int z) ∷ []) depth)) (sym same_inner)
          (subst (KeepsApart inner) (sym same_around) (keeps c))

      -- what is touched where it is bound is what the atom reaches
      pub waiting_reached : (list : List Var)
          → (KeepsApartAt nodes (v.stores ++ with_binding frames on (Term.Int z) ∷ []) depth → IsConsistent (whole_at nodes (v.stores ++ with_binding frames on (Term.Int z) ∷ []) depth)
          → AreTouchedAt nodes (v.stores ++ with_binding frames on (Term.Int z) ∷ []) depth list)
          → IsConsistentDown p v × AreReachedAt p depth frames v list
      waiting_reached list h = subst (λ (q : Sight). IsConsistentAt down q × AreReached p inner around down q list) (sym s) (
        c,
        record {
          each = λ x m. (on, w, touched_before down told_bound on z more free inner around x (u.each x m));
          every = λ x r. u.every x (elim r.2 [
            | inl k ↦ touched_now down told_bound on z more free inner around x k
            | inr k ↦ equal_touched down told_bound on z more free inner around x k.0 (joined k.1 (atom_one p down (goal_atom nodes a) r.0 on c r.1 w))
          ]);
        },
      )
        where
          u : AreTouched inner around told_bound list
          u = subst (λ (fs : List Name). AreTouched fs around told_bound list) same_inner
              (subst (λ (E : Equations). AreTouched (frames_from (drop depth (v.stores ++ with_binding frames on (Term.Int z) ∷ []))) E told_bound list) same_around (h bound_keeps bound_consistent))

      pub waiting_told : (found : Option (Vec Var)) → IsToldAt nodes (v.stores ++ with_binding frames on (Term.Int z) ∷ []) depth found
          → MatchOption found (IsConsistentDown p v → ⊥) (λ list. IsConsistentDown p v × AreReachedAt p depth frames v list.items)
      waiting_told None n = absurd (n bound_consistent)
      waiting_told (Some list) h = waiting_reached list.items (λ k b. h.1 k)

  -- where all is inconsistent, no box and no atom is as they are asked to be
  pub inconsistent_down : (IsConsistent down → ⊥) → ((op : HeldOp) → v.sight ≡ Sight.Choice op → ⊥) → IsConsistentDown p v → ⊥
  inconsistent_down clash other c = on v.sight refl c
    where
      on : (sight : Sight) → v.sight ≡ sight → IsConsistentAt down sight → ⊥
      on (Sight.Choice op) e k = other op e
      on (Sight.Box failing) e k = clash k
      on (Sight.Atom a) e k = clash k

  -- nothing is reached exactly where nothing was found
  pub none_reached : (list : List Var) → IsConsistentDown p v × AreReachedAt p depth frames v list → (n : ℕ) → n ≡ length list → (b : Bool) → b ≡ (n == 0) → IsTrue b ↔ ReachesNoneAt p depth frames v
  none_reached [] r n e b q = (λ h. (r.0, λ x k. (r.1.every x k).1), λ h. q ∙ ap (λ (m : ℕ). m == 0) e)
  none_reached (y ∷ ys) r n e b q = (λ h. absurd (full (eqb-true n 0 (sym q ∙ h))), λ h. absurd (h.1 y (r.1.each y (inl refl))))
    where
      full : n ≡ 0 → ⊥
      full z = omega (arith, e, z)

  pub none_asked : (IsConsistentDown p v → ⊥) → IsTrue false ↔ ReachesNoneAt p depth frames v
  none_asked n = (λ h. cc, λ h. absurd (n h.0))

-- what isn't a clash is consistent
pub no_clash : (ns : List Node) (ss : List Stored) (a : Consistency) → Decides ns ss a → ((left right : Term) → a ≡ Clash left right → ⊥) → IsConsistentBy (ToldBy ns ss)
no_clash ns ss Consistent d n = d
no_clash ns ss (Clash left right) d n = absurd (n left right refl)

-- what is read of a chain
module _ (ns : List Node) (ss : List Stored) (depth : ℕ) (read : Outside) where
  pub told_touched : (on : Vec Var) → read ≡ Outside.Touched on → DecidesRead ns ss depth read → (KeepsApartAt ns ss depth → Reads ns ss depth read) → IsToldAt ns ss depth (Some on)
  told_touched on e whole reads = (subst (DecidesRead ns ss depth) e whole, λ k. (subst (Reads ns ss depth) e (reads k)).1)

  pub told_clash : (left right : Term) → read ≡ Outside.Clash left right → DecidesRead ns ss depth read → IsToldAt ns ss depth None
  told_clash left right e whole = λ c. let k : IsClashAt ns ss depth left right = subst (DecidesRead ns ss depth) e whole in k.1.differ (c.heads k.0 k.1.is_left k.1.is_right)

-- Ports of a store and those of its box.
use Rattle.std.proofs.Common.{◌≡◌, List, [], ◌∷◌, Bool, true, false, Some, refl, sym, ap, ◌∙◌, subst, inl, inr}
use Rattle.std.specs.Prelude.{if◌then◌else◌, cond, is_some}
use Rattle.std.specs.Map.{lookup}
use Rattle.std.specs.BTreeMap.{insert_entry}
use Rattle.std.specs.Ordering.{match_ordering, is_eq, is_lt}
use Rattle.std.specs.declared.cmp.Ordering.{Ordering}
use Rattle.std.specs.declared.cmp.Ordering.TheVariants.{Less, Equal, Greater}
use Rattle.akl_terms.specs.declared.name.Name.{Name}
use Rattle.akl_terms.specs.declared.term.Node.{Node}
use Rattle.akl_terms.specs.declared.term.Term.{Term}
use Rattle.akl_terms.specs.Names.{same_name, is_before, name_cmp}
use Rattle.akl_terms.specs.Template.{tree}
use Rattle.akl_terms.proofs.SameNames.{same_name-equal}
use Rattle.akl_model.specs.Config.{Content, Boxes, no_boxes, box, Goals, no_goals, atom, choice, Port, with_tail, port_in}
use Rattle.akl_model.specs.Ordered.{IsBeforeAll, IsIncreasing, BoxesOrdered, GoalsOrdered}
use Rattle.akl_model.specs.Renaming.{port_names}
use Rattle.akl_model.proofs.Options.{some_value}
use Rattle.akl_model.proofs.Orders.{before_not}
use Rattle.step_laws.specs.Whereabouts.{BoxIn, InGoals}
use Rattle.local_store.proofs.Orders.{name-same}
use Rattle.table_laws.specs.Rows.{ports_in}
use Rattle.guard_plan.proofs.Names.{name_before}

-- a port that is there, in a store and in its box

pub found_port : (nodes : List Node) (ps : List (Name × Term)) (q : Name) (t : Term) → lookup (same_name q) ps ≡ Some t → port_in q (ports_in nodes ps) ≡ Some (record { name = q; tail = tree nodes t })
found_port nodes [] q t e = cc
found_port nodes (p ∷ ps) q t e = on (same_name q p.0) refl e (λ h. found_port nodes ps q t h)
  where
    on : (b : Bool) → same_name q p.0 ≡ b → cond b (Some p.1) (lookup (same_name q) ps) ≡ Some t → (lookup (same_name q) ps ≡ Some t → port_in q (ports_in nodes ps) ≡ Some (record { name = q; tail = tree nodes t }))
        → (if b then Some (record { name = p.0; tail = tree nodes p.1 }) else port_in q (ports_in nodes ps)) ≡ Some (record { name = q; tail = tree nodes t })
    on true r h f = λ i. Some (record { name = sym (same_name-equal q p.0 r) i; tail = tree nodes (some_value h i) })
    on false r h f = f h

pub has_port : (nodes : List Node) (ps : List (Name × Term)) (q : Name) (k : Port) → port_in q (ports_in nodes ps) ≡ Some k → is_some (lookup (same_name q) ps) ≡ true
has_port nodes [] q k e = cc
has_port nodes (p ∷ ps) q k e = on (same_name q p.0) e (λ h. has_port nodes ps q k h)
  where
    on : (b : Bool) → (if b then Some (record { name = p.0; tail = tree nodes p.1 }) else port_in q (ports_in nodes ps)) ≡ Some k → (port_in q (ports_in nodes ps) ≡ Some k → is_some (lookup (same_name q) ps) ≡ true)
        → is_some (cond b (Some p.1) (lookup (same_name q) ps)) ≡ true
    on true h f = refl
    on false h f = f h

-- the ports behind one are behind it in order
before_port : (nodes : List Node) (n : Name) (ps : List (Name × Term)) (q : Name) → IsBeforeAll n (port_names (ports_in nodes ps)) → is_some (lookup (same_name q) ps) ≡ true → is_before n q ≡ true
before_port nodes n [] q o h = let z : false ≡ true = h in cc
before_port nodes n (p ∷ ps) q o h = on (same_name q p.0) refl h (λ x. before_port nodes n ps q o.1 x)
  where
    on : (b : Bool) → same_name q p.0 ≡ b → is_some (cond b (Some p.1) (lookup (same_name q) ps)) ≡ true → (is_some (lookup (same_name q) ps) ≡ true → is_before n q ≡ true) → is_before n q ≡ true
    on true r x f = ap (is_before n) (same_name-equal q p.0 r) ∙ o.0
    on false r x f = f x

-- it takes a new tail
pub port_set : (nodes : List Node) (ps : List (Name × Term)) (q : Name) (t : Term) → IsIncreasing (port_names (ports_in nodes ps)) → is_some (lookup (same_name q) ps) ≡ true
    → ports_in nodes (insert_entry name_cmp ps q t) ≡ with_tail q (tree nodes t) (ports_in nodes ps)
port_set nodes [] q t o h = let z : false ≡ true = h in cc
port_set nodes (p ∷ ps) q t o h = on (name_cmp q p.0) (same_name q p.0) refl (name-same q p.0) (is_before q p.0) refl (name_before q p.0) h (λ x. port_set nodes ps q t o.1 x)
  where
    on : (c : Ordering) (s : Bool) → same_name q p.0 ≡ s → is_eq c ≡ s → (b : Bool) → is_before q p.0 ≡ b → is_lt c ≡ b → is_some (cond s (Some p.1) (lookup (same_name q) ps)) ≡ true
        → (is_some (lookup (same_name q) ps) ≡ true → ports_in nodes (insert_entry name_cmp ps q t) ≡ with_tail q (tree nodes t) (ports_in nodes ps))
        → ports_in nodes (match_ordering c ((q, t) ∷ p ∷ ps) ((p.0, t) ∷ ps) (p ∷ insert_entry name_cmp ps q t))
        ≡ (if s then record { name = p.0; tail = tree nodes t } ∷ ports_in nodes ps else record { name = p.0; tail = tree nodes p.1 } ∷ with_tail q (tree nodes t) (ports_in nodes ps))
    on Less true r e b i l x f = cc
    on Less false r e true i l x f = absurd (before_not q p.0 i (before_port nodes p.0 ps q o.0 x))
    on Less false r e false i l x f = cc
    on Equal true r e b i l x f = refl
    on Equal false r e b i l x f = cc
    on Greater true r e b i l x f = cc
    on Greater false r e b i l x f = ap (λ (ks : List Port). record { name = p.0; tail = tree nodes p.1 } ∷ ks) (f x)

-- the ports of a box in order
mutual
  pub ports_ordered : (r : List Content) (k : Content) (hs : Goals) (bs : Boxes) → BoxIn r k hs bs → BoxesOrdered bs → IsIncreasing (port_names k.ports)
  ports_ordered r k hs no_boxes x o = absurd x
  ports_ordered r k hs (box b gs bs) (inl e) o = subst (λ (c : Content). IsIncreasing (port_names c.ports)) (sym e.1) o.1
  ports_ordered r k hs (box b gs bs) (inr (inl w)) o = inside_ordered w.0 k hs gs w.2 o.2
  ports_ordered r k hs (box b gs bs) (inr (inr x)) o = ports_ordered r k hs bs x o.3

  inside_ordered : (r : List Content) (k : Content) (hs gs : Goals) → InGoals r k hs gs → GoalsOrdered gs → IsIncreasing (port_names k.ports)
  inside_ordered r k hs no_goals x o = absurd x
  inside_ordered r k hs (atom g a gs) x o = inside_ordered r k hs gs x o.1
  inside_ordered r k hs (choice g c bs gs) (inl x) o = ports_ordered r k hs bs x o.1
  inside_ordered r k hs (choice g c bs gs) (inr x) o = inside_ordered r k hs gs x o.2

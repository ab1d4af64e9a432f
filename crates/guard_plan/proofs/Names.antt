-- The frames and ports of a store with those of another one.
use Rattle.std.proofs.Common.{◌≡◌, ◌+◌, ◌≤◌, List, [], ◌∷◌, Bool, true, false, refl, sym, ap, subst, ◌∙◌, arith}
use Rattle.std.proofs.lemmas.Bool.Decides.{nat_tests}
use Rattle.std.specs.Prelude.{if◌then◌else◌}
use Rattle.std.specs.BTreeMap.{insert_entry}
use Rattle.std.specs.Ordering.{match_ordering, is_eq, is_lt}
use Rattle.std.specs.declared.cmp.Ordering.{Ordering}
use Rattle.std.specs.declared.cmp.Ordering.TheVariants.{Less, Equal, Greater}
use Rattle.akl_terms.specs.declared.name.Name.{Name}
use Rattle.akl_terms.specs.declared.term.Node.{Node}
use Rattle.akl_terms.specs.declared.term.Term.{Term}
use Rattle.akl_terms.specs.Names.{same_name, is_before, name_cmp}
use Rattle.akl_terms.specs.Template.{tree}
use Rattle.akl_terms.proofs.SameNames.{same_name-refl, same_name-equal}
use Rattle.akl_model.specs.Config.{Port, with_name, with_names, with_port, with_ports}
use Rattle.akl_model.specs.Names.{one_if, times_in}
use Rattle.akl_model.specs.Renaming.{port_names}
use Rattle.akl_model.proofs.Drawn.{times-with_ports}
use Rattle.akl_model.proofs.Orders.{before_or, not_same}
use Rattle.local_store.specs.Parts.{all_ports}
use Rattle.local_store.specs.Stored.{Stored, named, all_named}
use Rattle.local_store.specs.Promoting.{named_too}
use Rattle.local_store.proofs.Orders.{name-same}
use Rattle.table_laws.specs.Rows.{ports_in}
use Rattle.table_laws.proofs.NewGoals.{with_names_after}

pub name_before : (a b : Name) → is_lt (name_cmp a b) ≡ is_before a b
name_before a b = grind (arith, nat_tests)

pub named_with : (ms : List Name) (n : Name) → named ms n ≡ with_name n ms
named_with [] n = refl
named_with (m ∷ ms) n = on (name_cmp n m) (same_name n m) (is_before n m) (name-same n m) (name_before n m) (named_with ms n)
  where
    on : (o : Ordering) (s b : Bool) → is_eq o ≡ s → is_lt o ≡ b → named ms n ≡ with_name n ms
        → match_ordering o (n ∷ m ∷ ms) (m ∷ ms) (m ∷ named ms n) ≡ (if s then m ∷ ms else (if b then n ∷ m ∷ ms else m ∷ with_name n ms))
    on Less true b e l h = cc
    on Less false true e l h = refl
    on Less false false e l h = cc
    on Equal true b e l h = refl
    on Equal false b e l h = cc
    on Greater true b e l h = cc
    on Greater false true e l h = cc
    on Greater false false e l h = ap (λ (l : List Name). m ∷ l) h

-- names come in any order
two_names : (a b : Name) (ms : List Name) → with_name b (with_name a ms) ≡ with_name a (with_name b ms)
two_names a b ms = on (same_name a b) refl (is_before a b) refl
  where
    on : (s : Bool) → same_name a b ≡ s → (t : Bool) → is_before a b ≡ t → with_name b (with_name a ms) ≡ with_name a (with_name b ms)
    on true p t q = subst (λ (k : Name). with_name k (with_name a ms) ≡ with_name a (with_name k ms)) (same_name-equal a b p) refl
    on false p true q = with_names_after a (b ∷ []) ms (q, tt)
    on false p false q = sym (with_names_after b (a ∷ []) ms (before_or a b p q, tt))

name_later : (n : Name) (ns ms : List Name) → with_names ns (with_name n ms) ≡ with_name n (with_names ns ms)
name_later n [] ms = refl
name_later n (k ∷ ns) ms = ap (with_name k) (name_later n ns ms) ∙ two_names n k (with_names ns ms)

pub all_named_with : (ms ns : List Name) → all_named ms ns ≡ with_names ns ms
all_named_with ms [] = refl
all_named_with ms (n ∷ ns) = all_named_with (named ms n) ns ∙ ap (with_names ns) (named_with ms n) ∙ name_later n ns ms

pub named_frames : (s other : Stored) → (named_too s other).frames ≡ with_names other.frames s.frames
named_frames s other = all_named_with s.frames other.frames

-- a port of another name
pub port_put : (nodes : List Node) (ps : List (Name × Term)) (q : Name) (t : Term) → times_in q (port_names (ports_in nodes ps)) ≡ 0
    → ports_in nodes (insert_entry name_cmp ps q t) ≡ with_port (record { name = q; tail = tree nodes t }) (ports_in nodes ps)
port_put nodes [] q t h = refl
port_put nodes (p ∷ ps) q t h = on (name_cmp q p.0) (same_name q p.0) (is_before q p.0) (name-same q p.0) (name_before q p.0)
    (not_same q p.0 (times_in q (port_names (ports_in nodes ps))) h) (port_put nodes ps q t (rest (same_name q p.0) h))
  where
    rest : (b : Bool) → one_if b + times_in q (port_names (ports_in nodes ps)) ≡ 0 → times_in q (port_names (ports_in nodes ps)) ≡ 0
    rest true z = omega arith
    rest false z = omega arith

    on : (o : Ordering) (s b : Bool) → is_eq o ≡ s → is_lt o ≡ b → s ≡ false → ports_in nodes (insert_entry name_cmp ps q t) ≡ with_port (record { name = q; tail = tree nodes t }) (ports_in nodes ps)
        → ports_in nodes (match_ordering o ((q, t) ∷ p ∷ ps) ((p.0, t) ∷ ps) (p ∷ insert_entry name_cmp ps q t))
        ≡ (if b then record { name = q; tail = tree nodes t } ∷ ports_in nodes (p ∷ ps) else record { name = p.0; tail = tree nodes p.1 } ∷ with_port (record { name = q; tail = tree nodes t }) (ports_in nodes ps))
    on Less s true e l f g = refl
    on Less s false e l f g = cc
    on Equal s b e l f g = let z : true ≡ false = e ∙ f in cc
    on Greater s true e l f g = cc
    on Greater s false e l f g = ap (λ (l : List Port). record { name = p.0; tail = tree nodes p.1 } ∷ l) g

pub all_ports_with : (nodes : List Node) (qs ps : List (Name × Term)) → ((n : Name) → times_in n (port_names (ports_in nodes ps)) + times_in n (port_names (ports_in nodes qs)) ≤ 1)
    → ports_in nodes (all_ports qs ps) ≡ with_ports (ports_in nodes ps) (ports_in nodes qs)
all_ports_with nodes qs [] h = refl
all_ports_with nodes qs (p ∷ ps) h = port_put nodes (all_ports qs ps) p.0 p.1 (none (all_ports_with nodes qs ps once)) ∙ ap (with_port (record { name = p.0; tail = tree nodes p.1 })) (all_ports_with nodes qs ps once)
  where
    once : (n : Name) → times_in n (port_names (ports_in nodes ps)) + times_in n (port_names (ports_in nodes qs)) ≤ 1
    once n =
        let k : (one_if (same_name n p.0) + times_in n (port_names (ports_in nodes ps))) + times_in n (port_names (ports_in nodes qs)) ≤ 1 = h n in
        omega arith

    none : ports_in nodes (all_ports qs ps) ≡ with_ports (ports_in nodes ps) (ports_in nodes qs) → times_in p.0 (port_names (ports_in nodes (all_ports qs ps))) ≡ 0
    none below =
        let k : (one_if (same_name p.0 p.0) + times_in p.0 (port_names (ports_in nodes ps))) + times_in p.0 (port_names (ports_in nodes qs)) ≤ 1 = h p.0 in
        let one : one_if (same_name p.0 p.0) ≡ 1 = ap one_if (same_name-refl p.0) in
        let e : times_in p.0 (port_names (ports_in nodes (all_ports qs ps))) ≡ times_in p.0 (port_names (with_ports (ports_in nodes ps) (ports_in nodes qs))) = ap (λ (l : List Port). times_in p.0 (port_names l)) below in
        let m : times_in p.0 (port_names (with_ports (ports_in nodes ps) (ports_in nodes qs))) ≤ times_in p.0 (port_names (ports_in nodes ps)) + times_in p.0 (port_names (ports_in nodes qs)) =
        times-with_ports p.0 (ports_in nodes ps) (ports_in nodes qs) in
        omega arith

pub named_ports : (nodes : List Node) (s other : Stored) → ((n : Name) → times_in n (port_names (ports_in nodes other.ports)) + times_in n (port_names (ports_in nodes s.ports)) ≤ 1)
    → ports_in nodes (named_too s other).ports ≡ with_ports (ports_in nodes other.ports) (ports_in nodes s.ports)
named_ports nodes s other h = all_ports_with nodes s.ports other.ports h

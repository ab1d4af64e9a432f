-- A port to which a term of a box is equal is one of the box or of a box around it.
use Rattle.std.proofs.Common.{◌≡◌, ℕ, zero, suc, ◌+◌, ◌≤◌, ◌<◌, List, [], ◌∷◌, ◌++◌, Bool, true, false, Some, refl, subst, ◌⊎◌, inl, inr, arith}
use Rattle.std.specs.Prelude.{if◌then◌else◌, slice_get}
use Rattle.akl_terms.specs.declared.name.Name.{Name}
use Rattle.akl_terms.specs.Tree.{Tree, Trees, variable, integer, port, symbol, none, more, arguments, list_of}
use Rattle.akl_terms.specs.Equal.{Equations, IsTold, Equal}
use Rattle.akl_terms.specs.Names.{same_name}
use Rattle.akl_model.specs.Config.{IsIn, Atom, Config, an_atom, held_in, Port, port_in, Found, whole, box_at}
use Rattle.akl_model.specs.Renaming.{port_names}
use Rattle.akl_model.specs.Stable.{only}
use Rattle.akl_model.specs.Names.{one_if, times_in}
use Rattle.akl_model.specs.Scopes.{Scope, nowhere, scope_in, IsScoped, AreScoped, EquationsScoped}
use Rattle.akl_terms.proofs.Arguments.{same_value}
use Rattle.akl_model.proofs.Finds.{times}
use Rattle.constraint_laws.proofs.Decided.{Keeps, kept_by}
use Rattle.akl_model.proofs.Scoped.{IsIn-either}
use Rattle.akl_model.proofs.ScopesAlong.{times_path, scope_along, found_path, told_scoped_by, counted_in, along_ports}
use Rattle.plan_laws.proofs.InScope.{Good, whole_scoped, atom_in_scope}

scoped_argument : (s : Scope) (ts : Trees) (k : ℕ) (a : Tree) → AreScoped s ts → slice_get (list_of ts) k ≡ Some a → IsScoped s a
scoped_argument s none k a h e = cc
scoped_argument s (more t ts) zero a h e = subst (IsScoped s) (same_value refl e) h.0
scoped_argument s (more t ts) (suc k) a h e = scoped_argument s ts k a h.1 e

scoped_down : (s : Scope) (t : Tree) (k : ℕ) (a : Tree) → IsScoped s t → slice_get (arguments t) k ≡ Some a → IsScoped s a
scoped_down s (variable x) k a h e = let r : slice_get [] k ≡ Some a = e in cc
scoped_down s (integer x) k a h e = let r : slice_get [] k ≡ Some a = e in cc
scoped_down s (port x) k a h e = let r : slice_get [] k ≡ Some a = e in cc
scoped_down s (symbol f ts) k a h e = scoped_argument s ts k a h e

scoped_kept : (s : Scope) (E : Equations) → EquationsScoped s E → Keeps (IsTold E) (IsScoped s)
scoped_kept s E h = record { of_told = λ a b m. told_scoped_by s E a b h m; down = scoped_down s }

pub port_counted : (q : Name) (ps : List Port) (k : Port) → port_in q ps ≡ Some k → 0 < times_in q (port_names ps)
port_counted q [] k e = cc
port_counted q (r ∷ ps) k e = on (same_name q r.name) e (λ z. port_counted q ps k z)
  where
    on : (t : Bool) → (if t then Some r else port_in q ps) ≡ Some k → (port_in q ps ≡ Some k → 0 < times_in q (port_names ps)) → 0 < one_if t + times_in q (port_names ps)
    on true z f = omega arith
    on false z f = let x : 0 < times_in q (port_names ps) = f z in omega arith

pub port_found : (q : Name) (ps : List Port) → 0 < times_in q (port_names ps) → (k : Port) × (port_in q ps ≡ Some k)
port_found q [] h = absurd (omega arith)
port_found q (r ∷ ps) h = on (same_name q r.name) h (λ z. port_found q ps z)
  where
    on : (t : Bool) → 0 < one_if t + times_in q (port_names ps) → (0 < times_in q (port_names ps) → (k : Port) × (port_in q ps ≡ Some k)) → (k : Port) × ((if t then Some r else port_in q ps) ≡ Some k)
    on true z f = (r, refl)
    on false z f = f (omega arith)

-- the port to which a message of a box goes is one of the box, where it isn't one inside or apart
module _ (c : Config) (w : Good c) (n : Name) (f : Found) (e : box_at n c.roots ≡ Some f) (g : Name) (m r : Tree) (held : held_in g f.goals ≡ Some (an_atom (Atom.send m r))) (q : Name) (equal : Equal (whole f) r (port q)) where
  abbrev there : Scope
  there = scope_in (scope_along nowhere f.around) f.content

  in_ports : IsIn q (port_names f.content.ports ++ (scope_along nowhere f.around).ports)
  in_ports = elim (kept_by (scoped_kept there (whole f) (whole_scoped c w n f e)) equal) [
    | inl x ↦ subst (IsScoped there) x (atom_in_scope c w n f e g (Atom.send m r) held).1
    | inr x ↦ x.1
  ]

  -- it stands here or around
  pub port_either : (0 < times_in q (port_names f.content.ports)) ⊎ ((times q (only f) ≡ 0) × (0 < times q c.roots))
  port_either = elim (IsIn-either q (port_names f.content.ports) (scope_along nowhere f.around).ports in_ports) [
    | inl x ↦ inl (counted_in q (port_names f.content.ports) x)
    | inr x ↦ inr (around (along_ports q nowhere f.around x))
  ]
    where
      around : IsIn q [] ⊎ (0 < times_path q f.around) → (times q (only f) ≡ 0) × (0 < times q c.roots)
      around (inl x) = absurd x
      around (inr x) =
          let k : times q (only f) + times_path q f.around ≤ times q c.roots = found_path q n c.roots f e in
          let o : times q c.roots ≤ 1 = w.stand.once q in
          (omega (arith, k, o, x), omega (arith, k, x))

-- What the end of an operand's chain says of it.
use Rattle.std.proofs.Common.{◌≡◌, List, Some, refl, sym, ◌∙◌, ap, subst}
use Rattle.akl_terms.specs.declared.name.Name.{Name}
use Rattle.akl_terms.specs.declared.name.Var.{Var}
use Rattle.akl_terms.specs.declared.term.Node.{Node}
use Rattle.akl_terms.specs.declared.term.Term.{Term}
use Rattle.akl_terms.specs.declared.term.Seen.{Seen}
use Rattle.akl_terms.specs.declared.term.Seen.TheVariants.{Free}
use Rattle.akl_terms.specs.Tree.{port, Head, port_head, head_of}
use Rattle.akl_terms.specs.Equal.{EqualBy, turned, joined}
use Rattle.akl_terms.specs.Template.{tree, seen_of, tree_seen}
use Rattle.rational_unify.specs.Known.{end_of}
use Rattle.rational_unify.proofs.Chains.{tree_of_seen}
use Rattle.rational_unify.proofs.Heads.{head_of_seen, head_seen}
use Rattle.rational_unify.proofs.FormLaws.{form-consistent}
use Rattle.local_store.specs.Stored.{Stored}
use Rattle.local_store.specs.Chained.{bindings_from, ToldBy, IsFormChain}
use Rattle.local_store.proofs.Resolved.{value-bound}
use Rattle.port_goals.specs.Sends.{IsNoPort}

-- a head that a term which isn't a port begins with
other-head : (s : Seen) (p : Name) → ((q : Name) → s ≡ Seen.Port q → ⊥) → head_seen s ≡ Some (port_head p) → ⊥
other-head (Free x) p n e = cc
other-head (Seen.Int z) p n e = cc
other-head (Seen.Port q) p n e = n q refl
other-head (Seen.Struct s i k f) p n e = cc

pub port-tree : (nodes : List Node) (t : Term) (p : Name) → Seen.Port p ≡ seen_of nodes t → tree nodes t ≡ port p
port-tree nodes t p e = (tree_of_seen nodes t).1 ∙ ap (tree_seen (tree_of_seen nodes t).0) (sym e)

module _ (nodes : List Node) (ss : List Stored) (f : IsFormChain nodes ss) (t last : Term) (e : tree nodes last ≡ end_of nodes (bindings_from ss) (tree nodes t)) where
  pub is-port : (p : Name) → Seen.Port p ≡ seen_of nodes last → EqualBy (ToldBy nodes ss) (tree nodes t) (port p)
  is-port p s = subst (λ k. EqualBy (ToldBy nodes ss) (tree nodes t) k) (port-tree nodes last p s)
      (value-bound nodes ss f t last e (Seen.Port p) s (λ x q. cc)).0

  pub is-no_port : (s : Seen) → s ≡ seen_of nodes last → ((x : Var) → s ≡ Free x → ⊥) → ((q : Name) → s ≡ Seen.Port q → ⊥) → IsNoPort (ToldBy nodes ss) (tree nodes t)
  is-no_port s q n m =
      let w : EqualBy (ToldBy nodes ss) (tree nodes t) (tree nodes last) × ((h : Head) × (head_of (tree nodes last) ≡ Some h)) = value-bound nodes ss f t last e s q n in
      record {
        other = tree nodes last;
        head = w.1.0;
        equal = w.0;
        is_head = w.1.1;
        none = λ p k. other-head s p m (ap head_seen q ∙ sym (head_of_seen nodes last) ∙ w.1.1
            ∙ ap Some ((form-consistent nodes (bindings_from ss) (ToldBy nodes ss) f).heads {s = tree nodes last} {t = port p} (joined (turned w.0) k) w.1.1 refl));
      }

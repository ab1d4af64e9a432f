-- Ports that are put into lists which stand for the same ports.
use Rattle.std.proofs.Common.{◌≡◌, List, [], ◌∷◌, refl, ap, subst}
use Rattle.std.specs.BTreeMap.{insert_entry}
use Rattle.std.specs.Ordering.{match_ordering}
use Rattle.std.specs.declared.cmp.Ordering.{Ordering}
use Rattle.std.specs.declared.cmp.Ordering.TheVariants.{Less, Equal, Greater}
use Rattle.akl_terms.specs.declared.name.Name.{Name}
use Rattle.akl_terms.specs.declared.term.Node.{Node}
use Rattle.akl_terms.specs.declared.term.Term.{Term}
use Rattle.akl_terms.specs.Names.{name_cmp}
use Rattle.akl_terms.specs.Template.{tree}
use Rattle.akl_model.specs.Config.{Port}
use Rattle.table_laws.specs.Rows.{ports_in}
use Rattle.local_store.specs.Parts.{all_ports}

module _ (nodes : List Node) where
  abbrev port_of : Name × Term → Port
  port_of p = record { name = p.0; tail = tree nodes p.1 }

  insert_same : (q : Name) (t : Term) (ps rs : List (Name × Term)) → ports_in nodes ps ≡ ports_in nodes rs → ports_in nodes (insert_entry name_cmp ps q t) ≡ ports_in nodes (insert_entry name_cmp rs q t)
  insert_same q t [] [] e = refl
  insert_same q t [] (r ∷ rs) e = absurd cc
  insert_same q t (p ∷ ps) [] e = absurd cc
  insert_same q t (p ∷ ps) (r ∷ rs) e =
      let first : port_of p ≡ port_of r = cc in
      let rest : ports_in nodes ps ≡ ports_in nodes rs = cc in
      let name : p.0 ≡ r.0 = ap (λ (x : Port). x.name) first in
      subst (λ (n : Name). ports_in nodes (match_ordering (name_cmp q p.0) ((q, t) ∷ p ∷ ps) ((p.0, t) ∷ ps) (p ∷ insert_entry name_cmp ps q t))
      ≡ ports_in nodes (match_ordering (name_cmp q n) ((q, t) ∷ r ∷ rs) ((r.0, t) ∷ rs) (r ∷ insert_entry name_cmp rs q t))) name
      (on (name_cmp q p.0) name first rest (insert_same q t ps rs rest))
    where
      on : (o : Ordering) → p.0 ≡ r.0 → port_of p ≡ port_of r → ports_in nodes ps ≡ ports_in nodes rs
          → ports_in nodes (insert_entry name_cmp ps q t) ≡ ports_in nodes (insert_entry name_cmp rs q t)
          → ports_in nodes (match_ordering o ((q, t) ∷ p ∷ ps) ((p.0, t) ∷ ps) (p ∷ insert_entry name_cmp ps q t)) ≡ ports_in nodes (match_ordering o ((q, t) ∷ r ∷ rs) ((r.0, t) ∷ rs) (r ∷ insert_entry name_cmp rs q t))
      on Less name first rest z = λ i. port_of (q, t) ∷ first i ∷ rest i
      on Equal name first rest z = λ i. record { name = name i; tail = tree nodes t } ∷ rest i
      on Greater name first rest z = λ i. first i ∷ z i

  pub put_same : (ps rs qs : List (Name × Term)) → ports_in nodes ps ≡ ports_in nodes rs → ports_in nodes (all_ports ps qs) ≡ ports_in nodes (all_ports rs qs)
  put_same ps rs [] e = e
  put_same ps rs (q ∷ qs) e = insert_same q.0 q.1 (all_ports ps qs) (all_ports rs qs) (put_same ps rs qs e)

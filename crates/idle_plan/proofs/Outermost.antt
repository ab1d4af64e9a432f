-- A variable that is equal to another one by the outermost store is an alias of it.
use Rattle.std.proofs.Common.{◌≡◌, List, [], ◌∷◌, length, take, map, refl, sym, ◌∙◌, ap, subst, arith}
use Rattle.akl_terms.specs.declared.name.Var.{Var}
use Rattle.akl_terms.specs.declared.term.Node.{Node}
use Rattle.akl_terms.specs.Tree.{variable}
use Rattle.akl_terms.specs.Equal.{Equal, turned, IsConsistent, IsStructured}
use Rattle.akl_terms.proofs.EqualLaws.{Equal-follows}
use Rattle.akl_terms.proofs.StandingLaws.{StandFor-back}
use Rattle.akl_model.specs.Config.{IsIn, Content, Found, whole, site_of}
use Rattle.akl_model.specs.Wakes.{IsAt}
use Rattle.constraint_laws.specs.Oldest.{IsOldest, HasOldest}
use Rattle.constraint_laws.specs.Standing.{StandsForConsistent}
use Rattle.constraint_laws.specs.Touched.{IsAmong}
use Rattle.constraint_laws.proofs.Stands.{structured_stands, variable_stands}
use Rattle.step_laws.proofs.Deeper.{names_snoc, in_path}
use Rattle.plan_laws.specs.Sleeps.{IsOutermostAt, IsAliasAt}
use Rattle.plan_laws.proofs.DownTo.{is_down, path_to, begins_outermost, outermost_whole}
use Rattle.local_store.specs.Stored.{Stored}
use Rattle.local_store.specs.Chained.{equations_of}
use Rattle.class_members.specs.Members.{outermost_of}
use Rattle.box_tree.specs.Views.{ViewValue, IsViewOf}
use Rattle.guard_plan.proofs.Sites.{found}
use Rattle.idle_plan.proofs.Listed.{AreStoresOf}
use Rattle.idle_plan.proofs.Paths.{IsDeep, box_deep, good, stores_of}
use Rattle.idle_plan.proofs.Wholes.{before_follows, before_consistent}

pub no_more : (bs : List Content) → length bs ≡ 0 → bs ≡ []
no_more [] e = refl
no_more (b ∷ bs) e = absurd (omega (arith, e))

module _ (v : ViewValue) (i : IsViewOf v) where
  abbrev nodes : List Node
  nodes = v.table.program.templates.nodes

  first : (m : Found) × IsDeep i.table.config i.site 0 m
  first = box_deep i.table.config (good v i) i.site (found v i) 0 (omega arith)

  stands_at : IsAt first.0.content.name i.table.config.roots v.place
  stands_at = is_down first.0.content.name i.table.config.roots v.place i.site i.is_site
      (subst (IsIn first.0.content.name) (ap (λ (bs : List Content). map (λ (b : Content). b.name) bs) first.1.path ∙ names_snoc i.site.around i.site.content) (in_path first.0.around first.0.content first.1.rest))

  outermost_first : IsOutermostAt i.table.config v.place first.0
  outermost_first = record { is_found = first.1.there; is_root = no_more first.0.around first.1.deep; is_at = stands_at }

  stores_first : AreStoresOf nodes (take 1 v.stores) first.0
  stores_first = stores_of v i 0 first.0 first.1

  -- by stores that begin with the outermost one of the view
  pub alias_by : (ss : List Stored) → take 1 ss ≡ take 1 v.stores → IsConsistent (equations_of nodes ss) → (y x : Var) → (IsStructured (equations_of nodes ss) x → ⊥)
      → Equal (outermost_of nodes ss) (variable y) (variable x) → IsAliasAt i.table.config v.place y x
  alias_by ss begins c y x n e = record {
    outermost = first.0;
    is_outermost = outermost_first;
    equal = variable_stands (equations_of nodes (take 1 v.stores)) (whole first.0) (record { stands = stores_first.all; consistent = subst (λ (k : List Stored). IsConsistent (equations_of nodes k)) begins (before_consistent nodes ss 1 c) })
        (variable y) x (subst (λ (k : List Stored). IsStructured (equations_of nodes k) x → ⊥) begins (λ s. n (s.0, s.1, Equal-follows (before_follows nodes ss 1) s.2, s.3)))
        (subst (λ (k : List Stored). Equal (equations_of nodes k) (variable y) (variable x)) begins e);
  }

  -- the equations of the outermost box are told by that store
  one_outermost : (f : Found) → IsOutermostAt i.table.config v.place f → whole f ≡ whole first.0
  one_outermost f h =
      let a : (rest : List Content) × (f.content ∷ rest ≡ path_to (site_of v.place i.table.config.roots)) = begins_outermost i.table.config (good v i) v.place f h in
      let b : (rest : List Content) × (first.0.content ∷ rest ≡ path_to (site_of v.place i.table.config.roots)) = begins_outermost i.table.config (good v i) v.place first.0 outermost_first in
      let e : f.content ∷ a.0 ≡ first.0.content ∷ b.0 = a.1 ∙ sym b.1 in
      let q : f.content ≡ first.0.content = cc in
      outermost_whole f h.is_root ∙ ap (λ (k : Content). k.equations) q ∙ sym (outermost_whole first.0 outermost_first.is_root)

  -- so a list that has the oldest of its classes by the store has them by the box, of a variable that isn't structured
  pub oldest_by : (ss : List Stored) → take 1 ss ≡ take 1 v.stores → IsConsistent (equations_of nodes ss) → (list : List Var) → HasOldest (outermost_of nodes ss) list → (x : Var)
      → (IsStructured (equations_of nodes ss) x → ⊥) → IsAmong x list → (f : Found) → IsOutermostAt i.table.config v.place f → (w : Var) → IsOldest (whole f) x w → IsAmong w list
  oldest_by ss begins c list h x n m f at w o = h x w m (record { equal = back w o.equal; oldest = λ y e. o.oldest y (forth y e) })
    where
      stores_one : StandsForConsistent (equations_of nodes (take 1 ss)) (whole f)
      stores_one = subst (StandsForConsistent (equations_of nodes (take 1 ss))) (sym (one_outermost f at))
          (subst (λ (k : List Stored). StandsForConsistent (equations_of nodes k) (whole first.0)) (sym begins)
          (record { stands = stores_first.all; consistent = subst (λ (k : List Stored). IsConsistent (equations_of nodes k)) begins (before_consistent nodes ss 1 c) }))

      box_one : StandsForConsistent (whole f) (equations_of nodes (take 1 ss))
      box_one = record { stands = StandFor-back stores_one.stands; consistent = stores_one.stands.to stores_one.consistent }

      free : IsStructured (equations_of nodes (take 1 ss)) x → ⊥
      free s = n (s.0, s.1, Equal-follows (before_follows nodes ss 1) s.2, s.3)

      free_there : IsStructured (whole f) x → ⊥
      free_there s = free (structured_stands (whole f) (equations_of nodes (take 1 ss)) box_one x s)

      forth : (y : Var) → Equal (equations_of nodes (take 1 ss)) (variable x) (variable y) → Equal (whole f) (variable x) (variable y)
      forth y e = turned (variable_stands (equations_of nodes (take 1 ss)) (whole f) stores_one (variable y) x free (turned e))

      back : (y : Var) → Equal (whole f) (variable x) (variable y) → Equal (equations_of nodes (take 1 ss)) (variable x) (variable y)
      back y e = turned (variable_stands (whole f) (equations_of nodes (take 1 ss)) box_one (variable y) x free_there (turned e))

-- What a plan binds at a view's place: members of what its stores say, with the oldest of each class.
use Rattle.std.proofs.Common.{◌≡◌, List, [], ◌∷◌, ◌++◌, map, Some, refl, sym, ◌∙◌, ap, subst, append_assoc, append-nil}
use Rattle.akl_terms.specs.declared.name.Var.{Var}
use Rattle.akl_terms.specs.declared.term.Term.{Term}
use Rattle.akl_terms.specs.declared.term.Equation as code
use Rattle.akl_terms.specs.Tree.{variable}
use Rattle.akl_terms.specs.Equal.{Equations, IsTold, told, turned, joined, IsConsistent, IsStructured}
use Rattle.akl_terms.specs.Standing.{StandFor}
use Rattle.akl_terms.proofs.EqualLaws.{EqualBy-follows, IsTold-left, IsConsistent-follows}
use Rattle.akl_terms.proofs.StandingLaws.{StandFor-on, StandFor-back}
use Rattle.akl_model.specs.Config.{Content, Goals, Config, Found, environment, whole, box_at}
use Rattle.akl_model.specs.Wakes.{names_down_to}
use Rattle.akl_model.proofs.NamesKept.{Stand}
use Rattle.constraint_laws.specs.Oldest.{HasOldest}
use Rattle.constraint_laws.specs.Standing.{StandsForConsistent}
use Rattle.constraint_laws.specs.StandingGrows.{AreToldIn}
use Rattle.constraint_laws.specs.Touched.{IsAmong}
use Rattle.constraint_laws.proofs.Stands.{structured_stands, variable_stands}
use Rattle.constraint_laws.proofs.StandsGrow.{stands_with_more}
use Rattle.step_laws.proofs.Whereabouts.{found_in}
use Rattle.step_laws.proofs.Deeper.{chain_at}
use Rattle.rational_unify.specs.Solving.{bindings_in, equations_in}
use Rattle.local_store.specs.Parts.{ToldStore}
use Rattle.local_store.specs.Stored.{Stored}
use Rattle.local_store.specs.Chained.{bindings_from, equations_of}
use Rattle.local_store.specs.Bound.{AreNewlyBound}
use Rattle.local_store.specs.Telling.{AnswersTold}
use Rattle.local_store.specs.Promoting.{AnswersPromoted}
use Rattle.local_store.proofs.Layers.{told-take, bindings-right, from-last}
use Rattle.local_store.proofs.NewlyBound.{bound_stands}
use Rattle.class_members.specs.Members.{outermost_of, IsMember, AreMembers}
use Rattle.class_members.proofs.BoundMembers.{members_bound}
use Rattle.table_laws.specs.Rows.{BoxRow, Table, store_in, stores_along, told_in}
use Rattle.table_laws.specs.Unfolds.{IsBoxRow, Unfolds}
use Rattle.table_laws.proofs.Frame.{row_of}
use Rattle.box_tree.specs.Tables.{table_of}
use Rattle.box_tree.specs.Views.{ViewValue, IsViewOf}
use Rattle.step_laws.specs.Bound.{first_equations, outermost_equations}
use Rattle.table_laws.proofs.StoreChains.{told_stands, around_push}
use Rattle.guard_plan.proofs.Sites.{stand, found, stores_path, whole_stands}

-- of the unstructured variables of a list, the oldest by some equations are the oldest by those that stand for them
module _ (E F : Equations) (w : StandsForConsistent E F) (list : List Var) (free : (x : Var) → IsAmong x list → IsStructured E x → ⊥) (h : HasOldest E list) where
  by_others : StandsForConsistent F E
  by_others = record { stands = StandFor-back w.stands; consistent = w.stands.to w.consistent }

  pub oldest_stands : HasOldest F list
  oldest_stands x o m k = h x o m (record {
    equal = turned (variable_stands F E by_others (variable o) x (λ s. free x m (structured_stands F E by_others x s)) (turned k.equal));
    oldest = λ y e. k.oldest y (turned (variable_stands E F w (variable y) x (free x m) (turned e)));
  })

-- the outermost store stands for the equations of the outermost box
module _ (T : Table) (c : Config) (s : Stand c) (u : Unfolds T c) (f : Found) (e : box_at f.content.name c.roots ≡ Some f) where
  root_stands : (b : Content) (gs : Goals) → box_at b.name c.roots ≡ Some (record { around = []; content = b; goals = gs })
      → StandFor (IsTold (bindings_in T.nodes (store_in (T.box_of b.name)).bindings)) (IsTold b.equations)
  root_stands b gs is =
      let w : (r : BoxRow) × (T.box_of b.name ≡ Some r) × IsBoxRow T c.roots (record { around = []; content = b; goals = gs }) r = row_of T c u b.name (record { around = []; content = b; goals = gs }) is in
      subst (λ (E : Equations). StandFor (IsTold E) (IsTold b.equations)) (append-nil (bindings_in T.nodes (store_in (T.box_of b.name)).bindings)) w.2.stands

  abbrev Stands : List Content → Type 0
  Stands r = StandFor (IsTold (outermost_of T.nodes (stores_along T (map (λ (b : Content). b.name) r ++ f.content.name ∷ [])))) (IsTold (first_equations (r ++ f.content ∷ [])))

  down : (r : List Content) → f.around ≡ r → Stands r
  down [] q = root_stands f.content f.goals (e ∙ ap (λ (x : List Content). Some (record { around = x; content = f.content; goals = f.goals })) q)
  down (b ∷ rest) q = let k : (gs : Goals) × (box_at b.name c.roots ≡ Some (record { around = []; content = b; goals = gs })) = chain_at c.roots s.once f [] b rest (found_in f.content.name c.roots f e) q in root_stands b k.0 k.1

  outermost_stands : StandFor (IsTold (outermost_of T.nodes (stores_along T (names_down_to f)))) (IsTold (outermost_equations f))
  outermost_stands = down f.around refl

module _ (v : ViewValue) (i : IsViewOf v) where
  outer : StandFor (IsTold (outermost_of v.table.program.templates.nodes v.stores)) (IsTold (outermost_equations i.site))
  outer = subst (λ (ss : List Stored). StandFor (IsTold (outermost_of v.table.program.templates.nodes ss)) (IsTold (outermost_equations i.site))) (sym (stores_path v i))
      (outermost_stands (table_of v.table) i.table.config (stand v i) i.table.unfolds i.site (found v i))

  all : StandFor (IsTold (equations_of v.table.program.templates.nodes v.stores)) (IsTold (whole i.site))
  all = StandFor-on (told_stands v.table.program.templates.nodes v.stores) (whole_stands v i)

  first : AreToldIn (outermost_of v.table.program.templates.nodes v.stores) (equations_of v.table.program.templates.nodes v.stores)
  first = record { each = told-take v.table.program.templates.nodes v.stores 1 }

  -- with each member of a class the oldest one, by the outermost box
  module _ (of list : List Var) (m : AreMembers v.table.program.templates.nodes v.stores of list) where
    free : (x : Var) → IsAmong x list → IsStructured (outermost_of v.table.program.templates.nodes v.stores) x → ⊥
    free x a s =
        let w : IsMember (equations_of v.table.program.templates.nodes v.stores) of x = m.each x a in
        w.unstructured (s.0, s.1, joined w.equal (EqualBy-follows (λ t u k. told (first.each t u k)) s.2), s.3)

    consistent : (x : Var) → IsAmong x list → IsConsistent (outermost_of v.table.program.templates.nodes v.stores)
    consistent x a = IsConsistent-follows (record { each = λ q. told (first.each _ _ q) }) (m.consistent x a)

    pub oldest_at : HasOldest (outermost_equations i.site) list
    oldest_at x o a k = oldest_stands (outermost_of v.table.program.templates.nodes v.stores) (outermost_equations i.site) (record { stands = outer; consistent = consistent x a }) list free m.oldest x o a k

  -- from more equations than the stores have
  module _ (G H : Equations) (more : AreToldIn (equations_of v.table.program.templates.nodes v.stores) G) (stands : StandFor (IsTold G) (IsTold H)) (of list : List Var)
      (m : AreMembers v.table.program.templates.nodes v.stores of list) where
    pub bound_at : AreNewlyBound (equations_of v.table.program.templates.nodes v.stores) (equations_of v.table.program.templates.nodes v.stores) G of
        → AreNewlyBound (outermost_equations i.site) (whole i.site) H list
    bound_at h = bound_stands (outermost_of v.table.program.templates.nodes v.stores) (equations_of v.table.program.templates.nodes v.stores) G (outermost_equations i.site) (whole i.site) H
        outer all stands first (λ c. IsConsistent-follows (record { each = λ q. told (more.each _ _ q) }) c) list (members_bound v.table.program.templates.nodes v.stores G more of list m h)

  -- by what was told
  pub told_at : (es : List code.Equation) (t : ToldStore) → AnswersTold v.table.program.templates.nodes v.stores v.known es t → (list : List Var)
      → AreMembers v.table.program.templates.nodes v.stores t.bound list → (F : Equations) → F ≡ i.site.content.equations ++ equations_in v.table.program.templates.nodes es
      → AreNewlyBound (outermost_equations i.site) (whole i.site) (environment i.site ++ F) list
  told_at es t a list m F q = subst (λ (H : Equations). AreNewlyBound (outermost_equations i.site) (whole i.site) H list)
      (append_assoc (environment i.site) i.site.content.equations (equations_in v.table.program.templates.nodes es) ∙ ap (λ (E : Equations). environment i.site ++ E) (sym q))
      (bound_at (equations_of v.table.program.templates.nodes v.stores ++ equations_in v.table.program.templates.nodes es) (whole i.site ++ equations_in v.table.program.templates.nodes es)
      (record { each = IsTold-left (equations_of v.table.program.templates.nodes v.stores) (equations_in v.table.program.templates.nodes es) })
      (stands_with_more (equations_of v.table.program.templates.nodes v.stores) (whole i.site) (equations_in v.table.program.templates.nodes es) all) t.bound list m a.bound)

  -- by an alternative that joins the box
  pub joined_at : (s : Stored) (known : _) (t : ToldStore) → AnswersPromoted v.table.program.templates.nodes (v.stores ++ s ∷ []) known t → (list : List Var)
      → AreMembers v.table.program.templates.nodes v.stores t.bound list → (F : Equations)
      → StandFor (IsTold (told_in v.table.program.templates.nodes (v.stores ++ s ∷ []))) (IsTold (environment i.site ++ (i.site.content.equations ++ F)))
      → AreNewlyBound (outermost_equations i.site) (whole i.site) (environment i.site ++ (i.site.content.equations ++ F)) list
  joined_at s known t a list m F stands = bound_at (equations_of v.table.program.templates.nodes (v.stores ++ s ∷ [])) (environment i.site ++ (i.site.content.equations ++ F))
      (record {
        each = λ x y h. subst (λ (bs : List (Var × Term)). IsTold (bindings_in v.table.program.templates.nodes bs) x y) (sym (from-last v.stores s))
            (bindings-right v.table.program.templates.nodes s.bindings (bindings_from v.stores) x y h);
      })
      (StandFor-on (told_stands v.table.program.templates.nodes (v.stores ++ s ∷ [])) stands) t.bound list m
      (subst (λ (ss : List Stored). AreNewlyBound (equations_of v.table.program.templates.nodes ss) (equations_of v.table.program.templates.nodes ss) (equations_of v.table.program.templates.nodes (v.stores ++ s ∷ [])) t.bound)
      (around_push v.stores s) a.bound)

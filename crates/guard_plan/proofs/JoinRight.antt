-- A store inside a box's own joins it: what the box's store stands for then.
use Rattle.std.proofs.Common.{◌≡◌, ℕ, ◌+◌, ◌≤◌, List, [], ◌∷◌, ◌++◌, Bool, true, false, ◌∙◌, ap, subst, append-nil, arith}
use Rattle.akl_terms.specs.declared.name.Name.{Name}
use Rattle.akl_terms.specs.Equal.{Equations, IsTold}
use Rattle.akl_terms.specs.Standing.{StandFor}
use Rattle.akl_terms.proofs.StandingLaws.{StandFor-back, StandFor-on}
use Rattle.constraint_laws.proofs.StandsGrow.{stands_with_more}
use Rattle.akl_model.specs.Config.{Port, with_names, with_ports, environment, whole}
use Rattle.akl_model.specs.Renaming.{port_names}
use Rattle.akl_model.specs.Names.{times_in}
use Rattle.akl_model.specs.Wakes.{names_around}
use Rattle.rational_unify.specs.Solving.{bindings_in}
use Rattle.local_store.specs.Parts.{ToldStore}
use Rattle.local_store.specs.Stored.{Stored}
use Rattle.local_store.specs.Chained.{ToldBy, innermost, around, replaced, IsSolvedChain}
use Rattle.local_store.specs.Promoting.{named_too, AnswersPromoted}
use Rattle.table_laws.specs.Rows.{stores_along, told_in, ports_in}
use Rattle.table_laws.specs.Steps.{IsSolvedIf}
use Rattle.table_laws.proofs.Stores.{told_join}
use Rattle.box_tree.specs.Tables.{table_of}
use Rattle.box_tree.specs.Views.{ViewValue, IsViewOf}
use Rattle.box_tree.proofs.StoresAround.{stores_around}
use Rattle.table_laws.proofs.StoreChains.{told_stands, around_push, innermost_push}
use Rattle.guard_plan.proofs.Names.{named_frames, named_ports}
use Rattle.guard_plan.proofs.Sites.{row, environment_stands, own_store}

module _ (v : ViewValue) (i : IsViewOf v) (s : Stored) (known : ℕ) (t : ToldStore) (answer : AnswersPromoted v.table.program.templates.nodes (v.stores ++ s ∷ []) known t) where
  both : named_too (innermost (around (v.stores ++ s ∷ []))) (innermost (v.stores ++ s ∷ [])) ≡ named_too (row v i).0.store s
  both = ap (λ (x : Stored). named_too x (innermost (v.stores ++ s ∷ []))) (ap innermost (around_push v.stores s) ∙ own_store v i) ∙ ap (named_too (row v i).0.store) (innermost_push v.stores s)

  pub joined_frames : t.store.frames ≡ with_names s.frames i.site.content.frames
  joined_frames = answer.promotes.frames ∙ ap (λ (x : Stored). x.frames) both ∙ named_frames (row v i).0.store s ∙ ap (with_names s.frames) (row v i).2.frames

  pub joined_ports : ((n : Name) → times_in n (port_names (ports_in v.table.program.templates.nodes s.ports)) + times_in n (port_names i.site.content.ports) ≤ 1)
      → ports_in v.table.program.templates.nodes t.store.ports ≡ with_ports (ports_in v.table.program.templates.nodes s.ports) i.site.content.ports
  joined_ports few = ap (ports_in v.table.program.templates.nodes) (answer.promotes.ports ∙ ap (λ (x : Stored). x.ports) both) ∙ named_ports v.table.program.templates.nodes (row v i).0.store s once
      ∙ ap (with_ports (ports_in v.table.program.templates.nodes s.ports)) (row v i).2.ports
    where
      once : (n : Name) → times_in n (port_names (ports_in v.table.program.templates.nodes s.ports)) + times_in n (port_names (ports_in v.table.program.templates.nodes (row v i).0.store.ports)) ≤ 1
      once n =
          let k : times_in n (port_names (ports_in v.table.program.templates.nodes s.ports)) + times_in n (port_names i.site.content.ports) ≤ 1 = few n in
          let y : times_in n (port_names (ports_in v.table.program.templates.nodes (row v i).0.store.ports)) ≡ times_in n (port_names i.site.content.ports) = ap (λ (l : List Port). times_in n (port_names l)) (row v i).2.ports in
          omega arith

  replaced_is : replaced (around (v.stores ++ s ∷ [])) t.store ≡ stores_along (table_of v.table) (names_around i.site) ++ t.store ∷ []
  replaced_is = ap (λ (ss : List Stored). replaced ss t.store) (around_push v.stores s) ∙ ap (λ (ss : List Stored). ss ++ t.store ∷ []) (stores_around v i)

  told_is : told_in v.table.program.templates.nodes (stores_along (table_of v.table) (names_around i.site) ++ t.store ∷ [])
      ≡ told_in v.table.program.templates.nodes (stores_along (table_of v.table) (names_around i.site)) ++ bindings_in v.table.program.templates.nodes t.store.bindings
  told_is = told_join v.table.program.templates.nodes (stores_along (table_of v.table) (names_around i.site)) (t.store ∷ [])
      ∙ ap (λ (E : Equations). told_in v.table.program.templates.nodes (stores_along (table_of v.table) (names_around i.site)) ++ E) (append-nil (bindings_in v.table.program.templates.nodes t.store.bindings))

  pub joined_solved : (b : Bool) → t.solved ≡ b → IsSolvedIf b (table_of v.table) (names_around i.site) t.store
  joined_solved false e = tt
  joined_solved true e = let w : _ = answer.is_solved.0 e in subst (IsSolvedChain v.table.program.templates.nodes) replaced_is (answer.promotes.solved w.0 w.1 w.2)

  -- the stores around and the new one tell what was told down to the store that joined
  module _ (E : Equations) (all : StandFor (IsTold (told_in v.table.program.templates.nodes (v.stores ++ s ∷ []))) (IsTold (whole i.site ++ E))) where
    now : StandFor (IsTold (told_in v.table.program.templates.nodes (stores_along (table_of v.table) (names_around i.site)) ++ bindings_in v.table.program.templates.nodes t.store.bindings)) (IsTold (whole i.site ++ E))
    now = StandFor-on (StandFor-back
        (StandFor-on (StandFor-back (told_stands v.table.program.templates.nodes (v.stores ++ s ∷ [])))
        (subst (λ (F : Equations). StandFor (ToldBy v.table.program.templates.nodes (v.stores ++ s ∷ [])) (IsTold F)) told_is
        (StandFor-on (subst (λ (ss : List Stored). StandFor (ToldBy v.table.program.templates.nodes (v.stores ++ s ∷ [])) (ToldBy v.table.program.templates.nodes ss)) replaced_is answer.promotes.stands)
        (told_stands v.table.program.templates.nodes (stores_along (table_of v.table) (names_around i.site) ++ t.store ∷ [])))))) all

    pub joined_stands : (D : Equations) → StandFor (IsTold D) (IsTold (environment i.site)) → StandFor (IsTold (D ++ bindings_in v.table.program.templates.nodes t.store.bindings)) (IsTold (whole i.site ++ E))
    joined_stands D d = StandFor-on (stands_with_more D (told_in v.table.program.templates.nodes (stores_along (table_of v.table) (names_around i.site))) (bindings_in v.table.program.templates.nodes t.store.bindings)
        (StandFor-on d (StandFor-back (environment_stands v i)))) now

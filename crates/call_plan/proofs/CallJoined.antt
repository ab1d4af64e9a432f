-- The alternative of a call that is promoted: what joins the box of the call.
use Rattle.std.proofs.Common.{◌≡◌, ℕ, ◌+◌, ◌≤◌, ◌<◌, ◌^◌, List, [], ◌++◌, length, refl, sym, ◌∙◌, ap, subst, arith, append_assoc}
use Rattle.std.proofs.lemmas.List.{length-map}
use Rattle.akl_terms.specs.declared.name.Name.{Name}
use Rattle.akl_terms.specs.declared.term.Node.{Node}
use Rattle.akl_terms.specs.declared.term.Term.{Term}
use Rattle.akl_terms.specs.declared.program.Clause.{Clause}
use Rattle.akl_terms.specs.declared.program.Definition.{Definition}
use Rattle.akl_terms.specs.Equal.{Equations, IsConsistent}
use Rattle.akl_model.specs.declared.label.Label.{Label}
use Rattle.akl_model.specs.Config.{Atom, Content, with_names, Port, with_ports, environment, whole}
use Rattle.akl_model.specs.Instances.{atom_of, atoms_of}
use Rattle.akl_model.specs.Renaming.{port_names}
use Rattle.akl_model.specs.Names.{times_in}
use Rattle.akl_model.specs.Stable.{only}
use Rattle.akl_model.proofs.Finds.{times, times_of, times_inside}
use Rattle.akl_model.proofs.ScopesAlong.{times_path, found_path}
use Rattle.local_store.specs.Parts.{ToldStore}
use Rattle.table_laws.specs.Rows.{ports_in}
use Rattle.table_laws.specs.Calls.{StandOver}
use Rattle.box_tree.specs.Views.{ViewValue, IsViewOf}
use Rattle.guard_plan.proofs.JoinRight.{joined_frames, joined_ports, joined_stands}
use Rattle.guard_plan.proofs.Sites.{stand, found}
use Rattle.call_plan.specs.declared.sifting.Left.{Left}
use Rattle.call_plan.specs.Called.{Remains, Ends}
use Rattle.call_plan.specs.Sifted.{frame_at, store_of}
use Rattle.call_plan.proofs.Remaining.{One, one, last, last_good, last_whole, last_frames, last_ports}

module _ (v : ViewValue) (g : Name) (called : Definition) (left : Left) (drawn : ℕ) (more : List Label) (told : ToldStore) (e : Ends v g called left drawn more told) where
  abbrev nodes : List Node
  nodes = v.table.program.templates.nodes

  abbrev pub r : Remains v g called left drawn e.before e.plainly
  r = e.remains

  abbrev pub i : IsViewOf v
  i = r.is_called.seen

  abbrev pub passed_one : One v g called left drawn e.before e.plainly r
  passed_one = one v g called left drawn e.before e.plainly r

  abbrev pub alternative : Content
  alternative = last v g called left drawn e.before e.plainly r

  pub body_is : alternative.body ≡ atoms_of nodes (frame_at v.worker passed_one.number) left.clause.now.body
  body_is = ap (λ (c : Clause). atoms_of nodes (frame_at v.worker passed_one.number) c.body) (sym passed_one.left.clause)

  pub long_body : length alternative.body ≡ length left.clause.now.body
  long_body = ap (λ (l : List Atom). length l) body_is ∙ length-map left.clause.now.body (atom_of nodes (frame_at v.worker passed_one.number))

  pub few_goals : length alternative.body < 2 ^ 32
  few_goals = let l : length alternative.body ≡ length left.clause.now.body = long_body in let u : length left.clause.now.body < 2 ^ 32 = e.few_goals in omega arith

  -- the store of the box
  ports_once : (n : Name) → times_in n (port_names (ports_in nodes (store_of left).ports)) + times_in n (port_names i.site.content.ports) ≤ 1
  ports_once n =
      let f : times n (only i.site) + times_path n i.site.around ≤ times n i.table.config.roots = found_path n i.site.content.name i.table.config.roots i.site (found v i) in
      let o : times n i.table.config.roots ≤ 1 = (stand v i).once n in
      let z : times_in n (port_names (ports_in nodes (store_of left).ports)) ≡ 0 = ap (λ (l : List (Name × Term)). times_in n (port_names (ports_in nodes l))) (last_ports v g called left drawn e.before e.plainly r) in
      let u : times n (only i.site) ≡ times_of n i.site.content + (times_inside n i.site.goals + 0) = refl in
      omega arith

  pub ports_none : ports_in nodes (store_of left).ports ≡ []
  ports_none = ap (ports_in nodes) (last_ports v g called left drawn e.before e.plainly r)

  pub frames_now : told.store.frames ≡ with_names alternative.frames i.site.content.frames
  frames_now = joined_frames v i (store_of left) (length v.stores + 1) told e.joins.promoted ∙ ap (λ (l : List Name). with_names l i.site.content.frames) (last_frames v g called left drawn e.before e.plainly r)

  pub ports_now : ports_in nodes told.store.ports ≡ with_ports alternative.ports i.site.content.ports
  ports_now = joined_ports v i (store_of left) (length v.stores + 1) told e.joins.promoted ports_once ∙ ap (λ (l : List Port). with_ports l i.site.content.ports) ports_none

  together : whole i.site ++ alternative.equations ≡ environment i.site ++ (i.site.content.equations ++ alternative.equations)
  together = append_assoc (environment i.site) i.site.content.equations alternative.equations

  pub stands_now : StandOver nodes (environment i.site) (environment i.site ++ (i.site.content.equations ++ alternative.equations)) told.store.bindings
  stands_now = subst (λ (E : Equations). StandOver nodes (environment i.site) E told.store.bindings) together
      (joined_stands v i (store_of left) (length v.stores + 1) told e.joins.promoted alternative.equations (last_whole v g called left drawn e.before e.plainly r))

  pub consistent_now : IsConsistent (environment i.site ++ (i.site.content.equations ++ alternative.equations))
  consistent_now = subst IsConsistent together (last_good v g called left drawn e.before e.plainly r)

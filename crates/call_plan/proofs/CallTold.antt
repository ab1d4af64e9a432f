-- What is told of the body of a call at once, whose alternative has joined its box.
use Rattle.std.proofs.Common.{◌≡◌, ℕ, ◌+◌, Bool, true, false, List, [], ◌∷◌, ◌++◌, length, None, sym, ◌∙◌, ap, subst, append_assoc}
use Rattle.std.specs.Prelude.{slice_index}
use Rattle.std.proofs.lemmas.List.{append_cancel_left}
use Rattle.akl_terms.specs.declared.name.Name.{Name}
use Rattle.akl_terms.specs.declared.name.Var.{Var}
use Rattle.akl_terms.specs.declared.term.Node.{Node}
use Rattle.akl_terms.specs.declared.term.Term.{Term}
use Rattle.akl_terms.specs.declared.program.Definition.{Definition}
use Rattle.akl_terms.specs.Equal.{Equations, IsTold}
use Rattle.akl_terms.specs.Standing.{StandFor}
use Rattle.akl_terms.proofs.EqualLaws.{IsTold-left}
use Rattle.akl_terms.proofs.StandingLaws.{StandFor-on}
use Rattle.constraint_laws.specs.Oldest.{HasOldest}
use Rattle.constraint_laws.specs.StandingGrows.{AreToldIn}
use Rattle.constraint_laws.proofs.StandsGrow.{stands_with_more}
use Rattle.akl_model.specs.declared.label.Label.{Label}
use Rattle.akl_model.specs.Config.{Atom, Content, environment, whole, equations_of}
use Rattle.akl_model.specs.Instances.{drawn_by}
use Rattle.akl_model.specs.Rules.{joining}
use Rattle.akl_model.specs.Wakes.{names_around}
use Rattle.step_laws.specs.Bound.{outermost_equations}
use Rattle.rational_unify.specs.Known.{found_in}
use Rattle.rational_unify.specs.Solving.{bindings_in}
use Rattle.local_store.specs.Parts.{ToldStore}
use Rattle.local_store.specs.Bound.{AreNewlyBound}
use Rattle.local_store.specs.Stored.{Stored}
use Rattle.local_store.specs.Chained as chained
use Rattle.local_store.specs.Chained.{bindings_from, ToldBy, around, replaced, IsSolvedChain}
use Rattle.local_store.proofs.Layers.{bindings-right, from-last}
use Rattle.class_members.specs.Members.{AreMembers}
use Rattle.table_laws.specs.Rows.{told_in, ports_in}
use Rattle.table_laws.specs.Steps.{IsSolvedIf}
use Rattle.plan_laws.specs.AtOnce.{Tells}
use Rattle.table_laws.specs.Calls.{last_told}
use Rattle.box_tree.specs.Edits.{named_atoms}
use Rattle.box_tree.specs.Tables.{table_of}
use Rattle.box_tree.specs.Views.{ViewValue, IsViewOf}
use Rattle.box_tree.proofs.StoresAround.{stores_around}
use Rattle.table_laws.proofs.StoreChains.{told_stands, around_push}
use Rattle.guard_plan.proofs.BoundAt.{oldest_at, bound_at}
use Rattle.guard_plan.proofs.Sites.{environment_stands}
use Rattle.plain_heads.specs.Joined.{AreFree, KeepsBound}
use Rattle.plain_heads.proofs.Stores.{all_both}
use Rattle.body_goals.specs.declared.body.Body.{Body}
use Rattle.body_goals.specs.Takes.{within, AreUnbound}
use Rattle.body_goals.specs.Reduced.{Reduces}
use Rattle.call_plan.specs.declared.own.Own.{Own}
use Rattle.call_plan.specs.declared.sifting.Left.{Left}
use Rattle.call_plan.specs.Called.{Remains, Ends, IsReducedCall}
use Rattle.call_plan.specs.Owns.{BindsFree, OwnKeepsBound}
use Rattle.call_plan.specs.Sifted.{frame_at, store_of}
use Rattle.call_plan.proofs.BodyReduced.{ToldAlong, stands_anywhere, told_along}
use Rattle.call_plan.proofs.BodyTold.{first, BodyTold}
use Rattle.call_plan.proofs.CallJoined.{alternative, passed_one, body_is, frames_now, ports_now, stands_now, consistent_now}
use Rattle.call_plan.proofs.Remaining.{last_whole}

-- what is free where nothing is free that was bound was free
were_free : (path : List Stored) (store : Stored) → KeepsBound path store → (xs : List Var) → AreUnbound (bindings_from (within (around path) store)) xs → AreFree (bindings_from path) xs
were_free path store k [] h = tt
were_free path store k (x ∷ xs) h = (k x h.0, were_free path store k xs h.1)

module _ (v : ViewValue) (g : Name) (called : Definition) (left : Left) (drawn : ℕ) (more : List Label) (told : ToldStore) (body : Body) (t : IsReducedCall v g called left drawn more told body) where
  abbrev nodes : List Node
  nodes = v.table.program.templates.nodes

  abbrev e : Ends v g called left drawn t.labels t.joined
  e = t.ends

  abbrev r : Remains v g called left drawn e.before e.plainly
  r = e.remains

  abbrev i : IsViewOf v
  i = r.is_called.seen

  abbrev pub last : Content
  last = alternative v g called left drawn t.labels t.joined e

  abbrev pub all_drawn : ℕ
  all_drawn = drawn_by called.clauses

  abbrev from : ℕ
  from = first v.table.program i.table.config v.worker i.site last all_drawn

  abbrev frame : Name
  frame = frame_at v.worker (passed_one v g called left drawn t.labels t.joined e).number

  pub around_stands : StandFor (IsTold (told_in nodes (around v.stores))) (IsTold (equations_of i.site.around))
  around_stands = subst (λ (ss : List Stored). StandFor (IsTold (told_in nodes ss)) (IsTold (equations_of i.site.around))) (sym (stores_around v i)) (environment_stands v i)

  -- its goals are reduced under its frame, from its first name on
  reduces : Reduces v.table.program.templates.symbols nodes (around v.stores) frame 0 0 t.joined.store from left.clause.now.body t.reduced.labels told.store body.goals.items t.reduced.bound body.told
  reduces = subst (λ (n : ℕ). Reduces v.table.program.templates.symbols nodes (around v.stores) frame 0 0 t.joined.store n left.clause.now.body t.reduced.labels told.store body.goals.items t.reduced.bound body.told)
      (ap (λ (n : ℕ). n + drawn) i.next ∙ ap (λ (n : ℕ). slice_index i.table.config.next v.worker + n) r.is_called.drawn_is)
      (subst (λ (f : Name). Reduces v.table.program.templates.symbols nodes (around v.stores) f 0 0 t.joined.store (v.next + drawn) left.clause.now.body t.reduced.labels told.store body.goals.items t.reduced.bound body.told)
      (passed_one v g called left drawn t.labels t.joined e).left.frame t.reduced.reduces)

  begins : StandFor (IsTold (told_in nodes (around v.stores) ++ bindings_in nodes t.joined.store.bindings)) (IsTold (equations_of i.site.around ++ (joining last i.site.content).equations))
  begins = stands_now v g called left drawn t.labels t.joined e (told_in nodes (around v.stores)) around_stands

  abbrev Along : Type 0
  Along = ToldAlong v.table.program (from + length last.body) i.site.around (around v.stores) around_stands frame 0 0 t.joined.store (joining last i.site.content) from left.clause.now.body t.reduced.labels told.store body.goals.items t.reduced.bound body.told

  pub along : Along
  along = told_along v.table.program (from + length last.body) i.site.around (around v.stores) around_stands frame (joining last i.site.content) 0 0 t.joined.store from left.clause.now.body t.reduced.labels told.store body.goals.items t.reduced.bound body.told
      begins (consistent_now v g called left drawn t.labels t.joined e) reduces

  abbrev pub goals_left : List (Name × Atom)
  goals_left = named_atoms nodes body.goals.items

  -- the same of the atoms of the alternative's body
  abbrev TellsAll : List Atom → Type 0
  TellsAll body_atoms = (x : Tells v.table.program v.worker (from + length last.body) i.site.around (joining last i.site.content) from body_atoms t.reduced.labels along.after goals_left)
      × (last_told v.table.program v.worker (from + length last.body) i.site.around (joining last i.site.content) from body_atoms t.reduced.labels along.after goals_left x 0 0 ≡ body.told)

  tells_all : TellsAll last.body
  tells_all = subst TellsAll (sym (body_is v g called left drawn t.labels t.joined e)) (along.body, along.last)

  pub body_told : BodyTold v.table.program i.table.config v.worker i.site last all_drawn t.reduced.labels along.after goals_left told.store body.told
  body_told = record {
    body = tells_all.0;
    last_is = tells_all.1;
    consistent = along.consistent;
    between = λ E rest q. along.between E rest (append_cancel_left (i.site.content.equations ++ last.equations) along.more (E ++ rest) (sym along.equations ∙ q));
    frames = along.frames ∙ frames_now v g called left drawn t.labels t.joined e;
    ports = ap (ports_in nodes) along.ports ∙ ports_now v g called left drawn t.labels t.joined e;
    stands = stands_anywhere v.table.program (from + length last.body) i.site.around (around v.stores) around_stands frame told.store along.after.equations along.stands;
  }

  -- what is known to be solved
  pub solved_if : (b : Bool) → told.solved ≡ b → IsSolvedIf b (table_of v.table) (names_around i.site) told.store
  solved_if false q = tt
  solved_if true q = subst (λ (ss : List Stored). IsSolvedChain nodes (ss ++ told.store ∷ [])) (stores_around v i) (t.reduced.whole q)

  -- what is bound
  abbrev path_equations : Equations
  path_equations = chained.equations_of nodes v.stores

  abbrev joined_equations : Equations
  joined_equations = chained.equations_of nodes (v.stores ++ store_of left ∷ [])

  joined_more : AreToldIn path_equations joined_equations
  joined_more = record {
    each = λ x y h. subst (λ (bs : List (Var × Term)). IsTold (bindings_in nodes bs) x y) (sym (from-last v.stores (store_of left))) (bindings-right nodes (store_of left).bindings (bindings_from v.stores) x y h);
  }

  joined_stands : StandFor (IsTold joined_equations) (ToldBy nodes (within (around v.stores) t.joined.store))
  joined_stands = subst (λ (ss : List Stored). StandFor (IsTold joined_equations) (ToldBy nodes (replaced ss t.joined.store))) (around_push v.stores (store_of left)) e.joins.promoted.promotes.stands

  joined_bound : AreNewlyBound path_equations path_equations joined_equations t.joined.bound
  joined_bound = subst (λ (ss : List Stored). AreNewlyBound (chained.equations_of nodes ss) (chained.equations_of nodes ss) joined_equations t.joined.bound) (around_push v.stores (store_of left)) e.joins.promoted.bound

  all_bound : AreNewlyBound path_equations path_equations (joined_equations ++ along.more) told.bound
  all_bound = subst (AreNewlyBound path_equations path_equations (joined_equations ++ along.more)) (sym t.reduced.all_bound) (along.bound_on path_equations joined_equations joined_more joined_stands t.joined.bound joined_bound)

  all_stand : StandFor (IsTold (joined_equations ++ along.more)) (IsTold (environment i.site ++ along.after.equations))
  all_stand = subst (λ (E : Equations). StandFor (IsTold (joined_equations ++ along.more)) (IsTold E))
      (ap (λ (E : Equations). E ++ along.more) (append_assoc (environment i.site) i.site.content.equations last.equations) ∙ append_assoc (environment i.site) (i.site.content.equations ++ last.equations) along.more
      ∙ ap (λ (E : Equations). environment i.site ++ E) (sym along.equations))
      (stands_with_more joined_equations (whole i.site ++ last.equations) along.more
      (StandFor-on (told_stands nodes (v.stores ++ store_of left ∷ [])) (last_whole v g called left drawn e.before e.plainly r)))

  module _ (binds : List Var) (members : AreMembers nodes v.stores told.bound binds) where
    pub newly_bound : AreNewlyBound (outermost_equations i.site) (whole i.site) (environment i.site ++ along.after.equations) binds
    newly_bound = bound_at v i (joined_equations ++ along.more) (environment i.site ++ along.after.equations)
        (record { each = λ x y h. IsTold-left joined_equations along.more x y (joined_more.each x y h) }) all_stand told.bound binds members all_bound

    pub oldest_bound : HasOldest (outermost_equations i.site) binds
    oldest_bound = oldest_at v i told.bound binds members

  -- nothing of it was bound around the alternative
  pub reduced_free : BindsFree v.stores left.own told.bound
  reduced_free = on left.own e.free e.kept
    where
      on : (o : Own) → BindsFree v.stores o t.joined.bound → OwnKeepsBound v.stores o t.joined.store → BindsFree v.stores o told.bound
      on (Own.Plain bs) f k = subst (AreFree (bindings_from v.stores)) (sym t.reduced.all_bound)
          (all_both (λ (x : Var). found_in (bindings_from v.stores) x ≡ None) t.joined.bound t.reduced.bound f (were_free v.stores t.joined.store k t.reduced.bound t.reduced.free))
      on (Own.Store s) f k = tt

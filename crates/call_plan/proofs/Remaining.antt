-- The alternative of a call that remains: its store and its configuration.
use Rattle.std.proofs.Common.{◌≡◌, Bool, ℕ, ◌+◌, List, [], ◌∷◌, ◌++◌, length, true, Some, None, sym, ◌∙◌, ap, subst, append-nil}
use Rattle.std.specs.Prelude.{slice_index}
use Rattle.akl_terms.specs.declared.name.Name.{Name}
use Rattle.akl_terms.specs.declared.name.Place.{Place}
use Rattle.akl_terms.specs.declared.term.Node.{Node}
use Rattle.akl_terms.specs.declared.program.Clause.{Clause}
use Rattle.akl_terms.specs.declared.program.Definition.{Definition}
use Rattle.akl_terms.specs.declared.program.Op.{Op}
use Rattle.akl_terms.specs.Equal.{Equations, IsTold, IsConsistent}
use Rattle.akl_terms.specs.Standing.{StandFor}
use Rattle.akl_terms.specs.Tree.{Tree}
use Rattle.akl_model.specs.declared.label.Label.{Label}
use Rattle.akl_model.specs.Config.{Content, Boxes, box, Goals, no_goals, whole, home_of, site_of}
use Rattle.akl_model.specs.Instances.{terms_from, drawn_by}
use Rattle.akl_model.specs.Rules.{operator_of}
use Rattle.akl_model.proofs.QuietGrows.{equations-snoc}
use Rattle.rational_unify.specs.Solving.{bindings_in}
use Rattle.local_store.specs.Chained.{IsKnown}
use Rattle.table_laws.specs.Rows.{told_in}
use Rattle.plan_laws.specs.AtOnce.{inner}
use Rattle.box_tree.specs.Views.{ViewValue, IsViewOf}
use Rattle.guard_plan.specs.Guards.{KeepsApartInside}
use Rattle.guard_plan.proofs.Sites.{whole_stands}
use Rattle.rule_plan.specs.Made.{IsNewStore}
use Rattle.call_plan.specs.declared.sifting.Left.{Left}
use Rattle.call_plan.specs.Called.{Remains}
use Rattle.call_plan.specs.Chosen.{IsChosen, OthersGo}
use Rattle.call_plan.specs.Joins.{HoldsFor}
use Rattle.call_plan.specs.Owns.{IsPlainOwn}
use Rattle.call_plan.specs.Sifted.{frame_at, head_codes, Leaves, store_of}
use Rattle.call_plan.proofs.HeadStores.{head_stands, all_stand, all_consistent, store_frames, store_ports}
use Rattle.call_plan.proofs.SiftedCalls.{content, guard_goals, forked, Sift, PlainAreQuiet, first_within, rest_within, Passed, passed, all_stay}
use Rattle.call_plan.proofs.SiftingOn.{leaves_still}
use Rattle.call_plan.proofs.AlternativesApart.{keeps_apart, known, quiet_alternative, plain_are_quiet}
use Rattle.call_plan.proofs.LastLeft.{operator, Holds, is_operator, left_behind}

module _ (v : ViewValue) (g : Name) (called : Definition) (left : Left) (drawn : ℕ) (before : List Label) (plainly : Bool) (r : Remains v g called left drawn before plainly) where
  abbrev nodes : List Node
  nodes = v.table.program.templates.nodes

  abbrev i : IsViewOf v
  i = r.is_called.seen

  abbrev first : ℕ
  first = slice_index i.table.config.next v.worker

  abbrev pub next : ℕ
  next = first + drawn_by called.clauses

  pub is_home : home_of g i.table.config.roots ≡ Some i.site
  is_home = subst (λ (q : Place). site_of q i.table.config.roots ≡ Some i.site) r.is_called.is_place i.is_site

  pub chosen : IsChosen v.table.program.templates.symbols nodes v.stores r.arguments v.worker first called.op called.clauses [] true before plainly left
  chosen = subst (λ (n : ℕ). IsChosen v.table.program.templates.symbols nodes v.stores r.arguments v.worker n called.op called.clauses [] true before plainly left) i.next r.chosen

  pub is_op : operator_of called.op None ≡ Some (operator called.op)
  is_op = is_operator called.op (λ e. absurd (subst (λ (o : Op). OthersGo v.table.program.templates.symbols nodes v.stores r.arguments o left chosen.middle chosen.until before plainly) e chosen.others))

  pub quiet : PlainAreQuiet v.table.program v.stores i.site (whole_stands v i) r.arguments v.worker next plainly first called.clauses
  quiet n c own among o e = plain_are_quiet v g r.arguments called drawn r.is_called is_op n c own among o e

  -- what is said of the labels up to the one that is left may be said less
  said : (o : Op) → OthersGo v.table.program.templates.symbols nodes v.stores r.arguments o left chosen.middle chosen.until before plainly → plainly ≡ true → chosen.until ≡ true
  said Op.Condition e q = sym e.1 ∙ q
  said Op.Commit e q = sym e.1 ∙ q
  said Op.Choice e q = e.before q
  said Op.Collect e q = absurd e

  -- all alternatives before it fail
  abbrev pub One : Type 0
  One = Passed v.table.program v.stores i.site (whole_stands v i) r.arguments v.worker next plainly first called.clauses quiet first called.clauses chosen.sifts.sifting left

  pub one : One
  one = passed v.table.program v.stores i.site (whole_stands v i) r.arguments v.worker next plainly first called.clauses quiet first called.clauses chosen.sifts.sifting (Some left) (λ b gs m. m)
      (leaves_still v.table.program.templates.symbols nodes v.stores r.arguments v.worker chosen.until plainly (said called.op chosen.others) first called.clauses chosen.sifts.sifting (Some left) chosen.sifts.leaves)

  abbrev pub arguments : List Tree
  arguments = terms_from nodes r.arguments.frame r.arguments.first r.arguments.count

  abbrev pub last : Content
  last = content v.table.program v.stores i.site (whole_stands v i) r.arguments v.worker next one.number one.clause

  abbrev last_goals : Goals
  last_goals = guard_goals v.table.program v.stores i.site (whole_stands v i) r.arguments v.worker next one.number one.clause

  abbrev pub after_last : ℕ
  after_last = one.number + (2 + length one.clause.guard)

  abbrev Sifted : Boxes → List Label → Boxes → Type 0
  Sifted bs ls cs = Sift v.table.program v.stores i.site (whole_stands v i) r.arguments v.worker next plainly bs ls cs

  abbrev others : Boxes
  others = forked v.table.program v.stores i.site (whole_stands v i) r.arguments v.worker next after_last one.behind

  -- those behind it stay to be cut, or fail
  record OthersSift (o : Op) : Type 0 where
    labels : List Label
    labels_are : before ≡ chosen.middle ++ labels
    sift : Sifted others labels (left_behind nodes v.worker after_last arguments o one.behind)

  all_left : Sifted others [] others
  all_left = all_stay v.table.program v.stores i.site (whole_stands v i) r.arguments v.worker next plainly first called.clauses quiet others

  others_sift : (o : Op) → OthersGo v.table.program.templates.symbols nodes v.stores r.arguments o left chosen.middle chosen.until before plainly → OthersSift o
  others_sift Op.Condition e = record { labels = []; labels_are = e.0 ∙ sym (append-nil chosen.middle); sift = all_left }
  others_sift Op.Commit e = record { labels = []; labels_are = e.0 ∙ sym (append-nil chosen.middle); sift = all_left }
  others_sift Op.Collect e = absurd e
  others_sift Op.Choice e = record {
    labels = e.sifting;
    labels_are = e.labels;
    sift = passed v.table.program v.stores i.site (whole_stands v i) r.arguments v.worker next plainly first called.clauses quiet after_last one.behind e.sifting None
        (rest_within v.table.program v.stores i.site (whole_stands v i) r.arguments v.worker next plainly first called.clauses one.number one.clause one.behind one.within) leaves;
  }
    where
      named : Leaves v.table.program.templates.symbols nodes v.stores r.arguments v.worker plainly (one.number + (2 + length left.clause.now.guard)) left.behind.now e.sifting None
      named = subst (λ (m : Name). Leaves v.table.program.templates.symbols nodes v.stores r.arguments m.worker plainly (m.number + (2 + length left.clause.now.guard)) left.behind.now e.sifting None) one.left.name e.leaves

      leaves : Leaves v.table.program.templates.symbols nodes v.stores r.arguments v.worker plainly after_last one.behind e.sifting None
      leaves = subst (λ (c : Clause). Leaves v.table.program.templates.symbols nodes v.stores r.arguments v.worker plainly (one.number + (2 + length c.guard)) one.behind e.sifting None) one.left.clause
          (subst (λ (cs : List Clause). Leaves v.table.program.templates.symbols nodes v.stores r.arguments v.worker plainly (one.number + (2 + length left.clause.now.guard)) cs e.sifting None) one.left.behind named)

  abbrev all : Boxes
  all = forked v.table.program v.stores i.site (whole_stands v i) r.arguments v.worker next first called.clauses

  pub all_sift : Sifted all before (box last no_goals (left_behind nodes v.worker after_last arguments called.op one.behind))
  all_sift =
      let w : OthersSift called.op = others_sift called.op chosen.others in
      subst (λ (ls : List Label). Sifted all ls (box last no_goals (left_behind nodes v.worker after_last arguments called.op one.behind))) (sym (w.labels_are ∙ ap (λ (ls : List Label). ls ++ w.labels) chosen.sifts.labels))
      (one.sifts chosen.holds w.labels (left_behind nodes v.worker after_last arguments called.op one.behind) w.sift)

  -- its store
  abbrev store : IsNewStore nodes v.stores (length v.stores) (frame_at v.worker one.number) (head_codes r.arguments (frame_at v.worker one.number) one.clause) (store_of left) true
  store = one.left.store

  pub last_stands : (D : Equations) → StandFor (IsTold D) (IsTold (whole i.site)) → StandFor (IsTold (D ++ bindings_in nodes (store_of left).bindings)) (IsTold (whole i.site ++ last.equations))
  last_stands = head_stands nodes v.stores (whole i.site) (whole_stands v i) r.arguments (frame_at v.worker one.number) one.clause (length v.stores) (store_of left) store

  pub last_whole : StandFor (IsTold (told_in nodes (v.stores ++ (store_of left) ∷ []))) (IsTold (whole i.site ++ last.equations))
  last_whole = all_stand nodes v.stores (whole i.site) (whole_stands v i) r.arguments (frame_at v.worker one.number) one.clause (length v.stores) (store_of left) store

  pub last_good : IsConsistent (whole i.site ++ last.equations)
  last_good = all_consistent nodes v.stores (whole i.site) (whole_stands v i) r.arguments (frame_at v.worker one.number) one.clause (length v.stores) (store_of left) store

  pub last_frames : (store_of left).frames ≡ last.frames
  last_frames = store_frames nodes v.stores (whole i.site) (whole_stands v i) r.arguments (frame_at v.worker one.number) one.clause (length v.stores) (store_of left) store

  pub last_ports : (store_of left).ports ≡ []
  last_ports = store_ports nodes v.stores (whole i.site) (whole_stands v i) r.arguments (frame_at v.worker one.number) one.clause (length v.stores) (store_of left) store

  pub last_known : IsKnown nodes (v.stores ++ (store_of left) ∷ []) (length v.stores + 1)
  last_known = known v g r.arguments called drawn r.is_called is_op one.number one.clause (store_of left) store

  pub last_apart : KeepsApartInside nodes (v.stores ++ (store_of left) ∷ [])
  last_apart = keeps_apart v g r.arguments called drawn r.is_called is_op one.number one.clause (store_of left) store (first_within v.table.program v.stores i.site (whole_stands v i) r.arguments v.worker next plainly first called.clauses one.number one.clause one.behind one.within)

  pub last_plain : IsPlainOwn nodes v.stores left.frame left.own
  last_plain = one.left.plain

  -- its guard holds
  pub last_holds : (o : Op) → HoldsFor o nodes (v.stores ++ (store_of left) ∷ []) → Holds o (inner i.site last no_goals)
  last_holds Op.Choice h = subst (λ (E : Equations). IsConsistent (E ++ last.equations)) (sym (equations-snoc i.site.around i.site.content)) last_good
  last_holds Op.Condition q = quiet_alternative v g r.arguments called drawn r.is_called is_op one.number one.clause (store_of left) store q
  last_holds Op.Commit q = quiet_alternative v g r.arguments called drawn r.is_called is_op one.number one.clause (store_of left) store q
  last_holds Op.Collect h = absurd h

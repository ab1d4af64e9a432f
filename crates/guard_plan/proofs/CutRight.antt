-- A plan of Cut is right, and where none is made, Cut doesn't apply.
use Rattle.std.proofs.Common.{◌≡◌, ◌≢◌, ℕ, zero, suc, ◌+◌, ◌-◌, ◌≤◌, ◌<◌, List, [], ◌∷◌, ◌++◌, length, take, Bool, true, false, Option, Some, refl, sym, ◌∙◌, ap, subst, inl, inr, arith}
use Rattle.std.specs.Prelude.{slice_index, IsSomeAnd, if◌then◌else◌}
use Rattle.std.specs.List.{AllByRecursion}
use Rattle.akl_terms.specs.declared.name.Name.{Name}
use Rattle.akl_terms.specs.declared.name.Place.{Place}
use Rattle.akl_terms.specs.Names.{same_name}
use Rattle.akl_terms.proofs.SameNames.{same_name-refl}
use Rattle.akl_model.specs.declared.item.Item.{Item}
use Rattle.akl_model.specs.declared.label.Rule.{Rule}
use Rattle.akl_model.specs.declared.label.Label.{Label}
use Rattle.akl_model.specs.Config.{Content, Boxes, no_boxes, box, Goals, no_goals, atom, choice, a_choice, held_in, with_content, IsIn, Found, box_at}
use Rattle.akl_model.specs.Rules.{nothing, Change, becomes, change_by, cut, count_of, up_to, alone, kept_by, alternative_of}
use Rattle.akl_model.specs.Conditions.{IsSolved, IsQuietBox, Makes, MayCut}
use Rattle.akl_model.specs.Stable.{Allows}
use Rattle.akl_model.specs.Changes.{box_names, goal_names}
use Rattle.akl_model.specs.Derivations.{Applies, after}
use Rattle.akl_model.proofs.Options.{some_value}
use Rattle.step_laws.specs.Whereabouts.{BoxIn}
use Rattle.step_laws.proofs.GoalEdits.{count_alone}
use Rattle.step_laws.proofs.Stays.{alternative_in}
use Rattle.table_laws.specs.Steps.{CutsGoal}
use Rattle.box_tree.specs.declared.entries.HeldOp.{HeldOp}
use Rattle.box_tree.specs.declared.step.Step.{Step}
use Rattle.box_tree.specs.declared.view.Alternative.{Alternative}
use Rattle.box_tree.specs.Tables.{all_rules, is_empty, op_held}
use Rattle.box_tree.specs.Views.{ViewValue, IsViewOf}
use Rattle.box_tree.specs.Plans.{IsRightLabel}
use Rattle.box_tree.proofs.BoundHere.{kept_bound}
use Rattle.guard_plan.proofs.Sites.{stand}
use Rattle.guard_plan.specs.ReadAt.{IsReadAt}
use Rattle.guard_plan.specs.Guards.{IsNoisyOver, HasQuiet, cutting}
use Rattle.guard_plan.proofs.ChoiceNone.{inside_of, NoneCuts}
use Rattle.guard_plan.proofs.Placed.{ArePlaced, placed, is_quiet, was_quiet}

-- lists of alternatives

all_take : (P : Alternative → Type 0) (seen : List Alternative) (k : ℕ) → AllByRecursion P seen → AllByRecursion P (take k seen)
all_take P seen zero h = tt
all_take P [] (suc k) h = tt
all_take P (a ∷ rest) (suc k) h = (h.0, all_take P rest k h.1)

take_whole : (seen : List Alternative) → take (length seen) seen ≡ seen
take_whole [] = refl
take_whole (a ∷ rest) = ap (λ (l : List Alternative). a ∷ l) (take_whole rest)

pub all_cutting : (P : Alternative → Type 0) (o : HeldOp) (seen : List Alternative) → AllByRecursion P seen → AllByRecursion P (cutting o seen)
all_cutting P HeldOp.Condition seen h = all_take P seen (length seen - 1) h
all_cutting P HeldOp.Commit seen h = h
all_cutting P HeldOp.Choice seen h = tt
all_cutting P (HeldOp.Collect t) seen h = tt

-- a box without names of goals is solved
pub solved_empty : (gs : Goals) → is_empty (goal_names gs) ≡ true → IsSolved gs
solved_empty no_goals e = tt
solved_empty (atom g a gs) e = cc
solved_empty (choice g o bs gs) e = cc

pub empty_solved : (gs : Goals) → IsSolved gs → is_empty (goal_names gs) ≡ true
empty_solved no_goals h = refl
empty_solved (atom g a gs) h = absurd h
empty_solved (choice g o bs gs) h = absurd h

up_to_within : (n : Name) (bs : Boxes) → count_of (up_to n bs) ≤ count_of bs
up_to_within n no_boxes = omega arith
up_to_within n (box b gs bs) = on (same_name n b.name) (up_to_within n bs)
  where
    on : (t : Bool) → count_of (up_to n bs) ≤ count_of bs → count_of (if t then box b gs no_boxes else box b gs (up_to n bs)) ≤ 1 + count_of bs
    on true h = omega arith
    on false h = omega arith

-- some alternative has a name that stands among them
named_some : (f : Found) (n : Name) (b : Content) (gs : Goals) (bs : Boxes) → BoxIn [] b gs bs → n ≡ b.name → (a : Found) × (alternative_of f n bs ≡ Some a)
named_some f n b gs no_boxes h e = absurd h
named_some f n b gs (box c hs bs) h e = on (same_name n c.name) refl h (λ k. named_some f n b gs bs k e)
  where
    Shown : Bool → Type 0
    Shown t = (a : Found) × ((if t then Some (inside_of f c hs) else alternative_of f n bs) ≡ Some a)

    on : (t : Bool) → same_name n c.name ≡ t → BoxIn [] b gs (box c hs bs) → (BoxIn [] b gs bs → (a : Found) × (alternative_of f n bs ≡ Some a)) → Shown (same_name n c.name)
    on true s k deeper = subst Shown (sym s) (inside_of f c hs, refl)
    on false s (inl k) deeper = let z : true ≡ false = sym (same_name-refl n) ∙ ap (same_name n) (e ∙ ap (λ (x : Content). x.name) k.1) ∙ s in cc
    on false s (inr (inl k)) deeper = let z : [] ≡ c ∷ k.0 = k.1 in cc
    on false s (inr (inr k)) deeper = subst Shown (sym s) (deeper k)

module _ (v : ViewValue) (i : IsViewOf v) where
  abbrev Has : List Alternative → Name → Type 0
  Has seen n = HasQuiet v.table.program.templates.nodes v.stores seen n

  -- one of these alternatives is solved and quiet
  quiet_among : (cs : Boxes) (seen : List Alternative) → ArePlaced v i cs seen → (k : ℕ) (n : Name) → Has (take k seen) n
      → (b : Content) × (gs : Goals) × BoxIn [] b gs cs × (n ≡ b.name) × IsSolved gs × IsQuietBox (inside_of i.site b gs)
  quiet_among cs seen h zero n q = absurd q
  quiet_among no_boxes [] h (suc k) n q = absurd q
  quiet_among no_boxes (a ∷ rest) h (suc k) n q = absurd h
  quiet_among (box b gs cs) [] h (suc k) n q = absurd h
  quiet_among (box b gs cs) (a ∷ rest) h (suc k) n (inl q) =
      (b, gs, inl (refl, refl, refl), q.0 ∙ h.0.seen.name, solved_empty gs (sym h.0.seen.solved ∙ q.1), is_quiet v i b gs a h.0 q.2)
  quiet_among (box b gs cs) (a ∷ rest) h (suc k) n (inr q) =
      let w : (c : Content) × (hs : Goals) × BoxIn [] c hs cs × (n ≡ c.name) × IsSolved hs × IsQuietBox (inside_of i.site c hs) = quiet_among cs rest h.1 k n q in
      (w.0, w.1, inr (inr w.2), w.3, w.4, w.5)

  -- up to one of the first alternatives there are no more than these
  up_to_few : (cs : Boxes) (seen : List Alternative) → ArePlaced v i cs seen → (k : ℕ) (n : Name) → Has (take k seen) n → (count_of (up_to n cs) ≤ k) × (0 < count_of cs)
  up_to_few cs seen h zero n q = absurd q
  up_to_few no_boxes [] h (suc k) n q = absurd q
  up_to_few no_boxes (a ∷ rest) h (suc k) n q = absurd h
  up_to_few (box b gs cs) [] h (suc k) n q = absurd h
  up_to_few (box b gs cs) (a ∷ rest) h (suc k) n q = (on (same_name n b.name) refl q (λ r. (up_to_few cs rest h.1 k n r).0), omega arith)
    where
      on : (t : Bool) → same_name n b.name ≡ t → Has (take (suc k) (a ∷ rest)) n → (Has (take k rest) n → count_of (up_to n cs) ≤ k) → count_of (if t then box b gs no_boxes else box b gs (up_to n cs)) ≤ suc k
      on true s q f = omega arith
      on false s (inl q) f = let z : true ≡ false = sym (same_name-refl n) ∙ ap (same_name n) (q.0 ∙ h.0.seen.name) ∙ s in cc
      on false s (inr q) f = let x : count_of (up_to n cs) ≤ k = f q in omega arith

  pub counted : (cs : Boxes) (seen : List Alternative) → ArePlaced v i cs seen → count_of cs ≡ length seen
  counted no_boxes [] h = refl
  counted no_boxes (a ∷ rest) h = absurd h
  counted (box b gs cs) [] h = absurd h
  counted (box b gs cs) (a ∷ rest) h = let e : count_of cs ≡ length rest = counted cs rest h.1 in omega arith

  leaves_fewer : (o : HeldOp) (bs : Boxes) (seen : List Alternative) → ArePlaced v i bs seen → length seen ≢ 1 → (n : Name) → Has (cutting o seen) n → count_of (kept_by (op_held v.table.program.templates.nodes o) n bs) < count_of bs
  leaves_fewer HeldOp.Condition bs seen h many n q =
      let w : (count_of (up_to n bs) ≤ length seen - 1) × (0 < count_of bs) = up_to_few bs seen h (length seen - 1) n q in
      let x : count_of (up_to n bs) ≤ length seen - 1 = w.0 in let y : 0 < count_of bs = w.1 in let e : count_of bs ≡ length seen = counted bs seen h in
      omega arith
  leaves_fewer HeldOp.Commit bs seen h many n q =
      let w : (count_of (up_to n bs) ≤ length seen) × (0 < count_of bs) = up_to_few bs seen h (length seen) n (subst (λ (l : List Alternative). Has l n) (sym (take_whole seen)) q) in
      let x : count_of (alone n bs) ≤ 1 = count_alone n bs in let y : 0 < count_of bs = w.1 in let e : count_of bs ≡ length seen = counted bs seen h in
      omega arith
  leaves_fewer HeldOp.Choice bs seen h many n q = absurd q
  leaves_fewer (HeldOp.Collect t) bs seen h many n q = absurd q

  among_cutting : (o : HeldOp) (bs : Boxes) (seen : List Alternative) → ArePlaced v i bs seen → (n : Name) → Has (cutting o seen) n
      → (b : Content) × (gs : Goals) × BoxIn [] b gs bs × (n ≡ b.name) × IsSolved gs × IsQuietBox (inside_of i.site b gs)
  among_cutting HeldOp.Condition bs seen h n q = quiet_among bs seen h (length seen - 1) n q
  among_cutting HeldOp.Commit bs seen h n q = quiet_among bs seen h (length seen) n (subst (λ (l : List Alternative). Has l n) (sym (take_whole seen)) q)
  among_cutting HeldOp.Choice bs seen h n q = absurd q
  among_cutting (HeldOp.Collect t) bs seen h n q = absurd q

  -- none of the first ones is solved and quiet
  none_first : (cs : Boxes) (seen : List Alternative) → ArePlaced v i cs seen → (k : ℕ) → AllByRecursion (IsNoisyOver v.table.program.templates.nodes v.stores) (take k seen)
      → (n : Name) (a : Found) → alternative_of i.site n cs ≡ Some a → count_of (up_to n cs) ≤ k → IsSolved a.goals → IsQuietBox a → ⊥
  none_first no_boxes seen h k noisy n a e few solved quiet = cc
  none_first (box b gs cs) [] h k noisy n a e few solved quiet = h
  none_first (box b gs cs) (x ∷ rest) h k noisy n a e few solved quiet = on (same_name n b.name) k noisy e few (λ j more i less. none_first cs rest h.1 j more n a i less solved quiet)
    where
      Deeper : Type 0
      Deeper = (j : ℕ) → AllByRecursion (IsNoisyOver v.table.program.templates.nodes v.stores) (take j rest) → alternative_of i.site n cs ≡ Some a → count_of (up_to n cs) ≤ j → ⊥

      on : (t : Bool) (k : ℕ) → AllByRecursion (IsNoisyOver v.table.program.templates.nodes v.stores) (take k (x ∷ rest)) → (if t then Some (inside_of i.site b gs) else alternative_of i.site n cs) ≡ Some a
          → count_of (if t then box b gs no_boxes else box b gs (up_to n cs)) ≤ k → Deeper → ⊥
      on true zero noisy e few deeper = absurd (omega arith)
      on false zero noisy e few deeper = absurd (omega arith)
      on true (suc k) noisy e few deeper =
          let s : inside_of i.site b gs ≡ a = some_value e in
          noisy.0 (h.0.seen.solved ∙ empty_solved gs (subst (λ (f : Found). IsSolved f.goals) (sym s) solved)) (was_quiet v i b gs x h.0 (subst IsQuietBox (sym s) quiet))
      on false (suc k) noisy e few deeper = deeper k noisy.1 e (omega arith)

  pub none_cuts : (o : HeldOp) (bs : Boxes) (seen : List Alternative) → ArePlaced v i bs seen → AllByRecursion (IsNoisyOver v.table.program.templates.nodes v.stores) (cutting o seen) → NoneCuts i.site (op_held v.table.program.templates.nodes o) bs
  none_cuts HeldOp.Condition bs seen h noisy n a e solved quiet few =
      let c : count_of bs ≡ length seen = counted bs seen h in
      none_first bs seen h (length seen - 1) noisy n a e (omega arith) solved quiet
  none_cuts HeldOp.Commit bs seen h noisy n a e solved quiet few =
      let c : count_of bs ≡ length seen = counted bs seen h in
      let w : count_of (up_to n bs) ≤ count_of bs = up_to_within n bs in
      none_first bs seen h (length seen) (subst (AllByRecursion (IsNoisyOver v.table.program.templates.nodes v.stores)) (sym (take_whole seen)) noisy) n a e (omega arith) solved quiet
  none_cuts HeldOp.Choice bs seen h noisy n a e solved quiet few = omega arith
  none_cuts (HeldOp.Collect t) bs seen h noisy n a e solved quiet few = omega arith

  -- the plan
  module _ (g : Name) (o : HeldOp) (bs : Boxes) (p : v.place ≡ Place.Goal g) (held : held_in g i.site.goals ≡ Some (a_choice (op_held v.table.program.templates.nodes o) bs)) (seen : ArePlaced v i bs v.alternatives) (many : length v.alternatives ≢ 1)
      (n : Name) (q : HasQuiet v.table.program.templates.nodes v.stores (cutting o v.alternatives) n) where
    one : (b : Content) × (gs : Goals) × BoxIn [] b gs bs × (n ≡ b.name) × IsSolved gs × IsQuietBox (inside_of i.site b gs)
    one = among_cutting o bs v.alternatives seen n q

    -- the alternative of the name is this one
    is_one : alternative_of i.site n bs ≡ Some (inside_of i.site one.0 one.1)
    is_one =
        let w : (a : Found) × (alternative_of i.site n bs ≡ Some a) = named_some i.site n one.0 one.1 bs one.2 one.3 in
        let x : BoxIn [] w.0.content w.0.goals bs × (w.0.around ≡ i.site.around ++ i.site.content ∷ []) × (n ≡ w.0.content.name) = alternative_in i.site n bs w.0 w.1 in
        let y : inside_of i.site w.0.content w.0.goals ≡ inside_of i.site one.0 one.1 =
        some_value (sym (placed v i g (op_held v.table.program.templates.nodes o) bs held w.0.content w.0.goals x.0) ∙ ap (λ (m : Name). box_at m i.table.config.roots) (sym x.2 ∙ one.3) ∙ placed v i g (op_held v.table.program.templates.nodes o) bs held one.0 one.1 one.2) in
        w.1 ∙ ap (λ (r : List Content). Some (record { around = r; content = w.0.content; goals = w.0.goals })) x.1 ∙ ap Some y

    abbrev pub label : Label
    label = record { rule = Rule.Cut; place = v.place; alternative = Some n; worker = v.worker }

    abbrev change : Change
    change = becomes i.site.content (with_content g (a_choice (op_held v.table.program.templates.nodes o) (kept_by (op_held v.table.program.templates.nodes o) n bs)) i.site.goals) 0

    allowed : MayCut n i.site (Some (a_choice (op_held v.table.program.templates.nodes o) bs))
    allowed = (subst (λ (a : Option Found). IsSomeAnd a (λ (f : Found). IsSolved f.goals × IsQuietBox f)) (sym is_one) (one.4, one.5), leaves_fewer o bs v.alternatives seen many n q)

    makes : Makes (Allows v.table.program) v.table.program (slice_index i.table.config.next v.worker) label i.site change
    makes = record {
      reading = nothing;
      change = subst (λ (x : Place). change_by v.table.program nothing v.worker (slice_index i.table.config.next v.worker) Rule.Cut x (Some n) i.site ≡ Some change) (sym p) (ap (cut g n i.site) held);
      allowed = subst (λ (x : Place). Allows v.table.program nothing Rule.Cut x (Some n) i.site) (sym p) (subst (MayCut n i.site) (sym held) allowed);
      few_names = omega arith;
    }

    cuts_goal : CutsGoal i.site g n
    cuts_goal = record { operator = op_held v.table.program.templates.nodes o; alternatives = bs; held = held; named = named_in one.0 one.1 bs one.2 one.3 }
      where
        named_in : (b : Content) (gs : Goals) (cs : Boxes) → BoxIn [] b gs cs → n ≡ b.name → IsIn n (box_names cs)
        named_in b gs no_boxes h e = h
        named_in b gs (box c hs cs) (inl h) e = inl (e ∙ ap (λ (x : Content). x.name) h.1)
        named_in b gs (box c hs cs) (inr (inl h)) e = let z : [] ≡ c ∷ h.0 = h.1 in cc
        named_in b gs (box c hs cs) (inr (inr h)) e = inr (named_in b gs cs h e)

    abbrev applies : Applies all_rules v.table.program i.table.config label (after i.table.config label i.site change)
    applies = record { in_force = inr (inr (inr (inl refl))); site = i.site; is_site = i.is_site; change = change; makes = makes; result = refl }

    pub cut_right : (reads : List Item) → IsReadAt v g [] reads → IsRightLabel (record { table = v.table; journal = v.journal; label = label; more = []; reads = reads; names = 0; step = Step.Cut; binds = [] })
    cut_right reads read = record {
      table = i.table;
      result = after i.table.config label i.site change;
      applies = applies;
      makes = (refl, (g, n, p, refl, cuts_goal));
      solved = tt;
      names = refl;
      reads = (g, p, read.enough i);
      binds = kept_bound all_rules v.table.program i.table.config label (after i.table.config label i.site change) (stand v i) applies i.site.content
          (with_content g (a_choice (op_held v.table.program.templates.nodes o) (kept_by (op_held v.table.program.templates.nodes o) n bs)) i.site.goals) no_boxes refl refl;
      there = read.there i;
    }

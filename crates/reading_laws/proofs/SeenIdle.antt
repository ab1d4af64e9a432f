-- An idle goal over labels that leave what it reads.
use Rattle.std.proofs.Common.{◌≡◌, ◌+◌, ◌≤◌, ◌<◌, List, [], ◌∷◌, ◌++◌, length, map, Option, Some, None, refl, sym, ◌∙◌, ap, subst, ◌⊎◌, inl, inr, arith}
use Rattle.std.specs.Prelude.{slice_index, option_map, IsSomeAnd}
use Rattle.akl_terms.specs.declared.name.Name.{Name}
use Rattle.akl_terms.specs.declared.name.Var.{Var}
use Rattle.akl_terms.specs.declared.name.Place.{Place}
use Rattle.akl_terms.specs.declared.program.Program.{Program}
use Rattle.akl_terms.specs.declared.program.Query.{Query}
use Rattle.akl_terms.specs.Equal.{IsConsistent, IsStructured}
use Rattle.constraint_laws.specs.Oldest.{IsOldest}
use Rattle.constraint_laws.specs.Touched.{IsAmong}
use Rattle.constraint_laws.proofs.SameTerms.{var_or}
use Rattle.akl_model.specs.declared.item.Item.{Item}
use Rattle.akl_model.specs.declared.label.Rule.{Rule}
use Rattle.akl_model.specs.declared.label.Label.{Label}
use Rattle.akl_model.specs.Config.{IsIn, Content, Boxes, no_boxes, box, Config, Held, an_atom, a_choice, held_in, Found, whole, box_at, home_of}
use Rattle.akl_model.specs.Changes.{by_binding, Changes, box_names}
use Rattle.akl_model.specs.Derivations.{Applies, Derives, Replays, IsReady}
use Rattle.akl_model.specs.Wakes.{names_around, names_down_to, holder_in, StandsIn, IsAt}
use Rattle.akl_model.proofs.Finds.{times}
use Rattle.akl_model.proofs.NamesKept.{home-box, box-itself}
use Rattle.akl_model.proofs.NextNumbers.{next_least}
use Rattle.akl_model.proofs.Options.{some_value}
use Rattle.akl_model.proofs.Scoped.{IsIn-either}
use Rattle.akl_model.proofs.ScopesAlong.{times_path}
use Rattle.step_laws.specs.Holders.{IsHeldBy}
use Rattle.step_laws.specs.Likeness.{IsLike, IsOld}
use Rattle.step_laws.specs.Stays.{GoesOn, HaveShape}
use Rattle.step_laws.proofs.Deeper.{Over, over}
use Rattle.step_laws.proofs.Holders.{holder_there, held_around}
use Rattle.step_laws.proofs.Stays.{choice_shape}
use Rattle.step_laws.proofs.StaysLaws.{like, goal_stays}
use Rattle.step_laws.proofs.Steps as steps
use Rattle.step_laws.proofs.Steps.{later, IsNew, WasThere, Moved, aside, at_site, inside}
use Rattle.step_laws.proofs.There.{site_there}
use Rattle.step_laws.proofs.Whereabouts.{found_in, in_found, in_counted, home_in, in_home}
use Rattle.plan_laws.specs.Idle.{EachGoals, OfAlternatives}
use Rattle.plan_laws.specs.Sleeps.{IsOutermostAt, IsEnough, PassesBy, PassBy}
use Rattle.plan_laws.proofs.DownTo.{down_to, is_down}
use Rattle.plan_laws.proofs.InScope.{Good}
use Rattle.plan_laws.proofs.Moves.{moved}
use Rattle.plan_laws.proofs.Replayed.{good_replay, replay_further}
use Rattle.plan_laws.specs.Waits.{IsScopedAt}
use Rattle.plan_laws.proofs.Frames.{one_frame}
use Rattle.plan_laws.proofs.FramesGrow.{frames_grow}
use Rattle.reading_laws.specs.Ends.{HasEnds}
use Rattle.reading_laws.specs.IdleGoals.{LeavesIdle}
use Rattle.reading_laws.specs.Seen.{IsSeen}
use Rattle.reading_laws.specs.Unchanged.{Unchanged, without_first}
use Rattle.reading_laws.proofs.IdleGoals.{passes_idle, enough_stays}
use Rattle.reading_laws.proofs.ListedEnds.{of_frames, counted}
use Rattle.reading_laws.proofs.Marked.{marks}
use Rattle.reading_laws.proofs.Outermost.{HasFirst, first_box}
use Rattle.reading_laws.proofs.RootsAlong.{names_along, heads}
use Rattle.reading_laws.proofs.SeenItems.{seen_unchanged}
use Rattle.reading_laws.specs.SeenIdle.{KeepsOldestAt, inner_names, ReadsIdle, IsIdleStill}

-- lists of names

tails : {m n : Name} {ms ns : List Name} → m ∷ ms ≡ n ∷ ns → ms ≡ ns
tails q = cc

-- the sets of goals of alternatives, by their names

each_same : (U V : Item → Type 0) → ((i : Item) → U i → V i) → (bs cs : Boxes) → box_names bs ≡ box_names cs → EachGoals U bs → EachGoals V cs
each_same U V h bs no_boxes e x = tt
each_same U V h no_boxes (box c gs cs) e x = absurd cc
each_same U V h (box b hs bs) (box c gs cs) e x = (subst (λ (n : Name). V (Item.Goals n)) (heads e) (h (Item.Goals b.name) x.0), each_same U V h bs cs (tails e) x.1)

alternatives_same : (U V : Item → Type 0) → ((i : Item) → U i → V i) → (h k : Option Held) → HaveShape h k → OfAlternatives U h → OfAlternatives V k
alternatives_same U V f h None e x = tt
alternatives_same U V f h (Some (an_atom a)) e x = tt
alternatives_same U V f h (Some (a_choice o cs)) e x =
    let w : (bs : Boxes) × (h ≡ Some (a_choice o bs)) × (box_names cs ≡ box_names bs) = choice_shape o cs h (sym e) in
    each_same U V f w.0 cs (sym w.2) (subst (OfAlternatives U) w.1 x)

each_one : (U : Item → Type 0) (bs : Boxes) (n : Name) → IsIn n (box_names bs) → EachGoals U bs → U (Item.Goals n)
each_one U no_boxes n i x = absurd i
each_one U (box b gs bs) n (inl e) x = subst (λ (m : Name). U (Item.Goals m)) (sym e) x.0
each_one U (box b gs bs) n (inr i) x = each_one U bs n i x.1

-- a box down to another one is found
path_found : (c : Config) → Good c → (k : Found) → box_at k.content.name c.roots ≡ Some k → (n : Name) → IsIn n (names_down_to k) → (b : Found) × (box_at n c.roots ≡ Some b)
path_found c w k e n i = on (IsIn-either n (names_around k) (k.content.name ∷ []) i)
  where
    on : IsIn n (names_around k) ⊎ IsIn n (k.content.name ∷ []) → (b : Found) × (box_at n c.roots ≡ Some b)
    on (inl h) = let o : Over n k c.roots = over n k c.roots (found_in k.content.name c.roots k e) h in (o.outer, subst (λ (m : Name). box_at m c.roots ≡ Some o.outer) (sym o.named) (in_found c.roots o.outer w.stand.once o.stands))
    on (inr (inl q)) = (k, subst (λ (m : Name). box_at m c.roots ≡ Some k) (sym q) e)
    on (inr (inr z)) = absurd z

-- a goal that is there before labels and afterwards is there between
goal_between : (rules : List Rule) (p : Program) (c : Config) (l : Label) (m d : Config) (ls : List Label) → Good c → Good m → Applies rules p c l m → Derives rules p m ls d → (g : Name) (f k : Found) → home_of g c.roots ≡ Some f → home_of g d.roots ≡ Some k
    → (b : Found) × (home_of g m.roots ≡ Some b)
goal_between rules p c l m d ls w v a t g f k e i = on ((later rules p m d ls v.stand t).each k (home_in g d.roots k i).0)
  where
    old : IsOld m g
    old = let x : IsOld c g = steps.old_goal c w.stand g f (home_in g c.roots f e).0 (home_in g c.roots f e).1 in
        let y : slice_index c.next g.worker ≤ slice_index m.next g.worker = next_least rules p c l m a g.worker in let z : g.number < slice_index c.next g.worker = x in omega (arith, y, z)

    on : IsNew m k ⊎ WasThere m k → (b : Found) × (home_of g m.roots ≡ Some b)
    on (inl n) = absurd (n.goals g (home_in g d.roots k i).1 old)
    on (inr s) = let h : (u : Held) × (held_in g s.before.goals ≡ Some u) = s.goals g (home_in g d.roots k i).1 old in (s.before, in_home g h.0 m.roots s.before v.stand.once s.stood h.1)

-- one label
module _ (rules : List Rule) (p : Program) (q : Query) (journal : List Label) (c : Config) (l : Label) (d : Config) (r : Replays rules p q journal c) (a : Applies rules p c l d)
    (g : Name) (f k : Found) (was : home_of g c.roots ≡ Some f) (is : home_of g d.roots ≡ Some k) where
  w : Good c
  w = good_replay rules p q journal c r

  v : Good d
  v = good_replay rules p q (journal ++ l ∷ []) d (replay_further rules p q journal c l d r a)

  run : GoesOn rules p c (l ∷ []) d
  run = record { query = q; journal = journal; replays = r; derives = (d, a, refl) }

  its_like : IsLike f k
  its_like = (like rules p c (l ∷ []) d run).1 g f k was is

  same_names : names_down_to f ≡ names_down_to k
  same_names = λ i. its_like.around i ++ its_like.name i ∷ []

  -- what is in scope stays so
  pub scoped_step : (x : Var) → IsScopedAt c (Place.Goal g) x → IsScopedAt d (Place.Goal g) x
  scoped_step x s = record {
    home = there.0;
    is_found = subst (λ (n : Name). box_at n d.roots ≡ Some there.0) itself there.1;
    is_at = subst (λ (n : Name). IsAt n d.roots (Place.Goal g)) itself (is_down s.home.content.name d.roots (Place.Goal g) k is down);
    frame = kept (moved rules p c l d w v a s.home.content.name s.home there.0 s.is_found there.1);
  }
    where
      down : IsIn s.home.content.name (names_down_to k)
      down =
          let u : (e : Found) × (home_of g c.roots ≡ Some e) × IsIn s.home.content.name (names_down_to e) = down_to s.home.content.name c.roots (Place.Goal g) s.is_at in
          subst (IsIn s.home.content.name) (ap names_down_to (some_value (sym u.1 ∙ was)) ∙ same_names) u.2

      there : (b : Found) × (box_at s.home.content.name d.roots ≡ Some b)
      there = path_found d v k (home-box g d.roots k v.stand.once is) s.home.content.name down

      itself : s.home.content.name ≡ there.0.content.name
      itself = box-itself s.home.content.name d.roots there.0 there.1

      kept : Moved l.worker (slice_index c.next l.worker) a.site a.change s.home there.0 → IsIn x.frame there.0.content.frames
      kept (aside z) = subst (λ (b : Content). IsIn x.frame b.frames) (sym z.content) s.frame
      kept (at_site b y z) = subst (λ (u : Found). IsIn x.frame u.content.frames) (sym z)
          (frames_grow rules p c l d a b.content b.goals b.rest b.is_change x.frame (subst (λ (u : Found). IsIn x.frame u.content.frames) y s.frame))
      kept (inside b j i1 i2 y z) = subst (λ (u : Found). IsIn x.frame u.content.frames) (sym z) (subst (λ (u : Found). IsIn x.frame u.content.frames) y s.frame)

  -- the root boxes around the goal
  abbrev first : HasFirst c f
  first = first_box c w f.content.name f (home-box g c.roots f w.stand.once was)

  abbrev now : HasFirst d k
  now = first_box d v k.content.name k (home-box g d.roots k v.stand.once is)

  all_names : first.content.name ∷ map (λ (b : Content). b.name) first.rest ≡ now.content.name ∷ map (λ (b : Content). b.name) now.rest
  all_names = sym (names_along f first.content first.rest first.path) ∙ same_names ∙ names_along k now.content now.rest now.path

  inner_was : inner_names f ≡ map (λ (b : Content). b.name) first.rest
  inner_was = ap (λ (bs : List Content). map (λ (b : Content). b.name) (without_first bs)) first.path

  pub inner_same : inner_names f ≡ inner_names k
  inner_same = inner_was ∙ tails all_names ∙ sym (ap (λ (bs : List Content). map (λ (b : Content). b.name) (without_first bs)) now.path)

  -- a label that changes none of what the goal reads
  module _ (kept : List Var) (reads : ReadsIdle (λ i. Changes by_binding c d i → ⊥) kept g f) (shape : HaveShape (held_in g f.goals) (held_in g k.goals)) where
    held : (n : Name) → holder_in n d.roots ≡ Some g → Changes by_binding c d (Item.Goals n) → ⊥
    held n h =
        let e : (e : Found) × (box_at n d.roots ≡ Some e) = holder_there d.roots n g h in
        let u : IsHeldBy n g e.0 d.roots = held_around d.roots v.stand.once n g e.0 e.1 h in
        let at : held_in g k.goals ≡ Some (a_choice u.op u.alternatives) = ap (λ (b : Found). held_in g b.goals) (some_value (sym is ∙ u.is_home)) ∙ u.held in
        let y : OfAlternatives (λ i. Changes by_binding c d i → ⊥) (Some (a_choice u.op u.alternatives)) =
        subst (OfAlternatives (λ i. Changes by_binding c d i → ⊥)) at (alternatives_same (λ i. Changes by_binding c d i → ⊥) (λ i. Changes by_binding c d i → ⊥) (λ i z. z) (held_in g f.goals) (held_in g k.goals) shape reads.alternatives) in
        each_one (λ i. Changes by_binding c d i → ⊥) u.alternatives n u.among y

    inner : (n : Name) (e : Found) → box_at n d.roots ≡ Some e → (e.around ≡ [] → ⊥) → StandsIn n d.roots (Place.Goal g) → Changes by_binding c d (Item.Goals n) → ⊥
    inner n e i not_root stands = on (subst (IsIn n) (names_along k now.content now.rest now.path) down)
      where
        down : IsIn n (names_down_to k)
        down = subst (λ (o : Option Found). IsSomeAnd (option_map names_down_to o) (IsIn n)) is stands

        on : IsIn n (now.content.name ∷ map (λ (b : Content). b.name) now.rest) → Changes by_binding c d (Item.Goals n) → ⊥
        on (inl q) = absurd (not_root (ap (λ (b : Found). b.around) (some_value (sym i ∙ ap (λ (m : Name). box_at m d.roots) q ∙ now.found))))
        on (inr h) = reads.inner n (subst (IsIn n) (sym (inner_was ∙ tails all_names)) h)

    pub leaves_idle : LeavesIdle kept g c d
    leaves_idle = record { there = site_there (Place.Goal g) c.roots f was; goal = reads.goal; held = held; bindings = reads.bindings; inner = inner }

-- many labels
pub scoped_stays : (rules : List Rule) (p : Program) (q : Query) (journal : List Label) (c : Config) (ls : List Label) (d : Config) → Replays rules p q journal c → Derives rules p c ls d
    → (g : Name) (f k : Found) → home_of g c.roots ≡ Some f → home_of g d.roots ≡ Some k → (x : Var) → IsScopedAt c (Place.Goal g) x → IsScopedAt d (Place.Goal g) x
scoped_stays rules p q journal c [] d r w g f k e i x s = subst (λ (m : Config). IsScopedAt m (Place.Goal g) x) w s
scoped_stays rules p q journal c (l ∷ ls) d r w g f k e i x s =
    let r1 : Replays rules p q (journal ++ l ∷ []) w.0 = replay_further rules p q journal c l w.0 r w.1 in
    let b : (b : Found) × (home_of g w.0.roots ≡ Some b) = goal_between rules p c l w.0 d ls (good_replay rules p q journal c r) (good_replay rules p q (journal ++ l ∷ []) w.0 r1) w.1 w.2 g f k e i in
    scoped_stays rules p q (journal ++ l ∷ []) w.0 ls d r1 w.2 g b.0 k b.1 i x (scoped_step rules p q journal c l w.0 r w.1 g f b.0 e b.1 x s)

passes_along : (rules : List Rule) (p : Program) (q : Query) (journal : List Label) (c : Config) (ls : List Label) (d : Config) → Replays rules p q journal c → (w : Derives rules p c ls d)
    → (g : Name) (f : Found) → home_of g c.roots ≡ Some f → (kept : List Var) → ReadsIdle (λ i. Unchanged rules p c ls d w i) kept g f → PassBy rules p kept (Place.Goal g) c ls d × ((k : Found) × (home_of g d.roots ≡ Some k))
passes_along rules p q journal c [] d r same g f e kept reads = (same, (f, subst (λ (m : Config). home_of g m.roots ≡ Some f) same e))
passes_along rules p q journal c (l ∷ ls) d r w g f e kept reads =
    let r1 : Replays rules p q (journal ++ l ∷ []) w.0 = replay_further rules p q journal c l w.0 r w.1 in
    let k : (k : Found) × (home_of g w.0.roots ≡ Some k) × IsLike f k × HaveShape (held_in g f.goals) (held_in g k.goals) =
    goal_stays rules p c (l ∷ []) w.0 (record { query = q; journal = journal; replays = r; derives = (w.0, w.1, refl) }) g f e (reads.goal.0, tt) in
    let one : PassesBy rules p kept (Place.Goal g) c l w.0 = passes_idle rules p q journal c l w.0 g kept r w.1 (leaves_idle rules p q journal c l w.0 r w.1 g f k.0 e k.1 kept (record {
      goal = reads.goal.0;
      bindings = λ x i. (reads.bindings x i).0;
      inner = λ m i. (reads.inner m i).0;
      alternatives = alternatives_same (λ i. Unchanged rules p c (l ∷ ls) d w i) (λ i. Changes by_binding c w.0 i → ⊥) (λ i u. u.0) (held_in g f.goals) (held_in g f.goals) refl reads.alternatives;
    }) k.3) in
    let rest : PassBy rules p kept (Place.Goal g) w.0 ls d × ((k : Found) × (home_of g d.roots ≡ Some k)) = passes_along rules p q (journal ++ l ∷ []) w.0 ls d r1 w.2 g k.0 k.1 kept (record {
      goal = reads.goal.1;
      bindings = λ x i. (reads.bindings x i).1;
      inner = λ m i. (reads.inner m (subst (IsIn m) (sym (inner_same rules p q journal c l w.0 r w.1 g f k.0 e k.1)) i)).1;
      alternatives = alternatives_same (λ i. Unchanged rules p c (l ∷ ls) d w i) (λ i. Unchanged rules p w.0 ls d w.2 i) (λ i u. u.1) (held_in g f.goals) (held_in g k.0.goals) k.3 reads.alternatives;
    }) in
    ((w.0, one, rest.0), rest.1)

-- the ends of variables in scope
module _ (rules : List Rule) (p : Program) (q : Query) (journal : List Label) (c : Config) (r : Replays rules p q journal c) (place : Place) (kept : List Var)
    (scoped : (x : Var) → IsAmong x kept → IsScopedAt c place x) (oldest : KeepsOldestAt c place kept) where
  good : Good c
  good = good_replay rules p q journal c r

  pub kept_old : (x : Var) → IsAmong x kept → IsOld c x.frame
  kept_old x m =
      let s : IsScopedAt c place x = scoped x m in
      good.stand.below x.frame (
      let a : 0 < times x.frame (box s.home.content s.home.goals no_boxes) = counted x.frame s.home.content s.home.goals s.frame in
      let b : times x.frame (box s.home.content s.home.goals no_boxes) + times_path x.frame s.home.around ≤ times x.frame c.roots =
      in_counted x.frame s.home.around s.home.content s.home.goals c.roots (found_in s.home.content.name c.roots s.home s.is_found) in
      omega arith)

  at_root : (n : Name) (g : Found) → box_at n c.roots ≡ Some g → g.around ≡ [] → IsConsistent (whole g) → (x y : Var) → IsAmong x kept → (IsStructured (whole g) x → ⊥) → IsOldest (whole g) x y → (x ≡ y → ⊥) → IsAmong y kept
  at_root n g i root h x y m free o apart = oldest.each g outer h x y m free o
    where
      s : IsScopedAt c place x
      s = scoped x m

      itself : n ≡ g.content.name
      itself = box-itself n c.roots g i

      same : s.home ≡ g
      same = one_frame x.frame c.roots s.home g (good.stand.once x.frame) s.frame (of_frames c good n g i root x y apart o.equal)
          (found_in s.home.content.name c.roots s.home s.is_found) (found_in n c.roots g i)

      outer : IsOutermostAt c place g
      outer = record {
        is_found = subst (λ (m : Name). box_at m c.roots ≡ Some g) itself i;
        is_root = root;
        is_at = subst (λ (u : Found). IsAt u.content.name c.roots place) same s.is_at;
      }

  pub kept_ends : HasEnds c kept
  kept_ends = record {
    each = λ n g i root h x y m free o. elim (var_or x y) [ inl e ↦ subst (λ (u : Var). IsAmong u kept) e m | inr apart ↦ at_root n g i root h x y m free o apart ];
  }

-- so an idle goal stays idle
pub seen_idle : (rules : List Rule) (p : Program) (q : Query) (journal further : List Label) (c d : Config) → Replays rules p q journal c → Derives rules p c further d
    → (g : Name) (f : Found) → home_of g c.roots ≡ Some f → (IsReady rules p c (Place.Goal g) → ⊥) → (kept : List Var) → IsEnough p c kept (Place.Goal g)
    → ((x : Var) → IsAmong x kept → IsScopedAt c (Place.Goal g) x) → KeepsOldestAt c (Place.Goal g) kept
    → ReadsIdle (IsSeen rules p q (journal ++ further) (length journal)) kept g f → IsIdleStill rules p d g kept
seen_idle rules p q journal further c d r w g f e unready kept enough scoped oldest reads =
    let bound : ((x : Var) → IsAmong x kept → Unchanged rules p c further d w (Item.Binding x)) × HasEnds d kept =
    marks rules p q journal further c d r w kept (kept_old rules p q journal c r (Place.Goal g) kept scoped oldest) (kept_ends rules p q journal c r (Place.Goal g) kept scoped oldest)
    (λ x i. ((reads.bindings x i).number, (reads.bindings x i).last, (reads.bindings x i).early)) in
    let passes : PassBy rules p kept (Place.Goal g) c further d × ((k : Found) × (home_of g d.roots ≡ Some k)) = passes_along rules p q journal c further d r w g f e kept (record {
      goal = seen_unchanged rules p q journal further c d (Item.Goal g) reads.goal.number r w reads.goal.last reads.goal.early;
      bindings = bound.0;
      inner = λ m i. seen_unchanged rules p q journal further c d (Item.Goals m) (reads.inner m i).number r w (reads.inner m i).last (reads.inner m i).early;
      alternatives = sets_seen (held_in g f.goals) reads.alternatives;
    }) in
    let still : (IsReady rules p d (Place.Goal g) → ⊥) × IsEnough p d kept (Place.Goal g) = enough_stays rules p q journal c g kept further d r unready enough passes.0 in
    record {
      there = site_there (Place.Goal g) d.roots passes.1.0 passes.1.1;
      unready = still.0;
      enough = still.1;
      scoped = λ x m. scoped_stays rules p q journal c further d r w g f passes.1.0 e passes.1.1 x (scoped x m);
      oldest = record { each = λ k o h. bound.1.each k.content.name k o.is_found o.is_root h };
    }
  where
    each_seen : (bs : Boxes) → EachGoals (IsSeen rules p q (journal ++ further) (length journal)) bs → EachGoals (λ i. Unchanged rules p c further d w i) bs
    each_seen no_boxes x = tt
    each_seen (box b gs bs) x = (seen_unchanged rules p q journal further c d (Item.Goals b.name) x.0.number r w x.0.last x.0.early, each_seen bs x.1)

    sets_seen : (h : Option Held) → OfAlternatives (IsSeen rules p q (journal ++ further) (length journal)) h → OfAlternatives (λ i. Unchanged rules p c further d w i) h
    sets_seen None x = tt
    sets_seen (Some (an_atom a)) x = tt
    sets_seen (Some (a_choice o bs)) x = each_seen bs x

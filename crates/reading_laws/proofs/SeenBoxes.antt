-- Idle boxes, and labels at boxes, by stamps and marks.
use Rattle.std.proofs.Common.{◌≡◌, ◌≤◌, false, List, [], ◌∷◌, ◌++◌, length, map, Option, Some, None, refl, sym, ◌∙◌, ap, subst, ◌⊎◌, inl, inr, arith}
use Rattle.akl_terms.specs.declared.name.Name.{Name}
use Rattle.akl_terms.specs.declared.name.Var.{Var}
use Rattle.akl_terms.specs.declared.name.Place.{Place}
use Rattle.akl_terms.specs.declared.program.Program.{Program}
use Rattle.akl_terms.specs.declared.program.Query.{Query}
use Rattle.akl_terms.specs.Equal.{told, IsConsistent}
use Rattle.akl_terms.proofs.EqualLaws.{IsConsistent-follows, IsTold-left}
use Rattle.constraint_laws.specs.Touched.{IsAmong}
use Rattle.constraint_laws.proofs.NoEquations.{nothing_consistent}
use Rattle.akl_model.specs.declared.item.Item.{Item}
use Rattle.akl_model.specs.declared.label.Rule.{Rule}
use Rattle.akl_model.specs.declared.label.Label.{Label}
use Rattle.akl_model.specs.Config.{IsIn, Content, Boxes, no_boxes, box, Goals, no_goals, atom, choice, Config, Found, equations_of, environment, whole, box_at, site_of}
use Rattle.akl_model.specs.Derivations.{Applies, Derives, Replays, IsReady}
use Rattle.akl_model.specs.Rules.{Reading}
use Rattle.akl_model.specs.Stable.{only, frames_of, IsStable, Allows}
use Rattle.akl_model.specs.Wakes.{names_around, names_down_to, has_candidate}
use Rattle.akl_model.proofs.NamesKept.{Stand, box-itself, replay-stands, derived-stands}
use Rattle.akl_model.proofs.Options.{some_value}
use Rattle.akl_model.proofs.Scoped.{IsIn-either}
use Rattle.akl_model.proofs.StableGrows.{untouched_box}
use Rattle.step_laws.specs.Bound.{outermost_equations}
use Rattle.step_laws.specs.Inside.{EachItem, EachItemAmong}
use Rattle.step_laws.specs.Stays.{GoesOn}
use Rattle.step_laws.proofs.Deeper.{chain_at}
use Rattle.step_laws.proofs.Same.{IsSame}
use Rattle.step_laws.proofs.Whereabouts.{found_in}
use Rattle.plan_laws.specs.Right.{Reads, NoneBy, IsRightOn}
use Rattle.plan_laws.proofs.ByGoals.{by_goals_law}
use Rattle.plan_laws.proofs.Right.{right_same}
use Rattle.reading_laws.specs.Boxes.{StaysUnbound, EndUnchanged}
use Rattle.reading_laws.specs.Ends.{HasEnds}
use Rattle.reading_laws.specs.Seen.{IsSeen}
use Rattle.reading_laws.specs.Unchanged.{Unchanged}
use Rattle.reading_laws.proofs.Starts.{root_enough}
use Rattle.reading_laws.proofs.Boxes.{IsThereStill, there_still, enough_unbound}
use Rattle.reading_laws.proofs.FailRight.{fail_right}
use Rattle.reading_laws.proofs.IdleBoxes.{each_same, idle_box}
use Rattle.reading_laws.proofs.Marked.{marks}
use Rattle.reading_laws.proofs.SeenItems.{seen_unchanged}
use Rattle.reading_laws.proofs.Path.{nil_right}
use Rattle.reading_laws.proofs.SplitRight.{split_right}
use Rattle.reading_laws.proofs.Untouched.{goals_untouched}
use Rattle.reading_laws.specs.SeenBoxes.{ReadsBox, ReadsAround, by_root, by_ends, by_sets, ReadsStable}

-- a box that splits is stable
stable_of : (p : Program) (v : Reading) (n : Name) (f : Found) (o : Option Name) → Allows p v Rule.Split (Place.Box n) o f → IsStable p f
stable_of p v n f None x = absurd x
stable_of p v n f (Some b) x = x.0

module _ (rules : List Rule) (p : Program) (q : Query) (journal further : List Label) (c d : Config) (r : Replays rules p q journal c) (w : Derives rules p c further d) where
  abbrev U : Item → Type 0
  U = IsSeen rules p q (journal ++ further) (length journal)

  abbrev V : Item → Type 0
  V = Unchanged rules p c further d w

  abbrev run : GoesOn rules p c further d
  run = record { query = q; journal = journal; replays = r; derives = w }

  store : (n : Name) → U (Item.Store n) → V (Item.Store n)
  store n u = seen_unchanged rules p q journal further c d (Item.Store n) u.number r w u.last u.early

  goals : (n : Name) → U (Item.Goals n) → V (Item.Goals n)
  goals n u = seen_unchanged rules p q journal further c d (Item.Goals n) u.number r w u.last u.early

  goal : (g : Name) → U (Item.Goal g) → V (Item.Goal g)
  goal g u = seen_unchanged rules p q journal further c d (Item.Goal g) u.number r w u.last u.early

  mutual
    pub each : (bs : Boxes) → EachItem U bs → EachItem V bs
    each no_boxes x = tt
    each (box b gs bs) x = (store b.name x.0, goals b.name x.1, among gs x.2, each bs x.3)

    among : (gs : Goals) → EachItemAmong U gs → EachItemAmong V gs
    among no_goals x = tt
    among (atom g a gs) x = (goal g x.0, among gs x.1)
    among (choice g o bs gs) x = (goal g x.0, each bs x.1, among gs x.2)

  -- a box whose reads are unchanged
  module _ (f : Found) (u : ReadsBox U c f) where
    ends : ((x : Var) → IsAmong x u.ends → V (Item.Binding x)) × HasEnds d u.ends
    ends = marks rules p q journal further c d r w u.ends u.old u.oldest (λ x i. ((u.bindings x i).number, (u.bindings x i).last, (u.bindings x i).early))

    reached : (x : Var) → IsAmong x u.inner → EndUnchanged rules p c further d w (outermost_equations f) x
    reached x i = elim (u.ended x i) [ inl s ↦ inl s | inr z ↦ inr (z.0, z.2, ends.0 z.0 z.1) ]

    around : (m : Name) → IsIn m (names_around f) → V (Item.Store m)
    around m i = store m (u.around m i)

    stores : (m : Name) → IsIn m (names_down_to f) → V (Item.Store m)
    stores m i = on (IsIn-either m (names_around f) (f.content.name ∷ []) i)
      where
        on : IsIn m (names_around f) ⊎ IsIn m (f.content.name ∷ []) → V (Item.Store m)
        on (inl h) = around m h
        on (inr (inl e)) = subst (λ (n : Name). V (Item.Store n)) (sym e) (store f.content.name u.within.0)
        on (inr (inr z)) = absurd z

  -- the equations around a box that is there, around which is at most a root box, are consistent where they were
  module _ (n : Name) (f : Found) (i : box_at n c.roots ≡ Some f) (own : V (Item.Store n)) where
    still : IsThereStill d n f
    still = there_still rules p q journal c further d r w n f i own

    root_consistent : (b : Content) (gs : Goals) → box_at b.name c.roots ≡ Some (record { around = []; content = b; goals = gs }) → V (Item.Store b.name) → IsConsistent b.equations
        → (k : Found) → box_at b.name d.roots ≡ Some k → IsConsistent (whole k)
    root_consistent b gs there u h k now = subst (λ (m : Found). IsConsistent (whole m)) (some_value (sym alike.is ∙ now)) (alike.spares h).consistent
      where
        alike : StaysUnbound (λ x. IsAmong x []) d b.name (record { around = []; content = b; goals = gs })
        alike = enough_unbound rules p q journal c further d r w b.name (record { around = []; content = b; goals = gs }) [] there (λ m j. elim j [
          | inl e ↦ subst (λ (x : Name). V (Item.Store x)) (sym e) u
          | inr z ↦ absurd z
        ]) (root_enough (record { around = []; content = b; goals = gs }) refl) (λ x j. absurd j)

    consistent_around : length f.around ≤ 1 → ((m : Name) → IsIn m (names_around f) → V (Item.Store m)) → IsConsistent (environment f) → IsConsistent (environment still.now)
    consistent_around few u h = on f.around refl few still.now.around refl
      where
        once_c : Stand c
        once_c = replay-stands rules p q journal c r

        once_d : Stand d
        once_d = derived-stands rules p c d further once_c w

        names : {xs ys : List Content} → f.around ≡ xs → still.now.around ≡ ys → map (λ (b : Content). b.name) ys ≡ map (λ (b : Content). b.name) xs
        names e z = ap (map (λ (b : Content). b.name)) (sym z) ∙ still.around ∙ ap (map (λ (b : Content). b.name)) e

        on : (xs : List Content) → f.around ≡ xs → length xs ≤ 1 → (ys : List Content) → still.now.around ≡ ys → IsConsistent (equations_of still.now.around)
        on xs e one [] z = subst (λ (bs : List Content). IsConsistent (equations_of bs)) (sym z) nothing_consistent
        on [] e one (y ∷ ys) z = let q : map (λ (b : Content). b.name) (y ∷ ys) ≡ [] = names e z in absurd cc
        on (b ∷ b2 ∷ xs) e one ys z = absurd (omega (arith, one))
        on (b ∷ []) e one (y ∷ y2 ∷ ys) z = let q : y.name ∷ y2.name ∷ map (λ (b : Content). b.name) ys ≡ b.name ∷ [] = names e z in absurd cc
        on (b ∷ []) e one (y ∷ []) z =
            let before : (gs : Goals) × (box_at b.name c.roots ≡ Some (record { around = []; content = b; goals = gs })) = chain_at c.roots once_c.once f [] b [] (found_in n c.roots f i) e in
            let after : (gs : Goals) × (box_at y.name d.roots ≡ Some (record { around = []; content = y; goals = gs })) = chain_at d.roots once_d.once still.now [] y [] (found_in n d.roots still.now still.is) z in
            let same : y.name ≡ b.name = (let q : y.name ∷ [] ≡ b.name ∷ [] = names e z in cc) in
            subst (λ (bs : List Content). IsConsistent (equations_of bs)) (sym z) (subst IsConsistent (sym (nil_right y.equations))
            (root_consistent b before.0 before.1 (u b.name (subst (λ (bs : List Content). IsIn b.name (map (λ (x : Content). x.name) bs)) (sym e) (inl refl)))
            (subst IsConsistent (nil_right b.equations) (subst (λ (bs : List Content). IsConsistent (equations_of bs)) e h))
            (record { around = []; content = y; goals = after.0 }) (subst (λ (m : Name). box_at m d.roots ≡ Some (record { around = []; content = y; goals = after.0 })) same after.1)))

  pub seen_idle_box : (n : Name) (f : Found) → box_at n c.roots ≡ Some f → ReadsBox U c f → has_candidate f.goals ≡ false → (IsReady rules p c (Place.Box n) → ⊥) → IsReady rules p d (Place.Box n) → ⊥
  seen_idle_box n f i u unsplit unready ready =
      idle_box rules p c further d run n f u.inner i (record { inside = each (only f) u.within; around = around f u; enough = u.enough; bindings = reached f u }) unsplit unready ready

  -- labels
  module _ (l : Label) (e : Config) (a : Applies rules p c l e) (none : NoneBy l further) (n : Name) (place : l.place ≡ Place.Box n) where
    pub seen_fail : l.rule ≡ Rule.Fail → (IsConsistent (whole a.site) → ⊥) → U (Item.Store n) → IsRightOn a d
    seen_fail rule clash u = fail_right rules p c further d run l e a none n rule place clash (store n u)

    module _ (rule : l.rule ≡ Rule.Split) (u : ReadsStable U c a.site) where
      here : box_at n c.roots ≡ Some a.site
      here = subst (λ (x : Place). site_of x c.roots ≡ Some a.site) place a.is_site

      itself : n ≡ a.site.content.name
      itself = box-itself n c.roots a.site here

      own : V (Item.Store n)
      own = subst (λ (m : Name). V (Item.Store m)) (sym itself) (store a.site.content.name u.within.0)

      stable : IsStable p a.site
      stable = stable_of p a.makes.reading n a.site l.alternative (subst (λ (x : Rule). Allows p a.makes.reading x (Place.Box n) l.alternative a.site) rule
          (subst (λ (x : Place). Allows p a.makes.reading l.rule x l.alternative a.site) place a.makes.allowed))

      whole_consistent : IsConsistent (whole a.site)
      whole_consistent = (untouched_box p (frames_of (only a.site)) (environment a.site) a.site stable.each.0).consistent

      around_of : (k : Found) → IsConsistent (whole k) → IsConsistent (environment k)
      around_of k = IsConsistent-follows (record { each = λ {s} {t} m. told (IsTold-left (environment k) k.content.equations s t m) })

      abbrev now : Found
      now = (still n a.site here own).now

      -- by ends the box itself stays consistent
      ends_consistent : ReadsBox U c a.site → IsConsistent (environment now)
      ends_consistent b = around_of now (subst (λ (k : Found). IsConsistent (whole k)) (some_value (sym alike.is ∙ (still n a.site here own).is)) (alike.spares whole_consistent).consistent)
        where
          alike : StaysUnbound (λ x. IsAmong x b.inner) d n a.site
          alike = enough_unbound rules p q journal c further d r w n a.site b.inner here (stores a.site b) b.enough (reached a.site b)

      splits : IsConsistent (environment now) → IsRightOn a d
      splits k = split_right rules p c further d run l e a none n rule place (record { inside = each (only a.site) u.within; now = now; is_now = (still n a.site here own).is; consistent = k })

      pub seen_split : IsRightOn a d
      seen_split = on u.around
        where
          on : ReadsAround U c a.site → IsRightOn a d
          on (by_root few around) = splits (consistent_around n a.site here own few (λ m i. store m (around m i)) (around_of a.site whole_consistent))
          on (by_ends b) = splits (ends_consistent b)
          on (by_sets around) = right_same rules p c further d run l e a none (subst (λ (x : Rule). Reads (IsSame c d) x l.place l.alternative a.site) (sym rule)
              (subst (λ (x : Place). Reads (IsSame c d) Rule.Split x l.alternative a.site) (sym place) (
                each_same rules p c further d run (only a.site) (each (only a.site) u.within),
                λ m i. by_goals_law rules p c further d run m (goals_untouched rules p c further d w m (goals m (around m i))),
              )))

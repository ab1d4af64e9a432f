-- Where boxes stand before and after a label, and the choices that hold them.
use Rattle.std.proofs.Common.{◌≡◌, ℕ, ◌+◌, ◌≤◌, List, [], ◌∷◌, ◌++◌, map, Bool, true, false, Some, None, refl, sym, ◌∙◌, ap, subst, ◌⊎◌, inl, inr, arith}
use Rattle.std.specs.Prelude.{if◌then◌else◌, slice_index}
use Rattle.std.proofs.lemmas.List.{append_cancel_left}
use Rattle.akl_terms.specs.declared.name.Name.{Name}
use Rattle.akl_model.specs.Config.{Operator}
use Rattle.akl_terms.specs.declared.program.Program.{Program}
use Rattle.akl_terms.specs.declared.program.Query.{Query}
use Rattle.akl_terms.specs.Names.{same_name}
use Rattle.akl_terms.proofs.SameNames.{same_name-refl, same_name-equal}
use Rattle.akl_model.specs.declared.item.Item.{Item}
use Rattle.akl_model.specs.declared.label.Rule.{Rule}
use Rattle.akl_model.specs.declared.label.Label.{Label}
use Rattle.akl_model.specs.Config.{IsIn, Content, Boxes, no_boxes, box, Goals, no_goals, atom, choice, Config, an_atom, a_choice, held_in, Found, box_at, edited_inside}
use Rattle.akl_model.specs.Rules.{Change}
use Rattle.akl_model.specs.Derivations.{Applies, Replays}
use Rattle.akl_model.specs.Paths.{StandsAt, StandsInside}
use Rattle.akl_model.specs.Changes.{box_names}
use Rattle.akl_model.specs.Wakes.{names_around, holder_in}
use Rattle.akl_model.specs.Names.{one_if}
use Rattle.akl_model.proofs.Finds.{times}
use Rattle.akl_model.proofs.NamesKept.{Stand, replay-stands, stands_after, box-itself}
use Rattle.akl_model.proofs.NextNumbers.{next_own, next_other}
use Rattle.akl_model.proofs.PathsKept.{stays}
use Rattle.akl_model.proofs.ScopesAlong.{times_path}
use Rattle.constraint_laws.proofs.SameTerms.{Either, nat_or}
use Rattle.step_laws.specs.Whereabouts.{BoxIn, InGoals, Stands}
use Rattle.step_laws.specs.ChangedItems.{IsReplaced, MayChange, store, goals, store_gone, goals_gone, goal_gone, store_new, goals_new, goal_new, holder, roots, binding}
use Rattle.step_laws.specs.ChangedItems as may
use Rattle.step_laws.specs.Holders.{IsHeldBy}
use Rattle.step_laws.proofs.Whereabouts.{found_in, home_in, in_counted}
use Rattle.step_laws.proofs.Deeper.{one_box, named_found, Over, over}
use Rattle.step_laws.proofs.Edits.{NotNamed, edit_out, edit_new}
use Rattle.step_laws.proofs.Becomes.{Becomes}
use Rattle.step_laws.proofs.Steps.{Moved, aside, at_site, inside, site_now, site_stands, site_there, site_gone, made, moved}
use Rattle.step_laws.proofs.Holders.{held_or, root_named}
use Rattle.step_laws.proofs.Decide.{in_or, names_or, not_not}
use Rattle.step_laws.proofs.ChangedItems.{items}
use Rattle.table_laws.proofs.Sets.{other_by}

-- who holds a box, by its path

root_path : (n : Name) (bs : Boxes) → IsIn n (box_names bs) → StandsAt n [] bs
root_path n no_boxes i = absurd i
root_path n (box b gs bs) (inl e) = inl (e, refl)
root_path n (box b gs bs) (inr i) = inr (inr (root_path n bs i))

held_path : (n g : Name) (o : Operator) (alternatives : Boxes) (gs : Goals) → held_in g gs ≡ Some (a_choice o alternatives) → IsIn n (box_names alternatives) → StandsInside n (g ∷ []) gs
held_path n g o alternatives no_goals e i = cc
held_path n g o alternatives (atom h a gs) e i = on (same_name g h) e (λ q. held_path n g o alternatives gs q i)
  where
    on : (t : Bool) → (if t then Some (an_atom a) else held_in g gs) ≡ Some (a_choice o alternatives) → (held_in g gs ≡ Some (a_choice o alternatives) → StandsInside n (g ∷ []) gs) → StandsInside n (g ∷ []) (atom h a gs)
    on true q f = cc
    on false q f = inr (f q)
held_path n g o alternatives (choice h k bs gs) e i = on (same_name g h) refl e (λ q. held_path n g o alternatives gs q i)
  where
    on : (t : Bool) → same_name g h ≡ t → (if t then Some (a_choice k bs) else held_in g gs) ≡ Some (a_choice o alternatives) → (held_in g gs ≡ Some (a_choice o alternatives) → StandsInside n (g ∷ []) gs)
        → StandsInside n (g ∷ []) (choice h k bs gs)
    on true r q f = let s : alternatives ≡ bs = cc in inr (inl ([], ap (λ (x : Name). x ∷ []) (same_name-equal g h r), subst (StandsAt n []) s (root_path n alternatives i)))
    on false r q f = inr (inr (f q))

-- a path that ends in a choice
abbrev EndsIn : Name → Name → Boxes → Type 0
EndsIn n g bs = (path : List Name) × StandsAt n (path ++ g ∷ []) bs

abbrev EndsInside : Name → Name → Goals → Type 0
EndsInside n g gs = (path : List Name) × StandsInside n (path ++ g ∷ []) gs

module _ (n g : Name) (o : Operator) (alternatives : Boxes) (i : IsIn n (box_names alternatives)) where
  mutual
    ends_in : (r : List Content) (k : Content) (hs : Goals) (bs : Boxes) → BoxIn r k hs bs → held_in g hs ≡ Some (a_choice o alternatives) → EndsIn n g bs
    ends_in r k hs no_boxes x e = absurd x
    ends_in r k hs (box b gs bs) (inl q) e = (b.name ∷ [], inr (inl (g ∷ [], refl, held_path n g o alternatives gs (subst (λ (js : Goals). held_in g js ≡ Some (a_choice o alternatives)) q.2 e) i)))
    ends_in r k hs (box b gs bs) (inr (inl (rest, p, x))) e = let w : EndsInside n g gs = ends_inside rest k hs gs x e in (b.name ∷ w.0, inr (inl (w.0 ++ g ∷ [], refl, w.1)))
    ends_in r k hs (box b gs bs) (inr (inr x)) e = let w : EndsIn n g bs = ends_in r k hs bs x e in (w.0, inr (inr w.1))

    ends_inside : (r : List Content) (k : Content) (hs gs : Goals) → InGoals r k hs gs → held_in g hs ≡ Some (a_choice o alternatives) → EndsInside n g gs
    ends_inside r k hs no_goals x e = absurd x
    ends_inside r k hs (atom h a gs) x e = let w : EndsInside n g gs = ends_inside r k hs gs x e in (w.0, inr w.1)
    ends_inside r k hs (choice h q bs gs) (inl x) e = let w : EndsIn n g bs = ends_in r k hs bs x e in (h ∷ w.0, inr (inl (w.0 ++ g ∷ [], refl, w.1)))
    ends_inside r k hs (choice h q bs gs) (inr x) e = let w : EndsInside n g gs = ends_inside r k hs gs x e in (w.0, inr (inr w.1))

no_end : (path : List Name) (g : Name) → [] ≡ path ++ g ∷ [] → ⊥
no_end [] g e = cc
no_end (m ∷ path) g e = cc

one_end : (v w : List Name) (g h : Name) → v ++ g ∷ [] ≡ w ++ h ∷ [] → g ≡ h
one_end [] [] g h e = cc
one_end [] (m ∷ w) g h e = let r : [] ≡ w ++ h ∷ [] = cc in absurd (no_end w h r)
one_end (m ∷ v) [] g h e = let r : [] ≡ v ++ g ∷ [] = cc in absurd (no_end v g r)
one_end (m ∷ v) (k ∷ w) g h e = let r : v ++ g ∷ [] ≡ w ++ h ∷ [] = cc in one_end v w g h r

-- what holds a box: nothing, and its path is empty, or a choice, in which its path ends
abbrev Holds : Name → Boxes → Type 0
Holds n bs = ((holder_in n bs ≡ None) × StandsAt n [] bs) ⊎ ((g : Name) × (holder_in n bs ≡ Some g) × EndsIn n g bs)

holds : (bs : Boxes) → ((m : Name) → times m bs ≤ 1) → (n : Name) (f : Found) → box_at n bs ≡ Some f → Holds n bs
holds bs once n f e = elim (held_or bs once n f e) [
  | inl r ↦ inl (r.1, root_path n bs (root_named bs once n f e r.0))
  | inr w ↦
      let h : IsHeldBy n w.0 f bs = w.2 in
      let x : Stands h.home bs = (home_in w.0 bs h.home h.is_home).0 in
      inr (w.0, w.1, ends_in n w.0 h.op h.alternatives h.among h.home.around h.home.content h.home.goals bs x h.held)
]

-- the choice that holds a box never changes
pub holder_stays : (rules : List Rule) (p : Program) (q : Query) (journal : List Label) (c : Config) (l : Label) (d : Config) → Replays rules p q journal c → Applies rules p c l d
    → (n : Name) (e f : Found) → box_at n c.roots ≡ Some e → box_at n d.roots ≡ Some f → holder_in n c.roots ≡ holder_in n d.roots
holder_stays rules p q journal c l d r a n e f i j = on (holds c.roots s.once n e i) (holds d.roots t.once n f j)
  where
    s : Stand c
    s = replay-stands rules p q journal c r

    t : Stand d
    t = stands_after rules p c l d s a

    same : (v w : List Name) → StandsAt n v c.roots → StandsAt n w d.roots → v ≡ w
    same v w x y = stays rules p q journal c l d r a n v w x y

    on : Holds n c.roots → Holds n d.roots → holder_in n c.roots ≡ holder_in n d.roots
    on (inl x) (inl y) = x.0 ∙ sym y.0
    on (inl x) (inr y) = absurd (no_end y.2.0 y.0 (same [] (y.2.0 ++ y.0 ∷ []) x.1 y.2.1))
    on (inr x) (inl y) = absurd (no_end x.2.0 x.0 (sym (same (x.2.0 ++ x.0 ∷ []) [] x.2.1 y.1)))
    on (inr x) (inr y) = x.1 ∙ ap Some (one_end x.2.0 y.2.0 x.0 y.0 (same (x.2.0 ++ x.0 ∷ []) (y.2.0 ++ y.0 ∷ []) x.2.1 y.2.1)) ∙ sym y.1

-- the box of the place stays around another one
pub record IsUnder (w next : ℕ) (s : Found) (c : Change) (e f : Found) : Type 0 where
  pub becomes : Becomes w next s c
  pub rest : List Content
  pub was : e.around ≡ s.around ++ s.content ∷ rest
  pub is : f.around ≡ s.around ++ becomes.content ∷ rest

pub named_path : (s : Name) (r : List Content) → times_path s r ≡ 0 → IsIn s (map (λ (b : Content). b.name) r) → ⊥
named_path s [] z i = i
named_path s (b ∷ r) z (inl e) = let u : one_if (same_name s b.name) ≡ 1 = ap one_if (subst (λ (k : Name). same_name s k ≡ true) e (same_name-refl s)) in omega arith
named_path s (b ∷ r) z (inr i) = named_path s r (omega arith) i

pub not_among : (s : Name) (new : Boxes) (r : List Content) → (IsIn s (map (λ (b : Content). b.name) r) → ⊥) → NotNamed s new r
not_among s new [] h = tt
not_among s new (b ∷ r) h = (other_by s b.name (λ e. h (inl e)), not_among s new r (λ i. h (inr i)))

-- one label
module _ (rules : List Rule) (p : Program) (c : Config) (l : Label) (d : Config) (s : Stand c) (m : Applies rules p c l d) where
  t : Stand d
  t = stands_after rules p c l d s m

  -- no box is around itself
  pub site_apart : IsIn m.site.content.name (names_around m.site) → ⊥
  site_apart = named_path m.site.content.name m.site.around (
      let a : times m.site.content.name (box m.site.content m.site.goals no_boxes) + times_path m.site.content.name m.site.around ≤ times m.site.content.name c.roots =
      in_counted m.site.content.name m.site.around m.site.content m.site.goals c.roots (site_stands rules p c l d s m) in
      let o : times m.site.content.name c.roots ≤ 1 = s.once m.site.content.name in
      let u : one_if (same_name m.site.content.name m.site.content.name) ≡ 1 = ap one_if (same_name-refl m.site.content.name) in
      omega arith)

  -- a box that the box of the place is around before, it is around afterwards
  pub under_was : (e : Found) → Stands e c.roots → IsIn m.site.content.name (names_around e) → (rest : List Content) × (e.around ≡ m.site.around ++ m.site.content ∷ rest) × InGoals rest e.content e.goals m.site.goals
  under_was e x i =
      let o : Over m.site.content.name e c.roots = over m.site.content.name e c.roots x i in
      let q : o.outer ≡ m.site = one_box c.roots s.once o.outer m.site o.stands (site_stands rules p c l d s m) (sym o.named) in
      (o.rest, subst (λ (k : Found). e.around ≡ k.around ++ k.content ∷ o.rest) q o.path, subst (λ (k : Found). InGoals o.rest e.content e.goals k.goals) q o.inside)

  under_is : (f : Found) → Stands f d.roots → IsIn m.site.content.name (names_around f) → (b : Becomes l.worker (slice_index c.next l.worker) m.site m.change) × ((rest : List Content) × (f.around ≡ m.site.around ++ b.content ∷ rest))
  under_is f y i = elim (made rules p c l d s m) [
    | inl z ↦ (
        let e : box_at m.site.content.name d.roots ≡ Some o.outer = named_found d.roots t.once m.site.content.name o.outer o.stands o.named in
        let n : box_at m.site.content.name d.roots ≡ None = site_gone rules p c l d s m z.1 in
        absurd cc)
    | inr z ↦ (
      z.0,
      (
        o.rest,
        subst (λ (k : Found). f.around ≡ k.around ++ k.content ∷ o.rest)
            (one_box d.roots t.once o.outer (site_now z.0) o.stands (found_in m.site.content.name d.roots (site_now z.0) (site_there rules p c l d s m z.0)) (sym o.named ∙ sym z.0.keeps.name)) o.path,
      ),
    )
  ]
    where
      o : Over m.site.content.name f d.roots
      o = over m.site.content.name f d.roots y i

  abbrev pub Under : Found → Found → Type 0
  Under e f = IsUnder l.worker (slice_index c.next l.worker) m.site m.change e f

  -- a box other than that of the place stands where it stood: under the same boxes, or in that of the place
  pub along : (e f : Found) → Stands e c.roots → Stands f d.roots → e.content.name ≡ f.content.name → same_name m.site.content.name e.content.name ≡ false
      → ((IsIn m.site.content.name (names_around e) → ⊥) × (e.around ≡ f.around)) ⊎ Under e f
  along e f x y q apart = on (moved rules p c l d s m e f x y q)
    where
      on : Moved l.worker (slice_index c.next l.worker) m.site m.change e f → ((IsIn m.site.content.name (names_around e) → ⊥) × (e.around ≡ f.around)) ⊎ Under e f
      on (aside a) = elim (in_or m.site.content.name (names_around e)) [
        | inr none ↦ inl (none, sym a.around)
        | inl i ↦
            let w : (rest : List Content) × (e.around ≡ m.site.around ++ m.site.content ∷ rest) × InGoals rest e.content e.goals m.site.goals = under_was e x i in
            let v : (b : Becomes l.worker (slice_index c.next l.worker) m.site m.change) × ((rest : List Content) × (f.around ≡ m.site.around ++ b.content ∷ rest)) =
            under_is f y (subst (λ (r : List Content). IsIn m.site.content.name (map (λ (b : Content). b.name) r)) (sym a.around) i) in
            let u : v.0.content ∷ v.1.0 ≡ m.site.content ∷ w.0 = append_cancel_left m.site.around (v.0.content ∷ v.1.0) (m.site.content ∷ w.0) (sym v.1.1 ∙ a.around ∙ w.1) in
            let z : v.1.0 ≡ w.0 = cc in
            inr (record { becomes = v.0; rest = w.0; was = w.1; is = subst (λ (r : List Content). f.around ≡ m.site.around ++ v.0.content ∷ r) z v.1.1 })
      ]
      on (at_site b u v) = let k : same_name m.site.content.name e.content.name ≡ true = subst (λ (k : Found). same_name m.site.content.name k.content.name ≡ true) (sym u) (same_name-refl m.site.content.name) in absurd cc
      on (inside b j i k u v) = inr (record { becomes = b; rest = j.around; was = ap (λ (k : Found). k.around) u; is = ap (λ (k : Found). k.around) v })

  -- a box that isn't in the box of the place stays
  pub stays_out : (n : Name) (e : Found) → box_at n c.roots ≡ Some e → same_name m.site.content.name n ≡ false → (IsIn m.site.content.name (names_around e) → ⊥)
      → (f : Found) × (box_at n d.roots ≡ Some f)
  stays_out n e i apart h =
      let q : n ≡ e.content.name = box-itself n c.roots e i in
      let f : Found = record { around = e.around; content = e.content; goals = edited_inside m.site.content.name m.change.boxes e.goals } in
      let x : Stands f d.roots = subst (λ (k : Config). Stands f k.roots) m.result (edit_out m.site.content.name m.change.boxes c.roots e.around e.content e.goals (found_in n c.roots e i)
      (subst (λ (k : Name). same_name m.site.content.name k ≡ false) q apart) (not_among m.site.content.name m.change.boxes e.around h)) in
      (f, named_found d.roots t.once n f x q)

  -- and one in it stays where it stands in its new goals
  pub stays_in : (b : Becomes l.worker (slice_index c.next l.worker) m.site m.change) (n : Name) (rest : List Content) (k : Content) (hs : Goals) → n ≡ k.name → InGoals rest k hs b.goals
      → box_at n d.roots ≡ Some (record { around = m.site.around ++ b.content ∷ rest; content = k; goals = hs })
  stays_in b n rest k hs q x = named_found d.roots t.once n (record { around = m.site.around ++ b.content ∷ rest; content = k; goals = hs }) stands q
    where
      first : BoxIn (b.content ∷ rest) k hs m.change.boxes
      first = subst (BoxIn (b.content ∷ rest) k hs) (sym b.is_change) (inr (inl (rest, refl, x)))

      stands : BoxIn (m.site.around ++ b.content ∷ rest) k hs d.roots
      stands = subst (λ (y : Config). BoxIn (m.site.around ++ b.content ∷ rest) k hs y.roots) m.result
          (edit_new m.site.content.name m.change.boxes (b.content ∷ rest) k hs first c.roots m.site.around m.site.content m.site.goals (site_stands rules p c l d s m) (same_name-refl m.site.content.name)
          (not_among m.site.content.name m.change.boxes m.site.around site_apart))

  -- a box stays, where it stays in the box of the place if it is in it
  pub stays_where : (b : Becomes l.worker (slice_index c.next l.worker) m.site m.change) (n : Name) (e : Found) → box_at n c.roots ≡ Some e
      → ((rest : List Content) → InGoals rest e.content e.goals m.site.goals → InGoals rest e.content e.goals b.goals) → (f : Found) × (box_at n d.roots ≡ Some f)
  stays_where b n e i h = on (same_name m.site.content.name n) refl
    where
      on : (u : Bool) → same_name m.site.content.name n ≡ u → (f : Found) × (box_at n d.roots ≡ Some f)
      on true q = (site_now b, subst (λ (k : Name). box_at k d.roots ≡ Some (site_now b)) (same_name-equal m.site.content.name n q) (site_there rules p c l d s m b))
      on false q = elim (in_or m.site.content.name (names_around e)) [
        | inr none ↦ stays_out n e i q none
        | inl y ↦
            let w : (rest : List Content) × (e.around ≡ m.site.around ++ m.site.content ∷ rest) × InGoals rest e.content e.goals m.site.goals = under_was e (found_in n c.roots e i) y in
            (record { around = m.site.around ++ b.content ∷ w.0; content = e.content; goals = e.goals }, stays_in b n w.0 e.content e.goals (box-itself n c.roots e i) (h w.0 w.2))
      ]

  -- where what stands in the box stays in it, each box stays
  pub all_stay : (b : Becomes l.worker (slice_index c.next l.worker) m.site m.change) → ((rest : List Content) (k : Content) (hs : Goals) → InGoals rest k hs m.site.goals → InGoals rest k hs b.goals)
      → (n : Name) (e : Found) → box_at n c.roots ≡ Some e → (f : Found) × (box_at n d.roots ≡ Some f)
  all_stay b h n e i = stays_where b n e i (λ rest x. h rest e.content e.goals x)

  -- a box around one that is there is there, before and afterwards
  pub around_there : (e f : Found) → Stands e c.roots → Stands f d.roots → names_around e ≡ names_around f → (n : Name) → IsIn n (names_around e) → ((x : Found) × (box_at n c.roots ≡ Some x)) × ((y : Found) × (box_at n d.roots ≡ Some y))
  around_there e f x y q n i =
      let o : Over n e c.roots = over n e c.roots x i in
      let v : Over n f d.roots = over n f d.roots y (subst (IsIn n) q i) in
      ((o.outer, named_found c.roots s.once n o.outer o.stands o.named), (v.outer, named_found d.roots t.once n v.outer v.stands v.named))

  -- a box that isn't replaced leaves the list of root boxes

  replaced_roots : (i : Item) → i ≡ Item.Roots → MayChange m i → IsReplaced m
  replaced_roots i e (store) = cc
  replaced_roots i e (goals) = cc
  replaced_roots i e (may.goal x) = cc
  replaced_roots i e (store_gone x y) = cc
  replaced_roots i e (goals_gone x y) = cc
  replaced_roots i e (goal_gone x y) = cc
  replaced_roots i e (store_new x y) = cc
  replaced_roots i e (goals_new x y) = cc
  replaced_roots i e (goal_new x y) = cc
  replaced_roots i e (holder r x y z) = r
  replaced_roots i e (roots r x) = r
  replaced_roots i e (binding x) = cc

  pub same_roots : (IsReplaced m → ⊥) → box_names c.roots ≡ box_names d.roots
  same_roots not = not_not (names_or (box_names c.roots) (box_names d.roots)) (λ h. not (replaced_roots Item.Roots refl (items rules p c l d s m Item.Roots h)))

  -- where no name is drawn, each next number stays
  pub same_next : m.change.drawn ≡ 0 → (w : ℕ) → slice_index c.next w ≡ slice_index d.next w
  same_next none w = on (nat_or w l.worker)
    where
      own : slice_index d.next l.worker ≡ slice_index c.next l.worker + m.change.drawn
      own = next_own rules p c l d m

      on : Either (w ≡ l.worker) → slice_index c.next w ≡ slice_index d.next w
      on (inl e) = ap (slice_index c.next) e ∙ (let z : slice_index c.next l.worker ≡ slice_index d.next l.worker = omega (arith, none, own) in z) ∙ ap (slice_index d.next) (sym e)
      on (inr h) = sym (next_other rules p c l d m w h)

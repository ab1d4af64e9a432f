-- What stands where a choice has lost alternatives, and perhaps a copy has come after its box.
use Rattle.std.proofs.Common.{◌≡◌, ◌≤◌, List, [], ◌∷◌, ◌++◌, map, Bool, true, false, Some, None, refl, sym, ◌∙◌, ap, subst, ◌⊎◌, inl, inr, arith}
use Rattle.std.specs.Prelude.{slice_index}
use Rattle.akl_terms.specs.declared.name.Name.{Name}
use Rattle.akl_model.specs.Config.{Operator}
use Rattle.akl_terms.specs.declared.program.Program.{Program}
use Rattle.akl_terms.specs.declared.program.Query.{Query}
use Rattle.akl_terms.specs.Names.{same_name}
use Rattle.akl_terms.proofs.SameNames.{same_name-equal, same_name-refl}
use Rattle.akl_model.specs.declared.item.Item.{Item}
use Rattle.akl_model.specs.declared.label.Rule.{Rule}
use Rattle.akl_model.specs.declared.label.Label.{Label}
use Rattle.akl_model.specs.Config.{IsIn, Content, Boxes, no_boxes, box, Goals, Config, a_choice, held_in, with_content, Found, box_at, home_of}
use Rattle.akl_model.specs.Rules.{kept_by}
use Rattle.akl_model.specs.Derivations.{Applies, Replays}
use Rattle.akl_model.specs.Changes.{Shape, shape_of, shape_at, box_names, goal_names}
use Rattle.akl_model.specs.Wakes.{names_around, names_down_to, holder_in}
use Rattle.akl_model.specs.Names.{times_in}
use Rattle.akl_model.proofs.Options.{none_where, some_value}
use Rattle.akl_model.proofs.Finds.{times, times_inside, box_at-none}
use Rattle.akl_model.proofs.Drawn.{drawn_times, drawn_once}
use Rattle.akl_model.proofs.Scoped.{IsIn-right, IsIn-either}
use Rattle.akl_model.proofs.NamesKept.{Stand, replay-stands, stands_after, box-itself, home-box}
use Rattle.step_laws.specs.Whereabouts.{BoxIn, InGoals, Stands}
use Rattle.step_laws.specs.ChangedItems.{goal_of, IsReplaced, MayChange, store, goals, store_gone, goals_gone, goal_gone, store_new, goals_new, goal_new, holder, roots, binding}
use Rattle.step_laws.specs.ChangedItems as may
use Rattle.step_laws.specs.Holders.{IsHeldBy, IsAlternativeAt}
use Rattle.step_laws.specs.Likeness.{IsLike}
use Rattle.step_laws.proofs.Whereabouts.{found_in, home_in, in_named}
use Rattle.step_laws.proofs.Deeper.{Over, over, in_deeper, one_box, named_found, home_found}
use Rattle.step_laws.proofs.Decide.{in_or, option_or, shape_or, not_not}
use Rattle.step_laws.proofs.Edits.{AfterEdit, outside, replaced, edit_new}
use Rattle.step_laws.proofs.GoalEdits.{HasGoal, has_names, held_inside, with_content_in, with_content_here, with_content_other, kept_in}
use Rattle.step_laws.proofs.Becomes.{Becomes, BecomesAt, Fate, goes, changes}
use Rattle.step_laws.proofs.Steps.{after_edit, made, site_now, site_stands, site_there, found, not_old, old_goal, later_step}
use Rattle.step_laws.proofs.Stays.{like_box, like_home}
use Rattle.step_laws.proofs.Holders.{alternative_at, held_around, names_less, choice_less}
use Rattle.step_laws.proofs.ChangedItems.{frame_names, items}
use Rattle.table_laws.specs.Writes.{names_cut}
use Rattle.table_laws.proofs.Along.{not_among, site_apart, holder_stays, under_was, stays_out, stays_in}
use Rattle.table_laws.proofs.Frame.{names_split}
use Rattle.table_laws.proofs.Gone.{goals_once}
use Rattle.table_laws.proofs.Fresh.{drawn_nowhere}
use Rattle.table_laws.proofs.Forking.{same_goal_names}
use Rattle.table_laws.proofs.Kept.{cut_named, kept_apart, kept_names, IsUnderOne, kept_inside}

module _ (rules : List Rule) (p : Program) (q : Query) (journal : List Label) (c : Config) (l : Label) (d : Config) (replays : Replays rules p q journal c) (m : Applies rules p c l d) (g n : Name) (v o : Operator)
    (bs copy : Boxes) (at_goal : goal_of l.place l.alternative m.site ≡ Some g) (held : held_in g m.site.goals ≡ Some (a_choice v bs))
    (is_change : m.change.boxes ≡ box m.site.content (with_content g (a_choice v (kept_by o n bs)) m.site.goals) copy) where
  s : Stand c
  s = replay-stands rules p q journal c replays

  t : Stand d
  t = stands_after rules p c l d s m

  pub home_was : home_of g c.roots ≡ Some m.site
  home_was = home_found c.roots s.once g m.site.content.name m.site (a_choice v bs) (found rules p c l d s m) held

  -- what becomes of the box

  at_place : BecomesAt l.worker (slice_index c.next l.worker) l.place l.alternative m.site m.change
  at_place = elim (made rules p c l d s m) [ inl z ↦ (let e : no_boxes ≡ box m.site.content (with_content g (a_choice v (kept_by o n bs)) m.site.goals) copy = sym z.1 ∙ is_change in absurd (not_none e)) | inr z ↦ z ]
    where
      not_none : {b : Content} {gs : Goals} {cs : Boxes} → no_boxes ≡ box b gs cs → ⊥
      not_none e = cc

  pub cuts_to : Becomes l.worker (slice_index c.next l.worker) m.site m.change
  cuts_to = at_place.0

  is_it : cuts_to.goal ≡ g
  unfolding cuts_to
  is_it = some_value (sym at_place.1 ∙ at_goal)

  same_box : box cuts_to.content cuts_to.goals cuts_to.rest ≡ box m.site.content (with_content g (a_choice v (kept_by o n bs)) m.site.goals) copy
  same_box = sym cuts_to.is_change ∙ is_change

  pub content_now : cuts_to.content ≡ m.site.content
  content_now = let e : box cuts_to.content cuts_to.goals cuts_to.rest ≡ box m.site.content (with_content g (a_choice v (kept_by o n bs)) m.site.goals) copy = same_box in cc

  pub copy_now : cuts_to.rest ≡ copy
  copy_now = let e : box cuts_to.content cuts_to.goals cuts_to.rest ≡ box m.site.content (with_content g (a_choice v (kept_by o n bs)) m.site.goals) copy = same_box in cc

  pub goals_now : cuts_to.goals ≡ with_content g (a_choice v (kept_by o n bs)) m.site.goals
  goals_now = let e : box cuts_to.content cuts_to.goals cuts_to.rest ≡ box m.site.content (with_content g (a_choice v (kept_by o n bs)) m.site.goals) copy = same_box in cc

  pub held_now : held_in g cuts_to.goals ≡ Some (a_choice v (kept_by o n bs))
  held_now = ap (held_in g) goals_now ∙ with_content_here g (a_choice v (kept_by o n bs)) (a_choice v bs) m.site.goals held

  pub others_now : (i : Name) → same_name i g ≡ false → held_in i cuts_to.goals ≡ held_in i m.site.goals
  others_now i e = ap (held_in i) goals_now ∙ with_content_other g i (a_choice v (kept_by o n bs)) m.site.goals e

  pub names_now : goal_names cuts_to.goals ≡ goal_names m.site.goals
  names_now = ap goal_names goals_now ∙ same_goal_names g (a_choice v (kept_by o n bs)) m.site.goals

  pub now_there : box_at m.site.content.name d.roots ≡ Some (site_now cuts_to)
  now_there = site_there rules p c l d s m cuts_to

  pub home_now : home_of g d.roots ≡ Some (site_now cuts_to)
  home_now = home_found d.roots t.once g m.site.content.name (site_now cuts_to) (a_choice v (kept_by o n bs)) now_there held_now

  pub not_replaced : copy ≡ no_boxes → IsReplaced m → ⊥
  not_replaced e r = r.not_one (ap box_names is_change ∙ ap (λ (k : Boxes). m.site.content.name ∷ box_names k) e)

  -- the choice has another shape
  pub differs : shape_of (a_choice v bs) ≡ shape_of (a_choice v (kept_by o n bs)) → ⊥
  differs e = by cuts_to.fate
    where
      held_it : held_in cuts_to.goal cuts_to.goals ≡ Some (a_choice v (kept_by o n bs))
      held_it = ap (λ (i : Name). held_in i cuts_to.goals) is_it ∙ held_now

      was_it : cuts_to.was ≡ a_choice v bs
      was_it = some_value (sym cuts_to.is_goal ∙ ap (λ (i : Name). held_in i m.site.goals) is_it ∙ held)

      by : Fate l.worker (slice_index c.next l.worker) m.change.drawn m.site cuts_to.content cuts_to.goal cuts_to.was cuts_to.goals → ⊥
      by (goes (inl x)) = absurd (not_old rules p c l d s m cuts_to.goal x (old_goal c s cuts_to.goal m.site (site_stands rules p c l d s m) (cuts_to.was, cuts_to.is_goal)))
      by (goes (inr x)) = let y : held_in cuts_to.goal cuts_to.goals ≡ Some (a_choice v (kept_by o n bs)) = held_it in absurd cc
      by (changes now x differ same) =
          let is_now : now ≡ a_choice v (kept_by o n bs) = some_value (sym x ∙ held_it) in
          differ (ap shape_of is_now ∙ sym e ∙ ap shape_of (sym was_it))

  -- the copy is new

  pub copy_drawn : (k : Name) → times k copy ≤ drawn_times k l.worker (slice_index c.next l.worker) m.change.drawn
  copy_drawn k = subst (λ (cs : Boxes). times k cs ≤ drawn_times k l.worker (slice_index c.next l.worker) m.change.drawn) copy_now (cuts_to.copied k)

  pub copy_once : (k : Name) → times k copy ≤ 1
  copy_once k =
      let a : times k copy ≤ drawn_times k l.worker (slice_index c.next l.worker) m.change.drawn = copy_drawn k in
      let o : drawn_times k l.worker (slice_index c.next l.worker) m.change.drawn ≤ 1 = drawn_once k l.worker (slice_index c.next l.worker) m.change.drawn in
      omega arith

  pub copy_nowhere : (k : Name) → 1 ≤ times k copy → times k c.roots ≡ 0
  copy_nowhere k h = let a : times k copy ≤ drawn_times k l.worker (slice_index c.next l.worker) m.change.drawn = copy_drawn k in drawn_nowhere c l.worker m.change.drawn k s (omega (arith, a, h))

  pub copy_stands : (r : List Content) (k : Content) (hs : Goals) → BoxIn r k hs copy → BoxIn (m.site.around ++ r) k hs d.roots
  copy_stands r k hs x = subst (λ (y : Config). BoxIn (m.site.around ++ r) k hs y.roots) m.result
      (edit_new m.site.content.name m.change.boxes r k hs (subst (BoxIn r k hs) (sym is_change) (inr (inr x))) c.roots m.site.around m.site.content m.site.goals (site_stands rules p c l d s m)
      (same_name-refl m.site.content.name) (not_among m.site.content.name m.change.boxes m.site.around (site_apart rules p c l d s m)))

  -- a box stands in the copy
  pub record IsCopied (f : Found) : Type 0 where
    pub rest : List Content
    pub path : f.around ≡ m.site.around ++ rest
    pub stands : BoxIn rest f.content f.goals copy

  pub not_copied : (k : Name) (e f : Found) → box_at k c.roots ≡ Some e → k ≡ f.content.name → IsCopied f → ⊥
  not_copied k e f i q x =
      let a : 1 ≤ times k copy = subst (λ (z : Name). 1 ≤ times z copy) (sym q) (in_named copy (record { around = x.rest; content = f.content; goals = f.goals }) x.stands) in
      let z : box_at k c.roots ≡ None = box_at-none k c.roots (copy_nowhere k a) in
      cc

  -- each box was there, or stands in the copy

  came : (f : Found) → Stands f d.roots → ((e : Found) × Stands e c.roots × (e.content.name ≡ f.content.name)) ⊎ IsCopied f
  came f x = on (after_edit rules p c l d s m f x)
    where
      Result : Type 0
      Result = ((e : Found) × Stands e c.roots × (e.content.name ≡ f.content.name)) ⊎ IsCopied f

      inner : (r : List Content) → InGoals r f.content f.goals m.site.goals → Result
      inner r y = inl (
        record { around = m.site.around ++ m.site.content ∷ r; content = f.content; goals = f.goals },
        in_deeper m.site.around m.site.content m.site.goals r f.content f.goals c.roots (site_stands rules p c l d s m) y,
        refl,
      )

      new : (a r : List Content) → a ≡ m.site.around → f.around ≡ a ++ r → BoxIn r f.content f.goals (box m.site.content (with_content g (a_choice v (kept_by o n bs)) m.site.goals) copy) → Result
      new a r u w (inl e) = inl (m.site, site_stands rules p c l d s m, ap (λ (k : Content). k.name) (sym e.1))
      new a r u w (inr (inl y)) = elim (with_content_in g (a_choice v (kept_by o n bs)) y.0 f.content f.goals m.site.goals y.2) [
        | inl z ↦ inner y.0 (held_inside g v bs y.0 f.content f.goals m.site.goals held (kept_in o n y.0 f.content f.goals bs z))
        | inr z ↦ inner y.0 z
      ]
      new a r u w (inr (inr y)) = inr (record { rest = r; path = w ∙ ap (λ (k : List Content). k ++ r) u; stands = y })

      on : AfterEdit m.site.content.name m.change.boxes (λ a b gs. BoxIn a b gs c.roots) f.around f.content f.goals → Result
      on (outside gs y k e) = inl (record f { goals = gs }, y, refl)
      on (replaced a b gs rest y k e z) = new a rest
          (ap (λ (h : Found). h.around) (one_box c.roots s.once (record { around = a; content = b; goals = gs }) m.site y (site_stands rules p c l d s m) (sym (same_name-equal m.site.content.name b.name k))))
          e (subst (BoxIn rest f.content f.goals) is_change z)

  pub was_there : (k : Name) (f : Found) → box_at k d.roots ≡ Some f → ((e : Found) × (box_at k c.roots ≡ Some e)) ⊎ IsCopied f
  was_there k f j = elim (came f (found_in k d.roots f j)) [
    | inl w ↦ inl (w.0, named_found c.roots s.once k w.0 w.1 (box-itself k d.roots f j ∙ sym w.2))
    | inr x ↦ inr x
  ]

  -- with goals of the same names
  same_names : (k : Name) (e f : Found) → box_at k c.roots ≡ Some e → box_at k d.roots ≡ Some f → goal_names e.goals ≡ goal_names f.goals
  same_names k e f i j = on (same_name m.site.content.name e.content.name) refl
    where
      name : e.content.name ≡ f.content.name
      name = sym (box-itself k c.roots e i) ∙ box-itself k d.roots f j

      on : (v : Bool) → same_name m.site.content.name e.content.name ≡ v → goal_names e.goals ≡ goal_names f.goals
      on false z = frame_names rules p c l d s m e f (found_in k c.roots e i) (found_in k d.roots f j) name z
      on true z =
          let u : m.site.content.name ≡ e.content.name = same_name-equal m.site.content.name e.content.name z in
          let x : m.site ≡ e = one_box c.roots s.once m.site e (site_stands rules p c l d s m) (found_in k c.roots e i) u in
          let y : site_now cuts_to ≡ f = one_box d.roots t.once (site_now cuts_to) f (found_in m.site.content.name d.roots (site_now cuts_to) now_there) (found_in k d.roots f j)
          (ap (λ (v : Content). v.name) content_now ∙ u ∙ name) in
          ap (λ (v : Found). goal_names v.goals) (sym x) ∙ sym names_now ∙ ap (λ (v : Found). goal_names v.goals) y

  -- the alternatives that go

  abbrev pub Goes : Name → Type 0
  Goes k = IsIn k (names_cut o n (box_names bs))

  pub alternative : (k : Name) → Goes k → IsAlternativeAt k g m.site c.roots
  alternative k i = alternative_at c.roots s.once k g m.site v bs home_was held (cut_named o n k (box_names bs) i)

  few : (k : Name) → times_in k (box_names bs) ≤ 1
  few k =
      let a : times_in k (box_names bs) ≤ times k bs = names_less k bs in
      let b : times k bs ≤ times_inside k m.site.goals = choice_less k g v bs m.site.goals held in
      let e : times_inside k m.site.goals ≤ 1 = goals_once c.roots s.once m.site (site_stands rules p c l d s m) k in
      omega arith

  alternative_gone : (k : Name) → Goes k → box_at k d.roots ≡ None
  alternative_gone k i = none_where (box_at k d.roots) (λ f j. gone f j (alternative k i))
    where
      gone : (f : Found) → box_at k d.roots ≡ Some f → IsAlternativeAt k g m.site c.roots → ⊥
      gone f j w =
          let h : holder_in k d.roots ≡ Some g = sym (holder_stays rules p q journal c l d replays m k w.found f w.is_found j) ∙ w.holder in
          let x : IsHeldBy k g f d.roots = held_around d.roots t.once k g f j h in
          let home : x.home ≡ site_now cuts_to = some_value (sym x.is_home ∙ home_now) in
          let both : a_choice x.op x.alternatives ≡ a_choice v (kept_by o n bs) = some_value (sym x.held ∙ ap (λ (v : Found). held_in g v.goals) home ∙ held_now) in
          let boxes : x.alternatives ≡ kept_by o n bs = cc in
          kept_apart o n k (box_names bs) (few k) (subst (IsIn k) (ap box_names boxes ∙ kept_names o n bs) x.among) i

  -- a box that is down to one that is there is there
  down_there : (k : Name) (f : Found) → Stands f d.roots → IsIn k (names_down_to f) → (e : Found) × (box_at k d.roots ≡ Some e)
  down_there k f y i = elim (IsIn-either k (names_around f) (f.content.name ∷ []) i) [
    | inl j ↦ (let v : Over k f d.roots = over k f d.roots y j in (v.outer, named_found d.roots t.once k v.outer v.stands v.named))
    | inr j ↦ elim j [ inl e ↦ (f, named_found d.roots t.once k f y e) | inr z ↦ absurd z ]
  ]

  -- so a box that stays is in none of them
  pub apart : (k : Name) (e f : Found) → box_at k c.roots ≡ Some e → box_at k d.roots ≡ Some f → (i : Name) → Goes i → IsIn i (names_down_to e) → ⊥
  apart k e f x y i z down =
      let name : e.content.name ≡ f.content.name = sym (box-itself k c.roots e x) ∙ box-itself k d.roots f y in
      let stands : Stands f d.roots = found_in k d.roots f y in
      let like : IsLike e f = like_box c d s t (later_step rules p c l d s m) e f (found_in k c.roots e x) stands name in
      let same : names_down_to e ≡ names_down_to f = λ v. like.around v ++ name v ∷ [] in
      let w : (h : Found) × (box_at i d.roots ≡ Some h) = down_there i f stands (subst (IsIn i) same down) in
      let gone : box_at i d.roots ≡ None = alternative_gone i z in
      let there : box_at i d.roots ≡ Some w.0 = w.1 in
      absurd cc

  -- in an alternative that goes
  pub record IsUnderCut (e : Found) : Type 0 where
    pub one : Name
    pub goes : Goes one
    pub down : IsIn one (names_down_to e)

  -- and one in none of them stays
  pub stays_or : (k : Name) (e : Found) → box_at k c.roots ≡ Some e → ((f : Found) × (box_at k d.roots ≡ Some f)) ⊎ IsUnderCut e
  stays_or k e i = on (same_name m.site.content.name k) refl
    where
      within : (rest : List Content) → e.around ≡ m.site.around ++ m.site.content ∷ rest → InGoals rest e.content e.goals (with_content g (a_choice v (kept_by o n bs)) m.site.goals) ⊎ IsUnderOne (names_cut o n (box_names bs)) rest e.content
          → ((f : Found) × (box_at k d.roots ≡ Some f)) ⊎ IsUnderCut e
      within rest a (inl x) = inl (
        record { around = m.site.around ++ cuts_to.content ∷ rest; content = e.content; goals = e.goals },
        stays_in rules p c l d s m cuts_to k rest e.content e.goals (box-itself k c.roots e i) (subst (InGoals rest e.content e.goals) (sym goals_now) x),
      )
      within rest a (inr (one, named, down)) = inr (record {
        one = one;
        goes = named;
        down = subst (IsIn one) (sym (names_split e m.site.around m.site.content rest a))
            (IsIn-right one (map (λ (v : Content). v.name) m.site.around) (m.site.content.name ∷ (map (λ (v : Content). v.name) rest ++ e.content.name ∷ [])) (inr down));
      })

      on : (v : Bool) → same_name m.site.content.name k ≡ v → ((f : Found) × (box_at k d.roots ≡ Some f)) ⊎ IsUnderCut e
      on true z = inl (site_now cuts_to, subst (λ (v : Name). box_at v d.roots ≡ Some (site_now cuts_to)) (same_name-equal m.site.content.name k z) now_there)
      on false z = elim (in_or m.site.content.name (names_around e)) [
        | inr out ↦ inl (stays_out rules p c l d s m k e i z out)
        | inl y ↦
            let w : (rest : List Content) × (e.around ≡ m.site.around ++ m.site.content ∷ rest) × InGoals rest e.content e.goals m.site.goals = under_was rules p c l d s m e (found_in k c.roots e i) y in
            within w.0 w.1 (kept_inside g v o n bs w.0 e.content e.goals m.site.goals held w.2)
      ]

  -- goals, by their homes

  pub home_or : (i : Name) (e : Found) → home_of i c.roots ≡ Some e → ((f : Found) × (home_of i d.roots ≡ Some f)) ⊎ IsUnderCut e
  home_or i e x = elim (stays_or e.content.name e there) [
    | inr z ↦ inr z
    | inl w ↦
        let h : HasGoal i w.0.goals = has_names i e.goals w.0.goals (same_names e.content.name e w.0 there w.1) (home_in i c.roots e x).1 in
        inl (w.0, home_found d.roots t.once i e.content.name w.0 h.0 w.1 h.1)
  ]
    where
      there : box_at e.content.name c.roots ≡ Some e
      there = home-box i c.roots e s.once x

  pub was_home : (i : Name) (f : Found) → home_of i d.roots ≡ Some f → ((e : Found) × (home_of i c.roots ≡ Some e)) ⊎ IsCopied f
  was_home i f y = elim (was_there f.content.name f there) [
    | inl w ↦
        let h : HasGoal i w.0.goals = has_names i f.goals w.0.goals (sym (same_names f.content.name w.0 f w.1 there)) (home_in i d.roots f y).1 in
        inl (w.0, home_found c.roots s.once i f.content.name w.0 h.0 w.1 h.1)
    | inr x ↦ inr x
  ]
    where
      there : box_at f.content.name d.roots ≡ Some f
      there = home-box i d.roots f t.once y

  pub home_apart : (i : Name) (e f : Found) → home_of i c.roots ≡ Some e → home_of i d.roots ≡ Some f → (k : Name) → Goes k → IsIn k (names_down_to e) → ⊥
  home_apart i e f x y k z down =
      let like : IsLike e f = like_home c d s t (later_step rules p c l d s m) i e f x y in
      apart e.content.name e f (home-box i c.roots e s.once x) (subst (λ (v : Name). box_at v d.roots ≡ Some f) (sym like.name) (home-box i d.roots f t.once y)) k z down

  -- another goal that stays, and doesn't hold the box where that becomes two, isn't changed

  abbrev Unheld : Name → Type 0
  Unheld i = (e : Found) (w : Operator) (cs : Boxes) → IsReplaced m → home_of i c.roots ≡ Some e → held_in i e.goals ≡ Some (a_choice w cs) → IsIn m.site.content.name (box_names cs) → ⊥

  same_goal : (item : Item) (i : Name) (e f : Found) → item ≡ Item.Goal i → same_name i g ≡ false → Unheld i → home_of i c.roots ≡ Some e → home_of i d.roots ≡ Some f → MayChange m item → ⊥
  same_goal item i e f z other h x y (store) = cc
  same_goal item i e f z other h x y (goals) = cc
  same_goal item i e f z other h x y (may.goal {g = j} w) =
      let u : Some g ≡ Some j = sym at_goal ∙ w in
      let k : same_name i g ≡ true = subst (λ (k : Name). same_name i k ≡ true) (let r : i ≡ g = cc in r) (same_name-refl i) in
      cc
  same_goal item i e f z other h x y (store_gone u w) = cc
  same_goal item i e f z other h x y (goals_gone u w) = cc
  same_goal item i e f z other h x y (goal_gone {g = j} u k) = let w : home_of i d.roots ≡ None = let r : j ≡ i = cc in subst (λ (k : Name). home_of k d.roots ≡ None) r k in cc
  same_goal item i e f z other h x y (store_new u w) = cc
  same_goal item i e f z other h x y (goals_new u w) = cc
  same_goal item i e f z other h x y (goal_new {g = j} u k) = let w : home_of i c.roots ≡ None = let r : j ≡ i = cc in subst (λ (k : Name). home_of k c.roots ≡ None) r u in cc
  same_goal item i e f z other h x y (holder {g = j} {e = k} {o = a} {bs = cs} r u b w) =
      let q : j ≡ i = cc in
      h k a cs r (subst (λ (k' : Name). home_of k' c.roots ≡ Some k) q u) (subst (λ (k' : Name). held_in k' k.goals ≡ Some (a_choice a cs)) q b) w
  same_goal item i e f z other h x y (roots r u) = cc
  same_goal item i e f z other h x y (binding u) = cc

  pub same_shape : (i : Name) (e f : Found) → same_name i g ≡ false → Unheld i → home_of i c.roots ≡ Some e → home_of i d.roots ≡ Some f → shape_at i c.roots ≡ shape_at i d.roots
  same_shape i e f other h x y = not_not (option_or Shape shape_or (shape_at i c.roots) (shape_at i d.roots)) (λ differ. same_goal (Item.Goal i) i e f refl other h x y (items rules p c l d s m (Item.Goal i) differ))

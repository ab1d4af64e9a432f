-- What holds a box that becomes two gets the copy after it: a choice, or the list of root boxes.
use Rattle.std.proofs.Common.{◌≡◌, ◌+◌, ◌≤◌, List, [], ◌∷◌, ◌++◌, length, Bool, true, false, Option, Some, None, refl, sym, ◌∙◌, ap, subst, inl, inr, arith}
use Rattle.std.specs.Prelude.{if◌then◌else◌, option_map, slice_index}
use Rattle.akl_terms.specs.declared.name.Name.{Name}
use Rattle.akl_terms.specs.declared.program.Program.{Program}
use Rattle.akl_terms.specs.declared.program.Query.{Query}
use Rattle.akl_terms.specs.Names.{same_name}
use Rattle.akl_terms.proofs.SameNames.{same_name-equal, same_name-refl}
use Rattle.akl_model.specs.declared.label.Rule.{Rule}
use Rattle.akl_model.specs.declared.label.Label.{Label}
use Rattle.akl_model.specs.Config.{IsIn, Boxes, no_boxes, box, Goals, joined_boxes, Config, a_choice, held_in, Found, box_at, home_of, edited, edited_inside}
use Rattle.akl_model.specs.Derivations.{Applies, Replays}
use Rattle.akl_model.specs.Names.{one_if, times_in}
use Rattle.akl_model.specs.Changes.{box_names}
use Rattle.akl_model.specs.Wakes.{names_around, names_down_to, holder_in}
use Rattle.akl_model.proofs.Finds.{times, times_inside}
use Rattle.akl_model.proofs.NamesKept.{Stand, replay-stands, stands_after, box-itself}
use Rattle.akl_model.proofs.Scoped.{IsIn-left, IsIn-right}
use Rattle.akl_model.proofs.ScopesAlong.{counted_in}
use Rattle.step_laws.specs.Whereabouts.{Stands}
use Rattle.step_laws.specs.Holders.{IsHeldBy}
use Rattle.step_laws.proofs.Whereabouts.{found_in, home_in}
use Rattle.step_laws.proofs.Deeper.{named_found, home_found}
use Rattle.step_laws.proofs.Edits.{edit_out, edited_held, held_edited}
use Rattle.step_laws.proofs.Steps.{Moved, aside, at_site, inside, moved}
use Rattle.step_laws.proofs.Holders.{alternative_at, root_box, names_less, choice_less}
use Rattle.table_laws.specs.Unfolds.{FailsBy}
use Rattle.table_laws.specs.Writes.{name_after}
use Rattle.table_laws.proofs.Sets.{other_by, other_name}
use Rattle.table_laws.proofs.Along.{not_among, site_apart}
use Rattle.table_laws.proofs.Gone.{same_names, goals_once, fails_by_kept}

-- names with one more

names_beside : (n copy : Name) (new : Boxes) (bs : Boxes) → box_names new ≡ n ∷ copy ∷ [] → times_in n (box_names bs) ≤ 1 → box_names (edited n new bs) ≡ name_after n copy (box_names bs)
names_beside n copy new no_boxes e once = refl
names_beside n copy new (box b gs bs) e once = on (same_name n b.name) refl (names_beside n copy new bs e (omega arith))
  where
    joined : (cs ds : Boxes) → box_names (joined_boxes cs ds) ≡ box_names cs ++ box_names ds
    joined no_boxes ds = refl
    joined (box k hs cs) ds = ap (λ (ns : List Name). k.name ∷ ns) (joined cs ds)

    on : (t : Bool) → same_name n b.name ≡ t → box_names (edited n new bs) ≡ name_after n copy (box_names bs)
        → box_names (if t then joined_boxes new (edited n new bs) else box b (edited_inside n new gs) (edited n new bs)) ≡ (if t then b.name ∷ copy ∷ box_names bs else b.name ∷ name_after n copy (box_names bs))
    on true q r =
        let u : one_if (same_name n b.name) ≡ 1 = ap one_if q in
        let same : box_names (edited n new bs) ≡ box_names bs = same_names n new bs (λ i. let v : 1 ≤ times_in n (box_names bs) = counted_in n (box_names bs) i in omega (arith, u, v, once)) in
        joined new (edited n new bs) ∙ (λ i. e i ++ same i) ∙ ap (λ (m : Name). m ∷ copy ∷ box_names bs) (same_name-equal n b.name q)
    on false q r = ap (λ (ns : List Name). b.name ∷ ns) r

after_longer : (n copy : Name) (ns : List Name) → IsIn n ns → length (name_after n copy ns) ≡ 1 + length ns
after_longer n copy [] i = absurd i
after_longer n copy (m ∷ ms) i = on (same_name n m) refl i (λ j. after_longer n copy ms j)
  where
    on : (t : Bool) → same_name n m ≡ t → IsIn n (m ∷ ms) → (IsIn n ms → length (name_after n copy ms) ≡ 1 + length ms) → length (if t then m ∷ copy ∷ ms else m ∷ name_after n copy ms) ≡ 1 + length (m ∷ ms)
    on true q j f = omega arith
    on false q (inl e) f = absurd (other_name n m q e)
    on false q (inr j) f = let r : length (name_after n copy ms) ≡ 1 + length ms = f j in omega arith

pub after_differs : (n copy : Name) (ns : List Name) → IsIn n ns → ns ≡ name_after n copy ns → ⊥
after_differs n copy ns i e = let a : length ns ≡ length (name_after n copy ns) = ap length e in let b : length (name_after n copy ns) ≡ 1 + length ns = after_longer n copy ns i in omega (arith, a, b)

after_named : (n copy : Name) (ns : List Name) → IsIn n ns → IsIn copy (name_after n copy ns)
after_named n copy [] i = i
after_named n copy (m ∷ ms) i = on (same_name n m) refl i (λ j. after_named n copy ms j)
  where
    on : (t : Bool) → same_name n m ≡ t → IsIn n (m ∷ ms) → (IsIn n ms → IsIn copy (name_after n copy ms)) → IsIn copy (if t then m ∷ copy ∷ ms else m ∷ name_after n copy ms)
    on true q j f = inr (inl refl)
    on false q (inl e) f = absurd (other_name n m q e)
    on false q (inr j) f = inr (f j)

module _ (rules : List Rule) (p : Program) (q : Query) (journal : List Label) (c : Config) (l : Label) (d : Config) (replays : Replays rules p q journal c) (m : Applies rules p c l d) (copy : Name)
    (two : box_names m.change.boxes ≡ m.site.content.name ∷ copy ∷ []) where
  s : Stand c
  s = replay-stands rules p q journal c replays

  t : Stand d
  t = stands_after rules p c l d s m

  abbrev n : Name
  n = m.site.content.name

  abbrev new : Boxes
  new = m.change.boxes

  roots_are : edited n new c.roots ≡ d.roots
  roots_are = ap (λ (x : Config). x.roots) m.result

  -- where there are two boxes in its place, no choice loses all its alternatives
  never_empty : (bs : Boxes) → edited n new bs ≡ no_boxes → bs ≡ no_boxes
  never_empty no_boxes e = refl
  never_empty (box b gs bs) e = on (same_name n b.name) e
    where
      none : (cs ds : Boxes) → box_names cs ≡ n ∷ copy ∷ [] → joined_boxes cs ds ≡ no_boxes → ⊥
      none no_boxes ds i j = cc
      none (box k hs cs) ds i j = cc

      on : (u : Bool) → (if u then joined_boxes new (edited n new bs) else box b (edited_inside n new gs) (edited n new bs)) ≡ no_boxes → box b gs bs ≡ no_boxes
      on true i = absurd (none new (edited n new bs) two i)
      on false i = cc

  -- so each other box fails by the same goal
  pub fails_still : (k : Name) (e f : Found) (o : Option Name) → box_at k c.roots ≡ Some e → box_at k d.roots ≡ Some f → same_name n k ≡ false → FailsBy e.goals o → FailsBy f.goals o
  fails_still k e f o i j apart fails = on (moved rules p c l d s m e f (found_in k c.roots e i) (found_in k d.roots f j) (sym (box-itself k c.roots e i) ∙ box-itself k d.roots f j))
    where
      once : (g : Name) → times_inside g f.goals ≤ 1
      once = goals_once d.roots t.once f (found_in k d.roots f j)

      on : Moved l.worker (slice_index c.next l.worker) m.site m.change e f → FailsBy f.goals o
      on (aside x) = subst (λ (gs : Goals). FailsBy gs o) (sym x.goals)
          (fails_by_kept n new e.goals o (λ g. subst (λ (gs : Goals). times_inside g gs ≤ 1) x.goals (once g)) (λ g v bs z u empty. never_empty bs empty) fails)
      on (at_site b x y) =
          let z : same_name n k ≡ true = subst (λ (v : Name). same_name n v ≡ true) (sym (box-itself k c.roots e i ∙ ap (λ (v : Found). v.content.name) x)) (same_name-refl n) in
          absurd (not_true z apart)
        where
          not_true : {u : Bool} → u ≡ true → u ≡ false → ⊥
          not_true e f = cc
      on (inside b h x y z w) = subst (λ (gs : Goals). FailsBy gs o) (ap (λ (v : Found). v.goals) z ∙ sym (ap (λ (v : Found). v.goals) w)) fails

  -- a root box

  named_once : times_in n (box_names c.roots) ≤ 1
  named_once = let a : times_in n (box_names c.roots) ≤ times n c.roots = names_less n c.roots in let o : times n c.roots ≤ 1 = s.once n in omega arith

  pub root_names : box_names d.roots ≡ name_after n copy (box_names c.roots)
  root_names = ap box_names (sym roots_are) ∙ names_beside n copy new c.roots two named_once

  pub root_holder : IsIn n (box_names c.roots) → holder_in copy d.roots ≡ None
  root_holder i = (root_box d.roots t.once copy (subst (IsIn copy) (sym root_names) (after_named n copy (box_names c.roots) i))).holder

  -- a box that a choice holds

  pub same_roots : (IsIn n (box_names c.roots) → ⊥) → box_names d.roots ≡ box_names c.roots
  same_roots not = ap box_names (sym roots_are) ∙ same_names n new c.roots not

  module _ (h : Name) (x : IsHeldBy n h m.site c.roots) where
    few : times_in n (box_names x.alternatives) ≤ 1
    few =
        let a : times_in n (box_names x.alternatives) ≤ times n x.alternatives = names_less n x.alternatives in
        let b : times n x.alternatives ≤ times_inside n x.home.goals = choice_less n h x.op x.alternatives x.home.goals x.held in
        let o : times_inside n x.home.goals ≤ 1 = goals_once c.roots s.once x.home (home_in h c.roots x.home x.is_home).0 n in
        omega arith

    pub names_now : box_names (edited n new x.alternatives) ≡ name_after n copy (box_names x.alternatives)
    names_now = names_beside n copy new x.alternatives two few

    abbrev pub home_now : Found
    home_now = record { around = x.home.around; content = x.home.content; goals = edited_inside n new x.home.goals }

    -- the box of the choice is around it
    out : IsIn n (names_down_to x.home) → ⊥
    out i = site_apart rules p c l d s m (subst (IsIn n) (sym x.names) i)

    pub there_now : box_at x.home.content.name d.roots ≡ Some home_now
    there_now = named_found d.roots t.once x.home.content.name home_now (subst (λ (bs : Boxes). Stands home_now bs) roots_are
        (edit_out n new c.roots x.home.around x.home.content x.home.goals (home_in h c.roots x.home x.is_home).0
        (other_by n x.home.content.name (λ e. out (IsIn-right n (names_around x.home) (x.home.content.name ∷ []) (inl e))))
        (not_among n new x.home.around (λ i. out (IsIn-left n (names_around x.home) (x.home.content.name ∷ []) i))))) refl

    pub held_now : held_in h home_now.goals ≡ Some (a_choice x.op (edited n new x.alternatives))
    held_now = held_edited n new h x.home.goals ∙ ap (option_map (edited_held n new)) x.held

    pub is_home_now : home_of h d.roots ≡ Some home_now
    is_home_now = home_found d.roots t.once h x.home.content.name home_now (a_choice x.op (edited n new x.alternatives)) there_now held_now

    pub held_holder : holder_in copy d.roots ≡ Some h
    held_holder = (alternative_at d.roots t.once copy h home_now x.op (edited n new x.alternatives) is_home_now held_now (subst (IsIn copy) (sym names_now) (after_named n copy (box_names x.alternatives) x.among))).holder

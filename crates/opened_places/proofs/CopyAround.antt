-- The boxes around the copies of a split and around their goals.
use Rattle.std.proofs.Common.{◌≡◌, ◌≤◌, List, [], ◌∷◌, ◌++◌, map, Option, Some, refl, sym, ◌∙◌, ap, subst, inl, inr}
use Rattle.std.specs.Prelude.{option_map, slice_index}
use Rattle.std.specs.List.{AllByRecursion}
use Rattle.akl_terms.specs.declared.name.Name.{Name}
use Rattle.akl_terms.specs.declared.name.Place.{Place}
use Rattle.akl_model.specs.declared.label.Rule.{Rule}
use Rattle.akl_model.specs.declared.label.Label.{Label}
use Rattle.akl_model.specs.Config.{IsIn, Content, Boxes, Config, Held, held_in, Found, environment, box_at, home_of}
use Rattle.akl_model.specs.Derivations.{Applies}
use Rattle.akl_model.specs.Wakes.{names_around, names_down_to, holder_in}
use Rattle.akl_model.proofs.Finds.{times}
use Rattle.akl_model.proofs.NamesKept.{Stand, box-itself, home-box}
use Rattle.akl_model.proofs.Options.{some_value}
use Rattle.step_laws.specs.Holders.{IsHeldBy}
use Rattle.step_laws.specs.Whereabouts.{Stands}
use Rattle.step_laws.proofs.Whereabouts.{found_in, home_in, in_home}
use Rattle.step_laws.proofs.Deeper.{named_found}
use Rattle.step_laws.proofs.Holders.{held_around, unheld_around}
use Rattle.table_laws.specs.Rows.{Table}
use Rattle.table_laws.specs.Stamped.{Run, IsTableOf}
use Rattle.table_laws.specs.Steps.{BoxCopy, IsCopy, AreCopies, splits, Makes}
use Rattle.table_laws.proofs.Copies.{IsAmong, goals_copied, box_among, goal_home}
use Rattle.table_laws.proofs.Frame.{names_join}
use Rattle.opened_places.specs.Placed.{PlacedValue, placed, StandsSo, goals_placed}
use Rattle.opened_places.specs.Copies.{CopyPart, IsPart, IsWithin, outermost, further, AddsCopies}
use Rattle.opened_places.specs.Listed.{law_part}
use Rattle.opened_places.proofs.InnerPlaces.{all_append, all_goals}
use Rattle.opened_places.proofs.AtSite as site
use Rattle.opened_places.proofs.SplitSteps as split

part_among : (k : CopyPart) (copies : List BoxCopy) → IsPart k (map law_part copies) → (c : BoxCopy) × IsAmong c copies × (k ≡ law_part c)
part_among k [] i = absurd i
part_among k (c ∷ cs) (inl e) = (c, inl refl, e)
part_among k (c ∷ cs) (inr i) = let w : (d : BoxCopy) × IsAmong d cs × (k ≡ law_part d) = part_among k cs i in (w.0, inr w.1, w.2)

module _ (rules : List Rule) (r : Run) (T : Table) (l : Label) (d : Config) (t : IsTableOf rules r T) (a : Applies rules r.program t.config l d)
    (copy : Name) (copies : List BoxCopy) (makes : Makes r.program l (slice_index t.config.next l.worker) a.site (splits copy copies)) where
  later : Stand d
  later = site.afterwards rules r.program r.query r.journal t.config l d t.replays a

  abbrev second : Boxes
  second = split.second rules r T l d t a copy copies makes

  once : (m : Name) → times m second ≤ 1
  once = split.second_once rules r T l d t a copy copies makes

  are : AreCopies r.program.templates.nodes (environment a.site) second copies
  are = (split.is_split rules r T l d t a copy copies makes).copied

  abbrev under : Found → Found
  under f = record f { around = a.site.around ++ f.around }

  there : (f : Found) → Stands f second → Stands (under f) d.roots
  there = split.copy_there rules r T l d t a copy copies makes

  around_under : (f : Found) → names_around (under f) ≡ names_around a.site ++ names_around f
  around_under f = names_join a.site.around f.around

  its_box : (c : BoxCopy) → IsAmong c copies → (f : Found) × (box_at c.name second ≡ Some f) × IsCopy r.program.templates.nodes (environment a.site) second f c
  its_box c i = box_among r.program.templates.nodes (environment a.site) second once copies are c i

  -- a goal of a copy stands in its box
  its_goal : (c : BoxCopy) (f : Found) (g : Name) → IsAmong c copies → box_at c.name second ≡ Some f → IsIn g (goals_copied c) → home_of g second ≡ Some f
  its_goal c f g i e j =
      let w : (k : Found) × (home_of g second ≡ Some k) × (k.content.name ≡ c.name) = goal_home r.program.templates.nodes (environment a.site) second once copies are c g i j in
      w.1 ∙ sym (home-box g second w.0 once w.1) ∙ ap (λ (n : Name). box_at n second) w.2 ∙ e

  -- the copies that are named around one by the choices that hold it stand around it
  within_is : (o : Option Name) (inner : List Name) → IsWithin (map law_part copies) o inner → (n : Name) (f : Found) → box_at n second ≡ Some f → holder_in n second ≡ o → names_around f ≡ inner
  within_is _ _ outermost n f e h = ap (map (λ (b : Content). b.name)) (unheld_around second once n f e h)
  within_is _ _ (further {g = g} {names = names} k i j w) n f e h =
      let c : (c : BoxCopy) × IsAmong c copies × (k ≡ law_part c) = part_among k copies i in
      let x : (x : Found) × (box_at c.0.name second ≡ Some x) × IsCopy r.program.templates.nodes (environment a.site) second x c.0 = its_box c.0 c.1 in
      let by : IsHeldBy n g f second = held_around second once n g f e h in
      let goal : home_of g second ≡ Some x.0 = its_goal c.0 x.0 g c.1 x.1 (subst (λ (p : CopyPart). IsIn g p.goals) c.2 j) in
      let home : by.home ≡ x.0 = some_value (sym by.is_home ∙ goal) in
      let held : holder_in c.0.name second ≡ k.holder = ap (λ (m : Name). holder_in m second) (box-itself c.0.name second x.0 x.1) ∙ sym x.2.holder ∙ ap (λ (p : CopyPart). p.holder) (sym c.2) in
      let deeper : names_around x.0 ≡ names = within_is k.holder names w c.0.name x.0 x.1 held in
      by.names ∙ ap names_down_to home ∙ (λ m. (deeper m) ++ ((sym (box-itself c.0.name second x.0 x.1) ∙ ap (λ (p : CopyPart). p.name) (sym c.2)) m) ∷ [])

  module _ (k : CopyPart) (inner : List Name) (i : IsPart k (map law_part copies)) (w : IsWithin (map law_part copies) k.holder inner) where
    abbrev c : BoxCopy
    c = (part_among k copies i).0

    among : IsAmong c copies
    among = (part_among k copies i).1

    is_part : k ≡ law_part c
    is_part = (part_among k copies i).2

    abbrev f : Found
    f = (its_box c among).0

    found : box_at c.name second ≡ Some f
    found = (its_box c among).1

    inner_is : names_around f ≡ inner
    inner_is = within_is k.holder inner w c.name f found
        (ap (λ (m : Name). holder_in m second) (box-itself c.name second f found) ∙ sym (its_box c among).2.holder ∙ ap (λ (p : CopyPart). p.holder) (sym is_part))

    around : names_around (under f) ≡ names_around a.site ++ inner
    around = around_under f ∙ ap (λ (ns : List Name). names_around a.site ++ ns) inner_is

    name : c.name ≡ k.name
    name = ap (λ (p : CopyPart). p.name) (sym is_part)

    copy_stands : StandsSo d.roots (placed (Place.Box k.name) (names_around a.site ++ inner))
    copy_stands =
        let is_found : box_at k.name d.roots ≡ Some (under f) = named_found d.roots later.once k.name (under f) (there f (found_in c.name second f found)) (sym name ∙ box-itself c.name second f found) in
        ap (option_map names_around) is_found ∙ ap Some around

    goal_stands : (g : Name) → IsIn g k.goals → StandsSo d.roots (placed (Place.Goal g) ((names_around a.site ++ inner) ++ k.name ∷ []))
    goal_stands g j =
        let home : home_of g second ≡ Some f = its_goal c f g among found (subst (λ (p : CopyPart). IsIn g p.goals) is_part j) in
        let h : Stands f second × ((h : Held) × (held_in g f.goals ≡ Some h)) = home_in g second f home in
        let now : home_of g d.roots ≡ Some (under f) = in_home g h.1.0 d.roots (under f) later.once (there f h.0) h.1.1 in
        ap (option_map names_down_to) now ∙ (λ m. Some ((around m) ++ ((sym (box-itself c.name second f found) ∙ name) m) ∷ []))

  copies_all : (some : List CopyPart) (before afterwards : List PlacedValue) → ((k : CopyPart) → IsPart k some → IsPart k (map law_part copies)) → AddsCopies (names_around a.site) (map law_part copies) some before afterwards
      → AllByRecursion (StandsSo d.roots) before → AllByRecursion (StandsSo d.roots) afterwards
  copies_all [] before afterwards sub e x = subst (AllByRecursion (StandsSo d.roots)) (sym e) x
  copies_all (k ∷ ks) before afterwards sub (next, (inner, w, e), rest) x = copies_all ks next afterwards (λ j i. sub j (inr i)) rest (subst (AllByRecursion (StandsSo d.roots)) (sym e) (
      all_append (StandsSo d.roots) before (placed (Place.Box k.name) (names_around a.site ++ inner) ∷ goals_placed ((names_around a.site ++ inner) ++ k.name ∷ []) k.goals) x (
        copy_stands k inner (sub k (inl refl)) w,
        all_goals (StandsSo d.roots) ((names_around a.site ++ inner) ++ k.name ∷ []) k.goals (goal_stands k inner (sub k (inl refl)) w),
      )
      ))

  pub split_all : (before afterwards : List PlacedValue) → AddsCopies (names_around a.site) (map law_part copies) (map law_part copies) before afterwards → AllByRecursion (StandsSo d.roots) before → AllByRecursion (StandsSo d.roots) afterwards
  split_all before afterwards adds x = copies_all (map law_part copies) before afterwards (λ k i. i) adds x

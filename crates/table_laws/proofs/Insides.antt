-- What stands inside a box by a table's rows is what stands inside it in the configuration.
use Rattle.std.proofs.Common.{◌≡◌, ℕ, zero, suc, ◌+◌, ◌≤◌, ◌<◌, List, [], ◌∷◌, ◌++◌, length, map, Bool, true, false, Some, None, refl, sym, ◌∙◌, ap, subst, ◌⊎◌, inl, inr, arith}
use Rattle.std.specs.Prelude.{option_map, option_and_then}
use Rattle.std.proofs.lemmas.List.{length-append}
use Rattle.akl_terms.specs.declared.name.Name.{Name}
use Rattle.akl_model.specs.Config.{Operator}
use Rattle.akl_terms.specs.Names.{same_name}
use Rattle.akl_terms.proofs.SameNames.{same_name-equal}
use Rattle.akl_model.specs.Config.{IsIn, Content, Boxes, Goals, no_goals, atom, choice, Config, Held, an_atom, a_choice, held_in, Found, box_at, home_of}
use Rattle.akl_model.specs.Names.{one_if, times_in}
use Rattle.akl_model.specs.Changes.{of_choice, shape_of, box_names, goal_names}
use Rattle.akl_model.specs.Wakes.{names_around, names_down_to, holder_in}
use Rattle.akl_model.proofs.Options.{some_value, map_some}
use Rattle.akl_model.proofs.Finds.{times, times_inside}
use Rattle.akl_model.proofs.NamesKept.{box-itself, home-box}
use Rattle.akl_model.proofs.Scoped.{IsIn-left, IsIn-right, IsIn-either}
use Rattle.akl_model.proofs.ScopesAlong.{counted_in}
use Rattle.step_laws.specs.Holders.{IsHeldBy, IsAlternativeAt}
use Rattle.step_laws.proofs.Whereabouts.{home_in}
use Rattle.step_laws.proofs.Deeper.{home_found, names_snoc}
use Rattle.step_laws.proofs.GoalEdits.{named_held, held_named}
use Rattle.step_laws.proofs.Holders.{alternative_at, held_or}
use Rattle.table_laws.specs.Rows.{BoxRow, GoalRow, Table}
use Rattle.table_laws.specs.Unfolds.{IsBoxRow, Spot, spot_in, spot_of, Unfolds}
use Rattle.table_laws.proofs.Frame.{row_of, found_of}
use Rattle.table_laws.specs.Inside.{IsDirectlyIn, IsAlternativeOf, IsInside, itself, further, IsGoalInside}

pub named_counted : (n : Name) (ns : List Name) → 0 < times_in n ns → IsIn n ns
named_counted n [] l = absurd (omega arith)
named_counted n (m ∷ ms) l = on (same_name n m) refl l (λ k. named_counted n ms k)
  where
    on : (t : Bool) → same_name n m ≡ t → 0 < one_if t + times_in n ms → (0 < times_in n ms → IsIn n ms) → IsIn n (m ∷ ms)
    on true r k f = inl (same_name-equal n m r)
    on false r k f = inr (f (omega arith))

pub goal_names_less : (m : Name) (gs : Goals) → times_in m (goal_names gs) ≤ times_inside m gs
goal_names_less m no_goals = omega arith
goal_names_less m (atom g a gs) = let k : times_in m (goal_names gs) ≤ times_inside m gs = goal_names_less m gs in omega arith
goal_names_less m (choice g o bs gs) = let k : times_in m (goal_names gs) ≤ times_inside m gs = goal_names_less m gs in omega arith

-- a goal's spot, by the box in which it is held
pub spot_held : (g : Name) (roots : Boxes) (f : Found) (h : Held) → home_of g roots ≡ Some f → held_in g f.goals ≡ Some h → spot_in g roots ≡ Some (record { home = f.content.name; shape = shape_of h })
spot_held g roots f h e i =
    ap (option_and_then (λ (k : Found). option_map (λ (x : Held). record { home = k.content.name; shape = shape_of x }) (held_in g k.goals))) e
    ∙ ap (option_map (λ (x : Held). record { home = f.content.name; shape = shape_of x })) i

pub spot_none : (g : Name) (roots : Boxes) → home_of g roots ≡ None → spot_in g roots ≡ None
spot_none g roots e = ap (option_and_then (λ (k : Found). option_map (λ (x : Held). record { home = k.content.name; shape = shape_of x }) (held_in g k.goals))) e

pub choice_of : (h : Held) (o : Operator) (ns : List Name) → shape_of h ≡ of_choice o ns → (bs : Boxes) × (h ≡ a_choice o bs) × (box_names bs ≡ ns)
choice_of (an_atom a) o ns e = cc
choice_of (a_choice q bs) o ns e = let r : q ≡ o = cc in (bs, ap (λ (x : Operator). a_choice x bs) r, cc)

-- what is around a box or is it is around the boxes directly in it
named_down : (n : Name) (f a : Found) → a.around ≡ f.around ++ f.content ∷ [] → IsIn n (names_down_to f) → IsIn n (names_down_to a)
named_down n f a e i =
    let q : names_around a ≡ names_down_to f = ap (map (λ (b : Content). b.name)) e ∙ names_snoc f.around f.content in
    IsIn-left n (names_around a) (a.content.name ∷ []) (subst (IsIn n) (sym q) i)

module _ (T : Table) (c : Config) (u : Unfolds T c) (once : (m : Name) → times m c.roots ≤ 1) where
  -- rows and searches

  pub goal_row : (g : Name) (f : Found) (h : Held) → home_of g c.roots ≡ Some f → held_in g f.goals ≡ Some h → (r : GoalRow) × (T.goal_of g ≡ Some r) × (r.home ≡ f.content.name) × (r.shape ≡ shape_of h)
  goal_row g f h e i =
      let w : (r : GoalRow) × (T.goal_of g ≡ Some r) × (spot_of r ≡ record { home = f.content.name; shape = shape_of h }) =
      map_some spot_of (T.goal_of g) (record { home = f.content.name; shape = shape_of h }) (u.goals g ∙ spot_held g c.roots f h e i) in
      (w.0, w.1, ap (λ (s : Spot). s.home) w.2, ap (λ (s : Spot). s.shape) w.2)

  pub directly : (m g : Name) (f : Found) (h : Held) → box_at m c.roots ≡ Some f → held_in g f.goals ≡ Some h → IsDirectlyIn T m g
  directly m g f h e i =
      let w : (r : BoxRow) × (T.box_of m ≡ Some r) × IsBoxRow T c.roots f r = row_of T c u m f e in
      record { row = w.0; there = w.1; named = subst (IsIn g) (sym w.2.goals) (named_counted g (goal_names f.goals) (held_named g f.goals h i)) }

  pub held_directly : (m g : Name) (f : Found) → box_at m c.roots ≡ Some f → IsDirectlyIn T m g → (h : Held) × (held_in g f.goals ≡ Some h)
  held_directly m g f e d =
      let w : (k : Found) × (box_at m c.roots ≡ Some k) × IsBoxRow T c.roots k d.row = found_of T c u m d.row d.there in
      let q : w.0 ≡ f = some_value (sym w.1 ∙ e) in
      named_held g f.goals (counted_in g (goal_names f.goals) (subst (IsIn g) (w.2.goals ∙ ap (λ (k : Found). goal_names k.goals) q) d.named))

  pub alternative : (g a : Name) (f : Found) (op : Operator) (bs : Boxes) → home_of g c.roots ≡ Some f → held_in g f.goals ≡ Some (a_choice op bs) → IsIn a (box_names bs) → IsAlternativeOf T g a
  alternative g a f op bs e h i =
      let w : (r : GoalRow) × (T.goal_of g ≡ Some r) × (r.home ≡ f.content.name) × (r.shape ≡ of_choice op (box_names bs)) = goal_row g f (a_choice op bs) e h in
      record { row = w.0; there = w.1; op = op; alternatives = box_names bs; choice = w.3; named = i }

  pub held_alternative : (g a : Name) (f : Found) (h : Held) → home_of g c.roots ≡ Some f → held_in g f.goals ≡ Some h → IsAlternativeOf T g a
      → (op : Operator) × (bs : Boxes) × (held_in g f.goals ≡ Some (a_choice op bs)) × IsIn a (box_names bs)
  held_alternative g a f h e i x =
      let w : (r : GoalRow) × (T.goal_of g ≡ Some r) × (r.home ≡ f.content.name) × (r.shape ≡ shape_of h) = goal_row g f h e i in
      let q : w.0 ≡ x.row = some_value (sym w.1 ∙ x.there) in
      let v : (bs : Boxes) × (h ≡ a_choice x.op bs) × (box_names bs ≡ x.alternatives) = choice_of h x.op x.alternatives (sym w.3 ∙ ap (λ (r : GoalRow). r.shape) q ∙ x.choice) in
      (x.op, v.0, i ∙ ap Some v.1, subst (IsIn a) (sym v.2) x.named)

  -- a box in a box: its name is one of those down to it
  pub record IsUnder (n m : Name) : Type 0 where
    pub found : Found
    pub is_found : box_at m c.roots ≡ Some found
    pub named : IsIn n (names_down_to found)

  last_named : (m : Name) (f : Found) → box_at m c.roots ≡ Some f → IsIn m (names_down_to f)
  last_named m f e = IsIn-right m (names_around f) (f.content.name ∷ []) (inl (box-itself m c.roots f e))

  -- from rows to searches
  pub under : (n m : Name) (e : Found) → box_at n c.roots ≡ Some e → IsInside T n m → IsUnder n m
  under n m e i itself = record { found = e; is_found = i; named = last_named n e i }
  under n a e i (further {m = m} {g = g} x d y) = on (under n m e i x)
    where
      on : IsUnder n m → IsUnder n a
      on v =
          let h : (k : Held) × (held_in g v.found.goals ≡ Some k) = held_directly m g v.found v.is_found d in
          let at : home_of g c.roots ≡ Some v.found = home_found c.roots once g m v.found h.0 v.is_found h.1 in
          let w : (op : Operator) × (bs : Boxes) × (held_in g v.found.goals ≡ Some (a_choice op bs)) × IsIn a (box_names bs) = held_alternative g a v.found h.0 at h.1 y in
          let z : IsAlternativeAt a g v.found c.roots = alternative_at c.roots once a g v.found w.0 w.1 at w.2 w.3 in
          record {
            found = z.found;
            is_found = z.is_found;
            named = named_down n v.found z.found z.around v.named;
          }

  -- and back, from the box of the choice that holds a box
  step : (n m : Name) (f : Found) → ((h : Found) → length h.around < length f.around → box_at h.content.name c.roots ≡ Some h → IsIn n (names_down_to h) → IsInside T n h.content.name)
      → box_at m c.roots ≡ Some f → IsIn n (names_down_to f) → IsInside T n m
  step n m f back e i = elim (IsIn-either n (names_around f) (f.content.name ∷ []) i) [
    | inr j ↦ elim j [
      | inl q ↦ subst (IsInside T n) (q ∙ sym (box-itself m c.roots f e)) itself
      | inr z ↦ absurd z
    ]
    | inl j ↦ on (held_or c.roots once m f e) j
  ]
    where
      by : (g : Name) → IsHeldBy m g f c.roots → IsIn n (names_around f) → IsInside T n m
      by g h j =
          let found : box_at h.home.content.name c.roots ≡ Some h.home = home-box g c.roots h.home once h.is_home in
          let more : length f.around ≡ length (h.home.around ++ h.home.content ∷ []) = ap length h.around in
          let parts : length (h.home.around ++ h.home.content ∷ []) ≡ length h.home.around + 1 = length-append h.home.around (h.home.content ∷ []) in
          further (back h.home (omega (arith, more, parts)) found (subst (IsIn n) h.names j))
          (directly h.home.content.name g h.home (a_choice h.op h.alternatives) found h.held)
          (alternative g m h.home h.op h.alternatives h.is_home h.held h.among)

      on : ((f.around ≡ []) × (holder_in m c.roots ≡ None)) ⊎ ((g : Name) × (holder_in m c.roots ≡ Some g) × IsHeldBy m g f c.roots) → IsIn n (names_around f) → IsInside T n m
      on (inl r) j = absurd (subst (λ (a : List Content). IsIn n (names_around (record f { around = a }))) r.0 j)
      on (inr h) j = by h.0 h.2 j

  inside_by : (k : ℕ) (n m : Name) (f : Found) → length f.around ≤ k → box_at m c.roots ≡ Some f → IsIn n (names_down_to f) → IsInside T n m
  inside_by zero n m f l e i = step n m f (λ h x y z. absurd (omega arith)) e i
  inside_by (suc k) n m f l e i = step n m f (λ h x y z. inside_by k n h.content.name h (omega arith) y z) e i

  pub inside : (n m : Name) (f : Found) → box_at m c.roots ≡ Some f → IsIn n (names_down_to f) → IsInside T n m
  inside n m f e i = inside_by (length f.around) n m f (omega arith) e i

  -- for goals, by their homes

  pub record IsGoalUnder (n g : Name) : Type 0 where
    pub found : Found
    pub is_home : home_of g c.roots ≡ Some found
    pub named : IsIn n (names_down_to found)

  pub goal_under : (n g : Name) (e : Found) → box_at n c.roots ≡ Some e → IsGoalInside T n g → IsGoalUnder n g
  goal_under n g e i x =
      let v : IsUnder n x.box = under n x.box e i x.inside in
      let h : (k : Held) × (held_in g v.found.goals ≡ Some k) = held_directly x.box g v.found v.is_found x.goal in
      record { found = v.found; is_home = home_found c.roots once g x.box v.found h.0 v.is_found h.1; named = v.named }

  pub goal_inside : (n g : Name) (f : Found) → home_of g c.roots ≡ Some f → IsIn n (names_down_to f) → IsGoalInside T n g
  goal_inside n g f e i =
      let found : box_at f.content.name c.roots ≡ Some f = home-box g c.roots f once e in
      let h : (k : Held) × (held_in g f.goals ≡ Some k) = (home_in g c.roots f e).1 in
      record { box = f.content.name; inside = inside n f.content.name f found i; goal = directly f.content.name g f h.0 found h.1 }

  -- what isn't inside a box isn't by its rows
  pub not_inside : (n m : Name) (e f : Found) → box_at n c.roots ≡ Some e → box_at m c.roots ≡ Some f → (IsIn n (names_down_to f) → ⊥) → IsInside T n m → ⊥
  not_inside n m e f i j k x = let v : IsUnder n m = under n m e i x in k (subst (λ (z : Found). IsIn n (names_down_to z)) (some_value (sym v.is_found ∙ j)) v.named)

  pub not_inside_none : (n m : Name) (e : Found) → box_at n c.roots ≡ Some e → box_at m c.roots ≡ None → IsInside T n m → ⊥
  not_inside_none n m e i j x = let v : IsUnder n m = under n m e i x in let q : box_at m c.roots ≡ Some v.found = v.is_found in cc

  pub not_goal_inside : (n g : Name) (e f : Found) → box_at n c.roots ≡ Some e → home_of g c.roots ≡ Some f → (IsIn n (names_down_to f) → ⊥) → IsGoalInside T n g → ⊥
  not_goal_inside n g e f i j k x = let v : IsGoalUnder n g = goal_under n g e i x in k (subst (λ (z : Found). IsIn n (names_down_to z)) (some_value (sym v.is_home ∙ j)) v.named)

  pub not_goal_inside_none : (n g : Name) (e : Found) → box_at n c.roots ≡ Some e → home_of g c.roots ≡ None → IsGoalInside T n g → ⊥
  not_goal_inside_none n g e i j x = let v : IsGoalUnder n g = goal_under n g e i x in let q : home_of g c.roots ≡ Some v.found = v.is_home in cc

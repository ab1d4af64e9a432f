-- A walk from a place outwards finds the nearest box that has a candidate of a split, unless something else is open in one on the way.
use Rattle.std.proofs.Common.{◌≡◌, ℕ, zero, suc, ◌<◌, ◌≤◌, List, [], ◌∷◌, ◌++◌, length, reverse, Bool, true, false, Option, Some, None, refl, sym, ◌∙◌, ap, subst, arith, append_assoc}
use Rattle.std.proofs.lemmas.List.{reverse-append, reverse-reverse}
use Rattle.std.specs.Prelude.{if◌then◌else◌, is_some, option_map}
use Rattle.akl_terms.specs.declared.name.Name.{Name}
use Rattle.akl_terms.specs.declared.name.Place.{Place}
use Rattle.akl_model.specs.Config.{IsIn, Boxes, Found, box_at, home_of}
use Rattle.akl_model.specs.Wakes.{names_around, names_down_to, boxes_around, StandsIn, is_candidate, nearest_of, nearest}
use Rattle.akl_model.proofs.Options.{some_value, some_and, and_some}
use Rattle.akl_model.proofs.NamesKept.{home-box}
use Rattle.akl_model.proofs.Scoped.{IsIn-left}
use Rattle.plan_laws.proofs.Nearest.{nearest_in, nearest_is, nearest_nowhere, names_cut}
use Rattle.table_laws.specs.Rows.{BoxRow, GoalRow, Table}
use Rattle.table_laws.specs.Stamped.{Run, IsTableOf}
use Rattle.table_laws.specs.Writes.{home_in, holder_in_row}
use Rattle.wake_lists.specs.Open.{Openings}
use Rattle.box_tree.specs.Tables.{all_rules, TableValue, table_of, goals_in}
use Rattle.box_tree.specs.Paths.{outside_of, home_at, Deep}
use Rattle.box_tree.specs.Insides.{candidate_in, candidate_among}
use Rattle.box_tree.proofs.Seen.{PathOf}
use Rattle.box_tree.proofs.ShownChoices.{candidate_there}
use Rattle.opened_places.specs.Placed.{all_but_last}
use Rattle.opened_places.proofs.AtRows as rows
use Rattle.opened_places.proofs.RunRows as run_rows
use Rattle.opened_places.proofs.RunRows.{but_last, around_of_path}
use Rattle.scheduler.specs.Nearest.{first_around, Outward, HasWayOut, first_quiet, is_used, IsQuietOutward, IsQuietCandidate}
use Rattle.scheduler.proofs.OpeningLists.{some_none}

module _ (T : Table) where
  pub outward_next : (n : Name) (ns : List Name) → Outward T (Some n) ns → (ms : List Name) × (ns ≡ n ∷ ms) × Outward T (outside_of T n) ms
  outward_next n [] o = let z : Some n ≡ None = o in absurd cc
  outward_next n (m ∷ ms) o =
      let q : n ≡ m = some_value o.0 in
      (ms, ap (λ (k : Name). k ∷ ms) (sym q), subst (λ (k : Name). Outward T (outside_of T k) ms) (sym q) o.1)

  pub outward_end : (ns : List Name) → Outward T None ns → ns ≡ []
  outward_end [] o = refl
  outward_end (m ∷ ms) o = let z : None ≡ Some m = o.0 in absurd cc

  pub deep_outward : (n : Name) (ms : List Name) → Deep T n ms → Outward T (outside_of T n) ms
  deep_outward n [] d = d
  deep_outward n (m ∷ ms) d = (d.0, deep_outward m ms d.1)

  -- how many boxes there are outwards, counted up to a number
  abbrev pub climbs : ℕ → Option Name → ℕ
  climbs zero o = 0
  climbs (suc k) None = 0
  climbs (suc k) (Some n) = suc (climbs k (outside_of T n))

  pub climbs_are : (k : ℕ) (o : Option Name) (ns : List Name) → Outward T o ns → length ns ≤ k → climbs k o ≡ length ns
  climbs_are zero o [] x l = refl
  climbs_are zero o (n ∷ ns) x l = absurd (omega arith)
  climbs_are (suc k) o [] x l = ap (climbs (suc k)) x
  climbs_are (suc k) o (n ∷ ns) x l = ap (climbs (suc k)) x.0 ∙ ap suc (climbs_are k (outside_of T n) ns x.1 (omega arith))

  -- two ways outwards are one
  pub outward_one : (o : Option Name) (ns ms : List Name) → Outward T o ns → Outward T o ms → ns ≡ ms
  outward_one o [] ms x y = sym (outward_end ms (subst (λ (k : Option Name). Outward T k ms) x y))
  outward_one o (n ∷ ns) ms x y =
      let w : (ks : List Name) × (ms ≡ n ∷ ks) × Outward T (outside_of T n) ks = outward_next n ms (subst (λ (k : Option Name). Outward T k ms) x.0 y) in
      ap (λ (ks : List Name). n ∷ ks) (outward_one (outside_of T n) ns w.0 x.1 w.2) ∙ sym w.1

  pub outward_cut : (o : Option Name) (A : List Name) (k : Name) (B : List Name) → Outward T o (A ++ k ∷ B) → Outward T (outside_of T k) B
  outward_cut o [] k B x = x.1
  outward_cut o (a ∷ A) k B x = outward_cut (outside_of T a) A k B x.1

  -- the first of some boxes
  module _ (busy : Name → Bool) where
    abbrev step : Name → List Name → Bool → Bool → Option Name
    step n ns b c = if b then None else (if c then Some n else first_quiet T busy ns)

    pub used_here : (n : Name) (ns : List Name) → busy n ≡ true → first_quiet T busy (n ∷ ns) ≡ None
    used_here n ns e = ap (λ (b : Bool). step n ns b (is_some (candidate_in T n))) e

    pub here : (n : Name) (ns : List Name) → busy n ≡ false → is_some (candidate_in T n) ≡ true → first_quiet T busy (n ∷ ns) ≡ Some n
    here n ns e f = ap (λ (b : Bool). step n ns b (is_some (candidate_in T n))) e ∙ ap (step n ns false) f

    pub further : (n : Name) (ns : List Name) → busy n ≡ false → is_some (candidate_in T n) ≡ false → first_quiet T busy (n ∷ ns) ≡ first_quiet T busy ns
    further n ns e f = ap (λ (b : Bool). step n ns b (is_some (candidate_in T n))) e ∙ ap (step n ns false) f

-- so far no box outwards had a candidate, or was busy
abbrev pub IsPast : Table → (Name → Bool) → Option Name → Option Name → Type 0
IsPast T busy first at = (ns : List Name) → Outward T first ns → (ms : List Name) × Outward T at ms × (first_quiet T busy ns ≡ first_quiet T busy ms)

module _ (v : TableValue) (os : Openings) (own : ℕ) (first : Option Name) where
  abbrev T : Table
  T = table_of v

  abbrev busy : Name → Bool
  busy = is_used os own

  record Here (n : Name) (ns : List Name) : Type 0 where
    rest : List Name
    outward : Outward T (outside_of T n) rest
    same : first_quiet T busy ns ≡ first_quiet T busy (n ∷ rest)

  at_box : (n : Name) → IsPast T busy first (Some n) → (ns : List Name) → Outward T first ns → Here n ns
  at_box n p ns o =
      let w : (ms : List Name) × Outward T (Some n) ms × (first_quiet T busy ns ≡ first_quiet T busy ms) = p ns o in
      let x : (ks : List Name) × (w.0 ≡ n ∷ ks) × Outward T (outside_of T n) ks = outward_next T n w.0 w.1 in
      record { rest = x.0; outward = x.2; same = w.2 ∙ ap (first_quiet T busy) x.1 }

  pub past_next : (n : Name) → busy n ≡ false → is_some (candidate_in T n) ≡ false → IsPast T busy first (Some n) → IsPast T busy first (outside_of T n)
  past_next n e f p = λ ns o. let w : Here n ns = at_box n p ns o in (w.rest, w.outward, w.same ∙ further T busy n w.rest e f)

  pub past_here : (n : Name) → busy n ≡ false → is_some (candidate_in T n) ≡ true → IsPast T busy first (Some n) → IsQuietOutward v os own first (Some n)
  past_here n e f p = λ ns o. let w : Here n ns = at_box n p ns o in sym (w.same ∙ here T busy n w.rest e f)

  pub past_used : (n : Name) → busy n ≡ true → IsPast T busy first (Some n) → IsQuietOutward v os own first None
  past_used n e p = λ ns o. let w : Here n ns = at_box n p ns o in sym (w.same ∙ used_here T busy n w.rest e)

  pub past_all : IsPast T busy first None → IsQuietOutward v os own first None
  past_all p = λ ns o.
      let w : (ms : List Name) × Outward T None ms × (first_quiet T busy ns ≡ first_quiet T busy ms) = p ns o in
      sym (w.2 ∙ ap (first_quiet T busy) (outward_end T w.0 w.1))

module _ (v : TableValue) where
  pub way_next : (n : Name) → HasWayOut v (Some n) → HasWayOut v (outside_of (table_of v) n)
  way_next n w =
      let x : (ks : List Name) × (w.0 ≡ n ∷ ks) × Outward (table_of v) (outside_of (table_of v) n) ks = outward_next (table_of v) n w.0 w.1 in
      let l : length w.0 ≤ length v.boxes = w.2 in
      let e : length w.0 ≡ length (n ∷ x.0) = ap length x.1 in
      (x.0, x.2, omega (arith, l, e))

  pub climbs_less : (n : Name) → HasWayOut v (Some n) → climbs (table_of v) (length v.boxes) (outside_of (table_of v) n) < climbs (table_of v) (length v.boxes) (Some n)
  climbs_less n w =
      let x : (ks : List Name) × (w.0 ≡ n ∷ ks) × Outward (table_of v) (outside_of (table_of v) n) ks = outward_next (table_of v) n w.0 w.1 in
      let l : length w.0 ≤ length v.boxes = w.2 in
      let e : length w.0 ≡ length (n ∷ x.0) = ap length x.1 in
      let a : climbs (table_of v) (length v.boxes) (Some n) ≡ length w.0 = climbs_are (table_of v) (length v.boxes) (Some n) w.0 w.1 l in
      let b : climbs (table_of v) (length v.boxes) (outside_of (table_of v) n) ≡ length x.0 = climbs_are (table_of v) (length v.boxes) (outside_of (table_of v) n) x.0 x.2 (omega (arith, l, e)) in
      omega (arith, a, b, e)

  module _ (run : Run) (t : IsTableOf all_rules run (table_of v)) where
    abbrev roots : Boxes
    roots = t.config.roots

    pub candidate_same : (n : Name) → is_some (candidate_in (table_of v) n) ≡ is_candidate (box_at n t.config.roots)
    candidate_same n = on (box_at n t.config.roots) refl
      where
        on : (o : Option Found) → box_at n t.config.roots ≡ o → is_some (candidate_in (table_of v) n) ≡ is_candidate (box_at n t.config.roots)
        on None e = ap (λ (b : Option BoxRow). is_some (candidate_among (table_of v) (goals_in b))) (rows.no_box_row (table_of v) t.config t.unfolds n e) ∙ sym (ap is_candidate e)
        on (Some f) e = candidate_there v t.config t.unfolds (run_rows.once v run t) n f e

    -- the boxes around a place, the innermost first
    pub record WayOut (place : Place) : Type 0 where
      pub names : List Name
      pub outward : Outward (table_of v) (first_around (table_of v) place) names
      pub few : length names ≤ length v.boxes
      pub nearest_is : nearest place t.config.roots ≡ nearest_of names t.config.roots
      pub around : (ns : List Name) → boxes_around place t.config.roots ≡ Some ns → ns ≡ reverse names

    -- no boxes, where the place isn't there
    nowhere : (place : Place) → first_around (table_of v) place ≡ None → boxes_around place t.config.roots ≡ None → WayOut place
    nowhere place e z = record { names = []; outward = e; few = omega arith; nearest_is = nearest_nowhere place t.config.roots z; around = λ ns f. absurd (some_none f z) }

    by_path : (place : Place) (names ns : List Name) → boxes_around place t.config.roots ≡ Some ns → ns ≡ reverse names → nearest place t.config.roots ≡ nearest_of names t.config.roots
    by_path place names ns e q = nearest_is place t.config.roots ns e ∙ ap (λ (ms : List Name). nearest_of ms t.config.roots) (ap reverse q ∙ reverse-reverse names)

    same_around : (place : Place) (names ns : List Name) → boxes_around place t.config.roots ≡ Some ns → ns ≡ reverse names → (ms : List Name) → boxes_around place t.config.roots ≡ Some ms → ms ≡ reverse names
    same_around place names ns e q ms f = some_value (sym f ∙ e) ∙ q

    pub way_out : (place : Place) → WayOut place
    way_out (Place.Goal g) = on (home_of g t.config.roots) refl
      where
        on : (o : Option Found) → home_of g t.config.roots ≡ o → WayOut (Place.Goal g)
        on None e = nowhere (Place.Goal g) (ap home_in (rows.no_goal_row (table_of v) t.config t.unfolds g e)) (ap (option_map names_down_to) e)
        on (Some f) e =
            let row : (row : GoalRow) × ((table_of v).goal_of g ≡ Some row) × (row.home ≡ f.content.name) = rows.row_of_goal (table_of v) t.config t.unfolds (run_rows.once v run t) g f e in
            let found : box_at f.content.name t.config.roots ≡ Some f = home-box g t.config.roots f (run_rows.once v run t) e in
            let p : PathOf (table_of v) t.config t.unfolds (run_rows.once v run t) f.content.name f = run_rows.way_to v run t f.content.name f found in
            let l : length f.around < length v.boxes = run_rows.few v run t f.content.name f found in
            let same : length p.0 ≡ length f.around = p.3 in
            record {
              names = f.content.name ∷ p.0;
              outward = (ap home_in row.1 ∙ ap Some row.2, deep_outward (table_of v) f.content.name p.0 p.1);
              few = omega (arith, l, same);
              nearest_is = by_path (Place.Goal g) (f.content.name ∷ p.0) (names_down_to f) (ap (option_map names_down_to) e) p.2;
              around = same_around (Place.Goal g) (f.content.name ∷ p.0) (names_down_to f) (ap (option_map names_down_to) e) p.2;
            }
    way_out (Place.Box n) = on (box_at n t.config.roots) refl
      where
        on : (o : Option Found) → box_at n t.config.roots ≡ o → WayOut (Place.Box n)
        on None e = nowhere (Place.Box n) (ap (λ (b : Option BoxRow). home_at (table_of v) (holder_in_row b)) (rows.no_box_row (table_of v) t.config t.unfolds n e)) (ap (option_map names_around) e)
        on (Some f) e =
            let p : PathOf (table_of v) t.config t.unfolds (run_rows.once v run t) n f = run_rows.way_to v run t n f e in
            let l : length f.around < length v.boxes = run_rows.few v run t n f e in
            let same : length p.0 ≡ length f.around = p.3 in
            let around : names_around f ≡ reverse p.0 = sym (around_of_path f) ∙ ap all_but_last (p.2 ∙ reverse-append (n ∷ []) p.0) ∙ but_last (reverse p.0) n in
            record {
              names = p.0;
              outward = deep_outward (table_of v) n p.0 p.1;
              few = omega (arith, l, same);
              nearest_is = by_path (Place.Box n) p.0 (names_around f) (ap (option_map names_around) e) around;
              around = same_around (Place.Box n) p.0 (names_around f) (ap (option_map names_around) e) around;
            }

    -- the boxes around what stands in a box are those around the box, the box, and some inside it
    pub record WayThrough (k : Name) (around ks : List Name) : Type 0 where
      pub outer : List Name
      pub inner : List Name
      pub parts : around ≡ outer ++ k ∷ inner
      pub same : reverse outer ≡ ks

    pub way_through : (k : Name) (ks : List Name) → Outward (table_of v) (outside_of (table_of v) k) ks → (place : Place) (ns : List Name) → boxes_around place t.config.roots ≡ Some ns → IsIn k ns → WayThrough k ns ks
    way_through k ks o place ns e i =
        let w : WayOut place = way_out place in
        let p : (P : List Name) × (Q : List Name) × (ns ≡ P ++ k ∷ Q) = names_cut k ns i in
        let long : w.names ≡ reverse p.1 ++ k ∷ reverse p.0 =
        sym (ap reverse (w.around ns e) ∙ reverse-reverse w.names) ∙ ap reverse p.2 ∙ reverse-append p.0 (k ∷ p.1) ∙ ap (λ (ms : List Name). ms ++ reverse p.0) (reverse-append (k ∷ []) p.1) ∙ append_assoc (reverse p.1) (k ∷ []) (reverse p.0) in
        record {
          outer = p.0;
          inner = p.1;
          parts = p.2;
          same = outward_one (table_of v) (outside_of (table_of v) k) (reverse p.0) ks
              (outward_cut (table_of v) (first_around (table_of v) place) (reverse p.1) k (reverse p.0) (subst (Outward (table_of v) (first_around (table_of v) place)) long w.outward)) o;
        }

    -- what stands in a box stands in the nearest one from it outwards
    outer_stands : (k : Name) (ks : List Name) → Outward (table_of v) (outside_of (table_of v) k) ks → (place : Place) → StandsIn k t.config.roots place → (m : Name) → nearest_of (k ∷ ks) t.config.roots ≡ Some m
        → StandsIn m t.config.roots place
    outer_stands k ks o place h m e =
        let s : (ns : List Name) × (boxes_around place t.config.roots ≡ Some ns) × IsIn k ns = some_and (IsIn k) (boxes_around place t.config.roots) h in
        let p : WayThrough k s.0 ks = way_through k ks o place s.0 s.1 s.2 in
        let down : reverse (p.outer ++ k ∷ []) ≡ k ∷ ks = reverse-append p.outer (k ∷ []) ∙ ap (λ (ns : List Name). k ∷ ns) p.same in
        let i : IsIn m (p.outer ++ k ∷ []) = nearest_in (p.outer ++ k ∷ []) t.config.roots m (ap (λ (ns : List Name). nearest_of ns t.config.roots) down ∙ e) in
        and_some (IsIn m) (boxes_around place t.config.roots) s.0 s.1
        (subst (IsIn m) (append_assoc p.outer (k ∷ []) p.inner ∙ sym p.parts) (IsIn-left m (p.outer ++ k ∷ []) p.inner i))

    module _ (used : Name → Bool) where
      abbrev quiet : List Name → Option Name
      quiet ns = first_quiet (table_of v) used ns

      abbrev near : List Name → Option Name
      near ns = nearest_of ns t.config.roots

      near_step : (n : Name) (ns : List Name) (b : Bool) → is_some (candidate_in (table_of v) n) ≡ b → near (n ∷ ns) ≡ (if b then Some n else near ns)
      near_step n ns b e = ap (λ (c : Bool). if c then Some n else near ns) (sym (candidate_same n) ∙ e)

      -- one that is found is the nearest, and isn't busy
      quiet_found : (ns : List Name) (m : Name) → quiet ns ≡ Some m → (near ns ≡ Some m) × (used m ≡ false)
      quiet_found [] m e = absurd (some_none e refl)
      quiet_found (n ∷ ns) m e = on (used n) (is_some (candidate_in (table_of v) n)) refl refl (quiet_found ns m)
        where
          on : (b c : Bool) → used n ≡ b → is_some (candidate_in (table_of v) n) ≡ c → (quiet ns ≡ Some m → (near ns ≡ Some m) × (used m ≡ false)) → (near (n ∷ ns) ≡ Some m) × (used m ≡ false)
          on true c f g r = absurd (some_none e (used_here (table_of v) used n ns f))
          on false true f g r = let q : n ≡ m = some_value (sym (here (table_of v) used n ns f g) ∙ e) in (near_step n ns true g ∙ ap Some q, ap used (sym q) ∙ f)
          on false false f g r = let w : (near ns ≡ Some m) × (used m ≡ false) = r (sym (further (table_of v) used n ns f g) ∙ e) in (near_step n ns false g ∙ w.0, w.1)

      -- a box that is busy, from which the nearest one stands outwards
      record IsStopped (m : Name) : Type 0 where
        stop : Name
        rest : List Name
        outward : Outward (table_of v) (outside_of (table_of v) stop) rest
        is_used : used stop ≡ true
        is_near : near (stop ∷ rest) ≡ Some m

      none_found : (first : Option Name) (ns : List Name) → Outward (table_of v) first ns → quiet ns ≡ None → (m : Name) → near ns ≡ Some m → IsStopped m
      none_found first [] o e m h = absurd (some_none h refl)
      none_found first (n ∷ ns) o e m h = on (used n) (is_some (candidate_in (table_of v) n)) refl refl (λ f g. none_found (outside_of (table_of v) n) ns o.1 f m g)
        where
          on : (b c : Bool) → used n ≡ b → is_some (candidate_in (table_of v) n) ≡ c → (quiet ns ≡ None → near ns ≡ Some m → IsStopped m) → IsStopped m
          on true c f g r = record { stop = n; rest = ns; outward = o.1; is_used = f; is_near = h }
          on false true f g r = absurd (some_none (here (table_of v) used n ns f g) e)
          on false false f g r = r (sym (further (table_of v) used n ns f g) ∙ e) (sym (near_step n ns false g) ∙ h)

    -- the box that a walk finds is the nearest one, and nothing else is open in it
    pub found_is : (os : Openings) (own : ℕ) (place : Place) (r : Option Name) → IsQuietCandidate v os own place r → (n : Name) → r ≡ Some n → (nearest place t.config.roots ≡ Some n) × (is_used os own n ≡ false)
    found_is os own place r q n e =
        let w : WayOut place = way_out place in
        let x : (nearest_of w.names t.config.roots ≡ Some n) × (is_used os own n ≡ false) = quiet_found (is_used os own) w.names n (sym (q w.names w.outward) ∙ e) in
        (w.nearest_is ∙ x.0, x.1)

    -- where it finds none, something else is open in a box, and all that stands in this stands in the nearest one too
    pub none_is : (os : Openings) (own : ℕ) (place : Place) (r : Option Name) → IsQuietCandidate v os own place r → r ≡ None → (n : Name) → nearest place t.config.roots ≡ Some n
        → (k : Name) × (is_used os own k ≡ true) × ((other : Place) → StandsIn k t.config.roots other → StandsIn n t.config.roots other)
    none_is os own place r q e n h =
        let w : WayOut place = way_out place in
        let x : IsStopped (is_used os own) n = none_found (is_used os own) (first_around (table_of v) place) w.names w.outward (sym (q w.names w.outward) ∙ e) n (sym w.nearest_is ∙ h) in
        (x.stop, x.is_used, λ other s. outer_stands x.stop x.rest x.outward other s n x.is_near)

    pub has_way : (place : Place) → HasWayOut v (first_around (table_of v) place)
    has_way place = let w : WayOut place = way_out place in (w.names, w.outward, w.few)

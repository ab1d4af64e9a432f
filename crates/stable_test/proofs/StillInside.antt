-- Where no place inside of a box is ready and no rule other than Split applies at the box, none applies at any place inside it.
use Rattle.std.proofs.Common.{◌≡◌, ℕ, List, [], ◌∷◌, ◌++◌, map, Option, Some, None, refl, sym, ◌∙◌, ap, subst, ◌⊎◌, inl, inr, arith, append_assoc, append-nil}
use Rattle.std.specs.Prelude.{option_map, IsSomeAnd}
use Rattle.std.specs.List.{AllByRecursion}
use Rattle.akl_terms.specs.declared.name.Name.{Name}
use Rattle.akl_terms.specs.declared.name.Place.{Place}
use Rattle.akl_terms.specs.declared.program.Program.{Program}
use Rattle.akl_terms.specs.Equal.{Equations, told, IsConsistent}
use Rattle.akl_terms.proofs.EqualLaws.{IsConsistent-follows, IsTold-left}
use Rattle.akl_terms.specs.Decided.{Contradicts}
use Rattle.akl_model.specs.declared.label.Rule.{Rule}
use Rattle.akl_model.specs.declared.label.Label.{Label}
use Rattle.akl_model.specs.Config.{IsIn, Content, Held, held_in, Boxes, no_boxes, Goals, Found, equations_of, environment, whole, box_at, home_of, site_of}
use Rattle.akl_model.specs.Rules.{nothing}
use Rattle.akl_model.specs.Derivations.{after, IsReady}
use Rattle.akl_model.specs.Wakes.{names_around, names_down_to, StandsIn}
use Rattle.akl_model.proofs.NamesKept.{box-itself}
use Rattle.akl_model.proofs.QuietEnds.{clash_not}
use Rattle.akl_model.proofs.QuietGrows.{equations-snoc}
use Rattle.constraint_laws.proofs.Decided.{consistent_or}
use Rattle.plan_laws.proofs.BoxSleeps.{fail_ready}
use Rattle.step_laws.proofs.Deeper.{in_path, chain_at}
use Rattle.step_laws.proofs.Whereabouts.{found_in, in_home}
use Rattle.akl_model.proofs.Options.{some_value}
use Rattle.table_laws.specs.Stamped.{IsTableOf}
use Rattle.box_tree.specs.Tables.{TableValue, all_rules, table_of}
use Rattle.box_tree.specs.declared.inside.Inside.{Inside}
use Rattle.box_tree.specs.Views.{ViewValue, run_of, IsViewOf}
use Rattle.box_tree.specs.Insides.{IsViewInside}
use Rattle.guard_plan.specs.Planned.{HasNoRule}
use Rattle.guard_plan.proofs.HasNone.{has_none}
use Rattle.guard_plan.proofs.Sites.{stand}
use Rattle.stable_test.specs.Seen.{IsSeenInside, NoneReadyInside}
use Rattle.stable_test.proofs.EachInside.{IsDown, IsBelow, below}
use Rattle.box_tree.proofs.AllInForce.{each_in_force}
use Rattle.stable_test.proofs.NoPlainRule.{NoneAppliesAt}
use Rattle.stable_test.proofs.StableViews.{every, there, down}

module _ (v : ViewValue) (i : IsViewOf v) (n : Name) (f : Found) (e : box_at n i.table.config.roots ≡ Some f) (none : NoneAppliesAt all_rules v.table.program i.table.config (Place.Box n))
    (unready : (other : Place) → StandsIn n i.table.config.roots other → IsReady all_rules v.table.program i.table.config other → ⊥) where
  abbrev roots : Boxes
  roots = i.table.config.roots

  front_consistent : (E F : Equations) → IsConsistent (E ++ F) → IsConsistent E
  front_consistent E F c = IsConsistent-follows (record { each = λ {s} {t} m. told (IsTold-left E F s t m) }) c

  -- the box would fail
  consistent : IsConsistent (whole f)
  consistent = on (consistent_or (whole f))
    where
      l : Label
      l = record { rule = Rule.Fail; place = Place.Box n; alternative = None; worker = 0 }

      on : IsConsistent (whole f) ⊎ Contradicts (whole f) → IsConsistent (whole f)
      on (inl c) = c
      on (inr x) = absurd (none l (after i.table.config l f (record { boxes = no_boxes; drawn = 0 })) (record {
        in_force = each_in_force Rule.Fail;
        site = f;
        is_site = e;
        change = record { boxes = no_boxes; drawn = 0 };
        makes = record { reading = nothing; change = refl; allowed = inl (clash_not (whole f) x); few_names = omega arith };
        result = refl;
      }) refl (λ q. cc))

  -- so would each box between it and one inside it
  module _ (d : Found) (h : IsDown i.table.config (stand v i) n f e d) where
    stands_under : (rest : List Content) → d.around ≡ f.around ++ f.content ∷ rest → IsIn n (names_around d)
    stands_under rest q = subst (λ (k : Name). IsIn k (names_around d)) (sym (box-itself n roots f e))
        (subst (λ (around : List Content). IsIn f.content.name (map (λ (b : Content). b.name) around)) (sym q) (in_path f.around f.content rest))

    along : (a rest : List Content) → d.around ≡ (f.around ++ f.content ∷ a) ++ rest → IsConsistent (equations_of (f.around ++ f.content ∷ a)) → IsConsistent (environment d)
    along a [] q c = subst (λ (around : List Content). IsConsistent (equations_of around)) (sym (q ∙ append-nil (f.around ++ f.content ∷ a))) c
    along a (k ∷ rest) q c = along (a ++ k ∷ []) rest (q ∙ sym (append_assoc (f.around ++ f.content ∷ a) (k ∷ []) rest) ∙ ap (λ (l : List Content). l ++ rest) (append_assoc f.around (f.content ∷ a) (k ∷ [])))
        (subst (λ (l : List Content). IsConsistent (equations_of l)) (append_assoc f.around (f.content ∷ a) (k ∷ [])) (subst IsConsistent (sym (equations-snoc (f.around ++ f.content ∷ a) k)) (on (consistent_or (whole found)))))
      where
        w : (gs : Goals) × (box_at k.name roots ≡ Some (record { around = f.around ++ f.content ∷ a; content = k; goals = gs }))
        w = chain_at roots (stand v i).once d (f.around ++ f.content ∷ a) k rest (found_in d.content.name roots d h.there) q

        found : Found
        found = record { around = f.around ++ f.content ∷ a; content = k; goals = w.0 }

        inside : StandsIn n roots (Place.Box k.name)
        inside = subst (λ (o : Option Found). IsSomeAnd (option_map names_around o) (IsIn n)) (sym w.1)
            (subst (λ (m : Name). IsIn m (names_around found)) (sym (box-itself n roots f e)) (in_path f.around f.content a))

        on : IsConsistent (whole found) ⊎ Contradicts (whole found) → IsConsistent (whole found)
        on (inl y) = y
        on (inr x) = absurd (unready (Place.Box k.name) inside (fail_ready all_rules v.table.program i.table.config k.name found (each_in_force Rule.Fail) w.1 (inl (clash_not (whole found) x)) (λ u z. z c)).0)

  environment_consistent : (d : Found) → IsDown i.table.config (stand v i) n f e d → (f ≡ d) ⊎ IsBelow i.table.config (stand v i) n f e d → IsConsistent (environment d)
  environment_consistent d h (inl q) = subst (λ (k : Found). IsConsistent (environment k)) q (front_consistent (environment f) f.content.equations consistent)
  environment_consistent d h (inr b) = along d h [] b.rest (b.around ∙ sym (append_assoc f.around (f.content ∷ []) b.rest)) (subst IsConsistent (sym (equations-snoc f.around f.content)) consistent)

  -- no rule applies at such a place
  none_at : (d : Found) → IsDown i.table.config (stand v i) n f e d → (place : Place) → site_of place roots ≡ Some d → StandsIn n roots place → NoneAppliesAt all_rules v.table.program i.table.config place
  none_at d h place at stands l c a q split = unready place stands (record {
    label = l;
    is_place = q;
    result = c;
    applies = a;
    counts = λ x. x.inconsistent (subst (λ (k : Found). IsConsistent (environment k)) same (environment_consistent d h (below i.table.config (stand v i) n f e d h)));
  })
    where
      same : d ≡ a.site
      same = some_value (sym at ∙ ap (λ (k : Place). site_of k roots) (sym q) ∙ a.is_site)

  pub none_at_box : (d : Found) → IsDown i.table.config (stand v i) n f e d → NoneAppliesAt all_rules v.table.program i.table.config (Place.Box d.content.name)
  none_at_box d h = on (below i.table.config (stand v i) n f e d h)
    where
      on : (f ≡ d) ⊎ IsBelow i.table.config (stand v i) n f e d → NoneAppliesAt all_rules v.table.program i.table.config (Place.Box d.content.name)
      on (inl q) = subst (λ (m : Name). NoneAppliesAt all_rules v.table.program i.table.config (Place.Box m)) (box-itself n roots f e ∙ ap (λ (k : Found). k.content.name) q) none
      on (inr b) = none_at d h (Place.Box d.content.name) h.there
          (subst (λ (o : Option Found). IsSomeAnd (option_map names_around o) (IsIn n)) (sym h.there) (stands_under d h b.rest b.around))

  pub none_at_goal : (d : Found) → IsDown i.table.config (stand v i) n f e d → (g : Name) (k : Held) → held_in g d.goals ≡ Some k → NoneAppliesAt all_rules v.table.program i.table.config (Place.Goal g)
  none_at_goal d h g k held = none_at d h (Place.Goal g) home (subst (λ (o : Option Found). IsSomeAnd (option_map names_down_to o) (IsIn n)) (sym home) h.named)
    where
      home : home_of g roots ≡ Some d
      home = in_home g k roots d (stand v i).once (found_in d.content.name roots d h.there) held

  pub none_inside : IsDown i.table.config (stand v i) n f e i.site → HasNoRule v
  none_inside h = on v.place refl (below i.table.config (stand v i) n f e i.site h)
    where
      -- no rule applies where the place isn't ready
      none_ready : (IsReady all_rules v.table.program i.table.config v.place → ⊥) → HasNoRule v
      none_ready not_ready = has_none v i (λ l change place plain makes. not_ready (record {
        label = l;
        is_place = place;
        result = after i.table.config l i.site change;
        applies = record {
          in_force = plain.0;
          site = i.site;
          is_site = ap (λ (q : Place). site_of q roots) place ∙ i.is_site;
          change = change;
          makes = makes;
          result = refl;
        };
        counts = λ x. x.inconsistent (environment_consistent i.site h (below i.table.config (stand v i) n f e i.site h));
      }))

      itself : (m : Name) → v.place ≡ Place.Box m → f ≡ i.site → HasNoRule v
      itself m p q = has_none v i (λ l change place plain makes. none l (after i.table.config l i.site change) (record {
        in_force = plain.0;
        site = i.site;
        is_site = ap (λ (q : Place). site_of q roots) place ∙ i.is_site;
        change = change;
        makes = makes;
        result = refl;
      }) (place ∙ p ∙ ap Place.Box (box-itself m roots i.site (subst (λ (k : Place). site_of k roots ≡ Some i.site) p i.is_site) ∙ ap (λ (k : Found). k.content.name) (sym q) ∙ sym (box-itself n roots f e))) plain.1)

      on : (place : Place) → v.place ≡ place → (f ≡ i.site) ⊎ IsBelow i.table.config (stand v i) n f e i.site → HasNoRule v
      on (Place.Goal g) p b = none_ready (unready v.place (subst (λ (q : Place). StandsIn n roots q) (sym p)
          (subst (λ (o : Option Found). IsSomeAnd (option_map names_down_to o) (IsIn n)) (sym (subst (λ (k : Place). site_of k roots ≡ Some i.site) p i.is_site)) h.named)))
      on (Place.Box m) p (inl q) = itself m p q
      on (Place.Box m) p (inr b) = none_ready (unready v.place (subst (λ (q : Place). StandsIn n roots q) (sym p)
          (subst (λ (o : Option Found). IsSomeAnd (option_map names_around o) (IsIn n)) (sym (subst (λ (k : Place). site_of k roots ≡ Some i.site) p i.is_site)) (stands_under i.site h b.rest b.around))))

module _ (p : Program) (depth : ℕ) (i : Inside) (s : IsSeenInside p depth i) (none : (t : IsTableOf all_rules (run_of s.table s.journal) (table_of s.table)) → NoneAppliesAt all_rules s.table.program t.config (Place.Box s.name))
    (unready : NoneReadyInside s.table s.journal s.name) where
  abbrev NoneAt : TableValue → List Label → Type 0
  NoneAt t journal = (k : IsTableOf all_rules (run_of t journal) (table_of t)) → NoneAppliesAt all_rules t.program k.config (Place.Box s.name)

  at_view : (v : ViewValue) → IsViewInside s.table s.journal s.name s.worker v → HasNoRule v
  at_view v w = none_inside v w.seen s.name s.site (there p depth i s v w)
      (subst (λ (j : List Label). NoneAt v.table j) (sym w.labels) (subst (λ (t : TableValue). NoneAt t s.journal) (sym w.table) none) w.seen.table)
      ((subst (λ (j : List Label). NoneReadyInside v.table j s.name) (sym w.labels) (subst (λ (t : TableValue). NoneReadyInside t s.journal s.name) (sym w.table) unready)).none w.seen.table)
      (down p depth i s v w)

  pub still_inside : AllByRecursion HasNoRule i.views.items
  still_inside = every (IsViewInside s.table s.journal s.name s.worker) HasNoRule at_view i.views.items s.inside.views

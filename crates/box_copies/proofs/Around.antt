-- What stands around a box that is split keeps its names.
use Rattle.std.proofs.Common.{◌≡◌, ℕ, ◌+◌, ◌≤◌, ◌<◌, List, [], ◌∷◌, ◌++◌, map, Some, refl, sym, ap, ◌∙◌, subst, ◌⊎◌, inl, inr, arith}
use Rattle.std.specs.Prelude.{slice_index}
use Rattle.akl_terms.specs.declared.name.Name.{Name}
use Rattle.akl_terms.specs.declared.name.Place.{Place}
use Rattle.akl_model.specs.Config.{IsIn, Content, Boxes, Found, environment, box_at, site_of}
use Rattle.akl_model.specs.Names.{times_in}
use Rattle.akl_model.specs.Renaming.{renamed_equation}
use Rattle.akl_model.specs.Scopes.{nowhere}
use Rattle.akl_model.specs.Owned.{BoxesOwned}
use Rattle.akl_model.specs.Stable.{only}
use Rattle.akl_model.specs.Wakes.{names_around, names_down_to}
use Rattle.akl_model.proofs.Options.{some_value}
use Rattle.akl_model.proofs.Finds.{times, zero_or}
use Rattle.akl_model.proofs.NamesKept.{Stand, replay-stands, box-itself}
use Rattle.akl_model.proofs.Scoped.{IsIn-either}
use Rattle.akl_model.proofs.ScopesKept.{replay_owned}
use Rattle.akl_model.proofs.ScopesAlong.{scope_along, times_path, found_path, environment_scoped}
use Rattle.step_laws.proofs.Whereabouts.{found_in}
use Rattle.step_laws.proofs.Deeper.{Over, over, named_found}
use Rattle.table_laws.specs.Inside.{IsInside}
use Rattle.table_laws.specs.Unfolds.{IsBoxRow}
use Rattle.table_laws.specs.Copying.{IsNameCopied, AreNamesCopied, swapping}
use Rattle.table_laws.proofs.Insides.{IsUnder, under, named_counted}
use Rattle.table_laws.proofs.Swapping.{swap_other, equations_alike, equations_itself, frames_stand, ports_stand}
use Rattle.box_tree.specs.declared.inside.InnerBox.{InnerBox}
use Rattle.box_tree.specs.Tables.{all_rules, table_of}
use Rattle.box_tree.specs.Views.{ViewValue, IsViewOf}
use Rattle.box_tree.specs.Insides.{IsInnerBox, AreBoxesInside}
use Rattle.box_copies.specs.Made.{own_names, kept}
use Rattle.box_copies.proofs.Ordered.{owned_counted}
use Rattle.box_copies.proofs.Lists.{Among}
use Rattle.box_copies.proofs.Making.{is_inner, is_copied, copied_own, its_box, its_own}

path_less : (m : Name) (A B : List Content) → times_path m A ≤ times_path m (A ++ B)
path_less m [] B = omega arith
path_less m (b ∷ A) B = let h : times_path m A ≤ times_path m (A ++ B) = path_less m A B in omega arith

module _ (v : ViewValue) (seen : IsViewOf v) (boxes : List InnerBox) (n a : Name) (inside : AreBoxesInside v.table n boxes) (place : v.place ≡ Place.Box n) where
  abbrev roots : Boxes
  roots = seen.table.config.roots

  pub stand : Stand seen.table.config
  stand = replay-stands all_rules v.table.program v.table.query v.journal seen.table.config seen.table.replays

  pub there : box_at n seen.table.config.roots ≡ Some seen.site
  there = subst (λ (z : Place). site_of z seen.table.config.roots ≡ Some seen.site) place seen.is_site

  -- a box inside it has around it what it has, and more
  around_more : (m k : Name) (e : Found) → IsInside (table_of v.table) n k → box_at k roots ≡ Some e → times_path m seen.site.around ≤ times_path m e.around
  around_more m k e x b = on (IsIn-either n (names_around e) (e.content.name ∷ []) named)
    where
      u : IsUnder (table_of v.table) seen.table.config seen.table.unfolds stand.once n k
      u = under (table_of v.table) seen.table.config seen.table.unfolds stand.once n k seen.site there x

      named : IsIn n (names_down_to e)
      named = subst (λ (f : Found). IsIn n (names_down_to f)) (some_value (sym u.is_found ∙ b)) u.named

      same : n ≡ e.content.name → seen.site ≡ e
      same q = some_value (sym there ∙ ap (λ (z : Name). box_at z roots) (q ∙ sym (box-itself k roots e b)) ∙ b)

      on : IsIn n (names_around e) ⊎ IsIn n (e.content.name ∷ []) → times_path m seen.site.around ≤ times_path m e.around
      on (inr (inl q)) = subst (λ (f : Found). times_path m seen.site.around ≤ times_path m f.around) (same q) (omega arith)
      on (inr (inr z)) = absurd z
      on (inl j) =
          let o : Over n e roots = over n e roots (found_in k roots e b) j in
          let q : o.outer ≡ seen.site = some_value (sym (named_found roots stand.once n o.outer o.stands o.named) ∙ there) in
          let p : e.around ≡ seen.site.around ++ seen.site.content ∷ o.rest = subst (λ (f : Found). e.around ≡ f.around ++ f.content ∷ o.rest) q o.path in
          subst (λ (r : List Content). times_path m seen.site.around ≤ times_path m r) (sym p) (path_less m seen.site.around (seen.site.content ∷ o.rest))

  -- so none of the names around it is one that is copied
  not_copied : (m : Name) → 0 < times_path m seen.site.around → IsNameCopied (table_of v.table) n a m → ⊥
  not_copied m h c =
      let w : (b : InnerBox) × Among b (kept a boxes) × IsIn m (own_names b) = copied_own v seen boxes n a inside m c in
      let x : IsInnerBox v.table w.0 = is_inner v seen boxes n a inside w.0 w.1 in
      let e : (e : Found) × (box_at w.0.name roots ≡ Some e) × IsBoxRow (table_of v.table) roots e x.row = its_box v seen boxes n a inside w.0 w.1 in
      let own : 1 ≤ times m (only e.0) = owned_counted m [] e.0.content e.0.goals (only e.0) (inl (refl, refl, refl)) (its_own v seen boxes n a inside w.0 w.1 m w.2) in
      let both : times m (only e.0) + times_path m e.0.around ≤ times m roots = found_path m w.0.name roots e.0 e.1 in
      let o : times m roots ≤ 1 = stand.once m in
      let more : times_path m seen.site.around ≤ times_path m e.0.around = around_more m w.0.name e.0 (is_copied v seen boxes n a inside w.0 w.1).inside e.1 in
      omega arith

  module _ (names : List Name) (olds : AreNamesCopied (table_of v.table) n a names) where
    stays : (m : Name) → 0 < times_path m seen.site.around → swapping names v.worker v.next m ≡ m
    stays m h = swap_other names v.worker v.next m below none
      where
        below : m.worker ≡ v.worker → m.number < v.next
        below q =
            let p : times m (only seen.site) + times_path m seen.site.around ≤ times m roots = found_path m n roots seen.site there in
            let l : m.number < slice_index seen.table.config.next m.worker = stand.below m (omega arith) in
            subst (λ (k : ℕ). m.number < k) (ap (slice_index seen.table.config.next) q ∙ sym seen.next) l

        none : times_in m names ≡ 0
        none = elim (zero_or (times_in m names)) [ inl z ↦ z | inr z ↦ absurd (not_copied m h (olds.only m (named_counted m names z))) ]

    pub equations_stay : map (renamed_equation (swapping names v.worker v.next)) (environment seen.site) ≡ environment seen.site
    equations_stay = equations_alike (swapping names v.worker v.next) (λ (m : Name). m) (scope_along nowhere seen.site.around)
        (λ m h. stays m (frames_stand m seen.site.around h)) (λ m h. stays m (ports_stand m seen.site.around h)) (environment seen.site)
        (environment_scoped seen.table.config owned n seen.site there) ∙ equations_itself (environment seen.site)
      where
        owned : BoxesOwned nowhere seen.table.config.roots
        owned = replay_owned all_rules v.table.program v.table.query v.journal seen.table.config seen.table.replays

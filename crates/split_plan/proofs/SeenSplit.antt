-- What is seen of a box that may be split is enough to decide whether it is stable.
use Rattle.std.proofs.Common.{◌≡◌, ℕ, ◌-◌, ◌+◌, Bool, true, false, List, [], ◌∷◌, ◌++◌, length, take, refl, sym, ◌∙◌, ap, subst, arith, length-append}
use Rattle.std.proofs.lemmas.List.{length-map}
use Rattle.std.specs.Prelude.{IsTrue, ◌↔◌}
use Rattle.std.specs.List.{AllByRecursion}
use Rattle.akl_terms.specs.declared.name.Name.{Name}
use Rattle.akl_terms.specs.declared.name.Place.{Place}
use Rattle.akl_terms.specs.declared.program.Program.{Program}
use Rattle.akl_model.specs.Config.{Content}
use Rattle.akl_model.specs.Stable.{IsStable}
use Rattle.akl_model.specs.Wakes.{names_around}
use Rattle.box_tree.specs.declared.inside.Inside.{Inside}
use Rattle.box_tree.specs.Views.{ViewValue, IsViewOf}
use Rattle.box_tree.specs.Insides.{IsInsideOf}
use Rattle.guard_plan.specs.Planned.{HasNoRule}
use Rattle.stable_test.specs.Seen.{IsSeenInside}
use Rattle.stable_test.proofs.StillInside.{still_inside}
use Rattle.stable_test.proofs.StillRoot.{still_root}
use Rattle.box_copies.specs.Copies.{IsInsideOfBox, AreBoxesOf}
use Rattle.split_plan.specs.Split.{IsStill, HasNoSplit}
use Rattle.split_plan.proofs.CandidateRows.{there, no_split}

front_taken : (ns : List Name) (n : Name) → take (length ns) (ns ++ n ∷ []) ≡ ns
front_taken [] n = refl
front_taken (m ∷ ns) n = ap (λ (l : List Name). m ∷ l) (front_taken ns n)

pub boxes_of : (v : ViewValue) (inside : Inside) → IsInsideOfBox v inside → AreBoxesOf v inside.boxes.items
boxes_of v inside x = record { name = x.name; place = x.place; boxes = x.inside.boxes }

module _ (v : ViewValue) (i : IsViewOf v) where
  pub long : length v.path - 1 ≡ length (names_around i.site)
  long =
      let e : length v.path ≡ length (names_around i.site) + 1 = ap (λ (ns : List Name). length ns) i.path ∙ length-append (names_around i.site) (i.site.content.name ∷ []) in
      omega (arith, e)

  pub around_is : take (length v.path - 1) v.path ≡ names_around i.site
  around_is = (λ j. take (long j) (i.path j)) ∙ front_taken (names_around i.site) i.site.content.name

  abbrev pub seen_inside : (n : Name) → v.place ≡ Place.Box n → (inside : Inside) → IsInsideOf v.table v.journal n v.worker inside → (p : Program) → p ≡ v.table.program → (depth : ℕ) → depth ≡ length v.path - 1 → IsSeenInside p depth inside
  seen_inside n e inside x p same depth d = record {
    table = v.table;
    of_program = sym same;
    journal = v.journal;
    run = i.table;
    name = n;
    worker = v.worker;
    inside = x;
    site = i.site;
    is_site = there v i n e;
    deep = sym (length-map i.site.around (λ (b : Content). b.name)) ∙ sym long ∙ sym d;
  }

  -- no rule applies at any place that is seen
  pub all_still : (inside : Inside) → IsInsideOfBox v inside → (p : Program) → p ≡ v.table.program → (depth : ℕ) → depth ≡ length v.path - 1 → IsStill v → AllByRecursion HasNoRule inside.views.items
  all_still inside x p same depth d still = still_inside p depth inside (seen_inside x.name x.place inside x.inside p same depth d)
      (λ t l e a q n. still.none.none t l e a (q ∙ sym x.place) n) (still.inside x.name x.place)

  -- a box that isn't stable isn't split
  pub unstable : (inside : Inside) → IsInsideOfBox v inside → (p : Program) → p ≡ v.table.program → (depth : ℕ) → depth ≡ length v.path - 1 → (stable : Bool)
      → ((s : IsSeenInside p depth inside) → IsTrue stable ↔ IsStable p s.site) → stable ≡ false → HasNoSplit v
  unstable inside x p same depth d stable h e = no_split v i x.name x.place (λ a s k.
      let t : stable ≡ true = (h (seen_inside x.name x.place inside x.inside p same depth d)).1 (subst (λ (q : Program). IsStable q i.site) (sym same) s) in
      let z : false ≡ true = sym e ∙ t in cc)

  -- a root box where no rule applies and no place inside is ready is stable
  pub still_site : length v.path ≡ 1 → IsStill v → (n : Name) → v.place ≡ Place.Box n → IsStable v.table.program i.site
  still_site alone still n e = still_root v i n (there v i n e) deep (λ l d a q split. still.none.none i.table l d a (q ∙ sym e) split) ((still.inside n e).none i.table)
    where
      deep : length i.site.around ≡ 0
      deep = let k : length v.path - 1 ≡ length i.site.around = long ∙ length-map i.site.around (λ (b : Content). b.name) in omega (arith, alone, k)

  pub stable_site : (inside : Inside) → IsInsideOfBox v inside → (p : Program) → p ≡ v.table.program → (depth : ℕ) → depth ≡ length v.path - 1 → (stable : Bool)
      → ((s : IsSeenInside p depth inside) → IsTrue stable ↔ IsStable p s.site) → stable ≡ true → IsStable v.table.program i.site
  stable_site inside x p same depth d stable h e = subst (λ (q : Program). IsStable q i.site) same ((h (seen_inside x.name x.place inside x.inside p same depth d)).0 e)

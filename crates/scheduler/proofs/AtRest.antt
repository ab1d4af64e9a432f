-- From an open box on, what stands open in it stands deeper.
use Rattle.std.proofs.Common.{◌≡◌, ℕ, suc, ◌+◌, ◌-◌, ◌<◌, Bool, true, List, [], ◌∷◌, length, reverse, ◌≤◌, Option, Some, None, refl, sym, ◌∙◌, ap, subst, arith}
use Rattle.std.proofs.lemmas.List.{length-append, length-reverse}
use Rattle.std.specs.Prelude.{◌||◌, option_map, IfNone}
use Rattle.akl_terms.specs.declared.name.Name.{Name}
use Rattle.akl_terms.specs.declared.name.Place.{Place}
use Rattle.akl_terms.proofs.SameNames.{same_name-refl}
use Rattle.akl_model.specs.Config.{IsIn, Boxes}
use Rattle.akl_model.specs.Wakes.{boxes_around, StandsIn}
use Rattle.akl_model.proofs.Options.{some_value, some_and}
use Rattle.box_tree.specs.Tables.{TableValue}
use Rattle.wake_lists.specs.Open.{Opening, Openings, opening_at, closed, IsFirst}
use Rattle.wake_lists.specs.Standing.{is_in}
use Rattle.scheduler.specs.Resting.{IsOpenAtRest, IsInsideOf, IsInsideAt}
use Rattle.scheduler.specs.Schedulers.{SchedulerValue, IsScheduler}
use Rattle.scheduler.specs.Weights.{weight}
use Rattle.scheduler.proofs.OpeningLists.{some_none}
use Rattle.scheduler.proofs.CommitFacts.{stands_there}
use Rattle.scheduler.proofs.Outwards.{WayOut, way_out, WayThrough, way_through}
use Rattle.scheduler.proofs.Weights.{closed_weight}
use Rattle.step_commit.specs.Cores.{run_by}

abbrev boxes_in : Option Opening → List Name
boxes_in None = []
boxes_in (Some o) = o.boxes

-- how much deeper an open place can stand at most
abbrev pub depth_left : Openings → ℕ → ℕ
depth_left os t = weight os - length (boxes_in (opening_at t os))

left_less : (os : Openings) (t u : ℕ) (o k : Opening) → opening_at t os ≡ Some o → opening_at u os ≡ Some k → length o.boxes < length k.boxes → depth_left os u < depth_left os t
left_less os t u o k e f l =
    let a : length (boxes_in (opening_at t os)) ≡ length o.boxes = ap (λ (x : Option Opening). length (boxes_in x)) e in
    let b : length (boxes_in (opening_at u os)) ≡ length k.boxes = ap (λ (x : Option Opening). length (boxes_in x)) f in
    let w : weight os ≡ suc (length k.boxes) + weight (closed u os) = closed_weight u k os f in
    omega (arith, a, b, l, w)

module _ (s : SchedulerValue) (i : IsScheduler s) where
  abbrev v : TableValue
  v = s.core.table

  abbrev roots : Boxes
  roots = i.core.table.config.roots

  -- those around a box, if it is there; one that has gone stands in none
  around_box : (n : Name) (t : ℕ) (o : Opening) → opening_at t s.openings ≡ Some o → o.place ≡ Place.Box n → (names : List Name) → ((ns : List Name) → boxes_around (Place.Box n) roots ≡ Some ns → ns ≡ reverse names) → length o.boxes ≤ length names
  around_box n t o e p names w = on o.boxes refl
    where
      on : (ms : List Name) → o.boxes ≡ ms → length o.boxes ≤ length names
      on [] f = let z : length o.boxes ≡ 0 = ap length f in omega (arith, z)
      on (m ∷ ms) f =
          let h : StandsIn m roots o.place = i.standing.only t o m e (ap (is_in m) f ∙ ap (λ (b : Bool). b || is_in m ms) (same_name-refl m)) in
          let listed : boxes_around (Place.Box n) roots ≡ Some o.boxes = ap (λ (q : Place). boxes_around q roots) (sym p) ∙ i.standing.listed t o e (stands_there m roots o.place h) in
          let same : length o.boxes ≡ length (reverse names) = ap length (w o.boxes listed) in
          let long : length (reverse names) ≡ length names = length-reverse names in
          omega (arith, same, long)

  pub deeper : (n : Name) (t u : ℕ) (o k : Opening) → opening_at t s.openings ≡ Some o → o.place ≡ Place.Box n → opening_at u s.openings ≡ Some k → is_in n k.boxes ≡ true → depth_left s.openings u < depth_left s.openings t
  deeper n t u o k e p f h =
      let x : StandsIn n roots k.place = i.standing.only u k n f h in
      let y : (ns : List Name) × (boxes_around k.place roots ≡ Some ns) × IsIn n ns = some_and (IsIn n) (boxes_around k.place roots) x in
      let listed : k.boxes ≡ y.0 = some_value (sym (i.standing.listed u k f (stands_there n roots k.place x)) ∙ y.1) in
      let w : WayOut v (run_by s.core) i.core.table (Place.Box n) = way_out v (run_by s.core) i.core.table (Place.Box n) in
      let z : WayThrough v (run_by s.core) i.core.table n y.0 w.names = way_through v (run_by s.core) i.core.table n w.names w.outward k.place y.0 y.1 y.2 in
      let few : length o.boxes ≤ length w.names = around_box n t o e p w.names w.around in
      let a : length k.boxes ≡ length z.outer + suc (length z.inner) = ap length (listed ∙ z.parts) ∙ length-append z.outer (n ∷ z.inner) in
      let b : length z.outer ≡ length w.names = sym (length-reverse z.outer) ∙ ap length z.same in
      left_less s.openings t u o k e f (omega (arith, few, a, b))

-- a token leads to an open place
abbrev pub IsToken : Openings → ℕ → Type 0
IsToken os t = (o : Opening) × (opening_at t os ≡ Some o)

pub first_token : (os : Openings) (r : Option ℕ) (t : ℕ) → IsFirst os r → r ≡ Some t → IsToken os t
first_token os r t f e = let w : IsFirst os (Some t) = subst (IsFirst os) e f in (w.0, w.1)

pub inner_token : (s : SchedulerValue) → IsScheduler s → (t u : ℕ) (r : Option ℕ) → IsToken s.openings t → IsInsideAt s.openings t r → r ≡ Some u → IsToken s.openings u × (depth_left s.openings u < depth_left s.openings t)
inner_token s i t u r w h e = on w.0.place refl (subst (IsInsideOf s.openings w.0.place) e (h w.0 w.1))
  where
    on : (p : Place) → w.0.place ≡ p → IsInsideOf s.openings p (Some u) → IsToken s.openings u × (depth_left s.openings u < depth_left s.openings t)
    on (Place.Goal g) q x = let z : Some u ≡ None = x in absurd cc
    on (Place.Box n) q x = ((x.0, x.1), deeper s i n t u w.0 x.0 w.1 q x.1 x.2)

pub rests : (os : Openings) (t : ℕ) (p : Place) (r : Option ℕ) → IsToken os t → IsInsideAt os t r → r ≡ None → Some p ≡ option_map (λ (o : Opening). o.place) (opening_at t os) → IsOpenAtRest os (t, p)
rests os t p r w h e f =
    let q : p ≡ w.0.place = some_value (f ∙ ap (option_map (λ (o : Opening). o.place)) w.1) in
    let x : IsInsideOf os w.0.place None = subst (IsInsideOf os w.0.place) e (h w.0 w.1) in
    record { opening = w.0; is_open = w.1; of_place = sym q; at_rest = λ n g. subst (λ (k : Place). IsInsideOf os k None) (sym q ∙ g) x }

pub token_leads : (os : Openings) (t : ℕ) → IsToken os t → None ≡ option_map (λ (o : Opening). o.place) (opening_at t os) → ⊥
token_leads os t w f = some_none (ap (option_map (λ (o : Opening). o.place)) w.1) (sym f)

-- where a place is found under a token, or none is
pub has_token : (os : Openings) (t : ℕ) (p : Place) → Some p ≡ option_map (λ (o : Opening). o.place) (opening_at t os) → IsToken os t
has_token os t p e = on (opening_at t os) refl
  where
    on : (o : Option Opening) → opening_at t os ≡ o → IsToken os t
    on None f = let none : Some p ≡ None = e ∙ ap (option_map (λ (o : Opening). o.place)) f in absurd cc
    on (Some o) f = (o, f)

pub no_token : (os : Openings) (t : ℕ) → None ≡ option_map (λ (o : Opening). o.place) (opening_at t os) → opening_at t os ≡ None
no_token os t e = on (opening_at t os) refl
  where
    on : (o : Option Opening) → opening_at t os ≡ o → opening_at t os ≡ None
    on None f = f
    on (Some o) f = absurd (some_none (ap (option_map (λ (o : Opening). o.place)) f) (sym e))

-- an open place is found at rest
pub found_at_rest : (os : Openings) (t : ℕ) (Q : Type 0) → IsToken os t → (r : Option (ℕ × Place)) → IfNone r (opening_at t os ≡ None) → IfNone r Q
found_at_rest os t Q w None e = absurd (some_none w.1 e)
found_at_rest os t Q w (Some x) e = e

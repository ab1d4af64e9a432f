-- What is kept of open places as what they are, when one comes, goes or leaves its boxes.
use Rattle.std.proofs.Common.{◌≡◌, ℕ, ◌+◌, ◌<◌, ◌≤◌, drop, get_or, Bool, true, false, List, [], ◌∷◌, length, Option, Some, None, refl, sym, ap, ◌∙◌, arith, ◌⊎◌, inl, inr}
use Rattle.std.proofs.lemmas.Bool.Decides.{nat_tests}
use Rattle.std.proofs.lemmas.List.{at_drop_more}
use Rattle.std.proofs.Math.ListN.{drop_of_length-le}
use Rattle.std.proofs.lemmas.Cmp.{nat_cmp_total}
use Rattle.std.proofs.lemmas.Map.{lookup-none}
use Rattle.std.proofs.lemmas.Map.Entries.{none_below_head}
use Rattle.std.proofs.lemmas.Map.Keys.{sorted_head, sorted_tail}
use Rattle.std.specs.Prelude.{cond, if◌then◌else◌, ◌||◌, ◌==◌, option_map, is_some}
use Rattle.std.specs.Option.{IfSome, IfNone}
use Rattle.std.specs.List.{AllByRecursion}
use Rattle.std.specs.List.Sorted.{IsStrictlySortedBy}
use Rattle.std.specs.Map.{lookup, remove_entry, keys_of}
use Rattle.std.specs.BTreeMap.{insert_entry, is_at}
use Rattle.std.specs.Ordering.{nat_cmp, is_eq, match_ordering}
use Rattle.std.specs.declared.cmp.Ordering.{Ordering}
use Rattle.std.specs.declared.cmp.Ordering.TheVariants.{Less, Equal, Greater}
use Rattle.akl_terms.specs.declared.name.Name.{Name}
use Rattle.akl_terms.specs.declared.name.Place.{Place}
use Rattle.wake_lists.specs.declared.turn.Turn.{Turn}
use Rattle.wake_lists.specs.declared.turn.Opened.{Opened}
use Rattle.wake_lists.specs.Waits.{same_place}
use Rattle.wake_lists.specs.Standing.{is_in, boxes_at}
use Rattle.wake_lists.specs.Queue.{is_earlier, Places, IsTokenOf, IsNext}
use Rattle.wake_lists.specs.Open.{Opening, Openings, opening_at, untimed, IsOpen, IsFirst, after_one, after_leave, is_busy, IsInside}
use Rattle.wake_lists.specs.Opened.{opening, openings}
use Rattle.wake_lists.proofs.Keys.{token_is, token_equal, token_here}
use Rattle.wake_lists.proofs.Both.{same_place-equal}
use Rattle.wake_lists.proofs.Leading.{none_some, not_both}
use lib.Dec.{eqb}

abbrev pub Boxes : Type 0
Boxes = List (List Name)

pub opening_is : (bs : Boxes) (os : Places) (t : ℕ) → opening_at t (openings bs os) ≡ option_map (opening (boxes_at t bs)) (lookup (eqb t) os)
opening_is bs [] t = refl
opening_is bs (e ∷ es) t = on (eqb t e.0) refl (opening_is bs es t)
  where
    on : (s : Bool) → eqb t e.0 ≡ s → opening_at t (openings bs es) ≡ option_map (opening (boxes_at t bs)) (lookup (eqb t) es)
        → cond s (Some (opening (boxes_at e.0 bs) e.1)) (opening_at t (openings bs es)) ≡ option_map (opening (boxes_at t bs)) (cond s (Some e.1) (lookup (eqb t) es))
    on true f r = ap (λ (k : ℕ). Some (opening (boxes_at k bs) e.1)) (sym (token_equal t e.0 f))
    on false f r = r

module _ (bs : Boxes) (os : Places) where
  pub opened : (t : ℕ) (o : Opened) → lookup (eqb t) os ≡ Some o → opening_at t (openings bs os) ≡ Some (opening (boxes_at t bs) o)
  opened t o e = opening_is bs os t ∙ ap (option_map (opening (boxes_at t bs))) e

  pub not_opened : (t : ℕ) → lookup (eqb t) os ≡ None → opening_at t (openings bs os) ≡ None
  not_opened t e = opening_is bs os t ∙ ap (option_map (opening (boxes_at t bs))) e

  -- what is open is kept so
  pub kept_as : (t : ℕ) (q : Opening) → opening_at t (openings bs os) ≡ Some q → (o : Opened) × (lookup (eqb t) os ≡ Some o) × (q ≡ opening (boxes_at t bs) o)
  kept_as t q e = on (lookup (eqb t) os) refl (sym (opening_is bs os t) ∙ e)
    where
      one : (a b : Opening) → Some a ≡ Some b → b ≡ a
      one a b f = cc

      on : (w : Option Opened) → lookup (eqb t) os ≡ w → option_map (opening (boxes_at t bs)) w ≡ Some q → (o : Opened) × (lookup (eqb t) os ≡ Some o) × (q ≡ opening (boxes_at t bs) o)
      on None f g = none_some q g
      on (Some o) f g = (o, f, one (opening (boxes_at t bs) o) q g)

  -- what is kept of a place besides its boxes
  pub part_is : {X : Type 0} (part : Place → Turn → X) (t : ℕ) (r : Option Opened) → r ≡ lookup (eqb t) os
      → option_map (λ (o : Opened). part o.place o.turn) r ≡ option_map (λ (o : Opening). part o.place o.turn) (opening_at t (openings bs os))
  part_is {X} part t r e = on r ∙ ap (λ (w : Option Opened). option_map of_opening (option_map (opening (boxes_at t bs)) w)) e ∙ ap (option_map of_opening) (sym (opening_is bs os t))
    where
      of_opening : Opening → X
      of_opening o = part o.place o.turn

      on : (w : Option Opened) → option_map (λ (o : Opened). part o.place o.turn) w ≡ option_map (λ (o : Opening). part o.place o.turn) (option_map (opening (boxes_at t bs)) w)
      on None = refl
      on (Some o) = refl

  pub open_is : (place : Place) (r : Option ℕ) → IsTokenOf os place r → IsOpen (openings bs os) place r
  open_is place r h = record {
    there = λ t q e p. let k = kept_as t q e in h.there t k.0 k.1 (ap (λ (o : Opening). o.place) (sym k.2) ∙ p);
    back = λ t e. let b = h.back t e in (opening (boxes_at t bs) b.0, opened t b.0 b.1, b.2);
  }

  pub first_is : (r : Option ℕ) → IsNext os r → IsFirst (openings bs os) r
  first_is None h = ap (openings bs) h
  first_is (Some t) h = (
    opening (boxes_at t bs) h.0,
    opened t h.0 h.1,
    λ s q e.
        let k = kept_as s q e in
        on s (h.2 s k.0 k.1) q k.2,
  )
    where
      on : (s : ℕ) {p : Opened} → (s ≡ t) ⊎ (is_earlier h.0.turn p.turn ≡ true) → (q : Opening) → q ≡ opening (boxes_at s bs) p → (s ≡ t) ⊎ (is_earlier h.0.turn q.turn ≡ true)
      on s (inl e) q f = inl e
      on s (inr e) q f = inr (ap (λ (o : Opening). is_earlier h.0.turn o.turn) f ∙ e)

-- the boxes of a token that no open place has change
pub openings_apart : (bs cs : Boxes) (t : ℕ) (ns : List Name) (os : Places) → lookup (eqb t) os ≡ None → ((s : ℕ) → boxes_at s cs ≡ (if s == t then ns else boxes_at s bs)) → openings cs os ≡ openings bs os
openings_apart bs cs t ns [] e h = refl
openings_apart bs cs t ns (f ∷ fs) e h = on (eqb t f.0) refl e (openings_apart bs cs t ns fs)
  where
    on : (s : Bool) → eqb t f.0 ≡ s → cond s (Some f.1) (lookup (eqb t) fs) ≡ None
        → (lookup (eqb t) fs ≡ None → ((s : ℕ) → boxes_at s cs ≡ (if s == t then ns else boxes_at s bs)) → openings cs fs ≡ openings bs fs) → openings cs (f ∷ fs) ≡ openings bs (f ∷ fs)
    on true g e r = none_some f.1 (sym e)
    on false g e r =
        let differs : (f.0 == t) ≡ false = grind (arith, nat_tests) in
        let same : boxes_at f.0 cs ≡ boxes_at f.0 bs = h f.0 ∙ (λ i. if differs i then ns else boxes_at f.0 bs) in
        let rest : openings cs fs ≡ openings bs fs = r e h in
        λ i. (f.0, opening (same i) f.1) ∷ rest i

pub openings_put : (bs : Boxes) (os : Places) (t : ℕ) (o : Opened) → openings bs (insert_entry nat_cmp os t o) ≡ insert_entry nat_cmp (openings bs os) t (opening (boxes_at t bs) o)
openings_put bs [] t o = refl
openings_put bs (e ∷ es) t o = on (nat_cmp t e.0) refl (openings_put bs es t o)
  where
    on : (c : Ordering) → nat_cmp t e.0 ≡ c → openings bs (insert_entry nat_cmp es t o) ≡ insert_entry nat_cmp (openings bs es) t (opening (boxes_at t bs) o)
        → openings bs (match_ordering c ((t, o) ∷ e ∷ es) ((e.0, o) ∷ es) (e ∷ insert_entry nat_cmp es t o))
        ≡ match_ordering c ((t, opening (boxes_at t bs) o) ∷ openings bs (e ∷ es)) ((e.0, opening (boxes_at t bs) o) ∷ openings bs es) ((e.0, opening (boxes_at e.0 bs) e.1) ∷ insert_entry nat_cmp (openings bs es) t (opening (boxes_at t bs) o))
    on Less f r = refl
    on Equal f r = let same : t ≡ e.0 = token_equal t e.0 (sym (token_is t e.0) ∙ ap is_eq f) in ap (λ (k : ℕ). (e.0, opening (boxes_at k bs) o) ∷ openings bs es) (sym same)
    on Greater f r = ap (λ (l : Openings). (e.0, opening (boxes_at e.0 bs) e.1) ∷ l) r

pub openings_out : (bs : Boxes) (os : Places) (t : ℕ) → openings bs (remove_entry (eqb t) os) ≡ remove_entry (eqb t) (openings bs os)
openings_out bs [] t = refl
openings_out bs (e ∷ es) t = on (eqb t e.0) (openings_out bs es t)
  where
    on : (s : Bool) → openings bs (remove_entry (eqb t) es) ≡ remove_entry (eqb t) (openings bs es)
        → openings bs (cond s es (e ∷ remove_entry (eqb t) es)) ≡ cond s (openings bs es) ((e.0, opening (boxes_at e.0 bs) e.1) ∷ remove_entry (eqb t) (openings bs es))
    on true r = refl
    on false r = ap (λ (l : Openings). (e.0, opening (boxes_at e.0 bs) e.1) ∷ l) r

neither : (a b : Bool) → a ≡ false → b ≡ false → (a || b) ≡ false
neither true b e f = e
neither false b e f = f

-- an open place that gets another turn stays the same otherwise
pub untimed_put : (bs : Boxes) (t : ℕ) (o : Opened) (u : Turn) (os : Places) → IsStrictlySortedBy nat_cmp (keys_of os) → lookup (eqb t) os ≡ Some o
    → untimed (openings bs (insert_entry nat_cmp os t (record o { turn = u }))) ≡ untimed (openings bs os)
untimed_put bs t o u [] s e = none_some o e
untimed_put bs t o u (f ∷ fs) s e = on (nat_cmp t f.0) refl (untimed_put bs t o u fs (sorted_tail nat_cmp f.0 (keys_of fs) s))
  where
    here : (b : Bool) → eqb t f.0 ≡ b → nat_cmp t f.0 ≡ Equal → cond b (Some f.1) (lookup (eqb t) fs) ≡ Some o → f.1 ≡ o
    here true g h e = cc
    here false g h e = not_both (eqb t f.0) (sym (token_is t f.0) ∙ ap is_eq h) g

    later : (b : Bool) → eqb t f.0 ≡ b → nat_cmp t f.0 ≡ Greater → cond b (Some f.1) (lookup (eqb t) fs) ≡ Some o → lookup (eqb t) fs ≡ Some o
    later true g h e = not_both (eqb t f.0) g (sym (token_is t f.0) ∙ ap is_eq h)
    later false g h e = e

    on : (c : Ordering) → nat_cmp t f.0 ≡ c → (lookup (eqb t) fs ≡ Some o → untimed (openings bs (insert_entry nat_cmp fs t (record o { turn = u }))) ≡ untimed (openings bs fs))
        → untimed (openings bs (match_ordering c ((t, record o { turn = u }) ∷ f ∷ fs) ((f.0, record o { turn = u }) ∷ fs) (f ∷ insert_entry nat_cmp fs t (record o { turn = u })))) ≡ untimed (openings bs (f ∷ fs))
    on Less g r =
        let none : lookup (eqb t) (f ∷ fs) ≡ None = (λ i. lookup (λ k. sym (token_is t k) i) (f ∷ fs)) ∙ lookup-none (is_at (nat_cmp t)) (f ∷ fs) (none_below_head nat_cmp_total t f fs s g) in
        none_some o (sym none ∙ e)
    on Equal g r = ap (λ (p : Opened). (f.0, p.place, boxes_at f.0 bs) ∷ untimed (openings bs fs)) (sym (here (eqb t f.0) refl g e))
    on Greater g r = ap (λ (l : List (ℕ × Place × List Name)). (f.0, f.1.place, boxes_at f.0 bs) ∷ l) (r (later (eqb t f.0) refl g e))

-- a token that stands in a box is that of an open place
module _ (n : Name) (bs : Boxes) where
  pub busy_from : (os : Places) (t : ℕ) (o : Opened) → lookup (eqb t) os ≡ Some o → is_in n (boxes_at t bs) ≡ true → is_busy n (openings bs os) ≡ true
  busy_from [] t o e h = none_some o e
  busy_from (f ∷ fs) t o e h = on (eqb t f.0) refl e (λ g. busy_from fs t o g h)
    where
      first : (a b : Bool) → a ≡ true → (a || b) ≡ true
      first true b g = refl
      first false b g = absurd (cc)

      second : (a b : Bool) → b ≡ true → (a || b) ≡ true
      second true b g = refl
      second false b g = g

      on : (s : Bool) → eqb t f.0 ≡ s → cond s (Some f.1) (lookup (eqb t) fs) ≡ Some o → (lookup (eqb t) fs ≡ Some o → is_busy n (openings bs fs) ≡ true) → (is_in n (boxes_at f.0 bs) || is_busy n (openings bs fs)) ≡ true
      on true g e r = first (is_in n (boxes_at f.0 bs)) (is_busy n (openings bs fs)) (ap (λ (k : ℕ). is_in n (boxes_at k bs)) (sym (token_equal t f.0 g)) ∙ h)
      on false g e r = second (is_in n (boxes_at f.0 bs)) (is_busy n (openings bs fs)) (r e)

  pub idle_from : (os : Places) → ((t : ℕ) → is_in n (boxes_at t bs) ≡ false) → is_busy n (openings bs os) ≡ false
  idle_from [] h = refl
  idle_from (f ∷ fs) h = neither (is_in n (boxes_at f.0 bs)) (is_busy n (openings bs fs)) (h f.0) (idle_from fs h)

  pub busy_is : (os : Places) → ((t : ℕ) → lookup (eqb t) os ≡ None → boxes_at t bs ≡ []) → (r : Option ℕ) → IfSome r (λ t. is_in n (boxes_at t bs) ≡ true) → IfNone r ((t : ℕ) → is_in n (boxes_at t bs) ≡ false)
      → is_some r ≡ is_busy n (openings bs os)
  busy_is os closed None there empty = sym (idle_from os empty)
  busy_is os closed (Some t) there empty = on (lookup (eqb t) os) refl
    where
      on : (w : Option Opened) → lookup (eqb t) os ≡ w → true ≡ is_busy n (openings bs os)
      on None e = let no : false ≡ true = sym (ap (is_in n) (closed t e)) ∙ there in absurd (cc)
      on (Some o) e = sym (busy_from os t o e there)

  pub inside_is : (os : Places) → ((t : ℕ) → lookup (eqb t) os ≡ None → boxes_at t bs ≡ []) → (r : Option ℕ) → IfSome r (λ t. is_in n (boxes_at t bs) ≡ true) → IfNone r ((t : ℕ) → is_in n (boxes_at t bs) ≡ false)
      → IsInside n (openings bs os) r
  inside_is os closed None there empty = idle_from os empty
  inside_is os closed (Some t) there empty = on (lookup (eqb t) os) refl
    where
      on : (w : Option Opened) → lookup (eqb t) os ≡ w → IsInside n (openings bs os) (Some t)
      on None e = let no : false ≡ true = sym (ap (is_in n) (closed t e)) ∙ there in absurd (cc)
      on (Some o) e = (opening (boxes_at t bs) o, opened bs os t o e, there)

  -- where one token is taken out
  module _ (token : ℕ) where
    kept_there : (os : Places) (t : ℕ) → (t ≡ token → ⊥) → lookup (eqb t) (remove_entry (eqb token) os) ≡ lookup (eqb t) os
    kept_there [] t differs = refl
    kept_there (f ∷ fs) t differs = on (eqb token f.0) refl (kept_there fs t differs)
      where
        apart : (s : Bool) → eqb t f.0 ≡ s → eqb token f.0 ≡ true → s ≡ false
        apart false e g = refl
        apart true e g = absurd (differs (token_equal t f.0 e ∙ sym (token_equal token f.0 g)))

        on : (s : Bool) → eqb token f.0 ≡ s → lookup (eqb t) (remove_entry (eqb token) fs) ≡ lookup (eqb t) fs
            → lookup (eqb t) (cond s fs (f ∷ remove_entry (eqb token) fs)) ≡ cond (eqb t f.0) (Some f.1) (lookup (eqb t) fs)
        on true g r = λ i. cond (sym (apart (eqb t f.0) refl g) i) (Some f.1) (lookup (eqb t) fs)
        on false g r = ap (cond (eqb t f.0) (Some f.1)) r

    -- it alone stands in the box
    module _ (one : (t : ℕ) → is_in n (boxes_at t bs) ≡ true → t ≡ token) where
      idle_at : (k : ℕ) → eqb token k ≡ false → is_in n (boxes_at k bs) ≡ false
      idle_at k e = on (is_in n (boxes_at k bs)) refl
        where
          on : (s : Bool) → is_in n (boxes_at k bs) ≡ s → s ≡ false
          on false h = refl
          on true h = not_both (eqb token k) (ap (eqb token) (one k h) ∙ token_here token) e

      idle_past : (k : ℕ) → eqb token k ≡ true → (fs : Places) → AllByRecursion (λ (m : ℕ). nat_cmp k m ≡ Less) (keys_of fs) → is_busy n (openings bs fs) ≡ false
      idle_past k e [] a = refl
      idle_past k e (f ∷ fs) a = neither (is_in n (boxes_at f.0 bs)) (is_busy n (openings bs fs)) (idle_at f.0 (apart f.0 a.0)) (idle_past k e fs a.1)
        where
          apart : (m : ℕ) → nat_cmp k m ≡ Less → eqb token m ≡ false
          apart m g = grind (arith, nat_tests)

      idle_without : (os : Places) → IsStrictlySortedBy nat_cmp (keys_of os) → is_busy n (openings bs (remove_entry (eqb token) os)) ≡ false
      idle_without [] s = refl
      idle_without (f ∷ fs) s = on (eqb token f.0) refl (idle_without fs (sorted_tail nat_cmp f.0 (keys_of fs) s))
        where
          on : (b : Bool) → eqb token f.0 ≡ b → is_busy n (openings bs (remove_entry (eqb token) fs)) ≡ false → is_busy n (openings bs (cond b fs (f ∷ remove_entry (eqb token) fs))) ≡ false
          on true e r = idle_past f.0 e fs (sorted_head nat_cmp f.0 (keys_of fs) s)
          on false e r = neither (is_in n (boxes_at f.0 bs)) (is_busy n (openings bs (remove_entry (eqb token) fs))) (idle_at f.0 e) r

    pub busy_without_is : (os : Places) → IsStrictlySortedBy nat_cmp (keys_of os) → ((t : ℕ) → lookup (eqb t) os ≡ None → boxes_at t bs ≡ [])
        → (r : Option ℕ) → IfSome r (λ t. is_in n (boxes_at t bs) ≡ true) → IfSome r (λ t. t ≡ token → ⊥) → IfNone r ((t : ℕ) → is_in n (boxes_at t bs) ≡ true → t ≡ token)
        → is_some r ≡ is_busy n (openings bs (remove_entry (eqb token) os))
    busy_without_is os s closed None there other one = sym (idle_without one os s)
    busy_without_is os s closed (Some t) there other one = on (lookup (eqb t) os) refl
      where
        on : (w : Option Opened) → lookup (eqb t) os ≡ w → true ≡ is_busy n (openings bs (remove_entry (eqb token) os))
        on None e = let no : false ≡ true = sym (ap (is_in n) (closed t e)) ∙ there in absurd (cc)
        on (Some o) e = sym (busy_from (remove_entry (eqb token) os) t o (kept_there os t other ∙ e) there)

-- each entry of keys in order is what its key leads to
abbrev pub AllFound : (ℕ → Option Opened) → Places → Type 0
AllFound find os = AllByRecursion (λ (e : ℕ × Opened). find e.0 ≡ Some e.1) os

pub all_found : (os : Places) → IsStrictlySortedBy nat_cmp (keys_of os) → AllFound (λ t. lookup (eqb t) os) os
all_found [] s = tt
all_found (e ∷ es) s = (λ i. if token_here e.0 i then Some e.1 else lookup (eqb e.0) es, later es (sorted_head nat_cmp e.0 (keys_of es) s) (all_found es (sorted_tail nat_cmp e.0 (keys_of es) s)))
  where
    later : (fs : Places) → AllByRecursion (λ (k : ℕ). nat_cmp e.0 k ≡ Less) (keys_of fs) → AllFound (λ t. lookup (eqb t) es) fs → AllFound (λ t. lookup (eqb t) (e ∷ es)) fs
    later [] a h = tt
    later (f ∷ fs) a h = let differs : eqb f.0 e.0 ≡ false = apart f.0 a.0 in ((λ i. if differs i then Some e.1 else lookup (eqb f.0) es) ∙ h.0, later fs a.1 h.1)
      where
        apart : (k : ℕ) → nat_cmp e.0 k ≡ Less → eqb k e.0 ≡ false
        apart k g = grind (arith, nat_tests)

-- a box leaves
module _ (n : Name) (bs cs ds : Boxes) (os : Places) (ordered : IsStrictlySortedBy nat_cmp (keys_of os)) where
  -- its own place, where it is open, after those that stand in it
  abbrev pub IsOut : Option ℕ → Type 0
  IsOut None = (t : ℕ) → boxes_at t ds ≡ boxes_at t cs
  IsOut (Some token) = (t : ℕ) → boxes_at t ds ≡ (if t == token then [] else boxes_at t cs)

  pub left_is : (r : Option ℕ) → IsTokenOf os (Place.Box n) r → ((t : ℕ) → boxes_at t cs ≡ (if is_in n (boxes_at t bs) then [] else boxes_at t bs)) → IsOut r → openings ds os ≡ after_one n (openings bs os)
  left_is r own left out = all os (all_found os ordered)
    where
      same_box : (m : Name) → same_place (Place.Box m) (Place.Box m) ≡ true
      same_box m = grind (arith, nat_tests)

      the : (a b : ℕ) → Some a ≡ Some b → a ≡ b
      the a b g = cc

      one_place : (p q : Opened) → Some p ≡ Some q → p.place ≡ q.place
      one_place p q g = let same : p ≡ q = cc in ap (λ (o : Opened). o.place) same

      -- the boxes of one place
      one : (t : ℕ) (o : Opened) → lookup (eqb t) os ≡ Some o → boxes_at t ds ≡ (if same_place (Place.Box n) o.place || is_in n (boxes_at t bs) then [] else boxes_at t bs)
      one t o e = on r own out (same_place (Place.Box n) o.place) refl
        where
          on : (r : Option ℕ) → IsTokenOf os (Place.Box n) r → IsOut r → (b : Bool) → same_place (Place.Box n) o.place ≡ b → boxes_at t ds ≡ (if b || is_in n (boxes_at t bs) then [] else boxes_at t bs)
          on None own out true f = none_some t (own.there t o e (sym (same_place-equal (Place.Box n) o.place f)))
          on None own out false f = out t ∙ left t
          on (Some token) own out true f =
              let is : token ≡ t = the token t (own.there t o e (sym (same_place-equal (Place.Box n) o.place f))) in
              let here : (t == token) ≡ true = grind (arith, nat_tests) in
              out t ∙ (λ i. if here i then [] else boxes_at t cs)
          on (Some token) own out false f = out t ∙ (λ i. if differs (t == token) refl i then [] else boxes_at t cs) ∙ left t
            where
              differs : (b : Bool) → (t == token) ≡ b → (t == token) ≡ false
              differs false g = g
              differs true g =
                  let k = own.back token refl in
                  let is : t ≡ token = grind (arith, nat_tests) in
                  let place : o.place ≡ Place.Box n = one_place o k.0 (sym e ∙ ap (λ (s : ℕ). lookup (eqb s) os) is ∙ k.1) ∙ k.2 in
                  not_both (same_place (Place.Box n) o.place) (ap (same_place (Place.Box n)) place ∙ same_box n) f

      all : (fs : Places) → AllFound (λ t. lookup (eqb t) os) fs → openings ds fs ≡ after_one n (openings bs fs)
      all [] a = refl
      all (f ∷ fs) a = λ i. (f.0, opening (one f.0 f.1 a.0 i) f.1) ∷ all fs a.1 i

-- boxes leave one after another
module _ (ns : List Name) (old : Openings) where
  pub left_next : (i : ℕ) (d : Name) (now new : Openings) → i < length ns → after_leave (drop i ns) now ≡ after_leave ns old → new ≡ after_one (get_or ns i d) now → after_leave (drop (i + 1) ns) new ≡ after_leave ns old
  left_next i d now new h l e = ap (after_leave (drop (i + 1) ns)) e ∙ sym (at_drop_more (λ ms. after_leave ms now) ns i d h) ∙ l

  pub left_all : (i : ℕ) (now : Openings) → length ns ≤ i → after_leave (drop i ns) now ≡ after_leave ns old → now ≡ after_leave ns old
  left_all i now h l = ap (λ ms. after_leave ms now) (sym (drop_of_length-le ns h)) ∙ l

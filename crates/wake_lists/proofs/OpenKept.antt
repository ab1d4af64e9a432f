-- Open places, when one is opened, becomes urgent or is closed.
use Rattle.std.proofs.Common.{◌≡◌, ℕ, ◌<◌, Bool, true, false, List, [], Option, Some, None, refl, sym, ap, ◌∙◌, arith}
use Rattle.std.proofs.lemmas.Bool.Decides.{nat_tests}
use Rattle.std.specs.Prelude.{if◌then◌else◌, ◌==◌, option_map, is_some, IsSome}
use Rattle.std.specs.Map.{lookup, keys_of}
use Rattle.std.specs.Result.{OnOk, IfOk}
use Rattle.std.specs.declared.result.Result.{Result}
use Rattle.std.specs.declared.result.Result.TheVariants.{Ok, Err}
use Rattle.std.specs.BTreeMap.{insert_entry}
use Rattle.std.specs.List.Sorted.{IsStrictlySortedBy}
use Rattle.std.specs.Ordering.{nat_cmp}
use Rattle.akl_terms.specs.declared.name.Name.{Name}
use Rattle.akl_terms.specs.declared.name.Place.{Place}
use Rattle.wake_lists.specs.declared.turn.Urgency.{Urgency}
use Rattle.wake_lists.specs.declared.turn.Turn.{Turn}
use Rattle.wake_lists.specs.declared.turn.Opened.{Opened}
use Rattle.wake_lists.specs.Waits.{same_place}
use Rattle.wake_lists.specs.Tokens.{Numbers, IsLeastFree}
use Rattle.wake_lists.specs.Standing.{boxes_at}
use Rattle.wake_lists.specs.Queue.{is_sooner, Places, HasNone, is_place, GetsLast}
use Rattle.wake_lists.specs.Slots.{IsTakenOut}
use Rattle.wake_lists.specs.Open.{Opening, Openings, opening_at, untimed, IsOpen, IsLast, IsLeastToken, IsOpened, IsHurried, IsPutLast, closed}
use Rattle.wake_lists.specs.Opened.{opening, openings, AreOpen}
use Rattle.wake_lists.proofs.Keys.{timed, token_here}
use Rattle.wake_lists.proofs.Both.{same_place-equal}
use Rattle.wake_lists.proofs.Leading.{none_some}
use Rattle.wake_lists.proofs.OpeningsKept.{Boxes, opened, not_opened, kept_as, openings_apart, openings_put, openings_out, untimed_put}
use lib.Dec.{eqb}

pub if_ok : {T E P Q : Type 0} (r : Result T E) → OnOk r P → (P → Q) → IfOk r (λ x. Q)
if_ok (Ok x) p f = f p
if_ok (Err e) p f = p

-- no place is open
pub none_open : AreOpen [] [] (record { bound = 0; free = [] })
unfolding IsStrictlySortedBy
none_open = record { taken = λ t. grind (arith, nat_tests); closed = λ t e. refl; ordered = tt }

abbrev urgency_in : Opening → Urgency
urgency_in o = o.turn.urgency

-- a place that is less urgent than this is put behind all others that are so urgent
pub hurried : (os : Openings) (t : ℕ) (urgency now : Urgency) → option_map urgency_in (opening_at t os) ≡ Some now → is_sooner urgency now ≡ true → (after : Openings) → IsPutLast os after urgency t → IsHurried os after urgency t
hurried os t urgency now is e after last = on (opening_at t os) refl
  where
    one : (a b : Urgency) → Some a ≡ Some b → a ≡ b
    one a b f = cc

    on : (w : Option Opening) → opening_at t os ≡ w → IsHurried os after urgency t
    on None f = none_some now (sym (ap (option_map urgency_in) f) ∙ is)
    on (Some o) f = IsHurried.hurries o f (ap (is_sooner urgency) (one o.turn.urgency now (sym (ap (option_map urgency_in) f) ∙ is)) ∙ e) last

-- no place is open under a token
pub none_urgent : (os : Openings) (t : ℕ) → opening_at t os ≡ None → IsHurried os os Urgency.Urgent t
none_urgent os t e = IsHurried.stays (λ o f. none_some o (sym e ∙ f)) refl

module _ (os : Places) (bs : Boxes) where
  -- a place that isn't open has no token
  pub is_closed : (place : Place) → IsOpen (openings bs os) place None → HasNone (is_place place) os
  is_closed place known t o e = on (same_place place o.place) refl
    where
      on : (b : Bool) → same_place place o.place ≡ b → b ≡ false
      on false f = refl
      on true f = none_some t (known.there t (opening (boxes_at t bs) o) (opened bs os t o e) (sym (same_place-equal place o.place f)))

  -- a place is closed
  pub is_out : (t : ℕ) (new : Places) → IsTakenOut os new t → (cs : Boxes) → ((s : ℕ) → boxes_at s cs ≡ (if s == t then [] else boxes_at s bs)) → openings cs new ≡ closed t (openings bs os)
  is_out t new out cs left = openings_apart bs cs t [] new gone left ∙ ap (openings bs) out.entries ∙ openings_out bs os t
    where
      gone : lookup (eqb t) new ≡ None
      gone = out.finds t ∙ (λ i. if token_here t i then None else lookup (eqb t) os)

module _ (os : Places) (bs : Boxes) where
  -- a turn with a number above those of all comes after all others as urgent
  comes_last : (u : Turn) → ((t : ℕ) (o : Opened) → lookup (eqb t) os ≡ Some o → o.turn.number < u.number) → IsLast (openings bs os) u
  comes_last u above s q f =
      let k = kept_as bs os s q f in
      let below : k.0.turn.number < u.number = above s k.0 k.1 in
      let same : q.turn.number ≡ k.0.turn.number = ap (λ (o : Opening). o.turn.number) k.2 in
      omega arith

  -- an open place gets it
  pub is_put_last : (t : ℕ) (o : Opened) → lookup (eqb t) os ≡ Some o → (urgency : Urgency) (new : Places) → GetsLast os new t o.place urgency → IsPutLast (openings bs os) (openings bs new) urgency t
  is_put_last t o is urgency new g =
      let u = timed urgency g.number in
      IsPutLast.put (opening (boxes_at t bs) o) u (opened bs os t o is) refl (comes_last u g.above) (ap (openings bs) g.put.entries ∙ openings_put bs os t (record o { turn = u }))

  pub put_untimed : IsStrictlySortedBy nat_cmp (keys_of os) → (t : ℕ) (o : Opened) → lookup (eqb t) os ≡ Some o → (urgency : Urgency) (new : Places) → GetsLast os new t o.place urgency → untimed (openings bs new) ≡ untimed (openings bs os)
  put_untimed ordered t o is urgency new g = ap (λ (qs : Places). untimed (openings bs qs)) g.put.entries ∙ untimed_put bs t o (timed urgency g.number) os ordered is

  -- one that isn't urgent becomes so
  pub made_urgent : (t : ℕ) (o : Opened) → lookup (eqb t) os ≡ Some o → is_sooner Urgency.Urgent o.turn.urgency ≡ true → (new : Places) → GetsLast os new t o.place Urgency.Urgent → IsHurried (openings bs os) (openings bs new) Urgency.Urgent t
  made_urgent t o is calm new g = IsHurried.hurries (opening (boxes_at t bs) o) (opened bs os t o is) calm (is_put_last t o is Urgency.Urgent new g)

  -- and one that is stays
  pub was_urgent : (t : ℕ) (o : Opened) → lookup (eqb t) os ≡ Some o → is_sooner Urgency.Urgent o.turn.urgency ≡ false → IsHurried (openings bs os) (openings bs os) Urgency.Urgent t
  was_urgent t o is calm = IsHurried.stays (λ q f. ap (λ (w : Option Urgency). sooner_than w) (ap (option_map urgency_in) (sym f ∙ opened bs os t o is)) ∙ calm) refl
    where
      sooner_than : Option Urgency → Bool
      sooner_than None = false
      sooner_than (Some u) = is_sooner Urgency.Urgent u

module _ (os : Places) (bs : Boxes) (numbers : Numbers) (a : AreOpen os bs numbers) where
  -- the least free number is that of no open place
  module _ (t : ℕ) (least : IsLeastFree numbers t) where
    is_free : lookup (eqb t) os ≡ None
    is_free = on (lookup (eqb t) os) refl
      where
        on : (w : Option Opened) → lookup (eqb t) os ≡ w → w ≡ None
        on None e = refl
        on (Some o) e = let no : true ≡ false = sym (a.taken t ∙ ap is_some e) ∙ least.free in absurd (cc)

    is_least : IsLeastToken (openings bs os) t
    is_least = record {
      free = not_opened bs os t is_free;
      least = λ s below. some s (lookup (eqb s) os) refl (sym (a.taken s) ∙ least.least s below);
    }
      where
        some : (s : ℕ) (w : Option Opened) → lookup (eqb s) os ≡ w → is_some (lookup (eqb s) os) ≡ true → IsSome (opening_at s (openings bs os))
        some s None e f = let no : false ≡ true = sym (ap is_some e) ∙ f in absurd (cc)
        some s (Some o) e f = ap is_some (opened bs os s o e)

    -- a place is opened under it
    pub is_opened : (place : Place) (around : List Name) (urgency : Urgency) (new : Places) → GetsLast os new t place urgency
        → (cs : Boxes) → ((s : ℕ) → boxes_at s cs ≡ (if s == t then around else boxes_at s bs)) → IsOpen (openings bs os) place None → IsOpened (openings bs os) (openings cs new) place around urgency t
    is_opened place around urgency new g cs entered known = IsOpened.is_new u known is_least refl (comes_last os bs u g.above)
        (ap (openings cs) g.put.entries ∙ openings_put cs os t (record { place = place; turn = u })
        ∙ (λ i. insert_entry nat_cmp (openings_apart bs cs t around os is_free entered i) t (record { place = place; turn = u; boxes = its i })))
      where
        u : Turn
        u = timed urgency g.number

        same : (t == t) ≡ true
        same = grind (arith, nat_tests)

        its : boxes_at t cs ≡ around
        its = entered t ∙ (λ i. if same i then around else boxes_at t bs)

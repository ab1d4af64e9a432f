-- That lines of tokens are kept as they are to be, when a place comes, goes or gets another turn.
use Rattle.std.proofs.Common.{◌≡◌, ℕ, ◌+◌, ◌<◌, Bool, true, false, List, [], ◌∷◌, ◌++◌, Option, Some, None, refl, sym, ap, ◌∙◌, subst, arith}
use Rattle.std.specs.Prelude.{if◌then◌else◌}
use Rattle.std.specs.Map.{lookup}
use Rattle.std.specs.Result.{OnErr, is_err}
use Rattle.std.specs.declared.result.Result.{Result}
use Rattle.std.specs.declared.result.Result.TheVariants.{Ok, Err}
use Rattle.akl_terms.specs.declared.name.Place.{Place}
use Rattle.wake_lists.specs.declared.turn.Urgency.{Urgency}
use Rattle.wake_lists.specs.declared.turn.Turn.{Turn}
use Rattle.wake_lists.specs.declared.turn.Opened.{Opened}
use Rattle.wake_lists.specs.declared.line.Entry.{Entry}
use Rattle.wake_lists.specs.Queue.{Places, same_urgency, same_turn, GetsLast}
use Rattle.wake_lists.specs.Slots.{Finds, IsPut}
use Rattle.wake_lists.specs.Lines.{LineEntries, stands_at, IsRising, has_turn, is_current, HasCurrentFront, IsThinned, line_of, with_line, joined, IsThinnedAt, AreLined}
use Rattle.wake_lists.proofs.Keys.{token_equal, turn_equal, turn_here, timed}
use Rattle.wake_lists.proofs.Leading.{none_some, same_some, not_both, at_it, elsewhere}
use Rattle.wake_lists.proofs.Thinning.{rising_higher, rising_more, within, stands_before, stands_last, thinned_same}
use lib.Dec.{eqb}

abbrev at_number : ℕ → ℕ → Entry
at_number n t = record { number = n; token = t }

-- what a call says where it failed
pub on_err_so : {T E P : Type 0} (r : Result T E) → OnErr r P → is_err r ≡ true → P
on_err_so (Ok x) p e = absurd (cc)
on_err_so (Err y) p e = p

pub urgency_equal : (u v : Urgency) → same_urgency u v ≡ true → u ≡ v
urgency_equal Urgency.Urgent Urgency.Urgent e = refl
urgency_equal Urgency.Ordinary Urgency.Ordinary e = refl
urgency_equal Urgency.Late Urgency.Late e = refl
urgency_equal u v e = absurd (cc)

urgency_here : (u : Urgency) → same_urgency u u ≡ true
urgency_here Urgency.Urgent = refl
urgency_here Urgency.Ordinary = refl
urgency_here Urgency.Late = refl

with_is : (u v : Urgency) (es : List Entry) (l : LineEntries) → line_of v (with_line u es l) ≡ (if same_urgency u v then es else line_of v l)
with_is Urgency.Urgent Urgency.Urgent es l = refl
with_is Urgency.Ordinary Urgency.Ordinary es l = refl
with_is Urgency.Late Urgency.Late es l = refl
with_is u v es l = refl

with_next : (u : Urgency) (es : List Entry) (l : LineEntries) → (with_line u es l).next ≡ l.next
with_next Urgency.Urgent es l = refl
with_next Urgency.Ordinary es l = refl
with_next Urgency.Late es l = refl

joined_is : (u v : Urgency) (t : ℕ) (l : LineEntries) → line_of v (joined u t l) ≡ (if same_urgency u v then line_of v l ++ at_number l.next t ∷ [] else line_of v l)
joined_is Urgency.Urgent Urgency.Urgent t l = refl
joined_is Urgency.Ordinary Urgency.Ordinary t l = refl
joined_is Urgency.Late Urgency.Late t l = refl
joined_is u v t l = refl

-- what a place has is current
has_current : (os : Places) (t : ℕ) (o : Opened) → lookup (eqb t) os ≡ Some o → is_current os o.turn.urgency (at_number o.turn.number t) ≡ true
has_current os t o e = ap (has_turn o.turn) e ∙ turn_here o.turn

-- a current entry is that of an open place
pub current_is : (os : Places) (u : Urgency) (e : Entry) → is_current os u e ≡ true → (o : Opened) × (lookup (eqb e.token) os ≡ Some o) × (o.turn ≡ timed u e.number)
current_is os u e h = on (lookup (eqb e.token) os) refl h
  where
    on : (w : Option Opened) → lookup (eqb e.token) os ≡ w → has_turn (timed u e.number) w ≡ true → (o : Opened) × (lookup (eqb e.token) os ≡ Some o) × (o.turn ≡ timed u e.number)
    on None f h = absurd (cc)
    on (Some o) f h = (o, f, turn_equal o.turn (timed u e.number) h)

abbrev Stand : Places → LineEntries → Type 0
Stand os l = (t : ℕ) (o : Opened) → lookup (eqb t) os ≡ Some o → stands_at (line_of o.turn.urgency l) o.turn.number t ≡ true

abbrev Rise : LineEntries → Type 0
Rise l = (u : Urgency) → IsRising 0 (line_of u l) l.next

-- the line of one urgency was thinned, and those of the others had current fronts
module _ (os : Places) (w : Urgency) (old new : LineEntries) (h : IsThinnedAt os w old new) where
  thinned_is : (v : Urgency) → line_of v new ≡ (if same_urgency w v then line_of w new else line_of v old)
  thinned_is v = ap (line_of v) h.others ∙ with_is w v (line_of w new) old

  thinned : (v : Urgency) → IsThinned (is_current os v) (line_of v old) (line_of v new)
  thinned v = on (same_urgency w v) refl
    where
      on : (b : Bool) → same_urgency w v ≡ b → IsThinned (is_current os v) (line_of v old) (line_of v new)
      on true e = subst (λ (u : Urgency). IsThinned (is_current os u) (line_of u old) (line_of u new)) (urgency_equal w v e) h.thinned
      on false e = subst (λ (es : List Entry). IsThinned (is_current os v) (line_of v old) es) (sym (thinned_is v ∙ (λ i. if e i then line_of w new else line_of v old))) (thinned_same (is_current os v) (line_of v old))

  pub lined : Stand os old → Rise old → ((v : Urgency) → same_urgency w v ≡ false → HasCurrentFront (is_current os v) (line_of v old)) → AreLined os new
  lined there rising fronts = record {
    there = λ t o e. (thinned o.turn.urgency).kept o.turn.number t (has_current os t o e) (there t o e);
    rising = λ v. subst (IsRising 0 (line_of v new)) (sym (ap (λ (l : LineEntries). l.next) h.others ∙ with_next w (line_of w new) old)) ((thinned v).rising 0 old.next (rising v));
    fronts = λ v. on v (same_urgency w v) refl;
  }
    where
      on : (v : Urgency) (b : Bool) → same_urgency w v ≡ b → HasCurrentFront (is_current os v) (line_of v new)
      on v true e = subst (λ (u : Urgency). HasCurrentFront (is_current os u) (line_of u new)) (urgency_equal w v e) h.front
      on v false e = subst (HasCurrentFront (is_current os v)) (sym (thinned_is v ∙ (λ i. if e i then line_of w new else line_of v old))) (fronts v e)

-- what is found at other tokens stays
module _ (os os2 : Places) (t : ℕ) (w : Option Opened) (h : Finds os os2 t w) where
  still_current : (v : Urgency) (e : Entry) → (e.token ≡ t → ⊥) → is_current os v e ≡ true → is_current os2 v e ≡ true
  still_current v e other c = ap (has_turn (timed v e.number)) (elsewhere (λ s. lookup (eqb s) os) t w (λ s. lookup (eqb s) os2) h e.token (apart (eqb t e.token) refl)) ∙ c
    where
      apart : (b : Bool) → eqb t e.token ≡ b → b ≡ false
      apart false f = refl
      apart true f = absurd (other (sym (token_equal t e.token f)))

  still_front : (v : Urgency) (es : List Entry) → ((e : Entry) → is_current os v e ≡ true → e.token ≡ t → ⊥) → HasCurrentFront (is_current os v) es → HasCurrentFront (is_current os2 v) es
  still_front v [] other f = tt
  still_front v (e ∷ es) other f = still_current v e (other e f) f

-- a place of another urgency isn't at the front
another : (os : Places) (t : ℕ) (o : Opened) → lookup (eqb t) os ≡ Some o → (v : Urgency) → same_urgency o.turn.urgency v ≡ false → (e : Entry) → is_current os v e ≡ true → e.token ≡ t → ⊥
another os t o is v differs e c same =
    let k = current_is os v e c in
    let one : o ≡ k.0 = same_some o k.0 (sym is ∙ ap (λ (s : ℕ). lookup (eqb s) os) (sym same) ∙ k.1) in
    not_both (same_urgency o.turn.urgency v) (ap (λ (p : Turn). same_urgency p.urgency v) (ap (λ (p : Opened). p.turn) one ∙ k.2) ∙ urgency_here v) differs

module _ (os : Places) (l : LineEntries) (a : AreLined os l) where
  -- a place goes
  pub lined_fewer : (t : ℕ) (o : Opened) → lookup (eqb t) os ≡ Some o → (os2 : Places) → Finds os os2 t None → (l2 : LineEntries) → IsThinnedAt os2 o.turn.urgency l l2 → AreLined os2 l2
  lined_fewer t o is os2 h l2 thin = lined os2 o.turn.urgency l l2 thin there a.rising (λ v e. still_front os os2 t None h v (line_of v l) (another os t o is v e) (a.fronts v))
    where
      there : Stand os2 l
      there s q f = on (eqb t s) refl
        where
          on : (b : Bool) → eqb t s ≡ b → stands_at (line_of q.turn.urgency l) q.turn.number s ≡ true
          on true e = none_some q (sym (h s ∙ (λ i. if e i then None else lookup (eqb s) os)) ∙ f)
          on false e = a.there s q (sym (h s ∙ (λ i. if e i then None else lookup (eqb s) os)) ∙ f)

  -- a token comes into a line
  module _ (u : Urgency) (t : ℕ) where
    joined_stands : (v : Urgency) (n s : ℕ) → stands_at (line_of v l) n s ≡ true → stands_at (line_of v (joined u t l)) n s ≡ true
    joined_stands v n s h = ap (λ (es : List Entry). stands_at es n s) (joined_is u v t l) ∙ on (same_urgency u v)
      where
        on : (b : Bool) → stands_at (if b then line_of v l ++ at_number l.next t ∷ [] else line_of v l) n s ≡ true
        on true = stands_before (line_of v l) (at_number l.next t ∷ []) n s h
        on false = h

    joined_rises : Rise (joined u t l)
    joined_rises v = subst (λ (es : List Entry). IsRising 0 es (l.next + 1)) (sym (joined_is u v t l)) (on (same_urgency u v))
      where
        on : (b : Bool) → IsRising 0 (if b then line_of v l ++ at_number l.next t ∷ [] else line_of v l) (l.next + 1)
        on true = rising_more 0 (line_of v l) l.next (at_number l.next t) refl (a.rising v)
        on false = rising_higher 0 (line_of v l) l.next (l.next + 1) (omega arith) (a.rising v)

    -- and leaves it, since no place has it
    pub lined_back : (l2 : LineEntries) → IsThinnedAt os u (joined u t l) l2 → AreLined os l2
    lined_back l2 thin = lined os u (joined u t l) l2 thin (λ s q f. joined_stands q.turn.urgency q.turn.number s (a.there s q f)) joined_rises
        (λ v e. subst (HasCurrentFront (is_current os v)) (sym (joined_is u v t l ∙ (λ i. if e i then line_of v l ++ at_number l.next t ∷ [] else line_of v l))) (a.fronts v))

    -- a place has the turn for which it came
    module _ (o : Opened) (turn : o.turn ≡ timed u l.next) (os2 : Places) (h : Finds os os2 t (Some o)) where
      found : lookup (eqb t) os2 ≡ Some o
      found = at_it (λ s. lookup (eqb s) os) t (Some o) (λ s. lookup (eqb s) os2) h

      put_stands : Stand os2 (joined u t l)
      put_stands s q f = on (eqb t s) refl
        where
          last : stands_at (line_of u (joined u t l)) l.next t ≡ true
          last = ap (λ (es : List Entry). stands_at es l.next t) (joined_is u u t l ∙ (λ i. if urgency_here u i then line_of u l ++ at_number l.next t ∷ [] else line_of u l)) ∙ stands_last (line_of u l) l.next t

          on : (b : Bool) → eqb t s ≡ b → stands_at (line_of q.turn.urgency (joined u t l)) q.turn.number s ≡ true
          on true e =
              let same : t ≡ s = token_equal t s e in
              let its : q.turn ≡ timed u l.next = ap (λ (p : Opened). p.turn) (same_some q o (sym f ∙ ap (λ (r : ℕ). lookup (eqb r) os2) (sym same) ∙ found)) ∙ turn in
              (λ i. stands_at (line_of (its i).urgency (joined u t l)) (its i).number (sym same i)) ∙ last
          on false e = joined_stands q.turn.urgency q.turn.number s (a.there s q (sym (h s ∙ (λ i. if e i then Some o else lookup (eqb s) os)) ∙ f))

      put_front : (v : Urgency) → ((e : Entry) → is_current os v e ≡ true → e.token ≡ t → ⊥) → HasCurrentFront (is_current os2 v) (line_of v (joined u t l))
      put_front v other = subst (HasCurrentFront (is_current os2 v)) (sym (joined_is u v t l)) (on (same_urgency u v) refl)
        where
          before : HasCurrentFront (is_current os2 v) (line_of v l)
          before = still_front os os2 t (Some o) h v (line_of v l) other (a.fronts v)

          here : same_urgency u v ≡ true → is_current os2 v (at_number l.next t) ≡ true
          here e = ap (has_turn (timed v l.next)) found ∙ ap (λ (p : Turn). same_turn p (timed v l.next)) (turn ∙ ap (λ (r : Urgency). timed r l.next) (urgency_equal u v e)) ∙ turn_here (timed v l.next)

          more : (es : List Entry) → HasCurrentFront (is_current os2 v) es → is_current os2 v (at_number l.next t) ≡ true → HasCurrentFront (is_current os2 v) (es ++ at_number l.next t ∷ [])
          more [] f c = c
          more (e ∷ es) f c = f

          on : (b : Bool) → same_urgency u v ≡ b → HasCurrentFront (is_current os2 v) (if b then line_of v l ++ at_number l.next t ∷ [] else line_of v l)
          on true e = more (line_of v l) before (here e)
          on false e = before

      -- one that had none
      pub lined_more : lookup (eqb t) os ≡ None → AreLined os2 (joined u t l)
      lined_more free = record { there = put_stands; rising = joined_rises; fronts = λ v. put_front v (none v) }
        where
          none : (v : Urgency) (e : Entry) → is_current os v e ≡ true → e.token ≡ t → ⊥
          none v e c same = let k = current_is os v e c in none_some k.0 (sym free ∙ ap (λ (s : ℕ). lookup (eqb s) os) (sym same) ∙ k.1)

      -- one that had another
      pub lined_moved : (p : Opened) → lookup (eqb t) os ≡ Some p → (l2 : LineEntries) → IsThinnedAt os2 p.turn.urgency (joined u t l) l2 → AreLined os2 l2
      lined_moved p is l2 thin = lined os2 p.turn.urgency (joined u t l) l2 thin put_stands joined_rises (λ v e. put_front v (another os t p is v e))

  -- the next number is above those of all turns
  next_above : (t : ℕ) (o : Opened) → lookup (eqb t) os ≡ Some o → o.turn.number < l.next
  next_above t o e = (within 0 (line_of o.turn.urgency l) l.next o.turn.number t (a.rising o.turn.urgency) (a.there t o e)).1

  pub gets_last : (t : ℕ) (place : Place) (u : Urgency) (turn : Turn) → turn ≡ timed u l.next → (os2 : Places) → IsPut os os2 t (record { place = place; turn = turn }) → GetsLast os os2 t place u
  gets_last t place u turn e os2 put = record { number = l.next; above = next_above; put = subst (λ (v : Turn). IsPut os os2 t (record { place = place; turn = v })) e put }

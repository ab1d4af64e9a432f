-- The place that comes first is that at the front of the first line that isn't empty.
use Rattle.std.proofs.Common.{◌≡◌, ℕ, ◌+◌, ◌<◌, Bool, true, false, List, [], ◌∷◌, Some, refl, sym, ap, ◌∙◌, subst, arith, ◌⊎◌, inl, inr}
use Rattle.std.proofs.lemmas.Bool.Decides.{nat_tests}
use Rattle.std.specs.Prelude.{◌||◌, ◌&&◌, if◌then◌else◌, nat_lt}
use Rattle.std.specs.Map.{lookup}
use Rattle.wake_lists.specs.declared.turn.Urgency.{Urgency}
use Rattle.wake_lists.specs.declared.turn.Turn.{Turn}
use Rattle.wake_lists.specs.declared.turn.Opened.{Opened}
use Rattle.wake_lists.specs.declared.line.Entry.{Entry}
use Rattle.wake_lists.specs.Queue.{is_sooner, same_urgency, earlier, is_earlier, Places, IsNext}
use Rattle.wake_lists.specs.Lines.{LineEntries, is_entry, stands_at, IsRising, is_current, HasCurrentFront, front_of, line_of, or_else, first_of, AreLined}
use Rattle.wake_lists.proofs.Keys.{timed, token_here}
use Rattle.wake_lists.proofs.Thinning.{entry_is, within}
use Rattle.wake_lists.proofs.LinesKept.{urgency_equal, current_is}
use lib.Dec.{eqb}

-- of two urgencies one is sooner, or they are the same
later : (a b : Urgency) → is_sooner b a ≡ false → same_urgency a b ≡ false → is_sooner a b ≡ true
later a b s e = grind (arith, nat_tests)

earlier_sooner : (a b : Urgency) (m n : ℕ) → is_sooner a b ≡ true → earlier a m b n ≡ true
earlier_sooner a b m n e = λ i. e i || (same_urgency a b && nat_lt m n)

earlier_lower : (a b : Urgency) (m n : ℕ) → same_urgency a b ≡ true → m < n → earlier a m b n ≡ true
earlier_lower a b m n e h = (λ i. is_sooner a b || (e i && lower i)) ∙ either (is_sooner a b)
  where
    lower : nat_lt m n ≡ true
    lower = grind (arith, nat_tests)

    either : (b : Bool) → (b || true) ≡ true
    either true = refl
    either false = refl

none_open : (os : Places) → ((t : ℕ) (o : Opened) → lookup (eqb t) os ≡ Some o → ⊥) → os ≡ []
none_open [] h = refl
none_open (e ∷ es) h = absurd (h e.0 e.1 (λ i. if token_here e.0 i then Some e.1 else lookup (eqb e.0) es))

module _ (os : Places) (l : LineEntries) (a : AreLined os l) where
  -- in an empty line no token stands
  not_in_empty : {X : Type 0} (u : Urgency) → line_of u l ≡ [] → (t : ℕ) (o : Opened) → lookup (eqb t) os ≡ Some o → o.turn.urgency ≡ u → X
  not_in_empty u empty t o e is =
      let no : false ≡ true = sym (ap (λ (es : List Entry). stands_at es o.turn.number t) (ap (λ (v : Urgency). line_of v l) is ∙ empty)) ∙ a.there t o e in
      absurd (cc)

  module _ (u : Urgency) (e : Entry) (es : List Entry) (is : line_of u l ≡ e ∷ es) (sooner : (v : Urgency) → is_sooner v u ≡ true → line_of v l ≡ []) where
    front : (o : Opened) × (lookup (eqb e.token) os ≡ Some o) × (o.turn ≡ timed u e.number)
    front = current_is os u e (subst (HasCurrentFront (is_current os u)) is (a.fronts u))

    others : (s : ℕ) (q : Opened) → lookup (eqb s) os ≡ Some q → (s ≡ e.token) ⊎ (earlier u e.number q.turn.urgency q.turn.number ≡ true)
    others s q f = on (is_sooner q.turn.urgency u) refl (same_urgency u q.turn.urgency) refl
      where
        behind : (b : Bool) → is_entry q.turn.number s e ≡ b → (b || stands_at es q.turn.number s) ≡ true → same_urgency u q.turn.urgency ≡ true → (s ≡ e.token) ⊎ (earlier u e.number q.turn.urgency q.turn.number ≡ true)
        behind true g h c = inl (entry_is q.turn.number s e g).1
        behind false g h c =
            let above = (within (e.number + 1) es l.next q.turn.number s (subst (λ (ds : List Entry). IsRising 0 ds l.next) is (a.rising u)).1 h).0 in
            inr (earlier_lower u q.turn.urgency e.number q.turn.number c (omega arith))

        on : (b : Bool) → is_sooner q.turn.urgency u ≡ b → (c : Bool) → same_urgency u q.turn.urgency ≡ c → (s ≡ e.token) ⊎ (earlier u e.number q.turn.urgency q.turn.number ≡ true)
        on true g c h = not_in_empty q.turn.urgency (sooner q.turn.urgency g) s q f refl
        on false g true h = behind (is_entry q.turn.number s e) refl
            (sym (ap (λ (ds : List Entry). stands_at ds q.turn.number s) (ap (λ (v : Urgency). line_of v l) (sym (urgency_equal u q.turn.urgency h)) ∙ is)) ∙ a.there s q f) h
        on false g false h = inr (earlier_sooner u q.turn.urgency e.number q.turn.number (later u q.turn.urgency g h))

    front_next : IsNext os (Some e.token)
    front_next = (front.0, front.1, λ s q f. on s q (others s q f))
      where
        on : (s : ℕ) (q : Opened) → (s ≡ e.token) ⊎ (earlier u e.number q.turn.urgency q.turn.number ≡ true) → (s ≡ e.token) ⊎ (is_earlier front.0.turn q.turn ≡ true)
        on s q (inl g) = inl g
        on s q (inr g) = inr (ap (λ (t : Turn). is_earlier t q.turn) front.2 ∙ g)

  pub first_next : IsNext os (first_of l)
  first_next = by l.urgent refl l.ordinary refl l.late refl
    where
      by : (x : List Entry) → l.urgent ≡ x → (y : List Entry) → l.ordinary ≡ y → (z : List Entry) → l.late ≡ z → IsNext os (or_else (front_of x) (or_else (front_of y) (front_of z)))
      by (e ∷ es) p y q z r = front_next Urgency.Urgent e es p sooner
        where
          sooner : (v : Urgency) → is_sooner v Urgency.Urgent ≡ true → line_of v l ≡ []
          sooner Urgency.Urgent f = absurd (cc)
          sooner Urgency.Ordinary f = absurd (cc)
          sooner Urgency.Late f = absurd (cc)
      by [] p (e ∷ es) q z r = front_next Urgency.Ordinary e es q sooner
        where
          sooner : (v : Urgency) → is_sooner v Urgency.Ordinary ≡ true → line_of v l ≡ []
          sooner Urgency.Urgent f = p
          sooner v f = absurd (cc)
      by [] p [] q (e ∷ es) r = front_next Urgency.Late e es r sooner
        where
          sooner : (v : Urgency) → is_sooner v Urgency.Late ≡ true → line_of v l ≡ []
          sooner Urgency.Urgent f = p
          sooner Urgency.Ordinary f = q
          sooner v f = absurd (cc)
      by [] p [] q [] r = none_open os (λ t o e. none t o e o.turn.urgency refl)
        where
          none : (t : ℕ) (o : Opened) → lookup (eqb t) os ≡ Some o → (u : Urgency) → o.turn.urgency ≡ u → ⊥
          none t o e Urgency.Urgent f = not_in_empty Urgency.Urgent p t o e f
          none t o e Urgency.Ordinary f = not_in_empty Urgency.Ordinary q t o e f
          none t o e Urgency.Late f = not_in_empty Urgency.Late r t o e f

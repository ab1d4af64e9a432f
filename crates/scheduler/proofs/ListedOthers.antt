-- Lists of places that grow.
use Rattle.std.proofs.Common.{◌≡◌, ℕ, ◌+◌, ◌<◌, get_or, take, Bool, true, false, List, [], ◌∷◌, ◌++◌, length, refl, sym, ap, ◌∙◌, append-nil, append_assoc, ◌⊎◌, inl, inr}
use Rattle.opened_places.proofs.Members.{one_left, one_right, one_either}
use Rattle.std.proofs.lemmas.List.{take_more}
use Rattle.std.specs.Prelude.{if◌then◌else◌, not, ◌||◌}
use Rattle.std.specs.Result.{IfOk, OnOk}
use Rattle.std.specs.declared.result.Result.{Result}
use Rattle.std.specs.declared.result.Result.TheVariants.{Ok, Err}
use Rattle.akl_terms.specs.declared.name.Name.{Name}
use Rattle.akl_terms.specs.declared.name.Var.{Var}
use Rattle.akl_terms.specs.declared.name.Place.{Place}
use Rattle.akl_terms.specs.Names.{same_name}
use Rattle.akl_terms.proofs.SameNames.{same_name-equal}
use Rattle.akl_model.specs.declared.label.Label.{Label}
use Rattle.akl_model.specs.Config.{IsIn}
use Rattle.akl_model.specs.Wakes.{IsOneOf}
use Rattle.constraint_laws.specs.Touched.{IsAmong}
use Rattle.local_store.specs.Stored.{is_named, all_named}
use Rattle.local_store.proofs.SettledValues.{all-named}
use Rattle.box_tree.specs.declared.step.Step.{Step}
use Rattle.box_tree.specs.Tables.{TableValue}
use Rattle.wake_lists.specs.Waits.{places_at, waits_on}
use Rattle.opened_places.specs.Gone.{AreGone, AreAllGone}
use Rattle.opened_places.specs.Placed.{PlacedValue, places_of}
use Rattle.binding_laws.specs.Bindings.{HasOuter}
use Rattle.scheduler.specs.Dropping.{is_place_in}
use Rattle.scheduler.specs.Once.{AreSameOnce}
use Rattle.scheduler.specs.Listing.{waiting_on, places_but, has_outer}
use Rattle.scheduler.proofs.DroppedWaits.{Waiting, places_end}
use Rattle.scheduler.proofs.CommitFacts.{not_both, or_true, or_left, or_right, place_itself, listed_place, place_listed}

but_end : (gone qs : List Place) (q : Place) → places_but gone (qs ++ q ∷ []) ≡ places_but gone qs ++ (if is_place_in q gone then [] else q ∷ [])
but_end gone [] q = on (is_place_in q gone)
  where
    on : (b : Bool) → (if b then [] else q ∷ []) ≡ (if b then [] else q ∷ [])
    on b = refl
but_end gone (p ∷ ps) q = on (is_place_in p gone) (but_end gone ps q)
  where
    on : (b : Bool) → places_but gone (ps ++ q ∷ []) ≡ places_but gone ps ++ (if is_place_in q gone then [] else q ∷ [])
        → (if b then places_but gone (ps ++ q ∷ []) else p ∷ places_but gone (ps ++ q ∷ [])) ≡ (if b then places_but gone ps else p ∷ places_but gone ps) ++ (if is_place_in q gone then [] else q ∷ [])
    on true r = r
    on false r = ap (λ (l : List Place). p ∷ l) r

next_places : (gone : List Place) (ps : List PlacedValue) (i : ℕ) (d : PlacedValue) → i < length ps
    → places_but gone (places_of (take (i + 1) ps)) ≡ places_but gone (places_of (take i ps)) ++ (if is_place_in (get_or ps i d).place gone then [] else (get_or ps i d).place ∷ [])
next_places gone ps i d h = ap (λ (l : List PlacedValue). places_but gone (places_of l)) (take_more ps i d h) ∙ ap (places_but gone) (places_end (take i ps) (get_or ps i d)) ∙ but_end gone (places_of (take i ps)) (get_or ps i d).place

pub staying_comes : (gone : List Place) (ps : List PlacedValue) (i : ℕ) (d : PlacedValue) (q : Place) (old mid now : List Place) → i < length ps → q ≡ (get_or ps i d).place → is_place_in q gone ≡ false
    → mid ≡ old ++ places_but gone (places_of (take i ps)) → now ≡ mid ++ q ∷ [] → now ≡ old ++ places_but gone (places_of (take (i + 1) ps))
staying_comes gone ps i d q old mid now h e n m k =
    k ∙ ap (λ (l : List Place). l ++ q ∷ []) m ∙ append_assoc old (places_but gone (places_of (take i ps))) (q ∷ [])
    ∙ ap (λ (l : List Place). old ++ (places_but gone (places_of (take i ps)) ++ l)) (sym (ap (λ (b : Bool). if b then [] else q ∷ []) n) ∙ ap (λ (z : Place). if is_place_in z gone then [] else z ∷ []) e)
    ∙ ap (λ (l : List Place). old ++ l) (sym (next_places gone ps i d h))

pub staying_goes : (gone : List Place) (ps : List PlacedValue) (i : ℕ) (d : PlacedValue) (q : Place) (old mid : List Place) → i < length ps → q ≡ (get_or ps i d).place → is_place_in q gone ≡ true
    → mid ≡ old ++ places_but gone (places_of (take i ps)) → mid ≡ old ++ places_but gone (places_of (take (i + 1) ps))
staying_goes gone ps i d q old mid h e n m =
    m ∙ ap (λ (l : List Place). old ++ l) (sym (append-nil (places_but gone (places_of (take i ps))))
    ∙ ap (λ (l : List Place). places_but gone (places_of (take i ps)) ++ l) (sym (ap (λ (b : Bool). if b then [] else q ∷ []) n) ∙ ap (λ (z : Place). if is_place_in z gone then [] else z ∷ []) e)
    ∙ sym (next_places gone ps i d h))

waiting_end : (ws : Waiting) (xs : List Var) (x : Var) → waiting_on ws (xs ++ x ∷ []) ≡ waiting_on ws xs ++ places_at x ws
waiting_end ws [] x = append-nil (places_at x ws)
waiting_end ws (y ∷ ys) x = ap (λ (l : List Place). places_at y ws ++ l) (waiting_end ws ys x) ∙ sym (append_assoc (places_at y ws) (waiting_on ws ys) (places_at x ws))

pub waiting_next : (ws : Waiting) (xs : List Var) (i : ℕ) (d x : Var) (old mid now : List Place) → i < length xs → x ≡ get_or xs i d → mid ≡ old ++ waiting_on ws (take i xs) → now ≡ mid ++ places_at x ws
    → now ≡ old ++ waiting_on ws (take (i + 1) xs)
waiting_next ws xs i d x old mid now h e m k =
    k ∙ ap (λ (l : List Place). l ++ places_at x ws) m ∙ append_assoc old (waiting_on ws (take i xs)) (places_at x ws)
    ∙ ap (λ (l : List Place). old ++ l) (ap (λ (z : Var). waiting_on ws (take i xs) ++ places_at z ws) e ∙ sym (waiting_end ws (take i xs) (get_or xs i d)) ∙ sym (ap (waiting_on ws) (take_more xs i d h)))

-- an iterator yields one more
pub yields_next : (old all mid now left rest : List Place) (p : Place) → mid ++ left ≡ old ++ all → left ≡ p ∷ rest → now ≡ mid ++ p ∷ [] → now ++ rest ≡ old ++ all
yields_next old all mid now left rest p m e k = ap (λ (l : List Place). l ++ rest) k ∙ append_assoc mid (p ∷ []) rest ∙ ap (λ (l : List Place). mid ++ l) (sym e) ∙ m

pub yields_all : (old all mid left : List Place) → mid ++ left ≡ old ++ all → left ≡ [] → mid ≡ old ++ all
yields_all old all mid left m e = sym (append-nil mid) ∙ ap (λ (l : List Place). mid ++ l) (sym e) ∙ m

-- what waits on a listed variable
pub waits_listed : (ws : Waiting) (xs : List Var) (p : Place) (x : Var) → IsAmong x xs → waits_on ws p x ≡ true → IsOneOf p (waiting_on ws xs)
waits_listed ws [] p x i e = absurd i
waits_listed ws (y ∷ ys) p x (inl f) e = one_left p (places_at y ws) (waiting_on ws ys) (listed_place p (places_at y ws) (sym (ap (λ (z : Var). waits_on ws p z) f) ∙ e))
waits_listed ws (y ∷ ys) p x (inr i) e = one_right p (places_at y ws) (waiting_on ws ys) (waits_listed ws ys p x i e)

pub listed_waits : (ws : Waiting) (xs : List Var) (p : Place) → IsOneOf p (waiting_on ws xs) → (x : Var) × IsAmong x xs × (waits_on ws p x ≡ true)
listed_waits ws [] p i = absurd i
listed_waits ws (y ∷ ys) p i = on (one_either p (places_at y ws) (waiting_on ws ys) i) (listed_waits ws ys p)
  where
    on : IsOneOf p (places_at y ws) ⊎ IsOneOf p (waiting_on ws ys) → (IsOneOf p (waiting_on ws ys) → (x : Var) × IsAmong x ys × (waits_on ws p x ≡ true)) → (x : Var) × IsAmong x (y ∷ ys) × (waits_on ws p x ≡ true)
    on (inl j) r = (y, inl refl, place_listed p (places_at y ws) j)
    on (inr j) r = let w : (x : Var) × IsAmong x ys × (waits_on ws p x ≡ true) = r j in (w.0, inr w.1, w.2)

-- what doesn't go
pub stays_listed : (gone ps : List Place) (p : Place) → IsOneOf p ps → (IsOneOf p gone → ⊥) → IsOneOf p (places_but gone ps)
stays_listed gone [] p i n = absurd i
stays_listed gone (q ∷ qs) p i n = on (is_place_in q gone) refl i (λ j. stays_listed gone qs p j n)
  where
    on : (b : Bool) → is_place_in q gone ≡ b → IsOneOf p (q ∷ qs) → (IsOneOf p qs → IsOneOf p (places_but gone qs)) → IsOneOf p (if b then places_but gone qs else q ∷ places_but gone qs)
    on true e (inl f) r = absurd (n (listed_place p gone (ap (λ (z : Place). is_place_in z gone) f ∙ e)))
    on true e (inr j) r = r j
    on false e (inl f) r = inl f
    on false e (inr j) r = inr (r j)

pub listed_stays : (gone ps : List Place) (p : Place) → IsOneOf p (places_but gone ps) → IsOneOf p ps × (IsOneOf p gone → ⊥)
listed_stays gone [] p i = absurd i
listed_stays gone (q ∷ qs) p i = on (is_place_in q gone) refl i (listed_stays gone qs p)
  where
    on : (b : Bool) → is_place_in q gone ≡ b → IsOneOf p (if b then places_but gone qs else q ∷ places_but gone qs) → (IsOneOf p (places_but gone qs) → IsOneOf p qs × (IsOneOf p gone → ⊥)) → IsOneOf p (q ∷ qs) × (IsOneOf p gone → ⊥)
    on true e i r = let w : IsOneOf p qs × (IsOneOf p gone → ⊥) = r i in (inr w.0, w.1)
    on false e (inl f) r = (inl f, λ j. not_both (place_listed p gone j) (ap (λ (z : Place). is_place_in z gone) f ∙ e))
    on false e (inr j) r = let w : IsOneOf p qs × (IsOneOf p gone → ⊥) = r j in (inr w.0, w.1)

-- whether a variable is of none of these frames
named_in : (n : Name) (ns : List Name) → is_named ns n ≡ true → IsIn n ns
named_in n [] e = cc
named_in n (m ∷ ms) e = elim (or_true (same_name m n) (is_named ms n) e) [ inl f ↦ inl (sym (same_name-equal m n f)) | inr f ↦ inr (named_in n ms f) ]

in_named : (n : Name) (ns : List Name) → IsIn n ns → is_named ns n ≡ true
in_named n [] i = absurd i
in_named n (m ∷ ms) (inl e) = or_left (same_name m n) (is_named ms n) (ap (λ (k : Name). same_name k n) (sym e) ∙ place_itself (Place.Box n))
in_named n (m ∷ ms) (inr i) = or_right (same_name m n) (is_named ms n) (in_named n ms i)

true_not : (b : Bool) → not b ≡ true → b ≡ false
true_not true e = cc
true_not false e = refl

false_not : (b : Bool) → (b ≡ true → ⊥) → not b ≡ true
false_not true n = absurd (n refl)
false_not false n = refl

pub outer_so : (xs : List Var) (frames : List Name) → has_outer xs frames ≡ true → HasOuter xs frames
outer_so [] frames e = cc
outer_so (x ∷ xs) frames e = on (or_true (not (is_named frames x.frame)) (has_outer xs frames) e) (outer_so xs frames)
  where
    on : (not (is_named frames x.frame) ≡ true) ⊎ (has_outer xs frames ≡ true) → (has_outer xs frames ≡ true → HasOuter xs frames) → HasOuter (x ∷ xs) frames
    on (inl f) r = record { variable = x; listed = inl refl; outer = λ i. not_both (in_named x.frame frames i) (true_not (is_named frames x.frame) f) }
    on (inr f) r = let w : HasOuter xs frames = r f in record { variable = w.variable; listed = inr w.listed; outer = w.outer }

pub so_outer : (xs : List Var) (frames : List Name) → HasOuter xs frames → has_outer xs frames ≡ true
so_outer xs frames w = on xs w.listed
  where
    on : (ys : List Var) → IsAmong w.variable ys → has_outer ys frames ≡ true
    on [] i = absurd i
    on (y ∷ ys) (inl e) = or_left (not (is_named frames y.frame)) (has_outer ys frames) (ap (λ (z : Var). not (is_named frames z.frame)) (sym e) ∙ false_not (is_named frames w.variable.frame) (λ f. w.outer (named_in w.variable.frame frames f)))
    on (y ∷ ys) (inr i) = or_right (not (is_named frames y.frame)) (has_outer ys frames) (on ys i)

-- a name among those that are added
pub named_added : (ns ms : List Name) (n : Name) → is_named ms n ≡ true → is_named (all_named ns ms) n ≡ true
named_added ns ms n e = all-named ns ms n ∙ or_right (is_named ns n) (is_named ms n) e

-- or one that was there
pub named_before : (ns ms : List Name) (n : Name) → is_named ms n ≡ false → is_named (all_named ns ms) n ≡ is_named ns n
named_before ns ms n e = all-named ns ms n ∙ ap (λ (b : Bool). is_named ns n || b) e ∙ or_false (is_named ns n)
  where
    or_false : (b : Bool) → (b || false) ≡ b
    or_false true = refl
    or_false false = refl

-- no place waits
pub none_waits : (xs : List Var) → waiting_on [] xs ≡ []
none_waits [] = refl
none_waits (x ∷ xs) = none_waits xs

-- the places that go, each once
pub gone_same : (v : TableValue) (l : Label) (step : Step) (places once : List Place) → AreGone v l step places → AreSameOnce places once → AreGone v l step once
gone_same v l step places once g s = λ journal t more d w.
    let x : AreAllGone t.config d places = g journal t more d w in
    record { listed = λ p i. s.all p (x.listed p i); gone = λ p i. x.gone p (s.only p i) }

-- what a call says where it didn't fail
pub if_ok : {T E : Type 0} (r : Result T E) (P Q : T → Type 0) → ((x : T) → P x → Q x) → IfOk r P → IfOk r Q
if_ok (Ok x) P Q f p = f x p
if_ok (Err y) P Q f p = p

pub on_ok : {T E P R : Type 0} (r : Result T E) → (P → R) → OnOk r P → OnOk r R
on_ok (Ok x) f p = f p
on_ok (Err y) f p = p
